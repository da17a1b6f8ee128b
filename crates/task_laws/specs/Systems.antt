-- What a table of tasks means as a system, under a policy and in either kind.
use Rattle.std.specs.Prelude.{ℕ, ◌+◌, ◌*◌, Bool, true, false, cond, not, ◌&&◌, List, [], ◌∷◌, ℤ, pos, negsuc, is_some, Some, None, Ok, Err, Option, Result, ◌==◌, int_lt, nat_le}
use Rattle.task_table.specs.declared.mode.Mode.{Mode}
use Rattle.task_table.specs.declared.mode.Mode.TheVariants.{Low, High}
use Rattle.task_table.specs.declared.task.Task.{Task}
use Rattle.jobs.specs.declared.kind.Kind.{Kind}
use Rattle.jobs.specs.declared.kind.Kind.TheVariants.{Sporadic, Periodic}
use Rattle.jobs.specs.declared.job.Job.{Job}
use Rattle.jobs.specs.declared.job.Job.TheVariants.{Absent, Idle, Ready, Dropped}
use Rattle.job_state.specs.declared.state.State.{State}
use Rattle.jobs.specs.declared.refusal.JobRefusal.{JobRefusal}
use Rattle.jobs.specs.declared.refusal.JobRefusal as job_refusal
use Rattle.jobs.specs.declared.refusal.JobRefusal.TheVariants.{NoTask, TaskDropped, StillReady, Waiting, NonePicked, TaskDue}
use Rattle.jobs.specs.Jobs.{time_to_deadline, worst_laxity, due_job}
use Rattle.job_state.specs.Lists.{lowest}
use Rattle.job_state.specs.States.{first, fits, late, doomed, due}
use Rattle.job_state.specs.Releases.{release_answer, released}
use Rattle.job_state.specs.Ticks.{ticked}
use Rattle.policies.specs.declared.best.Best.{Best}
use Rattle.policies.specs.Picks.{Pick}
use Rattle.policies.specs.Leasts.{Figured, best}
use Rattle.transition.specs.declared.refusal.Refusal.{Refusal}
use Rattle.transition.specs.declared.refusal.Refusal.TheVariants.{Late, Lacking, NotDoomed, NotFitting, Own}
use Rattle.transition.specs.Meanings.{Meaning}

-- how a refusal of a state is told by the system
abbrev pub told : JobRefusal → Refusal JobRefusal
told NoTask = Lacking
told TaskDropped = Own TaskDropped
told StillReady = Own StillReady
told Waiting = Own Waiting
told NonePicked = Own NonePicked
told TaskDue = Own TaskDue
told job_refusal.TheVariants.NotFitting = NotFitting

-- the state, where the answer accepts it
abbrev pub accepted_as : Result (Unit {0}) JobRefusal → State → Result State (Refusal JobRefusal)
accepted_as (Ok u) s = Ok s
accepted_as (Err r) s = Err (told r)

abbrev pub same_mode : Mode → Mode → Bool
same_mode Low Low = true
same_mode Low High = false
same_mode High Low = false
same_mode High High = true

-- a wait of an idle task that simulates another: at most as long in the sporadic kind, else the same
abbrev pub closer : Kind → ℕ → ℕ → Bool
closer Sporadic w v = nat_le w v
closer Periodic w v = w == v

-- a job that simulates another of the same task
abbrev pub simulates_job : Kind → Job → Job → Bool
simulates_job k Absent Absent = true
simulates_job k Absent (Idle v) = false
simulates_job k Absent (Ready v n) = false
simulates_job k Absent Dropped = false
simulates_job k (Idle w) Absent = false
simulates_job k (Idle w) (Idle v) = closer k w v
simulates_job k (Idle w) (Ready v n) = false
simulates_job k (Idle w) Dropped = false
simulates_job k (Ready w l) Absent = false
simulates_job k (Ready w l) (Idle v) = false
simulates_job k (Ready w l) (Ready v n) = w == v && l == n
simulates_job k (Ready w l) Dropped = false
simulates_job k Dropped Absent = false
simulates_job k Dropped (Idle v) = false
simulates_job k Dropped (Ready v n) = false
simulates_job k Dropped Dropped = true

-- the same of each two jobs of one number
abbrev pub simulates_jobs : Kind → List Job → List Job → Bool
simulates_jobs k [] [] = true
simulates_jobs k [] (y ∷ ys) = false
simulates_jobs k (x ∷ xs) [] = false
simulates_jobs k (x ∷ xs) (y ∷ ys) = simulates_job k x y && simulates_jobs k xs ys

-- how many tasks are due
abbrev pub due_count : Kind → List Task → List Job → ℕ
due_count k [] xs = 0
due_count k (t ∷ ts) [] = 0
due_count k (t ∷ ts) (x ∷ xs) = cond (due_job k x) 1 0 + due_count k ts xs

-- a doomed job is compared by its time to deadline
abbrev pub by_doom : Mode → Figured
by_doom m n t w l = cond (int_lt (worst_laxity m t w l) (pos 0)) (Some (time_to_deadline t w)) None

-- a time as a number, 0 where it is over
abbrev pub time_left : ℤ → ℕ
time_left (pos n) = n
time_left (negsuc n) = 0

-- the release of the lowest due task; else a finishing tick in low mode if another task is picked; else a tick
abbrev pub forced_by : Option ℕ → Option ℕ → Mode → ℕ → ℕ
forced_by (Some d) o m n = d
forced_by None None m n = 9
forced_by None (Some j) High n = 9
forced_by None (Some j) Low n = cond (j == n) 9 10

module _ (kind : Kind) (tasks : List Task) where
  unfoldable pub late_in : State → Bool
  late_in s = fits kind tasks s && late tasks s

  unfoldable pub doomed_in : State → Bool
  doomed_in s = fits kind tasks s && doomed tasks s

  -- both fit, the modes agree, and each job simulates the other of its number
  unfoldable pub simulates : State → State → Bool
  simulates a b = (fits kind tasks a && fits kind tasks b) && (same_mode a.mode b.mode && simulates_jobs kind a.jobs b.jobs)

  -- the doomed job of least time to deadline, lowest number among equals
  unfoldable pub target : State → Option Best
  target s = best (by_doom s.mode) 0 tasks s.jobs

  abbrev pub miss_by : Option Best → State → ℕ
  miss_by None s = 0
  miss_by (Some b) s = 9 * time_left b.figure + due_count kind tasks s.jobs

  -- 9 times the target's time to deadline, and the number of due tasks
  unfoldable pub events_to_miss : State → ℕ
  events_to_miss s = miss_by (target s) s

module _ (pick : Pick) (kind : Kind) (tasks : List Task) where
  abbrev pub picked : State → Option ℕ
  picked s = pick tasks s.mode s.jobs

  -- a release of the task of that number
  abbrev pub release : ℕ → State → Result State (Refusal JobRefusal)
  release n s = accepted_as (release_answer tasks n s) (released tasks n s)

  -- a tick: none while a task is due, and none that finishes nobody
  abbrev pub tick : Bool → State → Result State (Refusal JobRefusal)
  tick finishing s = cond (due kind tasks s) (Err (told TaskDue)) (cond (finishing && not (is_some (picked s))) (Err (told NonePicked)) (Ok (ticked tasks finishing (picked s) s)))

  -- events 1 to 8 release a task, 9 is a tick, 10 a finishing tick
  abbrev pub event : ℕ → State → Result State (Refusal JobRefusal)
  event e s = cond (e == 9) (tick false s) (cond (e == 10) (tick true s) (release e s))

  unfoldable pub gives : ℕ → State → Result State (Refusal JobRefusal)
  gives e s = cond (fits kind tasks s) (cond (late tasks s) (Err Late) (event e s)) (Err NotFitting)

  abbrev pub forced_to : Option Best → State → Result ℕ (Refusal JobRefusal)
  forced_to None s = Err NotDoomed
  forced_to (Some b) s = Ok (forced_by (lowest (λ _. due_job kind) 0 tasks s.jobs) (picked s) s.mode b.number)

  unfoldable pub forced : State → Result ℕ (Refusal JobRefusal)
  forced s = cond (fits kind tasks s) (cond (late tasks s) (Err Late) (forced_to (target kind tasks s) s)) (Err NotFitting)

  -- the tasks under that policy, as a system
  abbrev pub meaning : Meaning State JobRefusal
  meaning = record {
    count = 10;
    fits = fits kind tasks;
    first = first kind tasks;
    gives = gives;
    doomed = doomed_in kind tasks;
    late = late_in kind tasks;
    simulates = simulates kind tasks;
    forced = forced;
    events_to_miss = events_to_miss kind tasks;
  }
