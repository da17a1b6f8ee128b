-- A worked case: events made on a new run of some tasks, and all that is seen then.
use Rattle.std.specs.Prelude.{ℕ, ◌+◌, Bool, true, false, List, [], ◌∷◌, ◌++◌, map, take, replicate, ℤ, Ok, Err, Result}
use Rattle.task_table.specs.declared.mode.Mode.{Mode}
use Rattle.task_table.specs.declared.task.Task.{Task}
use Rattle.jobs.specs.declared.kind.Kind.{Kind}
use Rattle.jobs.specs.declared.job.Job.{Job}
use Rattle.jobs.specs.declared.job.Job.TheVariants.{Absent, Idle, Ready, Dropped}
use Rattle.job_state.specs.declared.state.State.{State}
use Rattle.jobs.specs.declared.refusal.JobRefusal.{JobRefusal}
use Rattle.jobs.specs.Jobs.{worst_laxity}
use Rattle.jobs.specs.Refusals.{number}
use Rattle.policies.specs.Picks.{Pick}
use Rattle.policies.specs.Leasts.{least}
use Rattle.policies.specs.Figures.{by_deadline}
use Rattle.transition.specs.declared.refusal.Refusal.{Refusal}
use Rattle.transition.specs.declared.refusal.Refusal.TheVariants.{Late, NotDoomed}
use Rattle.transition.specs.Meanings.{Meaning}
use Rattle.transition.specs.Runs.{after, told, walk}
use Rattle.task_laws.specs.Systems.{meaning}

-- an event and its answer: 0 where it is accepted, else the number of the refusal
-- (a number and no case of an enum, since the cases are read beside the list of refusals by number)
abbrev pub Answered : Type 0
Answered = ℕ × ℕ

-- whether a state is doomed or late, and the event that is forced in it
pub record Lateness : Type 0 where
  pub doomed : Bool
  pub late : Bool
  pub forced : Result ℕ (Refusal JobRefusal)

-- what is made on which tasks, and what is written of it
pub record Case : Type 0 where
  pub tasks : List Task
  pub kind : Kind
  -- the events made from the first state on, each with its answer
  pub made : List Answered
  -- the state that they lead to, with all eight jobs
  pub mode : Mode
  pub jobs : List Job
  -- the number of each task that is ready in it, with its worst laxity
  pub laxities : List (ℕ × ℤ)
  pub lateness : Lateness
  -- further events, each with the answer that it would get in that state
  pub next : List Answered

-- the pick of the policy by earliest deadline
abbrev pub earliest : Pick
earliest ts m xs = least by_deadline ts xs

-- the worst laxity of a job, where it is ready
abbrev pub laxity : Mode → ℕ → Task → Job → List (ℕ × ℤ)
laxity m n t Absent = []
laxity m n t (Idle w) = []
laxity m n t (Ready w l) = (n, worst_laxity m t w l) ∷ []
laxity m n t Dropped = []

-- the same of these tasks, where k tasks come before them
abbrev pub laxities_after : Mode → ℕ → List Task → List Job → List (ℕ × ℤ)
laxities_after m k [] xs = []
laxities_after m k (t ∷ ts) [] = []
laxities_after m k (t ∷ ts) (x ∷ xs) = laxity m (k + 1) t x ++ laxities_after m (k + 1) ts xs

module _ (M : Meaning State JobRefusal) where
  -- the event with the answer that it gets in the state
  abbrev pub answered : State → ℕ → Answered
  answered s e = (e, told number (M.gives e s))

  -- the events made in turn, each with its answer
  abbrev pub answered_all : State → List ℕ → List Answered
  answered_all s [] = []
  answered_all s (e ∷ es) = answered s e ∷ answered_all (after (M.gives e s) s) es

  -- what the system says of the state
  abbrev pub lateness_in : State → Lateness
  lateness_in s = record { doomed = M.doomed s; late = M.late s; forced = M.forced s }

-- the events without their answers
abbrev pub events : List Answered → List ℕ
events qs = map (λ q. q.0) qs

-- the case with all that is seen as the definitions have it, under earliest deadline
abbrev pub computed : Case → Case
computed c =
    let M : Meaning State JobRefusal = meaning earliest c.kind c.tasks in
    let s : State = walk M M.first (events c.made) in
    record {
      tasks = c.tasks;
      kind = c.kind;
      made = answered_all M M.first (events c.made);
      mode = s.mode;
      jobs = s.jobs;
      laxities = laxities_after s.mode 0 c.tasks s.jobs;
      lateness = lateness_in M s;
      next = map (answered M s) (events c.next);
    }

-- events that all get one answer
abbrev pub each : ℕ → List ℕ → List Answered
each answer es = map (λ e. (e, answer)) es

-- events that are all accepted
abbrev pub accepted : List ℕ → List Answered
accepted es = each 0 es

-- no event is forced
abbrev pub not_doomed : Lateness
not_doomed = record { doomed = false; late = false; forced = Err NotDoomed }

-- doomed and not late, with that forced event
abbrev pub doomed_forcing : ℕ → Lateness
doomed_forcing e = record { doomed = true; late = false; forced = Ok e }

-- late, so that no event is forced any more
abbrev pub already_late : Lateness
already_late = record { doomed = true; late = true; forced = Err Late }

-- a case by its fields in their order; jobs that are not written are absent
abbrev pub case : List Task → Kind → List Answered → Mode → List Job → List (ℕ × ℤ) → Lateness → List Answered → Case
case ts k made m xs laxities lateness next =
    record { tasks = ts; kind = k; made = made; mode = m; jobs = take 8 (xs ++ replicate 8 Absent); laxities = laxities; lateness = lateness; next = next }
