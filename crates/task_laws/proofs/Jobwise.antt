-- A tick job by job, with the rise of the mode decided beforehand.
use Rattle.std.proofs.Common.{ℕ, ◌+◌, ◌-◌, Bool, true, false, cond, not, ◌&&◌, ◌||◌, eqb, ltb, List, set, Some, None, Option, ◌∙◌, length-set}
use Rattle.std.specs.List.{slice_get}
use Rattle.task_table.specs.declared.mode.Mode.{Mode}
use Rattle.task_table.specs.declared.mode.Mode.TheVariants.{Low, High}
use Rattle.task_table.specs.declared.task.Task.{Task}
use Rattle.jobs.specs.declared.job.Job.{Job}
use Rattle.jobs.specs.declared.job.Job.TheVariants.{Absent, Idle, Ready, Dropped}
use Rattle.job_state.specs.declared.state.State.{State}
use Rattle.jobs.specs.Tasks.{is_high, budget, gain}
use Rattle.job_state.specs.Lists.{over, length_over}

-- what the budget may still grow by
abbrev pub extra : Mode → Task → ℕ
extra Low r = r.budget_high - r.budget_low
extra High r = 0

-- the picked job's low budget ends with this tick, and there is a greater one
abbrev pub overruns : Mode → Task → Job → Bool
overruns Low r Absent = false
overruns Low r (Idle w) = false
overruns Low r (Ready w l) = eqb l 1 && ltb r.budget_low r.budget_high
overruns Low r Dropped = false
overruns High r x = false

-- the job after a tick: whether the tick is finishing, whether the mode becomes high, whether the job is the picked one
abbrev pub ticked_job : Bool → Bool → Bool → Task → Job → Job
ticked_job fin up own r Absent = Absent
ticked_job fin up own r (Idle w) = cond (up && not (is_high r)) Dropped (Idle (w - 1))
ticked_job fin up own r (Ready w l) =
    cond up (cond (is_high r) (Ready (w - 1) ((l - cond own 1 0) + gain r)) Dropped)
    (cond own (cond (fin || eqb l 1) (Idle (w - 1)) (Ready (w - 1) (l - 1))) (Ready (w - 1) l))
ticked_job fin up own r Dropped = Dropped

-- the time to the deadline of a ready job, 0 where it is over
abbrev pub figure : Task → Job → ℕ
figure r Absent = 0
figure r (Idle w) = 0
figure r (Ready w l) = (w + r.deadline) - r.period
figure r Dropped = 0

module _ (tasks : List Task) where
  -- nobody runs
  abbrev pub resting : Bool → State → State
  resting fin v = record { mode = v.mode; jobs = over (ticked_job fin false false) tasks v.jobs; wide = length_over (ticked_job fin false false) tasks v.jobs ∙ v.wide }

  -- the task i runs, which is r and has the job x
  abbrev pub serving : Bool → ℕ → Option Task → Option Job → State → State
  serving fin i None x v = resting fin v
  serving fin i (Some r) None v = resting fin v
  serving fin i (Some r) (Some x) v =
      let up : Bool = not fin && overruns v.mode r x in
      record { mode = cond up High v.mode; jobs = set (over (ticked_job fin up false) tasks v.jobs) i (ticked_job fin up true r x); wide = length-set (over (ticked_job fin up false) tasks v.jobs) i (ticked_job fin up true r x) ∙ (length_over (ticked_job fin up false) tasks v.jobs ∙ v.wide) }

  unfoldable pub jobwise : Bool → Option ℕ → State → State
  jobwise fin None v = resting fin v
  jobwise fin (Some n) v = serving fin (n - 1) (slice_get tasks (n - 1)) (slice_get v.jobs (n - 1)) v

  -- the task i is released, which is r
  abbrev pub released_at : ℕ → Task → State → State
  released_at i r v = record { mode = v.mode; jobs = set v.jobs i (Ready r.period (budget v.mode r)); wide = length-set v.jobs i (Ready r.period (budget v.mode r)) ∙ v.wide }
