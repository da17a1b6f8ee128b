-- A tick, by its steps in their order.
use Rattle.std.specs.Prelude.{ℕ, ◌+◌, ◌-◌, Bool, false, cond, ◌&&◌, ◌||◌, List, map, Some, None, Option, nat_lt, slice_set}
use Rattle.std.proofs.Common.{length-set}
use Rattle.std.proofs.lemmas.List.{length-map}
use Rattle.task_table.specs.declared.mode.Mode.TheVariants.{High}
use Rattle.task_table.specs.declared.task.Task.{Task}
use Rattle.task_table.specs.Tables.{numbered}
use Rattle.jobs.specs.declared.job.Job.{Job}
use Rattle.jobs.specs.declared.job.Job.TheVariants.{Absent, Idle, Ready, Dropped}
use Rattle.job_state.specs.declared.state.State.{State}
use Rattle.jobs.specs.Tasks.{is_high, gain}
use Rattle.jobs.specs.Moves.{waited, run, ended, used_up, last_budget}
use Rattle.job_state.specs.Lists.{over, length_over, job_numbered}
use Rattle.job_state.specs.States.{with_jobs}

-- the job once the mode has become high: a low task is dropped, a ready high job gains
abbrev pub raised_job : Task → Job → Job
raised_job t Absent = Absent
raised_job t (Idle w) = cond (is_high t) (Idle w) Dropped
raised_job t (Ready w l) = cond (is_high t) (Ready w (l + gain t)) Dropped
raised_job t Dropped = Dropped

-- whether the job has more left than its low budget
abbrev pub over_budget : Task → Job → Bool
over_budget t Absent = false
over_budget t (Idle w) = false
over_budget t (Ready w l) = nat_lt t.budget_low l
over_budget t Dropped = false

-- each wait falls by one
abbrev pub waits_fallen : State → State
waits_fallen s = with_jobs s s.mode (map waited s.jobs) (length-map s.jobs waited)

-- the job of that number becomes the one given
abbrev pub with_job : State → ℕ → Job → State
with_job s n x = with_jobs s s.mode (slice_set s.jobs (n - 1) x) (length-set s.jobs (n - 1) x)

-- the mode becomes high
abbrev pub raised : List Task → State → State
raised ts s = with_jobs s High (over raised_job ts s.jobs) (length_over raised_job ts s.jobs)

-- the picked job has run and is x now: it ends, or the mode becomes high, or it stays
abbrev pub settled : List Task → Bool → Task → Job → ℕ → State → State
settled ts finishing t x n s =
    cond (finishing || (used_up x && last_budget s.mode t)) (with_job s n (ended x))
    (cond (used_up x) (raised ts s) s)

-- the task t of that number runs
abbrev pub served : List Task → Bool → Option Task → ℕ → State → State
served ts finishing None n s = s
served ts finishing (Some t) n s =
    let x = run (job_numbered s.jobs n) in
    settled ts finishing t x n (with_job s n x)

-- the state after a tick at which that task is picked, or none
unfoldable pub ticked : List Task → Bool → Option ℕ → State → State
ticked ts finishing None s = waits_fallen s
ticked ts finishing (Some n) s = served ts finishing (numbered ts n) n (waits_fallen s)
