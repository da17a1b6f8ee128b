-- What a release answers and leaves.
use Rattle.std.specs.Prelude.{ℕ, ◌-◌, List, Some, None, Err, Option, Result, slice_set}
use Rattle.std.proofs.Common.{length-set}
use Rattle.task_table.specs.declared.task.Task.{Task}
use Rattle.task_table.specs.Tables.{numbered}
use Rattle.jobs.specs.declared.job.Job.{Job}
use Rattle.jobs.specs.declared.refusal.JobRefusal.{JobRefusal}
use Rattle.jobs.specs.declared.refusal.JobRefusal.TheVariants.{NoTask}
use Rattle.job_state.specs.declared.state.State.{State}
use Rattle.jobs.specs.Moves.{job_answer, released_job}
use Rattle.job_state.specs.Lists.{job_numbered}
use Rattle.job_state.specs.States.{with_jobs}

abbrev pub answer_by : Option Task → Job → Result (Unit {0}) JobRefusal
answer_by None x = Err NoTask
answer_by (Some t) x = job_answer x

-- whether the task of that number may be released, or why not
unfoldable pub release_answer : List Task → ℕ → State → Result (Unit {0}) JobRefusal
release_answer ts n s = answer_by (numbered ts n) (job_numbered s.jobs n)

abbrev pub released_by : Option Task → ℕ → State → State
released_by None n s = s
released_by (Some t) n s =
    let y = released_job s.mode t (job_numbered s.jobs n) in
    with_jobs s s.mode (slice_set s.jobs (n - 1) y) (length-set s.jobs (n - 1) y)

-- the state after the release of that number: only that one job can differ
unfoldable pub released : List Task → ℕ → State → State
released ts n s = released_by (numbered ts n) n s
