use Rattle.std.proofs.Common.{◌≡◌, Bool, drop}
use Rattle.task_table.specs.declared.task.Task.{Task}
use Rattle.jobs.specs.declared.job.Job.{Job}
use Rattle.job_state.specs.Calls.{Answers}
use Rattle.job_state.specs.Lists.{every}
use Rattle.job_state.proofs.job_closures.every_passes.Given as goal

abbrev pub invariant-loop-i : goal.invariant-loop-i
invariant-loop-i g l = (passes : Task → Job → Bool) → Answers g.F.Fn l.test passes → every passes (drop l.i l.tasks) (drop l.i l.jobs) ≡ every passes l.tasks l.jobs
