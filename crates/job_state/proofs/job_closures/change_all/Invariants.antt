use Rattle.std.proofs.Common.{◌≡◌, ◌++◌, take, drop}
use Rattle.task_table.specs.declared.task.Task.{Task}
use Rattle.jobs.specs.declared.job.Job.{Job}
use Rattle.job_state.specs.Calls.{Answers}
use Rattle.job_state.specs.Lists.{over}
use Rattle.job_state.proofs.job_closures.change_all.Given as goal

abbrev pub invariant-loop-i : goal.invariant-loop-i
invariant-loop-i g l = (changed : Task → Job → Job) → Answers g.F.Fn l.change changed → take l.i l.jobs ++ over changed (drop l.i l.tasks) (drop l.i l.jobs) ≡ over changed l.tasks l.initial.jobs
