use Rattle.std.proofs.Common.{◌≡◌, Bool}
use Rattle.task_table.specs.declared.task.Task.{Task}
use Rattle.jobs.specs.declared.job.Job.{Job}
use Rattle.job_state.specs.Calls.{Answers}
use Rattle.job_state.specs.Lists.{lowest}
use Rattle.job_state.proofs.job_closures.lowest_passing.Given as goal

abbrev pub invariant-loop-i : goal.invariant-loop-i
invariant-loop-i g l =
    let left = l.i-iterator in
    (goal.iterator-loop-i g).can_next left
    × (goal.iterator-loop-i g).is_finite left
    × ((passes : Task → Job → Bool) → Answers g.F.Fn l.test passes → lowest passes left.count left.iter.a.rest.now left.iter.b.rest.now ≡ lowest passes 0 l.tasks l.jobs)
