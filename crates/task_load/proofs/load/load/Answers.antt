use Rattle.std.proofs.Common.{◌+◌, fold, sym, ◌∙◌, arith}
use Rattle.std.proofs.lemmas.List.{at_drop_more}
use Rattle.task_load.specs.Loads.{with_task}
use Rattle.task_load.proofs.Bounds.{blank, small_at, small_fits}
use Rattle.task_load.proofs.load.load.Goals as goal

pub plus-sum-requires : goal.plus-sum-requires
plus-sum-requires c =
    let small = small_at c.args.mode c.tasks-task-items.result.now c.loop-task.task-index c.loop-task.sum c.tasks-task-items.ensures.right c.loop-task-test.true c.loop-task.invariant.1 in
    let fits = small_fits (c.loop-task.task-index + 1) _ _ (omega (arith, c.tasks-task-items.ensures.few)) small in
    record { above_fits = rw c.demand.ensures fits.0; below_fits = fits.1 }

pub loop-task-preserved : goal.loop-task-preserved
loop-task-preserved c =
    let tasks = c.tasks-task-items.result.now in
    let i = c.loop-task.task-index in
    rw (c.plus-sum.ensures, c.demand.ensures) (
      sym (at_drop_more (fold (with_task c.args.mode) c.loop-task.sum) tasks i blank c.loop-task-test.true) ∙ c.loop-task.invariant.0,
      small_at c.args.mode tasks i c.loop-task.sum c.tasks-task-items.ensures.right c.loop-task-test.true c.loop-task.invariant.1,
    )
