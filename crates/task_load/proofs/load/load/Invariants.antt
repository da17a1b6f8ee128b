use Rattle.std.proofs.Common.{◌≡◌, drop, fold}
use Rattle.task_load.specs.Loads.{with_task, load}
use Rattle.task_load.proofs.Bounds.{Small}
use Rattle.task_load.proofs.load.load.Given as goal

abbrev pub invariant-loop-task : goal.invariant-loop-task
invariant-loop-task l = (fold (with_task l.mode) l.sum (drop l.task-index l.task-items) ≡ load l.mode l.task-items) × Small l.task-index l.sum.numerator l.sum.denominator
