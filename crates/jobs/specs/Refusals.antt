-- The number by which each refusal is told.
use Rattle.std.specs.Prelude.{ℕ, ◌<◌}
use Rattle.std.proofs.Common.{arith}
use Rattle.jobs.specs.declared.refusal.JobRefusal.{JobRefusal}
use Rattle.jobs.specs.declared.refusal.JobRefusal.TheVariants.{NoTask, TaskDropped, StillReady, Waiting, NonePicked, TaskDue, NotFitting}

abbrev pub number : JobRefusal → ℕ
number NoTask = 4
number TaskDropped = 5
number StillReady = 6
number Waiting = 7
number NonePicked = 8
number TaskDue = 9
number NotFitting = 17

-- no refusal is told by 0
pub number_positive : (refusal : JobRefusal) → 0 < number refusal
number_positive NoTask = omega arith
number_positive TaskDropped = omega arith
number_positive StillReady = omega arith
number_positive Waiting = omega arith
number_positive NonePicked = omega arith
number_positive TaskDue = omega arith
number_positive NotFitting = omega arith
