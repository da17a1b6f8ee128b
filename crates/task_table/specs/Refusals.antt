-- The number by which each refusal of a draft is told.
use Rattle.std.specs.Prelude.{ℕ, ◌<◌}
use Rattle.std.proofs.Common.{arith}
use Rattle.task_table.specs.declared.refusal.DraftRefusal.{DraftRefusal}
use Rattle.task_table.specs.declared.refusal.DraftRefusal.TheVariants.{NinthTask, WrongTask}

abbrev pub number : DraftRefusal → ℕ
number NinthTask = 1
number WrongTask = 2

-- no refusal is told by 0
pub number_positive : (refusal : DraftRefusal) → 0 < number refusal
number_positive NinthTask = omega arith
number_positive WrongTask = omega arith
