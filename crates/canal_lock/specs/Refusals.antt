-- The number by which each reason that no boat comes is told.
use Rattle.std.specs.Prelude.{ℕ, ◌<◌}
use Rattle.std.proofs.Common.{arith}
use Rattle.canal_lock.specs.declared.refusal.LockRefusal.{LockRefusal}
use Rattle.canal_lock.specs.declared.refusal.LockRefusal.TheVariants.{OneWaits, TooSoon}

abbrev pub number : LockRefusal → ℕ
number OneWaits = 1
number TooSoon = 2

-- no refusal is told by 0
pub number_positive : (refusal : LockRefusal) → 0 < number refusal
number_positive OneWaits = omega arith
number_positive TooSoon = omega arith
