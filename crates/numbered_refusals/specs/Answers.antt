-- How an answer is told by a number.
use Rattle.std.specs.Prelude.{ℕ, Ok, Err, Result}

-- 0 where the answer is no refusal, else the refusal's number
abbrev pub told : {X R : Type 0} → (R → ℕ) → Result X R → ℕ
told number (Ok x) = 0
told number (Err r) = number r
