-- Fractions of whole numbers.
use Rattle.std.specs.Prelude.{◌≡◌, ℕ, ◌+◌, ◌*◌, ◌<◌, Bool, nat_lt}
use Rattle.std.specs.Int.{◌∣◌}
use Rattle.task_load.specs.declared.fraction.Fraction.{Fraction}

abbrev pub over : ℕ → ℕ → Fraction
over n d = record { numerator = n; denominator = d }

-- the sum of a fraction and n/d
abbrev pub plus : Fraction → ℕ → ℕ → Fraction
plus f n d = over (f.numerator * d + n * f.denominator) (f.denominator * d)

-- two fractions of one value
abbrev pub Same : Fraction → Fraction → Type 0
Same f g = f.numerator * g.denominator ≡ g.numerator * f.denominator

-- in lowest terms: nothing but 1 divides both parts, and the lower one is not 0
pub record Lowest (f : Fraction) : Type 0 where
  pub parted : 0 < f.denominator
  pub coprime : (k : ℕ) → k ∣ f.numerator → k ∣ f.denominator → k ≡ 1

abbrev pub whole_in : Fraction → Bool
whole_in f = nat_lt f.denominator f.numerator
