-- Decimal digits read one by one.
use Rattle.std.proofs.Common.{◌≡◌, ℕ, ◌<◌, ◌≤◌, cond, ◌&&◌, leb, List, [], ◌∷◌, Some, None, fold, Option, arith}
use Rattle.std.proofs.lemmas.Bool.Decides.{nat_tests}
use Rattle.table_text.specs.Figures.{all_digits, with_digit}

-- a value does not fall
grows : (v : ℕ) (bs : List ℕ) → v ≤ fold with_digit v bs
grows v [] = omega arith
grows v (b ∷ bs) = omega (arith, grows (with_digit v b) bs)

-- what more digits make of a value
abbrev pub reading : ℕ → ℕ → List ℕ → Option ℕ
reading most v bs = cond (all_digits bs && leb (fold with_digit v bs) most) (Some (fold with_digit v bs)) None

pub reading_large : (most v : ℕ) (bs : List ℕ) → most < v → reading most v bs ≡ None
reading_large most v bs l = let more = grows v bs in grind (arith, nat_tests)
