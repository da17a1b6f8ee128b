-- Words, and what they name.
use Rattle.std.specs.Prelude.{ℕ, List, Option}
use Rattle.std.specs.List.{find}
use Rattle.std.specs.Str.{bytes_eq}

abbrev pub Word : Type 0
Word = List ℕ

-- the first of them that is spelled so
abbrev pub first_named : {X : Type 0} → (X → Word) → List X → Word → Option X
first_named spelled xs w = find (λ x. bytes_eq (spelled x) w) xs
