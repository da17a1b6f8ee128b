-- Lists whose elements number from 1, and what holds between any two of them.
use Rattle.std.specs.Prelude.{◌≡◌, ℕ, zero, suc, List, Some, None, Option, ◌≢◌}
use Rattle.std.specs.List.{slice_get}

-- the element of that number, where the first has the number 1
abbrev pub numbered : {X : Type 0} → List X → ℕ → Option X
numbered xs zero = None
numbered xs (suc i) = slice_get xs i

-- the relation holds between any two elements at different positions, either way round
abbrev pub EachTwo : {X : Type 0} → (X → X → Type 0) → List X → Type 0
EachTwo {X} R xs = (i j : ℕ) (x y : X) → (i ≢ j) → slice_get xs i ≡ Some x → slice_get xs j ≡ Some y → R x y
