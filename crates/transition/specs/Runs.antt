-- Runs: lists of event numbers made from a state on.
use Rattle.std.specs.Prelude.{◌≡◌, ℕ, zero, suc, List, [], ◌∷◌, Some, None, Ok, Err, Option, Result}
use Rattle.numbered_refusals.specs.Answers.{told as told_by}
use Rattle.transition.specs.declared.refusal.Refusal.{Refusal}
use Rattle.transition.specs.Refusals.{number}
use Rattle.transition.specs.Meanings.{Meaning}

-- the state after an answer: a refusal leaves it as it was
abbrev pub after : {X E : Type 0} → Result X E → X → X
after (Ok y) x = y
after (Err r) x = x

-- whether the event is accepted, or why it is refused
abbrev pub answered : {X E : Type 0} → Result X E → Result (Unit {0}) E
answered (Ok y) = Ok tt
answered (Err r) = Err r

-- 0 where the event is accepted, else the refusal's number
abbrev pub told : {X R : Type 0} → (R → ℕ) → Result X (Refusal R) → ℕ
told own = told_by (number own)

-- what goes on from an accepted result
abbrev pub onward : {X Y E : Type 0} → Result X E → (X → Option Y) → Option Y
onward (Ok x) f = f x
onward (Err r) f = None

module _ {X R : Type 0} (M : Meaning X R) where
  -- every state on the way while the events are made, the first one included; a refused event leaves the state
  abbrev pub way : X → List ℕ → List X
  way x [] = x ∷ []
  way x (e ∷ es) = x ∷ way (after (M.gives e x) x) es

  -- the state that the events lead to, a refused one leaving it
  abbrev pub walk : X → List ℕ → X
  walk x [] = x
  walk x (e ∷ es) = walk (after (M.gives e x) x) es

  -- the state that the events lead to where each is accepted in turn
  abbrev pub replay : X → List ℕ → Option X
  replay x [] = Some x
  replay x (e ∷ es) = onward (M.gives e x) (λ y. replay y es)

  -- the state that so many forced events lead to where each is accepted in turn
  abbrev pub forced_on : ℕ → X → Option X
  forced_on zero x = Some x
  forced_on (suc n) x = onward (M.forced x) (λ e. onward (M.gives e x) (forced_on n))

  -- some accepted events, or none, lead to the state from the first one
  abbrev pub Reached : X → Type 0
  Reached x = (es : List ℕ) × (replay M.first es ≡ Some x)
