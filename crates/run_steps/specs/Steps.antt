-- The steps of a run: for each event its answer and the state after it.
use Rattle.std.specs.Prelude.{◌≡◌, ℕ, ◌+◌, ◌<◌, List, [], ◌∷◌, length, take, slice_index, slice_index_or}
use Rattle.transition.specs.Meanings.{Meaning}
use Rattle.transition.specs.Runs.{after, answered, walk}
use Rattle.run_steps.specs.declared.step.Step.{Step}

module _ {X R : Type 0} (M : Meaning X R) where
  -- the step that an event makes from a state
  abbrev pub step : X → ℕ → Step X R
  step x e = record { event = e; answer = answered (M.gives e x); state = after (M.gives e x) x }

  -- a step for each event, one after another
  abbrev pub steps : X → List ℕ → List (Step X R)
  steps x [] = []
  steps x (e ∷ es) = step x e ∷ steps (after (M.gives e x) x) es

  -- there is a step for each event, and the one at each place tells that event, what it is answered where all
  -- events before it lead to, and where they lead to together with it
  pub record Tell (x : X) (es : List ℕ) (ss : List (Step X R)) : Type 0 where
    pub count : length ss ≡ length es
    pub event : (k : ℕ) (d : Step X R) → k < length es → (slice_index_or ss k d).event ≡ slice_index es k
    pub answer : (k : ℕ) (d : Step X R) → k < length es → (slice_index_or ss k d).answer ≡ answered (M.gives (slice_index es k) (walk M x (take k es)))
    pub state : (k : ℕ) (d : Step X R) → k < length es → (slice_index_or ss k d).state ≡ walk M x (take (k + 1) es)
