-- Exploring turn by turn, with no number of turns in it.
use Rattle.std.specs.Prelude.{◌≡◌, ℕ, ◌<◌, ◌≤◌, length}
use Rattle.transition.specs.Meanings.{Meaning}
use Rattle.exploration.specs.declared.outcome.Outcome.{Outcome}
use Rattle.exploration.specs.Stores.{Store, on, over, then, nothing}
use Rattle.exploration.specs.Exploring.{enter, turn, left, rest, exploring}

-- exploring is its turns one after another, each leaves less to do, and the bound on turns is never reached
pub record Unrolled {X R : Type 0} (M : Meaning X R) (P L : ℕ) : Type 0 where
  pub starts : exploring M P L ≡ then (enter M P L 0 0 M.first nothing) (rest M P L)
  pub goes_on : (s : Store X) → length s.visits ≤ L → rest M P L s ≡ then (turn M P L s) (rest M P L)
  pub leaves_less : (s t : Store X) → length s.visits ≤ L → turn M P L s ≡ on t → (length t.visits ≤ L) × (left M P L t < left M P L s)
  pub ends : (o : Outcome) × ((s : Store X) × (exploring M P L ≡ over o s))
