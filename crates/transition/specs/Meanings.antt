-- What a transition system means, as one record over any types of states and of reasons to refuse an event.
use Rattle.std.specs.Prelude.{ℕ, Bool, Result}
use Rattle.transition.specs.declared.refusal.Refusal.{Refusal}

pub record Meaning (X R : Type 0) : Type 0 where
  -- how many events there are: they number from 1 to this
  pub count : ℕ
  -- whether a state is one of this system's
  pub fits : X → Bool
  -- the state of a new run
  pub first : X
  -- what an event gives in a state: the next state, or why it is refused
  pub gives : ℕ → X → Result X (Refusal R)
  -- whether the forced events, one after another, lead to a late state
  pub doomed : X → Bool
  -- whether what must never happen has happened
  pub late : X → Bool
  -- whether all that can happen from the second state can happen from the first
  pub simulates : X → X → Bool
  -- the event that brings a doomed state nearer to a late one
  pub forced : X → Result ℕ (Refusal R)
  -- at most how many forced events lead from a doomed state to a late one
  pub events_to_miss : X → ℕ
