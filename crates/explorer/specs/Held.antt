-- What the lent slices hold, and how a step of exploring ends.
use Rattle.std.specs.Prelude.{◌≡◌, ℕ, List, take, Some, None, Option}
use Rattle.transition.specs.Meanings.{Meaning}
use Rattle.exploration.specs.declared.node.Node.{Node}
use Rattle.exploration.specs.declared.node.Visit.{Visit}
use Rattle.exploration.specs.declared.outcome.Outcome.{Outcome}
use Rattle.exploration.specs.Stores.{Store, Going, on, over}
use Rattle.exploration.specs.Exploring.{explored}

module _ {X : Type 0} where
  -- the store that the first n nodes and the first v visits make, with the states that the visits entered, which no slice holds
  abbrev pub held : List (Node X) → ℕ → List Visit → ℕ → List X → Store X
  held ns n vs v entered = record { nodes = take n ns; visits = take v vs; entered = entered }

  -- exploring goes on, unless there is an outcome
  abbrev pub going : Option Outcome → Store X → Going X
  going None s = on s
  going (Some o) s = over o s

  -- whatever states the visits entered before, some list of states is what they entered after
  abbrev pub ComesTo : (List X → Going X) → (List X → Going X) → Type 0
  ComesTo before after = (es : List X) → (fs : List X) × (before es ≡ after fs)

  -- the outcome, the nodes and the visits at the end
  abbrev pub shown : Outcome × Store X → Outcome × List (Node X) × List Visit
  shown end = (end.0, end.1.nodes, end.1.visits)

  -- what the slices hold at the end where P nodes and L visits were lent
  abbrev pub left_by : {R : Type 0} → Meaning X R → ℕ → ℕ → List (Node X) → ℕ → List Visit → ℕ → Store X
  left_by M P L ns n vs v = held ns n vs v (explored M P L).1.entered
