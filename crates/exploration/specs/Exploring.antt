-- Exploring a system with so many nodes and visits lent, as a definition over lists.
use Rattle.std.specs.Prelude.{ℕ, zero, suc, ◌+◌, ◌-◌, Bool, false, cond, not, ◌&&◌, ◌||◌, List, [], ◌∷◌, length, Some, None, Ok, Err, filter, Option, Result, nat_le, nat_lt}
use Rattle.transition.specs.declared.refusal.Refusal.{Refusal}
use Rattle.transition.specs.Meanings.{Meaning}
use Rattle.exploration.specs.declared.node.Node.{Node}
use Rattle.exploration.specs.declared.outcome.Outcome.{Outcome}
use Rattle.exploration.specs.declared.outcome.Outcome.TheVariants.{Schedulable, Unschedulable, TooLarge, VisitsFull, NodesFull}
use Rattle.exploration.specs.Stores.{Store, Going, on, over, then, store, nothing, states, first_unopened, unopened, noted, keeping}

module _ {X R : Type 0} (M : Meaning X R) where
  -- whether one of the states simulates the state
  abbrev pub simulated : List X → X → Bool
  simulated [] r = false
  simulated (x ∷ xs) r = M.simulates x r || simulated xs r

  -- the nodes without those that the state simulates, the rest in their order
  abbrev pub without : X → List (Node X) → List (Node X)
  without r ns = filter (λ n. not (M.simulates r n.state)) ns

  -- the store without the nodes that the state simulates
  abbrev pub cleared : X → Store X → Store X
  cleared r s = store (without r s.nodes) s.visits s.entered

module _ {X R : Type 0} (M : Meaning X R) (P L : ℕ) where
  -- the state that the last visit entered ends exploring where it is doomed, else is kept in place of the nodes that it simulates
  abbrev pub admit : X → Store X → Going X
  admit r s =
      cond (M.doomed r) (over Unschedulable s)
      (cond (nat_lt (length (cleared M r s).nodes) P) (on (keeping r (cleared M r s))) (over NodesFull (cleared M r s)))

  -- a state that came from the visit p by the event e is entered: nothing more where a node simulates it, else by a visit of its own
  unfoldable pub enter : ℕ → ℕ → X → Store X → Going X
  enter p e r s =
      cond (simulated M (states s.nodes) r) (on s)
      (cond (nat_lt (length s.visits) L) (admit r (noted p e r s)) (over VisitsFull s))

  -- the result of an event is entered where the event is accepted
  abbrev pub entering : ℕ → ℕ → Result X (Refusal R) → Store X → Going X
  entering p e (Ok r) s = enter p e r s
  entering p e (Err f) s = on s

  -- the results of k events of the state x, from the event e on, are entered in turn
  unfoldable pub sweep : X → ℕ → ℕ → ℕ → Store X → Going X
  sweep x p zero e s = on s
  sweep x p (suc k) e s = then (entering p e (M.gives e x) s) (sweep x p k (suc e))

  -- the node that is opened has all its events swept; where none is left to open, exploring is over
  abbrev pub open_found : Store X → Option (Node X × List (Node X)) → Going X
  open_found s None = over Schedulable s
  open_found s (Some f) = sweep f.0.state f.0.visit M.count 1 (store f.1 s.visits s.entered)

  -- the first node that is not opened is opened
  unfoldable pub turn : Store X → Going X
  turn s = open_found s (first_unopened s.nodes)

  -- at most so many turns
  unfoldable pub turns : ℕ → Store X → Going X
  turns zero s = on s
  turns (suc n) s = then (turn s) (turns n)

  -- what is left to do: nodes to open, and visits to write
  abbrev pub left : Store X → ℕ
  left s = unopened s.nodes + (L - length s.visits)

  -- what exploring comes to from a store on
  unfoldable pub rest : Store X → Going X
  rest s = turns (suc (left s)) s

  -- the first state is entered, and then nodes are opened, at most one more than there are visits
  unfoldable pub exploring : Going X
  exploring = then (enter 0 0 M.first nothing) (turns (suc L))

-- the most nodes that may be lent
abbrev pub most_nodes : ℕ
most_nodes = 4096

-- the most visits that may be lent
abbrev pub most_visits : ℕ
most_visits = 65535

-- the outcome and the store at the end; that exploring still goes on never happens, so what is answered there does not matter
abbrev pub ended : {X : Type 0} → Going X → Outcome × Store X
ended (over o s) = (o, s)
ended (on s) = (TooLarge, s)

-- how exploring ends with so many nodes and visits lent, and what it leaves: too many are refused
unfoldable pub explored : {X R : Type 0} → Meaning X R → ℕ → ℕ → Outcome × Store X
explored M P L = cond (nat_le P most_nodes && nat_le L most_visits) (ended (exploring M P L)) (TooLarge, nothing)
