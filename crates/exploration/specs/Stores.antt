-- What exploring keeps, and whether it goes on.
use Rattle.std.specs.Prelude.{ℕ, ◌+◌, true, false, cond, List, [], ◌∷◌, ◌++◌, map, length, Some, None, Option}
use Rattle.exploration.specs.declared.node.Node.{Node}
use Rattle.exploration.specs.declared.node.Visit.{Visit}
use Rattle.exploration.specs.declared.outcome.Outcome.{Outcome}

-- the nodes kept, the visits written, and the state that each visit entered
pub record Store (X : Type 0) : Type 0 where
  pub nodes : List (Node X)
  pub visits : List Visit
  pub entered : List X

-- exploring goes on with a store, or is over with an outcome
pub data Going (X : Type 0) : Type 0 where
  on : Store X → Going X
  over : Outcome → Store X → Going X

-- what comes next, unless exploring is over
abbrev pub then : {X : Type 0} → Going X → (Store X → Going X) → Going X
then (on s) f = f s
then (over o s) f = over o s

-- the store of these lists
abbrev pub store : {X : Type 0} → List (Node X) → List Visit → List X → Store X
store ns vs xs = record { nodes = ns; visits = vs; entered = xs }

-- the store before anything is entered
abbrev pub nothing : {X : Type 0} → Store X
nothing = store [] [] []

-- the states of the nodes
abbrev pub states : {X : Type 0} → List (Node X) → List X
states ns = map (λ n. n.state) ns

-- the node with its events tried
abbrev pub opening : {X : Type 0} → Node X → Node X
opening n = record { state = n.state; visit = n.visit; opened = true }

-- the same find, with one more node before it
abbrev pub behind : {X : Type 0} → Node X → Option (Node X × List (Node X)) → Option (Node X × List (Node X))
behind n None = None
behind n (Some f) = Some (f.0, n ∷ f.1)

-- the first node that is not opened, and the nodes with that one opened
unfoldable pub first_unopened : {X : Type 0} → List (Node X) → Option (Node X × List (Node X))
first_unopened [] = None
first_unopened (n ∷ ns) = cond n.opened (behind n (first_unopened ns)) (Some (n, opening n ∷ ns))

-- how many nodes are not opened
abbrev pub unopened : {X : Type 0} → List (Node X) → ℕ
unopened [] = 0
unopened (n ∷ ns) = cond n.opened 0 1 + unopened ns

-- the store with one more visit written, and the state that it enters noted
abbrev pub noted : {X : Type 0} → ℕ → ℕ → X → Store X → Store X
noted p e r s = store s.nodes (s.visits ++ record { parent = p; event = e } ∷ []) (s.entered ++ r ∷ [])

-- the store with one more node, last and not opened, for the state that the last visit entered
abbrev pub keeping : {X : Type 0} → X → Store X → Store X
keeping r s = store (s.nodes ++ record { state = r; visit = length s.visits; opened = false } ∷ []) s.visits s.entered
