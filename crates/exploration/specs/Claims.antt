-- What the end of exploring tells of the system.
use Rattle.std.specs.Prelude.{◌≡◌, ℕ, suc, ◌<◌, ◌≤◌, true, false, ◌⊎◌, List, length, Some, Ok, ◌≢◌}
use Rattle.std.specs.List.{AllByRecursion}
use Rattle.transition.specs.Meanings.{Meaning}
use Rattle.transition.specs.Runs.{way, replay, forced_on, Reached}
use Rattle.exploration.specs.declared.node.Visit.{Visit}
use Rattle.exploration.specs.declared.outcome.Outcome.{Outcome}
use Rattle.exploration.specs.declared.outcome.Outcome.TheVariants.{Schedulable, Unschedulable, TooLarge, VisitsFull, NodesFull}
use Rattle.exploration.specs.Lists.{numbered, EachTwo}
use Rattle.exploration.specs.Stores.{Store, nothing, states}
use Rattle.exploration.specs.Exploring.{simulated, most_nodes, most_visits}
use Rattle.exploration.specs.Traces.{Traced}

-- more nodes or visits are lent than may be
abbrev pub IsTooLarge : ℕ → ℕ → Type 0
IsTooLarge P L = (most_nodes < P) ⊎ (most_visits < L)

module _ {X R : Type 0} (M : Meaning X R) where
  -- whatever events are made, accepted or refused, no state on the way is late
  abbrev pub NeverLate : Type 0
  NeverLate = (es : List ℕ) → AllByRecursion (λ x. M.late x ≡ false) (way M M.first es)

  -- no state of the list simulates another
  abbrev pub NoneSimulates : List X → Type 0
  NoneSimulates xs = EachTwo (λ x y. M.simulates x y ≡ false) xs

  -- no two states of the list are equal
  abbrev pub AllDifferent : List X → Type 0
  AllDifferent xs = EachTwo (λ x y. x ≢ y) xs

  -- some run of accepted events ends in a late state
  abbrev pub EverLate : Type 0
  EverLate = (z : X) × Reached M z × (M.late z ≡ true)

  -- tracing the visit gives events that all are accepted from the first state on, and lead to the state
  abbrev pub Leads : List Visit → ℕ → X → Type 0
  Leads vs k x = (es : List ℕ) × Traced vs k es × (replay M M.first es ≡ Some x)

  -- at most 1151 forced events lead from the state to a late one
  abbrev pub SoonLate : X → Type 0
  SoonLate y = (n : ℕ) × (n ≤ 1151) × ((z : X) × (forced_on M n y ≡ Some z) × (M.late z ≡ true))

  -- the run of the last visit leads to a state from which forced events lead to a late one
  abbrev pub ShownLate : List Visit → Type 0
  ShownLate vs = (y : X) × Leads vs (length vs) y × SoonLate y

  -- P + 1 states are reached of which none simulates another, so that P nodes do not hold them all
  abbrev pub NodesHonestlyFull : ℕ → Type 0
  NodesHonestlyFull P = (xs : List X) × (length xs ≡ suc P) × AllByRecursion (Reached M) xs × NoneSimulates xs

  -- L + 1 different states are reached, so that L visits do not enter them all
  abbrev pub VisitsHonestlyFull : ℕ → Type 0
  VisitsHonestlyFull L = (xs : List X) × (length xs ≡ suc L) × AllByRecursion (Reached M) xs × AllDifferent xs

  -- the run of each visit leads to the state that it entered, and these states are all different
  pub record EveryVisitTells (s : Store X) : Type 0 where
    pub as_many : length s.entered ≡ length s.visits
    pub leads : (k : ℕ) (x : X) → numbered s.entered k ≡ Some x → Leads s.visits k x
    pub different : AllDifferent s.entered
    pub reached : AllByRecursion (Reached M) s.entered
    pub fitting : AllByRecursion (λ x. M.fits x ≡ true) s.entered

  -- states, none of them doomed, that simulate the first one and whatever follows any of them
  pub record Closed (xs : List X) : Type 0 where
    pub holds_first : simulated M xs M.first ≡ true
    pub holds_next : AllByRecursion (λ x. (e : ℕ) (y : X) → M.gives e x ≡ Ok y → simulated M xs y ≡ true) xs
    pub none_doomed : AllByRecursion (λ x. M.doomed x ≡ false) xs
    pub fitting : AllByRecursion (λ x. M.fits x ≡ true) xs

  -- no node simulates another, each node's visit entered its state, and all is within the memory lent
  pub record Antichain (P L : ℕ) (s : Store X) : Type 0 where
    pub none_simulates : NoneSimulates (states s.nodes)
    pub by_visits : AllByRecursion (λ n. (1 ≤ n.visit) × (n.visit ≤ length s.visits) × (numbered s.entered n.visit ≡ Some n.state)) s.nodes
    pub few_nodes : length s.nodes ≤ P
    pub few_visits : length s.visits ≤ L

  -- what the outcome and the store tell where P nodes and L visits were lent
  pub record Tells (P L : ℕ) (o : Outcome) (s : Store X) : Type 0 where
    -- a schedulable system is never late, and the nodes show why
    pub never_late : o ≡ Schedulable → NeverLate
    pub closed : o ≡ Schedulable → Closed (states s.nodes)
    -- an unschedulable system has a run that ends late, and the last visit shows it
    pub ever_late : o ≡ Unschedulable → EverLate
    pub shown_late : o ≡ Unschedulable → ShownLate s.visits
    -- memory is said to be full only where it is too small for what is reached
    pub nodes_full : o ≡ NodesFull → NodesHonestlyFull P
    pub visits_full : o ≡ VisitsFull → VisitsHonestlyFull L
    -- too much memory is refused, and nothing is written then
    pub too_large : o ≡ TooLarge → IsTooLarge P L × (s ≡ nothing)
    pub refused : IsTooLarge P L → o ≡ TooLarge
    -- at every end
    pub every_visit : EveryVisitTells s
    pub antichain : Antichain P L s

  -- the memory lent suffices for what is reached, and is not too large
  pub record Enough (P L : ℕ) : Type 0 where
    pub nodes : NodesHonestlyFull P → ⊥
    pub visits : VisitsHonestlyFull L → ⊥
    pub small : IsTooLarge P L → ⊥

  -- the outcome says whether the system is ever late
  pub record Decides (o : Outcome) : Type 0 where
    pub never_late : NeverLate → o ≡ Schedulable
    pub ever_late : EverLate → o ≡ Unschedulable
