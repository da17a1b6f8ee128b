-- The invariant of exploring, and how a state that is entered keeps it.
use Rattle.std.proofs.Common.{◌≡◌, ℕ, suc, ◌<◌, ◌≤◌, Bool, true, false, not, ◌⊎◌, List, [], ◌∷◌, ◌++◌, length, Some, Ok, inl, inr, arith}
use Rattle.std.specs.List.{AllByRecursion}
use Rattle.std.proofs.ByRecursion.{All-push, all_kept_by, All-weaker, kept_by_passes}
use Rattle.std.proofs.lemmas.Bool.{not-true, true≢false, false≢true}
use Rattle.std.proofs.lemmas.List.{length_push}
use Rattle.transition.specs.Meanings.{Meaning}
use Rattle.transition.specs.Laws.{Laws}
use Rattle.exploration.specs.declared.node.Node.{Node}
use Rattle.exploration.specs.declared.node.Visit.{Visit}
use Rattle.exploration.specs.Lists.{numbered}
use Rattle.exploration.specs.Stores.{Store, states, noted, keeping}
use Rattle.exploration.specs.Exploring.{simulated, without, cleared}
use Rattle.exploration.proofs.Lists.{Pairwise, pairwise_push, pairwise_kept, all_both, numbered_push, numbered_more, numbered_push_cases}
use Rattle.exploration.proofs.Nodes.{simulated_none, simulated_last, simulated_still}
use Rattle.exploration.proofs.Runs.{Led, led_more, visit, Comes, comes_led, comes_reached, reached_fits}

module _ {X R : Type 0} (M : Meaning X R) where
  -- neither state simulates the other
  abbrev pub Apart : X → X → Type 0
  Apart x y = (M.simulates x y ≡ false) × (M.simulates y x ≡ false)

  -- the states are not equal
  abbrev pub Differ : X → X → Type 0
  Differ x y = (x ≡ y → ⊥) × (y ≡ x → ⊥)

  -- the node's visit entered its state
  abbrev pub ByVisit : List X → Node X → Type 0
  ByVisit xs n = numbered xs n.visit ≡ Some n.state

  -- once the node is opened, each result of its events is simulated, or owed
  abbrev pub Followed : (X → ℕ → Type 0) → List (Node X) → Node X → Type 0
  Followed Owed ns n = n.opened ≡ true → (e : ℕ) (y : X) → M.gives e n.state ≡ Ok y → (simulated M (states ns) y ≡ true) ⊎ Owed n.state e

  -- the history: each visit leads to the state that it entered, and these differ
  pub record History (vs : List Visit) (xs : List X) : Type 0 where
    pub as_many : length xs ≡ length vs
    pub led : (k : ℕ) (x : X) → numbered xs k ≡ Some x → Led M vs k x
    pub differ : Pairwise Differ xs

  -- the nodes: kept apart, none doomed, each by a visit
  pub record Kept (xs : List X) (ns : List (Node X)) : Type 0 where
    pub apart : Pairwise (λ n m. Apart n.state m.state) ns
    pub safe : AllByRecursion (λ n. M.doomed n.state ≡ false) ns
    pub by_visit : AllByRecursion (ByVisit xs) ns

  module _ (W : Laws M) (p e : ℕ) (r : X) (vs : List Visit) (xs : List X) (H : History vs xs) (from : Comes M vs p e r) where
    history_more : AllByRecursion (λ x. Differ x r) xs → History (vs ++ visit p e ∷ []) (xs ++ r ∷ [])
    history_more d = record {
      as_many = omega (arith, length_push xs r, length_push vs (visit p e), H.as_many);
      led = λ k x a. elim (numbered_push_cases xs r k x a) [
        | inl h ↦ led_more M vs k x (visit p e) (H.led k x h)
        | inr h ↦ rw (h.0, h.1, H.as_many) (comes_led M W vs p e r from)
      ];
      differ = pairwise_push Differ xs r H.differ d;
    }

  by_visit_more : (xs : List X) (r : X) (ns : List (Node X)) → AllByRecursion (ByVisit xs) ns → AllByRecursion (ByVisit (xs ++ r ∷ [])) ns
  by_visit_more xs r ns h = All-weaker (ByVisit xs) (ByVisit (xs ++ r ∷ [])) (λ n a. numbered_more xs (r ∷ []) n.visit n.state a) ns h

module _ {X R : Type 0} (M : Meaning X R) (P L : ℕ) where
  -- Owed x e: the result of the event e in x need not be simulated yet; Root x: x is simulated
  pub record Inv (Owed : X → ℕ → Type 0) (Root : X → Type 0) (s : Store X) : Type 0 where
    pub history : History M s.visits s.entered
    pub kept_nodes : Kept M s.entered s.nodes
    pub passed : AllByRecursion (λ x. simulated M (states s.nodes) x ≡ true) s.entered
    pub followed : AllByRecursion (Followed M Owed s.nodes) s.nodes
    pub rooted : (x : X) → Root x → simulated M (states s.nodes) x ≡ true
    pub few_nodes : length s.nodes ≤ P
    pub few_visits : length s.visits ≤ L

  module _ (W : Laws M) (Owed : X → ℕ → Type 0) (Root : X → Type 0) (p e : ℕ) (r : X) (s : Store X) (I : Inv Owed Root s) (from : Comes M s.visits p e r) (fresh : simulated M (states s.nodes) r ≡ false) where
    abbrev added : Store X
    added = keeping r (cleared M r (noted p e r s))

    -- r is none of the states entered before
    pub unlike : AllByRecursion (λ x. Differ M x r) s.entered
    unlike = All-weaker (λ x. simulated M (states s.nodes) x ≡ true) (λ x. Differ M x r) (λ x h. (λ q. let z : true ≡ false = cc in true≢false z, λ q. let z : true ≡ false = cc in true≢false z)) s.entered I.passed

    pub noted_history : History M (noted p e r s).visits (noted p e r s).entered
    noted_history = history_more M W p e r s.visits s.entered I.history from unlike

    pub noted_kept : Kept M (noted p e r s).entered s.nodes
    noted_kept = record { apart = I.kept_nodes.apart; safe = I.kept_nodes.safe; by_visit = by_visit_more M s.entered r s.nodes I.kept_nodes.by_visit }

    pub cleared_kept : Kept M (noted p e r s).entered (without M r s.nodes)
    cleared_kept = record {
      apart = pairwise_kept (λ n m. Apart M n.state m.state) (λ n. not (M.simulates r n.state)) s.nodes I.kept_nodes.apart;
      safe = all_kept_by _ _ s.nodes I.kept_nodes.safe;
      by_visit = all_kept_by _ _ s.nodes noted_kept.by_visit;
    }

    still : (y : X) → simulated M (states s.nodes) y ≡ true → simulated M (states added.nodes) y ≡ true
    still y h = simulated_still M W s.nodes (record { state = r; visit = length (noted p e r s).visits; opened = false }) y h

    itself : simulated M (states added.nodes) r ≡ true
    itself = simulated_last M (without M r s.nodes) (record { state = r; visit = length (noted p e r s).visits; opened = false }) r (W.simulates_itself r (reached_fits M W r (comes_reached M W s.visits p e r from)))

    pub added_apart : Pairwise (λ n m. Apart M n.state m.state) added.nodes
    added_apart =
        let test : Node X → Bool = λ n. not (M.simulates r n.state) in
        let others : List (Node X) = without M r s.nodes in
        pairwise_push (λ n m. Apart M n.state m.state) others _ cleared_kept.apart
        (all_both (λ n. M.simulates n.state r ≡ false) (λ n. M.simulates r n.state ≡ false) others
        (all_kept_by test _ s.nodes (simulated_none M s.nodes r fresh))
        (All-weaker (λ n. test n ≡ true) (λ n. M.simulates r n.state ≡ false) (λ n h. not-true _ h) others (kept_by_passes test s.nodes)))

    pub added_by_visit : AllByRecursion (ByVisit M added.entered) added.nodes
    added_by_visit =
        let q : length (noted p e r s).visits ≡ suc (length s.entered) = omega (arith, length_push s.visits (visit p e), I.history.as_many) in
        All-push _ (without M r s.nodes) _ cleared_kept.by_visit (rw q (numbered_push s.entered r))

    added_followed : AllByRecursion (Followed M Owed added.nodes) added.nodes
    added_followed =
        let others : List (Node X) = without M r s.nodes in
        All-push _ others _
        (All-weaker (Followed M Owed s.nodes) (Followed M Owed added.nodes) (λ n h o e' y q. elim (h o e' y q) [ inl k ↦ inl (still y k) | inr k ↦ inr k ]) others (all_kept_by _ _ s.nodes I.followed))
        (λ o. absurd (false≢true o))

    -- a state that is kept keeps the invariant, and is simulated from then on
    pub keeps : length s.visits < L → M.doomed r ≡ false → length (without M r s.nodes) < P → Inv Owed (λ y. Root y ⊎ (y ≡ r)) added
    keeps a b d = record {
      history = noted_history;
      kept_nodes = record {
        apart = added_apart;
        safe = All-push _ _ _ cleared_kept.safe b;
        by_visit = added_by_visit;
      };
      passed = All-push _ s.entered r (All-weaker _ _ still s.entered I.passed) itself;
      followed = added_followed;
      rooted = λ y. elim [ inl h ↦ still y (I.rooted y h) | inr h ↦ rw h itself ];
      few_nodes = omega (arith, length_push (without M r s.nodes) (record { state = r; visit = length (noted p e r s).visits; opened = false }));
      few_visits = omega (arith, length_push s.visits (visit p e));
    }
