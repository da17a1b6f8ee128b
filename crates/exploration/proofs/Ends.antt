-- What each end of exploring says.
use Rattle.std.proofs.Common.{◌≡◌, ℕ, suc, ◌≤◌, true, false, not, ◌⊎◌, List, [], ◌∷◌, ◌++◌, length, inl, inr, arith}
use lib.ListN.{length-map}
use Rattle.std.specs.List.{AllByRecursion}
use Rattle.std.proofs.ByRecursion.{All-push, All-weaker, All-map}
use Rattle.std.proofs.lemmas.List.{length_push}
use Rattle.transition.specs.Meanings.{Meaning}
use Rattle.transition.specs.Laws.{Laws}
use Rattle.transition.specs.Runs.{Reached}
use Rattle.exploration.specs.declared.node.Node.{Node}
use Rattle.exploration.specs.declared.node.Visit.{Visit}
use Rattle.exploration.specs.declared.outcome.Outcome.{Outcome}
use Rattle.exploration.specs.declared.outcome.Outcome.TheVariants.{Schedulable, Unschedulable, TooLarge, VisitsFull, NodesFull}
use Rattle.exploration.specs.Stores.{Store, Going, on, over, nothing, states, noted, keeping}
use Rattle.exploration.specs.Exploring.{simulated, without, cleared, enter}
use Rattle.exploration.specs.Claims.{IsTooLarge, ShownLate, NodesHonestlyFull, VisitsHonestlyFull, EveryVisitTells, Closed, Antichain}
use Rattle.exploration.proofs.Lists.{pairwise_push, pairwise_map, each_two, all_numbered, length_kept, numbered_within}
use Rattle.exploration.proofs.Runs.{Led, led_leads, led_reached, led_more, visit, Comes, comes_led, comes_reached, reached_fits, doomed_soon_late}
use Rattle.exploration.proofs.Enters.{Entered, known, visits_full, found_doomed, nodes_full, new, entered}
use Rattle.exploration.proofs.Invariant.{Apart, Differ, ByVisit, History, Kept, Inv, unlike, noted_history, noted_kept, cleared_kept, added_apart, added_by_visit, keeps}

module _ {X R : Type 0} (M : Meaning X R) where
  history_reached : (vs : List Visit) (xs : List X) → History M vs xs → AllByRecursion (Reached M) xs
  history_reached vs xs H = all_numbered (Reached M) xs (λ k x a. led_reached M vs k x (H.led k x a))

  pub every_visit : Laws M → (s : Store X) → History M s.visits s.entered → EveryVisitTells M s
  every_visit W s H = record {
    as_many = H.as_many;
    leads = λ k x a. led_leads M s.visits k x (H.led k x a);
    different = each_two (λ x y. x ≡ y → ⊥) s.entered H.differ;
    reached = history_reached s.visits s.entered H;
    fitting = All-weaker (Reached M) (λ x. M.fits x ≡ true) (reached_fits M W) s.entered (history_reached s.visits s.entered H);
  }

  pub antichain : (P L : ℕ) (s : Store X) → length s.entered ≡ length s.visits → Kept M s.entered s.nodes → length s.nodes ≤ P → length s.visits ≤ L → Antichain M P L s
  antichain P L s n K a b = record {
    none_simulates = each_two (λ x y. M.simulates x y ≡ false) (states s.nodes) (pairwise_map (Apart M) (λ n. n.state) s.nodes K.apart);
    by_visits = All-weaker (ByVisit M s.entered) _ (λ m h. let w = numbered_within s.entered m.visit m.state h in (w.0, omega arith, h)) s.nodes K.by_visit;
    few_nodes = a;
    few_visits = b;
  }

  -- what an outcome tells of the system
  abbrev pub Answer : ℕ → ℕ → Outcome → Store X → Type 0
  Answer P L Schedulable s = Closed M (states s.nodes)
  Answer P L Unschedulable s = ShownLate M s.visits
  Answer P L TooLarge s = IsTooLarge P L × (s ≡ nothing)
  Answer P L VisitsFull s = VisitsHonestlyFull M L
  Answer P L NodesFull s = NodesHonestlyFull M P

  -- what an end says
  pub record End (P L : ℕ) (o : Outcome) (s : Store X) : Type 0 where
    pub answer : Answer P L o s
    pub every : EveryVisitTells M s
    pub chain_free : Antichain M P L s

  -- the invariant where exploring goes on, and what the end says where it is over
  abbrev pub Fine : ℕ → ℕ → (Store X → Type 0) → Going X → Type 0
  Fine P L J (on s) = J s
  Fine P L J (over o s) = End P L o s

module _ {X R : Type 0} (M : Meaning X R) (P L : ℕ) (W : Laws M) (Owed : X → ℕ → Type 0) (Root : X → Type 0) (p e : ℕ) (r : X) (s : Store X) (I : Inv M P L Owed Root s) (from : Comes M s.visits p e r) where
  module _ (fresh : simulated M (states s.nodes) r ≡ false) where
    many_different : L ≤ length s.visits → VisitsHonestlyFull M L
    many_different h =
        let q = length_push s.entered r in
        let a = I.history.as_many in
        let b = I.few_visits in (
          s.entered ++ r ∷ [],
          omega arith,
          All-push (Reached M) s.entered r (history_reached M s.visits s.entered I.history) (comes_reached M W s.visits p e r from),
          each_two (λ x y. x ≡ y → ⊥) (s.entered ++ r ∷ []) (pairwise_push (Differ M) s.entered r I.history.differ (unlike M P L W Owed Root p e r s I from fresh)),
        )

    last_late : M.doomed r ≡ true → ShownLate M (noted p e r s).visits
    last_late d =
        let q : length (noted p e r s).visits ≡ suc (length s.visits) = omega (arith, length_push s.visits (visit p e)) in (
          r,
          led_leads M (noted p e r s).visits (length (noted p e r s).visits) r (rw q (comes_led M W s.visits p e r from)),
          doomed_soon_late M W r d,
        )

    many_apart : P ≤ length (without M r s.nodes) → NodesHonestlyFull M P
    many_apart h =
        let ns : List (Node X) = (keeping r (cleared M r (noted p e r s))).nodes in
        let H = noted_history M P L W Owed Root p e r s I from fresh in
        let a = length-map ns (λ n. n.state) in
        let b = length_push (without M r s.nodes) (record { state = r; visit = length (noted p e r s).visits; opened = false }) in
        let d = I.few_nodes in
        let k = length_kept (λ n. not (M.simulates r n.state)) s.nodes in (
          states ns,
          omega arith,
          All-map (Reached M) (λ n. n.state) ns (All-weaker (ByVisit M (noted p e r s).entered) _ (λ n t. led_reached M (noted p e r s).visits n.visit n.state (H.led n.visit n.state t)) ns (added_by_visit M P L W Owed Root p e r s I from fresh)),
          each_two (λ x y. M.simulates x y ≡ false) (states ns) (pairwise_map (Apart M) (λ n. n.state) ns (added_apart M P L W Owed Root p e r s I from fresh)),
        )

  -- what visits led to they lead to still
  abbrev pub Grown : Store X → Type 0
  Grown t = (k : ℕ) (y : X) → Led M s.visits k y → Led M t.visits k y

  pub enter_fine : Fine M P L (λ t. Inv M P L Owed (λ y. Root y ⊎ (y ≡ r)) t × Grown t) (enter M P L p e r s)
  enter_fine = go (entered M P L p e r s)
    where
      go : {g : Going X} → Entered M P L p e r s g → Fine M P L (λ t. Inv M P L Owed (λ y. Root y ⊎ (y ≡ r)) t × Grown t) g
      go (known h) = (
        record { history = I.history; kept_nodes = I.kept_nodes; passed = I.passed; followed = I.followed; rooted = λ y. elim [ inl a ↦ I.rooted y a | inr a ↦ rw a h ]; few_nodes = I.few_nodes; few_visits = I.few_visits },
        λ k y t. t,
      )
      go (visits_full f u) = record {
        answer = many_different f u;
        every = every_visit M W s I.history;
        chain_free = antichain M P L s I.history.as_many I.kept_nodes I.few_nodes I.few_visits;
      }
      go (found_doomed f u d) =
          let H = noted_history M P L W Owed Root p e r s I from f in
          record {
            answer = last_late f d;
            every = every_visit M W (noted p e r s) H;
            chain_free = antichain M P L (noted p e r s) H.as_many (noted_kept M P L W Owed Root p e r s I from f) I.few_nodes (omega (arith, length_push s.visits (visit p e)));
          }
      go (nodes_full f u d n) =
          let H = noted_history M P L W Owed Root p e r s I from f in
          let k = length_kept (λ n. not (M.simulates r n.state)) s.nodes in
          let few = I.few_nodes in
          record {
            answer = many_apart f n;
            every = every_visit M W (cleared M r (noted p e r s)) H;
            chain_free = antichain M P L (cleared M r (noted p e r s)) H.as_many (cleared_kept M P L W Owed Root p e r s I from f) (omega arith) (omega (arith, length_push s.visits (visit p e)));
          }
      go (new f u d n) = (keeps M P L W Owed Root p e r s I from f u d n, λ k y t. led_more M s.visits k y (visit p e) t)
