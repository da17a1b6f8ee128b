-- Exploring keeps its invariant until it ends.
use Rattle.std.proofs.Common.{◌≡◌, ℕ, zero, suc, ◌+◌, ◌≤◌, true, false, ◌⊎◌, List, [], Ok, Err, Option, Result, refl, subst, inl, inr, arith}
use Rattle.std.specs.List.{AllByRecursion}
use Rattle.std.proofs.ByRecursion.{All-weaker, All-map}
use Rattle.std.proofs.lemmas.Bool.{cases_lt}
use Rattle.transition.specs.declared.refusal.Refusal.{Refusal}
use Rattle.transition.specs.Meanings.{Meaning}
use Rattle.transition.specs.Laws.{Laws}
use Rattle.exploration.specs.declared.node.Node.{Node}
use Rattle.exploration.specs.declared.outcome.Outcome.{Outcome}
use Rattle.exploration.specs.Stores.{Store, Going, on, over, then, store, nothing, states}
use Rattle.exploration.specs.Exploring.{simulated, enter, entering, sweep, open_found, turn, turns, exploring}
use Rattle.exploration.specs.Claims.{Closed}
use Rattle.exploration.proofs.Lists.{all_both, numbered_within}
use Rattle.exploration.proofs.Nodes.{Found, Finds, all_opened, found, finds, found_all, found_one, found_states, found_length, found_pairwise}
use Rattle.exploration.proofs.Runs.{Led, led_reached, reached_fits}
use Rattle.exploration.proofs.Invariant.{Apart, ByVisit, History, Inv}
use Rattle.exploration.proofs.Ends.{End, Fine, every_visit, antichain, enter_fine}

err_ok : {X Y E : Type 0} (o : Result X E) (r : E) (x : X) → o ≡ Err r → o ≡ Ok x → Y
err_ok o r x p q = let z : ◌≡◌ {A = ℕ} 0 1 = cc in absurd (omega arith)

module _ {X R : Type 0} (M : Meaning X R) (P L : ℕ) where
  then_fine : (J K : Store X → Type 0) (g : Going X) (f : Store X → Going X) → Fine M P L J g → ((s : Store X) → J s → Fine M P L K (f s)) → Fine M P L K (then g f)
  then_fine J K (on s) f h k = k s h
  then_fine J K (over o s) f h k = h

  fine_so : (J K : Store X → Type 0) (g : Going X) → Fine M P L J g → ((s : Store X) → J s → K s) → Fine M P L K g
  fine_so J K (on s) h k = k s h
  fine_so J K (over o s) h k = h

  -- other debts, and other roots
  inv_with : (Owed Owed' : X → ℕ → Type 0) (Root Root' : X → Type 0) (s : Store X) → Inv M P L Owed Root s
      → ((y : X) (e : ℕ) (z : X) → M.gives e y ≡ Ok z → Owed y e → (simulated M (states s.nodes) z ≡ true) ⊎ Owed' y e)
      → ((y : X) → Root' y → simulated M (states s.nodes) y ≡ true) → Inv M P L Owed' Root' s
  inv_with Owed Owed' Root Root' s I f r = record {
    history = I.history;
    kept_nodes = I.kept_nodes;
    passed = I.passed;
    followed = All-weaker _ _ (λ n h o e y q. elim (h o e y q) [ inl k ↦ inl k | inr k ↦ f n.state e y q k ]) s.nodes I.followed;
    rooted = r;
    few_nodes = I.few_nodes;
    few_visits = I.few_visits;
  }

  -- the results of the events from e on in the state x need not be simulated yet
  abbrev Owing : X → ℕ → X → ℕ → Type 0
  Owing x e y d = (y ≡ x) × (e ≤ d)

  -- nothing is owed
  abbrev NothingOwed : X → ℕ → Type 0
  NothingOwed x e = ⊥

  module _ (W : Laws M) (Root : X → Type 0) (x : X) (p : ℕ) where
    owing_less : (e : ℕ) (R : X → Type 0) (t : Store X) → Inv M P L (Owing x e) R t → ((z : X) → M.gives e x ≡ Ok z → simulated M (states t.nodes) z ≡ true) → ((y : X) → Root y → R y) → Inv M P L (Owing x (suc e)) Root t
    owing_less e R t I h k = inv_with (Owing x e) (Owing x (suc e)) R Root t I
        (λ y d z q o. elim (cases_lt e d) [ inl a ↦ inr (o.0, a) | inr a ↦ inl (h z (let b : e ≡ d = omega arith in rw (b, ← o.0) q)) ])
        (λ y r. I.rooted y (k y r))

    entering_fine : (e : ℕ) (s : Store X) → Inv M P L (Owing x e) Root s → Led M s.visits p x → (o : Result X (Refusal R)) → M.gives e x ≡ o
        → Fine M P L (λ t. Inv M P L (Owing x (suc e)) Root t × Led M t.visits p x) (entering M P L p e o s)
    entering_fine e s I t (Err f) q = (owing_less e Root s I (λ z h. err_ok (M.gives e x) f z q h) (λ y r. r), t)
    entering_fine e s I t (Ok r) q =
        fine_so _ (λ v. Inv M P L (Owing x (suc e)) Root v × Led M v.visits p x) (enter M P L p e r s)
        (enter_fine M P L W (Owing x e) Root p e r s I (inr (x, t, q)))
        (λ v h. (owing_less e (λ y. Root y ⊎ (y ≡ r)) v h.0 (λ z g. h.0.rooted z (inr (let b : z ≡ r = cc in b))) (λ y a. inl a), h.1 p x t))

    sweep_fine : (k e : ℕ) (s : Store X) → e + k ≡ suc M.count → Inv M P L (Owing x e) Root s → Led M s.visits p x → Fine M P L (Inv M P L NothingOwed Root) (sweep M P L x p k e s)
    unfolding sweep
    sweep_fine zero e s n I t = inv_with (Owing x e) NothingOwed Root Root s I
        (λ y d z q o. absurd (omega (arith, W.accepted_within d y z q, o.1)))
        I.rooted
    sweep_fine (suc k) e s n I t =
        then_fine (λ v. Inv M P L (Owing x (suc e)) Root v × Led M v.visits p x) (Inv M P L NothingOwed Root) (entering M P L p e (M.gives e x) s) (sweep M P L x p k (suc e))
        (entering_fine e s I t (M.gives e x) refl)
        (λ v h. sweep_fine k (suc e) v (omega arith) h.0 h.1)

  opened_inv : Laws M → (Root : X → Type 0) (s : Store X) (n : Node X) (os : List (Node X)) → Found s.nodes n os → Inv M P L NothingOwed Root s → Inv M P L (Owing n.state 1) Root (store os s.visits s.entered)
  opened_inv W Root s n os k I =
      let same : (y : X) → simulated M (states s.nodes) y ≡ true → simulated M (states os) y ≡ true = λ y h. rw (found_states k) h in
      record {
        history = I.history;
        kept_nodes = record {
          apart = found_pairwise (Apart M) k I.kept_nodes.apart;
          safe = found_all (λ m. M.doomed m.state ≡ false) (λ m. M.doomed m.state ≡ false) k (λ m h. h) (λ h. h) I.kept_nodes.safe;
          by_visit = found_all (ByVisit M s.entered) (ByVisit M s.entered) k (λ m h. h) (λ h. h) I.kept_nodes.by_visit;
        };
        passed = All-weaker _ _ same s.entered I.passed;
        followed = found_all _ _ k (λ m h o e y q. elim (h o e y q) [ inl z ↦ inl (same y z) | inr z ↦ absurd z ]) (λ h o e y q. inr (refl, (W.accepted_within e n.state y q).0)) I.followed;
        rooted = λ y r. same y (I.rooted y r);
        few_nodes = rw (found_length k) I.few_nodes;
        few_visits = I.few_visits;
      }

  node_led : (s : Store X) (n : Node X) → History M s.visits s.entered → ByVisit M s.entered n → Led M s.visits n.visit n.state
  node_led s n H h = H.led n.visit n.state h

  module _ (W : Laws M) where
    -- the state of a new run is simulated
    abbrev First : X → Type 0
    First y = y ≡ M.first

    closed : (s : Store X) → Inv M P L NothingOwed First s → AllByRecursion (λ n. n.opened ≡ true) s.nodes → Closed M (states s.nodes)
    closed s I done = record {
      holds_first = I.rooted M.first refl;
      holds_next = All-map _ (λ n. n.state) s.nodes (All-weaker _ _ (λ n h e y q. elim (h.1 h.0 e y q) [ inl k ↦ k | inr k ↦ absurd k ]) s.nodes (all_both _ _ s.nodes done I.followed));
      none_doomed = All-map _ (λ n. n.state) s.nodes I.kept_nodes.safe;
      fitting = All-map _ (λ n. n.state) s.nodes (All-weaker (ByVisit M s.entered) _ (λ n h. reached_fits M W n.state (led_reached M s.visits n.visit n.state (node_led s n I.history h))) s.nodes I.kept_nodes.by_visit);
    }

    turn_fine : (s : Store X) → Inv M P L NothingOwed First s → Fine M P L (Inv M P L NothingOwed First) (turn M P L s)
    unfolding turn
    turn_fine s I = go (finds s.nodes)
      where
        go : {o : Option (Node X × List (Node X))} → Finds s.nodes o → Fine M P L (Inv M P L NothingOwed First) (open_found M P L s o)
        go (all_opened a) = record { answer = closed s I a; every = every_visit M W s I.history; chain_free = antichain M P L s I.history.as_many I.kept_nodes I.few_nodes I.few_visits }
        go (found {n = n} {os = os} k) =
            sweep_fine W First n.state n.visit M.count 1 (store os s.visits s.entered) (omega arith)
            (opened_inv W First s n os k I)
            (node_led s n I.history (found_one (ByVisit M s.entered) k I.kept_nodes.by_visit))

    turns_fine : (k : ℕ) (s : Store X) → Inv M P L NothingOwed First s → Fine M P L (Inv M P L NothingOwed First) (turns M P L k s)
    unfolding turns
    turns_fine zero s I = I
    turns_fine (suc k) s I = then_fine (Inv M P L NothingOwed First) (Inv M P L NothingOwed First) (turn M P L s) (turns M P L k) (turn_fine s I) (turns_fine k)

    begun : Inv M P L NothingOwed (λ _. ⊥) nothing
    begun = record {
      history = record { as_many = refl; led = λ k x h. absurd (omega (arith, numbered_within [] k x h)); differ = tt };
      kept_nodes = record { apart = tt; safe = tt; by_visit = tt };
      passed = tt;
      followed = tt;
      rooted = λ y r. absurd r;
      few_nodes = omega arith;
      few_visits = omega arith;
    }

    exploring_fine : Fine M P L (Inv M P L NothingOwed First) (exploring M P L)
    unfolding exploring
    exploring_fine =
        then_fine _ (Inv M P L NothingOwed First) (enter M P L 0 0 M.first nothing) (turns M P L (suc L))
        (enter_fine M P L W NothingOwed (λ _. ⊥) 0 0 M.first nothing begun (inl (refl, refl, refl)))
        (λ s h. turns_fine (suc L) s (inv_with NothingOwed NothingOwed _ First s h.0 (λ y e z q o. inr o) (λ y r. h.0.rooted y (inr r))))

    -- every end of exploring says what it should
    pub exploring_end : (o : Outcome) (s : Store X) → exploring M P L ≡ over o s → End M P L o s
    exploring_end o s e = subst (Fine M P L (Inv M P L NothingOwed First)) e exploring_fine
