-- Entering a state: the five ways, each as an equation, and as one view.
use Rattle.std.proofs.Common.{◌≡◌, ℕ, ◌+◌, ◌<◌, ◌≤◌, true, false, ltb, List, [], ◌∷◌, ◌++◌, length, ap}
use Rattle.std.proofs.lemmas.List.{length_push}
use Rattle.std.proofs.lemmas.Bool.{cond_both, ltb-true, ltb-false, lt-ltb, le-ltb}
use Rattle.transition.specs.Meanings.{Meaning}
use Rattle.exploration.specs.declared.node.Node.{Node}
use Rattle.exploration.specs.declared.node.Visit.{Visit}
use Rattle.exploration.specs.declared.outcome.Outcome.TheVariants.{Unschedulable, VisitsFull, NodesFull}
use Rattle.exploration.specs.Stores.{Store, Going, on, over, store, states, noted, keeping}
use Rattle.exploration.specs.Exploring.{simulated, without, cleared, enter}

module _ {X R : Type 0} (M : Meaning X R) (P L : ℕ) where
  -- the five ways to enter the state r from the visit p by the event e
  pub data Entered (p e : ℕ) (r : X) (s : Store X) : Going X → Type 0 where
    known : simulated M (states s.nodes) r ≡ true → Entered p e r s (on s)
    visits_full : simulated M (states s.nodes) r ≡ false → L ≤ length s.visits → Entered p e r s (over VisitsFull s)
    found_doomed : simulated M (states s.nodes) r ≡ false → length s.visits < L → M.doomed r ≡ true → Entered p e r s (over Unschedulable (noted p e r s))
    nodes_full : simulated M (states s.nodes) r ≡ false → length s.visits < L → M.doomed r ≡ false → P ≤ length (without M r s.nodes) → Entered p e r s (over NodesFull (cleared M r (noted p e r s)))
    new : simulated M (states s.nodes) r ≡ false → length s.visits < L → M.doomed r ≡ false → length (without M r s.nodes) < P → Entered p e r s (on (keeping r (cleared M r (noted p e r s))))

  pub entered : (p e : ℕ) (r : X) (s : Store X) → Entered p e r s (enter M P L p e r s)
  unfolding enter
  entered p e r s =
      cond_both (simulated M (states s.nodes) r) _ _ (Entered p e r s) (λ k. known k) (λ f.
      cond_both (ltb (length s.visits) L) _ _ (Entered p e r s) (λ u.
      cond_both (M.doomed r) _ _ (Entered p e r s) (λ d. found_doomed f (ltb-true _ _ u) d) (λ d.
      cond_both (ltb (length (without M r s.nodes)) P) _ _ (Entered p e r s) (λ n. new f (ltb-true _ _ u) d (ltb-true _ _ n)) (λ n. nodes_full f (ltb-true _ _ u) d (ltb-false _ _ n))))
      (λ u. visits_full f (ltb-false _ _ u)))

  -- the same over plain lists, one equation for each way
  module _ (p e : ℕ) (r : X) (ns : List (Node X)) (vs : List Visit) (xs : List X) where
    abbrev more : List Visit
    more = vs ++ record { parent = p; event = e } ∷ []

    pub enter_known : simulated M (states ns) r ≡ true → enter M P L p e r (store ns vs xs) ≡ on (store ns vs xs)
    unfolding enter
    enter_known k = rw k

    module _ (fresh : simulated M (states ns) r ≡ false) where
      pub enter_visits_full : L ≤ length vs → enter M P L p e r (store ns vs xs) ≡ over VisitsFull (store ns vs xs)
      unfolding enter
      enter_visits_full u = rw (fresh, le-ltb (length vs) L u)

      module _ (unused : length vs < L) where
        pub enter_doomed : M.doomed r ≡ true → enter M P L p e r (store ns vs xs) ≡ over Unschedulable (store ns more (xs ++ r ∷ []))
        unfolding enter
        enter_doomed d = rw (fresh, lt-ltb (length vs) L unused, d)

        pub enter_nodes_full : M.doomed r ≡ false → P ≤ length (without M r ns) → enter M P L p e r (store ns vs xs) ≡ over NodesFull (store (without M r ns) more (xs ++ r ∷ []))
        unfolding enter
        enter_nodes_full d n = rw (fresh, lt-ltb (length vs) L unused, d, le-ltb (length (without M r ns)) P n)

        pub enter_new : M.doomed r ≡ false → length (without M r ns) < P → enter M P L p e r (store ns vs xs) ≡ on (store (without M r ns ++ record { state = r; visit = length vs + 1; opened = false } ∷ []) more (xs ++ r ∷ []))
        unfolding enter
        enter_new d n =
            let q = length_push vs (record { parent = p; event = e }) in
            rw (fresh, lt-ltb (length vs) L unused, d, lt-ltb (length (without M r ns)) P n) (ap (λ k. on (store (without M r ns ++ record { state = r; visit = k; opened = false } ∷ []) more (xs ++ r ∷ []))) q)
