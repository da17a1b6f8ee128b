-- Nodes: what their states simulate, and the first that is not opened.
use Rattle.std.proofs.Common.{◌≡◌, ℕ, zero, suc, ◌+◌, ◌<◌, ◌≤◌, Bool, true, false, cond, not, List, [], ◌∷◌, ◌++◌, length, get_or, set, Some, None, filter, Option, refl, ap, inl, inr, arith}
use Rattle.std.specs.List.{AllByRecursion}
use Rattle.std.proofs.ByRecursion.{All-weaker}
use Rattle.std.proofs.lemmas.Bool.{cond_both, or_cases, or_parts, or_left, or_right, not-false, false≢true}
use Rattle.transition.specs.Meanings.{Meaning}
use Rattle.transition.specs.Laws.{Laws}
use Rattle.exploration.specs.declared.node.Node.{Node}
use Rattle.exploration.specs.Stores.{states, opening, behind, first_unopened, unopened}
use Rattle.exploration.specs.Exploring.{simulated, without}
use Rattle.exploration.proofs.Lists.{Pairwise}

module _ {X R : Type 0} (M : Meaning X R) where
  -- one of the states simulates the state, with what holds of all of them
  pub simulated_by : (xs : List X) (r : X) (Q : X → Type 0) → simulated M xs r ≡ true → AllByRecursion Q xs → (x : X) × (M.simulates x r ≡ true) × Q x
  simulated_by [] r Q e a = absurd (false≢true e)
  simulated_by (x ∷ xs) r Q e a = elim (or_cases (M.simulates x r) (simulated M xs r) e) [ inl h ↦ (x, h, a.0) | inr h ↦ simulated_by xs r Q h a.1 ]

  pub simulated_none : (ns : List (Node X)) (r : X) → simulated M (states ns) r ≡ false → AllByRecursion (λ n. M.simulates n.state r ≡ false) ns
  simulated_none [] r e = tt
  simulated_none (n ∷ ns) r e = let h = or_parts (M.simulates n.state r) (simulated M (states ns) r) e in (h.0, simulated_none ns r h.1)

  pub simulated_last : (ns : List (Node X)) (n : Node X) (r : X) → M.simulates n.state r ≡ true → simulated M (states (ns ++ n ∷ [])) r ≡ true
  simulated_last [] n r h = or_left (M.simulates n.state r) false h
  simulated_last (m ∷ ns) n r h = or_right (M.simulates m.state r) (simulated M (states (ns ++ n ∷ [])) r) (simulated_last ns n r h)

  module _ (W : Laws M) where
    -- a new node takes over what the nodes that it simulates did
    pub simulated_still : (ns : List (Node X)) (n : Node X) (r : X) → simulated M (states ns) r ≡ true → simulated M (states (without M n.state ns ++ n ∷ [])) r ≡ true
    simulated_still [] n r e = absurd (false≢true e)
    simulated_still (m ∷ ns) n r e =
        let others : List (Node X) = without M n.state ns in
        let ways = or_cases (M.simulates m.state r) (simulated M (states ns) r) e in
        cond_both (not (M.simulates n.state m.state)) (m ∷ others) others (λ l. simulated M (states (l ++ n ∷ [])) r ≡ true)
        (λ _. elim ways [ inl h ↦ or_left (M.simulates m.state r) (simulated M (states (others ++ n ∷ [])) r) h | inr h ↦ or_right (M.simulates m.state r) (simulated M (states (others ++ n ∷ [])) r) (simulated_still ns n r h) ])
        (λ t. elim ways [ inl h ↦ simulated_last others n r (W.simulates_through n.state m.state r (not-false (M.simulates n.state m.state) t) h) | inr h ↦ simulated_still ns n r h ])

    pub simulated_through : (xs : List X) (x y : X) → M.simulates x y ≡ true → simulated M xs x ≡ true → simulated M xs y ≡ true
    simulated_through [] x y h e = e
    simulated_through (z ∷ xs) x y h e = elim (or_cases (M.simulates z x) (simulated M xs x) e) [
      | inl k ↦ or_left (M.simulates z y) (simulated M xs y) (W.simulates_through z x y k h)
      | inr k ↦ or_right (M.simulates z y) (simulated M xs y) (simulated_through xs x y h k)
    ]

-- the first node that is not opened, and the nodes with that one opened
pub data Found {X : Type 0} : List (Node X) → Node X → List (Node X) → Type 0 where
  here : {n : Node X} {ns : List (Node X)} → n.opened ≡ false → Found (n ∷ ns) n (opening n ∷ ns)
  later : {n m : Node X} {ns os : List (Node X)} → m.opened ≡ true → Found ns n os → Found (m ∷ ns) n (m ∷ os)

-- the two ways to look for it
pub data Finds {X : Type 0} (ns : List (Node X)) : Option (Node X × List (Node X)) → Type 0 where
  all_opened : AllByRecursion (λ n. n.opened ≡ true) ns → Finds ns None
  found : {n : Node X} {os : List (Node X)} → Found ns n os → Finds ns (Some (n, os))

finds_behind : {X : Type 0} (n : Node X) (ns : List (Node X)) {o : Option (Node X × List (Node X))} → n.opened ≡ true → Finds ns o → Finds (n ∷ ns) (behind n o)
finds_behind n ns e (all_opened a) = all_opened (e, a)
finds_behind n ns e (found k) = found (later e k)

pub finds : {X : Type 0} (ns : List (Node X)) → Finds ns (first_unopened ns)
unfolding first_unopened
finds [] = all_opened tt
finds (n ∷ ns) = cond_both n.opened (behind n (first_unopened ns)) (Some (n, opening n ∷ ns)) (Finds (n ∷ ns)) (λ e. finds_behind n ns e (finds ns)) (λ e. found (here e))

pub found_all : {X : Type 0} (Q R : Node X → Type 0) {n : Node X} {ns os : List (Node X)} → Found ns n os → ((m : Node X) → Q m → R m) → (Q n → R (opening n)) → AllByRecursion Q ns → AllByRecursion R os
found_all Q R (here {ns = ns} e) f g a = (g a.0, All-weaker Q R f ns a.1)
found_all Q R (later {m = m} e k) f g a = (f m a.0, found_all Q R k f g a.1)

pub found_one : {X : Type 0} (Q : Node X → Type 0) {n : Node X} {ns os : List (Node X)} → Found ns n os → AllByRecursion Q ns → Q n
found_one Q (here e) a = a.0
found_one Q (later e k) a = found_one Q k a.1

pub found_states : {X : Type 0} {n : Node X} {ns os : List (Node X)} → Found ns n os → states os ≡ states ns
found_states (here e) = refl
found_states (later {m = m} e k) = ap (λ xs. m.state ∷ xs) (found_states k)

pub found_length : {X : Type 0} {n : Node X} {ns os : List (Node X)} → Found ns n os → length os ≡ length ns
found_length (here e) = refl
found_length (later e k) = ap suc (found_length k)

pub found_pairwise : {X : Type 0} (R : X → X → Type 0) {n : Node X} {ns os : List (Node X)} → Found ns n os → Pairwise (λ m o. R m.state o.state) ns → Pairwise (λ m o. R m.state o.state) os
found_pairwise R (here e) a = a
found_pairwise R (later {m = m} e k) a = (found_all (λ o. R m.state o.state) (λ o. R m.state o.state) k (λ o h. h) (λ h. h) a.0, found_pairwise R k a.1)

pub found_unopened : {X : Type 0} {n : Node X} {ns os : List (Node X)} → Found ns n os → unopened ns ≡ suc (unopened os)
found_unopened (here e) = rw e (omega arith)
found_unopened (later e k) = omega (arith, found_unopened k)

pub unopened_kept : {X : Type 0} (t : Node X → Bool) (ns : List (Node X)) → unopened (filter t ns) ≤ unopened ns
unopened_kept t [] = omega arith
unopened_kept t (n ∷ ns) =
    let h = unopened_kept t ns in
    cond_both (t n) (n ∷ filter t ns) (filter t ns) (λ l. unopened l ≤ cond n.opened 0 1 + unopened ns) (λ _. omega arith) (λ _. omega arith)

pub unopened_push : {X : Type 0} (ns : List (Node X)) (n : Node X) → unopened (ns ++ n ∷ []) ≡ unopened ns + cond n.opened 0 1
unopened_push [] n = omega arith
unopened_push (m ∷ ns) n = omega (arith, unopened_push ns n)

-- a scan by positions finds the first node that is not opened
pub first_unopened_at : {X : Type 0} (ns : List (Node X)) (i : ℕ) (d : Node X) → i < length ns → ((k : ℕ) → k < i → (get_or ns k d).opened ≡ true) → (get_or ns i d).opened ≡ false → first_unopened ns ≡ Some (get_or ns i d, set ns i (opening (get_or ns i d)))
unfolding first_unopened
first_unopened_at [] i d h a b = absurd (omega arith)
first_unopened_at (n ∷ ns) zero d h a b = rw b
first_unopened_at (n ∷ ns) (suc i) d h a b = rw (a 0 (omega arith), first_unopened_at ns i d (omega arith) (λ k l. a (suc k) (omega arith)) b)

-- a scan by positions to the end finds none
pub first_unopened_none : {X : Type 0} (ns : List (Node X)) (d : Node X) → ((k : ℕ) → k < length ns → (get_or ns k d).opened ≡ true) → first_unopened ns ≡ None
unfolding first_unopened
first_unopened_none [] d a = refl
first_unopened_none (n ∷ ns) d a = rw (a 0 (omega arith), first_unopened_none ns d (λ k l. a (suc k) (omega arith)))
