-- What is left to do: never more after a state is entered, less after a turn.
use Rattle.std.proofs.Common.{◌≡◌, ℕ, zero, suc, ◌≤◌, false, not, List, [], ◌∷◌, ◌++◌, length, Ok, Err, Option, Result, refl, arith}
use Rattle.transition.specs.declared.refusal.Refusal.{Refusal}
use Rattle.std.proofs.lemmas.List.{length_push}
use Rattle.transition.specs.Meanings.{Meaning}
use Rattle.exploration.specs.declared.node.Node.{Node}
use Rattle.exploration.specs.declared.outcome.Outcome.{Outcome}
use Rattle.exploration.specs.Stores.{Store, Going, on, over, then, store}
use Rattle.exploration.specs.Exploring.{without, enter, entering, sweep, open_found, turn, left}
use Rattle.exploration.proofs.Nodes.{Finds, all_opened, found, finds, found_unopened, unopened_kept, unopened_push}
use Rattle.exploration.proofs.Enters.{Entered, known, visits_full, found_doomed, nodes_full, new, entered}

module _ {X : Type 0} where
  -- what holds of the store where exploring goes on
  abbrev pub On : (Store X → Type 0) → Going X → Type 0
  On J (on s) = J s
  On J (over o s) = Unit {0}

  pub on_then : (J K : Store X → Type 0) (g : Going X) (f : Store X → Going X) → On J g → ((s : Store X) → J s → On K (f s)) → On K (then g f)
  on_then J K (on s) f h k = k s h
  on_then J K (over o s) f h k = tt

  pub on_both : (J K : Store X → Type 0) (g : Going X) → On J g → On K g → On (λ s. J s × K s) g
  on_both J K (on s) a b = (a, b)
  on_both J K (over o s) a b = tt

  pub then_same : (J : Store X → Type 0) (g : Going X) (f h : Store X → Going X) → On J g → ((s : Store X) → J s → f s ≡ h s) → then g f ≡ then g h
  then_same J (on s) f h a k = k s a
  then_same J (over o s) f h a k = refl

  pub never_on : (g : Going X) → On (λ _. ⊥) g → (o : Outcome) × ((s : Store X) × (g ≡ over o s))
  never_on (on s) h = absurd h
  never_on (over o s) h = (o, (s, refl))

module _ {X R : Type 0} (M : Meaning X R) (P L : ℕ) where
  -- the visits are within those lent, and at most F is left to do
  pub record Leaves (F : ℕ) (s : Store X) : Type 0 where
    pub short : length s.visits ≤ L
    pub little : left M P L s ≤ F

  pub enter_leaves : (F p e : ℕ) (r : X) (s : Store X) → Leaves F s → On (Leaves F) (enter M P L p e r s)
  enter_leaves F p e r s w = go (entered M P L p e r s)
    where
      go : {g : Going X} → Entered M P L p e r s g → On (Leaves F) g
      go (known k) = w
      go (visits_full f u) = tt
      go (found_doomed f u d) = tt
      go (nodes_full f u d n) = tt
      go (new f u d n) =
          let a = unopened_push (without M r s.nodes) (record { state = r; visit = length (s.visits ++ record { parent = p; event = e } ∷ []); opened = false }) in
          let b = unopened_kept (λ m. not (M.simulates r m.state)) s.nodes in
          let q = length_push s.visits (record { parent = p; event = e }) in
          let l = w.little in
          record { short = omega arith; little = omega arith }

  entering_leaves : (F p e : ℕ) (o : Result X (Refusal R)) (s : Store X) → Leaves F s → On (Leaves F) (entering M P L p e o s)
  entering_leaves F p e (Ok r) s w = enter_leaves F p e r s w
  entering_leaves F p e (Err f) s w = w

  pub sweep_leaves : (F : ℕ) (x : X) (p k e : ℕ) (s : Store X) → Leaves F s → On (Leaves F) (sweep M P L x p k e s)
  unfolding sweep
  sweep_leaves F x p zero e s w = w
  sweep_leaves F x p (suc k) e s w = on_then (Leaves F) (Leaves F) (entering M P L p e (M.gives e x) s) (sweep M P L x p k (suc e)) (entering_leaves F p e (M.gives e x) s w) (sweep_leaves F x p k (suc e))

  pub turn_leaves : (F : ℕ) (s : Store X) → Leaves (suc F) s → On (Leaves F) (turn M P L s)
  unfolding turn
  turn_leaves F s w = go (finds s.nodes)
    where
      go : {o : Option (Node X × List (Node X))} → Finds s.nodes o → On (Leaves F) (open_found M P L s o)
      go (all_opened a) = tt
      go (found {n = n} {os = os} k) =
          let u = found_unopened k in
          let l = w.little in
          sweep_leaves F n.state n.visit M.count 1 (store os s.visits s.entered) (record { short = w.short; little = omega arith })

  -- where nothing is left to do, the turn ends exploring
  pub last_turn : (s : Store X) → Leaves 0 s → On (λ _. ⊥) (turn M P L s)
  unfolding turn
  last_turn s w = go (finds s.nodes)
    where
      go : {o : Option (Node X × List (Node X))} → Finds s.nodes o → On (λ _. ⊥) (open_found M P L s o)
      go (all_opened a) = tt
      go (found k) = absurd (omega (arith, w.little, found_unopened k))

  pub leaves_left : (s : Store X) → length s.visits ≤ L → Leaves (left M P L s) s
  leaves_left s h = record { short = h; little = omega arith }
