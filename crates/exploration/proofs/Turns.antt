-- Exploring turn by turn: each turn leaves less to do, so the bound on turns plays no part.
use Rattle.std.proofs.Common.{◌≡◌, ℕ, zero, suc, ◌<◌, ◌≤◌, false, leb, length, refl, subst, inl, inr, arith}
use Rattle.std.proofs.lemmas.Bool.{le-leb, lt-leb, and_right}
use Rattle.transition.specs.Meanings.{Meaning}
use Rattle.exploration.specs.declared.outcome.Outcome.{Outcome}
use Rattle.exploration.specs.declared.outcome.Outcome.TheVariants.{TooLarge}
use Rattle.exploration.specs.Stores.{Store, on, over, then, nothing}
use Rattle.exploration.specs.Exploring.{enter, turn, turns, left, rest, exploring, most_nodes, most_visits, ended, explored}
use Rattle.exploration.specs.Claims.{IsTooLarge}
use Rattle.exploration.specs.Unrolling.{Unrolled}
use Rattle.exploration.proofs.Progress.{On, on_then, on_both, then_same, never_on, Leaves, enter_leaves, turn_leaves, last_turn, leaves_left}

module _ {X R : Type 0} (M : Meaning X R) (P L : ℕ) where
  turns_end : (F : ℕ) (s : Store X) → Leaves M P L F s → On (λ _. ⊥) (turns M P L (suc F) s)
  unfolding turns
  turns_end zero s w = on_then (λ _. ⊥) (λ _. ⊥) (turn M P L s) (turns M P L zero) (last_turn M P L s w) (λ t h. absurd h)
  turns_end (suc F) s w = on_then (Leaves M P L F) (λ _. ⊥) (turn M P L s) (turns M P L (suc F)) (turn_leaves M P L F s w) (turns_end F)

  turns_same : (F G : ℕ) (s : Store X) → Leaves M P L F s → Leaves M P L G s → turns M P L (suc F) s ≡ turns M P L (suc G) s
  unfolding turns
  turns_same zero G s a b = then_same (λ _. ⊥) (turn M P L s) (turns M P L zero) (turns M P L G) (last_turn M P L s a) (λ t h. absurd h)
  turns_same (suc F) zero s a b = then_same (λ _. ⊥) (turn M P L s) (turns M P L (suc F)) (turns M P L zero) (last_turn M P L s b) (λ t h. absurd h)
  turns_same (suc F) (suc G) s a b =
      then_same (λ t. Leaves M P L F t × Leaves M P L G t) (turn M P L s) (turns M P L (suc F)) (turns M P L (suc G))
      (on_both (Leaves M P L F) (Leaves M P L G) (turn M P L s) (turn_leaves M P L F s a) (turn_leaves M P L G s b))
      (λ t h. turns_same F G t h.0 h.1)

  -- a turn after which exploring goes on leaves less to do
  pub turn_less : (s t : Store X) → length s.visits ≤ L → turn M P L s ≡ on t → (length t.visits ≤ L) × (left M P L t < left M P L s)
  turn_less s t h e = go (left M P L s) refl
    where
      go : (F : ℕ) → left M P L s ≡ F → (length t.visits ≤ L) × (left M P L t < left M P L s)
      go zero q = absurd (subst (On (λ _. ⊥)) e (last_turn M P L s (record { short = h; little = omega arith })))
      go (suc F) q =
          let w : Leaves M P L F t = subst (On (Leaves M P L F)) e (turn_leaves M P L F s (record { short = h; little = omega arith })) in
          let l = w.little in
          (w.short, omega arith)

  -- the recursion, with no number of turns in it
  pub rest_turn : (s : Store X) → length s.visits ≤ L → rest M P L s ≡ then (turn M P L s) (rest M P L)
  unfolding rest turns
  rest_turn s h = go (left M P L s) refl
    where
      go : (F : ℕ) → left M P L s ≡ F → then (turn M P L s) (turns M P L F) ≡ then (turn M P L s) (rest M P L)
      go zero q = then_same (λ _. ⊥) (turn M P L s) (turns M P L zero) (rest M P L) (last_turn M P L s (record { short = h; little = omega arith })) (λ t h. absurd h)
      go (suc F) q =
          then_same (Leaves M P L F) (turn M P L s) (turns M P L (suc F)) (rest M P L) (turn_leaves M P L F s (record { short = h; little = omega arith }))
          (λ t w. turns_same F (left M P L t) t w (leaves_left M P L t w.short))

  begun : On (Leaves M P L L) (enter M P L 0 0 M.first nothing)
  begun = enter_leaves M P L L 0 0 M.first nothing (record { short = omega arith; little = omega arith })

  pub exploring_rest : exploring M P L ≡ then (enter M P L 0 0 M.first nothing) (rest M P L)
  unfolding exploring rest
  exploring_rest =
      then_same (Leaves M P L L) (enter M P L 0 0 M.first nothing) (turns M P L (suc L)) (rest M P L) begun
      (λ t w. turns_same L (left M P L t) t w (leaves_left M P L t w.short))

  -- the bound on turns is never reached
  pub exploring_ends : (o : Outcome) × ((s : Store X) × (exploring M P L ≡ over o s))
  unfolding exploring
  exploring_ends = never_on (exploring M P L) (on_then (Leaves M P L L) (λ _. ⊥) (enter M P L 0 0 M.first nothing) (turns M P L (suc L)) begun (turns_end L))

  pub unrolled : Unrolled M P L
  unrolled = record { starts = exploring_rest; goes_on = rest_turn; leaves_less = turn_less; ends = exploring_ends }

  -- memory that is not too large is explored with
  pub explored_within : P ≤ most_nodes → L ≤ most_visits → explored M P L ≡ ended (exploring M P L)
  unfolding explored
  explored_within p l = rw (le-leb P most_nodes p, le-leb L most_visits l)

  pub explored_too_large : IsTooLarge P L → explored M P L ≡ (TooLarge, nothing)
  unfolding explored
  explored_too_large (inl p) = rw (lt-leb P most_nodes p)
  explored_too_large (inr l) = rw (lt-leb L most_visits l, and_right (leb P most_nodes) false refl)
