-- What the verdict tells, from what the outcome tells.
use Rattle.std.proofs.Common.{◌≡◌, ℕ, ◌<◌, ◌≤◌, true, false, ◌⊎◌, Some, sym, refl, ap, ◌∙◌, inl, inr, ⊎_elim, arith}
use Rattle.std.specs.List.{slice_get}
use Rattle.std.proofs.lemmas.Bool.{both_ways, cases_lt}
use Rattle.exploration.specs.declared.outcome.Outcome.{Outcome}
use Rattle.exploration.specs.declared.outcome.Outcome.TheVariants.{Schedulable, Unschedulable, TooLarge, VisitsFull, NodesFull}
use Rattle.exploration.specs.Claims.{NodesHonestlyFull, Enough}
use Rattle.exploration.proofs.Lists.{all_nth}
use Rattle.exploration.proofs.Runs.{reached_fits}
use Rattle.canal_lock.specs.declared.lock.Lock.{Lock}
use Rattle.canal_lock.specs.declared.lock.Chamber.{Chamber}
use Rattle.canal_lock.specs.Locks.{fits, simulates, meaning}
use Rattle.canal_lock.specs.Laws.{lawful}
use Rattle.canal_lock.specs.Lawful.{together}
use Rattle.lock_check.specs.declared.finding.Verdict.{Verdict}
use Rattle.lock_check.specs.declared.finding.Verdict.TheVariants as verdict
use Rattle.lock_check.specs.Findings.{Unlike, MoreUnlikeThan, Room, verdict_of}

-- the outcome behind a verdict
outcome_of : Verdict → Outcome
outcome_of verdict.Safe = Schedulable
outcome_of verdict.Unsafe = Unschedulable
outcome_of verdict.NodesFull = NodesFull
outcome_of verdict.VisitsFull = VisitsFull
outcome_of verdict.TooLarge = TooLarge

back : (o : Outcome) → outcome_of (verdict_of o) ≡ o
unfolding outcome_of
back Schedulable = refl
back Unschedulable = refl
back NodesFull = refl
back VisitsFull = refl
back TooLarge = refl

-- outcomes with one verdict are one outcome
pub same_outcome : (o p : Outcome) → verdict_of o ≡ verdict_of p → o ≡ p
same_outcome o p h = sym (back o) ∙ ap outcome_of h ∙ back p

either_way : (m n : ℕ) → (m ≤ n) ⊎ (n ≤ m)
either_way m n = ⊎_elim (λ (h : m < n). inl (omega arith)) (λ (h : n ≤ m). inr h) (cases_lt m n)

module _ (l : Lock) where
  -- fitting chambers that are alike simulate each other one way or the other
  unlike : (x y : Chamber) → fits l x ≡ true → fits l y ≡ true → simulates l x y ≡ false → simulates l y x ≡ false → Unlike x y
  unlike x y fx fy a b t k w =
      ⊎_elim
      (λ (h : x.pause ≤ y.pause). both_ways (simulates l x y) a (together l x y (fx, fy) t k w h))
      (λ (h : y.pause ≤ x.pause). both_ways (simulates l y x) b (together l y x (fy, fx) (sym t) (sym k) (sym w) h))
      (either_way x.pause y.pause)

  pub nodes_full : (P : ℕ) → NodesHonestlyFull (meaning l) P → MoreUnlikeThan l P
  nodes_full P h = (
    h.0,
    h.1,
    h.2,
    λ i j x y apart at_i at_j.
        let fit : (k : ℕ) (z : Chamber) → slice_get h.0 k ≡ Some z → fits l z ≡ true = λ k z e. reached_fits (meaning l) (lawful l) z (all_nth _ h.0 h.2 k z e) in
        unlike x y (fit i x at_i) (fit j y at_j) (h.3 i j x y apart at_i at_j) (h.3 j i y x (λ e. apart (sym e)) at_j at_i),
  )

  pub enough : (P L : ℕ) → Room l P L → Enough (meaning l) P L
  enough P L r = record { nodes = λ h. r.nodes (nodes_full P h); visits = r.visits; small = r.small }
