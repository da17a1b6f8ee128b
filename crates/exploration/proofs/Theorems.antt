-- The end of exploring tells what it should of the system, and decides with enough memory.
use Rattle.std.proofs.Common.{◌≡◌, ℕ, ◌≤◌, ◌⊎◌, [], None, sym, refl, ap, ◌∙◌, subst, inl, inr, arith}
use Rattle.std.proofs.lemmas.Bool.{cases_lt}
use Rattle.transition.specs.Meanings.{Meaning}
use Rattle.transition.specs.Laws.{Laws}
use Rattle.exploration.specs.declared.outcome.Outcome.{Outcome}
use Rattle.exploration.specs.declared.outcome.Outcome.TheVariants.{Schedulable, Unschedulable, TooLarge, VisitsFull, NodesFull}
use Rattle.exploration.specs.Stores.{Store, nothing, states}
use Rattle.exploration.specs.Exploring.{most_nodes, most_visits, ended, explored}
use Rattle.exploration.specs.Claims.{IsTooLarge, Enough, Tells, Decides}
use Rattle.exploration.proofs.Lists.{none_some, numbered_within}
use Rattle.exploration.proofs.Turns.{exploring_ends, explored_within, explored_too_large}
use Rattle.exploration.proofs.Safety.{closed_never_late, never_ever_late}
use Rattle.exploration.proofs.Runs.{shown_ever_late}
use Rattle.exploration.proofs.Ends.{Answer, End}
use Rattle.exploration.proofs.Preservation.{exploring_end}

module _ {X R : Type 0} (M : Meaning X R) (P L : ℕ) where
  end_tells : Laws M → (o : Outcome) (s : Store X) → (IsTooLarge P L → o ≡ TooLarge) → End M P L o s → Tells M P L o s
  end_tells W o s refused E = record {
    never_late = λ q. closed_never_late M W (states s.nodes) (so q);
    closed = so;
    ever_late = λ q. shown_ever_late M s.visits (so q);
    shown_late = so;
    nodes_full = so;
    visits_full = so;
    too_large = so;
    refused = refused;
    every_visit = E.every;
    antichain = E.chain_free;
  }
    where
      so : {o' : Outcome} → o ≡ o' → Answer M P L o' s
      so q = subst (λ o'. Answer M P L o' s) q E.answer

  too_large_end : IsTooLarge P L → End M P L TooLarge nothing
  too_large_end h = record {
    answer = (h, refl);
    every = record { as_many = refl; leads = λ k x a. absurd (omega (arith, numbered_within [] k x a)); different = λ i j x y n a b. none_some None x refl a; reached = tt; fitting = tt };
    chain_free = record { none_simulates = λ i j x y n a b. none_some None x refl a; by_visits = tt; few_nodes = omega arith; few_visits = omega arith };
  }

  -- however much memory is lent, the end of exploring tells what it should
  pub exploring_tells : Laws M → Tells M P L (explored M P L).0 (explored M P L).1
  exploring_tells W = elim (cases_lt most_nodes P) [
    | inl p ↦ refused (inl p)
    | inr p ↦ elim (cases_lt most_visits L) [ inl l ↦ refused (inr l) | inr l ↦ taken p l ]
  ]
    where
      refused : IsTooLarge P L → Tells M P L (explored M P L).0 (explored M P L).1
      refused h = subst (λ e. Tells M P L e.0 e.1) (sym (explored_too_large M P L h)) (end_tells W TooLarge nothing (λ _. refl) (too_large_end h))

      taken : P ≤ most_nodes → L ≤ most_visits → Tells M P L (explored M P L).0 (explored M P L).1
      taken p l =
          let e = exploring_ends M P L in
          let fits : IsTooLarge P L → ⊥ = elim [ inl h ↦ omega arith | inr h ↦ omega arith ] in
          subst (λ e. Tells M P L e.0 e.1) (sym (explored_within M P L p l ∙ ap ended e.1.1)) (end_tells W e.0 e.1.0 (λ h. absurd (fits h)) (exploring_end M P L W e.0 e.1.0 e.1.1))

  decided : (o : Outcome) (s : Store X) → Tells M P L o s → Enough M P L → (o ≡ Schedulable) ⊎ (o ≡ Unschedulable)
  decided Schedulable s T E = inl refl
  decided Unschedulable s T E = inr refl
  decided TooLarge s T E = absurd (E.small (T.too_large refl).0)
  decided VisitsFull s T E = absurd (E.visits (T.visits_full refl))
  decided NodesFull s T E = absurd (E.nodes (T.nodes_full refl))

  -- with enough memory the outcome says whether the system is ever late
  pub exploring_decides : Laws M → Enough M P L → Decides M (explored M P L).0
  exploring_decides W E =
      let T = exploring_tells W in
      let d = decided (explored M P L).0 (explored M P L).1 T E in
      record {
        never_late = λ n. elim d [ inl q ↦ q | inr q ↦ absurd (never_ever_late M n (T.ever_late q)) ];
        ever_late = λ h. elim d [ inl q ↦ absurd (never_ever_late M (T.never_late q) h) | inr q ↦ q ];
      }
