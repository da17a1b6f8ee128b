-- What a verdict tells, from what its outcome tells.
use Rattle.std.proofs.Common.{◌≡◌, ℕ, ◌≤◌, List, length, take, sym, refl, ap, ◌∙◌, arith}
use Rattle.std.proofs.lemmas.List.{length-take-le}
use Rattle.transition.specs.Meanings.{Meaning}
use Rattle.exploration.specs.declared.node.Node.{Node}
use Rattle.exploration.specs.declared.node.Visit.{Visit}
use Rattle.exploration.specs.declared.outcome.Outcome.{Outcome}
use Rattle.exploration.specs.declared.outcome.Outcome.TheVariants as outcome
use Rattle.exploration.specs.Stores.{Store}
use Rattle.exploration.specs.Claims.{Decides}
use Rattle.explorer.specs.Held.{shown}
use Rattle.verdict.specs.declared.judgement.Judgement.{Judgement}
use Rattle.verdict.specs.declared.judgement.Verdict.{Verdict}
use Rattle.verdict.specs.declared.judgement.Verdict.TheVariants.{Schedulable, Unschedulable, TooLarge, VisitsFull, NodesFull}
use Rattle.verdict.specs.Verdicts.{outcome_of, Decided, InFront}
use Rattle.verdict.proofs.Calls.{states_never_late}

module _ {F : Type 0} where
  told_schedulable : (v : Verdict F) → outcome_of v ≡ outcome.Schedulable → v ≡ Schedulable
  told_schedulable Schedulable h = refl
  told_schedulable (Unschedulable f) h = let z : ◌≡◌ {A = ℕ} 0 1 = cc in absurd (omega arith)
  told_schedulable TooLarge h = let z : ◌≡◌ {A = ℕ} 0 1 = cc in absurd (omega arith)
  told_schedulable VisitsFull h = let z : ◌≡◌ {A = ℕ} 0 1 = cc in absurd (omega arith)
  told_schedulable NodesFull h = let z : ◌≡◌ {A = ℕ} 0 1 = cc in absurd (omega arith)

  told_too_large : (v : Verdict F) → outcome_of v ≡ outcome.TooLarge → v ≡ TooLarge
  told_too_large Schedulable h = let z : ◌≡◌ {A = ℕ} 0 1 = cc in absurd (omega arith)
  told_too_large (Unschedulable f) h = let z : ◌≡◌ {A = ℕ} 0 1 = cc in absurd (omega arith)
  told_too_large TooLarge h = refl
  told_too_large VisitsFull h = let z : ◌≡◌ {A = ℕ} 0 1 = cc in absurd (omega arith)
  told_too_large NodesFull h = let z : ◌≡◌ {A = ℕ} 0 1 = cc in absurd (omega arith)

  abbrev judgement : Verdict F → ℕ → ℕ → Judgement F
  judgement v n m = record { verdict = v; nodes = n; visits = m }

  pub refused_whole : (v : Verdict F) (o : Outcome) (n m : ℕ) → outcome_of v ≡ o → o ≡ outcome.TooLarge → n ≡ 0 → m ≡ 0 → ◌≡◌ {A = Judgement F} (record { verdict = v; nodes = n; visits = m }) (record { verdict = TooLarge; nodes = 0; visits = 0 })
  refused_whole v o n m is large none none' = ap (λ w. judgement w n m) (told_too_large v (is ∙ large)) ∙ ap (λ k. judgement TooLarge k m) none ∙ ap (judgement TooLarge 0) none'

  pub decided : {S X R : Type 0} (means : S → Meaning X R) (s : S) (v : Verdict F) → Decides (means s) (outcome_of v) → Decided means s v
  decided means s v d = record {
    never_late = λ h. told_schedulable v (d.never_late (states_never_late means s h));
    ever_late = d.ever_late;
  }

taken : {X : Type 0} (n : ℕ) (xs ys : List X) → n ≤ length xs → take n xs ≡ ys → take (length ys) xs ≡ ys
taken n xs ys h e = ap (λ m. take m xs) (ap length (sym e) ∙ length-take-le n xs h) ∙ e

-- the same end, with the outcome as the verdict tells it
pub as_told : {X : Type 0} (p o : Outcome) (ns : List (Node X)) (vs : List Visit) (end : Outcome × List (Node X) × List Visit) → p ≡ o → (o, ns, vs) ≡ end → (p, ns, vs) ≡ end
as_told p o ns vs end is e = ap (λ q. (q, ns, vs)) is ∙ e

pub in_front : {X : Type 0} (o : Outcome) (end : Outcome × Store X) (ns : List (Node X)) (n : ℕ) (vs : List Visit) (v : ℕ) → n ≤ length ns → v ≤ length vs → (o, take n ns, take v vs) ≡ shown end → InFront o end ns vs
in_front {X} o end ns n vs v few-n few-v e =
    record {
      ended = sym (ap (λ (t : Outcome × List (Node X) × List Visit). t.0) e);
      nodes = taken n ns end.1.nodes few-n (ap (λ (t : Outcome × List (Node X) × List Visit). t.1) e);
      visits = taken v vs end.1.visits few-v (ap (λ (t : Outcome × List (Node X) × List Visit). t.2) e);
    }

pub never_both : outcome.Unschedulable ≡ outcome.TooLarge → ⊥
never_both h = let z : ◌≡◌ {A = ℕ} 0 1 = cc in omega arith
