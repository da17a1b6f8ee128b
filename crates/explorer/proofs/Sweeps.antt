-- Entering the results of a node's events, one event after another.
use Rattle.std.proofs.Common.{◌≡◌, ℕ, suc, ◌+◌, ◌-◌, ◌<◌, ◌≤◌, List, Some, None, Ok, Err, Option, sym, ap, ◌∙◌, add-one, arith}
use Rattle.transition.specs.declared.refusal.Refusal.{Refusal}
use Rattle.transition.specs.Meanings.{Meaning}
use Rattle.exploration.specs.declared.outcome.Outcome.{Outcome}
use Rattle.exploration.specs.Stores.{Store, on, over, then}
use Rattle.exploration.specs.Exploring.{enter, entering, sweep}
use Rattle.explorer.specs.Held.{going, ComesTo}

module _ {X R : Type 0} (M : Meaning X R) (P L : ℕ) (x : X) (p : ℕ) where
  -- with the events below e swept, exploring that was at one store is at another
  pub record Swept (e : ℕ) (before after : List X → Store X) : Type 0 where
    pub upto : e ≤ M.count + 1
    pub same : ComesTo (λ es. sweep M P L x p M.count 1 (before es)) (λ fs. sweep M P L x p (M.count + 1 - e) e (after fs))

  pub swept_none : (before : List X → Store X) → Swept 1 before before
  swept_none before =
      let all : M.count ≡ M.count + 1 - 1 = omega arith in
      record { upto = omega arith; same = λ es. (es, ap (λ k. sweep M P L x p k 1 (before es)) all) }

  pub swept_all : {e : ℕ} {before after : List X → Store X} → Swept e before after → M.count + 1 ≤ e → ComesTo (λ es. sweep M P L x p M.count 1 (before es)) (λ fs. on (after fs))
  unfolding sweep
  swept_all {e} {before} {after} h done es =
      let none : M.count + 1 - e ≡ 0 = omega arith in
      let found = h.same es in
      (found.0, found.1 ∙ ap (λ k. sweep M P L x p k e (after found.0)) none)

  module _ {e : ℕ} {before after : List X → Store X} (h : Swept e before after) (more : e < M.count + 1) where
    one : ComesTo (λ es. sweep M P L x p M.count 1 (before es)) (λ fs. then (entering M P L p e (M.gives e x) (after fs)) (sweep M P L x p (M.count + 1 - (e + 1)) (e + 1)))
    unfolding sweep
    one es =
        let found = h.same es in
        let next : M.count + 1 - e ≡ suc (M.count + 1 - (e + 1)) = omega arith in
        (found.0, found.1 ∙ ap (λ k. sweep M P L x p k e (after found.0)) next ∙ ap (λ f. then (entering M P L p e (M.gives e x) (after found.0)) (sweep M P L x p (M.count + 1 - (e + 1)) f)) (sym (add-one e)))

    pub swept_refused : (r : Refusal R) → M.gives e x ≡ Err r → Swept (e + 1) before after
    swept_refused r g = record {
      upto = omega arith;
      same = λ es. let found = one es in (found.0, found.1 ∙ ap (λ o. then (entering M P L p e o (after found.0)) (sweep M P L x p (M.count + 1 - (e + 1)) (e + 1))) g);
    }

    module _ {r : X} (g : M.gives e x ≡ Ok r) {P' L' : ℕ} (same_P : P' ≡ P) (same_L : L' ≡ L) (after' : List X → Store X) where
      entered : (o : Option Outcome) → ComesTo (λ es. enter M P' L' p e r (after es)) (λ fs. going o (after' fs)) → ComesTo (λ es. sweep M P L x p M.count 1 (before es)) (λ fs. then (going o (after' fs)) (sweep M P L x p (M.count + 1 - (e + 1)) (e + 1)))
      entered o n es =
          let found = one es in
          let led = n found.0 in (
            led.0,
            found.1
                ∙ ap (λ o. then (entering M P L p e o (after found.0)) (sweep M P L x p (M.count + 1 - (e + 1)) (e + 1))) g
                ∙ ap (λ m. then (enter M m L p e r (after found.0)) (sweep M P L x p (M.count + 1 - (e + 1)) (e + 1))) (sym same_P)
                ∙ ap (λ m. then (enter M P' m p e r (after found.0)) (sweep M P L x p (M.count + 1 - (e + 1)) (e + 1))) (sym same_L)
                ∙ ap (λ q. then q (sweep M P L x p (M.count + 1 - (e + 1)) (e + 1))) led.1,
          )

      pub swept_entered : ComesTo (λ es. enter M P' L' p e r (after es)) (λ fs. going None (after' fs)) → Swept (e + 1) before after'
      swept_entered n = record { upto = omega arith; same = entered None n }

      pub swept_over : (o : Outcome) → ComesTo (λ es. enter M P' L' p e r (after es)) (λ fs. going (Some o) (after' fs)) → ComesTo (λ es. sweep M P L x p M.count 1 (before es)) (λ fs. over o (after' fs))
      swept_over o n = entered (Some o) n
