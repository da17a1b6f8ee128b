-- A lock that is ready again before a boat has waited too long is never late.
use Rattle.std.proofs.Common.{◌≡◌, ℕ, ◌<◌, true, false, List, [], ◌∷◌, Ok, Err, Result, sym, refl, subst, ⊎_elim, arith}
use Rattle.std.proofs.lemmas.Bool.{both_ways, cases_Bool}
use Rattle.std.proofs.lemmas.Bool.Decides.{nat_tests}
use Rattle.transition.specs.declared.refusal.Refusal.{Refusal}
use Rattle.transition.specs.Runs.{after, walk}
use Rattle.canal_lock.specs.declared.lock.Lock.{Lock}
use Rattle.canal_lock.specs.declared.lock.Chamber.{Chamber}
use Rattle.canal_lock.specs.declared.refusal.LockRefusal.{LockRefusal}
use Rattle.canal_lock.specs.Locks.{calm, fits, late, doomed, come, tick, gives, meaning}
use Rattle.canal_lock.specs.Lawful.{accepted, result_fits, late_doomed, first_fits, first_not_doomed}

module _ (l : Lock) (prompt : l.fill < l.patience) where
  -- a fitting state that is not doomed
  record Safe (x : Chamber) : Type 0 where
    fit : fits l x ≡ true
    spared : doomed l x ≡ false

  come_spared : (x : Chamber) → fits l x ≡ true → doomed l (come l x) ≡ false
  come_spared x f = grind (arith, nat_tests)

  tick_spared : (x : Chamber) → fits l x ≡ true → doomed l x ≡ false → doomed l (tick l x) ≡ false
  tick_spared x f s = ⊎_elim (λ (b : x.boat ≡ true). grind (arith, nat_tests)) (λ (b : x.boat ≡ false). grind (arith, nat_tests)) (cases_Bool x.boat)

  safe_next : (e : ℕ) (x : Chamber) (r : Result Chamber (Refusal LockRefusal)) → gives l e x ≡ r → Safe x → Safe (after r x)
  safe_next e x (Err f) g s = s
  safe_next e x (Ok y) g s = record {
    fit = result_fits l e x y s.fit g;
    spared =
        ⊎_elim
        (λ h. subst (λ z. doomed l z ≡ false) (sym h.3) (come_spared x s.fit))
        (λ h. subst (λ z. doomed l z ≡ false) (sym h.1) (tick_spared x s.fit s.spared))
        (accepted l e x y g);
  }

  safe_walk : (es : List ℕ) (x : Chamber) → Safe x → Safe (walk (meaning l) x es)
  safe_walk [] x s = s
  safe_walk (e ∷ es) x s = safe_walk es (after (gives l e x) x) (safe_next e x (gives l e x) refl s)

  pub never_late : (es : List ℕ) → late l (walk (meaning l) calm es) ≡ false
  never_late es =
      let end = walk (meaning l) calm es in
      let s = safe_walk es calm (record { fit = first_fits l; spared = first_not_doomed l }) in
      ⊎_elim (λ was. absurd (both_ways (doomed l end) s.spared (late_doomed l end was))) (λ not_late. not_late) (cases_Bool (late l end))
