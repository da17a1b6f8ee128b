-- A late chamber is one with an overdue boat.
use Rattle.std.proofs.Common.{◌≡◌, ℕ, true, false, List, [], ◌∷◌, Ok, Err, Result, refl, ⊎_elim, arith}
use Rattle.std.specs.List.{AllByRecursion}
use Rattle.std.proofs.ByRecursion.{All-weaker}
use Rattle.std.proofs.lemmas.Bool.{cases_Bool, both_ways}
use Rattle.std.proofs.lemmas.Bool.Decides.{nat_tests}
use Rattle.transition.specs.declared.refusal.Refusal.{Refusal}
use Rattle.transition.specs.Runs.{after, way, Reached}
use Rattle.exploration.specs.Claims.{NeverLate, EverLate}
use Rattle.exploration.proofs.Runs.{reached_fits}
use Rattle.canal_lock.specs.declared.lock.Lock.{Lock}
use Rattle.canal_lock.specs.declared.lock.Chamber.{Chamber}
use Rattle.canal_lock.specs.declared.refusal.LockRefusal.{LockRefusal}
use Rattle.canal_lock.specs.Locks.{fits, late, gives, calm, meaning}
use Rattle.canal_lock.specs.Laws.{lawful}
use Rattle.lock_check.specs.Findings.{Overdue, NeverOverdue, EverOverdue}

module _ (l : Lock) where
  pub late_overdue : (x : Chamber) → late l x ≡ true → Overdue l x
  late_overdue x h = (grind (arith, nat_tests), grind (arith, nat_tests))

  pub overdue_late : (x : Chamber) → fits l x ≡ true → Overdue l x → late l x ≡ true
  overdue_late x f h = grind (arith, nat_tests, h.0, h.1)

  not_overdue : (x : Chamber) → fits l x ≡ true → late l x ≡ false → Overdue l x → ⊥
  not_overdue x f n h = both_ways (late l x) n (overdue_late x f h)

  not_late : (x : Chamber) → (Overdue l x → ⊥) → late l x ≡ false
  not_late x h = ⊎_elim (λ (was : late l x ≡ true). absurd (h (late_overdue x was))) (λ was-not. was-not) (cases_Bool (late l x))

  after_fits : (e : ℕ) (x : Chamber) (o : Result Chamber (Refusal LockRefusal)) → gives l e x ≡ o → fits l x ≡ true → fits l (after o x) ≡ true
  after_fits e x (Ok y) g f = (lawful l).result_fits e x y f g
  after_fits e x (Err r) g f = f

  way_overdue : (es : List ℕ) (x : Chamber) → fits l x ≡ true → AllByRecursion (λ y. late l y ≡ false) (way (meaning l) x es) → AllByRecursion (λ y. Overdue l y → ⊥) (way (meaning l) x es)
  way_overdue [] x f h = (not_overdue x f h.0, tt)
  way_overdue (e ∷ es) x f h =
      (not_overdue x f h.0, way_overdue es (after (gives l e x) x) (after_fits e x (gives l e x) refl f) h.1)

  pub never_overdue : NeverLate (meaning l) → NeverOverdue l
  never_overdue h es = way_overdue es calm (lawful l).first_fits (h es)

  pub never_late : NeverOverdue l → NeverLate (meaning l)
  never_late h es = All-weaker _ _ not_late (way (meaning l) calm es) (h es)

  pub ever_overdue : EverLate (meaning l) → EverOverdue l
  ever_overdue h = (h.1.0, (h.0, h.1.1, late_overdue h.0 h.2))

  pub ever_late : EverOverdue l → EverLate (meaning l)
  ever_late h =
      let r : Reached (meaning l) h.1.0 = (h.0, h.1.1) in
      (h.1.0, r, overdue_late h.1.0 (reached_fits (meaning l) (lawful l) h.1.0 r) h.1.2)
