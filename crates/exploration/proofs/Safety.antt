-- What closed states show, and that no system is both never late and ever late.
use Rattle.std.proofs.Common.{◌≡◌, ℕ, Bool, true, false, List, [], ◌∷◌, Some, Ok, Err, Result, refl}
use Rattle.std.specs.List.{AllByRecursion}
use Rattle.std.proofs.lemmas.Bool.{both_ways}
use Rattle.transition.specs.declared.refusal.Refusal.{Refusal}
use Rattle.transition.specs.Meanings.{Meaning}
use Rattle.transition.specs.Laws.{Laws}
use Rattle.transition.specs.Runs.{after, way, replay}
use Rattle.exploration.specs.Exploring.{simulated}
use Rattle.exploration.specs.Claims.{Closed, NeverLate, EverLate}
use Rattle.exploration.proofs.Runs.{onward_some}
use Rattle.exploration.proofs.Nodes.{simulated_by, simulated_through}

module _ {X R : Type 0} (M : Meaning X R) (W : Laws M) (xs : List X) (C : Closed M xs) where
  after_simulated : (e : ℕ) (y : X) → simulated M xs y ≡ true → (o : Result X (Refusal R)) → M.gives e y ≡ o → simulated M xs (after o y) ≡ true
  after_simulated e y h (Err r) q = h
  after_simulated e y h (Ok z) q =
      let b = simulated_by M xs y _ h C.holds_next in
      let w = W.simulates_events e b.0 y z b.1 q in
      simulated_through M W xs w.0 z w.2 (b.2 e w.0 w.1)

  not_late : (y : X) → simulated M xs y ≡ true → (b : Bool) → M.late y ≡ b → M.late y ≡ false
  not_late y h false q = q
  not_late y h true q =
      let b = simulated_by M xs y _ h C.none_doomed in
      absurd (both_ways (M.doomed b.0) b.2 (W.simulates_doom b.0 y b.1 (W.late_doomed y q)))

  way_safe : (es : List ℕ) (y : X) → simulated M xs y ≡ true → AllByRecursion (λ x. M.late x ≡ false) (way M y es)
  way_safe [] y h = (not_late y h (M.late y) refl, tt)
  way_safe (e ∷ es) y h = (not_late y h (M.late y) refl, way_safe es (after (M.gives e y) y) (after_simulated e y h (M.gives e y) refl))

  pub closed_never_late : NeverLate M
  closed_never_late es = way_safe es M.first C.holds_first

module _ {X R : Type 0} (M : Meaning X R) where
  -- the state that accepted events lead to is on the way
  way_ends : (Q : X → Type 0) (es : List ℕ) (x z : X) → replay M x es ≡ Some z → AllByRecursion Q (way M x es) → Q z
  way_ends Q [] x z a h = let k : x ≡ z = cc in rw (← k) h.0
  way_ends Q (e ∷ es) x z a h =
      let k = onward_some (M.gives e x) (λ w. replay M w es) z a in
      way_ends Q es k.0 z k.2 (rw k.1 at h.1)

  pub never_ever_late : NeverLate M → EverLate M → ⊥
  never_ever_late n h = both_ways (M.late h.0) (way_ends (λ x. M.late x ≡ false) h.1.0 M.first h.0 h.1.1 (n h.1.0)) h.2
