-- What calls leave of a run, and that whatever no state is, no moment is.
use Rattle.std.proofs.Common.{◌≡◌, ℕ, Bool, true, false, ◌||◌, List, [], ◌∷◌, sym, refl, ap, ◌∙◌}
use Rattle.std.specs.List.{AllByRecursion}
use Rattle.transition.specs.declared.run.Run.{Run}
use Rattle.transition.specs.Meanings.{Meaning}
use Rattle.transition.specs.Runs.{after, walk, way}
use Rattle.exploration.specs.Claims.{NeverLate}
use Rattle.verdict.specs.Moments.{begun, called, calls, moments, late_run, any_late, RunsNeverLate}

module _ {S X R : Type 0} where
  abbrev pub run_at : S → X → Run S X R
  run_at s x = record { system = s; state = x }

  -- runs of one system in one state are the same
  pub same_run : (r : Run S X R) (s : S) (x : X) → r.system ≡ s → r.state ≡ x → r ≡ run_at s x
  same_run r s x a b = ap (λ t. run_at t r.state) a ∙ ap (run_at s) b

or_false : (b : Bool) → b ≡ (b || false)
or_false true = refl
or_false false = refl

module _ {S X R : Type 0} (means : S → Meaning X R) where
  -- calls on a run of the system are a walk of its states
  pub calls_walk : (s : S) (es : List ℕ) (x : X) → calls means (run_at s x) es ≡ run_at s (walk (means s) x es)
  calls_walk s [] x = refl
  calls_walk s (e ∷ es) x = calls_walk s es (after ((means s).gives e x) x)

  pub made_of_new : (s : S) (new r : Run S X R) (es : List ℕ) → new.system ≡ s → new.state ≡ (means s).first → r.system ≡ new.system → r.state ≡ walk (means new.system) new.state es → r ≡ calls means (begun means s) es
  made_of_new s new r es of begins stays walks =
      let begun_is = same_run new s (means s).first of begins in
      same_run r new.system (walk (means new.system) new.state es) stays walks
      ∙ ap (λ q. run_at q.system (walk (means q.system) q.state es)) begun_is ∙ sym (calls_walk s es (means s).first)

  pub late_now : (r : Run S X R) (es : List ℕ) → late_run means r ≡ true → any_late means (moments means r es) ≡ true
  late_now r [] h = rw h
  late_now r (e ∷ es) h = rw h

  pub late_at_end : (r : Run S X R) → late_run means r ≡ any_late means (moments means r [])
  late_at_end r = or_false (late_run means r)

  pub not_yet : (r : Run S X R) (e : ℕ) (es : List ℕ) → late_run means r ≡ false → any_late means (moments means r (e ∷ es)) ≡ any_late means (moments means (called means r e) es)
  not_yet r e es h = rw h

  way_moments : (s : S) (es : List ℕ) (x : X) → AllByRecursion (λ y. (means s).late y ≡ false) (way (means s) x es) → AllByRecursion (λ r. late_run means r ≡ false) (moments means (run_at s x) es)
  way_moments s [] x h = h
  way_moments s (e ∷ es) x h = (h.0, way_moments s es (after ((means s).gives e x) x) h.1)

  -- where no state on the way is late, no moment of a run is
  pub runs_never_late : (s : S) → NeverLate (means s) → RunsNeverLate means s
  runs_never_late s h es = way_moments s es (means s).first (h es)

  moments_way : (s : S) (es : List ℕ) (x : X) → AllByRecursion (λ r. late_run means r ≡ false) (moments means (run_at s x) es) → AllByRecursion (λ y. (means s).late y ≡ false) (way (means s) x es)
  moments_way s [] x h = h
  moments_way s (e ∷ es) x h = (h.0, moments_way s es (after ((means s).gives e x) x) h.1)

  pub states_never_late : (s : S) → RunsNeverLate means s → NeverLate (means s)
  states_never_late s h es = moments_way s es (means s).first (h es)
