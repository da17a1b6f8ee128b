-- What calls of events do to a run.
use Rattle.std.specs.Prelude.{◌≡◌, ℕ, Bool, false, ◌||◌, List, [], ◌∷◌}
use Rattle.std.specs.List.{AllByRecursion}
use Rattle.transition.specs.declared.run.Run.{Run}
use Rattle.transition.specs.Meanings.{Meaning}
use Rattle.transition.specs.Runs.{after}

module _ {S X R : Type 0} (means : S → Meaning X R) where
  -- a new run of the system
  abbrev pub begun : S → Run S X R
  begun s = record { system = s; state = (means s).first }

  -- the run that a call of the event leaves; a refused event leaves it as it was
  abbrev pub called : Run S X R → ℕ → Run S X R
  called r e = record { system = r.system; state = after ((means r.system).gives e r.state) r.state }

  -- the run that calls of the events in turn leave
  abbrev pub calls : Run S X R → List ℕ → Run S X R
  calls r [] = r
  calls r (e ∷ es) = calls (called r e) es

  -- the run at every moment while the events are called, the moment before the first call included
  abbrev pub moments : Run S X R → List ℕ → List (Run S X R)
  moments r [] = r ∷ []
  moments r (e ∷ es) = r ∷ moments (called r e) es

  -- whether what must never happen has happened in the run
  abbrev pub late_run : Run S X R → Bool
  late_run r = (means r.system).late r.state

  -- whether one of the runs is late
  abbrev pub any_late : List (Run S X R) → Bool
  any_late [] = false
  any_late (r ∷ rs) = late_run r || any_late rs

  -- whatever events are called on a new run of the system, accepted or refused, at no moment is it late
  abbrev pub RunsNeverLate : S → Type 0
  RunsNeverLate s = (es : List ℕ) → AllByRecursion (λ r. late_run r ≡ false) (moments (begun s) es)
