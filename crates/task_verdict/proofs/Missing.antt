-- Where no state on the way is late, no job of it is.
use Rattle.std.proofs.Common.{◌≡◌, ℕ, true, false, List, [], ◌∷◌, Ok, Err, Result, refl, arith}
use Rattle.std.specs.List.{AllByRecursion}
use Rattle.std.proofs.lemmas.Bool.Decides.{nat_tests}
use Rattle.task_table.specs.declared.task.Task.{Task}
use Rattle.jobs.specs.declared.kind.Kind.{Kind}
use Rattle.jobs.specs.declared.refusal.JobRefusal.{JobRefusal}
use Rattle.job_state.specs.declared.state.State.{State}
use Rattle.job_state.specs.States.{fits, first, late}
use Rattle.policies.specs.Picks.{Pick}
use Rattle.transition.specs.declared.refusal.Refusal.{Refusal}
use Rattle.transition.specs.Laws.{Laws}
use Rattle.transition.specs.Runs.{after, way}
use Rattle.exploration.specs.Claims.{NeverLate}
use Rattle.task_laws.specs.Systems.{late_in, gives, meaning}
use Rattle.task_verdict.specs.Misses.{NeverMisses}

module _ (kind : Kind) (tasks : List Task) where
  pub late_then : (s : State) → late_in kind tasks s ≡ true → late tasks s ≡ true
  unfolding late_in
  late_then s h = grind (arith, nat_tests)

  in_time : (s : State) → fits kind tasks s ≡ true → late_in kind tasks s ≡ false → late tasks s ≡ false
  unfolding late_in
  in_time s f h = rw f at h

module _ (pick : Pick) (kind : Kind) (tasks : List Task) (W : Laws (meaning pick kind tasks)) where
  after_fits : (e : ℕ) (s : State) (o : Result State (Refusal JobRefusal)) → gives pick kind tasks e s ≡ o → fits kind tasks s ≡ true → fits kind tasks (after o s) ≡ true
  after_fits e s (Ok t) g f = W.result_fits e s t f g
  after_fits e s (Err r) g f = f

  way_misses : (es : List ℕ) (s : State) → fits kind tasks s ≡ true → AllByRecursion (λ t. late_in kind tasks t ≡ false) (way (meaning pick kind tasks) s es) → AllByRecursion (λ t. late tasks t ≡ false) (way (meaning pick kind tasks) s es)
  way_misses [] s f h = (in_time kind tasks s f h.0, tt)
  way_misses (e ∷ es) s f h =
      (in_time kind tasks s f h.0, way_misses es (after (gives pick kind tasks e s) s) (after_fits e s (gives pick kind tasks e s) refl f) h.1)

  pub never_misses : NeverLate (meaning pick kind tasks) → NeverMisses pick kind tasks
  never_misses h es = way_misses es (first kind tasks) W.first_fits (h es)
