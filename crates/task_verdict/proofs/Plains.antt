-- A verdict is known by what is kept of it.
use Rattle.std.proofs.Common.{◌≡◌, Ok, Result, refl, ap, ◌∙◌}
use Rattle.std.specs.declared.alloc.AllocError.{AllocError}
use Rattle.job_state.specs.declared.state.State.{State}
use Rattle.verdict.specs.declared.judgement.Failure.{Failure}
use Rattle.verdict.specs.declared.judgement.Judgement.{Judgement}
use Rattle.verdict.specs.declared.judgement.Verdict.{Verdict}
use Rattle.verdict.specs.declared.judgement.Verdict.TheVariants.{Schedulable, Unschedulable, TooLarge, VisitsFull, NodesFull}
use Rattle.verdict.specs.Maps.{Maps}
use Rattle.verdict.specs.Verdicts.{outcome_of}
use Rattle.task_verdict.specs.declared.finding.LateRun.{LateRun}
use Rattle.task_verdict.specs.Plain.{state_alone}

-- the verdict with the states alone
abbrev pub plain : {S R : Type 0} → Verdict (Failure S State R) → Verdict LateRun
plain Schedulable = Schedulable
plain (Unschedulable f) = Unschedulable (state_alone f)
plain TooLarge = TooLarge
plain VisitsFull = VisitsFull
plain NodesFull = NodesFull

pub plain_mapped : {S R : Type 0} (Q : Failure S State R → LateRun → Type 0) → ((f : Failure S State R) (l : LateRun) → Q f l → l ≡ state_alone f) → (v : Verdict (Failure S State R)) (w : Verdict LateRun) → Maps Q v w → w ≡ plain v
plain_mapped Q alone Schedulable w h = h
plain_mapped Q alone (Unschedulable f) w h = h.2 ∙ ap (λ l. Unschedulable l) (alone f h.0 h.1)
plain_mapped Q alone TooLarge w h = h
plain_mapped Q alone VisitsFull w h = h
plain_mapped Q alone NodesFull w h = h

module _ {S R : Type 0} (s : S) where
  -- the failing run of the system that ends in the state
  abbrev pub failure : LateRun → Failure S State R
  failure f = record { events = f.events; forced = f.forced; run = record { system = s; state = f.state } }

  -- the verdict on the system of which this was kept
  abbrev pub restored : Verdict LateRun → Verdict (Failure S State R)
  restored Schedulable = Schedulable
  restored (Unschedulable f) = Unschedulable (failure f)
  restored TooLarge = TooLarge
  restored VisitsFull = VisitsFull
  restored NodesFull = NodesFull

  abbrev with_system : Failure S State R → S → Verdict (Failure S State R)
  with_system f q = Unschedulable (record { events = f.events; forced = f.forced; run = record { system = q; state = f.run.state } })

  restores : (v : Verdict (Failure S State R)) → ((f : Failure S State R) → v ≡ Unschedulable f → f.run.system ≡ s) → v ≡ restored (plain v)
  restores Schedulable of = refl
  restores (Unschedulable f) of = ap (with_system f) (of f refl)
  restores TooLarge of = refl
  restores VisitsFull of = refl
  restores NodesFull of = refl

  -- a verdict on the system of which this was kept
  pub known : (v : Verdict (Failure S State R)) (w : Verdict LateRun) → ((f : Failure S State R) → v ≡ Unschedulable f → f.run.system ≡ s) → plain v ≡ w → v ≡ restored w
  known v w of h = restores v of ∙ ap restored h

pub same_outcome : {S R : Type 0} (v : Verdict (Failure S State R)) → outcome_of (plain v) ≡ outcome_of v
same_outcome Schedulable = refl
same_outcome (Unschedulable f) = refl
same_outcome TooLarge = refl
same_outcome VisitsFull = refl
same_outcome NodesFull = refl

-- what is kept of a judgement
abbrev kept_of : {S R : Type 0} → Judgement (Failure S State R) → Judgement LateRun
kept_of j = record { verdict = plain j.verdict; nodes = j.nodes; visits = j.visits }

abbrev with_verdict : {S R : Type 0} → Judgement (Failure S State R) → Verdict LateRun → Judgement LateRun
with_verdict j w = record { verdict = w; nodes = j.nodes; visits = j.visits }

pub refused_whole : {S R : Type 0} (j : Judgement (Failure S State R)) (w : Verdict LateRun) → w ≡ plain j.verdict → ◌≡◌ {A = Result (Judgement (Failure S State R)) AllocError} (Ok j) (Ok (record { verdict = TooLarge; nodes = 0; visits = 0 })) → ◌≡◌ {A = Result (Judgement LateRun) AllocError} (Ok (record { verdict = w; nodes = j.nodes; visits = j.visits })) (Ok (record { verdict = TooLarge; nodes = 0; visits = 0 }))
refused_whole {S} j w is e =
    let same : j ≡ record { verdict = TooLarge; nodes = 0; visits = 0 } = cc in
    ap Ok (ap (with_verdict j) is ∙ ap kept_of same)
