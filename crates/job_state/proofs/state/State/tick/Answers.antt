use Rattle.std.proofs.Common.{◌≡◌, ℕ, ◌<◌, ◌≤◌, true, ◌⊎◌, length, Option, sym, ap, ◌∙◌, subst, inl, inr, arith}
use Rattle.task_table.specs.declared.mode.Mode.{Mode}
use Rattle.jobs.specs.Jobs.{fits_job}
use Rattle.job_state.specs.Lists.{every, any}
use Rattle.job_state.specs.States.{fits}
use Rattle.job_state.specs.Ticks.{over_budget, ticked}
use Rattle.std.proofs.lemmas.Bool.{cond-true}
use Rattle.job_state.proofs.Numbers.{unnumbered}
use Rattle.job_state.proofs.Serves.{fits_within, every_few, tick_none, tick_nobody, tick_served}
use Rattle.job_state.proofs.state.State.tick.Goals as goal

pub serve-requires : goal.serve-requires
unfolding fits
serve-requires c =
    let s = c.args.self.now in
    let ts = c.args.tasks.now in
    let fitting : every (fits_job c.args.kind s.mode) ts s.jobs ≡ true = sym c.if-not-fits.ensures in
    let few : length ts ≤ length s.jobs = every_few (fits_job c.args.kind s.mode) ts s.jobs fitting in
    record {
      above = c.if-number-ge1.true;
      task = c.if-number-tasks.true;
      job = omega (arith, s.wide);
      room = λ low. ap (any over_budget ts) c.wait_all.ensures ∙ fits_within c.args.kind ts s.jobs (subst (λ (m : Mode). every (fits_job c.args.kind m) ts s.jobs ≡ true) low fitting);
    }

pub returns-then-number-tasks : goal.returns-then-number-tasks
returns-then-number-tasks c =
    let s = c.args.self.now in
    let ts = c.args.tasks.now in
    let fitting = sym c.if-not-fits.ensures in
    let is = tick_served ts c.args.finishing s c.wait_all.new.jobs c.wait_all.ensures _ c.in-Some.number c.serve.new.self c.serve.ensures in
    record {
      answers = sym (cond-true _ _ _ fitting);
      leaves = is ∙ (ap (λ (o : Option ℕ). ticked ts c.args.finishing o s) (sym c.in-Some.is) ∙ sym (cond-true _ _ _ fitting));
    }

pub returns-else-number-ge1 : goal.returns-else-number-ge1
returns-else-number-ge1 c =
    let s = c.args.self.now in
    let ts = c.args.tasks.now in
    let fitting = sym c.if-not-fits.ensures in
    let far : (c.in-Some.number ≡ 0) ⊎ (length ts < c.in-Some.number) = elim c.else-number-ge1.either [ inl h ↦ inr h.1 | inr h ↦ inl (omega arith) ] in
    let is = tick_nobody ts c.args.finishing s c.wait_all.new.jobs c.wait_all.ensures _ c.in-Some.number (unnumbered ts c.in-Some.number far) in
    record {
      answers = sym (cond-true _ _ _ fitting);
      leaves = is ∙ (ap (λ (o : Option ℕ). ticked ts c.args.finishing o s) (sym c.in-Some.is) ∙ sym (cond-true _ _ _ fitting));
    }

pub returns-in_default : goal.returns-in_default
returns-in_default c =
    let s = c.args.self.now in
    let ts = c.args.tasks.now in
    let fitting = sym c.if-not-fits.ensures in
    let is = tick_none ts c.args.finishing s c.wait_all.new.jobs c.wait_all.ensures _ in
    record {
      answers = sym (cond-true _ _ _ fitting);
      leaves = is ∙ (ap (λ (o : Option ℕ). ticked ts c.args.finishing o s) (sym c.in_default.is) ∙ sym (cond-true _ _ _ fitting));
    }
