use Rattle.std.proofs.Common.{sym, ◌∙◌, inl, inr, arith}
use Rattle.job_state.proofs.Numbers.{release_far, release_near, released_others}
use Rattle.job_state.proofs.state.State.release.Goals as goal

pub returns-then-number-eq0 : goal.returns-then-number-eq0
returns-then-number-eq0 c =
    let far = release_far c.args.tasks.now c.args.number c.args.self.now (elim c.then-number-eq0.either [ inl e ↦ inl e | inr (inl h) ↦ inr (inl h.1) | inr (inr h) ↦ inr (inr h.2) ]) in
    record { answers = sym far.0; leaves = sym far.1; others = λ k ne. released_others c.args.number c.args.self.now k ne c.args.tasks.now _ (sym far.1) }

pub returns : goal.returns
returns c =
    let near = release_near c.args.tasks.now c.args.number c.args.self.now _ (omega arith) (omega arith) c.release.new.self c.release.ensures.leaves _ in
    record { answers = c.release.ensures.answers ∙ sym near.0; leaves = near.1; others = λ k ne. released_others c.args.number c.args.self.now k ne c.args.tasks.now _ near.1 }
