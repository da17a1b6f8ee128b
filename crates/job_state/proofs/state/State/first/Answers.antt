use Rattle.std.proofs.Common.{rules, refl, ◌∙◌}
use Rattle.jobs.specs.declared.job.Job.TheVariants.{Idle}
use Rattle.jobs.specs.Tasks.{first_wait}
use Rattle.job_state.specs.States.{first}
use Rattle.job_state.proofs.Sames.{same_state}
use Rattle.job_state.proofs.Loops.{over_absent}
use Rattle.job_state.proofs.state.State.first.Goals as goal

pub returns : goal.returns
unfolding first
returns c = same_state _ _ refl (c.change_all.ensures (λ t _. Idle (first_wait c.args.kind t)) (λ t x r e. search rules) ∙ over_absent c.args.kind c.args.tasks.now 8)
