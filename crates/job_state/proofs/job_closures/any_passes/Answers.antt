use Rattle.std.proofs.Common.{is_some, ap, ◌∙◌}
use Rattle.job_state.proofs.Loops.{some_lowest}
use Rattle.job_state.proofs.job_closures.any_passes.Goals as goal

pub returns : goal.returns
returns g c = λ passes h. c.is_some.ensures ∙ (ap is_some (c.lowest_passing.ensures passes h) ∙ some_lowest passes 0 _ _)
