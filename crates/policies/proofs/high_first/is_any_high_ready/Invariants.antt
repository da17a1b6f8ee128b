use Rattle.std.proofs.Common.{◌≡◌}
use Rattle.job_state.specs.Lists.{any}
use Rattle.policies.specs.Layers.{high_ready}
use Rattle.policies.proofs.high_first.is_any_high_ready.Given as goal

abbrev pub invariant-loop-task : goal.invariant-loop-task
invariant-loop-task l = any high_ready l.task-iterator.a.rest.now l.task-iterator.b.rest.now ≡ any high_ready l.tasks l.jobs
