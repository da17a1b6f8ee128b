use Rattle.std.proofs.Common.{◌≡◌, ◌++◌, take, drop}
use Rattle.job_state.specs.Lists.{over}
use Rattle.policies.specs.Layers.{hidden}
use Rattle.policies.proofs.high_first.hide_all.Given as goal

abbrev pub invariant-loop-i : goal.invariant-loop-i
invariant-loop-i l = take l.i l.jobs ++ over hidden (drop l.i l.tasks) (drop l.i l.jobs) ≡ over hidden l.tasks l.initial.jobs
