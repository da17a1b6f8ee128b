use Rattle.std.proofs.Common.{◌≡◌, ◌++◌, drop, vec_items}
use Rattle.task_runs.specs.Ticking.{ticks}
use Rattle.task_runs.proofs.ticking.list_ticks.Given as goal

-- the ticks so far with those of what is left of the steps are all ticks
abbrev pub invariant-loop-step : goal.invariant-loop-step
invariant-loop-step g l =
    let pick = g.P.Policy.picks l.policy in
    vec_items l.listed ++ ticks pick l.tasks l.before (drop l.step-index l.steps) ≡ ticks pick l.tasks l.initial.before l.steps
