use Rattle.std.proofs.Common.{◌≡◌, false, ◌++◌, take, drop}
use Rattle.job_state.specs.Lists.{any, over}
use Rattle.job_state.specs.Ticks.{raised_job, over_budget}
use Rattle.job_state.proofs.state.ticks.raise_all.Given as goal

abbrev pub invariant-loop-i : goal.invariant-loop-i
invariant-loop-i l =
    (take l.i l.jobs ++ over raised_job (drop l.i l.tasks) (drop l.i l.jobs) ≡ over raised_job l.tasks l.initial.jobs)
    × (any over_budget (drop l.i l.tasks) (drop l.i l.jobs) ≡ false)
