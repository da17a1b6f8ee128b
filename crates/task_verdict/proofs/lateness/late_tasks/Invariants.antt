use Rattle.std.proofs.Common.{◌≡◌, ◌++◌, drop, vec_items}
use Rattle.task_verdict.specs.Misses.{late_numbers}
use Rattle.task_verdict.proofs.lateness.late_tasks.Given as goal

-- the numbers so far, and those of the tasks that are left
abbrev pub invariant-loop-i : goal.invariant-loop-i
invariant-loop-i l = vec_items l.numbers ++ late_numbers l.i (drop l.i l.task-items) (drop l.i l.state.jobs) ≡ late_numbers 0 l.task-items l.state.jobs
