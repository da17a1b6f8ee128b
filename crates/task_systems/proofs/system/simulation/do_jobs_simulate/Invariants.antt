use Rattle.std.proofs.Common.{◌≡◌, length}
use Rattle.task_laws.specs.Systems.{simulates_jobs}
use Rattle.task_systems.proofs.system.simulation.do_jobs_simulate.Given as goal

abbrev pub invariant-loop-x : goal.invariant-loop-x
invariant-loop-x l =
    let left = l.x-iterator in
    let xs = left.a.rest.now in
    let ys = left.b.rest.now in
    goal.iterator-loop-x.can_next left
    × goal.iterator-loop-x.is_finite left
    × (length xs ≡ length ys)
    × (simulates_jobs l.kind xs ys ≡ simulates_jobs l.kind l.xs l.ys)
