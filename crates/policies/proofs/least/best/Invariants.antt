use Rattle.std.proofs.Common.{◌≡◌}
use Rattle.policies.specs.Leasts.{best}
use Rattle.policies.specs.Bests.{earlier}
use Rattle.policies.proofs.least.best.Given as goal

abbrev pub invariant-loop-i : goal.invariant-loop-i
invariant-loop-i g l =
    let left = l.i-iterator in
    let f = g.F.Figure.figured l.by l.mode in
    (goal.iterator-loop-i g).can_next left
    × (goal.iterator-loop-i g).is_finite left
    × (earlier l.best (best f left.count left.iter.a.rest.now left.iter.b.rest.now) ≡ best f 0 l.tasks l.jobs)
