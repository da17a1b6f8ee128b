use Rattle.std.proofs.Common.{◌≡◌, ◌+◌, ◌++◌, min, length, take}
use Rattle.policies.specs.Layers.{shorts}
use Rattle.policies.proofs.shortened.layer.shorten_all.Given as goal

abbrev pub invariant-loop-i : goal.invariant-loop-i
invariant-loop-i l =
    let left = l.i-iterator in
    let figures = left.iter.b.rest.now in
    let tasks = left.iter.a.rest.now in
    goal.iterator-loop-i.can_next left
    × goal.iterator-loop-i.is_finite left
    × (take left.count l.shown ++ shorts figures tasks ≡ shorts l.figures l.tasks)
    × (left.count + min (length tasks) (length figures) ≡ min (length l.tasks) 8)
