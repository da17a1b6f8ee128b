use Rattle.std.proofs.Common.{◌≡◌, drop}
use Rattle.verdict.specs.Moments.{moments, any_late}
use Rattle.verdict.proofs.moments.is_ever_late.Given as goal

-- what is left of the events tells the same of the run as all of them did of the new one
abbrev pub invariant-loop-event : goal.invariant-loop-event
invariant-loop-event g l =
    let means = g.S.System.meaning in
    any_late means (moments means l.run (drop l.event-index l.events)) ≡ any_late means (moments means l.initial.run l.events)
