use Rattle.std.proofs.Common.{◌≡◌, ◌++◌, drop, vec_items}
use Rattle.transition.specs.Runs.{walk}
use Rattle.run_steps.specs.Steps.{steps}
use Rattle.run_steps.proofs.recording.record_steps.Given as goal

-- the steps so far with those of what is left of the events are all steps
abbrev pub invariant-loop-event : goal.invariant-loop-event
invariant-loop-event g l =
    let M = g.S.System.meaning l.initial.run.system in
    (l.run.system ≡ l.initial.run.system)
    × (vec_items l.steps ++ steps M l.run.state (drop l.event-index l.events) ≡ steps M l.initial.run.state l.events)
    × (walk M l.run.state (drop l.event-index l.events) ≡ walk M l.initial.run.state l.events)
