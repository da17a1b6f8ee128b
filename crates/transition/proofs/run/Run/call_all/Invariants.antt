use Rattle.std.proofs.Common.{◌≡◌, true, drop}
use Rattle.transition.specs.Runs.{walk}
use Rattle.transition.proofs.run.Run.call_all.Given as goal

-- what is left of the events leads to where all of them lead
abbrev pub invariant-loop-event : goal.invariant-loop-event
invariant-loop-event g l =
    let M = g.S.System.meaning l.initial.self.system in
    (l.self.system ≡ l.initial.self.system)
    × (walk M l.self.state (drop l.event-index l.events) ≡ walk M l.initial.self.state l.events)
    × (M.fits l.initial.self.state ≡ true → M.fits l.self.state ≡ true)
