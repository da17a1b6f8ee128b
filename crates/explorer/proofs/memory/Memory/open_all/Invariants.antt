use Rattle.std.proofs.Common.{[], length}
use Rattle.exploration.specs.Exploring.{left}
use Rattle.explorer.specs.Memories.{holds, Extends}
use Rattle.explorer.proofs.Sweeps.{Swept}
use Rattle.explorer.proofs.Openings.{Opened}
use Rattle.explorer.proofs.memory.Memory.open_all.Given as goal

abbrev pub invariant-explore : goal.invariant-explore
invariant-explore g l = record {
  extends : Extends l.fn.self l.self;
  opened : Opened (g.S.System.meaning l.system) (length l.fn.self.nodes.now) (length l.fn.self.visits.now) (holds l.fn.self) (holds l.self);
}

abbrev pub invariant-loop-event : goal.invariant-loop-event
invariant-loop-event g l = record {
  extends : Extends l.fn.self l.self;
  swept : Swept (g.S.System.meaning l.system) (length l.fn.self.nodes.now) (length l.fn.self.visits.now) l.node.state l.node.visit l.event (holds l.initial.self) (holds l.self);
}

-- what is left to do
abbrev pub decreases-explore : goal.decreases-explore
decreases-explore g l = left (g.S.System.meaning l.system) (length l.fn.self.nodes.now) (length l.fn.self.visits.now) (holds l.self [])
