-- What the lent memory holds, and what exploring leaves of it.
use Rattle.std.specs.Prelude.{◌≡◌, ◌≤◌, List, length, drop}
use Rattle.exploration.specs.Stores.{Store}
use Rattle.explorer.specs.Held.{held}
use Rattle.explorer.specs.declared.memory.Memory.{Memory}

module _ {X : Type 0} where
  -- the store that the nodes and visits in use make, with the states that the visits entered
  abbrev pub holds : Memory X → List X → Store X
  holds m entered = held m.nodes.now m.kept m.visits.now m.written entered

  -- the memory is still the one that was lent, and has as much room
  pub record StaysLent (before after : Memory X) : Type 0 where
    pub same_nodes : after.nodes.ghost_name ≡ before.nodes.ghost_name
    pub same_visits : after.visits.ghost_name ≡ before.visits.ghost_name
    pub node_room : length after.nodes.now ≡ length before.nodes.now
    pub visit_room : length after.visits.now ≡ length before.visits.now

  -- no visit is touched but those written since
  pub record Extends (before after : Memory X) : Type 0 where
    pub lent : StaysLent before after
    pub grows : before.written ≤ after.written
    pub untouched : drop after.written after.visits.now ≡ drop after.written before.visits.now

  -- no more nodes are in use than before, and the visits are as they were
  pub record Thinned (before after : Memory X) : Type 0 where
    pub lent : StaysLent before after
    pub fewer : after.kept ≤ before.kept
    pub written : after.written ≡ before.written
    pub visits : after.visits.now ≡ before.visits.now
