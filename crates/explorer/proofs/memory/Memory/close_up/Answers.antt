use Rattle.std.proofs.Common.{◌<◌, not, length, get_or, sym, ap, arith}
use Rattle.std.proofs.lemmas.List.Filters.{FiltersInPlace-more_no, FiltersInPlace-more_set}
use Rattle.explorer.proofs.memory.Memory.close_up.Goals as goal
use Rattle.explorer.proofs.memory.Memory.close_up.Goals.{then-not-simulates, else-not-simulates}

pub loop-i-preserved : goal.loop-i-preserved
loop-i-preserved g c =
    let inv = c.loop-i.invariant in
    let inside : c.loop-i.i < length c.loop-i.self.nodes.now = omega (arith, c.loop-i.self.nodes_within, inv.kept) in
    let read = ap (get_or c.loop-i.self.nodes.now c.loop-i.i) c.index-self-i.is in
    elim c.if-not-simulates.branch [
      | then-not-simulates w ↦ rw (w.self-is, w.stay-is) (record {
        filters = FiltersInPlace-more_set inv.filters inside (ap not (sym w.if-not-simulates.ensures)) read;
        same_nodes = inv.same_nodes;
        visits = inv.visits;
        written = inv.written;
        kept = inv.kept;
      })
      | else-not-simulates w ↦ rw (w.self-is, w.stay-is) (record {
        filters = FiltersInPlace-more_no inv.filters inside (ap not (sym w.if-not-simulates.ensures)) read;
        same_nodes = inv.same_nodes;
        visits = inv.visits;
        written = inv.written;
        kept = inv.kept;
      })
    ]
