use Rattle.std.proofs.Common.{◌≡◌, not}
use Rattle.std.proofs.lemmas.List.Filters.{FiltersInPlace}
use Rattle.explorer.proofs.memory.Memory.close_up.Given as goal

abbrev pub invariant-loop-i : goal.invariant-loop-i
invariant-loop-i g l = record {
  filters : FiltersInPlace (λ n. not ((g.S.System.meaning l.system).simulates l.state n.state)) l.initial.self.nodes.now l.self.nodes.now l.stay l.i;
  same_nodes : l.self.nodes.ghost_name ≡ l.initial.self.nodes.ghost_name;
  visits : l.self.visits ≡ l.initial.self.visits;
  written : l.self.written ≡ l.initial.self.written;
  kept : l.self.kept ≡ l.initial.self.kept;
}
