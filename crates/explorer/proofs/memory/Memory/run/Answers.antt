use Rattle.std.proofs.Common.{[]}
use Rattle.explorer.specs.Memories.{holds}
use Rattle.explorer.proofs.Lents.{extends_more}
use Rattle.explorer.proofs.Ends.{explores_then, explores_on}
use Rattle.explorer.proofs.memory.Memory.run.Goals as goal

pub returns-in-Some : goal.returns-in-Some
returns-in-Some g c =
    let begun = c.in-Some.ensures.enters [] in
    record {
      ends = (begun.0, explores_then (g.S.System.meaning c.args.system.now) _ _ c.args.self.now c.requires.unused c.first.result c.first.ensures _ begun.1);
      same_nodes = c.in-Some.ensures.lent.lent.same_nodes;
      same_visits = c.in-Some.ensures.lent.lent.same_visits;
      lent = c.in-Some.ensures.lent;
    }

pub returns-in-None : goal.returns-in-None
returns-in-None g c =
    let begun = c.in-None.ensures.enters [] in
    let end = c.open_all.ensures.ends begun.0 in
    let lent = c.in-None.ensures.lent in
    let all = extends_more lent c.open_all.ensures.lent in
    record {
      ends = (
        end.0,
        explores_on (g.S.System.meaning c.args.system.now) _ _ c.args.self.now c.requires.unused c.first.result c.first.ensures
            (holds c.enter.new.self begun.0) (holds c.open_all.new.self end.0) c.open_all.result lent.lent.node_room lent.lent.visit_room begun.1 end.1,
      );
      same_nodes = all.lent.same_nodes;
      same_visits = all.lent.same_visits;
      lent = all;
    }
