use Rattle.std.proofs.Common.{◌<◌, [], ◌∷◌, ◌++◌, length, sym, refl, arith}
use Rattle.explorer.proofs.Enters.{enters_known, enters_visits_full, enters_doomed, enters_nodes_full, enters_new}
use Rattle.explorer.proofs.memory.Memory.enter.Goals as goal

pub returns-then-covers-clause-enters : goal.returns-then-covers-clause-enters
returns-then-covers-clause-enters g c es =
    (es, enters_known (g.S.System.meaning c.args.system.now) c.args.self.now c.args.from c.args.state es c.if-covers.ensures)

pub returns-then-self-clause-enters : goal.returns-then-self-clause-enters
returns-then-self-clause-enters g c es =
    (es, enters_visits_full (g.S.System.meaning c.args.system.now) c.args.self.now c.args.from c.args.state es c.if-covers.ensures c.if-self.true)

pub returns-then-is_doomed-clause-enters : goal.returns-then-is_doomed-clause-enters
returns-then-is_doomed-clause-enters g c es =
    let m = c.args.self.now in
    let room : m.written < length m.visits.now = omega (arith, m.visits_within) in
    (es ++ c.args.state ∷ [], enters_doomed (g.S.System.meaning c.args.system.now) m c.args.from c.args.state es c.if-covers.ensures room _ _ refl refl (sym c.if-is_doomed.ensures))

pub returns-then-self-2-clause-enters : goal.returns-then-self-2-clause-enters
returns-then-self-2-clause-enters g c es =
    let m = c.args.self.now in
    let n = c.close_up.new.self in
    let t = c.close_up.ensures.thinned in
    let room : m.written < length m.visits.now = omega (arith, m.visits_within) in
    (es ++ c.args.state ∷ [], enters_nodes_full (g.S.System.meaning c.args.system.now) m c.args.from c.args.state es c.if-covers.ensures room n.visits.now n.written t.visits t.written (sym c.if-is_doomed.ensures) n.nodes.now n.kept t.lent.node_room n.nodes_within c.close_up.ensures.stay c.if-self-2.true)

pub returns-clause-enters : goal.returns-clause-enters
returns-clause-enters g c es =
    let m = c.args.self.now in
    let n = c.close_up.new.self in
    let t = c.close_up.ensures.thinned in
    let room : m.written < length m.visits.now = omega (arith, m.visits_within) in
    (es ++ c.args.state ∷ [], enters_new (g.S.System.meaning c.args.system.now) m c.args.from c.args.state es c.if-covers.ensures room n.visits.now n.written t.visits t.written (sym c.if-is_doomed.ensures) n.nodes.now n.kept t.lent.node_room n.nodes_within c.close_up.ensures.stay (omega (arith, n.nodes_within)))
