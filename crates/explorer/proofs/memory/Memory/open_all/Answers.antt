use Rattle.std.proofs.Common.{◌+◌, ◌<◌, [], length, sym, refl, arith}
use Rattle.exploration.specs.declared.outcome.Outcome.TheVariants.{Schedulable}
use Rattle.exploration.specs.Stores.{on}
use Rattle.exploration.specs.Exploring.{turn}
use Rattle.exploration.proofs.Turns.{turn_less}
use Rattle.explorer.specs.Held.{ComesTo}
use Rattle.explorer.specs.Memories.{holds}
use Rattle.explorer.proofs.Lents.{extends_none, extends_more, lent_short}
use Rattle.explorer.proofs.Sweeps.{swept_none, swept_all, swept_refused, swept_entered, swept_over}
use Rattle.explorer.proofs.Openings.{opened_on, opened_over, marked_long, turn_none, turn_swept}
use Rattle.explorer.proofs.memory.Memory.open_all.Given as given
use Rattle.explorer.proofs.memory.Memory.open_all.Goals as goal
use Rattle.explorer.proofs.memory.Memory.open_all.Goals.{in-Ok+in_default-enter, in_default-next}

pub explore-init : goal.explore-init
explore-init g c = record { extends = extends_none c.args.self.now; opened = λ es. (es, refl) }

pub loop-event-init : goal.loop-event-init
loop-event-init g c = record {
  extends = extends_more c.explore.invariant.extends (record {
    lent = record { same_nodes = refl; same_visits = refl; node_room = marked_long c.explore.self.nodes.now c.in-Some.at c.index-self-at.result; visit_room = refl };
    grows = omega arith;
    untouched = refl;
  });
  swept = swept_none (g.S.System.meaning c.args.system.now) _ _ _ _ _;
}

pub loop-event-preserved : goal.loop-event-preserved
loop-event-preserved g c =
    let M = g.S.System.meaning c.args.system.now in
    let inv = c.loop-event.invariant in
    let more : c.loop-event.event < M.count + 1 = omega (arith, c.event_count-event-end.ensures) in
    elim c.match-next.branch [
      | in-Ok+in_default-enter w ↦ rw w.self-is (record {
        extends = extends_more inv.extends w.enter.ensures.lent;
        swept = swept_entered M _ _ _ _ inv.swept more (sym w.in-Ok.ensures) inv.extends.lent.node_room inv.extends.lent.visit_room (holds w.enter.new.self) w.in_default-enter.ensures.enters;
      })
      | in_default-next w ↦ rw w.self-is (record {
        extends = inv.extends;
        swept = swept_refused M _ _ _ _ inv.swept more w.in_default-next.field-0 (sym w.in_default-next.ensures);
      })
    ]

-- once its events are swept, the turn that opened the node is over
turned : (g : given.Over) (c : goal.After-loop-event g) → ComesTo (λ es. turn (g.S.System.meaning c.args.system.now) (length c.args.self.now.nodes.now) (length c.args.self.now.visits.now) (holds c.explore.self es)) (λ fs. on (holds c.loop-event.self fs))
turned g c =
    turn_swept (g.S.System.meaning c.args.system.now) _ _ c.explore.self c.in-Some.at c.in-Some.ensures c.index-self-at.result c.index-self-at-in-explore.result _
    (swept_all (g.S.System.meaning c.args.system.now) _ _ _ _ c.loop-event.invariant.swept (omega (arith, c.event_count-event-end.ensures)))

pub explore-smaller : goal.explore-smaller
explore-smaller g c =
    let led = turned g c [] in
    (turn_less (g.S.System.meaning c.args.system.now) _ _ _ _ (lent_short c.explore.self c.explore.invariant.extends) led.1).1

pub explore-preserved : goal.explore-preserved
explore-preserved g c = record {
  extends = c.loop-event.invariant.extends;
  opened = opened_on (g.S.System.meaning c.args.system.now) _ _ _ _ c.explore.invariant.opened (λ es. lent_short c.explore.self c.explore.invariant.extends) _ (turned g c);
}

pub returns-in_default : goal.returns-in_default
returns-in_default g c =
    let M = g.S.System.meaning c.args.system.now in
    let inv = c.explore.invariant in
    record {
      ends = opened_over M _ _ _ _ inv.opened (λ es. lent_short c.explore.self inv.extends) Schedulable _ (turn_none M _ _ c.explore.self c.in_default.ensures);
      lent = inv.extends;
    }

pub returns-in-Some-enter : goal.returns-in-Some-enter
returns-in-Some-enter g c =
    let M = g.S.System.meaning c.args.system.now in
    let inv = c.explore.invariant in
    let sweeping = c.loop-event.invariant in
    let more : c.loop-event.event < M.count + 1 = omega (arith, c.event_count-event-end.ensures) in
    record {
      ends =
          opened_over M _ _ _ _ inv.opened (λ es. lent_short c.explore.self inv.extends) c.in-Some-enter.outcome (holds c.enter.new.self)
          (turn_swept M _ _ c.explore.self c.in-Some.at c.in-Some.ensures c.index-self-at.result c.index-self-at-in-explore.result _
          (swept_over M _ _ _ _ sweeping.swept more (sym c.in-Ok.ensures) sweeping.extends.lent.node_room sweeping.extends.lent.visit_room (holds c.enter.new.self) c.in-Some-enter.outcome c.in-Some-enter.ensures.enters));
      lent = extends_more sweeping.extends c.enter.ensures.lent;
    }
