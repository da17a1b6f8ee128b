use Rattle.std.proofs.Common.{◌≡◌, ◌-◌, ◌<◌, true, get_or, sym, arith}
use Rattle.exploration.specs.declared.node.Visit.{Visit}
use Rattle.exploration.specs.Traces.{sound}
use Rattle.exploration.proofs.Lists.{numbered_get_or}
use Rattle.exploration.proofs.Chains.{sound_cases}
use Rattle.tracing.proofs.Chains.{counting_broken, counting_start_found, counting_more}
use Rattle.tracing.proofs.tracing.event_count.Goals as goal

pub returns-then-not-is_sound : goal.returns-then-not-is_sound
returns-then-not-is_sound c =
    let inv = c.loop-visit.invariant in
    counting_broken c.args.visits.now c.args.number c.loop-visit.at c.loop-visit.count inv.3 _
    (numbered_get_or c.args.visits.now c.loop-visit.at _ inv.0 inv.1) (sym c.if-not-is_sound.ensures)

pub returns-then-visit-eq0 : goal.returns-then-visit-eq0
returns-then-visit-eq0 c =
    let inv = c.loop-visit.invariant in
    counting_start_found c.args.visits.now c.args.number c.loop-visit.at c.loop-visit.count inv.3 _
    (numbered_get_or c.args.visits.now c.loop-visit.at _ inv.0 inv.1) (sym c.if-not-is_sound.ensures) c.if-visit-eq0.true

pub loop-visit-preserved : goal.loop-visit-preserved
loop-visit-preserved c =
    let inv = c.loop-visit.invariant in
    let none : Visit = record { parent = 0; event = 0 } in
    let visit : Visit = get_or c.args.visits.now (c.loop-visit.at - 1) none in
    let is_sound : sound c.loop-visit.at visit ≡ true = sym c.if-not-is_sound.ensures in
    let below : visit.parent < c.loop-visit.at = (sound_cases c.loop-visit.at visit is_sound).0 in (
      omega arith,
      omega arith,
      omega arith,
      counting_more c.args.visits.now c.args.number c.loop-visit.at c.loop-visit.count inv.3 visit
          (numbered_get_or c.args.visits.now c.loop-visit.at none inv.0 inv.1) is_sound c.if-visit-eq0.false,
    )
