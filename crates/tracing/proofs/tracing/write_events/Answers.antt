use Rattle.std.proofs.Common.{arith}
use Rattle.exploration.proofs.Lists.{numbered_get_or}
use Rattle.tracing.proofs.Chains.{writing_start, writing_more, writing_end}
use Rattle.tracing.proofs.tracing.write_events.Goals as goal

pub loop-i-init : goal.loop-i-init
loop-i-init c = writing_start c.args.count c.args.list.now c.requires.unbroken c.requires.room

pub loop-i-preserved : goal.loop-i-preserved
loop-i-preserved c =
    let inv = c.loop-i.invariant in
    writing_more inv (omega arith) _ (numbered_get_or c.args.visits.now c.loop-i.at _ inv.within.0 inv.within.1)

pub returns : goal.returns
returns c es e = writing_end c.loop-i.invariant (omega arith) es e
