use Rattle.std.proofs.Common.{rules}
use Rattle.policies.specs.Shows.{shorts_end}
use Rattle.policies.proofs.shortened.layer.shorten_all.Goals as goal

pub returns : goal.returns
returns c =
    let left = c.loop-i.i-iterator in
    shorts_end left.count _ c.loop-i.shown left.iter.b.rest.now _ left.iter.a.rest.now _ (search rules) c.loop-i.invariant.3 c.loop-i.invariant.2
