use Rattle.exploration.proofs.Safety.{never_ever_late}
use Rattle.exploration.proofs.claims.decisions_exclude.Goals as goal

pub returns : goal.returns
returns g c = never_ever_late (g.S.System.meaning c.args.system.now)
