use Rattle.exploration.proofs.Safety.{closed_never_late}
use Rattle.exploration.proofs.claims.closed_never_late.Goals as goal

pub returns : goal.returns
returns g c = λ xs closed. closed_never_late (g.S.System.meaning c.args.system.now) (g.met.S.System.lawful c.args.system.now) xs closed
