use Rattle.exploration.proofs.Theorems.{exploring_tells}
use Rattle.exploration.proofs.claims.exploring_tells.Goals as goal

pub returns : goal.returns
returns g c = λ P L. exploring_tells (g.S.System.meaning c.args.system.now) P L (g.met.S.System.lawful c.args.system.now)
