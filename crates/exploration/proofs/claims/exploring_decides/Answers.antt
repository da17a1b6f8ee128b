use Rattle.exploration.proofs.Theorems.{exploring_decides}
use Rattle.exploration.proofs.claims.exploring_decides.Goals as goal

pub returns : goal.returns
returns g c = λ P L. exploring_decides (g.S.System.meaning c.args.system.now) P L (g.met.S.System.lawful c.args.system.now)
