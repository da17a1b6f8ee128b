use Rattle.exploration.proofs.Turns.{unrolled}
use Rattle.exploration.proofs.claims.exploring_unrolls.Goals as goal

pub returns : goal.returns
returns g c = λ P L. unrolled (g.S.System.meaning c.args.system.now) P L
