use Rattle.std.proofs.Common.{arith}
use Rattle.std.proofs.lemmas.Int.{ints}
use Rattle.jobs.proofs.figures.worst_laxity.Goals as goal

pub returns-in-Low : goal.returns-in-Low
returns-in-Low c = simp c.in-Low.is (omega (arith, ints))
