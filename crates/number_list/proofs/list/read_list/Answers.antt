use Rattle.std.proofs.Common.{Ok, arith}
use Rattle.std.proofs.lemmas.Grind.{common_steps}
use Rattle.number_list.specs.Lists.{Reads}
use Rattle.number_list.proofs.Written.{reads_writes}
use Rattle.number_list.proofs.list.read_list.Goals as goal

pub returns-in_err-number-clause-writes : goal.returns-in_err-number-clause-writes
returns-in_err-number-clause-writes c =
    let reads : Reads c.args.text.now c.from_residual.result = grind (arith, common_steps) in
    reads_writes c.args.text.now c.from_residual.result reads

pub returns-clause-writes : goal.returns-clause-writes
returns-clause-writes c =
    let reads : Reads c.args.text.now (Ok c.loop-piece.numbers) = grind (arith, common_steps) in
    reads_writes c.args.text.now (Ok c.loop-piece.numbers) reads
