use Rattle.std.proofs.Common.{length, inl, ap, arith}
use Rattle.table_text.proofs.Cuts.{words_few}
use Rattle.table_text.proofs.line.row.Goals as goal

pub count-requires-clause-fits : goal.count-requires-clause-fits
count-requires-clause-fits c = inl (omega (arith, ap length c.of.ensures, words_few c.args.line.now))
