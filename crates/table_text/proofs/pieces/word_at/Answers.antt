use Rattle.std.proofs.Common.{refl}
use Rattle.table_text.specs.Pieces.{words, words_left}
use Rattle.table_text.proofs.Cuts.{nth_found}
use Rattle.table_text.proofs.pieces.word_at.Goals as goal

pub returns : goal.returns
returns c = rw c.unwrap_or.ensures (nth_found words_left c.of.result c.nth.new.self (words c.args.line.now) c.args.place c.nth.result _ c.of.ensures c.nth.ensures.ran refl)
