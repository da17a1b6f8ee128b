use Rattle.std.proofs.Common.{refl}
use Rattle.table_text.specs.Pieces.{lines, pieces_left}
use Rattle.table_text.proofs.Cuts.{nth_found}
use Rattle.table_text.proofs.pieces.line_at.Goals as goal

pub returns : goal.returns
returns c = rw c.unwrap_or.ensures (nth_found pieces_left c.pieces.result c.nth.new.self (lines c.args.bytes.now) c.args.place c.nth.result _ c.pieces.ensures c.nth.ensures.ran refl)
