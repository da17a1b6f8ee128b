use Rattle.std.proofs.Common.{◌≡◌, [], vec_items}
use Rattle.table_text.specs.Pieces.{pieces_left}
use Rattle.number_list.specs.Lists.{with_pieces, commas}
use Rattle.number_list.proofs.list.read_list.Given as goal

abbrev pub invariant-loop-piece : goal.invariant-loop-piece
invariant-loop-piece l = with_pieces (vec_items l.numbers) (pieces_left l.piece-iterator) ≡ with_pieces [] (commas l.text)
