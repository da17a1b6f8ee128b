use Rattle.std.proofs.Common.{◌+◌, ◌-◌, length, drop, arith}
use Rattle.std.proofs.lemmas.List.{take_all, length-drop}
use Rattle.table_text.specs.Pieces.{separates}
use Rattle.table_text.proofs.Cuts.{first_cut, last_cut}
use Rattle.table_text.proofs.pieces.Separator.next_piece.Goals as goal

pub returns-in-Some-clause-cut : goal.returns-in-Some-clause-cut
returns-in-Some-clause-cut c =
    let bytes = c.args.bytes.now in
    let n = c.in-Some.end in
    let all = take_all (length bytes - (n + 1)) (drop (n + 1) bytes) (omega (arith, length-drop (n + 1) bytes)) in
    rw all (first_cut (separates c.args.self) bytes n c.in-Some.ensures)

pub returns-in-None-clause-cut : goal.returns-in-None-clause-cut
returns-in-None-clause-cut c = last_cut (separates c.args.self) c.args.bytes.now c.in-None.ensures
