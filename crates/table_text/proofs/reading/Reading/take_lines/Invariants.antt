use Rattle.std.proofs.Common.{◌≡◌, ◌+◌, ◌≤◌, length}
use Rattle.table_text.specs.Pieces.{lines, pieces_left}
use Rattle.table_text.specs.Files.{read_so_far, with_lines}
use Rattle.table_text.proofs.reading.Reading.take_lines.Given as goal

abbrev pub invariant-loop-i : goal.invariant-loop-i
invariant-loop-i l =
    (with_lines (read_so_far l.self) (l.i-iterator.count + 1) (pieces_left l.i-iterator.iter) ≡ with_lines (read_so_far l.initial.self) 1 (lines l.bytes))
    × (l.i-iterator.count + length (pieces_left l.i-iterator.iter) ≤ length l.bytes + 1)
