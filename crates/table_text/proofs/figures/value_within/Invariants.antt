use Rattle.std.proofs.Common.{◌≡◌, ◌≤◌, drop}
use Rattle.table_text.specs.Figures.{value_within}
use Rattle.table_text.proofs.Decimals.{reading}
use Rattle.table_text.proofs.figures.value_within.Given as goal

abbrev pub invariant-loop-byte : goal.invariant-loop-byte
invariant-loop-byte l = (reading l.most l.value (drop l.byte-index l.word) ≡ value_within l.most l.word) × (l.value ≤ l.most)
