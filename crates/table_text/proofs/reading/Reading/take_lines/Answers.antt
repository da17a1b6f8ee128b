use Rattle.std.proofs.Common.{◌≡◌, length, inl, refl, ap, arith}
use Rattle.table_text.specs.Pieces.{lines, pieces_left, separates}
use Rattle.table_text.specs.declared.pieces.Separator.TheVariants.{Newline}
use Rattle.table_text.proofs.Cuts.{pieces_few}
use Rattle.table_text.proofs.reading.Reading.take_lines.Goals as goal

-- no line has come yet
none_yet : (c : goal.After-into_iter-i-iterator) → (c.into_iter-i-iterator.result.count ≡ 0) × (pieces_left c.into_iter-i-iterator.result.iter ≡ lines c.args.bytes.now)
none_yet c = (cc, cc)

pub loop-i-init-derived : goal.loop-i-init-derived
loop-i-init-derived c =
    let none = none_yet c in
    ((tt, tt, inl (omega (arith, ap length none.1, pieces_few (separates Newline) c.args.bytes.now))), tt)

pub loop-i-init : goal.loop-i-init
loop-i-init c =
    let none = none_yet c in
    (rw (none.0, none.1) refl, omega (arith, ap length none.1, pieces_few (separates Newline) c.args.bytes.now))
