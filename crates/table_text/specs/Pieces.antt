-- How the bytes of a file are lines, and those of a line words.
use Rattle.std.specs.Prelude.{ℕ, Bool, true, false, ◌||◌, List, [], ◌∷◌, Some, None, filter, Option, ◌==◌}
use Rattle.std.specs.List.{before_first, slice_split}
use Rattle.std.specs.Option.{option_map}
use Rattle.table_text.specs.declared.pieces.Pieces.{Pieces}
use Rattle.table_text.specs.declared.pieces.Separator.{Separator}
use Rattle.table_text.specs.declared.pieces.Separator.TheVariants.{Newline, Blank, Hash, Comma}
use Rattle.table_text.specs.declared.pieces.Words.{Words}

-- a newline; a space, a tab or a carriage return; the signs '#' and ','
abbrev pub separates : Separator → ℕ → Bool
separates Newline b = b == 10
separates Blank b = b == 32 || (b == 9 || b == 13)
separates Hash b = b == 35
separates Comma b = b == 44

-- the pieces of what stands behind a separator, if there was one
abbrev pub pieces_behind : (ℕ → Bool) → Option (List ℕ) → List (List ℕ)
pieces_behind sep None = []
pieces_behind sep (Some bs) = slice_split sep bs

-- the pieces that are still to come
abbrev pub pieces_left : Pieces → List (List ℕ)
pieces_left p = pieces_behind (separates p.separator) (option_map (λ x. x.now) p.rest)

abbrev pub filled : List ℕ → Bool
filled [] = false
filled (b ∷ bs) = true

abbrev pub lines : List ℕ → List (List ℕ)
lines bs = slice_split (separates Newline) bs

-- the pieces between blanks that are not empty
abbrev pub words : List ℕ → List (List ℕ)
words bs = filter filled (slice_split (separates Blank) bs)

-- the words that are still to come
abbrev pub words_left : Words → List (List ℕ)
words_left w = filter filled (pieces_left w.0)

-- a line without its comment
abbrev pub bare : List ℕ → List ℕ
bare bs = before_first (separates Hash) bs
