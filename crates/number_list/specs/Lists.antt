-- The numbers that a text writes in decimal digits with commas between them.
use Rattle.std.specs.Prelude.{◌≡◌, ℕ, List, [], ◌∷◌, ◌++◌, map, Some, None, Ok, Err, vec_items, Option, Result, Vec}
use Rattle.std.specs.List.{join_with_byte, slice_split}
use Rattle.std.specs.Option.{option_and_then}
use Rattle.std.specs.declared.alloc.Global.{Global}
use Rattle.table_text.specs.Figures.{byte_value}
use Rattle.table_text.specs.Pieces.{separates}
use Rattle.table_text.specs.declared.pieces.Separator.TheVariants.{Comma}
use Rattle.number_list.specs.declared.list.ListError.{ListError}
use Rattle.number_list.specs.declared.list.ListError.TheVariants.{NoList, NoMemory}

-- the numbers that pieces write, behind those that were read; none where one of them is no number
abbrev pub with_pieces : List ℕ → List (List ℕ) → Option (List ℕ)
with_pieces ns [] = Some ns
with_pieces ns (p ∷ ps) = option_and_then (λ n. with_pieces (ns ++ n ∷ []) ps) (byte_value p)

abbrev pub commas : List ℕ → List (List ℕ)
commas bs = slice_split (separates Comma) bs

-- the numbers that a text writes, where it is a list
abbrev pub listed : List ℕ → Option (List ℕ)
listed [] = Some []
listed (b ∷ bs) = with_pieces [] (commas (b ∷ bs))

-- the text is the numbers in decimal digits, with a comma between each two
pub record Written (bs ns : List ℕ) : Type 0 where
  pub numerals : List (List ℕ)
  pub joined : bs ≡ join_with_byte 44 numerals
  pub values : map byte_value numerals ≡ map Some ns

-- the answer is the list, or none where there is none
abbrev pub Reads : List ℕ → Result (Vec ℕ Global) ListError → Type 0
Reads bs (Ok v) = listed bs ≡ Some (vec_items v)
Reads bs (Err NoList) = listed bs ≡ None
Reads bs (Err NoMemory) = Unit {0}

-- the text writes just those numbers, or no numbers at all
abbrev pub Writes : List ℕ → Result (Vec ℕ Global) ListError → Type 0
Writes bs (Ok v) = Written bs (vec_items v)
Writes bs (Err NoList) = (ns : List ℕ) → Written bs ns → ⊥
Writes bs (Err NoMemory) = Unit {0}
