-- The list that is read is the one that is written.
use Rattle.std.proofs.Common.{◌≡◌, ℕ, Bool, true, false, cond, ◌&&◌, eqb, leb, List, [], ◌∷◌, ◌++◌, map, Some, None, Ok, Err, vec_items, Option, Result, Vec, sym, refl, ap, ◌∙◌, arith}
use Rattle.std.specs.declared.alloc.Global.{Global}
use Rattle.std.specs.List.{join_with_byte, All}
use Rattle.std.specs.Option.{option_and_then}
use Rattle.std.proofs.lemmas.List.{append-nil, append_assoc}
use Rattle.std.proofs.lemmas.List.Splits.{join_with_byte-slice_split, slice_split_none, slice_split_at}
use Rattle.std.proofs.lemmas.List.Sums.{AllPass-from_list_all}
use Rattle.std.proofs.lemmas.Bool.Decides.{nat_tests}
use Rattle.table_text.specs.Figures.{byte_value, all_digits, is_digit, numeral}
use Rattle.table_text.specs.Pieces.{filled, separates}
use Rattle.table_text.specs.declared.pieces.Separator.TheVariants.{Comma}
use Rattle.number_list.specs.Lists.{commas, with_pieces, listed, Written, Reads, Writes}
use Rattle.number_list.specs.declared.list.ListError.{ListError}
use Rattle.number_list.specs.declared.list.ListError.TheVariants.{NoList, NoMemory}

-- digits are no commas
digit_other : (b : ℕ) → is_digit b ≡ true → eqb b 44 ≡ false
digit_other b e = grind (arith, nat_tests)

digits_only : (p : List ℕ) → all_digits p ≡ true → All (λ b. separates Comma b ≡ false) p
digits_only p e k d l = digit_other _ (AllPass-from_list_all is_digit p e k d l)

-- what a number's digits are
record Digits (p : List ℕ) : Type 0 where
  some : filled p ≡ true
  all : all_digits p ≡ true

digits_of : (p : List ℕ) (n : ℕ) → byte_value p ≡ Some n → Digits p
digits_of p n e = go (filled p) refl (all_digits p) refl e
  where
    go : (s : Bool) → filled p ≡ s → (t : Bool) → all_digits p ≡ t → cond (s && (t && leb (numeral p) 255)) (Some (numeral p)) None ≡ Some n → Digits p
    go true f true d h = record { some = f; all = d }
    go true f false d h = cc
    go false f t d h = cc

-- numbers read one by one

record Behind (ns ms : List ℕ) (ps : List (List ℕ)) : Type 0 where
  more : List ℕ
  after : ms ≡ ns ++ more
  values : map byte_value ps ≡ map Some more

with_pieces_writes : (ns ms : List ℕ) (ps : List (List ℕ)) → with_pieces ns ps ≡ Some ms → Behind ns ms ps
with_pieces_writes ns ms [] e = record { more = []; after = let same : ns ≡ ms = cc in sym same ∙ sym (append-nil ns); values = refl }
with_pieces_writes ns ms (p ∷ ps) e = go (byte_value p) refl e (λ n. with_pieces_writes (ns ++ n ∷ []) ms ps)
  where
    go : (o : Option ℕ) → byte_value p ≡ o → option_and_then (λ n. with_pieces (ns ++ n ∷ []) ps) o ≡ Some ms → ((n : ℕ) → with_pieces (ns ++ n ∷ []) ps ≡ Some ms → Behind (ns ++ n ∷ []) ms ps) → Behind ns ms (p ∷ ps)
    go None f h k = cc
    go (Some n) f h k =
        let rest = k n h in
        record { more = n ∷ rest.more; after = rest.after ∙ append_assoc ns (n ∷ []) rest.more; values = ap (λ o. o ∷ map byte_value ps) f ∙ ap (λ os. Some n ∷ os) rest.values }

writes_with_pieces : (ns ms : List ℕ) (ps : List (List ℕ)) → map byte_value ps ≡ map Some ms → with_pieces ns ps ≡ Some (ns ++ ms)
writes_with_pieces ns [] [] e = ap Some (sym (append-nil ns))
writes_with_pieces ns (m ∷ ms) [] e = cc
writes_with_pieces ns [] (p ∷ ps) e = cc
writes_with_pieces ns (m ∷ ms) (p ∷ ps) e =
    let first : byte_value p ≡ Some m = cc in
    let rest : map byte_value ps ≡ map Some ms = cc in
    rw first (writes_with_pieces (ns ++ m ∷ []) ms ps rest ∙ ap Some (append_assoc ns (m ∷ []) ms))

-- the pieces of numerals put together are the numerals
commas_rejoined : (p : List ℕ) (ps : List (List ℕ)) (ms : List ℕ) → map byte_value (p ∷ ps) ≡ map Some ms → commas (join_with_byte 44 (p ∷ ps)) ≡ p ∷ ps
commas_rejoined p ps [] e = cc
commas_rejoined p [] (m ∷ ms) e =
    let first : byte_value p ≡ Some m = cc in
    slice_split_none (separates Comma) p (digits_only p (digits_of p m first).all)
commas_rejoined p (q ∷ ps) (m ∷ ms) e =
    let first : byte_value p ≡ Some m = cc in
    let rest : map byte_value (q ∷ ps) ≡ map Some ms = cc in
    slice_split_at (separates Comma) p 44 (join_with_byte 44 (q ∷ ps)) (digits_only p (digits_of p m first).all) refl ∙ ap (λ xs. p ∷ xs) (commas_rejoined q ps ms rest)

listed_some : (bs : List ℕ) → filled bs ≡ true → listed bs ≡ with_pieces [] (commas bs)
listed_some [] e = cc
listed_some (b ∷ bs) e = refl

filled_rejoined : (p : List ℕ) (ps : List (List ℕ)) → filled p ≡ true → filled (join_with_byte 44 (p ∷ ps)) ≡ true
filled_rejoined [] ps e = cc
filled_rejoined (b ∷ p) [] e = refl
filled_rejoined (b ∷ p) (q ∷ ps) e = refl

pub listed_writes : (bs ns : List ℕ) → listed bs ≡ Some ns → Written bs ns
listed_writes [] ns e = record { numerals = []; joined = refl; values = let same : [] ≡ ns = cc in ap (map Some) same }
listed_writes (b ∷ bs) ns e =
    let read = with_pieces_writes [] ns (commas (b ∷ bs)) e in
    record { numerals = commas (b ∷ bs); joined = sym (join_with_byte-slice_split 44 (b ∷ bs)); values = read.values ∙ ap (map Some) (sym read.after) }

pub writes_listed : (bs ns : List ℕ) → Written bs ns → listed bs ≡ Some ns
writes_listed bs ns w = ap listed w.joined ∙ go w.numerals w.values
  where
    go : (ps : List (List ℕ)) → map byte_value ps ≡ map Some ns → listed (join_with_byte 44 ps) ≡ Some ns
    go [] e = writes_with_pieces [] ns [] e
    go (p ∷ ps) e = from ns e
      where
        from : (ms : List ℕ) → map byte_value (p ∷ ps) ≡ map Some ms → listed (join_with_byte 44 (p ∷ ps)) ≡ Some ms
        from [] f = cc
        from (m ∷ ms) f =
            let first : byte_value p ≡ Some m = cc in
            listed_some (join_with_byte 44 (p ∷ ps)) (filled_rejoined p ps (digits_of p m first).some) ∙ ap (with_pieces []) (commas_rejoined p ps (m ∷ ms) f) ∙ writes_with_pieces [] (m ∷ ms) (p ∷ ps) f

pub unlisted_writes : (bs : List ℕ) → listed bs ≡ None → (ns : List ℕ) → Written bs ns → ⊥
unlisted_writes bs e ns w = let some = writes_listed bs ns w in cc

-- what the answer reads, it writes
pub reads_writes : (bs : List ℕ) (r : Result (Vec ℕ Global) ListError) → Reads bs r → Writes bs r
reads_writes bs (Ok v) h = listed_writes bs (vec_items v) h
reads_writes bs (Err NoList) h = unlisted_writes bs h
reads_writes bs (Err NoMemory) h = tt
