-- How pieces are cut off from the front, how many there are, and which words are left behind the first.
use Rattle.std.proofs.Common.{◌≡◌, ℕ, ◌+◌, ◌≤◌, Bool, true, false, not, eqb, List, [], ◌∷◌, length, get_or, take, drop, filter, position, unwrap_or, Some, None, Option, Bor, sym, refl, ap, ◌∙◌, subst, arith}
use denote.Param.Members.{Mut}
use Rattle.std.specs.List.{slice_split, slice_get, position_or_len, FoldsTo}
use Rattle.std.specs.Fn.{CalledAt}
use Rattle.std.specs.Iterator.{YieldsFirstBy, Yields, SkipsThenYields, FindsItem, MakesProgress, item_count}
use Rattle.std.specs.Option.{option_map}
use Rattle.std.proofs.lemmas.Iterator.Consumers.{nth_from_yields_List, YieldsList-from_first}
use Rattle.std.proofs.lemmas.List.Splits.{slice_split_first, slice_split_none, length-slice_split}
use Rattle.std.proofs.lemmas.List.Sums.{fails_before_first, count_by-le-length, length-filter}
use Rattle.std.proofs.lemmas.Option.{unwrap_or-slice_get}
use Rattle.std.proofs.lemmas.Bool.Decides.{nat_tests}
use Rattle.table_text.specs.Pieces.{words, filled, separates}
use Rattle.table_text.specs.declared.pieces.Separator.TheVariants.{Blank}

module _ (sep : ℕ → Bool) (bs : List ℕ) where
  -- where a separator stands: a piece, and the pieces behind it
  pub first_cut : (n : ℕ) → Some n ≡ position sep bs → slice_split sep bs ≡ take n bs ∷ slice_split sep (drop (n + 1) bs)
  first_cut n e = grind (arith, nat_tests, slice_split_first sep bs 0)

  -- without a separator: one piece
  pub last_cut : None ≡ position sep bs → slice_split sep bs ≡ bs ∷ []
  last_cut e =
      let all : length bs ≤ position_or_len sep bs = grind (arith, nat_tests) in
      slice_split_none sep bs (λ k d l. fails_before_first sep bs k d (omega arith))

  pub pieces_few : length (slice_split sep bs) ≤ length bs + 1
  pieces_few = omega (arith, length-slice_split sep bs, count_by-le-length sep bs)

pub words_few : (bs : List ℕ) → length (words bs) ≤ length bs + 1
words_few bs =
    let pieces = slice_split (separates Blank) bs in
    omega (arith, length-filter filled pieces, count_by-le-length filled pieces, pieces_few (separates Blank) bs)

-- what stands at a place, or nothing
found_at : (xs : List (List ℕ)) (n : ℕ) (found : Option (Bor (List ℕ))) (none : Bor (List ℕ)) → option_map (λ x. x.now) found ≡ slice_get xs n → none.now ≡ [] → (unwrap_or found none).now ≡ get_or xs n []
found_at xs n None none e f = f ∙ ap (λ o. unwrap_or o []) e ∙ unwrap_or-slice_get xs n []
found_at xs n (Some x) none e f = ap (λ o. unwrap_or o []) e ∙ unwrap_or-slice_get xs n []

-- `nth` over an iterator that shows what is left, and nothing where it has fewer
pub nth_found : {S : Type 0} (left : S → List (List ℕ)) (s u : S) (xs : List (List ℕ)) (n : ℕ) (found : Option (Bor (List ℕ))) (none : Bor (List ℕ)) → left s ≡ xs → SkipsThenYields (YieldsFirstBy (λ x. x.now) left) s n found u → none.now ≡ [] → (unwrap_or found none).now ≡ get_or xs n []
nth_found left s u xs n found none e ran f = found_at xs n found none (nth_from_yields_List found u n ran (YieldsList-from_first (λ x. x.now) left xs e)) f

-- `find` by a test, over an iterator that shows what is left: the first that passes comes, and those behind it that pass are left
module _ {S A B F : Type 0} (v : A → B) (left : S → List B) (test : B → Bool) (g : Mut F (Bor A × Unit {0}) Bool) (f : F) (computes : (x : A) (b : Bool) (q : F) → CalledAt g f x b q → (q ≡ f) × (b ≡ test (v x))) where
  passed : (xs : List A) (s t : S) (p q : F) → p ≡ f → Yields (YieldsFirstBy v left) s xs t → FoldsTo (λ a x b. CalledAt g a x false b) p xs q → (q ≡ f) × (filter test (left s) ≡ filter test (left t))
  passed [] s t p q e y h = (sym h ∙ e, ap (λ z. filter test (left z)) y)
  passed (x ∷ xs) s t p q e (m, step, more) (k, call, calls) =
      let answer = computes x false k (subst (λ z. CalledAt g z x false k) e call) in
      let rest = passed xs m t k q answer.0 more calls in
      let fails : test (v x) ≡ false = sym answer.1 in
      (rest.0, ap (filter test) step ∙ simp fails rest.1)

  pub find_filters : (s u : S) (r : Option A) → FindsItem (YieldsFirstBy v left) g s f r u → YieldsFirstBy v (λ z. filter test (left z)) s r u
  find_filters s u None (xs, q, (t, y, step), h, last) =
      let rest = passed xs s t f q refl y h in
      (rest.1 ∙ ap (filter test) step.0, ap (filter test) step.1)
  find_filters s u (Some x) (xs, q, (t, y, step), h, (k, call)) =
      let rest = passed xs s t f q refl y h in
      let passes : test (v x) ≡ true = sym (computes x true k (subst (λ z. CalledAt g z x true k) rest.0 call)).1 in
      rest.1 ∙ ap (filter test) step ∙ simp passes

pub filled_is : (bs : List ℕ) → not (eqb (length bs) 0) ≡ filled bs
filled_is [] = refl
filled_is (b ∷ bs) = grind (arith, nat_tests)

-- what `next` owes of its progress, where it yields the first of what is left
pub progress : {S A B : Type 0} (v : A → B) (left : S → List B) (can : S → Type 0) → ((z : S) → can z) → (s t : S) (r : Option A) → YieldsFirstBy v left s r t → MakesProgress can (item_count left) s r t
progress v left can all s t None y = record { on = λ _. tt; keeps = tt; rests = λ _. tt }
progress v left can all s t (Some x) y = record { on = λ _. (all t, tt, omega (arith, ap length y)); keeps = all t; rests = λ _. tt }
