-- Lists: the element of a number, and what holds between any two elements.
use Rattle.std.proofs.Common.{◌≡◌, ℕ, zero, suc, ◌-◌, ◌<◌, ◌≤◌, Bool, not, ◌⊎◌, List, [], ◌∷◌, ◌++◌, map, length, get_or, Some, None, filter, Option, refl, ap, inl, inr, sub-one, arith}
use Rattle.std.specs.List.{slice_get, AllByRecursion}
use Rattle.std.proofs.ByRecursion.{All-push, all_kept_by, All-map}
use Rattle.std.proofs.lemmas.List.Filters.{length-filter_both}
use Rattle.std.proofs.lemmas.Option.{slice_get-get_or}
use Rattle.std.proofs.lemmas.Bool.{cond_both, cases_lt}
use Rattle.exploration.specs.Lists.{numbered, EachTwo}

pub none_some : {X Y : Type 0} (o : Option X) (x : X) → o ≡ None → o ≡ Some x → Y
none_some o x p q = let z : ◌≡◌ {A = ℕ} 0 1 = cc in absurd (omega arith)

pub length_kept : {X : Type 0} (p : X → Bool) (xs : List X) → length (filter p xs) ≤ length xs
length_kept p xs = omega (arith, length-filter_both p (λ x. not (p x)) (λ x. refl) xs)

nth_push : {X : Type 0} (xs : List X) (a : X) → slice_get (xs ++ a ∷ []) (length xs) ≡ Some a
nth_push [] a = refl
nth_push (x ∷ xs) a = nth_push xs a

nth_more : {X : Type 0} (xs ys : List X) (i : ℕ) (a : X) → slice_get xs i ≡ Some a → slice_get (xs ++ ys) i ≡ Some a
nth_more [] ys i a e = none_some None a refl e
nth_more (x ∷ xs) ys zero a e = e
nth_more (x ∷ xs) ys (suc i) a e = nth_more xs ys i a e

nth_push_cases : {X : Type 0} (xs : List X) (y : X) (i : ℕ) (a : X) → slice_get (xs ++ y ∷ []) i ≡ Some a → (slice_get xs i ≡ Some a) ⊎ ((i ≡ length xs) × (a ≡ y))
nth_push_cases [] y zero a e = inr (refl, cc)
nth_push_cases [] y (suc i) a e = none_some None a refl e
nth_push_cases (x ∷ xs) y zero a e = inl e
nth_push_cases (x ∷ xs) y (suc i) a e = elim (nth_push_cases xs y i a e) [ inl h ↦ inl h | inr h ↦ inr (ap suc h.0, h.1) ]

nth_within : {X : Type 0} (xs : List X) (i : ℕ) (a : X) → slice_get xs i ≡ Some a → i < length xs
nth_within [] i a e = none_some None a refl e
nth_within (x ∷ xs) zero a e = omega arith
nth_within (x ∷ xs) (suc i) a e = omega (arith, nth_within xs i a e)

pub numbered_get_or : {X : Type 0} (xs : List X) (k : ℕ) (d : X) → 1 ≤ k → k ≤ length xs → numbered xs k ≡ Some (get_or xs (k - 1) d)
numbered_get_or xs zero d a b = absurd (omega arith)
numbered_get_or xs (suc i) d a b = rw (sub-one, slice_get-get_or xs i d b)

pub numbered_push : {X : Type 0} (xs : List X) (a : X) → numbered (xs ++ a ∷ []) (suc (length xs)) ≡ Some a
numbered_push xs a = nth_push xs a

pub numbered_more : {X : Type 0} (xs ys : List X) (k : ℕ) (a : X) → numbered xs k ≡ Some a → numbered (xs ++ ys) k ≡ Some a
numbered_more xs ys zero a e = none_some None a refl e
numbered_more xs ys (suc i) a e = nth_more xs ys i a e

pub numbered_push_cases : {X : Type 0} (xs : List X) (y : X) (k : ℕ) (a : X) → numbered (xs ++ y ∷ []) k ≡ Some a → (numbered xs k ≡ Some a) ⊎ ((k ≡ suc (length xs)) × (a ≡ y))
numbered_push_cases xs y zero a e = none_some None a refl e
numbered_push_cases xs y (suc i) a e = elim (nth_push_cases xs y i a e) [ inl h ↦ inl h | inr h ↦ inr (ap suc h.0, h.1) ]

pub numbered_within : {X : Type 0} (xs : List X) (k : ℕ) (a : X) → numbered xs k ≡ Some a → (1 ≤ k) × (k ≤ length xs)
numbered_within xs zero a e = none_some None a refl e
numbered_within xs (suc i) a e = let h = nth_within xs i a e in (omega arith, omega arith)

pub all_numbered : {X : Type 0} (Q : X → Type 0) (xs : List X) → ((k : ℕ) (a : X) → numbered xs k ≡ Some a → Q a) → AllByRecursion Q xs
all_numbered Q [] f = tt
all_numbered Q (x ∷ xs) f = (f 1 x refl, all_numbered Q xs (λ k. behind_first k))
  where
    behind_first : (k : ℕ) (a : _) → numbered xs k ≡ Some a → Q a
    behind_first zero a e = none_some None a refl e
    behind_first (suc i) a e = f (suc (suc i)) a e

pub all_nth : {X : Type 0} (Q : X → Type 0) (xs : List X) → AllByRecursion Q xs → (i : ℕ) (a : X) → slice_get xs i ≡ Some a → Q a
all_nth Q [] h i a e = none_some None a refl e
all_nth Q (x ∷ xs) h zero a e = let k : x ≡ a = cc in rw (← k) h.0
all_nth Q (x ∷ xs) h (suc i) a e = all_nth Q xs h.1 i a e

pub all_both : {X : Type 0} (Q R : X → Type 0) (xs : List X) → AllByRecursion Q xs → AllByRecursion R xs → AllByRecursion (λ x. Q x × R x) xs
all_both Q R [] a b = tt
all_both Q R (x ∷ xs) a b = ((a.0, b.0), all_both Q R xs a.1 b.1)

-- the relation holds from each element to every later one
abbrev pub Pairwise : {X : Type 0} → (X → X → Type 0) → List X → Type 0
Pairwise R [] = Unit {0}
Pairwise R (x ∷ xs) = AllByRecursion (R x) xs × Pairwise R xs

pub pairwise_push : {X : Type 0} (R : X → X → Type 0) (xs : List X) (y : X) → Pairwise R xs → AllByRecursion (λ x. R x y) xs → Pairwise R (xs ++ y ∷ [])
pairwise_push R [] y h k = (tt, tt)
pairwise_push R (x ∷ xs) y h k = (All-push (R x) xs y h.0 k.0, pairwise_push R xs y h.1 k.1)

pub pairwise_kept : {X : Type 0} (R : X → X → Type 0) (p : X → Bool) (xs : List X) → Pairwise R xs → Pairwise R (filter p xs)
pairwise_kept R p [] h = tt
pairwise_kept R p (x ∷ xs) h =
    let k = pairwise_kept R p xs h.1 in
    cond_both (p x) (x ∷ filter p xs) (filter p xs) (Pairwise R) (λ _. (all_kept_by p (R x) xs h.0, k)) (λ _. k)

pub pairwise_map : {X Y : Type 0} (R : Y → Y → Type 0) (f : X → Y) (xs : List X) → Pairwise (λ x y. R (f x) (f y)) xs → Pairwise R (map f xs)
pairwise_map R f [] h = tt
pairwise_map R f (x ∷ xs) h = (All-map (R (f x)) f xs h.0, pairwise_map R f xs h.1)

pairwise_nth : {X : Type 0} (R : X → X → Type 0) (xs : List X) → Pairwise R xs → (i j : ℕ) (x y : X) → i < j → slice_get xs i ≡ Some x → slice_get xs j ≡ Some y → R x y
pairwise_nth R [] h i j x y l a b = none_some None x refl a
pairwise_nth R (z ∷ xs) h i zero x y l a b = absurd (omega arith)
pairwise_nth R (z ∷ xs) h zero (suc j) x y l a b = let k : z ≡ x = cc in rw (← k) (all_nth (R z) xs h.0 j y b)
pairwise_nth R (z ∷ xs) h (suc i) (suc j) x y l a b = pairwise_nth R xs h.1 i j x y (omega arith) a b

-- where the relation holds both ways round, from each element to every later one, it holds between any two
pub each_two : {X : Type 0} (R : X → X → Type 0) (xs : List X) → Pairwise (λ x y. R x y × R y x) xs → EachTwo R xs
each_two R xs h i j x y n a b = elim (cases_lt i j) [
  | inl l ↦ (pairwise_nth (λ x y. R x y × R y x) xs h i j x y l a b).0
  | inr l ↦ (pairwise_nth (λ x y. R x y × R y x) xs h j i y x (omega arith) b a).1
]
