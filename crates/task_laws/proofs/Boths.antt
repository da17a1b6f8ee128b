-- What holds of each task with its two jobs.
use Rattle.std.proofs.Common.{◌≡◌, ℕ, zero, suc, Bool, true, false, List, [], ◌∷◌, map, set, Some, refl, ap, ◌∙◌, subst, inl, inr, arith}
use Rattle.std.specs.List.{slice_get, AllByRecursion}
use Rattle.std.proofs.lemmas.Bool.{and_parts, and_from, or_cases, or_left, or_right, or_from, false≢true}
use Rattle.task_table.specs.declared.task.Task.{Task}
use Rattle.jobs.specs.declared.job.Job.{Job}
use Rattle.jobs.specs.declared.job.Job.TheVariants.{Absent, Idle, Ready, Dropped}
use Rattle.jobs.specs.declared.kind.Kind.{Kind}
use Rattle.job_state.specs.Lists.{all_absent, every, any, over}
use Rattle.task_laws.specs.Systems.{simulates_job, simulates_jobs}

abbrev pub Rel : Type 1
Rel = Task → Job → Job → Type 0

abbrev pub Both : Rel → List Task → List Job → List Job → Type 0
Both P [] xs ys = (xs ≡ ys) × (all_absent xs ≡ true)
Both P (r ∷ rs) [] ys = ⊥
Both P (r ∷ rs) (x ∷ xs) [] = ⊥
Both P (r ∷ rs) (x ∷ xs) (y ∷ ys) = P r x y × Both P rs xs ys

-- in from the tests
tails : (k : Kind) (xs ys : List Job) → all_absent xs ≡ true → all_absent ys ≡ true → simulates_jobs k xs ys ≡ true → xs ≡ ys
tails k [] [] a b e = refl
tails k [] (y ∷ ys) a b e = absurd (false≢true e)
tails k (x ∷ xs) [] a b e = absurd (false≢true e)
tails k (Absent ∷ xs) (Absent ∷ ys) a b e = ap (λ (l : List Job). Absent ∷ l) (tails k xs ys a b e)
tails k (Absent ∷ xs) (Idle w ∷ ys) a b e = absurd (false≢true b)
tails k (Absent ∷ xs) (Ready w l ∷ ys) a b e = absurd (false≢true b)
tails k (Absent ∷ xs) (Dropped ∷ ys) a b e = absurd (false≢true b)
tails k (Idle w ∷ xs) (y ∷ ys) a b e = absurd (false≢true a)
tails k (Ready w l ∷ xs) (y ∷ ys) a b e = absurd (false≢true a)
tails k (Dropped ∷ xs) (y ∷ ys) a b e = absurd (false≢true a)

pub both_in : (R : Task → Type 0) (p q : Task → Job → Bool) (k : Kind) (rs : List Task) (xs ys : List Job) → AllByRecursion R rs → every p rs xs ≡ true → every q rs ys ≡ true → simulates_jobs k xs ys ≡ true → Both (λ r x y. R r × (p r x ≡ true) × (q r y ≡ true) × (simulates_job k x y ≡ true)) rs xs ys
both_in R p q k [] xs ys h a b c = (tails k xs ys a b c, a)
both_in R p q k (r ∷ rs) [] ys h a b c = absurd (false≢true a)
both_in R p q k (r ∷ rs) (x ∷ xs) [] h a b c = absurd (false≢true b)
both_in R p q k (r ∷ rs) (x ∷ xs) (y ∷ ys) h a b c =
    let a' = and_parts (p r x) (every p rs xs) a in
    let b' = and_parts (q r y) (every q rs ys) b in
    let c' = and_parts (simulates_job k x y) (simulates_jobs k xs ys) c in
    ((h.0, a'.0, b'.0, c'.0), both_in R p q k rs xs ys h.1 a'.1 b'.1 c'.1)

pub one_in : (R : Task → Type 0) (p : Task → Job → Bool) (rs : List Task) (xs : List Job) → AllByRecursion R rs → every p rs xs ≡ true → Both (λ r x y. R r × (p r x ≡ true) × (x ≡ y)) rs xs xs
one_in R p [] xs h a = (refl, a)
one_in R p (r ∷ rs) [] h a = absurd (false≢true a)
one_in R p (r ∷ rs) (x ∷ xs) h a =
    let a' = and_parts (p r x) (every p rs xs) a in
    ((h.0, a'.0, refl), one_in R p rs xs h.1 a'.1)

-- out to the tests
pub out_left : (P : Rel) (p : Task → Job → Bool) (rs : List Task) (xs ys : List Job) → ((r : Task) (x y : Job) → P r x y → p r x ≡ true) → Both P rs xs ys → every p rs xs ≡ true
out_left P p [] xs ys f h = h.1
out_left P p (r ∷ rs) [] ys f h = absurd h
out_left P p (r ∷ rs) (x ∷ xs) [] f h = absurd h
out_left P p (r ∷ rs) (x ∷ xs) (y ∷ ys) f h = and_from (p r x) (every p rs xs) (f r x y h.0) (out_left P p rs xs ys f h.1)

pub out_right : (P : Rel) (p : Task → Job → Bool) (rs : List Task) (xs ys : List Job) → ((r : Task) (x y : Job) → P r x y → p r y ≡ true) → Both P rs xs ys → every p rs ys ≡ true
out_right P p [] xs ys f h = subst (λ (l : List Job). all_absent l ≡ true) h.0 h.1
out_right P p (r ∷ rs) [] ys f h = absurd h
out_right P p (r ∷ rs) (x ∷ xs) [] f h = absurd h
out_right P p (r ∷ rs) (x ∷ xs) (y ∷ ys) f h = and_from (p r y) (every p rs ys) (f r x y h.0) (out_right P p rs xs ys f h.1)

lone : (k : Kind) (xs : List Job) → all_absent xs ≡ true → simulates_jobs k xs xs ≡ true
lone k [] h = refl
lone k (Absent ∷ xs) h = lone k xs h
lone k (Idle w ∷ xs) h = absurd (false≢true h)
lone k (Ready w l ∷ xs) h = absurd (false≢true h)
lone k (Dropped ∷ xs) h = absurd (false≢true h)

pub out_both : (P : Rel) (k : Kind) (rs : List Task) (xs ys : List Job) → ((r : Task) (x y : Job) → P r x y → simulates_job k x y ≡ true) → Both P rs xs ys → simulates_jobs k xs ys ≡ true
out_both P k [] xs ys f h = subst (λ (l : List Job). simulates_jobs k xs l ≡ true) h.0 (lone k xs h.1)
out_both P k (r ∷ rs) [] ys f h = absurd h
out_both P k (r ∷ rs) (x ∷ xs) [] f h = absurd h
out_both P k (r ∷ rs) (x ∷ xs) (y ∷ ys) f h = and_from (simulates_job k x y) (simulates_jobs k xs ys) (f r x y h.0) (out_both P k rs xs ys f h.1)

-- each changed
pub both_over : (P Q : Rel) (f g : Task → Job → Job) (rs : List Task) (xs ys : List Job) → ((r : Task) (x y : Job) → P r x y → Q r (f r x) (g r y)) → Both P rs xs ys → Both Q rs (over f rs xs) (over g rs ys)
both_over P Q f g [] xs ys m h = h
both_over P Q f g (r ∷ rs) [] ys m h = absurd h
both_over P Q f g (r ∷ rs) (x ∷ xs) [] m h = absurd h
both_over P Q f g (r ∷ rs) (x ∷ xs) (y ∷ ys) m h = (m r x y h.0, both_over P Q f g rs xs ys m h.1)

pub both_like : (P Q : Rel) (rs : List Task) (xs ys : List Job) → ((r : Task) (x y : Job) → P r x y → Q r x y) → Both P rs xs ys → Both Q rs xs ys
both_like P Q [] xs ys m h = h
both_like P Q (r ∷ rs) [] ys m h = absurd h
both_like P Q (r ∷ rs) (x ∷ xs) [] m h = absurd h
both_like P Q (r ∷ rs) (x ∷ xs) (y ∷ ys) m h = (m r x y h.0, both_like P Q rs xs ys m h.1)

pub both_join : (P Q R : Rel) (rs : List Task) (xs ys zs : List Job) → ((r : Task) (x y z : Job) → P r x y → Q r y z → R r x z) → Both P rs xs ys → Both Q rs ys zs → Both R rs xs zs
both_join P Q R [] xs ys zs m h t = (h.0 ∙ t.0, h.1)
both_join P Q R (r ∷ rs) [] ys zs m h t = absurd h
both_join P Q R (r ∷ rs) (x ∷ xs) [] zs m h t = absurd h
both_join P Q R (r ∷ rs) (x ∷ xs) (y ∷ ys) [] m h t = absurd t
both_join P Q R (r ∷ rs) (x ∷ xs) (y ∷ ys) (z ∷ zs) m h t = (m r x y z h.0 t.0, both_join P Q R rs xs ys zs m h.1 t.1)

-- one changed
pub both_set : (P : Rel) (rs : List Task) (xs ys : List Job) (i : ℕ) (r : Task) (a b : Job) → slice_get rs i ≡ Some r → P r a b → Both P rs xs ys → Both P rs (set xs i a) (set ys i b)
both_set P [] xs ys i r a b e h t = let z : ◌≡◌ {A = ℕ} 0 1 = cc in absurd (omega arith)
both_set P (r₁ ∷ rs) [] ys i r a b e h t = absurd t
both_set P (r₁ ∷ rs) (x ∷ xs) [] i r a b e h t = absurd t
both_set P (r₁ ∷ rs) (x ∷ xs) (y ∷ ys) zero r a b e h t = let q : r ≡ r₁ = cc in (subst (λ (r₂ : Task). P r₂ a b) q h, t.1)
both_set P (r₁ ∷ rs) (x ∷ xs) (y ∷ ys) (suc i) r a b e h t = (t.0, both_set P rs xs ys i r a b e h t.1)

-- one of them
pub record Two (P : Rel) (rs : List Task) (xs ys : List Job) (i : ℕ) (r : Task) : Type 0 where
  pub mine : Job
  pub other : Job
  pub at : slice_get xs i ≡ Some mine
  pub there : slice_get ys i ≡ Some other
  pub has : P r mine other

pub both_at : (P : Rel) (rs : List Task) (xs ys : List Job) (i : ℕ) (r : Task) → slice_get rs i ≡ Some r → Both P rs xs ys → Two P rs xs ys i r
both_at P [] xs ys i r e t = let z : ◌≡◌ {A = ℕ} 0 1 = cc in absurd (omega arith)
both_at P (r₁ ∷ rs) [] ys i r e t = absurd t
both_at P (r₁ ∷ rs) (x ∷ xs) [] i r e t = absurd t
both_at P (r₁ ∷ rs) (x ∷ xs) (y ∷ ys) zero r e t = let q : r₁ ≡ r = cc in record { mine = x; other = y; at = refl; there = refl; has = subst (λ (r₂ : Task). P r₂ x y) q t.0 }
both_at P (r₁ ∷ rs) (x ∷ xs) (y ∷ ys) (suc i) r e t =
    let w = both_at P rs xs ys i r e t.1 in
    record { mine = w.mine; other = w.other; at = w.at; there = w.there; has = w.has }

-- one that passes
pub any_under : (P : Rel) (p q : Task → Job → Bool) (rs : List Task) (xs ys : List Job) → ((r : Task) (x y : Job) → P r x y → q r y ≡ true → p r x ≡ true) → Both P rs xs ys → any q rs ys ≡ true → any p rs xs ≡ true
any_under P p q [] xs ys m h e = absurd (false≢true e)
any_under P p q (r ∷ rs) [] ys m h e = absurd h
any_under P p q (r ∷ rs) (x ∷ xs) [] m h e = absurd h
any_under P p q (r ∷ rs) (x ∷ xs) (y ∷ ys) m h e = elim (or_cases (q r y) (any q rs ys) e) [
  | inl k ↦ or_left (p r x) (any p rs xs) (m r x y h.0 k)
  | inr k ↦ or_right (p r x) (any p rs xs) (any_under P p q rs xs ys m h.1 k)
]

pub any_same : (P : Rel) (p : Task → Job → Bool) (rs : List Task) (xs ys : List Job) → ((r : Task) (x y : Job) → P r x y → p r x ≡ p r y) → Both P rs xs ys → any p rs xs ≡ any p rs ys
any_same P p [] xs ys m h = refl
any_same P p (r ∷ rs) [] ys m h = absurd h
any_same P p (r ∷ rs) (x ∷ xs) [] m h = absurd h
any_same P p (r ∷ rs) (x ∷ xs) (y ∷ ys) m h =
    let a : p r x ≡ p r y = m r x y h.0 in
    let b = any_same P p rs xs ys m h.1 in
    cc

pub any_none : (P : Rel) (p : Task → Job → Bool) (rs : List Task) (xs ys : List Job) → ((r : Task) (x y : Job) → P r x y → p r x ≡ false) → Both P rs xs ys → any p rs xs ≡ false
any_none P p [] xs ys m h = refl
any_none P p (r ∷ rs) [] ys m h = refl
any_none P p (r ∷ rs) (x ∷ xs) [] m h = absurd h
any_none P p (r ∷ rs) (x ∷ xs) (y ∷ ys) m h = or_from (p r x) (any p rs xs) (m r x y h.0) (any_none P p rs xs ys m h.1)

-- an image that agrees
pub map_both : (P : Rel) (f : Job → Job) (rs : List Task) (xs ys : List Job) → ((r : Task) (x y : Job) → P r x y → f x ≡ f y) → Both P rs xs ys → map f xs ≡ map f ys
map_both P f [] xs ys m h = ap (map f) h.0
map_both P f (r ∷ rs) [] ys m h = absurd h
map_both P f (r ∷ rs) (x ∷ xs) [] m h = absurd h
map_both P f (r ∷ rs) (x ∷ xs) (y ∷ ys) m h =
    let a : f x ≡ f y = m r x y h.0 in
    let b = map_both P f rs xs ys m h.1 in
    cc
