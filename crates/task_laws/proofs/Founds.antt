-- One task among all.
use Rattle.std.proofs.Common.{◌≡◌, ℕ, zero, suc, ◌+◌, ◌≤◌, Bool, true, false, ◌⊎◌, List, [], ◌∷◌, length, set, Some, None, Option, sym, refl, ap, ◌∙◌, subst, inl, inr, arith}
use Rattle.std.specs.List.{slice_get}
use Rattle.std.proofs.lemmas.Bool.{or_cases, or_left, or_right, or_from, false≢true, cond_both}
use Rattle.task_table.specs.declared.task.Task.{Task}
use Rattle.jobs.specs.declared.job.Job.{Job}
use Rattle.jobs.specs.declared.kind.Kind.{Kind}
use Rattle.jobs.specs.Jobs.{due_job}
use Rattle.job_state.specs.Lists.{any, lowest, over}
use Rattle.task_laws.specs.Systems.{due_count}

-- task j has the row r and the job x
pub record Has (rs : List Task) (xs : List Job) (j : ℕ) (r : Task) (x : Job) : Type 0 where
  pub row : slice_get rs j ≡ Some r
  pub job : slice_get xs j ≡ Some x

pub record SomeJob (p : Task → Job → Bool) (rs : List Task) (xs : List Job) (j : ℕ) : Type 0 where
  pub the_task : Task
  pub the_job : Job
  pub has : Has rs xs j the_task the_job
  pub passes : p the_task the_job ≡ true

no_task : {Y : Type 0} (rs : List Task) (xs : List Job) (j : ℕ) (r : Task) (x : Job) → (rs ≡ []) ⊎ (xs ≡ []) → Has rs xs j r x → Y
no_task rs xs j r x (inl e) h = let a : slice_get [] j ≡ Some r = subst (λ (l : List Task). slice_get l j ≡ Some r) e h.row in let z : ◌≡◌ {A = ℕ} 0 1 = cc in absurd (omega arith)
no_task rs xs j r x (inr e) h = let a : slice_get [] j ≡ Some x = subst (λ (l : List Job). slice_get l j ≡ Some x) e h.job in let z : ◌≡◌ {A = ℕ} 0 1 = cc in absurd (omega arith)

down : {r₁ : Task} {rs : List Task} {x₁ : Job} {xs : List Job} (j : ℕ) {r : Task} {x : Job} → Has (r₁ ∷ rs) (x₁ ∷ xs) (suc j) r x → Has rs xs j r x
down j h = record { row = h.row; job = h.job }

pub one_job : (rs : List Task) (xs : List Job) (j : ℕ) (r s : Task) (x y : Job) → Has rs xs j r x → Has rs xs j s y → (r ≡ s) × (x ≡ y)
one_job rs xs j r s x y a b = let p = a.row in let q = b.row in let m = a.job in let n = b.job in (cc, cc)

pub any_by : (p : Task → Job → Bool) (rs : List Task) (xs : List Job) (j : ℕ) (r : Task) (x : Job) → Has rs xs j r x → p r x ≡ true → any p rs xs ≡ true
any_by p [] xs j r x h e = no_task [] xs j r x (inl refl) h
any_by p (r₁ ∷ rs) [] j r x h e = no_task (r₁ ∷ rs) [] j r x (inr refl) h
any_by p (r₁ ∷ rs) (x₁ ∷ xs) zero r x h e = let a = h.row in let b = h.job in let c : r₁ ≡ r = cc in let d : x₁ ≡ x = cc in or_left (p r₁ x₁) (any p rs xs) (let f : p r₁ x₁ ≡ p r x = cc in f ∙ e)
any_by p (r₁ ∷ rs) (x₁ ∷ xs) (suc j) r x h e = or_right (p r₁ x₁) (any p rs xs) (any_by p rs xs j r x (down j h) e)

pub any_not : (p : Task → Job → Bool) (rs : List Task) (xs : List Job) (j : ℕ) (r : Task) (x : Job) → Has rs xs j r x → any p rs xs ≡ false → p r x ≡ false
any_not p rs xs j r x h e = go (p r x) refl
  where
    go : (t : Bool) → p r x ≡ t → t ≡ false
    go true q = sym (any_by p rs xs j r x h q) ∙ e
    go false q = refl

pub any_at : (p : Task → Job → Bool) (rs : List Task) (xs : List Job) → any p rs xs ≡ true → (j : ℕ) × SomeJob p rs xs j
any_at p [] xs e = absurd (false≢true e)
any_at p (r ∷ rs) [] e = absurd (false≢true e)
any_at p (r ∷ rs) (x ∷ xs) e = elim (or_cases (p r x) (any p rs xs) e) [
  | inl k ↦ (zero, record { the_task = r; the_job = x; has = record { row = refl; job = refl }; passes = k })
  | inr k ↦ let w = any_at p rs xs k in (suc w.0, record { the_task = w.1.the_task; the_job = w.1.the_job; has = record { row = w.1.has.row; job = w.1.has.job }; passes = w.1.passes })
]

pub has_over : (f : Task → Job → Job) (rs : List Task) (xs : List Job) (j : ℕ) (r : Task) (x : Job) → Has rs xs j r x → Has rs (over f rs xs) j r (f r x)
has_over f [] xs j r x h = no_task [] xs j r x (inl refl) h
has_over f (r₁ ∷ rs) [] j r x h = no_task (r₁ ∷ rs) [] j r x (inr refl) h
has_over f (r₁ ∷ rs) (x₁ ∷ xs) zero r x h = let a = h.row in let b = h.job in let c : r₁ ≡ r = cc in let d : x₁ ≡ x = cc in record { row = a; job = cc }
has_over f (r₁ ∷ rs) (x₁ ∷ xs) (suc j) r x h = let w = has_over f rs xs j r x (down j h) in record { row = w.row; job = w.job }

pub has_set_same : (rs : List Task) (xs : List Job) (j : ℕ) (a : Job) (r : Task) (x : Job) → Has rs xs j r x → Has rs (set xs j a) j r a
has_set_same rs xs j a r x h = record { row = h.row; job = go xs j h.job }
  where
    go : (xs : List Job) (j : ℕ) → slice_get xs j ≡ Some x → slice_get (set xs j a) j ≡ Some a
    go [] j e = let z : ◌≡◌ {A = ℕ} 0 1 = cc in absurd (omega arith)
    go (y ∷ ys) zero e = refl
    go (y ∷ ys) (suc j) e = go ys j e

pub has_set : (rs : List Task) (xs : List Job) (i j : ℕ) (a : Job) (r : Task) (x : Job) → (i ≡ j → ⊥) → Has rs xs j r x → Has rs (set xs i a) j r x
has_set rs xs i j a r x n h = record { row = h.row; job = go xs i j n h.job }
  where
    go : (xs : List Job) (i j : ℕ) → (i ≡ j → ⊥) → slice_get xs j ≡ Some x → slice_get (set xs i a) j ≡ Some x
    go [] i j n e = e
    go (y ∷ ys) zero zero n e = absurd (n refl)
    go (y ∷ ys) zero (suc j) n e = e
    go (y ∷ ys) (suc i) zero n e = e
    go (y ∷ ys) (suc i) (suc j) n e = go ys i j (λ q. n (ap suc q)) e

pub count_few : (k : Kind) (rs : List Task) (xs : List Job) → due_count k rs xs ≤ length rs
count_few k [] xs = omega arith
count_few k (r ∷ rs) [] = omega arith
count_few k (r ∷ rs) (x ∷ xs) = let h = count_few k rs xs in cond_both (due_job k x) 1 0 (λ n. n + due_count k rs xs ≤ suc (length rs)) (λ _. omega arith) (λ _. omega arith)

pub count_set : (k : Kind) (rs : List Task) (xs : List Job) (i : ℕ) (a : Job) (r : Task) (x : Job) → Has rs xs i r x → due_job k x ≡ true → due_job k a ≡ false → suc (due_count k rs (set xs i a)) ≡ due_count k rs xs
count_set k [] xs i a r x h s t = no_task [] xs i r x (inl refl) h
count_set k (r₁ ∷ rs) [] i a r x h s t = no_task (r₁ ∷ rs) [] i r x (inr refl) h
count_set k (r₁ ∷ rs) (x₁ ∷ xs) zero a r x h s t =
    let n = h.job in
    let d : x₁ ≡ x = cc in
    let s₁ : due_job k x₁ ≡ true = (let f : due_job k x₁ ≡ due_job k x = cc in f ∙ s) in
    rw (s₁, t) (omega arith)
count_set k (r₁ ∷ rs) (x₁ ∷ xs) (suc i) a r x h s t = let e = count_set k rs xs i a r x (down i h) s t in omega arith

-- nobody passes, or the task of the number that is found
pub data Lowest (p : Task → Job → Bool) (k : ℕ) (rs : List Task) (xs : List Job) : Option ℕ → Type 0 where
  nobody : any p rs xs ≡ false → Lowest p k rs xs None
  somebody : {n i : ℕ} → n ≡ (k + i) + 1 → SomeJob p rs xs i → Lowest p k rs xs (Some n)

lowest_later : (p : Task → Job → Bool) (k : ℕ) (r : Task) (rs : List Task) (x : Job) (xs : List Job) {o : Option ℕ} → p r x ≡ false → Lowest p (k + 1) rs xs o → Lowest p k (r ∷ rs) (x ∷ xs) o
lowest_later p k r rs x xs e (nobody h) = nobody (or_from (p r x) (any p rs xs) e h)
lowest_later p k r rs x xs e (somebody {i = i} c w) = somebody {i = suc i} (c ∙ omega arith) (record { the_task = w.the_task; the_job = w.the_job; has = record { row = w.has.row; job = w.has.job }; passes = w.passes })

pub lowest_is : (p : Task → Job → Bool) (k : ℕ) (rs : List Task) (xs : List Job) → Lowest p k rs xs (lowest p k rs xs)
lowest_is p k [] xs = nobody refl
lowest_is p k (r ∷ rs) [] = nobody refl
lowest_is p k (r ∷ rs) (x ∷ xs) = cond_both (p r x) _ _ (Lowest p k (r ∷ rs) (x ∷ xs)) (λ e. somebody {i = 0} (omega arith) (record { the_task = r; the_job = x; has = record { row = refl; job = refl }; passes = e })) (λ e. lowest_later p k r rs x xs e (lowest_is p (k + 1) rs xs))
