-- The ends of loops over tasks and jobs.
use Rattle.std.proofs.Common.{◌≡◌, ℕ, zero, suc, ◌+◌, ◌≤◌, Bool, true, false, cond, ◌||◌, leb, ◌⊎◌, List, [], ◌∷◌, ◌++◌, length, take, drop, replicate, is_some, Some, None, sym, refl, ap, ◌∙◌, inl, inr, arith}
use Rattle.std.proofs.lemmas.List.{drop_more, drop_all, take-append-drop}
use Rattle.std.proofs.lemmas.Bool.{cases_lt, le-leb, lt-leb}
use Rattle.task_table.specs.declared.task.Task.{Task}
use Rattle.jobs.specs.declared.job.Job.{Job}
use Rattle.jobs.specs.declared.job.Job.TheVariants.{Absent, Idle}
use Rattle.jobs.specs.declared.kind.Kind.{Kind}
use Rattle.jobs.specs.Tasks.{first_wait}
use Rattle.job_state.specs.Lists.{every, any, lowest, over}
use Rattle.job_state.specs.States.{first_jobs}
use Rattle.job_state.proofs.Serves.{no_task}

over_none : (f : Task → Job → Job) (ts : List Task) → over f ts [] ≡ []
over_none f [] = refl
over_none f (t ∷ ts) = refl

pub over_all : (f : Task → Job → Job) (ts : List Task) (xs ys : List Job) (i : ℕ) → (length ts ≤ i) ⊎ (length ys ≤ i) → take i ys ++ over f (drop i ts) (drop i ys) ≡ over f ts xs → ys ≡ over f ts xs
over_all f ts xs ys i (inl h) old = sym (take-append-drop i ys) ∙ (rw (drop_all i ts h) at old)
over_all f ts xs ys i (inr h) old =
    let e : over f (drop i ts) (drop i ys) ≡ drop i ys = rw (drop_all i ys h) (over_none f (drop i ts)) in
    sym (take-append-drop i ys) ∙ (rw e at old)

-- where no task or no job is left, none passes
pub lowest_end : (p : Task → Job → Bool) (k : ℕ) (ts : List Task) (xs : List Job) → (length ts ≡ 0) ⊎ (length xs ≡ 0) → lowest p k ts xs ≡ None
lowest_end p k [] xs h = refl
lowest_end p k (t ∷ ts) [] h = refl
lowest_end p k (t ∷ ts) (x ∷ xs) (inl h) = absurd (omega arith)
lowest_end p k (t ∷ ts) (x ∷ xs) (inr h) = absurd (omega arith)

-- where no job is left, all pass just where no task is left
pub every_end : (p : Task → Job → Bool) (ts : List Task) (xs : List Job) (i : ℕ) → length xs ≡ i → every p (drop i ts) (drop i xs) ≡ leb (length ts) (length xs)
every_end p ts xs i h =
    let past : length xs ≤ i = omega arith in
    elim (cases_lt i (length ts)) [
      | inl k ↦ rw (drop_all i xs past, drop_more ts i no_task k) (sym (lt-leb (length ts) (length xs) (omega arith)))
      | inr k ↦ rw (drop_all i xs past, drop_all i ts k) (sym (le-leb (length ts) (length xs) (omega arith)))
    ]

pub some_lowest : (p : Task → Job → Bool) (k : ℕ) (ts : List Task) (xs : List Job) → is_some (lowest p k ts xs) ≡ any p ts xs
some_lowest p k [] xs = refl
some_lowest p k (t ∷ ts) [] = refl
some_lowest p k (t ∷ ts) (x ∷ xs) = go (p t x) (some_lowest p (k + 1) ts xs)
  where
    go : (b : Bool) → is_some (lowest p (k + 1) ts xs) ≡ any p ts xs → is_some (cond b (Some (k + 1)) (lowest p (k + 1) ts xs)) ≡ (b || any p ts xs)
    go true rest = refl
    go false rest = rest

pub over_absent : (k : Kind) (ts : List Task) (n : ℕ) → over (λ t _. Idle (first_wait k t)) ts (replicate n Absent) ≡ first_jobs k ts n
over_absent k [] zero = refl
over_absent k [] (suc n) = ap (λ (xs : List Job). Absent ∷ xs) (over_absent k [] n)
over_absent k (t ∷ ts) zero = refl
over_absent k (t ∷ ts) (suc n) = ap (λ (xs : List Job). Idle (first_wait k t) ∷ xs) (over_absent k ts n)
