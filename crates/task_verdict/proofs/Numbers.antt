-- The numbers of late tasks, found one after another.
use Rattle.std.proofs.Common.{◌≡◌, ℕ, ◌+◌, ◌<◌, ◌≤◌, true, false, cond, List, [], ◌∷◌, ◌++◌, length, get_or, drop, sym, ap, ◌∙◌, ⊎_elim, append_assoc, append-nil, arith}
use Rattle.std.proofs.lemmas.List.{at_drop_more, at_drop_all}
use Rattle.std.proofs.lemmas.Bool.{cases_Bool}
use Rattle.task_table.specs.declared.task.Task.{Task}
use Rattle.jobs.specs.declared.job.Job.{Job}
use Rattle.job_state.specs.declared.state.State.{State}
use Rattle.jobs.specs.Jobs.{late_job}
use Rattle.job_state.specs.Lists.{any}
use Rattle.job_state.specs.States.{late}
use Rattle.task_verdict.specs.Misses.{late_numbers}

module _ (ts : List Task) (xs : List Job) (i : ℕ) (dt : Task) (dx : Job) (row : i < length ts) (column : i < length xs) where
  -- the next task and its job, before the rest
  opened : late_numbers i (drop i ts) (drop i xs) ≡ late_numbers i (get_or ts i dt ∷ drop (i + 1) ts) (get_or xs i dx ∷ drop (i + 1) xs)
  opened = at_drop_more (λ us. late_numbers i us (drop i xs)) ts i dt row ∙ at_drop_more (λ ys. late_numbers i (get_or ts i dt ∷ drop (i + 1) ts) ys) xs i dx column

  pub numbers_late : (ns all : List ℕ) → true ≡ late_job (get_or ts i dt) (get_or xs i dx) → ns ++ late_numbers i (drop i ts) (drop i xs) ≡ all → (ns ++ (i + 1) ∷ []) ++ late_numbers (i + 1) (drop (i + 1) ts) (drop (i + 1) xs) ≡ all
  numbers_late ns all is e =
      let step : late_numbers i (drop i ts) (drop i xs) ≡ (i + 1) ∷ late_numbers (i + 1) (drop (i + 1) ts) (drop (i + 1) xs) = opened ∙ ap (λ b. cond b ((i + 1) ∷ late_numbers (i + 1) (drop (i + 1) ts) (drop (i + 1) xs)) (late_numbers (i + 1) (drop (i + 1) ts) (drop (i + 1) xs))) (sym is) in
      append_assoc ns ((i + 1) ∷ []) (late_numbers (i + 1) (drop (i + 1) ts) (drop (i + 1) xs)) ∙ ap (λ ms. ns ++ ms) (sym step) ∙ e

  pub numbers_passed : (ns all : List ℕ) → false ≡ late_job (get_or ts i dt) (get_or xs i dx) → ns ++ late_numbers i (drop i ts) (drop i xs) ≡ all → ns ++ late_numbers (i + 1) (drop (i + 1) ts) (drop (i + 1) xs) ≡ all
  numbers_passed ns all is e =
      let step : late_numbers i (drop i ts) (drop i xs) ≡ late_numbers (i + 1) (drop (i + 1) ts) (drop (i + 1) xs) = opened ∙ ap (λ b. cond b ((i + 1) ∷ late_numbers (i + 1) (drop (i + 1) ts) (drop (i + 1) xs)) (late_numbers (i + 1) (drop (i + 1) ts) (drop (i + 1) xs))) (sym is) in
      ap (λ ms. ns ++ ms) (sym step) ∙ e

pub numbers_whole : (ts : List Task) (xs : List Job) (i : ℕ) (ns all : List ℕ) → length ts ≤ i → ns ++ late_numbers i (drop i ts) xs ≡ all → ns ≡ all
numbers_whole ts xs i ns all done e = sym (append-nil ns) ∙ ap (λ ms. ns ++ ms) (sym (at_drop_all (λ us. late_numbers i us xs) ts i done)) ∙ e

some_number : (k : ℕ) (ts : List Task) (xs : List Job) → any late_job ts xs ≡ true → 0 < length (late_numbers k ts xs)
some_number k [] xs h = let z : ◌≡◌ {A = ℕ} 0 1 = cc in absurd (omega arith)
some_number k (t ∷ ts) [] h = let z : ◌≡◌ {A = ℕ} 0 1 = cc in absurd (omega arith)
some_number k (t ∷ ts) (x ∷ xs) h =
    ⊎_elim
    (λ (l : late_job t x ≡ true). rw l (omega arith))
    (λ (n : late_job t x ≡ false). rw n (some_number (k + 1) ts xs (rw n at h)))
    (cases_Bool (late_job t x))

pub somebody : (ts : List Task) (s : State) → late ts s ≡ true → 0 < length (late_numbers 0 ts s.jobs)
unfolding late
somebody ts s h = some_number 0 ts s.jobs h
