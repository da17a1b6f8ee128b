-- Where a table of tasks and jobs ends.
use Rattle.std.proofs.Common.{◌≡◌, Bool, false, ◌⊎◌, List, [], ◌∷◌, length, inl, inr, refl, arith}
use Rattle.task_table.specs.declared.task.Task.{Task}
use Rattle.jobs.specs.declared.job.Job.{Job}
use Rattle.job_state.specs.Lists.{any}

-- where no task or no job is left, none passes
pub any_end : (p : Task → Job → Bool) (ts : List Task) (xs : List Job) → (length ts ≡ 0) ⊎ (length xs ≡ 0) → any p ts xs ≡ false
any_end p [] xs h = refl
any_end p (t ∷ ts) [] h = refl
any_end p (t ∷ ts) (x ∷ xs) (inl h) = absurd (omega arith)
any_end p (t ∷ ts) (x ∷ xs) (inr h) = absurd (omega arith)
