-- Tasks and their jobs, side by side.
use Rattle.std.specs.Prelude.{◌≡◌, ℕ, suc, ◌+◌, ◌-◌, Bool, true, false, cond, ◌&&◌, ◌||◌, List, [], ◌∷◌, length, Some, None, Option, nat_lt, slice_index_or, refl}
use Rattle.std.proofs.Common.{ap}
use Rattle.task_table.specs.declared.task.Task.{Task}
use Rattle.jobs.specs.declared.job.Job.{Job}
use Rattle.jobs.specs.declared.job.Job.TheVariants.{Absent, Idle, Ready, Dropped}

abbrev pub is_absent : Job → Bool
is_absent Absent = true
is_absent (Idle w) = false
is_absent (Ready w l) = false
is_absent Dropped = false

abbrev pub all_absent : List Job → Bool
all_absent [] = true
all_absent (x ∷ xs) = is_absent x && all_absent xs

-- every task has a job that passes, and there are no other jobs
abbrev pub every : (Task → Job → Bool) → List Task → List Job → Bool
every p [] xs = all_absent xs
every p (t ∷ ts) [] = false
every p (t ∷ ts) (x ∷ xs) = p t x && every p ts xs

-- some task has a job that passes
abbrev pub any : (Task → Job → Bool) → List Task → List Job → Bool
any p [] xs = false
any p (t ∷ ts) [] = false
any p (t ∷ ts) (x ∷ xs) = p t x || any p ts xs

-- the lowest number of a task whose job passes, where k tasks come before these
abbrev pub lowest : (Task → Job → Bool) → ℕ → List Task → List Job → Option ℕ
lowest p k [] xs = None
lowest p k (t ∷ ts) [] = None
lowest p k (t ∷ ts) (x ∷ xs) = cond (p t x) (Some (k + 1)) (lowest p (k + 1) ts xs)

-- each job changed by its task
abbrev pub over : (Task → Job → Job) → List Task → List Job → List Job
over f [] xs = xs
over f (t ∷ ts) [] = []
over f (t ∷ ts) (x ∷ xs) = f t x ∷ over f ts xs

pub length_over : (f : Task → Job → Job) (ts : List Task) (xs : List Job) → length (over f ts xs) ≡ length xs
length_over f [] xs = refl
length_over f (t ∷ ts) [] = refl
length_over f (t ∷ ts) (x ∷ xs) = ap suc (length_over f ts xs)

-- the job of that number, which counts from 1
abbrev pub job_numbered : List Job → ℕ → Job
job_numbered xs n = cond (nat_lt 0 n) (slice_index_or xs (n - 1) Absent) Absent
