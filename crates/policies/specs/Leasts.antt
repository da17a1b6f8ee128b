-- The ready task of the least figure, and the lowest number among equals.
use Rattle.std.specs.Prelude.{◌≡◌, ℕ, ◌+◌, ◌<◌, cond, List, [], ◌∷◌, ℤ, ◌≤ℤ◌, ◌<ℤ◌, Some, None, Option, int_le}
use Rattle.task_table.specs.declared.task.Task.{Task}
use Rattle.task_table.specs.Tables.{numbered}
use Rattle.jobs.specs.declared.job.Job.{Job}
use Rattle.jobs.specs.declared.job.Job.TheVariants.{Absent, Idle, Ready, Dropped}
use Rattle.job_state.specs.Lists.{job_numbered}
use Rattle.policies.specs.declared.best.Best.{Best}

-- the figure of a ready job, by the task's number, the task, and the job's wait and left
abbrev pub Figured : Type 0
Figured = ℕ → Task → ℕ → ℕ → Option ℤ

-- only a ready job has a figure
abbrev pub figure_of : Figured → ℕ → Task → Job → Option ℤ
figure_of f n t Absent = None
figure_of f n t (Idle w) = None
figure_of f n t (Ready w l) = f n t w l
figure_of f n t Dropped = None

-- the one before, unless the other has less
abbrev pub better : Best → Option Best → Option Best
better b None = Some b
better b (Some c) = cond (int_le b.figure c.figure) (Some b) (Some c)

-- the same of two
abbrev pub first_less : Best → Best → Best
first_less b c = cond (int_le b.figure c.figure) b c

-- the best of the task of that number, where it has a figure, and of those after it
abbrev pub offered : ℕ → Option ℤ → Option Best → Option Best
offered n None o = o
offered n (Some z) o = better (record { number = n; figure = z }) o

-- the best of these tasks, where k tasks come before them
abbrev pub best : Figured → ℕ → List Task → List Job → Option Best
best f k [] xs = None
best f k (t ∷ ts) [] = None
best f k (t ∷ ts) (x ∷ xs) = offered (k + 1) (figure_of f (k + 1) t x) (best f (k + 1) ts xs)

abbrev pub number_of : Option Best → Option ℕ
number_of None = None
number_of (Some b) = Some b.number

-- the number of the task of the least figure
abbrev pub least : Figured → List Task → List Job → Option ℕ
least f ts xs = number_of (best f 0 ts xs)

-- the task of that number is ready, and has this figure
pub record HasFigure (f : Figured) (ts : List Task) (xs : List Job) (n : ℕ) (z : ℤ) : Type 0 where
  pub task : Task
  pub wait : ℕ
  pub left : ℕ
  pub row : numbered ts n ≡ Some task
  pub ready : job_numbered xs n ≡ Ready wait left
  pub is : f n task wait left ≡ Some z

-- no ready task has a smaller figure, and none before it an equal one
pub record Leads (f : Figured) (ts : List Task) (xs : List Job) (n : ℕ) : Type 0 where
  pub figure : ℤ
  pub own : HasFigure f ts xs n figure
  pub low : (k : ℕ) (z : ℤ) → HasFigure f ts xs k z → figure ≤ℤ z
  pub first : (k : ℕ) (z : ℤ) → k < n → HasFigure f ts xs k z → figure <ℤ z

-- the same of a pick; where nobody is picked, nobody has a figure
abbrev pub Least : Figured → List Task → List Job → Option ℕ → Type 0
Least f ts xs None = (k : ℕ) (z : ℤ) → HasFigure f ts xs k z → ⊥
Least f ts xs (Some n) = Leads f ts xs n
