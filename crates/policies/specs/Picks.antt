-- What every policy keeps.
use Rattle.std.specs.Prelude.{◌≡◌, ℕ, ◌≤◌, List, length, Some, None, Option}
use Rattle.task_table.specs.declared.mode.Mode.{Mode}
use Rattle.task_table.specs.declared.task.Task.{Task}
use Rattle.jobs.specs.declared.job.Job.{Job}
use Rattle.jobs.specs.declared.job.Job.TheVariants.{Absent, Idle, Ready, Dropped}
use Rattle.job_state.specs.Lists.{job_numbered}

-- a pick for any tasks, in any mode, at any jobs
abbrev pub Pick : Type 0
Pick = List Task → Mode → List Job → Option ℕ

-- what a policy may see of a job: whether it is ready, and the wait and left of a ready one
abbrev pub seen : Job → Job
seen Absent = Absent
seen (Idle w) = Absent
seen (Ready w l) = Ready w l
seen Dropped = Absent

-- the number is that of a task, and its job is ready
pub record ReadyAt (ts : List Task) (xs : List Job) (n : ℕ) : Type 0 where
  pub from_1 : 1 ≤ n
  pub row : n ≤ length ts
  pub wait : ℕ
  pub left : ℕ
  pub ready : job_numbered xs n ≡ Ready wait left

-- nobody is picked, or a task that is ready
abbrev pub PicksReady : List Task → List Job → Option ℕ → Type 0
PicksReady ts xs None = Unit {0}
PicksReady ts xs (Some n) = ReadyAt ts xs n
