-- One task and its job: what is late, doomed, due, and what fits.
use Rattle.std.specs.Prelude.{ℕ, Bool, false, not, ◌&&◌, ℤ, pos, ◌+ℤ◌, ◌-ℤ◌, ◌==◌, int_le, int_lt, nat_le}
use Rattle.task_table.specs.declared.mode.Mode.{Mode}
use Rattle.task_table.specs.declared.mode.Mode.TheVariants.{Low, High}
use Rattle.task_table.specs.declared.task.Task.{Task}
use Rattle.jobs.specs.declared.kind.Kind.{Kind}
use Rattle.jobs.specs.declared.kind.Kind.TheVariants.{Sporadic, Periodic}
use Rattle.jobs.specs.declared.job.Job.{Job}
use Rattle.jobs.specs.declared.job.Job.TheVariants.{Absent, Idle, Ready, Dropped}
use Rattle.jobs.specs.Tasks.{active, budget, longest_wait}

-- the time to the deadline of a ready job that has this wait
abbrev pub time_to_deadline : Task → ℕ → ℤ
time_to_deadline t wait = (pos wait -ℤ pos t.period) +ℤ pos t.deadline

-- the time that a ready job can still spare if it needs all of its high budget
abbrev pub worst_laxity : Mode → Task → ℕ → ℕ → ℤ
worst_laxity Low t wait left = (time_to_deadline t wait -ℤ pos left) -ℤ (pos t.budget_high -ℤ pos t.budget_low)
worst_laxity High t wait left = time_to_deadline t wait -ℤ pos left

-- a ready job with no time to its deadline
abbrev pub late_job : Task → Job → Bool
late_job t Absent = false
late_job t (Idle w) = false
late_job t (Ready w l) = int_le (time_to_deadline t w) (pos 0)
late_job t Dropped = false

-- a ready job whose worst laxity is below 0
abbrev pub doomed_job : Mode → Task → Job → Bool
doomed_job m t Absent = false
doomed_job m t (Idle w) = false
doomed_job m t (Ready w l) = int_lt (worst_laxity m t w l) (pos 0)
doomed_job m t Dropped = false

-- an idle task of a periodic system that waits no longer
abbrev pub due_job : Kind → Job → Bool
due_job Sporadic x = false
due_job Periodic Absent = false
due_job Periodic (Idle w) = w == 0
due_job Periodic (Ready w l) = false
due_job Periodic Dropped = false

-- a job that the task can have in that mode
abbrev pub fits_job : Kind → Mode → Task → Job → Bool
fits_job k m t Absent = false
fits_job k m t (Idle w) = active m t && nat_le w (longest_wait k t)
fits_job k m t (Ready w l) = active m t && (nat_le w t.period && (nat_le 1 l && nat_le l (budget m t)))
fits_job k m t Dropped = not (active m t)
