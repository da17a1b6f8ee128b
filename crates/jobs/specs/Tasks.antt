-- What the figures of a task mean in each mode and kind.
use Rattle.std.specs.Prelude.{ℕ, ◌-◌, max, Bool, true, false}
use Rattle.task_table.specs.declared.mode.Mode.{Mode}
use Rattle.task_table.specs.declared.mode.Mode.TheVariants.{Low, High}
use Rattle.task_table.specs.declared.task.Criticality.{Criticality}
use Rattle.task_table.specs.declared.task.Criticality as criticality
use Rattle.task_table.specs.declared.task.Task.{Task}
use Rattle.jobs.specs.declared.kind.Kind.{Kind}
use Rattle.jobs.specs.declared.kind.Kind.TheVariants.{Sporadic, Periodic}

abbrev pub high_criticality : Criticality → Bool
high_criticality criticality.TheVariants.Low = false
high_criticality criticality.TheVariants.High = true

-- whether the task is of high criticality
unfoldable pub is_high : Task → Bool
is_high t = high_criticality t.criticality

-- whether the task goes on in that mode: in high mode the low tasks are dropped
abbrev pub active : Mode → Task → Bool
active Low t = true
active High t = is_high t

-- the run time that a job released in that mode is given
abbrev pub budget : Mode → Task → ℕ
budget Low t = t.budget_low
budget High t = t.budget_high

-- what a job gains when the mode becomes high
abbrev pub gain : Task → ℕ
gain t = t.budget_high - t.budget_low

-- the longest that an idle task can have to wait
abbrev pub longest_wait : Kind → Task → ℕ
longest_wait Sporadic t = t.period
longest_wait Periodic t = max t.period t.offset

-- how long a task waits at first
abbrev pub first_wait : Kind → Task → ℕ
first_wait Sporadic t = 0
first_wait Periodic t = t.offset
