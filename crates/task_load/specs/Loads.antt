-- The load of a table: the sum, over its tasks, of what a job may use for each tick of its period.
use Rattle.std.specs.Prelude.{ℕ, List, fold}
use Rattle.task_table.specs.declared.mode.Mode.{Mode}
use Rattle.task_table.specs.declared.mode.Mode.TheVariants.{Low, High}
use Rattle.task_table.specs.declared.task.Criticality.{Criticality}
use Rattle.task_table.specs.declared.task.Criticality.TheVariants.{Low as LowTask, High as HighTask}
use Rattle.task_table.specs.declared.task.Task.{Task}
use Rattle.task_load.specs.declared.fraction.Fraction.{Fraction}
use Rattle.task_load.specs.Fractions.{over, plus}

-- the high budget of a task that goes on in high mode, and nothing of one that is dropped
abbrev pub high_demand : Criticality → ℕ → ℕ
high_demand LowTask budget = 0
high_demand HighTask budget = budget

-- how long a job of the task may run in that mode
abbrev pub demand : Mode → Task → ℕ
demand Low t = t.budget_low
demand High t = high_demand t.criticality t.budget_high

abbrev pub with_task : Mode → Fraction → Task → Fraction
with_task m f t = plus f (demand m t) t.period

abbrev pub load : Mode → List Task → Fraction
load m ts = fold (with_task m) (over 0 1) ts
