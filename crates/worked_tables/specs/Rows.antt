-- A worked row: a task added to a draft, and the answer to it.
use Rattle.std.specs.Prelude.{ℕ, List, Ok, Err, Result}
use Rattle.task_table.specs.declared.task.Criticality.TheVariants.{Low, High}
use Rattle.task_table.specs.declared.task.Task.{Task}
use Rattle.task_table.specs.declared.refusal.DraftRefusal.{DraftRefusal}
use Rattle.task_table.specs.Refusals.{number}
use Rattle.task_table.specs.Tables.{answer, grown}

-- what is added to which draft, and what is written of it
pub record Row : Type 0 where
  -- the tasks of the draft so far
  pub before : List Task
  pub task : Task
  -- 0 where the task is accepted, else the number of the refusal
  pub told : ℕ
  -- the tasks of the draft then
  pub leaves : List Task

-- an answer as a number
abbrev pub told_by : Result (Unit {0}) DraftRefusal → ℕ
told_by (Ok u) = 0
told_by (Err r) = number r

-- the row with the answer as the definitions have it
abbrev pub added : Row → Row
added r =
    record {
      before = r.before;
      task = r.task;
      told = told_by (answer r.before r.task);
      leaves = grown (answer r.before r.task) r.before r.task;
    }

-- a row by its fields in their order
abbrev pub row : List Task → Task → ℕ → List Task → Row
row before t n leaves = record { before = before; task = t; told = n; leaves = leaves }

-- a task of high criticality: its period, deadline, low and high budget, and offset
abbrev pub high : ℕ → ℕ → ℕ → ℕ → ℕ → Task
high p d l h o = record { criticality = High; period = p; deadline = d; budget_low = l; budget_high = h; offset = o }

-- the same of low criticality
abbrev pub low : ℕ → ℕ → ℕ → ℕ → ℕ → Task
low p d l h o = record { criticality = Low; period = p; deadline = d; budget_low = l; budget_high = h; offset = o }
