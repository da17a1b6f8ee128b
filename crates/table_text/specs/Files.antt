-- What a whole table file says: the tasks and the faults that its lines have, in their order.
use Rattle.std.specs.Prelude.{◌≡◌, ℕ, ◌+◌, ◌<◌, List, [], ◌∷◌, ◌++◌, length, Some, None, Ok, Err, vec_items, Option, Result}
use Rattle.task_table.specs.declared.refusal.DraftRefusal.{DraftRefusal}
use Rattle.task_table.specs.declared.table.TaskTable.{TaskTable}
use Rattle.task_table.specs.declared.task.Task.{Task}
use Rattle.task_table.specs.Tables.{drafted, tasks_of, answer}
use Rattle.table_text.specs.Pieces.{lines}
use Rattle.table_text.specs.Rows.{task_in}
use Rattle.table_text.specs.declared.fault.Fault.{Fault}
use Rattle.table_text.specs.declared.fault.Slip.{Slip}
use Rattle.table_text.specs.declared.fault.Slip.TheVariants.{Refused}
use Rattle.table_text.specs.declared.reading.Reading.{Reading}
use Rattle.table_text.specs.declared.reading.ReadError.{ReadError}
use Rattle.table_text.specs.declared.reading.ReadError.TheVariants.{Wrong, TooLong, NoMemory}

-- the tasks and the faults so far
pub record Read : Type 0 where
  pub tasks : List Task
  pub faults : List Fault

abbrev pub read : List Task → List Fault → Read
read ts fs = record { tasks = ts; faults = fs }

abbrev pub read_so_far : Reading → Read
read_so_far r = read (drafted r.draft) (vec_items r.faults)

abbrev pub with_task : Read → Task → Read
with_task r t = read (r.tasks ++ t ∷ []) r.faults

abbrev pub with_fault : Read → ℕ → Slip → Read
with_fault r n s = read r.tasks (r.faults ++ record { line = n; slip = s } ∷ [])

-- what is wrong with a line is a fault
abbrev pub with_slip : Result (Unit {0}) Slip → Read → ℕ → Read
with_slip (Ok u) r n = r
with_slip (Err s) r n = with_fault r n s

-- a task is added, or the draft's refusal is a fault of its line
abbrev pub with_answer : Read → ℕ → Task → Result (Unit {0}) DraftRefusal → Read
with_answer r n t (Ok u) = with_task r t
with_answer r n t (Err e) = with_fault r n (Refused e)

abbrev pub with_row : Read → ℕ → Result (Option Task) Slip → Read
with_row r n (Ok None) = r
with_row r n (Ok (Some t)) = with_answer r n t (answer r.tasks t)
with_row r n (Err s) = with_fault r n s

-- one line more, of that number
abbrev pub with_line : Read → ℕ → List ℕ → Read
with_line r n line = with_row r n (task_in line)

-- lines that number from n on
abbrev pub with_lines : Read → ℕ → List (List ℕ) → Read
with_lines r n [] = r
with_lines r n (line ∷ ls) = with_lines (with_line r n line) (n + 1) ls

-- what the bytes of a file say
abbrev pub file : List ℕ → Read
file bytes = with_lines (read [] []) 1 (lines bytes)

-- the table has the file's tasks and the file has no fault, or all its faults are told
abbrev pub Tells : List ℕ → Result TaskTable ReadError → Type 0
Tells bytes (Ok t) = ((file bytes).faults ≡ []) × (tasks_of t ≡ (file bytes).tasks)
Tells bytes (Err (Wrong fs)) = (vec_items fs ≡ (file bytes).faults) × (0 < length (file bytes).faults)
Tells bytes (Err TooLong) = 16777216 < length bytes
Tells bytes (Err NoMemory) = Unit {0}
