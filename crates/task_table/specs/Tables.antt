-- Drafts and tables as lists of tasks, and what adding a task does.
use Rattle.std.specs.Prelude.{ℕ, ◌-◌, cond, List, [], ◌∷◌, ◌++◌, length, take, None, Ok, Err, Option, Result, nat_lt}
use Rattle.std.specs.List.{slice_get}
use Rattle.task_table.specs.Tasks.{is_right}
use Rattle.task_table.specs.declared.task.Task.{Task}
use Rattle.task_table.specs.declared.task_list.TaskList.{TaskList}
use Rattle.task_table.specs.declared.draft.Draft.{Draft}
use Rattle.task_table.specs.declared.table.TaskTable.{TaskTable}
use Rattle.task_table.specs.declared.refusal.DraftRefusal.{DraftRefusal}
use Rattle.task_table.specs.declared.refusal.DraftRefusal.TheVariants.{NinthTask, WrongTask}

abbrev pub listed : TaskList → List Task
listed l = take l.count l.rows

-- the tasks of a draft so far
abbrev pub drafted : Draft → List Task
drafted d = listed d.list

-- the tasks of a table
abbrev pub tasks_of : TaskTable → List Task
tasks_of t = listed t.list

-- what a draft of these tasks answers to one more: a ninth is refused before its figures are looked at
abbrev pub answer : List Task → Task → Result (Unit {0}) DraftRefusal
answer ts t = cond (nat_lt (length ts) 8) (cond (is_right t) (Ok tt) (Err WrongTask)) (Err NinthTask)

-- the tasks after such an answer
abbrev pub grown : {R : Type 0} → Result (Unit {0}) R → List Task → Task → List Task
grown (Ok u) ts t = ts ++ t ∷ []
grown (Err r) ts t = ts

-- the task of that number, which counts from 1
abbrev pub numbered : List Task → ℕ → Option Task
numbered ts n = cond (nat_lt 0 n) (slice_get ts (n - 1)) None
