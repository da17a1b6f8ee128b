-- What a sealed table keeps.
use Rattle.std.proofs.Common.{arith, length-take}
use Rattle.task_table.specs.declared.table.TaskTable.{TaskTable}
use Rattle.task_table.specs.Tables.{tasks_of}
use Rattle.task_table.proofs.Rights.{all_right_decides}
use Rattle.task_laws.specs.Claims.{Table}

pub table_of : (t : TaskTable) → Table (tasks_of t)
table_of t = record { rights = (all_right_decides (tasks_of t)).0 t.list.right; few = simp length-take (let w = t.list.within in omega arith) }
