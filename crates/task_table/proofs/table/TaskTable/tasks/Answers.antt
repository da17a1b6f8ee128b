use Rattle.std.proofs.Common.{take}
use Rattle.task_table.proofs.Rights.{all_right_decides}
use Rattle.task_table.proofs.table.TaskTable.tasks.Goals as goal

pub returns-clause-right : goal.returns-clause-right
returns-clause-right c = (all_right_decides (take c.args.self.now.list.count c.args.self.now.list.rows)).0 c.args.self.now.list.right
