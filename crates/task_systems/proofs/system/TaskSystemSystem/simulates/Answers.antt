use Rattle.std.proofs.Common.{◌≡◌, true, sym, ◌∙◌, subst}
use Rattle.task_table.specs.Tables.{tasks_of}
use Rattle.jobs.specs.declared.kind.Kind.{Kind}
use Rattle.task_laws.specs.Systems.{simulates}
use Rattle.task_laws.proofs.Equals.{periodic_itself}
use Rattle.task_systems.proofs.system.TaskSystemSystem.simulates.Goals as goal

pub returns-clause-periodic_itself : goal.returns-clause-periodic_itself
returns-clause-periodic_itself g c = λ kind does.
    let a = c.args.a.now in
    let b = c.args.b.now in
    let ts = tasks_of c.args.self.now.table in
    periodic_itself ts a b (subst (λ (k : Kind). simulates k ts a b ≡ true) kind (sym c.does_simulate.ensures ∙ does))
