use Rattle.std.proofs.Common.{rules, ◌≡◌, true, false, Some, Ok, ap, ◌∙◌}
use Rattle.task_table.specs.Tables.{tasks_of}
use Rattle.jobs.specs.Jobs.{due_job}
use Rattle.job_state.specs.Lists.{lowest}
use Rattle.job_state.specs.States.{fits, late}
use Rattle.policies.specs.Leasts.{best}
use Rattle.task_laws.specs.Systems.{by_doom, forced_by}
use Rattle.task_systems.proofs.Given.{forced_by_target}
use Rattle.task_systems.proofs.system.TaskSystem.force.Goals as goal

pub returns : goal.returns
returns g c =
    let pick = g.P.Policy.picks c.args.self.now.policy in
    let kind = g.R.Releases.comes c.args.self.now.releases in
    let ts = tasks_of c.args.self.now.table in
    let s = c.args.state.now in
    let target = c.in_ok-target.target in
    let fitting : true ≡ fits kind ts s = search rules in
    let in_time : false ≡ late ts s = search rules in
    let found : Some target ≡ best (by_doom s.mode) 0 ts s.jobs = search rules in
    let event : c.force_by.result ≡ forced_by (lowest (λ _. due_job kind) 0 ts s.jobs) (pick ts s.mode s.jobs) s.mode target.number = search rules in
    ap Ok event ∙ forced_by_target pick kind ts s fitting in_time (Some target) found
