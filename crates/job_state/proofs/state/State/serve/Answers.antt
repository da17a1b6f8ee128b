use Rattle.std.proofs.Common.{◌-◌, set, ap, ◌∙◌, arith}
use Rattle.jobs.specs.declared.job.Job.{Job}
use Rattle.job_state.specs.Lists.{any}
use Rattle.job_state.specs.Ticks.{over_budget}
use Rattle.job_state.proofs.Serves.{serve_ends, serve_raises, serve_stays, low_mode, within_run}
use Rattle.job_state.proofs.state.State.serve.Goals as goal

pub raise_all-requires : goal.raise_all-requires
raise_all-requires c =
    let s = c.args.self.now in
    let low = low_mode c.args.finishing _ s.mode _ c.if-ends.ensures c.if-is_used_up.ensures in
    let within = within_run c.args.tasks.now s.jobs (c.args.number - 1) (c.requires.room low) in
    ap (λ (y : Job). any over_budget c.args.tasks.now (set s.jobs (c.args.number - 1) y)) c.run-job.ensures ∙ within

pub returns-then-ends : goal.returns-then-ends
returns-then-ends c = serve_ends c.args.tasks.now c.args.number c.args.self.now c.args.finishing _ (omega arith) (omega arith) c.run-job.result c.run-job.ensures c.if-ends.ensures c.end.result c.end.ensures _

pub returns-then-is_used_up : goal.returns-then-is_used_up
returns-then-is_used_up c = serve_raises c.args.tasks.now c.args.number c.args.self.now c.args.finishing _ (omega arith) (omega arith) c.run-job.result c.run-job.ensures c.if-ends.ensures c.if-is_used_up.ensures c.raise_all.new.jobs c.raise_all.ensures _

pub returns-else-is_used_up : goal.returns-else-is_used_up
returns-else-is_used_up c = serve_stays c.args.tasks.now c.args.number c.args.self.now c.args.finishing _ (omega arith) (omega arith) c.run-job.result c.run-job.ensures c.if-ends.ensures c.if-is_used_up.ensures _
