use Rattle.std.proofs.Common.{◌≡◌, true, IfOk, Result, sym, ap, ◌∙◌, subst}
use Rattle.std.specs.declared.alloc.AllocError.{AllocError}
use Rattle.std.proofs.lemmas.Result.{IfOk-weaker}
use Rattle.task_table.specs.declared.table.TaskTable.{TaskTable}
use Rattle.task_table.specs.Tables.{tasks_of}
use Rattle.jobs.specs.declared.kind.Kind.{Kind}
use Rattle.jobs.specs.declared.refusal.JobRefusal.{JobRefusal}
use Rattle.job_state.specs.declared.state.State.{State}
use Rattle.job_state.specs.States.{late}
use Rattle.policies.specs.Picks.{Pick}
use Rattle.transition.specs.Meanings.{Meaning}
use Rattle.task_laws.specs.Claims.{Lawful}
use Rattle.task_laws.specs.Systems.{meaning}
use Rattle.task_laws.proofs.Lawfuls.{laws}
use Rattle.task_systems.specs.Tables.{table_of}
use Rattle.task_verdict.specs.declared.finding.LateRun.{LateRun}
use Rattle.verdict.specs.declared.judgement.Judgement.{Judgement}
use Rattle.verdict.specs.declared.judgement.Verdict.TheVariants.{Schedulable, Unschedulable}
use Rattle.task_verdict.specs.Judgements.{Lent, Told, Judged}
use Rattle.task_verdict.specs.Misses.{NeverMisses}
use Rattle.task_verdict.proofs.Missing.{late_then, never_misses}
use Rattle.task_verdict.proofs.judging.judge_tasks.Goals as goal

-- what was told of the system that was made, told of the tasks
told_of : {P : Type 0} (picks : P → Pick) (made_policy policy : P) (made_table table : TaskTable) (k kind : Kind) (l : Lent) (r : Result (Judgement LateRun) AllocError) → made_policy ≡ policy → made_table ≡ table → kind ≡ k → Judged (meaning (picks made_policy) k (tasks_of made_table)) l r → Judged (meaning (picks policy) kind (tasks_of table)) l r
told_of picks made_policy policy made_table table k kind l r p t is h =
    let same : meaning (picks made_policy) k (tasks_of made_table) ≡ meaning (picks policy) kind (tasks_of table) =
    ap (λ q. meaning (picks q) k (tasks_of made_table)) p ∙ ap (λ q. meaning (picks policy) k (tasks_of q)) t ∙ ap (λ q. meaning (picks policy) q (tasks_of table)) (sym is) in
    subst (λ (M : Meaning State JobRefusal). Judged M l r) same h

module _ (pick : Pick) (kept : Lawful pick) (kind : Kind) (table : TaskTable) (l : Lent) (r : Result (Judgement LateRun) AllocError) (h : Judged (meaning pick kind (tasks_of table)) l r) where
  none_late : IfOk r (λ j. j.verdict ≡ Schedulable → NeverMisses pick kind (tasks_of table))
  none_late =
      IfOk-weaker r (Told (meaning pick kind (tasks_of table)) l) (λ j. j.verdict ≡ Schedulable → NeverMisses pick kind (tasks_of table))
      (λ j t is. never_misses pick kind (tasks_of table) (laws pick kind (tasks_of table) (table_of table) kept) (t.never_late is)) h.told

  one_late : IfOk r (λ j. (f : LateRun) → j.verdict ≡ Unschedulable f → late (tasks_of table) f.state ≡ true)
  one_late =
      IfOk-weaker r (Told (meaning pick kind (tasks_of table)) l) (λ j. (f : LateRun) → j.verdict ≡ Unschedulable f → late (tasks_of table) f.state ≡ true)
      (λ j t f is. late_then kind (tasks_of table) f.state (t.shown_late f is).late) h.told

pub returns : goal.returns
returns g c =
    let picks = g.P.Policy.picks in
    let p = c.args.policy in
    let table = c.args.table.now in
    let lawful : Lawful (picks p) = record { ready = g.met.P.Policy.ready p; blind = g.met.P.Policy.blind p } in
    let system = c.of-system.result in
    let made = c.of-system.ensures in
    let h = told_of picks system.policy p system.table table system.releases c.args.kind _ c.judge_system.result made.policy made.table (sym made.releases) c.judge_system.ensures in
    record {
      judged = h;
      never_misses = none_late (picks p) lawful c.args.kind table _ c.judge_system.result h;
      misses = one_late (picks p) lawful c.args.kind table _ c.judge_system.result h;
    }
