use Rattle.std.proofs.Common.{◌≡◌, rules, sym, ap, ◌∙◌}
use Rattle.verdict.specs.declared.judgement.Verdict.{Verdict}
use Rattle.verdict.specs.declared.judgement.Verdict.TheVariants.{Schedulable, Unschedulable, TooLarge, VisitsFull, NodesFull}
use Rattle.verdict.specs.Verdicts.{outcome_of}
use Rattle.verdict.proofs.Calls.{runs_never_late, states_never_late}
use Rattle.verdict.proofs.Outcomes.{as_told}
use Rattle.task_verdict.specs.declared.finding.LateRun.{LateRun}
use Rattle.task_verdict.proofs.Plains.{plain, plain_mapped, failure, restored, known, same_outcome, refused_whole}
use Rattle.task_verdict.proofs.judging.judge_system.Goals as goal

pub returns : goal.returns
returns g c =
    let means = g.S.System.meaning in
    let s = c.args.system.now in
    let e = c.in_ok-verdict.ensures in
    let j = c.in_ok-verdict.field-0 in
    let kept_of : c.retold.result ≡ plain j.verdict = plain_mapped _ (λ f l made. search rules) j.verdict c.retold.result c.retold.ensures in
    let was : (w : Verdict LateRun) → c.retold.result ≡ w → j.verdict ≡ restored s w = λ w h. known s j.verdict w (λ f is. (e.shown_late f is).of_system) (sym kept_of ∙ h) in
    let shows : outcome_of c.retold.result ≡ outcome_of j.verdict = ap outcome_of kept_of ∙ same_outcome j.verdict in
    record {
      told = record {
        never_late = λ h. states_never_late means s (e.never_late (was Schedulable h));
        closed = λ h. e.closed (was Schedulable h);
        shown_late = λ f h. (e.shown_late (failure s f) (was (Unschedulable f) h)).late_by;
        ever_late = λ f h. e.ever_late (failure s f) (was (Unschedulable f) h);
        nodes_honestly_full = λ h. e.nodes_honestly_full (was NodesFull h);
        visits_honestly_full = λ h. e.visits_honestly_full (was VisitsFull h);
        too_large_only = λ h. e.too_large_only (was TooLarge h);
        decides = λ enough.
            let d = e.decides enough in
            record {
              never_late = λ h. shows ∙ ap outcome_of (d.never_late (runs_never_late means s h));
              ever_late = λ h. shows ∙ d.ever_late h;
            };
        answers = as_told _ _ _ _ _ shows e.answers;
        within = e.within;
        untouched = e.untouched;
        every_visit_tells = e.every_visit_tells;
        antichain = e.antichain;
      };
      too_large = λ large. let left = e.too_large large in (refused_whole j c.retold.result kept_of left.0, left.1, left.2);
      no_memory = tt;
    }
