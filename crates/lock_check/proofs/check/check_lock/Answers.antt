use Rattle.std.proofs.Common.{◌≡◌, List, length, sym, ap, ◌∙◌}
use Rattle.exploration.specs.declared.node.Node.{Node}
use Rattle.exploration.specs.declared.node.Visit.{Visit}
use Rattle.exploration.specs.declared.outcome.Outcome.{Outcome}
use Rattle.exploration.specs.declared.outcome.Outcome.TheVariants.{Schedulable, Unschedulable, TooLarge, VisitsFull, NodesFull}
use Rattle.canal_lock.specs.declared.lock.Chamber.{Chamber}
use Rattle.lock_check.specs.Findings.{verdict_of}
use Rattle.lock_check.proofs.Overdue.{never_overdue, ever_overdue, never_late, ever_late}
use Rattle.lock_check.proofs.Runs.{shown_overdue}
use Rattle.lock_check.proofs.Verdicts.{same_outcome, nodes_full, enough}
use Rattle.lock_check.proofs.check.check_lock.Goals as goal

pub returns : goal.returns
returns c =
    let l = c.args.lock.now in
    let P = length c.args.nodes.now in
    let L = length c.args.visits.now in
    let o : Outcome = c.explore-outcome.result.0 in
    let told = c.explore-outcome.ensures in
    let verdict = c.from.ensures in
    let was : (p : Outcome) → c.from.result ≡ verdict_of p → o ≡ p = λ p h. same_outcome o p (sym verdict ∙ h) in
    let shows : (p : Outcome) → o ≡ p → c.from.result ≡ verdict_of p = λ p h. verdict ∙ ap verdict_of h in
    record {
      never_overdue = λ h. never_overdue l (told.never_late (was Schedulable h));
      ever_overdue = λ h. ever_overdue l (told.ever_late (was Unschedulable h));
      shown_overdue = λ h. shown_overdue l _ (told.shown_late (was Unschedulable h));
      closed = λ h. told.closed (was Schedulable h);
      nodes_full = λ h. nodes_full l P (told.nodes_honestly_full (was NodesFull h));
      visits_full = λ h. told.visits_honestly_full (was VisitsFull h);
      too_large = λ h. told.too_large_only (was TooLarge h);
      too_large_leaves = λ h. let left = told.too_large h in (shows TooLarge left.0, left.1, left.2, left.3, left.4);
      safe_found = λ r h. shows Schedulable ((told.decides (enough l P L r)).never_late (never_late l h));
      unsafe_found = λ r h. shows Unschedulable ((told.decides (enough l P L r)).ever_late (ever_late l h));
      answers = rw verdict (ap (λ (t : Outcome × List (Node Chamber) × List Visit). (verdict_of t.0, t.1, t.2)) told.answers);
      within = told.within;
      untouched = told.untouched;
      every_visit_tells = told.every_visit_tells;
      antichain = told.antichain;
    }
