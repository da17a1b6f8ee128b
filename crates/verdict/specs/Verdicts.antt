-- The verdict on a system, from the outcome of exploring it.
use Rattle.std.specs.Prelude.{◌≡◌, List, length, take}
use Rattle.transition.specs.Meanings.{Meaning}
use Rattle.exploration.specs.declared.node.Node.{Node}
use Rattle.exploration.specs.declared.node.Visit.{Visit}
use Rattle.exploration.specs.declared.outcome.Outcome.{Outcome}
use Rattle.exploration.specs.declared.outcome.Outcome.TheVariants as outcome
use Rattle.exploration.specs.Stores.{Store}
use Rattle.exploration.specs.Claims.{EverLate}
use Rattle.verdict.specs.declared.judgement.Verdict.{Verdict}
use Rattle.verdict.specs.declared.judgement.Verdict.TheVariants.{Schedulable, Unschedulable, TooLarge, VisitsFull, NodesFull}
use Rattle.verdict.specs.Moments.{RunsNeverLate}

-- the outcome that a verdict tells
abbrev pub outcome_of : {F : Type 0} → Verdict F → Outcome
outcome_of Schedulable = outcome.Schedulable
outcome_of (Unschedulable f) = outcome.Unschedulable
outcome_of TooLarge = outcome.TooLarge
outcome_of VisitsFull = outcome.VisitsFull
outcome_of NodesFull = outcome.NodesFull

-- the verdict says whether a run of the system is ever late
pub record Decided {S X R F : Type 0} (means : S → Meaning X R) (s : S) (v : Verdict F) : Type 0 where
  pub never_late : RunsNeverLate means s → v ≡ Schedulable
  pub ever_late : EverLate (means s) → outcome_of v ≡ outcome.Unschedulable

-- exploring ended with that outcome, and what it leaves stands in front in the lists
pub record InFront {X : Type 0} (o : Outcome) (end : Outcome × Store X) (ns : List (Node X)) (vs : List Visit) : Type 0 where
  pub ended : end.0 ≡ o
  pub nodes : take (length end.1.nodes) ns ≡ end.1.nodes
  pub visits : take (length end.1.visits) vs ≡ end.1.visits
