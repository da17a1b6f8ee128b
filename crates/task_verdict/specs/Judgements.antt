-- What judging tasks tells, where M is what they mean as a system.
use Rattle.std.specs.Prelude.{◌≡◌, ℕ, ◌≤◌, List, length, take, drop, IfOk, IfErr, Ok, vec_items, Result}
use Rattle.std.specs.declared.alloc.AllocError.{AllocError}
use Rattle.job_state.specs.declared.state.State.{State}
use Rattle.transition.specs.Meanings.{Meaning}
use Rattle.exploration.specs.declared.node.Node.{Node}
use Rattle.exploration.specs.declared.node.Visit.{Visit}
use Rattle.exploration.specs.declared.outcome.Outcome.TheVariants as outcome
use Rattle.exploration.specs.Stores.{states}
use Rattle.exploration.specs.Exploring.{explored}
use Rattle.exploration.specs.Claims.{IsTooLarge, Enough, Decides, NeverLate, EverLate, NodesHonestlyFull, VisitsHonestlyFull, EveryVisitTells, Closed, Antichain}
use Rattle.explorer.specs.Held.{shown, left_by}
use Rattle.verdict.specs.Failures.{LateBy}
use Rattle.verdict.specs.declared.judgement.Judgement.{Judgement}
use Rattle.verdict.specs.declared.judgement.Verdict.TheVariants.{Schedulable, Unschedulable, TooLarge, VisitsFull, NodesFull}
use Rattle.verdict.specs.Verdicts.{outcome_of, InFront}
use Rattle.task_verdict.specs.declared.finding.LateRun.{LateRun}

-- the nodes and visits that were lent, before and after
pub record Lent : Type 0 where
  pub nodes_before : List (Node State)
  pub visits_before : List Visit
  pub nodes : List (Node State)
  pub visits : List Visit

module _ {R : Type 0} (M : Meaning State R) (l : Lent) where
  abbrev most_nodes : ℕ
  most_nodes = length l.nodes_before

  abbrev most_visits : ℕ
  most_visits = length l.visits_before

  -- what the judgement tells
  pub record Told (j : Judgement LateRun) : Type 0 where
    -- after schedulable: whatever events are made, accepted or refused, no state on the way is late, and the nodes show why
    pub never_late : j.verdict ≡ Schedulable → NeverLate M
    pub closed : j.verdict ≡ Schedulable → Closed M (states (take j.nodes l.nodes))
    -- after unschedulable: the state is late by the events of the last visit and the forced ones after them
    pub shown_late : (f : LateRun) → j.verdict ≡ Unschedulable f → LateBy M (take j.visits l.visits) (vec_items f.events) (vec_items f.forced) f.state
    pub ever_late : (f : LateRun) → j.verdict ≡ Unschedulable f → EverLate M
    -- memory is said to be full only where it is too small for what is reached
    pub nodes_honestly_full : j.verdict ≡ NodesFull → NodesHonestlyFull M most_nodes
    pub visits_honestly_full : j.verdict ≡ VisitsFull → VisitsHonestlyFull M most_visits
    -- and too large only where it is
    pub too_large_only : j.verdict ≡ TooLarge → IsTooLarge most_nodes most_visits
    -- where the memory suffices, the verdict says whether a run is ever late
    pub decides : Enough M most_nodes most_visits → Decides M (outcome_of j.verdict)
    -- the outcome, the nodes and the visits are those of exploring, and nothing past the visits is touched
    pub answers : (outcome_of j.verdict, take j.nodes l.nodes, take j.visits l.visits) ≡ shown (explored M most_nodes most_visits)
    pub within : (j.nodes ≤ most_nodes) × (j.visits ≤ most_visits)
    pub untouched : drop j.visits l.visits ≡ drop j.visits l.visits_before
    -- at every end
    pub every_visit_tells : EveryVisitTells M (left_by M most_nodes most_visits l.nodes j.nodes l.visits j.visits)
    pub antichain : Antichain M most_nodes most_visits (left_by M most_nodes most_visits l.nodes j.nodes l.visits j.visits)

  -- what the answer tells, with a judgement or without
  pub record Judged (r : Result (Judgement LateRun) AllocError) : Type 0 where
    pub told : IfOk r Told
    -- too much memory is refused, and nothing is touched
    pub too_large : IsTooLarge most_nodes most_visits → (r ≡ Ok (record { verdict = TooLarge; nodes = 0; visits = 0 })) × (l.nodes ≡ l.nodes_before) × (l.visits ≡ l.visits_before)
    -- no memory is found for the events only after unschedulable, and what exploring leaves stands in front
    pub no_memory : IfErr r (λ _. EverLate M × InFront outcome.Unschedulable (explored M most_nodes most_visits) l.nodes l.visits)
