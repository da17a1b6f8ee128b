-- The numbers by which an outcome that decides nothing is told.
use Rattle.std.specs.Prelude.{ℕ, Some, None, Option}
use Rattle.exploration.specs.declared.outcome.Outcome.{Outcome}
use Rattle.exploration.specs.declared.outcome.Outcome.TheVariants.{Schedulable, Unschedulable, TooLarge, VisitsFull, NodesFull}

-- the number of a refusal to decide; a decision has none
abbrev pub number : Outcome → Option ℕ
number Schedulable = None
number Unschedulable = None
number TooLarge = Some 10
number VisitsFull = Some 11
number NodesFull = Some 12
