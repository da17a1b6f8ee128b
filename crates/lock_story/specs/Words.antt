-- The words in which a lock is told of.
use Rattle.std.specs.Prelude.{ℕ, cond, List, ◌++◌, Ok, Err, Result, codes, decimal, ◌==◌}
use Rattle.transition.specs.declared.refusal.Refusal.{Refusal}
use Rattle.transition.specs.Refusals.{number}
use Rattle.canal_lock.specs.declared.lock.Chamber.{Chamber}
use Rattle.exploration.specs.declared.outcome.Outcome.{Outcome}
use Rattle.exploration.specs.declared.outcome.Outcome.TheVariants as outcome
use Rattle.lock_check.specs.declared.finding.Verdict.{Verdict}
use Rattle.lock_check.specs.declared.finding.Verdict.TheVariants.{Safe, Unsafe, NodesFull, VisitsFull, TooLarge}

-- what happens at an event
abbrev pub event : ℕ → List ℕ
event e = cond (e == 1) (codes "a boat comes") (cond (e == 2) (codes "a tick passes") (codes "no event of the lock"))

-- what a run answers an event
abbrev pub answer : {R : Type 0} → (R → ℕ) → Result (Unit {0}) (Refusal R) → List ℕ
answer own (Ok u) = codes "accepted"
answer own (Err r) = codes "refusal " ++ decimal (number own r)

-- how long a boat has waited, where one waits
abbrev pub waiting : Chamber → List ℕ
waiting x = cond x.boat (codes "a boat has waited " ++ decimal x.wait) (codes "no boat waits")

-- the chamber at one moment
abbrev pub moment : Chamber → List ℕ
moment x = codes "ready in " ++ (decimal x.turn ++ (codes ", " ++ (waiting x ++ (codes ", next boat in " ++ decimal x.pause))))

-- the verdict
abbrev pub found : Verdict → List ℕ
found Safe = codes "safe, no boat is ever overdue"
found Unsafe = codes "unsafe, a boat can be overdue"
found NodesFull = codes "undecided, the nodes are full"
found VisitsFull = codes "undecided, the visits are full"
found TooLarge = codes "undecided, too much memory is lent"

-- how exploring ended
abbrev pub ended : Outcome → List ℕ
ended outcome.Schedulable = codes "schedulable"
ended outcome.Unschedulable = codes "unschedulable"
ended outcome.TooLarge = codes "too much memory"
ended outcome.VisitsFull = codes "no visit is left"
ended outcome.NodesFull = codes "no node is left"
