-- What a check of a lock tells of it: event 1 is a boat that comes, event 2 a tick.
use Rattle.std.specs.Prelude.{◌≡◌, ℕ, suc, ◌<◌, ◌≤◌, true, ◌⊎◌, List, ◌++◌, length, replicate, Some, ◌≢◌}
use Rattle.std.specs.List.{AllByRecursion}
use Rattle.transition.specs.Runs.{way, replay, forced_on}
use Rattle.exploration.specs.declared.node.Node.{Node}
use Rattle.exploration.specs.declared.node.Visit.{Visit}
use Rattle.exploration.specs.declared.outcome.Outcome.{Outcome}
use Rattle.exploration.specs.declared.outcome.Outcome.TheVariants.{Schedulable, Unschedulable, TooLarge, VisitsFull, NodesFull}
use Rattle.exploration.specs.Lists.{EachTwo}
use Rattle.exploration.specs.Traces.{Traced}
use Rattle.exploration.specs.Exploring.{explored}
use Rattle.canal_lock.specs.declared.lock.Lock.{Lock}
use Rattle.canal_lock.specs.declared.lock.Chamber.{Chamber}
use Rattle.canal_lock.specs.Locks.{calm, meaning}
use Rattle.lock_check.specs.declared.finding.Verdict.{Verdict}
use Rattle.lock_check.specs.declared.finding.Verdict.TheVariants as verdict

-- a boat waits that has waited as long as it may
abbrev pub Overdue : Lock → Chamber → Type 0
Overdue l x = (x.boat ≡ true) × (l.patience ≤ x.wait)

-- the chamber at every moment from the calm one on while the events are made, a refused one leaving it
abbrev pub moments : Lock → List ℕ → List Chamber
moments l es = way (meaning l) calm es

-- the events, each accepted in its turn, lead from the calm chamber to this one
abbrev pub LeadTo : Lock → List ℕ → Chamber → Type 0
LeadTo l es x = replay (meaning l) calm es ≡ Some x

-- whatever boats come and ticks pass, in any order, accepted or refused, at no moment is a boat overdue
abbrev pub NeverOverdue : Lock → Type 0
NeverOverdue l = (es : List ℕ) → AllByRecursion (λ x. Overdue l x → ⊥) (moments l es)

-- some boats and ticks, each accepted in its turn, lead to an overdue boat
abbrev pub EverOverdue : Lock → Type 0
EverOverdue l = (es : List ℕ) × ((x : Chamber) × LeadTo l es x × Overdue l x)

-- how the last visit shows an overdue boat
pub record ShownOverdue (l : Lock) (vs : List Visit) : Type 0 where
  -- tracing the last visit tells these events
  pub events : List ℕ
  pub told : Traced vs (length vs) events
  -- each is accepted in its turn, and they lead to this chamber
  pub chamber : Chamber
  pub led : LeadTo l events chamber
  -- from there so many ticks are forced, no more than a boat may wait
  pub ticks : ℕ
  pub few : ticks ≤ l.patience
  pub end : Chamber
  pub forced : forced_on (meaning l) ticks chamber ≡ Some end
  -- the events and then the ticks are a run that ends with an overdue boat
  pub run : LeadTo l (events ++ replicate ticks 2) end
  pub overdue : Overdue l end

-- some accepted events lead to the chamber
abbrev pub ComesAbout : Lock → Chamber → Type 0
ComesAbout l x = (es : List ℕ) × LeadTo l es x

-- the chambers differ in more than the time until another boat may come
abbrev pub Unlike : Chamber → Chamber → Type 0
Unlike x y = x.turn ≡ y.turn → x.boat ≡ y.boat → x.wait ≢ y.wait

-- more than so many chambers come about, any two of them unlike
abbrev pub MoreUnlikeThan : Lock → ℕ → Type 0
MoreUnlikeThan l P = (xs : List Chamber) × (length xs ≡ suc P) × AllByRecursion (ComesAbout l) xs × EachTwo Unlike xs

-- more than so many chambers come about, any two of them different
abbrev pub MoreDifferentThan : Lock → ℕ → Type 0
MoreDifferentThan l L = (xs : List Chamber) × (length xs ≡ suc L) × AllByRecursion (ComesAbout l) xs × EachTwo (λ x y. x ≢ y) xs

-- more than 4096 nodes or more than 65535 visits are lent
abbrev pub IsTooMuch : ℕ → ℕ → Type 0
IsTooMuch P L = (4096 < P) ⊎ (65535 < L)

-- the memory lent has room for every chamber that comes about, and is not too much
pub record Room (l : Lock) (P L : ℕ) : Type 0 where
  pub nodes : MoreUnlikeThan l P → ⊥
  pub visits : MoreDifferentThan l L → ⊥
  pub small : IsTooMuch P L → ⊥

-- the outcome in the lock's words
abbrev pub verdict_of : Outcome → Verdict
verdict_of Schedulable = verdict.Safe
verdict_of Unschedulable = verdict.Unsafe
verdict_of NodesFull = verdict.NodesFull
verdict_of VisitsFull = verdict.VisitsFull
verdict_of TooLarge = verdict.TooLarge

-- the verdict, the nodes and the visits that exploring the lock ends with
abbrev pub checked : Lock → ℕ → ℕ → Verdict × List (Node Chamber) × List Visit
checked l P L = (verdict_of (explored (meaning l) P L).0, (explored (meaning l) P L).1.nodes, (explored (meaning l) P L).1.visits)
