-- The theorems on exploring a system and on tracing visits.
use Rattle.std.specs.Prelude.{ℕ, List}
use Rattle.transition.specs.Meanings.{Meaning}
use Rattle.exploration.specs.declared.node.Visit.{Visit}
use Rattle.exploration.specs.Exploring.{explored}
use Rattle.exploration.specs.Unrolling.{Unrolled}
use Rattle.exploration.specs.Traces.{Tracing}
use Rattle.exploration.specs.Claims.{NeverLate, EverLate, Closed, Tells, Enough, Decides}

module _ {X R : Type 0} (M : Meaning X R) where
  -- however much memory is lent, the end of exploring tells what it should of the system
  abbrev pub ExploringTells : Type 0
  ExploringTells = (P L : ℕ) → Tells M P L (explored M P L).0 (explored M P L).1

  -- where the memory suffices, exploring decides whether the system is ever late
  abbrev pub ExploringDecides : Type 0
  ExploringDecides = (P L : ℕ) → Enough M P L → Decides M (explored M P L).0

  -- exploring is its turns one after another, each leaves less to do, and the bound on turns is never reached
  abbrev pub ExploringUnrolls : Type 0
  ExploringUnrolls = (P L : ℕ) → Unrolled M P L

  -- states that are closed, wherever they come from, show that no run is ever late
  abbrev pub ClosedNeverLate : Type 0
  ClosedNeverLate = (xs : List X) → Closed M xs → NeverLate M

  -- no system is both never late and ever late, so that the two decisions exclude each other
  abbrev pub DecisionsExclude : Type 0
  DecisionsExclude = NeverLate M → EverLate M → ⊥

-- whatever the visits are, tracing answers exactly the events of sound chains
abbrev pub TracingFollowsChains : Type 0
TracingFollowsChains = (vs : List Visit) (k room : ℕ) → Tracing vs k room
