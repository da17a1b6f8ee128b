-- How a run of a system came to be late.
use Rattle.std.specs.Prelude.{◌≡◌, ℕ, ◌≤◌, true, List, [], ◌∷◌, ◌++◌, length, Some, Ok, Err, Result}
use Rattle.transition.specs.declared.run.Run.{Run}
use Rattle.transition.specs.Meanings.{Meaning}
use Rattle.transition.specs.Runs.{replay}
use Rattle.exploration.specs.declared.node.Visit.{Visit}
use Rattle.exploration.specs.declared.trace_refusal.TraceRefusal.{TraceRefusal}
use Rattle.exploration.specs.Traces.{Traced}
use Rattle.verdict.specs.Moments.{begun, calls}

-- the events that tracing tells, none where it is refused
abbrev pub events_told : Result (List ℕ) TraceRefusal → List ℕ
events_told (Ok es) = es
events_told (Err r) = []

-- each event is the forced one in its moment and is accepted, and they lead from one state to the other
abbrev pub Forces : {X R : Type 0} → Meaning X R → X → List ℕ → X → Type 0
Forces M x [] z = x ≡ z
Forces {X} M x (e ∷ es) z = (M.forced x ≡ Ok e) × ((y : X) × (M.gives e x ≡ Ok y) × Forces M y es z)

-- the state is late, by the events of the last visit and the forced ones after them
pub record LateBy {X R : Type 0} (M : Meaning X R) (vs : List Visit) (events forced : List ℕ) (end : X) : Type 0 where
  -- tracing the last visit tells the events
  pub told : Traced vs (length vs) events
  -- each is accepted in its turn from the first state on, and they lead to this state, which is doomed
  pub doomed_state : X
  pub led : replay M M.first events ≡ Some doomed_state
  pub doomed : M.doomed doomed_state ≡ true
  -- from there each event is forced, and they are few
  pub by_force : Forces M doomed_state forced end
  pub few : length forced ≤ 1151
  -- all of them are accepted in turn, and the state that they lead to is late
  pub accepted : replay M M.first (events ++ forced) ≡ Some end
  pub late : M.late end ≡ true

-- the run is one of the system, calls of the events on a new run leave it, and its state is late by them
pub record Fails {S X R : Type 0} (means : S → Meaning X R) (s : S) (vs : List Visit) (events forced : List ℕ) (run : Run S X R) : Type 0 where
  pub of_system : run.system ≡ s
  pub by_calls : calls means (begun means s) (events ++ forced) ≡ run
  pub late_by : LateBy (means s) vs events forced run.state
