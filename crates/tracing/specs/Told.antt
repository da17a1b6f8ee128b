-- What tracing a visit answers, and what it leaves in the list.
use Rattle.std.specs.Prelude.{◌≡◌, ℕ, ◌<◌, ◌≤◌, ◌⊎◌, List, ◌++◌, length, drop, Ok, Err, Result}
use Rattle.exploration.specs.declared.node.Visit.{Visit}
use Rattle.exploration.specs.declared.trace_refusal.TraceRefusal.{TraceRefusal}
use Rattle.exploration.specs.declared.trace_refusal.TraceRefusal.TheVariants.{NoSuchVisit, BrokenChain, ListTooShort}
use Rattle.exploration.specs.Traces.{Chain}

-- how many events are told, or why none are
abbrev pub counted : Result (List ℕ) TraceRefusal → Result ℕ TraceRefusal
counted (Ok es) = Ok (length es)
counted (Err r) = Err r

-- the list with the events at its front, or as it was
abbrev pub over_front : Result (List ℕ) TraceRefusal → List ℕ → List ℕ
over_front (Ok es) list = es ++ drop (length es) list
over_front (Err r) list = list

-- the answer is right by the chains of the visits
pub record Justified (vs : List Visit) (k room : ℕ) (r : Result ℕ TraceRefusal) : Type 0 where
  -- the events of a sound chain are told where there is room for them
  pub told : (es : List ℕ) → Chain vs k es → length es ≤ room → r ≡ Ok (length es)
  -- a number is refused only where no visit has it
  pub no_such_visit : r ≡ Err NoSuchVisit → (k ≡ 0) ⊎ (length vs < k)
  -- a chain is refused only where no sound chain leads to the visit
  pub broken_chain : r ≡ Err BrokenChain → (es : List ℕ) → Chain vs k es → ⊥
  -- a list is refused only where a sound chain has more events than it has room
  pub list_too_short : r ≡ Err ListTooShort → (es : List ℕ) × Chain vs k es × (room < length es)
