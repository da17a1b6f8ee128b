-- Tracing: the events of the chain from a visit back to its start, on any visits at all.
use Rattle.std.specs.Prelude.{◌≡◌, ℕ, zero, suc, ◌<◌, ◌≤◌, Bool, cond, ◌&&◌, ◌||◌, ◌⊎◌, List, [], ◌∷◌, ◌++◌, length, Some, None, Ok, Err, Option, Result, ◌==◌, nat_le, nat_lt}
use Rattle.exploration.specs.declared.node.Visit.{Visit}
use Rattle.exploration.specs.declared.trace_refusal.TraceRefusal.{TraceRefusal}
use Rattle.exploration.specs.declared.trace_refusal.TraceRefusal.TheVariants.{NoSuchVisit, BrokenChain, ListTooShort}
use Rattle.exploration.specs.Lists.{numbered}

-- whether the visit of that number can be part of a chain: its parent is below it, a start has the event 0, any other visit one of 1 to 10
abbrev pub sound : ℕ → Visit → Bool
sound k v = nat_lt v.parent k && cond (v.parent == 0) (v.event == 0) (nat_le 1 v.event && nat_le v.event 10)

-- the events with one more behind them
abbrev pub and_then : Option (List ℕ) → ℕ → Option (List ℕ)
and_then None e = None
and_then (Some es) e = Some (es ++ e ∷ [])

-- the events of the chain that ends with a visit, from those of the chains before it
abbrev pub linked : ℕ → Option Visit → (ℕ → Option (List ℕ)) → Option (List ℕ)
linked k None before = None
linked k (Some v) before = cond (sound k v) (cond (v.parent == 0) (Some []) (and_then (before v.parent) v.event)) None

-- the events of the chain that ends with the visit k, first event first and without its start's, by at most so many visits
unfoldable pub chain : List Visit → ℕ → ℕ → Option (List ℕ)
chain vs zero k = None
chain vs (suc bound) k = linked k (numbered vs k) (chain vs bound)

-- the events of the chain that ends with the visit k: as parents are below, it has at most k visits
abbrev pub chained : List Visit → ℕ → Option (List ℕ)
chained vs k = chain vs k k

-- the events, where there is room for them
abbrev pub within : ℕ → List ℕ → Result (List ℕ) TraceRefusal
within room es = cond (nat_le (length es) room) (Ok es) (Err ListTooShort)

-- the chain's events, where it is unbroken and there is room for them
abbrev pub unbroken : ℕ → Option (List ℕ) → Result (List ℕ) TraceRefusal
unbroken room None = Err BrokenChain
unbroken room (Some es) = within room es

-- the events that lead to the visit of that number, or why they are not told
unfoldable pub traced : List Visit → ℕ → ℕ → Result (List ℕ) TraceRefusal
traced vs k room = cond (k == 0 || nat_lt (length vs) k) (Err NoSuchVisit) (unbroken room (chained vs k))

-- the events are those of a sound chain of visits from a start to the visit k
pub data Chain (vs : List Visit) : ℕ → List ℕ → Type 0 where
  starts : {k : ℕ} {v : Visit} → numbered vs k ≡ Some v → v.parent ≡ 0 → v.event ≡ 0 → Chain vs k []
  follows : {k : ℕ} {v : Visit} {es : List ℕ} → numbered vs k ≡ Some v → v.parent < k → 1 ≤ v.event → v.event ≤ 10 → Chain vs v.parent es → Chain vs k (es ++ v.event ∷ [])

-- tracing a visit answers these events, and refuses only a list that is too short for them
abbrev pub Traced : List Visit → ℕ → List ℕ → Type 0
Traced vs k es = (room : ℕ) → traced vs k room ≡ within room es

-- when tracing answers and when it refuses, in terms of chains
pub record Tracing (vs : List Visit) (k room : ℕ) : Type 0 where
  -- events are answered exactly where they are a sound chain's and there is room for them
  pub answers : (es : List ℕ) → traced vs k room ≡ Ok es → Chain vs k es × (length es ≤ room)
  pub answered : (es : List ℕ) → Chain vs k es → length es ≤ room → traced vs k room ≡ Ok es
  -- a number is refused exactly where no visit has it
  pub lacks : traced vs k room ≡ Err NoSuchVisit → (k ≡ 0) ⊎ (length vs < k)
  pub lacking : (k ≡ 0) ⊎ (length vs < k) → traced vs k room ≡ Err NoSuchVisit
  -- a chain is refused exactly where a visit has the number and no sound chain leads to it
  pub breaks : traced vs k room ≡ Err BrokenChain → (1 ≤ k) × (k ≤ length vs) × ((es : List ℕ) → Chain vs k es → ⊥)
  pub broken : 1 ≤ k → k ≤ length vs → ((es : List ℕ) → Chain vs k es → ⊥) → traced vs k room ≡ Err BrokenChain
  -- a list is refused exactly where a sound chain has more events than it has room
  pub shortens : traced vs k room ≡ Err ListTooShort → (es : List ℕ) × Chain vs k es × (room < length es)
  pub short : (es : List ℕ) → Chain vs k es → room < length es → traced vs k room ≡ Err ListTooShort
  -- a sound chain has fewer events than its visit's number, so that a list with that much room is never too short
  pub fewer : (es : List ℕ) → Chain vs k es → length es < k
