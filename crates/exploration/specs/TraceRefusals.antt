-- The numbers by which a refusal to trace is told.
use Rattle.std.specs.Prelude.{ℕ, ◌<◌}
use Rattle.std.proofs.Common.{arith}
use Rattle.exploration.specs.declared.trace_refusal.TraceRefusal.{TraceRefusal}
use Rattle.exploration.specs.declared.trace_refusal.TraceRefusal.TheVariants.{NoSuchVisit, BrokenChain, ListTooShort}

-- the number of a refusal to trace
abbrev pub number : TraceRefusal → ℕ
number NoSuchVisit = 13
number BrokenChain = 14
number ListTooShort = 15

-- no refusal is told by 0
pub number_positive : (refusal : TraceRefusal) → 0 < number refusal
number_positive NoSuchVisit = omega arith
number_positive BrokenChain = omega arith
number_positive ListTooShort = omega arith
