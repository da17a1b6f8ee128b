-- How each refusal is told: by a number, and in plain words.
use Rattle.std.specs.Prelude.{ℕ, ◌<◌, List, ◌++◌, codes, decimal}
use Rattle.std.proofs.Common.{arith}
use Rattle.transition.specs.declared.refusal.Refusal.{Refusal}
use Rattle.transition.specs.declared.refusal.Refusal.TheVariants.{Late, Lacking, NotDoomed, NotFitting, Own}

-- the reason in plain words
abbrev pub reason : {R : Type 0} → Refusal R → List ℕ
reason Late = codes "the state is late"
reason Lacking = codes "there is no such event"
reason NotDoomed = codes "the state is not doomed"
reason NotFitting = codes "the state does not fit the system"
reason (Own r) = codes "the system refuses the event"

module _ {R : Type 0} (own : R → ℕ) where
  -- the number by which a refusal is told, where reasons of the system's own have these
  abbrev pub number : Refusal R → ℕ
  number Late = 3
  number Lacking = 4
  number NotDoomed = 16
  number NotFitting = 17
  number (Own r) = own r

  -- no refusal is told by 0, where no reason of the system's own is
  pub number_positive : ((reason : R) → 0 < own reason) → (refusal : Refusal R) → 0 < number refusal
  number_positive positive Late = omega arith
  number_positive positive Lacking = omega arith
  number_positive positive NotDoomed = omega arith
  number_positive positive NotFitting = omega arith
  number_positive positive (Own r) = positive r

  -- the number, a colon and the reason
  abbrev pub shown : Refusal R → List ℕ
  shown r = decimal (number r) ++ (codes ": " ++ reason r)
