-- States that agree in mode and jobs are equal: the fact that they carry has one proof.
use Rattle.std.proofs.Common.{◌≡◌, length}
use mathlib.Core.HLevel.{is_prop→PathP}
use native.Mathlib.Nat.{ℕ_set}
use Rattle.job_state.specs.declared.state.State.{State}

pub same_state : (a b : State) → a.mode ≡ b.mode → a.jobs ≡ b.jobs → a ≡ b
same_state a b p q = λ i. record { mode = p i; jobs = q i; wide = is_prop→PathP (λ j. length (q j) ≡ 8) (λ j. ℕ_set (length (q j)) 8) a.wide b.wide i }
