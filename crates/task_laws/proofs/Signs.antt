-- Late and doomed by natural numbers.
use Rattle.std.proofs.Common.{◌≡◌, ℕ, ◌+◌, ◌-◌, ◌≤◌, ltb, leb, ℤ, pos, negsuc, ◌≤ℤ◌, ap, ◌∙◌, inl, inr, arith}
use Rattle.std.proofs.lemmas.Int.{ints}
use Rattle.std.proofs.lemmas.Bool.Decides.{nat_tests}
use Rattle.std.proofs.lemmas.Bool.{cases_lt}
use Rattle.task_table.specs.declared.mode.Mode.{Mode}
use Rattle.task_table.specs.declared.mode.Mode.TheVariants.{Low, High}
use Rattle.task_table.specs.declared.task.Task.{Task}
use Rattle.task_table.specs.Tasks.{Right}
use Rattle.jobs.specs.declared.job.Job.TheVariants.{Ready}
use Rattle.jobs.specs.Jobs.{time_to_deadline, late_job, doomed_job}
use Rattle.task_laws.specs.Systems.{time_left}
use Rattle.task_laws.proofs.Jobwise.{extra}

pub late_nat : (r : Task) (w l : ℕ) → late_job r (Ready w l) ≡ leb (w + r.deadline) r.period
late_nat r w l = grind (arith, ints, nat_tests)

pub doomed_nat : (m : Mode) (r : Task) (w l : ℕ) → Right r → doomed_job m r (Ready w l) ≡ ltb (w + r.deadline) ((r.period + l) + extra m r)
doomed_nat Low r w l R = let g = R.budgets in grind (arith, ints, nat_tests)
doomed_nat High r w l R = grind (arith, ints, nat_tests)

pub time_nat : (r : Task) (w : ℕ) → time_left (time_to_deadline r w) ≡ (w + r.deadline) - r.period
time_nat r w = elim (cases_lt (w + r.deadline) r.period) [
  | inl h ↦
      let e : time_to_deadline r w ≡ negsuc ((r.period - (w + r.deadline)) - 1) = omega (arith, ints) in
      ap time_left e ∙ omega arith
  | inr h ↦
      let e : time_to_deadline r w ≡ pos ((w + r.deadline) - r.period) = omega (arith, ints) in
      ap time_left e
]

pub time_mono : (a b : ℤ) → a ≤ℤ b → time_left a ≤ time_left b
time_mono (pos a) (pos b) h = omega (arith, ints)
time_mono (pos a) (negsuc b) h = absurd (omega (arith, ints))
time_mono (negsuc a) (pos b) h = omega arith
time_mono (negsuc a) (negsuc b) h = omega arith
