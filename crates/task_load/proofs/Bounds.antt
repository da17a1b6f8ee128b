-- The sum of at most eight loads fits 64 bits.
use Rattle.std.proofs.Common.{ℕ, ◌+◌, List, length, get_or, ◌*◌, ◌^◌, ◌<◌, ◌≤◌, mul-le-mul_right, mul_assoc, mul_comm, add-mul, mul-le-mul, mul-pos, one-mul, pow-suc, add-one, arith}
use Rattle.std.specs.List.{AllByRecursion}
use Rattle.std.proofs.ByRecursion.{All-get_or}
use native.Mathlib.Nat.{pow-le-pow_right}
use Rattle.task_table.specs.Tasks.{Right}
use Rattle.task_table.specs.declared.mode.Mode.{Mode}
use Rattle.task_table.specs.declared.mode.Mode.TheVariants.{Low, High}
use Rattle.task_table.specs.declared.task.Criticality.{Criticality}
use Rattle.task_table.specs.declared.task.Criticality.TheVariants.{Low as LowTask, High as HighTask}
use Rattle.task_table.specs.declared.task.Task.{Task}
use Rattle.task_load.specs.declared.fraction.Fraction.{Fraction}
use Rattle.task_load.specs.Loads.{demand, high_demand, with_task}

-- after i tasks, each of a load of at most 1 and a period of at most 127
pub record Small (i n d : ℕ) : Type 0 where
  pub above : n ≤ i * d
  pub parted : 0 < d
  pub below : d ≤ 127 ^ i

pub small_none : Small 0 0 1
small_none = record { above = omega arith; parted = omega arith; below = omega arith }

module _ (i n d c t : ℕ) (s : Small i n d) (in_time : c ≤ t) (runs : 0 < t) (short : t ≤ 127) where
  pub small_more : Small (i + 1) (n * t + c * d) (d * t)
  small_more = record {
    above =
        let one : n * t ≤ i * d * t = mul-le-mul_right t s.above in
        let two : c * d ≤ t * d = mul-le-mul_right d in_time in
        omega (arith, mul_assoc i d t, mul_comm t d, add-mul i 1 (d * t), one-mul (d * t));
    parted = mul-pos s.parted runs;
    below = rw (add-one, pow-suc) (mul-le-mul s.below short);
  }

-- what is that small fits 64 bits
pub small_fits : (i n d : ℕ) → i ≤ 8 → Small i n d → (n < 2 ^ 64) × (d < 2 ^ 64)
small_fits i n d few s =
    let low : 127 ^ i ≤ 127 ^ 8 = pow-le-pow_right (omega arith) few in
    let bound : i * d ≤ 8 * d = mul-le-mul_right d few in
    (omega (arith, s.above, s.below), omega (arith, s.below))

-- a right task asks for at most its period
pub demand_within : (m : Mode) (t : Task) → Right t → demand m t ≤ t.period
demand_within Low t r = omega (arith, r.budgets, r.in_time, r.one_at_a_time)
demand_within High t r = high t.criticality
  where
    high : (k : Criticality) → high_demand k t.budget_high ≤ t.period
    high LowTask = omega arith
    high HighTask = omega (arith, r.in_time, r.one_at_a_time)

-- one right task more
pub small_with : (i : ℕ) (m : Mode) (f : Fraction) (t : Task) → Small i f.numerator f.denominator → Right t → Small (i + 1) (with_task m f t).numerator (with_task m f t).denominator
small_with i m f t s r =
    small_more i f.numerator f.denominator (demand m t) t.period s (demand_within m t r) (omega (arith, r.runs, r.budgets, r.in_time, r.one_at_a_time)) r.short_period

-- what a read past the end would give
abbrev pub blank : Task
blank = record { criticality = LowTask; period = 0; deadline = 0; budget_low = 0; budget_high = 0; offset = 0 }

-- the task at i more, of right tasks
pub small_at : (m : Mode) (ts : List Task) (i : ℕ) (f : Fraction) → AllByRecursion Right ts → i < length ts → Small i f.numerator f.denominator → Small (i + 1) (with_task m f (get_or ts i blank)).numerator (with_task m f (get_or ts i blank)).denominator
small_at m ts i f rights l s = small_with i m f (get_or ts i blank) s (All-get_or Right ts i blank l rights)
