-- What is left of a fraction whose parts are divided by what divides both.
use Rattle.std.proofs.Common.{ℕ, ◌*◌, ◌/◌, ◌<◌, sym, ap, ◌∙◌, subst, mul_assoc, mul_comm, one-mul}
use Rattle.std.specs.Int.{◌∣◌}
use native.Mathlib.Nat.{div-mul_cancel, dvd_of_mul-dvd-mul_right, mul-dvd-mul_right, pos_of_dvd_of_pos, eq-one_of_dvd-one, dvd-mul_right}
use Rattle.task_load.specs.Fractions.{Same, Lowest, over}

module _ (n d g : ℕ) (p : g ∣ n) (q : g ∣ d) (pos : 0 < d) where
  pub divisor_pos : 0 < g
  divisor_pos = pos_of_dvd_of_pos q pos

  pub same_parted : Same (over (n / g) (d / g)) (over n d)
  same_parted =
      ap (λ z. n / g * z) (sym (div-mul_cancel g q))
      ∙ ap (λ z. n / g * z) (mul_comm (d / g) g)
      ∙ sym (mul_assoc (n / g) g (d / g))
      ∙ ap (λ z. z * (d / g)) (div-mul_cancel g p)

  -- what divides both parts, taken g times, divides both numbers, and so g
  pub lowest_parted : ((k : ℕ) → k ∣ n → k ∣ d → k ∣ g) → Lowest (over (n / g) (d / g))
  lowest_parted greatest = record {
    parted = pos_of_dvd_of_pos (subst (λ z. d / g ∣ z) (div-mul_cancel g q) (dvd-mul_right (d / g) g)) pos;
    coprime = λ k u v.
        let on_n : k * g ∣ n = subst (λ z. k * g ∣ z) (div-mul_cancel g p) (mul-dvd-mul_right k u g) in
        let on_d : k * g ∣ d = subst (λ z. k * g ∣ z) (div-mul_cancel g q) (mul-dvd-mul_right k v g) in
        let on_g : k * g ∣ 1 * g = subst (λ z. k * g ∣ z) (sym (one-mul g)) (greatest (k * g) on_n on_d) in
        eq-one_of_dvd-one (dvd_of_mul-dvd-mul_right k divisor_pos on_g);
  }
