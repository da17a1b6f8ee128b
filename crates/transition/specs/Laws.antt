-- The laws that every system keeps.
use Rattle.std.specs.Prelude.{◌≡◌, ℕ, ◌<◌, ◌≤◌, true, false, ◌⊎◌, Ok, Err}
use Rattle.transition.specs.declared.refusal.Refusal.{Refusal}
use Rattle.transition.specs.declared.refusal.Refusal.TheVariants.{Late, Lacking, NotDoomed, NotFitting}
use Rattle.transition.specs.Refusals.{number}
use Rattle.transition.specs.Meanings.{Meaning}

pub record Laws {X R : Type 0} (M : Meaning X R) : Type 0 where
  pub few_events : M.count ≤ 10
  pub first_fits : M.fits M.first ≡ true
  pub result_fits : (e : ℕ) (x y : X) → M.fits x ≡ true → M.gives e x ≡ Ok y → M.fits y ≡ true
  pub accepted_within : (e : ℕ) (x y : X) → M.gives e x ≡ Ok y → (1 ≤ e) × (e ≤ M.count)
  -- refusals, in the order of their tests
  pub unfit_refuses : (e : ℕ) (x : X) → M.fits x ≡ false → M.gives e x ≡ Err NotFitting
  pub late_refuses : (e : ℕ) (x : X) → M.late x ≡ true → M.gives e x ≡ Err Late
  pub lacking_refused : (e : ℕ) (x : X) → M.fits x ≡ true → M.late x ≡ false → (e ≡ 0) ⊎ (M.count < e) → M.gives e x ≡ Err Lacking
  -- what refuses an event is not told by 0, however the reasons of the system's own are numbered, if none of them by 0
  pub refusal_numbered : (own : R → ℕ) → ((reason : R) → 0 < own reason) → (e : ℕ) (x : X) (r : Refusal R) → M.gives e x ≡ Err r → 0 < number own r
  pub simulates_fits : (x y : X) → M.simulates x y ≡ true → (M.fits x ≡ true) × (M.fits y ≡ true)
  pub simulates_itself : (x : X) → M.fits x ≡ true → M.simulates x x ≡ true
  pub simulates_through : (x y z : X) → M.simulates x y ≡ true → M.simulates y z ≡ true → M.simulates x z ≡ true
  pub simulates_events : (e : ℕ) (x y z : X) → M.simulates x y ≡ true → M.gives e y ≡ Ok z → (w : X) × (M.gives e x ≡ Ok w) × (M.simulates w z ≡ true)
  pub simulates_doom : (x y : X) → M.simulates x y ≡ true → M.doomed y ≡ true → M.doomed x ≡ true
  pub first_not_doomed : M.doomed M.first ≡ false
  pub doomed_fits : (x : X) → M.doomed x ≡ true → M.fits x ≡ true
  pub late_doomed : (x : X) → M.late x ≡ true → M.doomed x ≡ true
  pub forced_unfit : (x : X) → M.fits x ≡ false → M.forced x ≡ Err NotFitting
  pub forced_late : (x : X) → M.late x ≡ true → M.forced x ≡ Err Late
  pub forced_none : (x : X) → M.fits x ≡ true → M.doomed x ≡ false → M.forced x ≡ Err NotDoomed
  pub forced_nears : (x : X) → M.doomed x ≡ true → M.late x ≡ false → (e : ℕ) × (M.forced x ≡ Ok e) × ((y : X) × (M.gives e x ≡ Ok y) × ((M.late y ≡ true) ⊎ ((M.doomed y ≡ true) × (M.events_to_miss y < M.events_to_miss x))))
  pub miss_near : (x : X) → M.doomed x ≡ true → M.late x ≡ false → (1 ≤ M.events_to_miss x) × (M.events_to_miss x ≤ 1151)
