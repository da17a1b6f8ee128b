-- The lock keeps the laws of a transition system.
use Rattle.std.specs.Prelude.{◌≡◌, ℕ, ◌-◌, ◌<◌, ◌≤◌, Bool, true, false, ◌⊎◌, Ok, Err, refl}
use Rattle.std.proofs.Common.{sym, subst, ◌∙◌, inl, inr, ⊎_elim, arith}
use Rattle.std.proofs.lemmas.Bool.{and_parts, and_from, eqb-true, leb-true, eq-eqb, le-leb, both_ways, cases_Bool, cases_eq}
use Rattle.std.proofs.lemmas.Bool.Decides.{nat_tests}
use Rattle.transition.specs.declared.refusal.Refusal.{Refusal}
use Rattle.transition.specs.declared.refusal.Refusal.TheVariants.{Late, Lacking, NotDoomed, NotFitting}
use Rattle.transition.specs.Refusals.{number, number_positive}
use Rattle.canal_lock.specs.declared.lock.Lock.{Lock}
use Rattle.canal_lock.specs.declared.lock.Chamber.{Chamber}
use Rattle.canal_lock.specs.declared.refusal.LockRefusal.{LockRefusal}
use Rattle.canal_lock.specs.Locks.{calm, fits, late, doomed, come, tick, gives, forced, simulates, alike}

-- what an accepted event was, and where it led
pub accepted_not_late : (l : Lock) (e : ℕ) (x y : Chamber) → gives l e x ≡ Ok y → late l x ≡ false
accepted_not_late l e x y g = grind (arith, nat_tests)

pub accepted : (l : Lock) (e : ℕ) (x y : Chamber) → gives l e x ≡ Ok y → ((e ≡ 1) × (x.boat ≡ false) × (x.pause ≡ 0) × (y ≡ come l x)) ⊎ ((e ≡ 2) × (y ≡ tick l x))
accepted l e x y g =
    ⊎_elim
    (λ (one : e ≡ 1). inl (one, grind (arith, nat_tests), grind (arith, nat_tests), grind (arith, nat_tests)))
    (λ (other : e ≡ 1 → ⊥). inr (grind (arith, nat_tests), grind (arith, nat_tests)))
    (cases_eq e 1)

pub come_fits : (l : Lock) (x : Chamber) → fits l x ≡ true → fits l (come l x) ≡ true
come_fits l x f = grind (arith, nat_tests)

pub tick_fits : (l : Lock) (x : Chamber) → fits l x ≡ true → late l x ≡ false → fits l (tick l x) ≡ true
tick_fits l x f n = ⊎_elim (λ (b : x.boat ≡ true). grind (arith, nat_tests)) (λ (b : x.boat ≡ false). grind (arith, nat_tests)) (cases_Bool x.boat)

pub result_fits : (l : Lock) (e : ℕ) (x y : Chamber) → fits l x ≡ true → gives l e x ≡ Ok y → fits l y ≡ true
result_fits l e x y f g =
    ⊎_elim
    (λ h. subst (λ z. fits l z ≡ true) (sym h.3) (come_fits l x f))
    (λ h. subst (λ z. fits l z ≡ true) (sym h.1) (tick_fits l x f (accepted_not_late l e x y g)))
    (accepted l e x y g)

pub accepted_within : (l : Lock) (e : ℕ) (x y : Chamber) → gives l e x ≡ Ok y → (1 ≤ e) × (e ≤ 2)
accepted_within l e x y g = (grind (arith, nat_tests), grind (arith, nat_tests))

pub unfit_refuses : (l : Lock) (e : ℕ) (x : Chamber) → fits l x ≡ false → gives l e x ≡ Err NotFitting
unfit_refuses l e x f = grind (arith, nat_tests)

pub late_refuses : (l : Lock) (e : ℕ) (x : Chamber) → late l x ≡ true → gives l e x ≡ Err Late
late_refuses l e x f = grind (arith, nat_tests)

pub lacking_refused : (l : Lock) (e : ℕ) (x : Chamber) → fits l x ≡ true → late l x ≡ false → (e ≡ 0) ⊎ (2 < e) → gives l e x ≡ Err Lacking
lacking_refused l e x f n o = grind (arith, nat_tests)

pub refusal_numbered : (l : Lock) (own : LockRefusal → ℕ) → ((reason : LockRefusal) → 0 < own reason) → (e : ℕ) (x : Chamber) (r : Refusal LockRefusal) → gives l e x ≡ Err r → 0 < number own r
refusal_numbered l own p e x r g = number_positive own p r

-- what it takes for a chamber to simulate another
record Parts (l : Lock) (x y : Chamber) : Type 0 where
  fit : (fits l x ≡ true) × (fits l y ≡ true)
  turn : x.turn ≡ y.turn
  boat : x.boat ≡ y.boat
  wait : x.wait ≡ y.wait
  pause : x.pause ≤ y.pause

same_boat : (a b : Bool) → alike a b ≡ true → a ≡ b
same_boat true b h = sym h
same_boat false true h = h
same_boat false false h = refl

boat_same : (a b : Bool) → a ≡ b → alike a b ≡ true
boat_same true b h = sym h
boat_same false true h = h
boat_same false false h = refl

parts : (l : Lock) (x y : Chamber) → simulates l x y ≡ true → Parts l x y
parts l x y s =
    let all = and_parts _ _ s in
    let rest = and_parts _ _ all.1 in
    let left = and_parts _ _ rest.0 in
    let right = and_parts _ _ rest.1 in
    record {
      fit = and_parts _ _ all.0;
      turn = eqb-true _ _ left.0;
      boat = same_boat _ _ left.1;
      wait = eqb-true _ _ right.0;
      pause = leb-true _ _ right.1;
    }

pub together : (l : Lock) (x y : Chamber) → (fits l x ≡ true) × (fits l y ≡ true) → x.turn ≡ y.turn → x.boat ≡ y.boat → x.wait ≡ y.wait → x.pause ≤ y.pause → simulates l x y ≡ true
together l x y f t b w p =
    and_from _ _ (and_from _ _ f.0 f.1) (and_from _ _ (and_from _ _ (eq-eqb _ _ t) (boat_same _ _ b)) (and_from _ _ (eq-eqb _ _ w) (le-leb _ _ p)))

pub simulates_fits : (l : Lock) (x y : Chamber) → simulates l x y ≡ true → (fits l x ≡ true) × (fits l y ≡ true)
simulates_fits l x y s = (grind (arith, nat_tests), grind (arith, nat_tests))

pub simulates_itself : (l : Lock) (x : Chamber) → fits l x ≡ true → simulates l x x ≡ true
simulates_itself l x f = grind (arith, nat_tests)

pub simulates_through : (l : Lock) (x y z : Chamber) → simulates l x y ≡ true → simulates l y z ≡ true → simulates l x z ≡ true
simulates_through l x y z s t =
    let a = parts l x y s in
    let b = parts l y z t in
    together l x z (a.fit.0, b.fit.1) (a.turn ∙ b.turn) (a.boat ∙ b.boat) (a.wait ∙ b.wait) (omega (arith, a.pause, b.pause))

pub simulates_doom : (l : Lock) (x y : Chamber) → simulates l x y ≡ true → doomed l y ≡ true → doomed l x ≡ true
simulates_doom l x y s d = grind (arith, nat_tests)

pub doomed_fits : (l : Lock) (x : Chamber) → doomed l x ≡ true → fits l x ≡ true
doomed_fits l x d = grind (arith, nat_tests)

pub late_doomed : (l : Lock) (x : Chamber) → late l x ≡ true → doomed l x ≡ true
late_doomed l x h = grind (arith, nat_tests)

pub forced_unfit : (l : Lock) (x : Chamber) → fits l x ≡ false → forced l x ≡ Err NotFitting
forced_unfit l x f = grind (arith, nat_tests)

pub forced_late : (l : Lock) (x : Chamber) → late l x ≡ true → forced l x ≡ Err Late
forced_late l x h = grind (arith, nat_tests)

pub forced_none : (l : Lock) (x : Chamber) → fits l x ≡ true → doomed l x ≡ false → forced l x ≡ Err NotDoomed
forced_none l x f d = grind (arith, nat_tests)

pub miss_near : (l : Lock) (x : Chamber) → doomed l x ≡ true → late l x ≡ false → (1 ≤ l.patience - x.wait) × (l.patience - x.wait ≤ 1151)
miss_near l x d n = (grind (arith, nat_tests), omega (arith, l.bounded))

not_late_like : (l : Lock) (x y : Chamber) → Parts l x y → late l y ≡ false → late l x ≡ false
not_late_like l x y h n =
    ⊎_elim
    (λ (was : late l x ≡ true). absurd (both_ways (late l y) n (grind (arith, nat_tests, h.turn, h.boat, h.wait, h.fit.1))))
    (λ not_late. not_late)
    (cases_Bool (late l x))

tick_simulates : (l : Lock) (x y : Chamber) → Parts l x y → late l x ≡ false → late l y ≡ false → simulates l (tick l x) (tick l y) ≡ true
tick_simulates l x y h n m =
    together l (tick l x) (tick l y) (tick_fits l x h.fit.0 n, tick_fits l y h.fit.1 m) (grind (arith, nat_tests, h.turn, h.boat)) (grind (arith, nat_tests, h.turn, h.boat)) (grind (arith, nat_tests, h.turn, h.boat, h.wait)) (grind (arith, nat_tests, h.turn, h.boat, h.pause))

pub simulates_events : (l : Lock) (e : ℕ) (x y z : Chamber) → simulates l x y ≡ true → gives l e y ≡ Ok z → (w : Chamber) × (gives l e x ≡ Ok w) × (simulates l w z ≡ true)
simulates_events l e x y z s g =
    let h = parts l x y s in
    let was = accepted_not_late l e y z g in
    let not_late : late l x ≡ false = not_late_like l x y h was in
    ⊎_elim
    (λ k.
    let empty : x.boat ≡ false = h.boat ∙ k.1 in
    let free : x.pause ≡ 0 = omega (arith, h.pause, k.2) in (
      come l x,
      grind (arith, nat_tests, k.0, empty, free, h.fit.0, not_late),
      subst (λ q. simulates l (come l x) q ≡ true) (sym k.3) (together l (come l x) (come l y) (come_fits l x h.fit.0, come_fits l y h.fit.1) h.turn refl refl (omega arith)),
    ))
    (λ k. (
      tick l x,
      grind (arith, nat_tests, k.0, h.fit.0, not_late),
      subst (λ q. simulates l (tick l x) q ≡ true) (sym k.1) (tick_simulates l x y h not_late was),
    ))
    (accepted l e y z g)

pub first_fits : (l : Lock) → fits l calm ≡ true
first_fits l = grind (arith, nat_tests)

pub first_not_doomed : (l : Lock) → doomed l calm ≡ false
first_not_doomed l = grind (arith, nat_tests)

pub forced_nears : (l : Lock) (x : Chamber) → doomed l x ≡ true → late l x ≡ false → (e : ℕ) × (forced l x ≡ Ok e) × ((y : Chamber) × (gives l e x ≡ Ok y) × ((late l y ≡ true) ⊎ ((doomed l y ≡ true) × (l.patience - y.wait < l.patience - x.wait))))
forced_nears l x d n = (2, grind (arith, nat_tests), (tick l x, grind (arith, nat_tests), inr (grind (arith, nat_tests), grind (arith, nat_tests))))
