-- The forced events of the lock are ticks, and each makes the boat wait one tick more.
use Rattle.std.proofs.Common.{◌≡◌, ℕ, zero, suc, ◌+◌, ◌≤◌, true, List, replicate, Some, Ok, subst, arith}
use Rattle.std.proofs.lemmas.Bool.Decides.{nat_tests}
use Rattle.transition.specs.Runs.{onward, replay, forced_on}
use Rattle.exploration.specs.declared.node.Visit.{Visit}
use Rattle.exploration.specs.Claims.{ShownLate}
use Rattle.exploration.proofs.Runs.{onward_some, replay_append}
use Rattle.canal_lock.specs.declared.lock.Lock.{Lock}
use Rattle.canal_lock.specs.declared.lock.Chamber.{Chamber}
use Rattle.canal_lock.specs.Locks.{late, gives, forced, meaning}
use Rattle.lock_check.specs.Findings.{ShownOverdue}
use Rattle.lock_check.proofs.Overdue.{late_overdue}

module _ (l : Lock) where
  forced_tick : (x : Chamber) (e : ℕ) → forced l x ≡ Ok e → e ≡ 2
  forced_tick x e f = grind (arith, nat_tests)

  tick_given : (x y : Chamber) (e : ℕ) → forced l x ≡ Ok e → gives l e x ≡ Ok y → gives l 2 x ≡ Ok y
  tick_given x y e f g = subst (λ k. gives l k x ≡ Ok y) (forced_tick x e f) g

  tick_waits : (x y : Chamber) (e : ℕ) → forced l x ≡ Ok e → gives l e x ≡ Ok y → y.wait ≡ x.wait + 1
  tick_waits x y e f g = let two = forced_tick x e f in grind (arith, nat_tests)

  -- so many forced events are so many ticks, and the boat has waited that much longer after them
  record Ticked (n : ℕ) (x z : Chamber) : Type 0 where
    run : replay (meaning l) x (replicate n 2) ≡ Some z
    waited : z.wait ≡ x.wait + n

  ticked : (n : ℕ) (x z : Chamber) → forced_on (meaning l) n x ≡ Some z → Ticked n x z
  ticked zero x z a = record { run = a; waited = let same : x ≡ z = cc in rw (← same) (omega arith) }
  ticked (suc n) x z a =
      let f = onward_some (forced l x) (λ e. onward (gives l e x) (forced_on (meaning l) n)) z a in
      let g = onward_some (gives l f.0 x) (forced_on (meaning l) n) z f.2 in
      let one = tick_given x g.0 f.0 f.1 g.1 in
      let more = tick_waits x g.0 f.0 f.1 g.1 in
      let rest = ticked n g.0 z g.2 in
      record { run = rw one rest.run; waited = omega (arith, more, rest.waited) }

  late_waits : (z : Chamber) → late l z ≡ true → z.wait ≤ l.patience
  late_waits z h = grind (arith, nat_tests)

  pub shown_overdue : (vs : List Visit) → ShownLate (meaning l) vs → ShownOverdue l vs
  shown_overdue vs h =
      let end = h.2.2 in
      let t = ticked h.2.0 h.0 end.0 end.1 in
      record {
        events = h.1.0;
        told = h.1.1;
        chamber = h.0;
        led = h.1.2;
        ticks = h.2.0;
        few = omega (arith, t.waited, late_waits end.0 end.2);
        end = end.0;
        forced = end.1;
        run = replay_append (meaning l) h.1.0 (replicate h.2.0 2) _ h.0 end.0 h.1.2 t.run;
        overdue = late_overdue l end.0 end.2;
      }
