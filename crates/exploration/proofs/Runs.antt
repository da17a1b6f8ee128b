-- Runs that visits lead along, and forced events that lead to a late state.
use Rattle.std.proofs.Common.{◌≡◌, ℕ, zero, suc, ◌≤◌, Bool, true, false, ◌⊎◌, List, [], ◌∷◌, ◌++◌, length, Some, None, Ok, Err, Option, Result, sym, refl, ap, inl, inr, arith}
use Rattle.transition.specs.Meanings.{Meaning}
use Rattle.transition.specs.Laws.{Laws}
use Rattle.transition.specs.Runs.{onward, replay, forced_on, Reached}
use Rattle.exploration.specs.declared.node.Visit.{Visit}
use Rattle.exploration.specs.Traces.{Chain, starts, follows}
use Rattle.exploration.specs.Claims.{EverLate, Leads, SoonLate, ShownLate}
use Rattle.exploration.proofs.Lists.{none_some, numbered_push}
use Rattle.exploration.proofs.Chains.{chain_within, chain_more}
use Rattle.exploration.proofs.Tracings.{chain_traced}

pub onward_some : {X Y E : Type 0} (o : Result X E) (f : X → Option Y) (y : Y) → onward o f ≡ Some y → (x : X) × (o ≡ Ok x) × (f x ≡ Some y)
onward_some (Ok x) f y e = (x, refl, e)
onward_some (Err r) f y e = none_some None y refl e

abbrev pub visit : ℕ → ℕ → Visit
visit p e = record { parent = p; event = e }

module _ {X R : Type 0} (M : Meaning X R) where
  replay_next : (e : ℕ) (es : List ℕ) (x y z : X) → M.gives e x ≡ Ok y → replay M y es ≡ Some z → replay M x (e ∷ es) ≡ Some z
  replay_next e es x y z g a = rw g a

  pub replay_append : (es fs : List ℕ) (x y z : X) → replay M x es ≡ Some y → replay M y fs ≡ Some z → replay M x (es ++ fs) ≡ Some z
  replay_append [] fs x y z a b = rw ((let k : x ≡ y = cc in k), b)
  replay_append (e ∷ es) fs x y z a b =
      let k = onward_some (M.gives e x) (λ w. replay M w es) y a in
      rw k.1 (replay_append es fs k.0 y z k.2 b)

  replay_push : (es : List ℕ) (e : ℕ) (x y z : X) → replay M x es ≡ Some y → M.gives e y ≡ Ok z → replay M x (es ++ e ∷ []) ≡ Some z
  replay_push es e x y z a g = replay_append es (e ∷ []) x y z a (rw g)

  -- forced events are events
  forced_replay : (n : ℕ) (y z : X) → forced_on M n y ≡ Some z → (es : List ℕ) × (replay M y es ≡ Some z)
  forced_replay zero y z a = ([], a)
  forced_replay (suc n) y z a =
      let f = onward_some (M.forced y) (λ e. onward (M.gives e y) (forced_on M n)) z a in
      let g = onward_some (M.gives f.0 y) (forced_on M n) z f.2 in
      let h = forced_replay n g.0 z g.2 in
      (f.0 ∷ h.0, replay_next f.0 h.0 y g.0 z g.1 h.1)

  replay_fits : Laws M → (es : List ℕ) (x y : X) → M.fits x ≡ true → replay M x es ≡ Some y → M.fits y ≡ true
  replay_fits W [] x y f a = cc
  replay_fits W (e ∷ es) x y f a =
      let k = onward_some (M.gives e x) (λ w. replay M w es) y a in
      replay_fits W es k.0 y (W.result_fits e x k.0 f k.1) k.2

  pub reached_fits : Laws M → (x : X) → Reached M x → M.fits x ≡ true
  reached_fits W x r = replay_fits W r.0 M.first x W.first_fits r.1

  -- a sound chain ends with the visit k, and its events lead to the state
  abbrev pub Led : List Visit → ℕ → X → Type 0
  Led vs k x = (es : List ℕ) × Chain vs k es × (replay M M.first es ≡ Some x)

  pub led_leads : (vs : List Visit) (k : ℕ) (x : X) → Led vs k x → Leads M vs k x
  led_leads vs k x h = (h.0, chain_traced h.1, h.2)

  pub led_reached : (vs : List Visit) (k : ℕ) (x : X) → Led vs k x → Reached M x
  led_reached vs k x h = (h.0, h.2)

  pub led_more : (vs : List Visit) (k : ℕ) (x : X) (v : Visit) → Led vs k x → Led (vs ++ v ∷ []) k x
  led_more vs k x v h = (h.0, chain_more v h.1, h.2)

  -- the state is the first one, or the event e leads to it from where the visit p does
  abbrev pub Comes : List Visit → ℕ → ℕ → X → Type 0
  Comes vs p e r = ((p ≡ 0) × (e ≡ 0) × (r ≡ M.first)) ⊎ ((y : X) × Led vs p y × (M.gives e y ≡ Ok r))

  -- a state that comes so is led to by a visit of its own
  pub comes_led : Laws M → (vs : List Visit) (p e : ℕ) (r : X) → Comes vs p e r → Led (vs ++ visit p e ∷ []) (suc (length vs)) r
  comes_led W vs p e r (inl h) = ([], starts (numbered_push vs (visit p e)) h.0 h.1, ap Some (sym h.2))
  comes_led W vs p e r (inr h) =
      let b = chain_within h.1.1 in
      let a = W.accepted_within e h.0 r h.2 in
      let f = W.few_events in (
        h.1.0 ++ e ∷ [],
        follows (numbered_push vs (visit p e)) (omega arith) (omega arith) (omega arith) (chain_more (visit p e) h.1.1),
        replay_push h.1.0 e M.first h.0 r h.1.2 h.2,
      )

  pub comes_reached : Laws M → (vs : List Visit) (p e : ℕ) (r : X) → Comes vs p e r → Reached M r
  comes_reached W vs p e r h = led_reached (vs ++ visit p e ∷ []) (suc (length vs)) r (comes_led W vs p e r h)

  -- at most m forced events lead to a late state
  abbrev LateIn : ℕ → X → Type 0
  LateIn m x = (n : ℕ) × (n ≤ m) × ((z : X) × (forced_on M n x ≡ Some z) × (M.late z ≡ true))

  late_in_next : (m : ℕ) (x y : X) (e : ℕ) → M.forced x ≡ Ok e → M.gives e x ≡ Ok y → LateIn m y → LateIn (suc m) x
  late_in_next m x y e f g h = (suc h.0, omega arith, (h.2.0, rw (f, g) h.2.1, h.2.2))

  late_in : Laws M → (m : ℕ) (x : X) → M.doomed x ≡ true → (M.late x ≡ false → M.events_to_miss x ≤ m) → LateIn m x
  late_in W zero x d t = go (M.late x) refl
    where
      go : (b : Bool) → M.late x ≡ b → LateIn zero x
      go true l = (0, omega arith, (x, refl, l))
      go false l = absurd (omega (arith, t l, W.miss_near x d l))
  late_in W (suc m) x d t = go (M.late x) refl (λ y. late_in W m y)
    where
      go : (b : Bool) → M.late x ≡ b → ((y : X) → M.doomed y ≡ true → (M.late y ≡ false → M.events_to_miss y ≤ m) → LateIn m y) → LateIn (suc m) x
      go true l below = (0, omega arith, (x, refl, l))
      go false l below =
          let o = W.forced_nears x d l in
          let y : X = o.2.0 in
          elim o.2.2 [
            | inl l' ↦ late_in_next m x y o.0 o.1 o.2.1 (0, omega arith, (y, refl, l'))
            | inr h ↦ late_in_next m x y o.0 o.1 o.2.1 (below y h.0 (λ _. omega (arith, h.1, t l)))
          ]

  -- forced events lead from a doomed state to a late one
  pub doomed_soon_late : Laws M → (x : X) → M.doomed x ≡ true → SoonLate M x
  doomed_soon_late W x d = late_in W 1151 x d (λ l. (W.miss_near x d l).1)

  -- the run of the last visit and its forced events make one run
  pub shown_ever_late : (vs : List Visit) → ShownLate M vs → EverLate M
  shown_ever_late vs h =
      let z = h.2.2 in
      let f = forced_replay h.2.0 h.0 z.0 z.1 in
      (z.0, (h.1.0 ++ f.0, replay_append h.1.0 f.0 M.first h.0 z.0 h.1.2 f.1), z.2)
