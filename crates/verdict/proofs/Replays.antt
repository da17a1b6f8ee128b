-- The events that tracing tells, made on a run.
use Rattle.std.proofs.Common.{◌≡◌, ℕ, zero, suc, ◌≤◌, true, false, List, [], ◌∷◌, ◌++◌, length, take, drop, Some, Ok, Err, Result, refl, ap, ◌∙◌, ⊎_elim, arith}
use Rattle.std.specs.Result.{result_unwrap_or}
use Rattle.std.proofs.lemmas.List.{take_all, take-append-le}
use Rattle.std.proofs.lemmas.Bool.{cases_Bool}
use Rattle.std.proofs.lemmas.Bool.Decides.{nat_tests}
use Rattle.transition.specs.Meanings.{Meaning}
use Rattle.transition.specs.Laws.{Laws}
use Rattle.transition.specs.Runs.{onward, replay, walk, forced_on}
use Rattle.exploration.specs.declared.node.Visit.{Visit}
use Rattle.exploration.specs.declared.trace_refusal.TraceRefusal.{TraceRefusal}
use Rattle.exploration.specs.Traces.{traced, within, Traced}
use Rattle.exploration.specs.Claims.{SoonLate}
use Rattle.exploration.proofs.Runs.{onward_some}
use Rattle.exploration.proofs.Tracings.{tracing}
use Rattle.tracing.specs.Told.{counted, over_front}
use Rattle.verdict.specs.Failures.{events_told, Forces}

front_told : (t : Result (List ℕ) TraceRefusal) (list : List ℕ) → take (result_unwrap_or (counted t) 0) (over_front t list) ≡ events_told t
front_told (Ok es) list = let h : length es ≤ length es = omega arith in rw (take-append-le (length es) es (drop (length es) list) h) (take_all (length es) es h)
front_told (Err r) list = refl

whole_front : (len : ℕ) (xs ys : List ℕ) → length xs ≡ len → take len (xs ++ ys) ≡ xs
whole_front len xs ys h = let a : len ≤ length xs = omega arith in let b : length xs ≤ len = omega arith in take-append-le len xs ys a ∙ take_all len xs b

-- what stays in front of a list that tracing the last visit has written to
pub told_front : (vs : List Visit) (list last rest : List ℕ) (answer : Result ℕ TraceRefusal) (count len : ℕ) → length list ≡ length vs → length last ≡ len → answer ≡ counted (traced vs (length vs) (length list)) → last ≡ over_front (traced vs (length vs) (length list)) list → count ≡ result_unwrap_or answer 0 → take count (take len (last ++ rest)) ≡ events_told (traced vs (length vs) (length vs))
told_front vs list last rest answer count len room same answers leaves counts =
    let t = traced vs (length vs) (length list) in
    ap (take count) (whole_front len last rest same)
    ∙ ap (λ n. take n last) (counts ∙ ap (λ a. result_unwrap_or a 0) answers)
    ∙ ap (take (result_unwrap_or (counted t) 0)) leaves
    ∙ front_told t list ∙ ap (λ n. events_told (traced vs (length vs) n)) room

within_room : (room : ℕ) (es : List ℕ) → length es ≤ room → within room es ≡ Ok es
within_room room es h = grind (arith, nat_tests)

-- a list with room for as many events as there are visits is never too short
pub told_whole : (vs : List Visit) (es : List ℕ) → Traced vs (length vs) es → events_told (traced vs (length vs) (length vs)) ≡ es
told_whole vs es t =
    let k = length vs in
    let exact = t (length es) ∙ within_room (length es) es (omega arith) in
    let chain = ((tracing vs k (length es)).answers es exact).0 in
    let fewer = (tracing vs k (length es)).fewer es chain in
    ap events_told (t k ∙ within_room k es (omega (arith, fewer)))

module _ {X R : Type 0} (M : Meaning X R) where
  -- events that are all accepted lead where a walk does
  pub replay_walk : (es : List ℕ) (x y : X) → replay M x es ≡ Some y → walk M x es ≡ y
  replay_walk [] x y a = cc
  replay_walk (e ∷ es) x y a =
      let k = onward_some (M.gives e x) (λ w. replay M w es) y a in
      rw k.1 (replay_walk es k.0 y k.2)

  pub forces_replay : (es : List ℕ) (x z : X) → Forces M x es z → replay M x es ≡ Some z
  forces_replay [] x z same = ap Some same
  forces_replay (e ∷ es) x z h = rw h.1.1 (forces_replay es h.1.0 z h.1.2)

  forced_doomed : Laws M → (x : X) (e : ℕ) → M.forced x ≡ Ok e → M.doomed x ≡ true
  forced_doomed W x e f =
      ⊎_elim
      (λ (d : M.doomed x ≡ true). d)
      (λ (n : M.doomed x ≡ false).
      ⊎_elim
      (λ (fits : M.fits x ≡ true). let none = W.forced_none x fits n in let z : ◌≡◌ {A = ℕ} 0 1 = cc in absurd (omega arith))
      (λ (unfit : M.fits x ≡ false). let none = W.forced_unfit x unfit in let z : ◌≡◌ {A = ℕ} 0 1 = cc in absurd (omega arith))
      (cases_Bool (M.fits x)))
      (cases_Bool (M.doomed x))

  -- a state from which forced events lead to a late one is doomed
  pub soon_doomed : Laws M → (x : X) → SoonLate M x → M.doomed x ≡ true
  soon_doomed W x h = go h.0 h.2.1
    where
      go : (n : ℕ) → forced_on M n x ≡ Some h.2.0 → M.doomed x ≡ true
      go zero a = let same : x ≡ h.2.0 = cc in rw same (W.late_doomed h.2.0 h.2.2)
      go (suc n) a =
          let f = onward_some (M.forced x) (λ e. onward (M.gives e x) (forced_on M n)) h.2.0 a in
          forced_doomed W x f.0 f.1
