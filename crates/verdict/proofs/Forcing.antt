-- Forced events bring a doomed state nearer to a late one, until it is late.
use Rattle.std.proofs.Common.{◌≡◌, ℕ, ◌<◌, ◌≤◌, true, false, cond, ◌⊎◌, List, [], ◌∷◌, ◌++◌, Ok, Err, sym, refl, ap, ◌∙◌, subst, ⊎_elim, arith}
use Rattle.std.proofs.lemmas.Bool.{cases_Bool, both_ways}
use Rattle.transition.specs.declared.refusal.Refusal.{Refusal}
use Rattle.transition.specs.Meanings.{Meaning}
use Rattle.transition.specs.Laws.{Laws}
use Rattle.transition.specs.Runs.{after}
use Rattle.verdict.specs.Failures.{Forces}

module _ {X R : Type 0} (M : Meaning X R) where
  -- at most how many forced events are left before the state is late
  abbrev pub left : X → ℕ
  left x = cond (M.late x) 0 (M.events_to_miss x)

  pub left_few : Laws M → (x : X) → M.doomed x ≡ true → left x ≤ 1151
  left_few W x d =
      ⊎_elim
      (λ (late : M.late x ≡ true). rw late (omega arith))
      (λ (early : M.late x ≡ false). rw early (W.miss_near x d early).1)
      (cases_Bool (M.late x))

  -- what a forced event leads to
  pub record Nearer (x : X) (e : ℕ) (y : X) : Type 0 where
    pub given : M.gives e x ≡ Ok y
    pub doomed : M.doomed y ≡ true
    pub fewer : left y < left x

  early_left : Laws M → (x : X) → M.doomed x ≡ true → M.late x ≡ false → (left x ≡ M.events_to_miss x) × (1 ≤ left x)
  early_left W x d early = let e : left x ≡ M.events_to_miss x = rw early in (e, omega (arith, e, (W.miss_near x d early).0))

  left_below : (y : X) (n : ℕ) → 1 ≤ n → (M.late y ≡ true) ⊎ ((M.doomed y ≡ true) × (M.events_to_miss y < n)) → left y < n
  left_below y n some ends =
      ⊎_elim
      (λ (late : M.late y ≡ true). rw late some)
      (λ (early : M.late y ≡ false). rw early (⊎_elim (λ (late : M.late y ≡ true). absurd (both_ways (M.late y) early late)) (λ h. h.1) ends))
      (cases_Bool (M.late y))

  pub nearer : Laws M → (x : X) (e : ℕ) → M.doomed x ≡ true → M.forced x ≡ Ok e → (y : X) × Nearer x e y
  nearer W x e d f =
      ⊎_elim
      (λ (late : M.late x ≡ true). let none = W.forced_late x late in let z : ◌≡◌ {A = ℕ} 0 1 = cc in absurd (omega arith))
      (λ (early : M.late x ≡ false).
      let o = W.forced_nears x d early in
      let same : o.0 ≡ e = let is = o.1 in cc in
      let most = early_left W x d early in (
        o.2.0,
        record {
          given = rw (← same) o.2.1;
          doomed = ⊎_elim (W.late_doomed o.2.0) (λ h. h.0) o.2.2;
          fewer = rw most.0 (left_below o.2.0 (M.events_to_miss x) (omega arith) o.2.2);
        },
      ))
      (cases_Bool (M.late x))

  -- the same of the state that a call leaves
  pub call_nearer : Laws M → (x : X) (e : ℕ) (y : X) → M.doomed x ≡ true → M.forced x ≡ Ok e → y ≡ after (M.gives e x) x → Nearer x e y
  call_nearer W x e y d f a =
      let n = nearer W x e d f in
      let same : y ≡ n.0 = a ∙ ap (λ o. after o x) n.1.given in
      subst (Nearer x e) (sym same) n.1

  pub late_at_last : Laws M → (x : X) (r : Refusal R) → M.doomed x ≡ true → M.forced x ≡ Err r → M.late x ≡ true
  late_at_last W x r d f =
      ⊎_elim
      (λ (late : M.late x ≡ true). late)
      (λ (early : M.late x ≡ false). let is = (W.forced_nears x d early).1 in let z : ◌≡◌ {A = ℕ} 0 1 = cc in absurd (omega arith))
      (cases_Bool (M.late x))

  pub forces_push : (es : List ℕ) (e : ℕ) (x y z : X) → Forces M x es y → M.forced y ≡ Ok e → M.gives e y ≡ Ok z → Forces M x (es ++ e ∷ []) z
  forces_push [] e x y z same f g = (rw same f, (z, rw same g, refl))
  forces_push (e' ∷ es) e x y z h f g = (h.0, (h.1.0, h.1.1, forces_push es e h.1.0 y z h.1.2 f g))
