-- The best has the least figure, and the lowest number among equals.
use Rattle.std.specs.Prelude.{◌≡◌, ℕ, zero, suc, ◌+◌, ◌<◌, true, false, ◌⊎◌, List, [], ◌∷◌, ℤ, ◌≤ℤ◌, ◌<ℤ◌, Some, None, Option, int_le, refl}
use Rattle.std.proofs.Common.{sym, ap, subst, ◌∙◌, inl, inr, arith}
use Rattle.std.specs.List.{slice_get}
use Rattle.std.proofs.lemmas.Int.{ints}
use Rattle.std.proofs.lemmas.Bool.{cond_both}
use Rattle.task_table.specs.declared.task.Task.{Task}
use Rattle.jobs.specs.declared.job.Job.{Job}
use Rattle.jobs.specs.declared.job.Job.TheVariants.{Absent, Idle, Ready, Dropped}
use Rattle.policies.specs.declared.best.Best.{Best}
use Rattle.policies.specs.Leasts.{Figured, figure_of, better, offered, best}

less_equal : (a b : ℤ) → int_le a b ≡ true → a ≤ℤ b
less_equal a b h = grind (arith, ints)

greater : (a b : ℤ) → int_le a b ≡ false → b <ℤ a
greater a b h = grind (arith, ints)

through : (a b c : ℤ) → a ≤ℤ b → b ≤ℤ c → a ≤ℤ c
through a b c h k = omega (arith, ints)

weaker : (a b : ℤ) → a <ℤ b → a ≤ℤ b
weaker a b h = omega (arith, ints)

itself : (a b : ℤ) → a ≡ b → a ≤ℤ b
itself a b h = omega (arith, ints)

strictly : (a b c : ℤ) → a <ℤ b → b ≡ c → a <ℤ c
strictly a b c h e = subst (λ (z : ℤ). a <ℤ z) e h

-- after k tasks, the task of the number n is ready and has the figure z
pub record At (f : Figured) (k : ℕ) (ts : List Task) (xs : List Job) (n : ℕ) (z : ℤ) : Type 0 where
  pub index : ℕ
  pub counts : n ≡ (k + index) + 1
  pub task : Task
  pub wait : ℕ
  pub left : ℕ
  pub row : slice_get ts index ≡ Some task
  pub job : slice_get xs index ≡ Some (Ready wait left)
  pub is : f n task wait left ≡ Some z

module _ (f : Figured) where
  nowhere : {Y : Type 0} (k : ℕ) (ts : List Task) (xs : List Job) (n : ℕ) (z : ℤ) → (ts ≡ []) ⊎ (xs ≡ []) → At f k ts xs n z → Y
  nowhere k ts xs n z (inl e) a = let h : slice_get [] a.index ≡ Some a.task = subst (λ (l : List Task). slice_get l a.index ≡ Some a.task) e a.row in let u : ◌≡◌ {A = ℕ} 0 1 = cc in absurd (omega arith)
  nowhere k ts xs n z (inr e) a = let h : slice_get [] a.index ≡ Some (Ready a.wait a.left) = subst (λ (l : List Job). slice_get l a.index ≡ Some (Ready a.wait a.left)) e a.job in let u : ◌≡◌ {A = ℕ} 0 1 = cc in absurd (omega arith)

  module _ (k : ℕ) (t : Task) (ts : List Task) (x : Job) (xs : List Job) where
    later : (n : ℕ) (z : ℤ) → At f (k + 1) ts xs n z → At f k (t ∷ ts) (x ∷ xs) n z
    later n z a = record { index = suc a.index; counts = a.counts ∙ omega arith; task = a.task; wait = a.wait; left = a.left; row = a.row; job = a.job; is = a.is }

    -- the first task, or one of the others
    split_at : (n : ℕ) (z : ℤ) (p : ℕ) → n ≡ (k + p) + 1 → (u : Task) (w l : ℕ) → slice_get (t ∷ ts) p ≡ Some u → slice_get (x ∷ xs) p ≡ Some (Ready w l) → f n u w l ≡ Some z → ((n ≡ k + 1) × (figure_of f (k + 1) t x ≡ Some z)) ⊎ At f (k + 1) ts xs n z
    split_at n z zero c u w l a b e =
        let m : n ≡ k + 1 = c ∙ omega arith in
        let p : t ≡ u = cc in
        let q : x ≡ Ready w l = cc in
        inl (m, ap (λ (v : Job). figure_of f (k + 1) t v) q ∙ (ap (λ (v : Task). f (k + 1) v w l) p ∙ (ap (λ (v : ℕ). f v u w l) (sym m) ∙ e)))
    split_at n z (suc p) c u w l a b e = inr (record { index = p; counts = c ∙ omega arith; task = u; wait = w; left = l; row = a; job = b; is = e })

    split : (n : ℕ) (z : ℤ) → At f k (t ∷ ts) (x ∷ xs) n z → ((n ≡ k + 1) × (figure_of f (k + 1) t x ≡ Some z)) ⊎ At f (k + 1) ts xs n z
    split n z a = split_at n z a.index a.counts a.task a.wait a.left a.row a.job a.is

    here_at : (y : Job) (z : ℤ) → x ≡ y → figure_of f (k + 1) t y ≡ Some z → At f k (t ∷ ts) (x ∷ xs) (k + 1) z
    here_at Absent z e h = let u : ◌≡◌ {A = ℕ} 0 1 = cc in absurd (omega arith)
    here_at (Idle w) z e h = let u : ◌≡◌ {A = ℕ} 0 1 = cc in absurd (omega arith)
    here_at (Ready w l) z e h = record { index = zero; counts = omega arith; task = t; wait = w; left = l; row = refl; job = ap Some e; is = h }
    here_at Dropped z e h = let u : ◌≡◌ {A = ℕ} 0 1 = cc in absurd (omega arith)

    here : (z : ℤ) → figure_of f (k + 1) t x ≡ Some z → At f k (t ∷ ts) (x ∷ xs) (k + 1) z
    here z h = here_at x z refl h

  past : (k : ℕ) (ts : List Task) (xs : List Job) (n : ℕ) (z : ℤ) → At f k ts xs n z → k < n
  past k ts xs n z a = let c = a.counts in omega arith

  pub record Lead (k : ℕ) (ts : List Task) (xs : List Job) (b : Best) : Type 0 where
    pub own : At f k ts xs b.number b.figure
    pub low : (n : ℕ) (z : ℤ) → At f k ts xs n z → b.figure ≤ℤ z
    pub first : (n : ℕ) (z : ℤ) → n < b.number → At f k ts xs n z → b.figure <ℤ z

  pub data Led (k : ℕ) (ts : List Task) (xs : List Job) : Option Best → Type 0 where
    nobody : ((n : ℕ) (z : ℤ) → At f k ts xs n z → ⊥) → Led k ts xs None
    lead : {b : Best} → Lead k ts xs b → Led k ts xs (Some b)

  module _ (k : ℕ) (t : Task) (ts : List Task) (x : Job) (xs : List Job) where
    abbrev Here : ℤ → Type 0
    Here z = figure_of f (k + 1) t x ≡ Some z

    same : (y z : ℤ) → Here y → Here z → y ≡ z
    same y z p q = cc

    unfigured : figure_of f (k + 1) t x ≡ None → (z : ℤ) → Here z → ⊥
    unfigured p z q = let u : ◌≡◌ {A = ℕ} 0 1 = cc in omega arith

    led_past : {o : Option Best} → figure_of f (k + 1) t x ≡ None → Led (k + 1) ts xs o → Led k (t ∷ ts) (x ∷ xs) o
    led_past e (nobody h) = nobody (λ n z a. elim (split k t ts x xs n z a) [ inl p ↦ unfigured e z p.1 | inr p ↦ h n z p ])
    led_past e (lead {b} w) = lead (record {
      own = later k t ts x xs b.number b.figure w.own;
      low = λ n z a. elim (split k t ts x xs n z a) [ inl p ↦ absurd (unfigured e z p.1) | inr p ↦ w.low n z p ];
      first = λ n z l a. elim (split k t ts x xs n z a) [ inl p ↦ absurd (unfigured e z p.1) | inr p ↦ w.first n z l p ];
    })

    led_here : (y : ℤ) {o : Option Best} → Here y → Led (k + 1) ts xs o → Led k (t ∷ ts) (x ∷ xs) (better (record { number = k + 1; figure = y }) o)
    led_here y e (nobody h) = lead (record {
      own = here k t ts x xs y e;
      low = λ n z a. elim (split k t ts x xs n z a) [ inl p ↦ itself y z (same y z e p.1) | inr p ↦ absurd (h n z p) ];
      first = λ n z l a. let g = past k (t ∷ ts) (x ∷ xs) n z a in absurd (omega arith);
    })
    led_here y e (lead {b} w) = cond_both (int_le y b.figure) _ _ (Led k (t ∷ ts) (x ∷ xs))
        (λ h. lead (record {
          own = here k t ts x xs y e;
          low = λ n z a. elim (split k t ts x xs n z a) [ inl p ↦ itself y z (same y z e p.1) | inr p ↦ through y b.figure z (less_equal y b.figure h) (w.low n z p) ];
          first = λ n z l a. let g = past k (t ∷ ts) (x ∷ xs) n z a in absurd (omega arith);
        }))
        (λ h. lead (record {
          own = later k t ts x xs b.number b.figure w.own;
          low = λ n z a. elim (split k t ts x xs n z a) [ inl p ↦ weaker b.figure z (strictly b.figure y z (greater y b.figure h) (same y z e p.1)) | inr p ↦ w.low n z p ];
          first = λ n z l a. elim (split k t ts x xs n z a) [ inl p ↦ strictly b.figure y z (greater y b.figure h) (same y z e p.1) | inr p ↦ w.first n z l p ];
        }))

    led_offered : (z : Option ℤ) {o : Option Best} → figure_of f (k + 1) t x ≡ z → Led (k + 1) ts xs o → Led k (t ∷ ts) (x ∷ xs) (offered (k + 1) z o)
    led_offered None e h = led_past e h
    led_offered (Some y) e h = led_here y e h

  pub best_led : (k : ℕ) (ts : List Task) (xs : List Job) → Led k ts xs (best f k ts xs)
  best_led k [] xs = nobody (λ n z a. nowhere k [] xs n z (inl refl) a)
  best_led k (t ∷ ts) [] = nobody (λ n z a. nowhere k (t ∷ ts) [] n z (inr refl) a)
  best_led k (t ∷ ts) (x ∷ xs) = led_offered k t ts x xs (figure_of f (k + 1) t x) refl (best_led (k + 1) ts xs)
