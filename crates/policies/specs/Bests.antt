-- The loop that finds the best, and that it looks at ready jobs alone.
use Rattle.std.specs.Prelude.{◌≡◌, ℕ, ◌+◌, ◌-◌, ◌<◌, ◌≤◌, ◌⊎◌, List, [], ◌∷◌, map, length, drop, ℤ, Some, None, Option, slice_index_or, int_le, refl}
use Rattle.std.specs.Option.{option_map, unwrap_or}
use Rattle.std.proofs.Common.{sym, ap, subst, ◌∙◌, inl, inr, arith}
use Rattle.std.proofs.lemmas.List.{drop_more, drop_all}
use Rattle.std.proofs.lemmas.Int.{ints}
use Rattle.std.proofs.lemmas.Bool.{cond_both}
use Rattle.task_table.specs.declared.task.Task.{Task}
use Rattle.jobs.specs.declared.job.Job.{Job}
use Rattle.jobs.specs.declared.job.Job.TheVariants.{Absent, Idle, Ready, Dropped}
use Rattle.policies.specs.declared.best.Best.{Best}
use Rattle.policies.specs.Picks.{seen}
use Rattle.policies.specs.Leasts.{Figured, figure_of, better, first_less, offered, best, number_of, least}

-- where no task or no job is left, nobody is the best
pub best_end : (f : Figured) (k : ℕ) (ts : List Task) (xs : List Job) → (length ts ≡ 0) ⊎ (length xs ≡ 0) → best f k ts xs ≡ None
best_end f k [] xs h = refl
best_end f k (t ∷ ts) [] h = refl
best_end f k (t ∷ ts) (x ∷ xs) (inl h) = absurd (omega arith)
best_end f k (t ∷ ts) (x ∷ xs) (inr h) = absurd (omega arith)

-- the same from the last task down
best_none : (f : Figured) (k : ℕ) (ts : List Task) → best f k ts [] ≡ None
best_none f k [] = refl
best_none f k (t ∷ ts) = refl

pub best_start : (f : Figured) (ts : List Task) (xs : List Job) (n : ℕ) → (length ts ≤ n) ⊎ (length xs ≤ n) → None ≡ best f n (drop n ts) (drop n xs)
best_start f ts xs n (inl h) = rw (drop_all n ts h)
best_start f ts xs n (inr h) = rw (drop_all n xs h) (sym (best_none f n (drop n ts)))

best_more : (f : Figured) (ts : List Task) (xs : List Job) (j : ℕ) (d : Task) (e : Job) → j < length ts → j < length xs → best f j (drop j ts) (drop j xs) ≡ offered (j + 1) (figure_of f (j + 1) (slice_index_or ts j d) (slice_index_or xs j e)) (best f (j + 1) (drop (j + 1) ts) (drop (j + 1) xs))
best_more f ts xs j d e h k = rw (drop_more ts j d h, drop_more xs j e k)

pub best_down : (f : Figured) (ts : List Task) (xs : List Job) (i : ℕ) (d : Task) (e : Job) (o o' : Option Best) (z : Option ℤ) → 0 < i → i ≤ length ts → i ≤ length xs → o ≡ best f i (drop i ts) (drop i xs) → z ≡ figure_of f ((i - 1) + 1) (slice_index_or ts (i - 1) d) (slice_index_or xs (i - 1) e) → o' ≡ offered ((i - 1) + 1) z o → o' ≡ best f (i - 1) (drop (i - 1) ts) (drop (i - 1) xs)
best_down f ts xs i d e o o' z some h k q a b =
    let j : i ≡ (i - 1) + 1 = omega arith in
    let rest : o ≡ best f ((i - 1) + 1) (drop ((i - 1) + 1) ts) (drop ((i - 1) + 1) xs) = subst (λ (n : ℕ). o ≡ best f n (drop n ts) (drop n xs)) j q in
    b ∙ (ap (λ (y : Option ℤ). offered ((i - 1) + 1) y o) a ∙ (ap (offered ((i - 1) + 1) (figure_of f ((i - 1) + 1) (slice_index_or ts (i - 1) d) (slice_index_or xs (i - 1) e))) rest ∙ sym (best_more f ts xs (i - 1) d e (omega arith) (omega arith))))

-- the best so far, unless one of those after it has less
abbrev pub earlier : Option Best → Option Best → Option Best
earlier None o = o
earlier (Some b) o = better b o

pub earlier_end : (o : Option Best) → earlier o None ≡ o
earlier_end None = refl
earlier_end (Some b) = refl

better_through : (b c : Best) (o : Option Best) → better b (better c o) ≡ better (first_less b c) o
better_through b c None = cond_both (int_le b.figure c.figure) _ _ (λ (d : Best). better b (Some c) ≡ better d None) (λ h. rw h) (λ h. rw h)
better_through b c (Some d) = grind (arith, ints)

-- one more is offered
pub earlier_more : (o : Option Best) (c : Best) (rest : Option Best) → earlier o (better c rest) ≡ earlier (Some (unwrap_or (option_map (λ b. first_less b c) o) c)) rest
earlier_more None c rest = refl
earlier_more (Some b) c rest = better_through b c rest

figure_seen : (f : Figured) (n : ℕ) (t : Task) (x : Job) → figure_of f n t x ≡ figure_of f n t (seen x)
figure_seen f n t Absent = refl
figure_seen f n t (Idle w) = refl
figure_seen f n t (Ready w l) = refl
figure_seen f n t Dropped = refl

best_blind : (f : Figured) (k : ℕ) (ts : List Task) (xs ys : List Job) → map seen xs ≡ map seen ys → best f k ts xs ≡ best f k ts ys
best_blind f k [] xs ys h = refl
best_blind f k (t ∷ ts) [] [] h = refl
best_blind f k (t ∷ ts) [] (y ∷ ys) h = let z : ◌≡◌ {A = ℕ} 0 1 = cc in absurd (omega arith)
best_blind f k (t ∷ ts) (x ∷ xs) [] h = let z : ◌≡◌ {A = ℕ} 0 1 = cc in absurd (omega arith)
best_blind f k (t ∷ ts) (x ∷ xs) (y ∷ ys) h =
    let e : seen x ≡ seen y = cc in
    let rest : map seen xs ≡ map seen ys = cc in
    let a : figure_of f (k + 1) t x ≡ figure_of f (k + 1) t y = figure_seen f (k + 1) t x ∙ (ap (figure_of f (k + 1) t) e ∙ sym (figure_seen f (k + 1) t y)) in
    let b = best_blind f (k + 1) ts xs ys rest in
    ap (λ (z : Option ℤ). offered (k + 1) z (best f (k + 1) ts xs)) a ∙ ap (offered (k + 1) (figure_of f (k + 1) t y)) b

pub least_blind : (f : Figured) (ts : List Task) (xs ys : List Job) → map seen xs ≡ map seen ys → least f ts xs ≡ least f ts ys
least_blind f ts xs ys h = ap number_of (best_blind f 0 ts xs ys h)
