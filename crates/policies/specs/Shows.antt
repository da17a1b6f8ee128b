-- What the layers show keeps the laws.
use Rattle.std.specs.Prelude.{◌≡◌, ℕ, zero, suc, ◌+◌, ◌-◌, ◌<◌, ◌≤◌, min, Bool, true, false, cond, ◌⊎◌, List, [], ◌∷◌, ◌++◌, map, length, get_or, take, drop, Some, None, Option, slice_index, slice_index_or, slice_set, refl}
use Rattle.std.proofs.Common.{sym, ◌∙◌, inl, inr, append_assoc, arith}
use Rattle.std.proofs.Math.Path.{ap}
use Rattle.std.proofs.lemmas.List.{drop_more, drop_all, take_more_set, append-nil}
use Rattle.std.proofs.lemmas.Bool.{lt-ltb}
use Rattle.task_table.specs.declared.mode.Mode.{Mode}
use Rattle.task_table.specs.declared.mode.Mode.TheVariants.{Low, High}
use Rattle.task_table.specs.declared.task.Task.{Task}
use Rattle.jobs.specs.declared.job.Job.{Job}
use Rattle.jobs.specs.declared.job.Job.TheVariants.{Absent, Idle, Ready, Dropped}
use Rattle.jobs.specs.Tasks.{is_high}
use Rattle.job_state.specs.Lists.{any, over}
use Rattle.policies.specs.Picks.{seen, PicksReady}
use Rattle.policies.specs.Layers.{high_ready, hidden, high_first, short, shorts, shortened}

-- what the layer shows as ready is ready
hidden_ready : (t : Task) (x : Job) (w l : ℕ) → hidden t x ≡ Ready w l → x ≡ Ready w l
hidden_ready t Absent w l e = e
hidden_ready t (Idle v) w l e = e
hidden_ready t (Ready v m) w l e = go (is_high t) e
  where
    go : (b : Bool) → cond b (Ready v m) (Idle 0) ≡ Ready w l → Ready v m ≡ Ready w l
    go true e = e
    go false e = let z : ◌≡◌ {A = ℕ} 0 1 = cc in absurd (omega arith)
hidden_ready t Dropped w l e = e

over_ready : (ts : List Task) (xs : List Job) (i w l : ℕ) → slice_index_or (over hidden ts xs) i Absent ≡ Ready w l → slice_index_or xs i Absent ≡ Ready w l
over_ready [] xs i w l e = e
over_ready (t ∷ ts) [] i w l e = e
over_ready (t ∷ ts) (x ∷ xs) zero w l e = hidden_ready t x w l e
over_ready (t ∷ ts) (x ∷ xs) (suc i) w l e = over_ready ts xs i w l e

cond_ready : (b : Bool) (ts : List Task) (xs : List Job) (i w l : ℕ) → slice_index_or (cond b (over hidden ts xs) xs) i Absent ≡ Ready w l → slice_index_or xs i Absent ≡ Ready w l
cond_ready true ts xs i w l e = over_ready ts xs i w l e
cond_ready false ts xs i w l e = e

high_first_at : (ts : List Task) (m : Mode) (xs : List Job) (i w l : ℕ) → slice_index_or (high_first ts m xs) i Absent ≡ Ready w l → slice_index_or xs i Absent ≡ Ready w l
unfolding high_first
high_first_at ts Low xs i w l e = cond_ready (any high_ready ts xs) ts xs i w l e
high_first_at ts High xs i w l e = e

pub high_first_ready : (ts : List Task) (m : Mode) (xs : List Job) (o : Option ℕ) → PicksReady ts (high_first ts m xs) o → PicksReady ts xs o
high_first_ready ts m xs None h = tt
high_first_ready ts m xs (Some n) h =
    let some : 0 < n = h.from_1 in
    let e : get_or (high_first ts m xs) (n - 1) Absent ≡ Ready h.wait h.left = rw (lt-ltb 0 n some) at h.ready in
    record { from_1 = h.from_1; row = h.row; wait = h.wait; left = h.left; ready = rw (lt-ltb 0 n some) (high_first_at ts m xs (n - 1) h.wait h.left e) }

-- the layer looks at no more than a policy may
hidden_seen : (t : Task) (x : Job) → seen (hidden t x) ≡ seen (hidden t (seen x))
hidden_seen t Absent = refl
hidden_seen t (Idle w) = refl
hidden_seen t (Ready w l) = refl
hidden_seen t Dropped = refl

high_seen : (t : Task) (x : Job) → high_ready t x ≡ high_ready t (seen x)
high_seen t Absent = refl
high_seen t (Idle w) = refl
high_seen t (Ready w l) = refl
high_seen t Dropped = refl

over_blind : (ts : List Task) (xs ys : List Job) → map seen xs ≡ map seen ys → map seen (over hidden ts xs) ≡ map seen (over hidden ts ys)
over_blind [] xs ys h = h
over_blind (t ∷ ts) [] [] h = refl
over_blind (t ∷ ts) [] (y ∷ ys) h = let z : ◌≡◌ {A = ℕ} 0 1 = cc in absurd (omega arith)
over_blind (t ∷ ts) (x ∷ xs) [] h = let z : ◌≡◌ {A = ℕ} 0 1 = cc in absurd (omega arith)
over_blind (t ∷ ts) (x ∷ xs) (y ∷ ys) h =
    let e : seen x ≡ seen y = cc in
    let rest : map seen xs ≡ map seen ys = cc in
    let s : seen (hidden t x) ≡ seen (hidden t y) = hidden_seen t x ∙ (ap (λ (v : Job). seen (hidden t v)) e ∙ sym (hidden_seen t y)) in
    let u = over_blind ts xs ys rest in
    cc

high_blind : (ts : List Task) (xs ys : List Job) → map seen xs ≡ map seen ys → any high_ready ts xs ≡ any high_ready ts ys
high_blind [] xs ys h = refl
high_blind (t ∷ ts) [] [] h = refl
high_blind (t ∷ ts) [] (y ∷ ys) h = let z : ◌≡◌ {A = ℕ} 0 1 = cc in absurd (omega arith)
high_blind (t ∷ ts) (x ∷ xs) [] h = let z : ◌≡◌ {A = ℕ} 0 1 = cc in absurd (omega arith)
high_blind (t ∷ ts) (x ∷ xs) (y ∷ ys) h =
    let e : seen x ≡ seen y = cc in
    let rest : map seen xs ≡ map seen ys = cc in
    let s : high_ready t x ≡ high_ready t y = high_seen t x ∙ (ap (high_ready t) e ∙ sym (high_seen t y)) in
    let u = high_blind ts xs ys rest in
    cc

cond_blind : (b : Bool) (ts : List Task) (xs ys : List Job) → map seen xs ≡ map seen ys → map seen (cond b (over hidden ts xs) xs) ≡ map seen (cond b (over hidden ts ys) ys)
cond_blind true ts xs ys h = over_blind ts xs ys h
cond_blind false ts xs ys h = h

pub high_first_blind : (ts : List Task) (m : Mode) (xs ys : List Job) → map seen xs ≡ map seen ys → map seen (high_first ts m xs) ≡ map seen (high_first ts m ys)
unfolding high_first
high_first_blind ts Low xs ys h = rw (high_blind ts xs ys h) (cond_blind (any high_ready ts ys) ts xs ys h)
high_first_blind ts High xs ys h = h

-- the three ways in which a state is shown
module _ (ts : List Task) (xs : List Job) where
  pub shown_in_high : (m : Mode) → m ≡ High → xs ≡ high_first ts m xs
  unfolding high_first
  shown_in_high m e = rw e

  pub shown_as_it_is : false ≡ any high_ready ts xs → xs ≡ high_first ts Low xs
  unfolding high_first
  shown_as_it_is e = ap (λ (b : Bool). cond b (over hidden ts xs) xs) e

  pub shown_hidden : true ≡ any high_ready ts xs → over hidden ts xs ≡ high_first ts Low xs
  unfolding high_first
  shown_hidden e = ap (λ (b : Bool). cond b (over hidden ts xs) xs) e

-- no more tasks are shown than there are
shorts_few : (fs : List ℕ) (ts : List Task) → length (shorts fs ts) ≤ length ts
shorts_few [] ts = omega arith
shorts_few (f ∷ fs) [] = omega arith
shorts_few (f ∷ fs) (t ∷ ts) = omega (arith, shorts_few fs ts)

shortened_few : (fs : List ℕ) (m : Mode) (ts : List Task) → length (shortened fs m ts) ≤ length ts
unfolding shortened
shortened_few fs Low ts = shorts_few fs ts
shortened_few fs High ts = omega arith

pub shortened_ready : (fs : List ℕ) (m : Mode) (ts : List Task) (xs : List Job) (o : Option ℕ) → PicksReady (shortened fs m ts) xs o → PicksReady ts xs o
shortened_ready fs m ts xs None h = tt
shortened_ready fs m ts xs (Some n) h = let few = shortened_few fs m ts in let r = h.row in record { from_1 = h.from_1; row = omega arith; wait = h.wait; left = h.left; ready = h.ready }

-- the loop that shortens
pub shorts_more : (fs : List ℕ) (ts : List Task) (ys : List Task) (i : ℕ) (d : Task) (y : Task) → i < length fs → i < length ts → i < length ys → y ≡ short (slice_index_or ts i d) (slice_index fs i) → take i ys ++ shorts (drop i fs) (drop i ts) ≡ shorts fs ts → take (i + 1) (slice_set ys i y) ++ shorts (drop (i + 1) fs) (drop (i + 1) ts) ≡ shorts fs ts
shorts_more fs ts ys i d y g h k new old =
    let p : take (i + 1) (slice_set ys i y) ≡ take i ys ++ (y ∷ []) = take_more_set ys i y k in
    let o : take i ys ++ (short (slice_index_or ts i d) (slice_index fs i) ∷ shorts (drop (i + 1) fs) (drop (i + 1) ts)) ≡ shorts fs ts = rw (drop_more ts i d h, drop_more fs i 0 g) at old in
    rw p (append_assoc (take i ys) (y ∷ []) (shorts (drop (i + 1) fs) (drop (i + 1) ts)) ∙ (ap (λ (v : Task). take i ys ++ (v ∷ shorts (drop (i + 1) fs) (drop (i + 1) ts))) new ∙ o))

shorts_none : (fs : List ℕ) → shorts fs [] ≡ []
shorts_none [] = refl
shorts_none (f ∷ fs) = refl

pub shorts_all : (fs : List ℕ) (ts ys : List Task) (i : ℕ) → (length fs ≤ i) ⊎ (length ts ≤ i) → take i ys ++ shorts (drop i fs) (drop i ts) ≡ shorts fs ts → take i ys ≡ shorts fs ts
shorts_all fs ts ys i (inl h) old = sym (append-nil (take i ys)) ∙ (rw (drop_all i fs h) at old)
shorts_all fs ts ys i (inr h) old =
    let e : shorts (drop i fs) (drop i ts) ≡ [] = rw (drop_all i ts h) (shorts_none (drop i fs)) in
    sym (append-nil (take i ys)) ∙ (rw e at old)

-- where no figure or no task is left, those that stand in front are all that are shown
pub shorts_end : (n k : ℕ) (ys : List Task) (fs gs : List ℕ) (ts us : List Task) → (length ts ≡ 0) ⊎ (length fs ≡ 0) → n + min (length ts) (length fs) ≡ k → take n ys ++ shorts fs ts ≡ shorts gs us → take k ys ≡ shorts gs us
shorts_end n k ys [] gs ts us h e old = let same : n ≡ k = omega arith in ap (λ (i : ℕ). take i ys) (sym same) ∙ (sym (append-nil (take n ys)) ∙ old)
shorts_end n k ys (f ∷ fs) gs [] us h e old = let same : n ≡ k = omega arith in ap (λ (i : ℕ). take i ys) (sym same) ∙ (sym (append-nil (take n ys)) ∙ old)
shorts_end n k ys (f ∷ fs) gs (t ∷ ts) us (inl h) e old = absurd (omega arith)
shorts_end n k ys (f ∷ fs) gs (t ∷ ts) us (inr h) e old = absurd (omega arith)
