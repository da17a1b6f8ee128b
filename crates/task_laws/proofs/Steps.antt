-- A tick by its steps is the tick job by job, where the state fits and the picked task is ready.
use Rattle.std.proofs.Common.{◌≡◌, ℕ, zero, suc, ◌+◌, ◌-◌, ◌≤◌, Bool, true, false, cond, not, ◌&&◌, ◌||◌, eqb, List, [], ◌∷◌, map, get_or, set, Some, None, Option, sym, refl, ap, ◌∙◌, subst, arith}
use Rattle.std.specs.List.{slice_get}
use Rattle.std.proofs.lemmas.Bool.Decides.{nat_tests}
use Rattle.std.proofs.lemmas.Option.{slice_get-get_or}
use Rattle.std.proofs.lemmas.List.{set-set, get_or-map}
use Rattle.std.proofs.lemmas.Bool.{false≢true}
use Rattle.task_table.specs.declared.mode.Mode.{Mode}
use Rattle.task_table.specs.declared.mode.Mode.TheVariants.{Low, High}
use Rattle.task_table.specs.declared.task.Task.{Task}
use Rattle.task_table.specs.Tasks.{Right}
use Rattle.jobs.specs.declared.kind.Kind.{Kind}
use Rattle.jobs.specs.declared.job.Job.{Job}
use Rattle.jobs.specs.declared.job.Job.TheVariants.{Absent, Idle, Ready, Dropped}
use Rattle.job_state.specs.declared.state.State.{State}
use Rattle.jobs.specs.Tasks.{is_high, gain}
use Rattle.job_state.specs.Lists.{all_absent, over, job_numbered}
use Rattle.job_state.specs.States.{fits}
use Rattle.jobs.specs.Moves.{waited, run, used_up, last_budget}
use Rattle.job_state.specs.Ticks.{raised_job, waits_fallen, with_job, settled, served, ticked}
use Rattle.job_state.proofs.Sames.{same_state}
use Rattle.job_state.proofs.Numbers.{numbered_at, job_at}
use Rattle.job_state.proofs.Serves.{no_task}
use Rattle.policies.specs.Picks.{PicksReady}
use Rattle.policies.specs.Chosen.{nth_within, ready_nth}
use Rattle.task_laws.specs.Claims.{Table}
use Rattle.task_laws.proofs.Jobwise.{overruns, ticked_job, serving, jobwise}
use Rattle.task_laws.proofs.Boths.{Rel, Both, both_at}
use Rattle.task_laws.proofs.Perjob.{Fit, ready}
use Rattle.task_laws.proofs.Follows.{Alike, fitted}

tail_map : (f : Job → Job) (xs : List Job) → f Absent ≡ Absent → all_absent xs ≡ true → map f xs ≡ xs
tail_map f [] e h = refl
tail_map f (Absent ∷ xs) e h = let t = tail_map f xs e h in cc
tail_map f (Idle w ∷ xs) e h = absurd (false≢true h)
tail_map f (Ready w l ∷ xs) e h = absurd (false≢true h)
tail_map f (Dropped ∷ xs) e h = absurd (false≢true h)

map_over : (P : Rel) (f : Job → Job) (g : Task → Job → Job) (rs : List Task) (xs ys : List Job) → ((r : Task) (x : Job) → f x ≡ g r x) → f Absent ≡ Absent → Both P rs xs ys → map f xs ≡ over g rs xs
map_over P f g [] xs ys m e h = tail_map f xs e h.1
map_over P f g (r ∷ rs) [] ys m e h = absurd h
map_over P f g (r ∷ rs) (x ∷ xs) [] m e h = absurd h
map_over P f g (r ∷ rs) (x ∷ xs) (y ∷ ys) m e h = let a = m r x in let t = map_over P f g rs xs ys m e h.1 in cc

over_over : (h f g : Task → Job → Job) (rs : List Task) (xs : List Job) → ((r : Task) (x : Job) → h r (f r x) ≡ g r x) → over h rs (over f rs xs) ≡ over g rs xs
over_over h f g [] xs m = refl
over_over h f g (r ∷ rs) [] m = refl
over_over h f g (r ∷ rs) (x ∷ xs) m = let a = m r x in let t = over_over h f g rs xs m in cc

over_set : (f : Task → Job → Job) (rs : List Task) (xs : List Job) (i : ℕ) (r : Task) (y : Job) → slice_get rs i ≡ Some r → over f rs (set xs i y) ≡ set (over f rs xs) i (f r y)
over_set f [] xs i r y e = let z : ◌≡◌ {A = ℕ} 0 1 = cc in absurd (omega arith)
over_set f (r₁ ∷ rs) [] i r y e = refl
over_set f (r₁ ∷ rs) (x ∷ xs) zero r y e = let q : r₁ ≡ r = cc in cc
over_set f (r₁ ∷ rs) (x ∷ xs) (suc i) r y e = ap (λ (l : List Job). f r₁ x ∷ l) (over_set f rs xs i r y e)

falls : (fin : Bool) (r : Task) (x : Job) → waited x ≡ ticked_job fin false false r x
falls fin r Absent = refl
falls fin r (Idle w) = refl
falls fin r (Ready w l) = refl
falls fin r Dropped = refl

rising : (r : Task) (x : Job) → raised_job r (ticked_job false false false r x) ≡ ticked_job false true false r x
rising r Absent = refl
rising r (Idle w) = go (is_high r)
  where
    go : (t : Bool) → cond t (Idle (w - 1)) Dropped ≡ cond (not t) Dropped (Idle (w - 1))
    go true = refl
    go false = refl
rising r (Ready w l) = let z : l ≡ l - 0 = omega arith in ap (λ (n : ℕ). cond (is_high r) (Ready (w - 1) (n + gain r)) Dropped) z
rising r Dropped = refl

-- v has the waits fallen; the task of the number n is r, and its job was ready
module _ (tasks : List Task) (s : State) (n : ℕ) (r : Task) (w l : ℕ) (R : Right r) (some : 1 ≤ l) (at : slice_get tasks (n - 1) ≡ Some r) (v : State) where
  abbrev done : Job
  done = Ready (w - 1) (l - 1)

  abbrev Same : Bool → Mode → Type 0
  Same fin m = v.mode ≡ m → s.mode ≡ m → v.jobs ≡ over (ticked_job fin false false) tasks s.jobs → settled tasks fin r done n (with_job v n done) ≡ serving tasks fin (n - 1) (Some r) (Some (Ready w l)) s

  -- the job ends
  ends : (fin : Bool) → v.mode ≡ s.mode → (fin || (used_up done && last_budget v.mode r)) ≡ true → (not fin && overruns s.mode r (Ready w l)) ≡ false → (fin || eqb l 1) ≡ true → v.jobs ≡ over (ticked_job fin false false) tasks s.jobs → settled tasks fin r done n (with_job v n done) ≡ serving tasks fin (n - 1) (Some r) (Some (Ready w l)) s
  ends fin m a b c e = rw a (same_state _ _ (rw b m) (rw (b, c) (set-set v.jobs (n - 1) _ _ ∙ ap (λ (k : List Job). set k (n - 1) (Idle (w - 1))) e)))

  -- the job goes on
  stays : (fin : Bool) → v.mode ≡ s.mode → (fin || (used_up done && last_budget v.mode r)) ≡ false → used_up done ≡ false → (not fin && overruns s.mode r (Ready w l)) ≡ false → (fin || eqb l 1) ≡ false → v.jobs ≡ over (ticked_job fin false false) tasks s.jobs → settled tasks fin r done n (with_job v n done) ≡ serving tasks fin (n - 1) (Some r) (Some (Ready w l)) s
  stays fin m a u b c e = rw (a, u) (same_state _ _ (rw b m) (rw (b, c) (ap (λ (k : List Job). set k (n - 1) done) e)))

  -- the mode becomes high
  rises : v.mode ≡ s.mode → (used_up done && last_budget v.mode r) ≡ false → used_up done ≡ true → overruns s.mode r (Ready w l) ≡ true → v.jobs ≡ over (ticked_job false false false) tasks s.jobs → settled tasks false r done n (with_job v n done) ≡ serving tasks false (n - 1) (Some r) (Some (Ready w l)) s
  rises m a u b e = rw (a, u) (same_state _ _ (rw b) (rw b (over_set raised_job tasks v.jobs (n - 1) r _ at ∙ ap (λ (k : List Job). set k (n - 1) (raised_job r done)) (ap (over raised_job tasks) e ∙ over_over raised_job (ticked_job false false false) (ticked_job false true false) tasks s.jobs rising))))

  settled_by : (fin : Bool) (m : Mode) → v.mode ≡ m → s.mode ≡ m → v.jobs ≡ over (ticked_job fin false false) tasks s.jobs → settled tasks fin r done n (with_job v n done) ≡ serving tasks fin (n - 1) (Some r) (Some (Ready w l)) s
  settled_by true m a b e = ends true (a ∙ sym b) refl refl refl e
  settled_by false High a b e = high (eqb l 1) refl
    where
      high : (t : Bool) → eqb l 1 ≡ t → settled tasks false r done n (with_job v n done) ≡ serving tasks false (n - 1) (Some r) (Some (Ready w l)) s
      high true t = ends false (a ∙ sym b) (rw a (grind (arith, nat_tests))) (rw b) t e
      high false t = stays false (a ∙ sym b) (rw a (grind (arith, nat_tests))) (grind (arith, nat_tests)) (rw b) t e
  settled_by false Low a b e = low (eqb l 1) (eqb r.budget_low r.budget_high) refl refl
    where
      low : (t u : Bool) → eqb l 1 ≡ t → eqb r.budget_low r.budget_high ≡ u → settled tasks false r done n (with_job v n done) ≡ serving tasks false (n - 1) (Some r) (Some (Ready w l)) s
      low true true t u = ends false (a ∙ sym b) (rw a (grind (arith, nat_tests))) (rw b (grind (arith, nat_tests))) t e
      low true false t u = let g = R.budgets in rises (a ∙ sym b) (rw a (grind (arith, nat_tests))) (grind (arith, nat_tests)) (rw b (grind (arith, nat_tests))) e
      low false u t h = stays false (a ∙ sym b) (rw a (grind (arith, nat_tests))) (grind (arith, nat_tests)) (rw b (grind (arith, nat_tests))) t e

left_some : {k : Kind} {m : Mode} {r : Task} {w l : ℕ} → Fit k m r (Ready w l) → 1 ≤ l
left_some (ready a b c d) = b

pub steps_tick : (kind : Kind) (tasks : List Task) → Table tasks → (fin : Bool) (o : Option ℕ) (s : State) → fits kind tasks s ≡ true → PicksReady tasks s.jobs o → ticked tasks fin o s ≡ jobwise tasks fin o s
unfolding ticked jobwise
steps_tick kind tasks T fin None s f q =
    let b = (fitted kind tasks T s f).both in
    same_state _ _ refl (map_over (Alike kind tasks s.mode) waited (ticked_job fin false false) tasks s.jobs s.jobs (falls fin) refl b)
steps_tick kind tasks T fin (Some n) s f q =
    let b = (fitted kind tasks T s f).both in
    let r = get_or tasks (n - 1) no_task in
    let at : slice_get tasks (n - 1) ≡ Some r = slice_get-get_or tasks (n - 1) no_task (let h = q.from_1 in let k = q.row in omega arith) in
    let x : get_or s.jobs (n - 1) Absent ≡ Ready q.wait q.left = sym (job_at s.jobs n q.from_1) ∙ q.ready in
    let here : slice_get s.jobs (n - 1) ≡ Some (Ready q.wait q.left) = ready_nth s.jobs (n - 1) q.wait q.left x in
    let two = both_at (Alike kind tasks s.mode) tasks s.jobs s.jobs (n - 1) r at b in
    let mine : two.mine ≡ Ready q.wait q.left = let u = two.at in cc in
    let fallen : job_numbered (waits_fallen s).jobs n ≡ Ready (q.wait - 1) q.left = job_at (map waited s.jobs) n q.from_1 ∙ (get_or-map waited s.jobs (n - 1) Absent Absent (nth_within s.jobs (n - 1) _ here) ∙ ap waited x) in
    let e = map_over (Alike kind tasks s.mode) waited (ticked_job fin false false) tasks s.jobs s.jobs (falls fin) refl b in
    ap (λ (o : Option Task). served tasks fin o n (waits_fallen s)) (numbered_at tasks n no_task q.from_1 q.row)
    ∙ (ap (λ (y : Job). settled tasks fin r (run y) n (with_job (waits_fallen s) n (run y))) fallen
    ∙ (settled_by tasks s n r q.wait q.left two.has.0 (left_some (subst (Fit kind s.mode r) mine two.has.1)) at (waits_fallen s) fin s.mode refl refl e
    ∙ sym (ap (λ (o : Option Task). serving tasks fin (n - 1) o (slice_get s.jobs (n - 1)) s) at ∙ ap (λ (o : Option Job). serving tasks fin (n - 1) (Some r) o s) here)))
