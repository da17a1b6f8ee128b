-- A doomed state is brought to a late one.
use Rattle.std.proofs.Common.{◌≡◌, ℕ, ◌+◌, ◌-◌, ◌*◌, ◌<◌, ◌≤◌, Bool, true, false, cond, not, ◌&&◌, eqb, ◌⊎◌, List, is_some, Some, None, Ok, Option, sym, refl, ap, ◌∙◌, subst, inl, inr, arith}
use Rattle.std.specs.List.{slice_get}
use Rattle.std.proofs.lemmas.Bool.{and_parts, and_from, false≢true, eqb-true, eqb-false, cond_both, cases_eq, and_right}
use Rattle.task_table.specs.declared.task.Task.{Task}
use Rattle.task_table.specs.declared.mode.Mode.{Mode}
use Rattle.task_table.specs.declared.mode.Mode.TheVariants.{Low, High}
use Rattle.task_table.specs.Tasks.{Right}
use Rattle.jobs.specs.declared.job.Job.{Job}
use Rattle.jobs.specs.declared.job.Job.TheVariants.{Absent, Idle, Ready, Dropped}
use Rattle.jobs.specs.declared.kind.Kind.{Kind}
use Rattle.jobs.specs.declared.kind.Kind.TheVariants.{Sporadic, Periodic}
use Rattle.job_state.specs.declared.state.State.{State}
use Rattle.jobs.specs.Tasks.{budget}
use Rattle.jobs.specs.Jobs.{late_job, doomed_job, due_job}
use Rattle.job_state.specs.Lists.{any, lowest}
use Rattle.job_state.specs.States.{fits, late, doomed, due}
use Rattle.policies.specs.Picks.{Pick, PicksReady}
use Rattle.task_laws.specs.Systems.{late_in, doomed_in, picked, gives, due_count, events_to_miss, forced_by}
use Rattle.task_laws.specs.Claims.{Lawful, Table}
use Rattle.task_laws.proofs.Jobwise.{overruns, ticked_job, figure, resting, serving, jobwise, released_at}
use Rattle.task_laws.proofs.Boths.{Two, both_at}
use Rattle.task_laws.proofs.Perjob.{Fit}
use Rattle.task_laws.proofs.Nears.{Nearer, near_stay, near_rise, overrun_grows, figure_bounds}
use Rattle.task_laws.proofs.Gives.{Gave, releases, ticks, accepts}
use Rattle.task_laws.proofs.Founds.{Has, SomeJob, one_job, any_by, any_not, has_over, has_set, has_set_same, count_few, count_set, Lowest, nobody, somebody, lowest_is}
use Rattle.task_laws.proofs.Follows.{Alike, fitted}
use Rattle.task_laws.proofs.Targets.{Marked, marked, miss_is}

due_idle : (k : Kind) (x : Job) → due_job k x ≡ true → x ≡ Idle 0
due_idle Sporadic x h = absurd (false≢true h)
due_idle Periodic Absent h = absurd (false≢true h)
due_idle Periodic (Idle w) h = ap Idle (eqb-true w 0 h)
due_idle Periodic (Ready w l) h = absurd (false≢true h)
due_idle Periodic Dropped h = absurd (false≢true h)

due_ready : (k : Kind) (w l : ℕ) → due_job k (Ready w l) ≡ false
due_ready Sporadic w l = refl
due_ready Periodic w l = refl

module _ (pick : Pick) (kind : Kind) (tasks : List Task) (T : Table tasks) (L : Lawful pick) where
  abbrev dues : State → ℕ
  dues v = due_count kind tasks v.jobs

  dues_few : (v : State) → dues v ≤ 8
  dues_few v = omega (arith, count_few kind tasks v.jobs, T.few)

  any_doomed : (v : State) → fits kind tasks v ≡ true → any (doomed_job v.mode) tasks v.jobs ≡ true → doomed_in kind tasks v ≡ true
  unfolding doomed_in doomed
  any_doomed v f h = and_from _ _ f h

  due_any : (v : State) → any (λ _. due_job kind) tasks v.jobs ≡ false → due kind tasks v ≡ false
  unfolding due
  due_any v h = h

  -- a doomed state that is not late
  pub record Lost (v : State) : Type 0 where
    pub fitting : fits kind tasks v ≡ true
    pub punctual : late tasks v ≡ false
    pub mark : Marked kind tasks v

  pub lost : (v : State) → doomed_in kind tasks v ≡ true → late_in kind tasks v ≡ false → Lost v
  unfolding late_in doomed_in doomed
  lost v h l =
      let p = and_parts _ _ h in
      let f = p.0 in
      record { fitting = f; punctual = rw f at l; mark = marked kind tasks v p.1 }

  on_time : (v : State) → late tasks v ≡ false → any late_job tasks v.jobs ≡ false
  unfolding late
  on_time v h = h

  module _ (v : State) (t : Lost v) (result_fits : (c : ℕ) (w : State) → Gave pick kind tasks c v w → fits kind tasks w ≡ true) where
    abbrev row : Task
    row = t.mark.row

    abbrev job : Job
    job = t.mark.job

    abbrev i : ℕ
    i = t.mark.index

    at : Has tasks v.jobs i row job
    at = t.mark.has

    job_on_time : late_job row job ≡ false
    job_on_time = any_not late_job tasks v.jobs i row job at (on_time v t.punctual)

    two : Two (Alike kind tasks v.mode) tasks v.jobs v.jobs i row
    two = both_at (Alike kind tasks v.mode) tasks v.jobs v.jobs i row at.row (fitted kind tasks T v t.fitting).both

    job_right : Right row
    job_right = two.has.0

    job_fits : Fit kind v.mode row job
    job_fits = subst (Fit kind v.mode row) (let a = two.at in let b = at.job in cc) two.has.1

    pub soon : (1 ≤ events_to_miss kind tasks v) × (events_to_miss kind tasks v ≤ 1151)
    soon =
        let b = figure_bounds kind v.mode row job_right job_fits t.mark.lost job_on_time in
        let f = miss_is kind tasks v t.mark in
        let d = dues_few v in
        (omega arith, omega arith)

    abbrev pub Onward : State → Type 0
    Onward w = (late_in kind tasks w ≡ true) ⊎ ((doomed_in kind tasks w ≡ true) × (events_to_miss kind tasks w < events_to_miss kind tasks v))

    abbrev pub Goes : ℕ → Type 0
    Goes c = (w : State) × (gives pick kind tasks c v ≡ Ok w) × Onward w

    -- what is left to show of an accepted event
    onward_by : (c : ℕ) (w : State) (y : Job) → Gave pick kind tasks c v w → Has tasks w.jobs i row y → doomed_job w.mode row y ≡ true → 9 * figure row y + dues w < 9 * figure row job + dues v → Goes c
    onward_by c w y g h d l =
        let e = accepts pick kind tasks T L c v w (record { fitting = t.fitting; punctual = t.punctual; gave = g }) in
        let a = any_by (doomed_job w.mode) tasks w.jobs i row y h d in
        let m = marked kind tasks w a in
        let n = m.low i row y h d in
        let s = m.is in
        let p = miss_is kind tasks w m in
        let q = miss_is kind tasks v t.mark in
        (w, e, inr (any_doomed w (result_fits c w g) a, omega arith))

    unserved : (fin : Bool) (w : State) → Gave pick kind tasks (cond fin 10 9) v w → w.mode ≡ v.mode → Has tasks w.jobs i row (ticked_job fin false false row job) → Goes (cond fin 10 9)
    unserved fin w g m h =
        let k = near_stay v.mode fin false row job job_right t.mark.lost job_on_time (λ e. absurd (false≢true e)) in
        let b = k.1 in
        let d = dues_few w in
        onward_by (cond fin 10 9) w (ticked_job fin false false row job) g h (rw m k.0) (omega arith)

    nearer : (up : Bool) → overruns v.mode row job ≡ up → Nearer (cond up High v.mode) row job (ticked_job false up true row job)
    nearer false e = near_stay v.mode false true row job job_right t.mark.lost job_on_time (λ s. (refl, e))
    nearer true e =
        let m : v.mode ≡ Low = (overrun_grows v.mode row job e).0 in
        near_rise row job job_right (subst (λ (n : Mode). doomed_job n row job ≡ true) m t.mark.lost) job_on_time (subst (λ (n : Mode). overruns n row job ≡ true) m e)

    -- a tick at which the target does not run and the mode stays
    resting_onward : (fin : Bool) → Gave pick kind tasks (cond fin 10 9) v (resting tasks fin v) → Goes (cond fin 10 9)
    resting_onward fin g = unserved fin (resting tasks fin v) g refl (has_over _ tasks v.jobs i row job at)

    serving_other : (fin : Bool) (j : ℕ) (o : Option Task) (q : Option Job) → (j ≡ i → ⊥) → ((r : Task) (x : Job) → (not fin && overruns v.mode r x) ≡ false) → Gave pick kind tasks (cond fin 10 9) v (serving tasks fin j o q v) → Goes (cond fin 10 9)
    serving_other fin j None q n f g = resting_onward fin g
    serving_other fin j (Some r) None n f g = resting_onward fin g
    serving_other fin j (Some r) (Some x) n f g =
        let e = f r x in
        unserved fin (serving tasks fin j (Some r) (Some x) v) g (rw e) (has_set tasks _ j i _ row _ n (rw e (has_over _ tasks v.jobs i row job at)))

    -- a tick at which the target runs
    serving_own : Gave pick kind tasks 9 v (serving tasks false i (Some row) (Some job) v) → Goes 9
    serving_own g =
        let up : Bool = overruns v.mode row job in
        let k = nearer up refl in
        let b = k.1 in
        let w = serving tasks false i (Some row) (Some job) v in
        let d = dues_few w in
        onward_by 9 w (ticked_job false up true row job) g (has_set_same tasks _ i _ row _ (has_over _ tasks v.jobs i row job at)) k.0 (omega arith)

    gave : (fin : Bool) (o : Option ℕ) → picked pick kind tasks v ≡ o → any (λ _. due_job kind) tasks v.jobs ≡ false → (fin && not (is_some o)) ≡ false → Gave pick kind tasks (cond fin 10 9) v (jobwise tasks fin o v)
    gave fin o e n s = subst (λ (q : Option ℕ). Gave pick kind tasks (cond fin 10 9) v (jobwise tasks fin q v)) e (ticks fin refl (due_any v n) (rw e s))

    none_onward : picked pick kind tasks v ≡ None → any (λ _. due_job kind) tasks v.jobs ≡ false → Goes 9
    unfolding jobwise
    none_onward e n = resting_onward false (gave false None e n refl)

    other_onward : (fin : Bool) (j : ℕ) → picked pick kind tasks v ≡ Some j → any (λ _. due_job kind) tasks v.jobs ≡ false → (j - 1 ≡ i → ⊥) → ((r : Task) (x : Job) → (not fin && overruns v.mode r x) ≡ false) → Goes (cond fin 10 9)
    unfolding jobwise
    other_onward fin j e n q f = serving_other fin (j - 1) (slice_get tasks (j - 1)) (slice_get v.jobs (j - 1)) q f (gave fin (Some j) e n (and_right fin false refl))

    own_onward : (j : ℕ) → picked pick kind tasks v ≡ Some j → any (λ _. due_job kind) tasks v.jobs ≡ false → j - 1 ≡ i → Goes 9
    unfolding jobwise
    own_onward j e n q = serving_own (rw (q, at.row, at.job) at (gave false (Some j) e n refl))

    release_onward : (c d : ℕ) → c ≡ d + 1 → SomeJob (λ _. due_job kind) tasks v.jobs d → Goes c
    release_onward c d n s =
        let x : s.the_job ≡ Idle 0 = due_idle kind s.the_job s.passes in
        let k = count_set kind tasks v.jobs d (Ready s.the_task.period (budget v.mode s.the_task)) s.the_task s.the_job s.has s.passes (due_ready kind _ _) in
        onward_by c (released_at tasks d s.the_task v) job (releases d s.the_task n s.has.row (s.has.job ∙ ap Some x))
        (has_set tasks v.jobs d i _ row job (λ e. other d s x e) at) t.mark.lost (omega arith)
      where
        other : (d : ℕ) (s : SomeJob (λ _. due_job kind) tasks v.jobs d) → s.the_job ≡ Idle 0 → d ≡ i → ⊥
        other d s x e =
            let h = one_job tasks v.jobs i s.the_task row s.the_job job (subst (λ (k : ℕ). Has tasks v.jobs k s.the_task s.the_job) e s.has) at in
            let z : job ≡ Idle 0 = sym h.1 ∙ x in
            false≢true (subst (λ (q : Job). doomed_job v.mode row q ≡ true) z t.mark.lost)

    picked_from_1 : (j : ℕ) → picked pick kind tasks v ≡ Some j → 1 ≤ j
    picked_from_1 j e = (subst (PicksReady tasks v.jobs) e (L.ready tasks v.mode v.jobs)).from_1

    goes_by : {l : Option ℕ} (o : Option ℕ) (m : Mode) → picked pick kind tasks v ≡ o → v.mode ≡ m → Lowest (λ _. due_job kind) 0 tasks v.jobs l → Goes (forced_by l o m t.mark.best.number)
    goes_by o m e q (somebody {n} {i = d} c s) = release_onward n d (c ∙ omega arith) s
    goes_by None m e q (nobody n) = none_onward e n
    goes_by (Some j) High e q (nobody n) =
        let p = picked_from_1 j e in
        elim (cases_eq (j - 1) i) [ inl h ↦ own_onward j e n h | inr h ↦ other_onward false j e n h (λ r x. rw q) ]
    goes_by (Some j) Low e q (nobody n) =
        let p = picked_from_1 j e in
        let k = t.mark.counts in
        cond_both (eqb j t.mark.best.number) 9 10 Goes
        (λ h. own_onward j e n (let g = eqb-true j t.mark.best.number h in omega arith))
        (λ h. other_onward true j e n (λ g. eqb-false j t.mark.best.number h (omega arith)) (λ r x. refl))

    pub goes : Goes (forced_by (lowest (λ _. due_job kind) 0 tasks v.jobs) (picked pick kind tasks v) v.mode t.mark.best.number)
    goes = goes_by (picked pick kind tasks v) v.mode refl refl (lowest_is (λ _. due_job kind) 0 tasks v.jobs)
