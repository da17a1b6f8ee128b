-- The laws of a system of tasks.
use Rattle.std.proofs.Common.{◌≡◌, ℕ, zero, suc, ◌≤◌, true, false, List, [], ◌∷◌, length, Ok, Err, sym, refl, ◌∙◌, inl, inr, arith}
use Rattle.std.proofs.lemmas.Bool.{and_parts, and_from, and_right, true≢false, cases_Bool}
use Rattle.task_table.specs.declared.task.Task.{Task}
use Rattle.task_table.specs.declared.mode.Mode.TheVariants.{Low}
use Rattle.jobs.specs.declared.job.Job.TheVariants.{Idle}
use Rattle.jobs.specs.declared.kind.Kind.{Kind}
use Rattle.job_state.specs.declared.state.State.{State}
use Rattle.jobs.specs.Tasks.{first_wait}
use Rattle.jobs.specs.Jobs.{fits_job, late_job, doomed_job, due_job}
use Rattle.job_state.specs.Lists.{all_absent, every, any, lowest}
use Rattle.job_state.specs.States.{first_jobs, first, fits, late, doomed}
use Rattle.policies.specs.Picks.{Pick}
use Rattle.policies.specs.Chosen.{nth_within}
use Rattle.transition.specs.declared.refusal.Refusal as refusal
use Rattle.transition.specs.Refusals.{number_positive}
use Rattle.transition.specs.Laws.{Laws}
use Rattle.task_laws.specs.Systems.{late_in, doomed_in, simulates, picked, gives, forced_by, forced, meaning}
use Rattle.task_laws.specs.Claims.{Lawful, Table}
use Rattle.task_laws.proofs.Jobwise.{jobwise, released_at}
use Rattle.task_laws.proofs.Boths.{any_under}
use Rattle.task_laws.proofs.Perjob.{fit_first, fit_out, close_late}
use Rattle.task_laws.proofs.Nears.{late_lost}
use Rattle.task_laws.proofs.Follows.{Alike, Follows, follows, fitted, fits_left, fits_right, simulated, late_same, doomed_same, due_same, picked_same, joined}
use Rattle.task_laws.proofs.Gives.{Gave, releases, ticks, accepted, accepts}
use Rattle.task_laws.proofs.Keeps.{ticked_follows, idle_there, released_follows}
use Rattle.task_laws.proofs.Targets.{unmarked}
use Rattle.task_laws.proofs.Forces.{Lost, lost, soon, goes}
use Rattle.task_laws.proofs.Refuses.{unfit, stuck, punctual, lacking, unfit_forced, late_forced}

none_absent : (k : Kind) (n : ℕ) → all_absent (first_jobs k [] n) ≡ true
none_absent k zero = refl
none_absent k (suc n) = none_absent k n

firsts_fit : (k : Kind) (rs : List Task) (n : ℕ) → length rs ≤ n → every (fits_job k Low) rs (first_jobs k rs n) ≡ true
firsts_fit k [] n h = none_absent k n
firsts_fit k (r ∷ rs) zero h = absurd (omega arith)
firsts_fit k (r ∷ rs) (suc n) h = and_from (fits_job k Low r (Idle (first_wait k r))) (every (fits_job k Low) rs (first_jobs k rs n)) (fit_out k Low r (fit_first k r)) (firsts_fit k rs n (omega arith))

firsts_safe : (k : Kind) (rs : List Task) (n : ℕ) → any (doomed_job Low) rs (first_jobs k rs n) ≡ false
firsts_safe k [] n = refl
firsts_safe k (r ∷ rs) zero = refl
firsts_safe k (r ∷ rs) (suc n) = firsts_safe k rs n

module _ (pick : Pick) (kind : Kind) (tasks : List Task) (T : Table tasks) (L : Lawful pick) where
  -- what an event does there it does here
  record Next (c : ℕ) (a z : State) : Type 0 where
    next : State
    given : Gave pick kind tasks c a next
    still : Follows kind tasks next z

  followed : (c : ℕ) (a b : State) {z : State} → Follows kind tasks a b → Gave pick kind tasks c b z → Next c a z
  followed c a b s (releases i r p q n) = record { next = released_at tasks i r a; given = releases i r p q (idle_there kind tasks i r a b q n s); still = released_follows kind tasks i r a b q n s }
  followed c a b s (ticks fin p d h) =
      let e = picked_same kind tasks pick L a b s in
      record {
        next = jobwise tasks fin (picked pick kind tasks a) a;
        given = ticks fin p (due_same kind tasks a b s ∙ d) (rw e h);
        still = rw e (ticked_follows kind tasks fin (picked pick kind tasks b) a b s);
      }

  starts : fits kind tasks (first kind tasks) ≡ true
  unfolding fits first
  starts = firsts_fit kind tasks 8 T.few

  safe : doomed_in kind tasks (first kind tasks) ≡ false
  unfolding doomed_in doomed first
  safe = and_right _ _ (firsts_safe kind tasks 8)

  within : (c : ℕ) (x : State) {y : State} → Gave pick kind tasks c x y → (1 ≤ c) × (c ≤ 10)
  within c x (releases i r p q n) = let s = nth_within tasks i r q in let f = T.few in (omega arith, omega arith)
  within c x (ticks false p d h) = (omega arith, omega arith)
  within c x (ticks true p d h) = (omega arith, omega arith)

  result_fits : (c : ℕ) (x : State) (y : State) → fits kind tasks x ≡ true → Gave pick kind tasks c x y → fits kind tasks y ≡ true
  result_fits c x y f g = fits_right kind tasks _ y (followed c x x (fitted kind tasks T x f) g).still

  doomed_late : (x : State) → late_in kind tasks x ≡ true → doomed_in kind tasks x ≡ true
  unfolding late_in late doomed_in doomed
  doomed_late x e =
      let p = and_parts _ _ e in
      and_from _ _ p.0 (any_under (Alike kind tasks x.mode) _ late_job tasks x.jobs x.jobs (λ r u v h l. late_lost kind x.mode r h.0 h.1 (close_late kind r h.3 ∙ l)) (fitted kind tasks T x p.0).both p.1)

  doomed_fit : (x : State) → doomed_in kind tasks x ≡ true → fits kind tasks x ≡ true
  unfolding doomed_in
  doomed_fit x e = (and_parts _ _ e).0

  both_fit : (x y : State) → simulates kind tasks x y ≡ true → (fits kind tasks x ≡ true) × (fits kind tasks y ≡ true)
  unfolding simulates
  both_fit x y e = and_parts _ _ (and_parts _ _ e).0

  simulation : (c : ℕ) (x y z : State) → simulates kind tasks x y ≡ true → gives pick kind tasks c y ≡ Ok z → (w : State) × (gives pick kind tasks c x ≡ Ok w) × (simulates kind tasks w z ≡ true)
  simulation c x y z p e =
      let s = follows kind tasks T x y p in
      let a = accepted pick kind tasks T L y z c e in
      let w = followed c x y s a.gave in
      (w.next, accepts pick kind tasks T L c x w.next (record { fitting = fits_left kind tasks x y s; punctual = late_same kind tasks x y s ∙ a.punctual; gave = w.given }), simulated kind tasks w.next z w.still)

  not_late : (x : State) → doomed_in kind tasks x ≡ false → late_in kind tasks x ≡ false
  not_late x d = elim (cases_Bool (late_in kind tasks x)) [ inl h ↦ absurd (true≢false (sym (doomed_late x h) ∙ d)) | inr h ↦ h ]

  none_doomed : (x : State) → fits kind tasks x ≡ true → doomed_in kind tasks x ≡ false → any (doomed_job x.mode) tasks x.jobs ≡ false
  unfolding doomed_in doomed
  none_doomed x f d = rw f at d

  none_forced : (x : State) → fits kind tasks x ≡ true → doomed_in kind tasks x ≡ false → forced pick kind tasks x ≡ Err refusal.TheVariants.NotDoomed
  unfolding forced
  none_forced x f d =
      let l = punctual pick kind tasks T x f (not_late x d) in
      let t = unmarked kind tasks x (none_doomed x f d) in
      rw (f, l, t)

  abbrev Event : (x : State) → Lost pick kind tasks T L x → ℕ
  Event x t = forced_by (lowest (λ _. due_job kind) 0 tasks x.jobs) (picked pick kind tasks x) x.mode t.mark.best.number

  forced_is : (x : State) (t : Lost pick kind tasks T L x) → forced pick kind tasks x ≡ Ok (Event x t)
  unfolding forced
  forced_is x t = let f = t.fitting in let l = t.punctual in let m = t.mark.here in rw (f, l, m)

  pub laws : Laws (meaning pick kind tasks)
  laws = record {
    few_events = omega arith;
    first_fits = starts;
    result_fits = λ c x y f e. result_fits c x y f (accepted pick kind tasks T L x y c e).gave;
    accepted_within = λ c x y e. within c x (accepted pick kind tasks T L x y c e).gave;
    unfit_refuses = unfit pick kind tasks T;
    late_refuses = stuck pick kind tasks T;
    lacking_refused = lacking pick kind tasks T;
    refusal_numbered = λ own p c x r e. number_positive own p r;
    simulates_fits = both_fit;
    simulates_itself = λ x e. simulated kind tasks x x (fitted kind tasks T x e);
    simulates_through = λ x y z p q. simulated kind tasks x z (joined kind tasks x y z (follows kind tasks T x y p) (follows kind tasks T y z q));
    simulates_events = simulation;
    simulates_doom = λ x y p e. doomed_same kind tasks x y (follows kind tasks T x y p) ∙ e;
    first_not_doomed = safe;
    doomed_fits = doomed_fit;
    late_doomed = doomed_late;
    forced_unfit = unfit_forced pick kind tasks T;
    forced_late = late_forced pick kind tasks T;
    forced_none = none_forced;
    forced_nears = λ x d l.
        let t = lost pick kind tasks T L x d l in
        (Event x t, forced_is x t, goes pick kind tasks T L x t (λ c w g. result_fits c x w t.fitting g));
    miss_near = λ x d l.
        let t = lost pick kind tasks T L x d l in
        soon pick kind tasks T L x t (λ c w g. result_fits c x w t.fitting g);
  }
