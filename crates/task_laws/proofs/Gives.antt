-- The ways in which an event is accepted.
use Rattle.std.proofs.Common.{◌≡◌, ℕ, zero, suc, ◌+◌, ◌-◌, Bool, true, false, cond, not, ◌&&◌, eqb, ◌⊎◌, List, length, get_or, set, is_some, Some, None, Ok, Err, Option, Result, sym, refl, ap, ◌∙◌, subst, inl, inr, arith}
use Rattle.std.specs.List.{slice_get}
use Rattle.std.proofs.lemmas.Option.{slice_get-get_or}
use Rattle.std.proofs.lemmas.List.{get_or_past}
use Rattle.std.proofs.lemmas.Bool.{cases_lt, eqb-true, ne_eqb}
use Rattle.task_table.specs.declared.task.Task.{Task}
use Rattle.task_table.specs.Tables.{numbered}
use Rattle.jobs.specs.declared.job.Job.{Job}
use Rattle.jobs.specs.declared.job.Job.TheVariants.{Absent, Idle, Ready, Dropped}
use Rattle.jobs.specs.declared.kind.Kind.{Kind}
use Rattle.job_state.specs.declared.state.State.{State}
use Rattle.jobs.specs.declared.refusal.JobRefusal.{JobRefusal}
use Rattle.jobs.specs.declared.refusal.JobRefusal.TheVariants.{Waiting}
use Rattle.jobs.specs.Tasks.{budget}
use Rattle.job_state.specs.Lists.{job_numbered}
use Rattle.job_state.specs.States.{fits, late, due}
use Rattle.jobs.specs.Moves.{job_answer, released_job}
use Rattle.job_state.specs.Releases.{answer_by, release_answer, released_by, released}
use Rattle.job_state.specs.Ticks.{ticked}
use Rattle.job_state.proofs.Sames.{same_state}
use Rattle.policies.specs.Picks.{Pick}
use Rattle.policies.specs.Chosen.{nth_within, nth_get, numbered_suc, job_suc}
use Rattle.transition.specs.declared.refusal.Refusal.{Refusal}
use Rattle.task_laws.specs.Systems.{accepted_as, picked, release, tick, event, gives}
use Rattle.task_laws.specs.Claims.{Lawful, Table}
use Rattle.task_laws.proofs.Jobwise.{jobwise, released_at}
use Rattle.task_laws.proofs.Steps.{steps_tick}

abbrev Answer : Type 0
Answer = Result State (Refusal JobRefusal)

err_ok : {Y : Type 0} (n : Refusal JobRefusal) (w : State) → ◌≡◌ {A = Answer} (Err n) (Ok w) → Y
err_ok n w e = let z : ◌≡◌ {A = ℕ} 0 1 = cc in absurd (omega arith)

passed : (b : Bool) (x : Answer) (n : Refusal JobRefusal) (w : State) → cond b x (Err n) ≡ Ok w → (b ≡ true) × (x ≡ Ok w)
passed true x n w e = (refl, e)
passed false x n w e = err_ok n w e

spared : (b : Bool) (x : Answer) (n : Refusal JobRefusal) (w : State) → cond b (Err n) x ≡ Ok w → (b ≡ false) × (x ≡ Ok w)
spared true x n w e = err_ok n w e
spared false x n w e = (refl, e)

split : (b : Bool) (x y : Answer) (w : State) → cond b x y ≡ Ok w → ((b ≡ true) × (x ≡ Ok w)) ⊎ ((b ≡ false) × (y ≡ Ok w))
split true x y w e = inl (refl, e)
split false x y w e = inr (refl, e)

-- a number that has a task is one more than its index
pub record Numbered (tasks : List Task) (n : ℕ) (r : Task) : Type 0 where
  pub index : ℕ
  pub counts : n ≡ index + 1
  pub row : slice_get tasks index ≡ Some r

pub numbered_index : (tasks : List Task) (n : ℕ) (r : Task) → numbered tasks n ≡ Some r → Numbered tasks n r
numbered_index tasks zero r e = let z : ◌≡◌ {A = ℕ} 0 1 = cc in absurd (omega arith)
numbered_index tasks (suc i) r e = let c : suc i ≡ i + 1 = omega arith in record { index = i; counts = c; row = sym (numbered_suc tasks i) ∙ (ap (numbered tasks) (sym c) ∙ e) }

idle_nth : (xs : List Job) (i w : ℕ) → get_or xs i Absent ≡ Idle w → slice_get xs i ≡ Some (Idle w)
idle_nth xs i w e = elim (cases_lt i (length xs)) [
  | inl h ↦ slice_get-get_or xs i Absent h ∙ ap Some e
  | inr h ↦ let q : Absent ≡ Idle w = sym (get_or_past xs i Absent h) ∙ e in let z : ◌≡◌ {A = ℕ} 0 1 = cc in absurd (omega arith)
]

-- a release that is accepted
module _ (tasks : List Task) (v : State) where
  released_is : (i : ℕ) (r : Task) (n : ℕ) → n ≡ i + 1 → slice_get tasks i ≡ Some r → slice_get v.jobs i ≡ Some (Idle 0) → (release_answer tasks n v ≡ Ok tt) × (released tasks n v ≡ released_at tasks i r v)
  unfolding release_answer released
  released_is i r n c a b =
      let row : numbered tasks n ≡ Some r = ap (numbered tasks) c ∙ (numbered_suc tasks i ∙ a) in
      let job : job_numbered v.jobs n ≡ Idle 0 = ap (job_numbered v.jobs) c ∙ (job_suc v.jobs i ∙ nth_get v.jobs i Absent _ b) in
      let e : n - 1 ≡ i = omega arith in (
        ap (λ (o : Option Task). answer_by o (job_numbered v.jobs n)) row ∙ ap job_answer job,
        ap (λ (o : Option Task). released_by o n v) row ∙ same_state _ _ refl (ap (λ (y : Job). set v.jobs (n - 1) (released_job v.mode r y)) job ∙ ap (λ (k : ℕ). set v.jobs k (Ready r.period (budget v.mode r))) e),
      )

module _ (pick : Pick) (kind : Kind) (tasks : List Task) where
  pub data Gave (c : ℕ) (v : State) : State → Type 0 where
    releases : (i : ℕ) (r : Task) → c ≡ i + 1 → slice_get tasks i ≡ Some r → slice_get v.jobs i ≡ Some (Idle 0) → Gave c v (released_at tasks i r v)
    ticks : (fin : Bool) → c ≡ cond fin 10 9 → due kind tasks v ≡ false → (fin && not (is_some (picked pick kind tasks v))) ≡ false → Gave c v (jobwise tasks fin (picked pick kind tasks v) v)

  pub record Accepted (c : ℕ) (v w : State) : Type 0 where
    pub fitting : fits kind tasks v ≡ true
    pub punctual : late tasks v ≡ false
    pub gave : Gave c v w

  module _ (T : Table tasks) (L : Lawful pick) where
    stepped : (fin : Bool) (v : State) → fits kind tasks v ≡ true → ticked tasks fin (picked pick kind tasks v) v ≡ jobwise tasks fin (picked pick kind tasks v) v
    stepped fin v f = steps_tick kind tasks T fin (picked pick kind tasks v) v f (L.ready tasks v.mode v.jobs)

    module _ (v w : State) where
      job_gave : (c : ℕ) (r : Task) (x : Job) → numbered tasks c ≡ Some r → job_numbered v.jobs c ≡ x → accepted_as (job_answer x) (released tasks c v) ≡ Ok w → Gave c v w
      job_gave c r Absent q n e = err_ok _ w e
      job_gave c r (Idle u) q n e = go (eqb u 0) refl e
        where
          go : (t : Bool) → eqb u 0 ≡ t → accepted_as (cond t (Ok tt) (Err Waiting)) (released tasks c v) ≡ Ok w → Gave c v w
          go true t e =
              let k : u ≡ 0 = eqb-true u 0 t in
              let i = numbered_index tasks c r q in
              let j : slice_get v.jobs i.index ≡ Some (Idle 0) = idle_nth v.jobs i.index 0 (sym (job_suc v.jobs i.index) ∙ (ap (job_numbered v.jobs) (sym i.counts) ∙ (n ∙ ap Idle k))) in
              let s = (released_is tasks v i.index r c i.counts i.row j).1 in
              subst (Gave c v) (sym s ∙ cc) (releases i.index r i.counts i.row j)
          go false t e = err_ok _ w e
      job_gave c r (Ready u l) q n e = err_ok _ w e
      job_gave c r Dropped q n e = err_ok _ w e

      row_gave : (c : ℕ) (o : Option Task) → numbered tasks c ≡ o → accepted_as (answer_by o (job_numbered v.jobs c)) (released tasks c v) ≡ Ok w → Gave c v w
      row_gave c None q e = err_ok _ w e
      row_gave c (Some r) q e = job_gave c r (job_numbered v.jobs c) q refl e

      release_gave : (c : ℕ) → release pick kind tasks c v ≡ Ok w → Gave c v w
      unfolding release_answer
      release_gave c e = row_gave c (numbered tasks c) refl e

      tick_gave : (c : ℕ) (fin : Bool) → fits kind tasks v ≡ true → c ≡ cond fin 10 9 → tick pick kind tasks fin v ≡ Ok w → Gave c v w
      tick_gave c fin f p e =
          let h = spared (due kind tasks v) _ _ w e in
          let k = spared (fin && not (is_some (picked pick kind tasks v))) _ _ w h.1 in
          let s = stepped fin v f in
          subst (Gave c v) (sym s ∙ (let g = k.1 in cc)) (ticks fin p h.0 k.0)

      pub accepted : (c : ℕ) → gives pick kind tasks c v ≡ Ok w → Accepted c v w
      unfolding gives
      accepted c e =
          let f = passed (fits kind tasks v) _ _ w e in
          let l = spared (late tasks v) _ _ w f.1 in
          record {
            fitting = f.0;
            punctual = l.0;
            gave = elim (split (eqb c 9) _ _ w l.1) [
              | inl h ↦ tick_gave c false f.0 (eqb-true c 9 h.0) h.1
              | inr h ↦ elim (split (eqb c 10) _ _ w h.1) [
                | inl k ↦ tick_gave c true f.0 (eqb-true c 10 k.0) k.1
                | inr k ↦ release_gave c k.1
              ]
            ];
          }

    ticking : (fin : Bool) (c : ℕ) (v : State) → c ≡ cond fin 10 9 → due kind tasks v ≡ false → (fin && not (is_some (picked pick kind tasks v))) ≡ false → event pick kind tasks c v ≡ Ok (ticked tasks fin (picked pick kind tasks v) v)
    ticking false c v p d s = simp (p, d)
    ticking true c v p d s = simp (p, d, s)

    event_of : (c : ℕ) (v : State) {w : State} → fits kind tasks v ≡ true → Gave c v w → event pick kind tasks c v ≡ Ok w
    event_of c v f (releases i r p q n) =
        let s = nth_within tasks i r q in
        let h = T.few in
        let k = released_is tasks v i r c p q n in
        rw (ne_eqb c 9 (λ e. omega arith), ne_eqb c 10 (λ e. omega arith)) (ap (λ (a : Result (Unit {0}) JobRefusal). accepted_as a (released tasks c v)) k.0 ∙ ap Ok k.1)
    event_of c v f (ticks fin p d s) = ticking fin c v p d s ∙ ap Ok (stepped fin v f)

    pub accepts : (c : ℕ) (v w : State) → Accepted c v w → gives pick kind tasks c v ≡ Ok w
    unfolding gives
    accepts c v w a = rw (a.fitting, a.punctual) (event_of c v a.fitting a.gave)
