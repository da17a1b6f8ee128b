-- The doomed job of least time to deadline.
use Rattle.std.proofs.Common.{◌≡◌, ℕ, ◌+◌, ◌*◌, ◌≤◌, Bool, true, false, cond, List, ℤ, pos, Some, None, Option, sym, refl, ap, ◌∙◌, subst, arith}
use lib.Signed.{lt_z}
use Rattle.std.proofs.lemmas.Bool.{true≢false, false≢true}
use Rattle.task_table.specs.declared.mode.Mode.{Mode}
use Rattle.task_table.specs.declared.task.Task.{Task}
use Rattle.jobs.specs.declared.kind.Kind.{Kind}
use Rattle.jobs.specs.declared.job.Job.{Job}
use Rattle.jobs.specs.declared.job.Job.TheVariants.{Absent, Idle, Ready, Dropped}
use Rattle.job_state.specs.declared.state.State.{State}
use Rattle.jobs.specs.Jobs.{time_to_deadline, worst_laxity, doomed_job}
use Rattle.job_state.specs.Lists.{any}
use Rattle.policies.specs.declared.best.Best.{Best}
use Rattle.policies.specs.Leads.{At, Led, nobody, lead, best_led}
use Rattle.task_laws.specs.Systems.{by_doom, time_left, target, due_count, events_to_miss}
use Rattle.task_laws.proofs.Jobwise.{figure}
use Rattle.task_laws.proofs.Signs.{time_nat, time_mono}
use Rattle.task_laws.proofs.Founds.{Has, any_by, any_at}

-- a doomed job is ready
pub record ReadyJob (x : Job) : Type 0 where
  pub wait : ℕ
  pub left : ℕ
  pub is : x ≡ Ready wait left

pub doomed_ready : (m : Mode) (r : Task) (x : Job) → doomed_job m r x ≡ true → ReadyJob x
doomed_ready m r Absent h = absurd (false≢true h)
doomed_ready m r (Idle w) h = absurd (false≢true h)
doomed_ready m r (Ready w l) h = record { wait = w; left = l; is = refl }
doomed_ready m r Dropped h = absurd (false≢true h)

-- what a figure by doom tells
doom_told : (m : Mode) (n : ℕ) (r : Task) (w l : ℕ) (z : ℤ) → by_doom m n r w l ≡ Some z → (doomed_job m r (Ready w l) ≡ true) × (z ≡ time_to_deadline r w)
doom_told m n r w l z e = go (lt_z (worst_laxity m r w l) (pos 0)) e
  where
    go : (b : Bool) → cond b (Some (time_to_deadline r w)) None ≡ Some z → (b ≡ true) × (z ≡ time_to_deadline r w)
    go true e = (refl, cc)
    go false e = let u : ◌≡◌ {A = ℕ} 0 1 = cc in absurd (omega arith)

-- the target of a doomed state
pub record Marked (kind : Kind) (tasks : List Task) (v : State) : Type 0 where
  pub best : Best
  pub here : target kind tasks v ≡ Some best
  pub index : ℕ
  pub counts : best.number ≡ index + 1
  pub row : Task
  pub job : Job
  pub has : Has tasks v.jobs index row job
  pub lost : doomed_job v.mode row job ≡ true
  pub is : time_left best.figure ≡ figure row job
  pub low : (j : ℕ) (r : Task) (x : Job) → Has tasks v.jobs j r x → doomed_job v.mode r x ≡ true → time_left best.figure ≤ figure r x

module _ (kind : Kind) (tasks : List Task) where
  -- a doomed job has a figure
  doom_at : (v : State) (j : ℕ) (r : Task) (x : Job) → Has tasks v.jobs j r x → doomed_job v.mode r x ≡ true → (y : ReadyJob x) → At (by_doom v.mode) 0 tasks v.jobs ((0 + j) + 1) (time_to_deadline r y.wait)
  doom_at v j r x h d y =
      let e : doomed_job v.mode r (Ready y.wait y.left) ≡ true = subst (λ (q : Job). doomed_job v.mode r q ≡ true) y.is d in
      record {
        index = j;
        counts = refl;
        task = r;
        wait = y.wait;
        left = y.left;
        row = h.row;
        job = h.job ∙ ap Some y.is;
        is = ap (λ (b : Bool). cond b (Some (time_to_deadline r y.wait)) None) e;
      }

  marked_by : (v : State) {o : Option Best} → any (doomed_job v.mode) tasks v.jobs ≡ true → target kind tasks v ≡ o → Led (by_doom v.mode) 0 tasks v.jobs o → Marked kind tasks v
  marked_by v h e (nobody n) =
      let s = any_at (doomed_job v.mode) tasks v.jobs h in
      let y = doomed_ready v.mode s.1.the_task s.1.the_job s.1.passes in
      absurd (n _ _ (doom_at v s.0 s.1.the_task s.1.the_job s.1.has s.1.passes y))
  marked_by v h e (lead {b} w) =
      let o = w.own in
      let t = doom_told v.mode b.number o.task o.wait o.left b.figure o.is in
      record {
        best = b;
        here = e;
        index = o.index;
        counts = (let c = o.counts in omega arith);
        row = o.task;
        job = Ready o.wait o.left;
        has = record { row = o.row; job = o.job };
        lost = t.0;
        is = ap time_left t.1 ∙ time_nat o.task o.wait;
        low = λ j r x a d.
            let y = doomed_ready v.mode r x d in
            let l = time_mono b.figure (time_to_deadline r y.wait) (w.low ((0 + j) + 1) (time_to_deadline r y.wait) (doom_at v j r x a d y)) in
            let k = time_nat r y.wait in
            subst (λ (q : Job). time_left b.figure ≤ figure r q) (sym y.is) (omega arith);
      }

  pub marked : (v : State) → any (doomed_job v.mode) tasks v.jobs ≡ true → Marked kind tasks v
  unfolding target
  marked v h = marked_by v h refl (best_led (by_doom v.mode) 0 tasks v.jobs)

  -- where nothing is doomed there is no target
  unmarked_by : (v : State) {o : Option Best} → any (doomed_job v.mode) tasks v.jobs ≡ false → Led (by_doom v.mode) 0 tasks v.jobs o → o ≡ None
  unmarked_by v h (nobody n) = refl
  unmarked_by v h (lead {b} w) =
      let o = w.own in
      let t = doom_told v.mode b.number o.task o.wait o.left b.figure o.is in
      absurd (true≢false (sym (any_by (doomed_job v.mode) tasks v.jobs o.index o.task (Ready o.wait o.left) (record { row = o.row; job = o.job }) t.0) ∙ h))

  pub unmarked : (v : State) → any (doomed_job v.mode) tasks v.jobs ≡ false → target kind tasks v ≡ None
  unfolding target
  unmarked v h = unmarked_by v h (best_led (by_doom v.mode) 0 tasks v.jobs)

  pub miss_is : (v : State) (t : Marked kind tasks v) → events_to_miss kind tasks v ≡ 9 * figure t.row t.job + due_count kind tasks v.jobs
  unfolding events_to_miss
  miss_is v t = rw t.here (ap (λ (n : ℕ). 9 * n + due_count kind tasks v.jobs) t.is)
