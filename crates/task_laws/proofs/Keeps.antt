-- A tick and a release keep that one state simulates another, and so that a state fits.
use Rattle.std.proofs.Common.{◌≡◌, ℕ, ◌-◌, ◌<◌, Bool, true, false, cond, not, ◌&&◌, List, Some, None, Option, refl, ap, ◌∙◌, subst, arith}
use Rattle.std.specs.List.{slice_get}
use Rattle.std.proofs.lemmas.Bool.{true≢false, false≢true}
use Rattle.task_table.specs.declared.task.Task.{Task}
use Rattle.task_table.specs.declared.mode.Mode.{Mode}
use Rattle.task_table.specs.declared.mode.Mode.TheVariants.{Low, High}
use Rattle.jobs.specs.declared.job.Job.{Job}
use Rattle.jobs.specs.declared.job.Job.TheVariants.{Idle}
use Rattle.jobs.specs.declared.kind.Kind.{Kind}
use Rattle.job_state.specs.declared.state.State.{State}
use Rattle.job_state.specs.Lists.{over}
use Rattle.task_laws.proofs.Jobwise.{overruns, ticked_job, resting, serving, jobwise, released_at}
use Rattle.task_laws.proofs.Boths.{Both, both_over, both_set, both_at}
use Rattle.task_laws.proofs.Perjob.{Fit, Close, close_self, close_idle, close_overruns, close_ticked, fit_stay, fit_rise, fit_released, fit_active}
use Rattle.task_laws.proofs.Nears.{overrun_grows}
use Rattle.task_laws.proofs.Follows.{Alike, Follows}

module _ (kind : Kind) (tasks : List Task) where
  -- the jobs that do not run, and the one that does
  pass_both : (m : Mode) (fin up : Bool) (xs ys : List Job) → (up ≡ true → (fin ≡ false) × (m ≡ Low)) → Both (Alike kind tasks m) tasks xs ys → Both (Alike kind tasks (cond up High m)) tasks (over (ticked_job fin up false) tasks xs) (over (ticked_job fin up false) tasks ys)
  pass_both m fin false xs ys w h = both_over (Alike kind tasks m) (Alike kind tasks m) _ _ tasks xs ys (λ r x y p. (p.0, fit_stay kind m fin false r p.1, fit_stay kind m fin false r p.2, close_ticked kind fin false false r p.3)) h
  pass_both Low false true xs ys w h = both_over (Alike kind tasks Low) (Alike kind tasks High) _ _ tasks xs ys (λ r x y p. (p.0, fit_rise kind false r p.0 (λ e. absurd (false≢true e)) p.1, fit_rise kind false r p.0 (λ e. absurd (false≢true e)) p.2, close_ticked kind false true false r p.3)) h
  pass_both Low true true xs ys w h = absurd (true≢false (w refl).0)
  pass_both High fin true xs ys w h = let z = (w refl).1 in let y : ◌≡◌ {A = ℕ} 0 1 = cc in absurd (omega arith)

  run_alike : (m : Mode) (fin up : Bool) (r : Task) (x y : Job) → (up ≡ true → (fin ≡ false) × (m ≡ Low) × (r.budget_low < r.budget_high)) → Alike kind tasks m r x y → Alike kind tasks (cond up High m) r (ticked_job fin up true r x) (ticked_job fin up true r y)
  run_alike m fin false r x y w p = (p.0, fit_stay kind m fin true r p.1, fit_stay kind m fin true r p.2, close_ticked kind fin false true r p.3)
  run_alike Low false true r x y w p = let g = w refl in (p.0, fit_rise kind true r p.0 (λ _. g.2) p.1, fit_rise kind true r p.0 (λ _. g.2) p.2, close_ticked kind false true true r p.3)
  run_alike Low true true r x y w p = absurd (true≢false (w refl).0)
  run_alike High fin true r x y w p = let z = (w refl).1 in let y : ◌≡◌ {A = ℕ} 0 1 = cc in absurd (omega arith)

  pub why : (fin : Bool) (m : Mode) (r : Task) (x : Job) → (not fin && overruns m r x) ≡ true → (fin ≡ false) × (m ≡ Low) × (r.budget_low < r.budget_high)
  why true m r x h = absurd (false≢true h)
  why false m r x h = let g = overrun_grows m r x h in (refl, g.0, g.1)

  resting_follows : (fin : Bool) (a b : State) → Follows kind tasks a b → Follows kind tasks (resting tasks fin a) (resting tasks fin b)
  resting_follows fin a b s = record { level = s.level; both = pass_both b.mode fin false a.jobs b.jobs (λ t. absurd (false≢true t)) s.both }

  serving_follows : (fin : Bool) (i : ℕ) (o : Option Task) (a b : State) → slice_get tasks i ≡ o → Follows kind tasks a b → Follows kind tasks (serving tasks fin i o (slice_get a.jobs i) a) (serving tasks fin i o (slice_get b.jobs i) b)
  serving_follows fin i None a b e s = resting_follows fin a b s
  serving_follows fin i (Some r) a b e s =
      let w = both_at (Alike kind tasks b.mode) tasks a.jobs b.jobs i r e s.both in
      let up : Bool = not fin && overruns b.mode r w.other in
      let q : (not fin && overruns a.mode r w.mine) ≡ up = rw s.level (ap (λ (t : Bool). not fin && t) (close_overruns kind b.mode r w.has.3)) in
      let y = why fin b.mode r w.other in
      rw (w.at, w.there) (record {
        level = rw (q, s.level);
        both = rw q (both_set (Alike kind tasks (cond up High b.mode)) tasks _ _ i r _ _ e (run_alike b.mode fin up r w.mine w.other y w.has) (pass_both b.mode fin up a.jobs b.jobs (λ t. let z = y t in (z.0, z.1)) s.both));
      })

  pub ticked_follows : (fin : Bool) (o : Option ℕ) (a b : State) → Follows kind tasks a b → Follows kind tasks (jobwise tasks fin o a) (jobwise tasks fin o b)
  unfolding jobwise
  ticked_follows fin None a b s = resting_follows fin a b s
  ticked_follows fin (Some n) a b s = serving_follows fin (n - 1) (slice_get tasks (n - 1)) a b refl s

  pub idle_there : (i : ℕ) (r : Task) (a b : State) → slice_get tasks i ≡ Some r → slice_get b.jobs i ≡ Some (Idle 0) → Follows kind tasks a b → slice_get a.jobs i ≡ Some (Idle 0)
  idle_there i r a b e n s =
      let w = both_at (Alike kind tasks b.mode) tasks a.jobs b.jobs i r e s.both in
      let y : w.other ≡ Idle 0 = let t = w.there in cc in
      w.at ∙ ap Some (close_idle kind w.mine (subst (Close kind w.mine) y w.has.3))

  pub released_follows : (i : ℕ) (r : Task) (a b : State) → slice_get tasks i ≡ Some r → slice_get b.jobs i ≡ Some (Idle 0) → Follows kind tasks a b → Follows kind tasks (released_at tasks i r a) (released_at tasks i r b)
  released_follows i r a b e n s =
      let w = both_at (Alike kind tasks b.mode) tasks a.jobs b.jobs i r e s.both in
      let y : w.other ≡ Idle 0 = let t = w.there in cc in
      let act = fit_active kind b.mode r 0 (subst (Fit kind b.mode r) y w.has.2) in
      let f = fit_released kind b.mode r w.has.0 act in
      record {
        level = s.level;
        both = rw s.level (both_set (Alike kind tasks b.mode) tasks a.jobs b.jobs i r _ _ e (w.has.0, f, f, close_self kind b.mode r f) s.both);
      }
