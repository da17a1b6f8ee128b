-- What is refused, in the order of the tests.
use Rattle.std.proofs.Common.{◌≡◌, ℕ, ◌<◌, true, false, eqb, ◌⊎◌, List, None, Err, Option, ap, inl, inr, arith}
use Rattle.std.proofs.lemmas.Bool.{and_parts, ne_eqb}
use Rattle.task_table.specs.declared.task.Task.{Task}
use Rattle.task_table.specs.Tables.{numbered}
use Rattle.jobs.specs.declared.kind.Kind.{Kind}
use Rattle.job_state.specs.declared.state.State.{State}
use Rattle.job_state.specs.Lists.{job_numbered}
use Rattle.job_state.specs.States.{fits, late}
use Rattle.job_state.specs.Releases.{answer_by, release_answer, released}
use Rattle.job_state.proofs.Numbers.{unnumbered}
use Rattle.policies.specs.Picks.{Pick}
use Rattle.transition.specs.declared.refusal.Refusal.{Refusal}
use Rattle.transition.specs.declared.refusal.Refusal as refusal
use Rattle.task_laws.specs.Systems.{accepted_as, late_in, gives, forced}
use Rattle.task_laws.specs.Claims.{Table}

module _ (pick : Pick) (kind : Kind) (tasks : List Task) (T : Table tasks) where
  pub late_parts : (x : State) → late_in kind tasks x ≡ true → (fits kind tasks x ≡ true) × (late tasks x ≡ true)
  unfolding late_in
  late_parts x e = and_parts _ _ e

  pub unfit : (c : ℕ) (x : State) → fits kind tasks x ≡ false → gives pick kind tasks c x ≡ Err refusal.TheVariants.NotFitting
  unfolding gives
  unfit c x e = rw e

  pub stuck : (c : ℕ) (x : State) → late_in kind tasks x ≡ true → gives pick kind tasks c x ≡ Err refusal.TheVariants.Late
  unfolding gives
  stuck c x e = let p = late_parts x e in let f = p.0 in let l = p.1 in rw (f, l)

  pub punctual : (x : State) → fits kind tasks x ≡ true → late_in kind tasks x ≡ false → late tasks x ≡ false
  unfolding late_in
  punctual x f e = rw f at e

  -- a number that is no event's has no task
  taskless : (c : ℕ) → (c ≡ 0) ⊎ (10 < c) → numbered tasks c ≡ None
  taskless c (inl e) = unnumbered tasks c (inl e)
  taskless c (inr h) = unnumbered tasks c (inr (let f = T.few in omega arith))

  pub lacking : (c : ℕ) (x : State) → fits kind tasks x ≡ true → late_in kind tasks x ≡ false → (c ≡ 0) ⊎ (10 < c) → gives pick kind tasks c x ≡ Err refusal.TheVariants.Lacking
  unfolding gives release_answer
  lacking c x f e h =
      let l = punctual x f e in
      let n = taskless c h in
      let a : eqb c 9 ≡ false = ne_eqb c 9 (λ q. elim h [ inl z ↦ omega arith | inr z ↦ omega arith ]) in
      let b : eqb c 10 ≡ false = ne_eqb c 10 (λ q. elim h [ inl z ↦ omega arith | inr z ↦ omega arith ]) in
      rw (f, l, a, b) (ap (λ (o : Option Task). accepted_as (answer_by o (job_numbered x.jobs c)) (released tasks c x)) n)

  pub unfit_forced : (x : State) → fits kind tasks x ≡ false → forced pick kind tasks x ≡ Err refusal.TheVariants.NotFitting
  unfolding forced
  unfit_forced x e = rw e

  pub late_forced : (x : State) → late_in kind tasks x ≡ true → forced pick kind tasks x ≡ Err refusal.TheVariants.Late
  unfolding forced
  late_forced x e = let p = late_parts x e in let f = p.0 in let l = p.1 in rw (f, l)
