-- Tasks and jobs by their numbers, which count from 1.
use Rattle.std.proofs.Common.{◌≡◌, ℕ, zero, suc, ◌-◌, ◌<◌, ◌≤◌, ◌≢◌, ◌⊎◌, List, length, get_or, set, Some, None, Err, Option, sym, refl, ap, ◌∙◌, inl, inr, arith}
use Rattle.std.proofs.lemmas.Option.{slice_get-get_or, slice_get_past}
use Rattle.std.proofs.lemmas.List.{get_or_past, set_past, get_or-set_other}
use Rattle.std.proofs.lemmas.Bool.{lt-ltb, cases_lt}
use Rattle.task_table.specs.declared.task.Task.{Task}
use Rattle.task_table.specs.Tables.{numbered}
use Rattle.jobs.specs.declared.job.Job.{Job}
use Rattle.jobs.specs.declared.job.Job.TheVariants.{Absent}
use Rattle.job_state.specs.declared.state.State.{State}
use Rattle.jobs.specs.declared.refusal.JobRefusal.TheVariants.{NoTask}
use Rattle.job_state.specs.Lists.{job_numbered}
use Rattle.jobs.specs.Moves.{job_answer, released_job}
use Rattle.job_state.specs.Releases.{answer_by, release_answer, released_by, released}
use Rattle.job_state.proofs.Sames.{same_state}

pub numbered_at : (ts : List Task) (n : ℕ) (d : Task) → 1 ≤ n → n ≤ length ts → numbered ts n ≡ Some (get_or ts (n - 1) d)
numbered_at ts n d h k = rw (lt-ltb 0 n h) (slice_get-get_or ts (n - 1) d (omega arith))

pub unnumbered : (ts : List Task) (n : ℕ) → (n ≡ 0) ⊎ (length ts < n) → numbered ts n ≡ None
unnumbered ts n (inl e) = rw e
unnumbered ts n (inr h) = let z : 0 < n = omega arith in rw (lt-ltb 0 n z) (slice_get_past ts (n - 1) (omega arith))

pub job_at : (xs : List Job) (n : ℕ) → 1 ≤ n → job_numbered xs n ≡ get_or xs (n - 1) Absent
job_at xs n h = rw (lt-ltb 0 n h)

module _ (ts : List Task) (n : ℕ) (s : State) where
  far_by : (o : Option Task) → 8 < n → (answer_by o (job_numbered s.jobs n) ≡ Err NoTask) × (released_by o n s ≡ s)
  far_by None h = (refl, refl)
  far_by (Some t) h =
      let past : length s.jobs ≤ n - 1 = let w = s.wide in omega arith in
      let e : job_numbered s.jobs n ≡ Absent = job_at s.jobs n (omega arith) ∙ get_or_past s.jobs (n - 1) Absent past in
      (ap job_answer e, same_state _ _ refl (set_past s.jobs (n - 1) _ past))

  pub release_far : (n ≡ 0) ⊎ ((length ts < n) ⊎ (8 < n)) → (release_answer ts n s ≡ Err NoTask) × (released ts n s ≡ s)
  unfolding release_answer released
  release_far (inl e) = let u = unnumbered ts n (inl e) in (rw u, rw u)
  release_far (inr (inl h)) = let u = unnumbered ts n (inr h) in (rw u, rw u)
  release_far (inr (inr h)) = far_by (numbered ts n) h

  pub release_near : (d : Task) → 1 ≤ n → n ≤ length ts → (y : Job) → y ≡ released_job s.mode (get_or ts (n - 1) d) (get_or s.jobs (n - 1) Absent) → (W : length (set s.jobs (n - 1) y) ≡ 8) → (release_answer ts n s ≡ job_answer (get_or s.jobs (n - 1) Absent)) × (record { mode = s.mode; jobs = set s.jobs (n - 1) y; wide = W } ≡ released ts n s)
  unfolding release_answer released
  release_near d h k y e W =
      let at = numbered_at ts n d h k in
      let x = job_at s.jobs n h in
      (rw (at, x), rw at (same_state _ _ refl (ap (set s.jobs (n - 1)) (e ∙ ap (released_job s.mode (get_or ts (n - 1) d)) (sym x)))))

-- a release leaves the jobs of the other numbers
module _ (n : ℕ) (s : State) (k : ℕ) (ne : k ≡ n → ⊥) where
  others_at : (i : ℕ) (y : Job) → k ≡ suc i → 1 ≤ n → job_numbered (set s.jobs (n - 1) y) k ≡ job_numbered s.jobs k
  others_at i y e h =
      let some : 1 ≤ k = omega arith in
      let apart : k - 1 ≢ n - 1 = λ q. ne (omega arith) in
      job_at (set s.jobs (n - 1) y) k some ∙ (get_or-set_other s.jobs (n - 1) (k - 1) y Absent apart ∙ sym (job_at s.jobs k some))

  others_by : (y : Job) (i : ℕ) → k ≡ i → 1 ≤ n → job_numbered (set s.jobs (n - 1) y) k ≡ job_numbered s.jobs k
  others_by y zero e h = rw e
  others_by y (suc i) e h = others_at i y e h

  from_1 : (ts : List Task) (t : Task) → numbered ts n ≡ Some t → 1 ≤ n
  from_1 ts t e = elim (cases_lt 0 n) [ inl h ↦ h | inr h ↦ let z : numbered ts n ≡ None = unnumbered ts n (inl (omega arith)) in let u : ◌≡◌ {A = ℕ} 0 1 = cc in absurd (omega arith) ]

  released_others_by : (ts : List Task) (o : Option Task) → numbered ts n ≡ o → job_numbered (released_by o n s).jobs k ≡ job_numbered s.jobs k
  released_others_by ts None e = refl
  released_others_by ts (Some t) e = others_by _ k refl (from_1 ts t e)

  pub released_others : (ts : List Task) (v : State) → v ≡ released ts n s → job_numbered v.jobs k ≡ job_numbered s.jobs k
  unfolding released
  released_others ts v e = ap (λ (u : State). job_numbered u.jobs k) e ∙ released_others_by ts (numbered ts n) refl
