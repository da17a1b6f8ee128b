-- The task of a number runs: what the code leaves is what the steps say.
use Rattle.std.proofs.Common.{◌≡◌, ℕ, zero, suc, ◌-◌, ◌≤◌, Bool, true, false, cond, ◌&&◌, ◌||◌, List, [], ◌∷◌, map, length, get_or, set, Some, None, Option, sym, refl, ap, ◌∙◌, arith}
use Rattle.std.proofs.lemmas.Bool.{or_parts, or_from, and_parts, false≢true, true≢false}
use Rattle.std.proofs.lemmas.Bool.Decides.{nat_tests}
use Rattle.task_table.specs.declared.mode.Mode.{Mode}
use Rattle.task_table.specs.declared.mode.Mode.TheVariants.{Low, High}
use Rattle.task_table.specs.declared.task.Criticality as criticality
use Rattle.task_table.specs.declared.task.Task.{Task}
use Rattle.task_table.specs.Tables.{numbered}
use Rattle.jobs.specs.declared.kind.Kind.{Kind}
use Rattle.jobs.specs.declared.job.Job.{Job}
use Rattle.jobs.specs.declared.job.Job.TheVariants.{Absent, Idle, Ready, Dropped}
use Rattle.job_state.specs.declared.state.State.{State}
use Rattle.jobs.specs.Jobs.{fits_job}
use Rattle.job_state.specs.Lists.{every, any, over}
use Rattle.jobs.specs.Moves.{waited, run, ended, used_up, last_budget}
use Rattle.job_state.specs.Ticks.{raised_job, over_budget, waits_fallen, with_job, raised, settled, served, ticked}
use Rattle.job_state.proofs.Sames.{same_state}
use Rattle.job_state.proofs.Numbers.{numbered_at, job_at}

-- what is read as a task where there is none
abbrev pub no_task : Task
no_task = record { criticality = criticality.TheVariants.Low; period = 0; deadline = 0; budget_low = 0; budget_high = 0; offset = 0 }

module _ (ts : List Task) (n : ℕ) (s : State) (fin : Bool) (d : Task) (h : 1 ≤ n) (k : n ≤ length ts) (x : Job) (e : x ≡ run (get_or s.jobs (n - 1) Absent)) where
  served_is : served ts fin (numbered ts n) n s ≡ settled ts fin (get_or ts (n - 1) d) x n (with_job s n x)
  served_is =
      let q : run (get_or s.jobs (n - 1) Absent) ≡ x = sym e in
      rw (numbered_at ts n d h k) (ap (λ (y : Job). settled ts fin (get_or ts (n - 1) d) (run y) n (with_job s n (run y))) (job_at s.jobs n h) ∙ ap (λ (y : Job). settled ts fin (get_or ts (n - 1) d) y n (with_job s n y)) q)

  pub serve_ends : true ≡ (fin || (used_up x && last_budget s.mode (get_or ts (n - 1) d))) → (z : Job) → z ≡ ended x → (W : length (set (set s.jobs (n - 1) x) (n - 1) z) ≡ 8) → record { mode = s.mode; jobs = set (set s.jobs (n - 1) x) (n - 1) z; wide = W } ≡ served ts fin (numbered ts n) n s
  serve_ends b z q W = same_state _ (with_job (with_job s n x) n (ended x)) refl (ap (set (set s.jobs (n - 1) x) (n - 1)) q) ∙ sym (served_is ∙ (rw (sym b)))

  pub serve_raises : false ≡ (fin || (used_up x && last_budget s.mode (get_or ts (n - 1) d))) → true ≡ used_up x → (ys : List Job) → ys ≡ over raised_job ts (set s.jobs (n - 1) x) → (W : length ys ≡ 8) → record { mode = High; jobs = ys; wide = W } ≡ served ts fin (numbered ts n) n s
  serve_raises b c ys q W = same_state _ (raised ts (with_job s n x)) refl q ∙ sym (served_is ∙ (ap (λ (v : Bool). cond v (with_job (with_job s n x) n (ended x)) (cond (used_up x) (raised ts (with_job s n x)) (with_job s n x))) (sym b) ∙ ap (λ (v : Bool). cond v (raised ts (with_job s n x)) (with_job s n x)) (sym c)))

  pub serve_stays : false ≡ (fin || (used_up x && last_budget s.mode (get_or ts (n - 1) d))) → false ≡ used_up x → (W : length (set s.jobs (n - 1) x) ≡ 8) → record { mode = s.mode; jobs = set s.jobs (n - 1) x; wide = W } ≡ served ts fin (numbered ts n) n s
  serve_stays b c W = same_state _ (with_job s n x) refl refl ∙ sym (served_is ∙ (ap (λ (v : Bool). cond v (with_job (with_job s n x) n (ended x)) (cond (used_up x) (raised ts (with_job s n x)) (with_job s n x))) (sym b) ∙ ap (λ (v : Bool). cond v (raised ts (with_job s n x)) (with_job s n x)) (sym c)))

-- a used-up job that does not end is one of low mode
pub low_mode : (fin u : Bool) (m : Mode) (t : Task) → false ≡ (fin || (u && last_budget m t)) → true ≡ u → m ≡ Low
low_mode fin u Low t b c = refl
low_mode true u High t b c = absurd (false≢true b)
low_mode false true High t b c = absurd (false≢true b)
low_mode false false High t b c = absurd (true≢false c)

run_within : (t : Task) (x : Job) → over_budget t x ≡ false → over_budget t (run x) ≡ false
run_within t Absent h = h
run_within t (Idle w) h = h
run_within t (Ready w l) h = grind (arith, nat_tests)
run_within t Dropped h = h

-- a job that has run has no more left than before
pub within_run : (ts : List Task) (xs : List Job) (i : ℕ) → any over_budget ts xs ≡ false → any over_budget ts (set xs i (run (get_or xs i Absent))) ≡ false
within_run [] xs i h = refl
within_run (t ∷ ts) [] i h = refl
within_run (t ∷ ts) (x ∷ xs) zero h = let p = or_parts (over_budget t x) _ h in or_from _ _ (run_within t x p.0) p.1
within_run (t ∷ ts) (x ∷ xs) (suc i) h = let p = or_parts (over_budget t x) _ h in or_from _ _ p.0 (within_run ts xs i p.1)

fit_within : (k : Kind) (t : Task) (x : Job) → fits_job k Low t x ≡ true → over_budget t (waited x) ≡ false
fit_within k t Absent h = refl
fit_within k t (Idle w) h = refl
fit_within k t (Ready w l) h = grind (arith, nat_tests)
fit_within k t Dropped h = refl

-- in a state that fits, no job has more left than its budget
pub fits_within : (k : Kind) (ts : List Task) (xs : List Job) → every (fits_job k Low) ts xs ≡ true → any over_budget ts (map waited xs) ≡ false
fits_within k [] xs h = refl
fits_within k (t ∷ ts) [] h = refl
fits_within k (t ∷ ts) (x ∷ xs) h = let p = and_parts (fits_job k Low t x) _ h in or_from _ _ (fit_within k t x p.0) (fits_within k ts xs p.1)

-- in a state that fits, each task has a job
pub every_few : (p : Task → Job → Bool) (ts : List Task) (xs : List Job) → every p ts xs ≡ true → length ts ≤ length xs
every_few p [] xs h = omega arith
every_few p (t ∷ ts) [] h = absurd (false≢true h)
every_few p (t ∷ ts) (x ∷ xs) h = omega (arith, every_few p ts xs (and_parts (p t x) _ h).1)

-- the waits have fallen, and nobody runs
module _ (ts : List Task) (fin : Bool) (s : State) (xs : List Job) (e : xs ≡ map waited s.jobs) (W : length xs ≡ 8) where
  fallen_is : record { mode = s.mode; jobs = xs; wide = W } ≡ waits_fallen s
  fallen_is = same_state _ _ refl e

  pub tick_none : record { mode = s.mode; jobs = xs; wide = W } ≡ ticked ts fin None s
  unfolding ticked
  tick_none = fallen_is

  pub tick_nobody : (n : ℕ) → numbered ts n ≡ None → record { mode = s.mode; jobs = xs; wide = W } ≡ ticked ts fin (Some n) s
  unfolding ticked
  tick_nobody n q = fallen_is ∙ sym (ap (λ (o : Option Task). served ts fin o n (waits_fallen s)) q)

  pub tick_served : (n : ℕ) (v : State) → v ≡ served ts fin (numbered ts n) n (record { mode = s.mode; jobs = xs; wide = W }) → v ≡ ticked ts fin (Some n) s
  unfolding ticked
  tick_served n v q = q ∙ ap (served ts fin (numbered ts n) n) fallen_is
