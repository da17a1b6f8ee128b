-- A doomed job, and how a tick brings it nearer to its deadline.
use Rattle.std.proofs.Common.{◌≡◌, ℕ, suc, ◌+◌, ◌-◌, ◌<◌, ◌≤◌, Bool, true, false, ◌||◌, eqb, ltb, leb, sym, refl, ◌∙◌, arith}
use Rattle.std.proofs.lemmas.Bool.{false≢true}
use Rattle.std.proofs.lemmas.Bool.Decides.{nat_tests}
use Rattle.task_table.specs.declared.mode.Mode.{Mode}
use Rattle.task_table.specs.declared.mode.Mode.TheVariants.{Low, High}
use Rattle.task_table.specs.declared.task.Task.{Task}
use Rattle.task_table.specs.Tasks.{Right}
use Rattle.jobs.specs.declared.kind.Kind.{Kind}
use Rattle.jobs.specs.declared.job.Job.{Job}
use Rattle.jobs.specs.declared.job.Job.TheVariants.{Absent, Idle, Ready, Dropped}
use Rattle.jobs.specs.Tasks.{is_high}
use Rattle.jobs.specs.Jobs.{late_job, doomed_job}
use Rattle.task_laws.proofs.Jobwise.{extra, overruns, ticked_job, figure}
use Rattle.task_laws.proofs.Signs.{late_nat, doomed_nat}
use Rattle.task_laws.proofs.Perjob.{low_one, Fit, idle, ready, dropped}

-- what is late is doomed
pub late_lost : (k : Kind) (m : Mode) (r : Task) {x : Job} → Right r → Fit k m r x → late_job r x ≡ true → doomed_job m r x ≡ true
late_lost k m r R (idle a b) h = h
late_lost k m r R (ready {w} {l} a b c d) h =
    let late : leb (w + r.deadline) r.period ≡ true = sym (late_nat r w l) ∙ h in
    doomed_nat m r w l R ∙ grind (arith, nat_tests)
late_lost k m r R (dropped a) h = h

-- a doomed job that is not late, once it is brought a tick nearer
abbrev pub Nearer : Mode → Task → Job → Job → Type 0
Nearer m r x y = (doomed_job m r y ≡ true) × (suc (figure r y) ≡ figure r x)

-- a job that is not picked, or that is picked and goes on
near_ready : (m : Mode) (r : Task) (w n v : ℕ) → Right r → doomed_job m r (Ready w n) ≡ true → late_job r (Ready w n) ≡ false → n ≤ suc v → v ≤ n → 1 ≤ w → Nearer m r (Ready w n) (Ready (w - 1) v)
near_ready m r w n v R h l a b c =
    let lost : ltb (w + r.deadline) ((r.period + n) + extra m r) ≡ true = sym (doomed_nat m r w n R) ∙ h in
    let time : leb (w + r.deadline) r.period ≡ false = sym (late_nat r w n) ∙ l in
    (doomed_nat m r (w - 1) v R ∙ grind (arith, nat_tests), grind (arith, nat_tests))

-- a job that is not late has to wait for its next release
waits : (r : Task) (w n : ℕ) → Right r → late_job r (Ready w n) ≡ false → 1 ≤ w
waits r w n R l =
    let time : leb (w + r.deadline) r.period ≡ false = sym (late_nat r w n) ∙ l in
    let d = R.one_at_a_time in
    grind (arith, nat_tests)

pub near_stay : (m : Mode) (fin own : Bool) (r : Task) (x : Job) → Right r → doomed_job m r x ≡ true → late_job r x ≡ false → (own ≡ true → (fin ≡ false) × (overruns m r x ≡ false)) → Nearer m r x (ticked_job fin false own r x)
near_stay m fin own r Absent R h l o = absurd (false≢true h)
near_stay m fin own r (Idle w) R h l o = absurd (false≢true h)
near_stay m fin false r (Ready w n) R h l o = near_ready m r w n n R h l (omega arith) (omega arith) (waits r w n R l)
near_stay Low fin true r (Ready w n) R h l o =
    let lost : ltb (w + r.deadline) ((r.period + n) + extra Low r) ≡ true = sym (doomed_nat Low r w n R) ∙ h in
    let time : leb (w + r.deadline) r.period ≡ false = sym (late_nat r w n) ∙ l in
    let e : (fin || eqb n 1) ≡ false = let p = o refl in grind (arith, nat_tests) in
    rw e (near_ready Low r w n (n - 1) R h l (omega arith) (omega arith) (waits r w n R l))
near_stay High fin true r (Ready w n) R h l o =
    let lost : ltb (w + r.deadline) ((r.period + n) + extra High r) ≡ true = sym (doomed_nat High r w n R) ∙ h in
    let time : leb (w + r.deadline) r.period ≡ false = sym (late_nat r w n) ∙ l in
    let e : (fin || eqb n 1) ≡ false = let p = o refl in grind (arith, nat_tests) in
    rw e (near_ready High r w n (n - 1) R h l (omega arith) (omega arith) (waits r w n R l))
near_stay m fin own r Dropped R h l o = absurd (false≢true h)

pub near_rise : (r : Task) (x : Job) → Right r → doomed_job Low r x ≡ true → late_job r x ≡ false → overruns Low r x ≡ true → Nearer High r x (ticked_job false true true r x)
near_rise r Absent R h l o = absurd (false≢true h)
near_rise r (Idle w) R h l o = absurd (false≢true h)
near_rise r (Ready w n) R h l o =
    let e : is_high r ≡ true = go (is_high r) refl in
    let lost : ltb (w + r.deadline) ((r.period + n) + extra Low r) ≡ true = sym (doomed_nat Low r w n R) ∙ h in
    let time : leb (w + r.deadline) r.period ≡ false = sym (late_nat r w n) ∙ l in
    let c = waits r w n R l in
    let g = R.budgets in
    rw e (doomed_nat High r (w - 1) ((n - 1) + (r.budget_high - r.budget_low)) R ∙ grind (arith, nat_tests), grind (arith, nat_tests))
  where
    go : (t : Bool) → is_high r ≡ t → t ≡ true
    go true e = refl
    go false e = let q = low_one r R e in grind (arith, nat_tests)
near_rise r Dropped R h l o = absurd (false≢true h)

pub overrun_grows : (m : Mode) (r : Task) (x : Job) → overruns m r x ≡ true → (m ≡ Low) × (r.budget_low < r.budget_high)
overrun_grows Low r Absent h = absurd (false≢true h)
overrun_grows Low r (Idle w) h = absurd (false≢true h)
overrun_grows Low r (Ready w l) h = (refl, grind (arith, nat_tests))
overrun_grows Low r Dropped h = absurd (false≢true h)
overrun_grows High r x h = absurd (false≢true h)

-- a job's time to deadline, where it is not late
pub figure_bounds : (k : Kind) (m : Mode) (r : Task) {x : Job} → Right r → Fit k m r x → doomed_job m r x ≡ true → late_job r x ≡ false → (1 ≤ figure r x) × (figure r x ≤ 127)
figure_bounds k m r R (idle a b) h l = absurd (false≢true h)
figure_bounds k m r R (ready {w} {l = n} a b c d) h l =
    let time : leb (w + r.deadline) r.period ≡ false = sym (late_nat r w n) ∙ l in
    (grind (arith, nat_tests), let p = R.one_at_a_time in let q = R.short_period in omega arith)
figure_bounds k m r R (dropped a) h l = absurd (false≢true h)
