-- One task and its job: what a tick and a release keep.
use Rattle.std.proofs.Common.{◌≡◌, ℕ, ◌-◌, ◌<◌, ◌≤◌, Bool, true, false, cond, not, ◌||◌, eqb, refl, ap, subst, arith}
use Rattle.std.proofs.lemmas.Bool.{true≢false, false≢true, cond_both, eqb-true, not-true, not_from_false}
use Rattle.std.proofs.lemmas.Bool.Decides.{nat_tests}
use Rattle.task_table.specs.declared.task.Task.{Task}
use Rattle.task_table.specs.declared.mode.Mode.{Mode}
use Rattle.task_table.specs.declared.mode.Mode.TheVariants.{Low, High}
use Rattle.jobs.specs.declared.job.Job.{Job}
use Rattle.jobs.specs.declared.job.Job.TheVariants.{Absent, Idle, Ready, Dropped}
use Rattle.jobs.specs.declared.kind.Kind.{Kind}
use Rattle.jobs.specs.declared.kind.Kind.TheVariants.{Sporadic, Periodic}
use Rattle.task_table.specs.declared.task.Criticality.{Criticality}
use Rattle.task_table.specs.declared.task.Criticality as criticality
use Rattle.task_table.specs.Tasks.{Right}
use Rattle.jobs.specs.Tasks.{high_criticality, is_high, budget, active, longest_wait, first_wait}
use Rattle.jobs.specs.Jobs.{fits_job, late_job, doomed_job, due_job}
use Rattle.policies.specs.Picks.{seen}
use Rattle.task_laws.specs.Systems.{closer, simulates_job}
use Rattle.task_laws.proofs.Jobwise.{overruns, ticked_job}

-- a task that is not high has one budget
pub low_one : (r : Task) → Right r → is_high r ≡ false → r.budget_low ≡ r.budget_high
unfolding is_high
low_one r R h = go r.criticality refl h
  where
    go : (c : Criticality) → r.criticality ≡ c → high_criticality c ≡ false → r.budget_low ≡ r.budget_high
    go criticality.TheVariants.Low e h = R.low_has_one_budget e
    go criticality.TheVariants.High e h = absurd (true≢false h)

pub data Fit (k : Kind) (m : Mode) (r : Task) : Job → Type 0 where
  idle : {w : ℕ} → active m r ≡ true → w ≤ longest_wait k r → Fit k m r (Idle w)
  ready : {w l : ℕ} → active m r ≡ true → 1 ≤ l → w ≤ r.period → l ≤ budget m r → Fit k m r (Ready w l)
  dropped : active m r ≡ false → Fit k m r Dropped

pub fit_in : (k : Kind) (m : Mode) (r : Task) (x : Job) → fits_job k m r x ≡ true → Fit k m r x
fit_in k m r Absent h = absurd (false≢true h)
fit_in k m r (Idle w) h = idle (grind (arith, nat_tests)) (grind (arith, nat_tests))
fit_in k m r (Ready w l) h = ready (grind (arith, nat_tests)) (grind (arith, nat_tests)) (grind (arith, nat_tests)) (grind (arith, nat_tests))
fit_in k m r Dropped h = dropped (not-true (active m r) h)

pub fit_out : (k : Kind) (m : Mode) (r : Task) {x : Job} → Fit k m r x → fits_job k m r x ≡ true
fit_out k m r (idle a b) = grind (arith, nat_tests)
fit_out k m r (ready a b c d) = grind (arith, nat_tests)
fit_out k m r (dropped a) = not_from_false (active m r) a

pub data Close (k : Kind) : Job → Job → Type 0 where
  idles : {w v : ℕ} → closer k w v ≡ true → Close k (Idle w) (Idle v)
  readies : {w l : ℕ} → Close k (Ready w l) (Ready w l)
  droppeds : Close k Dropped Dropped

pub close_in : (k : Kind) (m : Mode) (r : Task) {x : Job} (y : Job) → Fit k m r x → simulates_job k x y ≡ true → Close k x y
close_in k m r Absent (idle a b) h = absurd (false≢true h)
close_in k m r (Idle v) (idle a b) h = idles h
close_in k m r (Ready v n) (idle a b) h = absurd (false≢true h)
close_in k m r Dropped (idle a b) h = absurd (false≢true h)
close_in k m r Absent (ready a b c d) h = absurd (false≢true h)
close_in k m r (Idle v) (ready a b c d) h = absurd (false≢true h)
close_in k m r (Ready v n) (ready {w} {l} a b c d) h =
    let e : w ≡ v = grind (arith, nat_tests) in
    let f : l ≡ n = grind (arith, nat_tests) in
    subst (λ (a : ℕ). Close k (Ready w l) (Ready a n)) e (subst (λ (b : ℕ). Close k (Ready w l) (Ready w b)) f readies)
close_in k m r Dropped (ready a b c d) h = absurd (false≢true h)
close_in k m r Absent (dropped a) h = absurd (false≢true h)
close_in k m r (Idle v) (dropped a) h = absurd (false≢true h)
close_in k m r (Ready v n) (dropped a) h = absurd (false≢true h)
close_in k m r Dropped (dropped a) h = droppeds

pub close_out : (k : Kind) {x y : Job} → Close k x y → simulates_job k x y ≡ true
close_out k (idles h) = h
close_out k (readies {w} {l}) = grind (arith, nat_tests)
close_out k droppeds = refl

closer_self : (k : Kind) (w : ℕ) → closer k w w ≡ true
closer_self Sporadic w = grind (arith, nat_tests)
closer_self Periodic w = grind (arith, nat_tests)

closer_through : (k : Kind) (u v w : ℕ) → closer k u v ≡ true → closer k v w ≡ true → closer k u w ≡ true
closer_through Sporadic u v w a b = grind (arith, nat_tests)
closer_through Periodic u v w a b = grind (arith, nat_tests)

closer_less : (k : Kind) (v w : ℕ) → closer k v w ≡ true → closer k (v - 1) (w - 1) ≡ true
closer_less Sporadic v w a = grind (arith, nat_tests)
closer_less Periodic v w a = grind (arith, nat_tests)

closer_zero : (k : Kind) (v : ℕ) → closer k v 0 ≡ true → v ≡ 0
closer_zero Sporadic v a = grind (arith, nat_tests)
closer_zero Periodic v a = grind (arith, nat_tests)

pub close_self : (k : Kind) (m : Mode) (r : Task) {x : Job} → Fit k m r x → Close k x x
close_self k m r (idle {w} a b) = idles (closer_self k w)
close_self k m r (ready a b c d) = readies
close_self k m r (dropped a) = droppeds

pub close_through : (k : Kind) {x y z : Job} → Close k x y → Close k y z → Close k x z
close_through k (idles {w = u} {v = v} a) (idles {v = w} b) = idles (closer_through k u v w a b)
close_through k readies readies = readies
close_through k droppeds droppeds = droppeds

pub close_seen : (k : Kind) {x y : Job} → Close k x y → seen x ≡ seen y
close_seen k (idles a) = refl
close_seen k readies = refl
close_seen k droppeds = refl

-- a task that may be released there may be released here
pub close_idle : (k : Kind) (x : Job) → Close k x (Idle 0) → x ≡ Idle 0
close_idle k Absent c = elim c [ ]
close_idle k (Idle w) (idles h) = ap Idle (closer_zero k w h)
close_idle k (Ready w l) c = elim c [ ]
close_idle k Dropped c = elim c [ ]

pub close_late : (k : Kind) (r : Task) {x y : Job} → Close k x y → late_job r x ≡ late_job r y
close_late k r (idles a) = refl
close_late k r readies = refl
close_late k r droppeds = refl

pub close_doomed : (k : Kind) (m : Mode) (r : Task) {x y : Job} → Close k x y → doomed_job m r x ≡ doomed_job m r y
close_doomed k m r (idles a) = refl
close_doomed k m r readies = refl
close_doomed k m r droppeds = refl

pub close_due : (k : Kind) {x y : Job} → Close k x y → due_job k x ≡ due_job k y
close_due Sporadic c = refl
close_due Periodic (idles {w} {v} a) = ap (λ (n : ℕ). eqb n 0) (eqb-true w v a)
close_due Periodic readies = refl
close_due Periodic droppeds = refl

pub close_overruns : (k : Kind) (m : Mode) (r : Task) {x y : Job} → Close k x y → overruns m r x ≡ overruns m r y
close_overruns k Low r (idles a) = refl
close_overruns k Low r readies = refl
close_overruns k Low r droppeds = refl
close_overruns k High r c = refl

-- a tick keeps the order
pub close_ticked : (k : Kind) (fin up own : Bool) (r : Task) {x y : Job} → Close k x y → Close k (ticked_job fin up own r x) (ticked_job fin up own r y)
close_ticked k fin false own r (idles {w} {v} a) = idles (closer_less k w v a)
close_ticked k fin true own r (idles {w} {v} a) = go (is_high r)
  where
    go : (h : Bool) → Close k (cond (not h) Dropped (Idle (w - 1))) (cond (not h) Dropped (Idle (v - 1)))
    go true = idles (closer_less k w v a)
    go false = droppeds
close_ticked k fin true own r (readies {w} {l}) = cond_both (is_high r) _ _ (λ z. Close k z z) (λ _. readies) (λ _. droppeds)
close_ticked k fin false false r readies = readies
close_ticked k fin false true r (readies {w} {l}) = cond_both (fin || eqb l 1) _ _ (λ z. Close k z z) (λ _. idles (closer_self k (w - 1))) (λ _. readies)
close_ticked k fin up own r droppeds = droppeds

longest_wait_t : (k : Kind) (r : Task) → r.period ≤ longest_wait k r
longest_wait_t Sporadic r = omega arith
longest_wait_t Periodic r = omega arith

-- a tick keeps what fits
pub fit_stay : (k : Kind) (m : Mode) (fin own : Bool) (r : Task) {x : Job} → Fit k m r x → Fit k m r (ticked_job fin false own r x)
fit_stay k m fin own r (idle {w} a b) = idle a (omega arith)
fit_stay k m fin false r (ready a b c d) = ready a b (omega arith) d
fit_stay k m fin true r (ready {w} {l} a b c d) = cond_both (fin || eqb l 1) _ _ (Fit k m r) (λ e. idle a (omega (arith, longest_wait_t k r))) (λ e. ready a (grind (arith, nat_tests)) (omega arith) (omega arith))
fit_stay k m fin own r (dropped a) = dropped a

pub fit_rise : (k : Kind) (own : Bool) (r : Task) → Right r → (own ≡ true → r.budget_low < r.budget_high) → {x : Job} → Fit k Low r x → Fit k High r (ticked_job false true own r x)
fit_rise k own r R h (idle {w} a b) = go (is_high r) refl
  where
    go : (t : Bool) → is_high r ≡ t → Fit k High r (cond (not t) Dropped (Idle (w - 1)))
    go true e = idle e (omega arith)
    go false e = dropped e
fit_rise k false r R h (ready {w} {l} a b c d) = cond_both (is_high r) _ _ (Fit k High r) (λ e. ready e (omega arith) (omega arith) (omega (arith, R.budgets))) (λ e. dropped e)
fit_rise k true r R h (ready {w} {l} a b c d) = let g = h refl in cond_both (is_high r) _ _ (Fit k High r) (λ e. ready e (omega arith) (omega arith) (omega (arith, R.budgets))) (λ e. dropped e)
fit_rise k own r R h (dropped a) = absurd (true≢false a)

pub fit_released : (k : Kind) (m : Mode) (r : Task) → Right r → active m r ≡ true → Fit k m r (Ready r.period (budget m r))
fit_released k Low r R a = ready a R.runs (omega arith) (omega arith)
fit_released k High r R a = ready a (omega (arith, R.runs, R.budgets)) (omega arith) (omega arith)

pub fit_active : (k : Kind) (m : Mode) (r : Task) (w : ℕ) → Fit k m r (Idle w) → active m r ≡ true
fit_active k m r w (idle a b) = a

pub fit_first : (k : Kind) (r : Task) → Fit k Low r (Idle (first_wait k r))
fit_first Sporadic r = idle refl (omega arith)
fit_first Periodic r = idle refl (omega arith)
