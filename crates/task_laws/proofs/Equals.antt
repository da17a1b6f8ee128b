-- In the periodic kind a state simulates itself alone.
use Rattle.std.proofs.Common.{◌≡◌, true, eqb, List, [], ◌∷◌, refl, ap}
use Rattle.std.proofs.lemmas.Bool.{and_parts, eqb-true, false≢true}
use Rattle.jobs.specs.declared.job.Job.{Job}
use Rattle.jobs.specs.declared.job.Job.TheVariants.{Absent, Idle, Ready, Dropped}
use Rattle.jobs.specs.declared.kind.Kind.TheVariants.{Periodic}
use Rattle.job_state.proofs.Sames.{same_state}
use Rattle.task_laws.specs.Systems.{simulates_job, simulates_jobs, simulates}
use Rattle.task_laws.specs.Claims.{PeriodicItself}
use Rattle.task_laws.proofs.Follows.{same_mode_true}

same_job : (x y : Job) → simulates_job Periodic x y ≡ true → x ≡ y
same_job Absent Absent h = refl
same_job Absent (Idle v) h = absurd (false≢true h)
same_job Absent (Ready v n) h = absurd (false≢true h)
same_job Absent Dropped h = absurd (false≢true h)
same_job (Idle w) Absent h = absurd (false≢true h)
same_job (Idle w) (Idle v) h = ap Idle (eqb-true w v h)
same_job (Idle w) (Ready v n) h = absurd (false≢true h)
same_job (Idle w) Dropped h = absurd (false≢true h)
same_job (Ready w l) Absent h = absurd (false≢true h)
same_job (Ready w l) (Idle v) h = absurd (false≢true h)
same_job (Ready w l) (Ready v n) h = let p = and_parts (eqb w v) (eqb l n) h in let a = eqb-true w v p.0 in let b = eqb-true l n p.1 in cc
same_job (Ready w l) Dropped h = absurd (false≢true h)
same_job Dropped Absent h = absurd (false≢true h)
same_job Dropped (Idle v) h = absurd (false≢true h)
same_job Dropped (Ready v n) h = absurd (false≢true h)
same_job Dropped Dropped h = refl

same_jobs : (xs ys : List Job) → simulates_jobs Periodic xs ys ≡ true → xs ≡ ys
same_jobs [] [] h = refl
same_jobs [] (y ∷ ys) h = absurd (false≢true h)
same_jobs (x ∷ xs) [] h = absurd (false≢true h)
same_jobs (x ∷ xs) (y ∷ ys) h =
    let p = and_parts (simulates_job Periodic x y) (simulates_jobs Periodic xs ys) h in
    let a = same_job x y p.0 in
    let b = same_jobs xs ys p.1 in
    cc

pub periodic_itself : PeriodicItself
unfolding simulates
periodic_itself tasks a b h =
    let p = and_parts _ _ (and_parts _ _ h).1 in
    same_state a b (same_mode_true a.mode b.mode p.0) (same_jobs a.jobs b.jobs p.1)
