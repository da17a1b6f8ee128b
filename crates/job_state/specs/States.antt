-- Whole states: the first one, what fits, and what is late, doomed or due in them.
use Rattle.std.specs.Prelude.{◌≡◌, ℕ, zero, suc, Bool, List, [], ◌∷◌, length, refl}
use Rattle.std.proofs.Common.{ap, ◌∙◌}
use Rattle.task_table.specs.declared.mode.Mode.{Mode}
use Rattle.task_table.specs.declared.mode.Mode.TheVariants.{Low}
use Rattle.task_table.specs.declared.task.Task.{Task}
use Rattle.jobs.specs.declared.kind.Kind.{Kind}
use Rattle.jobs.specs.declared.job.Job.{Job}
use Rattle.jobs.specs.declared.job.Job.TheVariants.{Absent, Idle}
use Rattle.job_state.specs.declared.state.State.{State}
use Rattle.jobs.specs.Tasks.{first_wait}
use Rattle.jobs.specs.Jobs.{late_job, doomed_job, due_job, fits_job}
use Rattle.job_state.specs.Lists.{every, any}

-- n jobs: an idle one for each task, and absent ones after them
abbrev pub first_jobs : Kind → List Task → ℕ → List Job
first_jobs k ts zero = []
first_jobs k [] (suc n) = Absent ∷ first_jobs k [] n
first_jobs k (t ∷ ts) (suc n) = Idle (first_wait k t) ∷ first_jobs k ts n

pub length_first_jobs : (k : Kind) (ts : List Task) (n : ℕ) → length (first_jobs k ts n) ≡ n
length_first_jobs k ts zero = refl
length_first_jobs k [] (suc n) = ap suc (length_first_jobs k [] n)
length_first_jobs k (t ∷ ts) (suc n) = ap suc (length_first_jobs k ts n)

-- the first state: low, and every task idle
unfoldable pub first : Kind → List Task → State
first k ts = record { mode = Low; jobs = first_jobs k ts 8; wide = length_first_jobs k ts 8 }

-- whether the tasks can be in that state
unfoldable pub fits : Kind → List Task → State → Bool
fits k ts s = every (fits_job k s.mode) ts s.jobs

-- whether some job is late
unfoldable pub late : List Task → State → Bool
late ts s = any late_job ts s.jobs

-- whether some job is doomed
unfoldable pub doomed : List Task → State → Bool
doomed ts s = any (doomed_job s.mode) ts s.jobs

-- whether some task is due
unfoldable pub due : Kind → List Task → State → Bool
due k ts s = any (λ _. due_job k) ts s.jobs

-- the state with other jobs, as many
abbrev pub with_jobs : (s : State) (m : Mode) (xs : List Job) → length xs ≡ length s.jobs → State
with_jobs s m xs e = record { mode = m; jobs = xs; wide = e ∙ s.wide }
