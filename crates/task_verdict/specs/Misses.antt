-- Deadlines that are missed: which tasks have a late job, and that none ever has.
use Rattle.std.specs.Prelude.{◌≡◌, ℕ, ◌+◌, false, cond, List, [], ◌∷◌}
use Rattle.std.specs.List.{AllByRecursion}
use Rattle.task_table.specs.declared.task.Task.{Task}
use Rattle.jobs.specs.declared.kind.Kind.{Kind}
use Rattle.jobs.specs.declared.job.Job.{Job}
use Rattle.jobs.specs.Jobs.{late_job}
use Rattle.job_state.specs.States.{first, late}
use Rattle.policies.specs.Picks.{Pick}
use Rattle.transition.specs.Runs.{way}
use Rattle.task_laws.specs.Systems.{meaning}

-- whatever events are made from the first state on, accepted or refused, in no state on the way is a job late
abbrev pub NeverMisses : Pick → Kind → List Task → Type 0
NeverMisses pick kind tasks = (es : List ℕ) → AllByRecursion (λ s. late tasks s ≡ false) (way (meaning pick kind tasks) (first kind tasks) es)

-- the numbers of the tasks whose job is late, where k tasks come before these
abbrev pub late_numbers : ℕ → List Task → List Job → List ℕ
late_numbers k [] xs = []
late_numbers k (t ∷ ts) [] = []
late_numbers k (t ∷ ts) (x ∷ xs) = cond (late_job t x) ((k + 1) ∷ late_numbers (k + 1) ts xs) (late_numbers (k + 1) ts xs)
