-- Every table of right tasks keeps the laws of systems, in either kind and under every policy.
use Rattle.std.specs.Prelude.{◌≡◌, ◌≤◌, true, List, map, length}
use Rattle.std.specs.List.{AllByRecursion}
use Rattle.task_table.specs.declared.mode.Mode.{Mode}
use Rattle.task_table.specs.declared.task.Task.{Task}
use Rattle.task_table.specs.Tasks.{Right}
use Rattle.jobs.specs.declared.kind.Kind.{Kind}
use Rattle.jobs.specs.declared.kind.Kind.TheVariants.{Periodic}
use Rattle.jobs.specs.declared.job.Job.{Job}
use Rattle.job_state.specs.declared.state.State.{State}
use Rattle.policies.specs.Picks.{Pick, seen, PicksReady}
use Rattle.transition.specs.Laws.{Laws}
use Rattle.task_laws.specs.Systems.{simulates, meaning}

-- what every policy keeps
pub record Lawful (pick : Pick) : Type 0 where
  pub ready : (ts : List Task) (m : Mode) (xs : List Job) → PicksReady ts xs (pick ts m xs)
  pub blind : (ts : List Task) (m : Mode) (xs ys : List Job) → map seen xs ≡ map seen ys → pick ts m xs ≡ pick ts m ys

-- what every table keeps
pub record Table (ts : List Task) : Type 0 where
  pub rights : AllByRecursion Right ts
  pub few : length ts ≤ 8

abbrev pub SystemsLawful : Type 0
SystemsLawful = (pick : Pick) → Lawful pick → (kind : Kind) (tasks : List Task) → Table tasks → Laws (meaning pick kind tasks)

-- in the periodic kind a state simulates itself alone
abbrev pub PeriodicItself : Type 0
PeriodicItself = (tasks : List Task) (a b : State) → simulates Periodic tasks a b ≡ true → a ≡ b
