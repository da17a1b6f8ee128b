-- What the layers show to the policy below.
use Rattle.std.specs.Prelude.{ℕ, min, Bool, false, cond, List, [], ◌∷◌}
use Rattle.task_table.specs.declared.mode.Mode.{Mode}
use Rattle.task_table.specs.declared.mode.Mode.TheVariants.{Low, High}
use Rattle.task_table.specs.declared.task.Task.{Task}
use Rattle.jobs.specs.declared.job.Job.{Job}
use Rattle.jobs.specs.declared.job.Job.TheVariants.{Absent, Idle, Ready, Dropped}
use Rattle.jobs.specs.Tasks.{is_high}
use Rattle.job_state.specs.Lists.{any, over}

-- a ready job of a high task
abbrev pub high_ready : Task → Job → Bool
high_ready t Absent = false
high_ready t (Idle w) = false
high_ready t (Ready w l) = is_high t
high_ready t Dropped = false

-- a ready job of a low task is shown as idle with wait 0
abbrev pub hidden : Task → Job → Job
hidden t Absent = Absent
hidden t (Idle w) = Idle w
hidden t (Ready w l) = cond (is_high t) (Ready w l) (Idle 0)
hidden t Dropped = Dropped

-- the jobs as shown: in low mode, while a high task is ready, the ready low tasks are hidden
unfoldable pub high_first : List Task → Mode → List Job → List Job
high_first ts Low xs = cond (any high_ready ts xs) (over hidden ts xs) xs
high_first ts High xs = xs

-- the task with a deadline that is no later than the figure
abbrev pub short : Task → ℕ → Task
short t figure = record { criticality = t.criticality; period = t.period; deadline = min t.deadline figure; budget_low = t.budget_low; budget_high = t.budget_high; offset = t.offset }

-- each task with its own figure; a task without one is not shown
abbrev pub shorts : List ℕ → List Task → List Task
shorts [] ts = []
shorts (f ∷ fs) [] = []
shorts (f ∷ fs) (t ∷ ts) = short t f ∷ shorts fs ts

-- the tasks as shown: in low mode with the shorter deadlines
unfoldable pub shortened : List ℕ → Mode → List Task → List Task
shortened figures Low ts = shorts figures ts
shortened figures High ts = ts
