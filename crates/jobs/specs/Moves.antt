-- What happens to one job: its release, and the steps of a tick that concern it alone.
use Rattle.std.specs.Prelude.{◌-◌, Bool, true, false, cond, Ok, Err, Result, ◌==◌}
use Rattle.task_table.specs.declared.mode.Mode.{Mode}
use Rattle.task_table.specs.declared.mode.Mode.TheVariants.{Low, High}
use Rattle.task_table.specs.declared.task.Task.{Task}
use Rattle.jobs.specs.declared.job.Job.{Job}
use Rattle.jobs.specs.declared.job.Job.TheVariants.{Absent, Idle, Ready, Dropped}
use Rattle.jobs.specs.declared.refusal.JobRefusal.{JobRefusal}
use Rattle.jobs.specs.declared.refusal.JobRefusal.TheVariants.{NoTask, TaskDropped, StillReady, Waiting}
use Rattle.jobs.specs.Tasks.{budget}

-- whether such a job may be released, or why not
abbrev pub job_answer : Job → Result (Unit {0}) JobRefusal
job_answer Absent = Err NoTask
job_answer (Idle w) = cond (w == 0) (Ok tt) (Err Waiting)
job_answer (Ready w l) = Err StillReady
job_answer Dropped = Err TaskDropped

-- the job after that: a refused one is as it was
abbrev pub released_job : Mode → Task → Job → Job
released_job m t Absent = Absent
released_job m t (Idle w) = cond (w == 0) (Ready t.period (budget m t)) (Idle w)
released_job m t (Ready w l) = Ready w l
released_job m t Dropped = Dropped

-- the job a tick later: its wait has fallen by one, not below 0
abbrev pub waited : Job → Job
waited Absent = Absent
waited (Idle w) = Idle (w - 1)
waited (Ready w l) = Ready (w - 1) l
waited Dropped = Dropped

-- the job once it has run for a tick
abbrev pub run : Job → Job
run Absent = Absent
run (Idle w) = Idle w
run (Ready w l) = Ready w (l - 1)
run Dropped = Dropped

-- the job once it has ended
abbrev pub ended : Job → Job
ended Absent = Absent
ended (Idle w) = Idle w
ended (Ready w l) = Idle w
ended Dropped = Dropped

-- whether the job has nothing left
abbrev pub used_up : Job → Bool
used_up Absent = false
used_up (Idle w) = false
used_up (Ready w l) = l == 0
used_up Dropped = false

-- whether there is no greater budget than the one of this mode
abbrev pub last_budget : Mode → Task → Bool
last_budget Low t = t.budget_low == t.budget_high
last_budget High t = true
