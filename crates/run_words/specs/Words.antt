-- Modes and jobs as scripts read them.
use Rattle.std.specs.Prelude.{ℕ, List, [], ◌++◌, codes, decimal}
use Rattle.task_table.specs.declared.mode.Mode.{Mode}
use Rattle.task_table.specs.declared.mode.Mode.TheVariants.{Low, High}
use Rattle.jobs.specs.declared.job.Job.{Job}
use Rattle.jobs.specs.declared.job.Job.TheVariants.{Absent, Idle, Ready, Dropped}

abbrev pub mode_word : Mode → List ℕ
mode_word Low = codes "LOW"
mode_word High = codes "HIGH"

-- `i` and the wait of an idle task, `r` with wait and time left of a ready one, `d` of a dropped one
abbrev pub job_word : Job → List ℕ
job_word Absent = []
job_word (Idle w) = codes "i" ++ decimal w
job_word (Ready w l) = codes "r" ++ (decimal w ++ (codes "/" ++ decimal l))
job_word Dropped = codes "d"
