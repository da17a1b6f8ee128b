-- What a closure says of a task and its job.
use Rattle.std.specs.Prelude.{◌≡◌}
use Rattle.std.specs.Fn.{Shared}
use Rattle.std.specs.Borrow.{Bor}
use Rattle.task_table.specs.declared.task.Task.{Task}
use Rattle.jobs.specs.declared.job.Job.{Job}

-- each answer of the closure is that of the function
abbrev pub Answers : {F R : Type 0} → Shared F (Bor Task × (Job × Unit {0})) R → F → (Task → Job → R) → Type 0
Answers {F} {R} g f by = (t : Bor Task) (x : Job) (r : R) → g.post f (t, (x, tt)) r → r ≡ by t.now x
