-- The figures by which the three policies choose.
use Rattle.std.specs.Prelude.{ℕ, ◌-◌, List, pos, Some, slice_index}
use Rattle.task_table.specs.declared.mode.Mode.{Mode}
use Rattle.jobs.specs.Jobs.{time_to_deadline, worst_laxity}
use Rattle.policies.specs.Leasts.{Figured}

-- the stored rank of the task
abbrev pub by_rank : List ℕ → Figured
by_rank ranks n t w l = Some (pos (slice_index ranks (n - 1)))

-- the time to the deadline
abbrev pub by_deadline : Figured
by_deadline n t w l = Some (time_to_deadline t w)

-- the worst laxity
abbrev pub by_laxity : Mode → Figured
by_laxity m n t w l = Some (worst_laxity m t w l)
