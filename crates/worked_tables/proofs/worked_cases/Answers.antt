use Rattle.std.proofs.Common.{refl}
use Rattle.jobs.specs.Tasks.{is_high}
use Rattle.job_state.specs.States.{first, fits, late, doomed, due}
use Rattle.job_state.specs.Releases.{release_answer, released}
use Rattle.job_state.specs.Ticks.{ticked}
use Rattle.task_laws.specs.Systems.{late_in, doomed_in, target, gives, forced}
use Rattle.worked_tables.specs.Worked.{Worked}
use Rattle.worked_tables.proofs.worked_cases.Goals as goal

-- the definitions compute both sides
worked : Worked
unfolding is_high first fits late doomed due release_answer released ticked late_in doomed_in target gives forced
worked = record { runs = refl; drafts = refl }

pub returns : goal.returns
returns c = worked
