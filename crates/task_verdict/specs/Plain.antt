-- The late run of any system whose states are those of tasks, with its state alone.
use Rattle.job_state.specs.declared.state.State.{State}
use Rattle.verdict.specs.declared.judgement.Failure.{Failure}
use Rattle.task_verdict.specs.declared.finding.LateRun.{LateRun}

-- the late run without the system
abbrev pub state_alone : {S R : Type 0} → Failure S State R → LateRun
state_alone f = record { events = f.events; forced = f.forced; state = f.run.state }
