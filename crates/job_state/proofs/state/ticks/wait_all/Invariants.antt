use Rattle.std.proofs.Common.{◌≡◌, ◌++◌, map, take, drop}
use Rattle.jobs.specs.Moves.{waited}
use Rattle.job_state.proofs.state.ticks.wait_all.Given as goal

abbrev pub invariant-loop-job : goal.invariant-loop-job
invariant-loop-job l = take l.job-index l.jobs ++ map waited (drop l.job-index l.jobs) ≡ map waited l.initial.jobs
