-- The lock's laws in one record.
use Rattle.std.proofs.Common.{arith}
use Rattle.transition.specs.Laws.{Laws}
use Rattle.canal_lock.specs.declared.lock.Lock.{Lock}
use Rattle.canal_lock.specs.Locks.{meaning}
use Rattle.canal_lock.specs.Lawful as lock

pub lawful : (l : Lock) → Laws (meaning l)
lawful l = record {
  few_events = omega arith;
  first_fits = lock.first_fits l;
  result_fits = lock.result_fits l;
  accepted_within = lock.accepted_within l;
  unfit_refuses = lock.unfit_refuses l;
  late_refuses = lock.late_refuses l;
  lacking_refused = lock.lacking_refused l;
  refusal_numbered = lock.refusal_numbered l;
  simulates_fits = lock.simulates_fits l;
  simulates_itself = lock.simulates_itself l;
  simulates_through = lock.simulates_through l;
  simulates_events = lock.simulates_events l;
  simulates_doom = lock.simulates_doom l;
  first_not_doomed = lock.first_not_doomed l;
  doomed_fits = lock.doomed_fits l;
  late_doomed = lock.late_doomed l;
  forced_unfit = lock.forced_unfit l;
  forced_late = lock.forced_late l;
  forced_none = lock.forced_none l;
  forced_nears = lock.forced_nears l;
  miss_near = lock.miss_near l;
}
