use Rattle.tracing.proofs.Chains.{Writing}
use Rattle.tracing.proofs.tracing.write_events.Given as goal

abbrev pub invariant-loop-i : goal.invariant-loop-i
invariant-loop-i l = Writing l.visits l.number l.initial.list l.at l.i l.list
