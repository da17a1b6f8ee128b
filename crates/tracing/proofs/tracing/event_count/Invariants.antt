use Rattle.std.proofs.Common.{◌+◌, ◌≤◌, length}
use Rattle.tracing.proofs.Chains.{Counting}
use Rattle.tracing.proofs.tracing.event_count.Given as goal

abbrev pub invariant-loop-visit : goal.invariant-loop-visit
invariant-loop-visit l = (1 ≤ l.at) × (l.at ≤ length l.visits) × (l.count + l.at ≤ l.number) × Counting l.visits l.number l.at l.count

abbrev pub decreases-loop-visit : goal.decreases-loop-visit
decreases-loop-visit l = l.at
