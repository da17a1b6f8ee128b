use Rattle.std.proofs.Common.{◌≡◌, ◌+◌, ◌≤◌, true, length, vec_items}
use Rattle.verdict.specs.Failures.{Forces}
use Rattle.verdict.proofs.Forcing.{left}
use Rattle.verdict.proofs.failing.force.Given as goal

-- the events so far are forced and lead to a doomed state, and few are left
abbrev pub invariant-loop-forced : goal.invariant-loop-forced
invariant-loop-forced g l =
    let M = g.S.System.meaning l.initial.run.system in
    (l.run.system ≡ l.initial.run.system)
    × (M.doomed l.run.state ≡ true)
    × Forces M l.initial.run.state (vec_items l.forced) l.run.state
    × (length (vec_items l.forced) + left M l.run.state ≤ 1151)

abbrev pub decreases-loop-forced : goal.decreases-loop-forced
decreases-loop-forced g l = left (g.S.System.meaning l.initial.run.system) l.run.state
