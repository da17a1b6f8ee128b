-- What is forced, and that a due task's number is small.
use Rattle.std.proofs.Common.{◌≡◌, ℕ, ◌≤◌, Bool, true, false, List, length, IfSome, Option, sym, ap, arith}
use Rattle.task_table.specs.declared.task.Task.{Task}
use Rattle.jobs.specs.declared.job.Job.{Job}
use Rattle.jobs.specs.declared.kind.Kind.{Kind}
use Rattle.job_state.specs.declared.state.State.{State}
use Rattle.job_state.specs.Lists.{lowest}
use Rattle.job_state.specs.States.{fits, late}
use Rattle.policies.specs.declared.best.Best.{Best}
use Rattle.policies.specs.Picks.{Pick}
use Rattle.policies.specs.Leasts.{best}
use Rattle.policies.specs.Chosen.{nth_within}
use Rattle.task_laws.specs.Systems.{by_doom, target, forced_to, forced}
use Rattle.task_laws.proofs.Founds.{Lowest, nobody, somebody, lowest_is}

-- the target of a state that fits and is not late says which event is forced
pub forced_by_target : (pick : Pick) (kind : Kind) (tasks : List Task) (s : State) → true ≡ fits kind tasks s → false ≡ late tasks s → (o : Option Best) → o ≡ best (by_doom s.mode) 0 tasks s.jobs → forced_to pick kind tasks o s ≡ forced pick kind tasks s
unfolding forced target
forced_by_target pick kind tasks s f l o e =
    let p : fits kind tasks s ≡ true = sym f in
    let q : late tasks s ≡ false = sym l in
    rw (p, q) (ap (λ (b : Option Best). forced_to pick kind tasks b s) e)

-- a due task's number is small
pub lowest_small : (p : Task → Job → Bool) (tasks : List Task) (xs : List Job) → length tasks ≤ 8 → IfSome (lowest p 0 tasks xs) (λ d. d ≤ 8)
lowest_small p tasks xs few = go (lowest_is p 0 tasks xs)
  where
    go : {o : Option ℕ} → Lowest p 0 tasks xs o → IfSome o (λ d. d ≤ 8)
    go (nobody h) = tt
    go (somebody {n} {i} c w) = let h = nth_within tasks i w.the_task w.has.row in omega arith
