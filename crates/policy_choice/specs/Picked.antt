-- What a selected policy picks.
use Rattle.std.specs.Prelude.{◌≡◌, ℕ, cond, List, Some, None, Option}
use Rattle.task_table.specs.declared.mode.Mode.{Mode}
use Rattle.task_table.specs.declared.task.Task.{Task}
use Rattle.jobs.specs.declared.job.Job.{Job}
use Rattle.policies.specs.Choices.{choice_picks}
use Rattle.policies.specs.Figures.{by_rank, by_deadline, by_laxity}
use Rattle.policies.specs.Layers.{high_first, shortened}
use Rattle.policies.specs.Leasts.{least}
use Rattle.policies.specs.Picks.{Pick}
use Rattle.policies.specs.declared.choice.Choice.{Choice}
use Rattle.policy_choice.specs.Chooses.{GoesBy, ranks, deadline, laxity, Selected, choice_seen}

-- the ready task of the least figure
abbrev pub least_picks : GoesBy → Pick
least_picks (ranks ns) ts m xs = least (by_rank ns) ts xs
least_picks deadline ts m xs = least by_deadline ts xs
least_picks laxity ts m xs = least (by_laxity m) ts xs

-- the tasks as the figure sees them
abbrev pub shown : Option (List ℕ) → Mode → List Task → List Task
shown None m ts = ts
shown (Some figures) m ts = shortened figures m ts

abbrev pub selected_picks : Selected → Pick
selected_picks s ts m xs = least_picks s.by (shown s.shorten m ts) m (cond s.high_first (high_first ts m xs) xs)

-- the policy picks what is selected, whatever the tasks, the mode and the jobs are
abbrev pub PicksSo : Choice → Type 0
PicksSo c = (ts : List Task) (m : Mode) (xs : List Job) → choice_picks c ts m xs ≡ selected_picks (choice_seen c) ts m xs
