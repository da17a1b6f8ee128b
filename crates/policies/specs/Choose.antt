-- The laws of a policy that is chosen at run time, by those of its parts.
use Rattle.std.specs.Prelude.{◌≡◌, List, map}
use Rattle.task_table.specs.declared.mode.Mode.{Mode}
use Rattle.task_table.specs.declared.task.Task.{Task}
use Rattle.jobs.specs.declared.job.Job.{Job}
use Rattle.policies.specs.declared.choice.Order.{Order}
use Rattle.policies.specs.declared.choice.Order.TheVariants.{FixedOrder, EarliestDeadline, LeastLaxity}
use Rattle.policies.specs.declared.choice.Choice.{Choice}
use Rattle.policies.specs.declared.choice.Choice.TheVariants.{Plain, HighFirst, Shortened, HighFirstShortened}
use Rattle.policies.specs.Picks.{seen, PicksReady}
use Rattle.policies.specs.Figures.{by_rank, by_deadline, by_laxity}
use Rattle.policies.specs.Layers.{high_first, shortened}
use Rattle.policies.specs.Choices.{order_picks, choice_picks}
use Rattle.policies.specs.Bests.{least_blind}
use Rattle.policies.specs.Chosen.{least_ready}
use Rattle.policies.specs.Shows.{high_first_ready, high_first_blind, shortened_ready}

pub order_ready : (p : Order) (ts : List Task) (m : Mode) (xs : List Job) → PicksReady ts xs (order_picks p ts m xs)
order_ready (FixedOrder p) ts m xs = least_ready (by_rank p.by.figures) ts xs
order_ready (EarliestDeadline p) ts m xs = least_ready by_deadline ts xs
order_ready (LeastLaxity p) ts m xs = least_ready (by_laxity m) ts xs

pub order_blind : (p : Order) (ts : List Task) (m : Mode) (xs ys : List Job) → map seen xs ≡ map seen ys → order_picks p ts m xs ≡ order_picks p ts m ys
order_blind (FixedOrder p) ts m xs ys h = least_blind (by_rank p.by.figures) ts xs ys h
order_blind (EarliestDeadline p) ts m xs ys h = least_blind by_deadline ts xs ys h
order_blind (LeastLaxity p) ts m xs ys h = least_blind (by_laxity m) ts xs ys h

pub choice_ready : (p : Choice) (ts : List Task) (m : Mode) (xs : List Job) → PicksReady ts xs (choice_picks p ts m xs)
choice_ready (Plain p) ts m xs = order_ready p ts m xs
choice_ready (HighFirst p) ts m xs = high_first_ready ts m xs _ (order_ready p.below ts m (high_first ts m xs))
choice_ready (Shortened p) ts m xs = shortened_ready p.deadlines.figures m ts xs _ (order_ready p.below (shortened p.deadlines.figures m ts) m xs)
choice_ready (HighFirstShortened p) ts m xs = high_first_ready ts m xs _ (shortened_ready p.below.deadlines.figures m ts (high_first ts m xs) _ (order_ready p.below.below (shortened p.below.deadlines.figures m ts) m (high_first ts m xs)))

pub choice_blind : (p : Choice) (ts : List Task) (m : Mode) (xs ys : List Job) → map seen xs ≡ map seen ys → choice_picks p ts m xs ≡ choice_picks p ts m ys
choice_blind (Plain p) ts m xs ys h = order_blind p ts m xs ys h
choice_blind (HighFirst p) ts m xs ys h = order_blind p.below ts m _ _ (high_first_blind ts m xs ys h)
choice_blind (Shortened p) ts m xs ys h = order_blind p.below (shortened p.deadlines.figures m ts) m xs ys h
choice_blind (HighFirstShortened p) ts m xs ys h = order_blind p.below.below (shortened p.below.deadlines.figures m ts) m _ _ (high_first_blind ts m xs ys h)
