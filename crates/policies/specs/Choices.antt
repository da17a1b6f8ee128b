-- The pick of a policy that is chosen at run time.
use Rattle.policies.specs.declared.choice.Order.{Order}
use Rattle.policies.specs.declared.choice.Order.TheVariants.{FixedOrder, EarliestDeadline, LeastLaxity}
use Rattle.policies.specs.declared.choice.Choice.{Choice}
use Rattle.policies.specs.declared.choice.Choice.TheVariants.{Plain, HighFirst, Shortened, HighFirstShortened}
use Rattle.policies.specs.Picks.{Pick}
use Rattle.policies.specs.Leasts.{least}
use Rattle.policies.specs.Figures.{by_rank, by_deadline, by_laxity}
use Rattle.policies.specs.Layers.{high_first, shortened}

-- the pick by a figure
abbrev pub order_picks : Order → Pick
order_picks (FixedOrder p) ts m xs = least (by_rank p.by.figures) ts xs
order_picks (EarliestDeadline p) ts m xs = least by_deadline ts xs
order_picks (LeastLaxity p) ts m xs = least (by_laxity m) ts xs

-- the pick with the layers chosen
abbrev pub choice_picks : Choice → Pick
choice_picks (Plain p) ts m xs = order_picks p ts m xs
choice_picks (HighFirst p) ts m xs = order_picks p.below ts m (high_first ts m xs)
choice_picks (Shortened p) ts m xs = order_picks p.below (shortened p.deadlines.figures m ts) m xs
choice_picks (HighFirstShortened p) ts m xs = order_picks p.below.below (shortened p.below.deadlines.figures m ts) m (high_first ts m xs)
