-- The policy that settings name.
use Rattle.std.specs.Prelude.{◌≡◌, ℕ, ◌-◌, Bool, true, false, cond, ◌&&◌, List, [], ◌∷◌, ◌++◌, length, replicate, Some, None, Ok, Err, Option, Result, ◌==◌, nat_le}
use Rattle.command_options.specs.Choices.{Chosen}
use Rattle.command_options.specs.declared.options.Key.{Key}
use Rattle.command_options.specs.declared.options.Key.TheVariants.{Ranks, Shorten}
use Rattle.command_options.specs.declared.settings.OrderName.{OrderName}
use Rattle.command_options.specs.declared.settings.OrderName.TheVariants.{Fixed, Deadline, Laxity}
use Rattle.policies.specs.declared.choice.Order.{Order}
use Rattle.policies.specs.declared.choice.Order.TheVariants.{FixedOrder, EarliestDeadline, LeastLaxity}
use Rattle.policies.specs.declared.choice.Choice.{Choice}
use Rattle.policies.specs.declared.choice.Choice.TheVariants.{Plain, HighFirst, Shortened, HighFirstShortened}
use Rattle.policy_choice.specs.declared.wrong_count.WrongCount.{WrongCount}

-- the figure that is gone by
pub data GoesBy : Type 0 where
  ranks : List ℕ → GoesBy
  deadline : GoesBy
  laxity : GoesBy

-- a policy: its figure, and the layers over it
pub record Selected : Type 0 where
  pub by : GoesBy
  pub high_first : Bool
  pub shorten : Option (List ℕ)

abbrev pub layers : GoesBy → Bool → Option (List ℕ) → Selected
layers g h s = record { by = g; high_first = h; shorten = s }

-- a number at each of eight places, 0 at those past the list
abbrev pub padded : List ℕ → List ℕ
padded ns = ns ++ replicate (8 - length ns) 0

-- the numbers of an option's list, where there is one for each task
abbrev pub one_each : Key → List ℕ → ℕ → Result (List ℕ) WrongCount
one_each k ns tasks = cond (length ns == tasks && nat_le (length ns) 8) (Ok (padded ns)) (Err (record { option = k; given = length ns; tasks = tasks }))

-- what follows from a result, where there is one
abbrev pub then : {X Y : Type 0} → Result X WrongCount → (X → Result Y WrongCount) → Result Y WrongCount
then (Ok x) f = f x
then (Err e) f = Err e

-- without ranks the order of the rows
abbrev pub ranks_for : Option (List ℕ) → ℕ → Result (List ℕ) WrongCount
ranks_for None tasks = Ok (1 ∷ 2 ∷ 3 ∷ 4 ∷ 5 ∷ 6 ∷ 7 ∷ 8 ∷ [])
ranks_for (Some ns) tasks = one_each Ranks ns tasks

abbrev pub selected_ranks : Chosen → ℕ → Result (List ℕ) WrongCount
selected_ranks c tasks = ranks_for c.ranks tasks

abbrev pub order_for : OrderName → Chosen → ℕ → Result GoesBy WrongCount
order_for Fixed c tasks = then (selected_ranks c tasks) (λ ns. Ok (ranks ns))
order_for Deadline c tasks = Ok deadline
order_for Laxity c tasks = Ok laxity

abbrev pub selected_order : Chosen → ℕ → Result GoesBy WrongCount
selected_order c tasks = order_for c.order c tasks

abbrev pub deadlines_for : Option (List ℕ) → ℕ → Result (Option (List ℕ)) WrongCount
deadlines_for None tasks = Ok None
deadlines_for (Some ns) tasks = then (one_each Shorten ns tasks) (λ figures. Ok (Some figures))

abbrev pub selected_deadlines : Chosen → ℕ → Result (Option (List ℕ)) WrongCount
selected_deadlines c tasks = deadlines_for c.shorten tasks

-- the policy for a table with that many tasks
abbrev pub selected : Chosen → ℕ → Result Selected WrongCount
selected c tasks = then (selected_order c tasks) (λ g. then (selected_deadlines c tasks) (λ s. Ok (layers g c.high_first s)))

-- the code's policies in the same terms

abbrev pub order_seen : Order → GoesBy
order_seen (FixedOrder p) = ranks p.by.figures
order_seen (EarliestDeadline p) = deadline
order_seen (LeastLaxity p) = laxity

abbrev pub choice_seen : Choice → Selected
choice_seen (Plain o) = layers (order_seen o) false None
choice_seen (HighFirst p) = layers (order_seen p.below) true None
choice_seen (Shortened p) = layers (order_seen p.below) false (Some p.deadlines.figures)
choice_seen (HighFirstShortened p) = layers (order_seen p.below.below) true (Some p.below.deadlines.figures)

abbrev pub Says : {X Y : Type 0} → (X → Y) → Result Y WrongCount → Result X WrongCount → Type 0
Says f d (Ok x) = d ≡ Ok (f x)
Says f d (Err e) = d ≡ Err e
