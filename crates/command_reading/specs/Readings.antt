-- The words behind a command, taken up one by one.
use Rattle.std.specs.Prelude.{ℕ, Bool, true, false, cond, List, [], ◌∷◌, Some, None, Ok, Err, vec_items, Option, Result}
use Rattle.std.specs.Option.{option_map, ok_or}
use Rattle.command_options.specs.Choices.{Chosen, unchosen, with_kind, with_order, with_ranks, with_shorten, with_high_first, with_porcelain, chosen_in}
use Rattle.command_options.specs.Named.{Word, first_named}
use Rattle.command_options.specs.Options.{key_word, keys, flag_word, flags, kind_word, kinds, order_word, orders}
use Rattle.number_list.specs.Lists.{listed}
use Rattle.table_text.specs.Figures.{value_within}
use Rattle.table_source.specs.Sources.{From, source, is_option, from_source}
use Rattle.command_options.specs.declared.options.Key.{Key}
use Rattle.command_options.specs.declared.options.Key.TheVariants as key
use Rattle.command_options.specs.declared.options.Flag.{Flag}
use Rattle.command_options.specs.declared.options.Flag.TheVariants as flag
use Rattle.command_reading.specs.declared.bounds.CheckBounds.{CheckBounds}
use Rattle.command_reading.specs.declared.reading.Reading.{Reading}
use Rattle.command_reading.specs.declared.verb.Verb.{Verb}
use Rattle.command_reading.specs.Misuses.{Wrong, unknown_option, not_here, one_too_many, bad_value, then}
use Rattle.command_reading.specs.Verbs.{takes_key, takes_flag}

-- how a check goes
pub record Bounds : Type 0 where
  pub nodes : ℕ
  pub visits : ℕ
  pub require_schedulable : Bool
  pub quiet : Bool

-- without any option
abbrev pub unbounded : Bounds
unbounded = record { nodes = 4096; visits = 65535; require_schedulable = false; quiet = false }

abbrev pub with_nodes : ℕ → Bounds → Bounds
with_nodes n b = record { nodes = n; visits = b.visits; require_schedulable = b.require_schedulable; quiet = b.quiet }

abbrev pub with_visits : ℕ → Bounds → Bounds
with_visits n b = record { nodes = b.nodes; visits = n; require_schedulable = b.require_schedulable; quiet = b.quiet }

abbrev pub with_requirement : Bounds → Bounds
with_requirement b = record { nodes = b.nodes; visits = b.visits; require_schedulable = true; quiet = b.quiet }

abbrev pub with_quiet : Bounds → Bounds
with_quiet b = record { nodes = b.nodes; visits = b.visits; require_schedulable = b.require_schedulable; quiet = true }

-- what was read so far; an option that waits has its value in the next word
pub record Read : Type 0 where
  pub from : Option From
  pub chosen : Chosen
  pub bounds : Bounds
  pub events : Option (List ℕ)
  pub waiting : Option Key

abbrev pub nothing_read : Read
nothing_read = record { from = None; chosen = unchosen; bounds = unbounded; events = None; waiting = None }

-- the same with other choices
abbrev pub chosen_anew : Read → Chosen → Read
chosen_anew r c = record { from = r.from; chosen = c; bounds = r.bounds; events = r.events; waiting = r.waiting }

-- the same with another check
abbrev pub bounded_anew : Read → Bounds → Read
bounded_anew r b = record { from = r.from; chosen = r.chosen; bounds = b; events = r.events; waiting = r.waiting }

abbrev pub with_flag : Read → Flag → Read
with_flag r flag.HighFirst = chosen_anew r (with_high_first r.chosen)
with_flag r flag.Porcelain = chosen_anew r (with_porcelain r.chosen)
with_flag r flag.RequireSchedulable = bounded_anew r (with_requirement r.bounds)
with_flag r flag.Quiet = bounded_anew r (with_quiet r.bounds)

abbrev pub with_events : Read → List ℕ → Read
with_events r ns = record { from = r.from; chosen = r.chosen; bounds = r.bounds; events = Some ns; waiting = r.waiting }

abbrev pub with_waiting : Read → Option Key → Read
with_waiting r k = record { from = r.from; chosen = r.chosen; bounds = r.bounds; events = r.events; waiting = k }

abbrev pub with_from : Read → From → Read
with_from r f = record { from = Some f; chosen = r.chosen; bounds = r.bounds; events = r.events; waiting = r.waiting }

-- the list that an option's value writes
abbrev pub list_given : Key → Word → Result (List ℕ) Wrong
list_given k w = ok_or (listed w) (bad_value k w)

-- the number that an option's value writes
abbrev pub number_given : Key → Word → Result ℕ Wrong
number_given k w = ok_or (value_within 1000000 w) (bad_value k w)

-- an option's value is taken up
abbrev pub with_value : Read → Key → Word → Result Read Wrong
with_value r key.Kind w = then (ok_or (first_named kind_word kinds w) (bad_value key.Kind w)) (λ k. Ok (chosen_anew r (with_kind k r.chosen)))
with_value r key.Policy w = then (ok_or (first_named order_word orders w) (bad_value key.Policy w)) (λ o. Ok (chosen_anew r (with_order o r.chosen)))
with_value r key.Ranks w = then (list_given key.Ranks w) (λ ns. Ok (chosen_anew r (with_ranks ns r.chosen)))
with_value r key.Shorten w = then (list_given key.Shorten w) (λ ns. Ok (chosen_anew r (with_shorten ns r.chosen)))
with_value r key.Events w = then (list_given key.Events w) (λ ns. Ok (with_events r ns))
with_value r key.Nodes w = then (number_given key.Nodes w) (λ n. Ok (bounded_anew r (with_nodes n r.bounds)))
with_value r key.Visits w = then (number_given key.Visits w) (λ n. Ok (bounded_anew r (with_visits n r.bounds)))

-- an option is taken up where the command has it: a flag at once, any other with its value
abbrev pub with_key : Verb → Read → Word → Option Key → Result Read Wrong
with_key v r w None = Err (unknown_option w)
with_key v r w (Some k) = cond (takes_key v k) (Ok (with_waiting r (Some k))) (Err (not_here w))

abbrev pub with_named : Verb → Read → Word → Option Flag → Result Read Wrong
with_named v r w None = with_key v r w (first_named key_word keys w)
with_named v r w (Some f) = cond (takes_flag v f) (Ok (with_flag r f)) (Err (not_here w))

abbrev pub with_option : Verb → Read → Word → Result Read Wrong
with_option v r w = with_named v r w (first_named flag_word flags w)

-- one file at most
abbrev pub with_file : Read → Option From → Word → Result Read Wrong
with_file r None w = Ok (with_from r (source w))
with_file r (Some f) w = Err (one_too_many w)

-- one word more: the value of an option that waits, an option, or a file
abbrev pub with_word : Verb → Read → Option Key → Word → Result Read Wrong
with_word v r (Some k) w = with_value (with_waiting r None) k w
with_word v r None w = cond (is_option w) (with_option v r w) (with_file r r.from w)

abbrev pub with_words : Verb → Read → List Word → Result Read Wrong
with_words v r [] = Ok r
with_words v r (w ∷ ws) = then (with_word v r r.waiting w) (λ s. with_words v s ws)

-- the code's reading in the same terms

abbrev pub bounds_in : CheckBounds → Bounds
bounds_in b = record { nodes = b.nodes; visits = b.visits; require_schedulable = b.require_schedulable; quiet = b.quiet }

abbrev pub read_so_far : Reading → Read
read_so_far r = record { from = option_map from_source r.source; chosen = chosen_in r.settings; bounds = bounds_in r.bounds; events = option_map vec_items r.events; waiting = r.waiting }
