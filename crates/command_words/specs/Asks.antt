-- What the words of a command line ask for.
use Rattle.std.specs.Prelude.{ℕ, cond, List, [], ◌∷◌, Some, None, Ok, Err, vec_items, Option, Result}
use Rattle.std.specs.Option.{unwrap_or}
use Rattle.command_words.specs.declared.command.Command.{Command}
use Rattle.command_words.specs.declared.command.Command.TheVariants.{Help, Table, Run, Check}
use Rattle.command_options.specs.declared.options.Key.{Key}
use Rattle.command_reading.specs.declared.verb.Verb.{Verb}
use Rattle.command_reading.specs.declared.verb.Verb.TheVariants as verb
use Rattle.command_options.specs.Choices.{Chosen, loose_ranks, chosen_in}
use Rattle.command_reading.specs.Misuses.{Wrong, unknown_command, one_too_many, no_value, no_events, ranks_need_fixed, then}
use Rattle.command_options.specs.Named.{Word, first_named}
use Rattle.command_reading.specs.Verbs.{verb_word, verbs}
use Rattle.command_reading.specs.Readings.{Bounds, Read, nothing_read, with_words, bounds_in}
use Rattle.table_source.specs.Sources.{From, input, from_source}

pub data Asked : Type 0 where
  help : Asked
  table : From → Asked
  run : From → Chosen → List ℕ → Asked
  check : From → Chosen → Bounds → Asked

-- where nothing may follow
abbrev pub alone : Asked → List Word → Result Asked Wrong
alone a [] = Ok a
alone a (w ∷ ws) = Err (one_too_many w)

-- no option waits for its value when the words end
abbrev pub settled : Read → Option Key → Result Read Wrong
settled r None = Ok r
settled r (Some k) = Err (no_value k)

abbrev pub all_read : Verb → List Word → Result Read Wrong
all_read v ws = then (with_words v nothing_read ws) (λ r. settled r r.waiting)

abbrev pub table_asked : Read → Result Asked Wrong
table_asked r = Ok (table (unwrap_or r.from input))

-- only the fixed order has ranks
abbrev pub run_with : Read → Option (List ℕ) → Result Asked Wrong
run_with r None = Err no_events
run_with r (Some es) = cond (loose_ranks r.chosen) (Err ranks_need_fixed) (Ok (run (unwrap_or r.from input) r.chosen es))

abbrev pub run_asked : Read → Result Asked Wrong
run_asked r = run_with r r.events

abbrev pub check_asked : Read → Result Asked Wrong
check_asked r = cond (loose_ranks r.chosen) (Err ranks_need_fixed) (Ok (check (unwrap_or r.from input) r.chosen r.bounds))

abbrev pub asked_of : Word → List Word → Option Verb → Result Asked Wrong
asked_of w ws None = Err (unknown_command w)
asked_of w ws (Some verb.Help) = alone help ws
asked_of w ws (Some verb.Table) = then (all_read verb.Table ws) table_asked
asked_of w ws (Some verb.Run) = then (all_read verb.Run ws) run_asked
asked_of w ws (Some verb.Check) = then (all_read verb.Check ws) check_asked

-- what the words ask for; without any, help
abbrev pub asked : List Word → Result Asked Wrong
asked [] = Ok help
asked (w ∷ ws) = asked_of w ws (first_named verb_word verbs w)

-- the code's commands in the same terms
abbrev pub command_heard : Command → Asked
command_heard Help = help
command_heard (Table s) = table (from_source s)
command_heard (Run s t es) = run (from_source s) (chosen_in t) (vec_items es)
command_heard (Check s t b) = check (from_source s) (chosen_in t) (bounds_in b)
