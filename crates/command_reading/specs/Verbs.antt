-- How commands are spelled, and what they take.
use Rattle.std.specs.Prelude.{Bool, true, false, ◌||◌, List, [], ◌∷◌, codes}
use Rattle.command_options.specs.Named.{Word}
use Rattle.command_options.specs.declared.options.Key.{Key}
use Rattle.command_options.specs.declared.options.Key.TheVariants as key
use Rattle.command_options.specs.declared.options.Flag.{Flag}
use Rattle.command_options.specs.declared.options.Flag.TheVariants as flag
use Rattle.command_reading.specs.declared.verb.Verb.{Verb}
use Rattle.command_reading.specs.declared.verb.Verb.TheVariants as verb

abbrev pub verb_word : Verb → Word
verb_word verb.Help = codes "help"
verb_word verb.Table = codes "table"
verb_word verb.Run = codes "run"
verb_word verb.Check = codes "check"

abbrev pub verbs : List Verb
verbs = verb.Help ∷ verb.Table ∷ verb.Run ∷ verb.Check ∷ []

abbrev pub is_run : Verb → Bool
is_run verb.Help = false
is_run verb.Table = false
is_run verb.Run = true
is_run verb.Check = false

abbrev pub is_check : Verb → Bool
is_check verb.Help = false
is_check verb.Table = false
is_check verb.Run = false
is_check verb.Check = true

-- both say how the table is run
abbrev pub has_settings : Verb → Bool
has_settings v = is_run v || is_check v

-- whether the command has the option
abbrev pub takes_key : Verb → Key → Bool
takes_key v key.Kind = has_settings v
takes_key v key.Policy = has_settings v
takes_key v key.Ranks = has_settings v
takes_key v key.Shorten = has_settings v
takes_key v key.Events = is_run v
takes_key v key.Nodes = is_check v
takes_key v key.Visits = is_check v

abbrev pub takes_flag : Verb → Flag → Bool
takes_flag v flag.HighFirst = has_settings v
takes_flag v flag.Porcelain = has_settings v
takes_flag v flag.RequireSchedulable = is_check v
takes_flag v flag.Quiet = is_check v
