-- What the words of a command line ask for.
use Rattle.std.specs.Prelude.{cond, List, [], ◌∷◌, Ok, Err, codes, Result}
use Rattle.std.specs.Str.{bytes_eq}
use Rattle.table_source.specs.Sources.{Word, From, input, is_option, source, from_source}
use Rattle.commands.specs.declared.command.Command.{Command}
use Rattle.commands.specs.declared.command.Command.TheVariants.{Help, Table}
use Rattle.commands.specs.declared.command.Misuse.{Misuse}
use Rattle.commands.specs.declared.command.Misuse.TheVariants.{UnknownCommand, UnknownOption, OneTooMany}

-- what is asked for, or the first word that cannot be understood
pub data Asked : Type 0 where
  help : Asked
  table : From → Asked
  unknown_command : Word → Asked
  unknown_option : Word → Asked
  one_too_many : Word → Asked

-- where nothing may follow
abbrev pub alone : Asked → List Word → Asked
alone a [] = a
alone a (w ∷ ws) = one_too_many w

-- what stands behind the word 'table'
abbrev pub table_of : List Word → Asked
table_of [] = table input
table_of (w ∷ ws) = cond (is_option w) (unknown_option w) (alone (table (source w)) ws)

-- what the words ask for; without any, help
abbrev pub asked : List Word → Asked
asked [] = help
asked (w ∷ ws) = cond (bytes_eq w (codes "help")) (alone help ws) (cond (bytes_eq w (codes "table")) (table_of ws) (unknown_command w))

-- the code's answers in the same terms
abbrev pub command_heard : Command → Asked
command_heard Help = help
command_heard (Table s) = table (from_source s)

abbrev pub heard : Result Command Misuse → Asked
heard (Ok c) = command_heard c
heard (Err (UnknownCommand w)) = unknown_command w.now
heard (Err (UnknownOption w)) = unknown_option w.now
heard (Err (OneTooMany w)) = one_too_many w.now
