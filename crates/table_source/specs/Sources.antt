-- Where a table is read from, and the words that name it.
use Rattle.std.specs.Prelude.{ℕ, Bool, false, cond, List, [], ◌∷◌, codes, ◌==◌}
use Rattle.std.specs.Str.{bytes_eq}
use Rattle.table_source.specs.declared.source.Source.{Source}
use Rattle.table_source.specs.declared.source.Source.TheVariants.{Input, File}

abbrev pub Word : Type 0
Word = List ℕ

-- where a table is read from: standard input, or the file of that name
pub data From : Type 0 where
  input : From
  file : Word → From

abbrev pub source : Word → From
source w = cond (bytes_eq w (codes "-")) input (file w)

-- an option begins with '-' and is not that sign alone
abbrev pub is_option : Word → Bool
is_option [] = false
is_option (b ∷ []) = false
is_option (b ∷ c ∷ bs) = b == 45

-- the code's sources in the same terms
abbrev pub from_source : Source → From
from_source Input = input
from_source (File w) = file w.now
