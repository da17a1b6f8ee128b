-- What a word writes of a task.
use Rattle.std.specs.Prelude.{ℕ, ◌+◌, ◌-◌, ◌*◌, Bool, cond, ◌&&◌, List, [], ◌∷◌, Some, None, codes, fold, Option, ◌==◌, nat_le}
use Rattle.std.specs.List.{list_all}
use Rattle.task_table.specs.declared.task.Criticality.{Criticality}
use Rattle.task_table.specs.declared.task.Criticality.TheVariants.{Low, High}
use Rattle.table_text.specs.Pieces.{filled}
use Rattle.table_text.specs.declared.figures.Figure.{Figure}
use Rattle.table_text.specs.declared.figures.Figure.TheVariants.{Period, Deadline, BudgetLow, BudgetHigh, Offset}

-- the place of a figure's word in its line, which counts from 0
abbrev pub place : Figure → ℕ
place Period = 1
place Deadline = 2
place BudgetLow = 3
place BudgetHigh = 4
place Offset = 5

abbrev pub name : Figure → List ℕ
name Period = codes "period"
name Deadline = codes "deadline"
name BudgetLow = codes "low budget"
name BudgetHigh = codes "high budget"
name Offset = codes "offset"

abbrev pub is_digit : ℕ → Bool
is_digit b = nat_le 48 b && nat_le b 57

abbrev pub all_digits : List ℕ → Bool
all_digits bs = list_all is_digit bs

-- a value with one decimal digit more
abbrev pub with_digit : ℕ → ℕ → ℕ
with_digit v b = 10 * v + (b - 48)

-- the number that decimal digits write
abbrev pub numeral : List ℕ → ℕ
numeral bs = fold with_digit 0 bs

-- the number that a word writes in decimal digits, where it is at most that
abbrev pub value_within : ℕ → List ℕ → Option ℕ
value_within most bs = cond (filled bs && (all_digits bs && nat_le (numeral bs) most)) (Some (numeral bs)) None

-- the number that a word writes in decimal digits, where it is at most 255
abbrev pub byte_value : List ℕ → Option ℕ
byte_value bs = value_within 255 bs

-- the criticality that a word names: H or L
abbrev pub level : List ℕ → Option Criticality
level [] = None
level (b ∷ []) = cond (b == 72) (Some High) (cond (b == 76) (Some Low) None)
level (b ∷ c ∷ bs) = None
