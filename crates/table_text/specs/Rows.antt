-- The task that a line writes.
use Rattle.std.specs.Prelude.{ℕ, cond, List, [], length, Some, None, Ok, Err, Option, Result, ◌==◌, slice_index_or}
use Rattle.std.specs.Option.{ok_or}
use Rattle.task_table.specs.declared.task.Task.{Task}
use Rattle.table_text.specs.Pieces.{words, bare}
use Rattle.table_text.specs.Figures.{place, byte_value, level}
use Rattle.table_text.specs.declared.figures.Figure.{Figure}
use Rattle.table_text.specs.declared.figures.Figure.TheVariants.{Period, Deadline, BudgetLow, BudgetHigh, Offset}
use Rattle.table_text.specs.declared.fault.Slip.{Slip}
use Rattle.table_text.specs.declared.fault.Slip.TheVariants.{WordCount, NoCriticality, NoByte}

-- what follows from a result, where there is one
abbrev pub then : {X Y E : Type 0} → Result X E → (X → Result Y E) → Result Y E
then (Ok x) f = f x
then (Err e) f = Err e

-- the figure that stands at its place among the words
abbrev pub figure_in : List (List ℕ) → Figure → Result ℕ Slip
figure_in ws f = ok_or (byte_value (slice_index_or ws (place f) [])) (NoByte f)

-- the task that six words write: the first fault tells
abbrev pub six : List (List ℕ) → Result Task Slip
six ws =
    then (ok_or (level (slice_index_or ws 0 [])) NoCriticality) (λ criticality.
    then (figure_in ws Period) (λ period.
    then (figure_in ws Deadline) (λ deadline.
    then (figure_in ws BudgetLow) (λ low.
    then (figure_in ws BudgetHigh) (λ high.
    then (figure_in ws Offset) (λ offset.
    Ok (record { criticality = criticality; period = period; deadline = deadline; budget_low = low; budget_high = high; offset = offset })))))))

abbrev pub some : {E : Type 0} → Result Task E → Result (Option Task) E
some (Ok t) = Ok (Some t)
some (Err e) = Err e

-- the task that the words of a line write, or none where there are none
abbrev pub row_in : List (List ℕ) → Result (Option Task) Slip
row_in ws = cond (length ws == 0) (Ok None) (cond (length ws == 6) (some (six ws)) (Err (WordCount (length ws))))

-- the task of a line, whose comment is no part of it
abbrev pub task_in : List ℕ → Result (Option Task) Slip
task_in line = row_in (words (bare line))
