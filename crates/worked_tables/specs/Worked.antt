-- The table of worked cases: each comes out as it is written here.
use Rattle.std.specs.Prelude.{◌≡◌, ℕ, List, [], ◌∷◌, map, replicate, ℤ, pos, neg_ℤ}
use Rattle.task_table.specs.declared.mode.Mode.TheVariants.{Low, High}
use Rattle.task_table.specs.declared.task.Task.{Task}
use Rattle.jobs.specs.declared.kind.Kind.TheVariants.{Sporadic, Periodic}
use Rattle.jobs.specs.declared.job.Job.TheVariants.{Idle, Ready, Dropped}
use Rattle.worked_tables.specs.Cases.{Case, case, computed, each, accepted, not_doomed, doomed_forcing, already_late}
use Rattle.worked_tables.specs.Rows.{Row, row, added, high, low}

-- task 1 is high, task 2 low
abbrev pub pair : List Task
pair = high 3 3 2 3 0 ∷ low 3 3 2 2 0 ∷ []

-- a number below 0
abbrev pub minus : ℕ → ℤ
minus n = neg_ℤ (pos n)

-- the numbers of the ten events, and one on either side
abbrev pub every_number : List ℕ
every_number = 0 ∷ 1 ∷ 2 ∷ 3 ∷ 4 ∷ 5 ∷ 6 ∷ 7 ∷ 8 ∷ 9 ∷ 10 ∷ 11 ∷ []

-- tasks, kind, events made with their answers, mode, jobs, worst laxities, lateness, further events with their answers
abbrev pub cases : List Case
cases =
    -- a new run has nobody to finish, and tasks without a job do not count as doomed
    case pair Sporadic [] Low (Idle 0 ∷ Idle 0 ∷ []) [] not_doomed ((10, 8) ∷ [])
    -- in the periodic kind both tasks are due, and their releases come before any tick
    ∷ case pair Periodic [] Low (Idle 0 ∷ Idle 0 ∷ []) [] not_doomed ((9, 9) ∷ (10, 9) ∷ [])
    -- a job that uses up its low budget raises the mode and gains; the low task is dropped
    ∷ case pair Sporadic (accepted (1 ∷ 9 ∷ 9 ∷ [])) High (Ready 1 1 ∷ Dropped ∷ []) ((1, pos 0) ∷ []) not_doomed ((2, 5) ∷ [])
    -- a task that has finished waits out its period
    ∷ case pair Sporadic (accepted (1 ∷ 10 ∷ [])) Low (Idle 2 ∷ Idle 0 ∷ []) [] not_doomed ((1, 7) ∷ [])
    -- a ready task is not released again, and there is no third task
    ∷ case pair Sporadic ((1, 0) ∷ (1, 6) ∷ []) Low (Ready 3 2 ∷ Idle 0 ∷ []) ((1, pos 0) ∷ []) not_doomed ((3, 4) ∷ [])
    -- task 1 took a tick that task 2 could not spare
    ∷ case pair Sporadic (accepted (1 ∷ 2 ∷ 9 ∷ 10 ∷ [])) Low (Idle 1 ∷ Ready 1 2 ∷ []) ((2, minus 1) ∷ []) (doomed_forcing 9) []
    -- the forced tick makes task 2 late, and nothing happens any more
    ∷ case pair Sporadic (accepted (1 ∷ 2 ∷ 9 ∷ 10 ∷ 9 ∷ [])) Low (Idle 0 ∷ Ready 0 1 ∷ []) ((2, minus 1) ∷ []) already_late (each 3 every_number)
    -- without tasks a tick is accepted in the first state
    ∷ case [] Sporadic [] Low [] [] not_doomed ((9, 0) ∷ [])
    -- and leads to the same state again
    ∷ case [] Sporadic (accepted (9 ∷ [])) Low [] [] not_doomed []
    ∷ []

-- a task of the longest period
abbrev pub longest : Task
longest = low 127 127 1 1 0

-- the draft so far, the task added, the answer, the draft then
abbrev pub rows : List Row
rows =
    -- the two tasks of the cases can be drafted
    row [] (high 3 3 2 3 0) 0 (high 3 3 2 3 0 ∷ [])
    ∷ row (high 3 3 2 3 0 ∷ []) (low 3 3 2 2 0) 0 pair
    -- the longest period is right
    ∷ row [] longest 0 (longest ∷ [])
    -- a longer one is wrong
    ∷ row [] (low 128 127 1 1 0) 2 []
    -- so is a deadline above the period
    ∷ row [] (low 3 4 1 1 0) 2 []
    -- so is a low task with two budgets
    ∷ row [] (low 3 3 1 2 0) 2 []
    -- a ninth task is refused, right or wrong
    ∷ row (replicate 8 longest) longest 1 (replicate 8 longest)
    ∷ row (replicate 8 longest) (low 128 127 1 1 0) 1 (replicate 8 longest)
    ∷ []

-- every case and every row comes out as written
pub record Worked : Type 0 where
  pub runs : map computed cases ≡ cases
  pub drafts : map added rows ≡ rows
