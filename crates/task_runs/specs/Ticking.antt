-- The ticks among the steps of a run.
use Rattle.std.specs.Prelude.{Bool, cond, ◌&&◌, ◌||◌, List, [], ◌∷◌, ◌==◌, is_ok}
use Rattle.task_table.specs.declared.task.Task.{Task}
use Rattle.job_state.specs.declared.state.State.{State}
use Rattle.policies.specs.Picks.{Pick}
use Rattle.run_steps.specs.declared.step.Step.{Step}
use Rattle.task_runs.specs.declared.ticking.Tick.{Tick}

-- whether time went on at the step: an accepted tick, finishing or not
abbrev pub is_tick : {R : Type 0} → Step State R → Bool
is_tick s = is_ok s.answer && (s.event == 9 || s.event == 10)

-- the ticks among these steps from the state x on, each with the state that it begins in and the task picked there
abbrev pub ticks : {R : Type 0} → Pick → List Task → State → List (Step State R) → List Tick
ticks pick ts x [] = []
ticks pick ts x (s ∷ ss) = cond (is_tick s) (record { before = x; ran = pick ts x.mode x.jobs } ∷ ticks pick ts s.state ss) (ticks pick ts s.state ss)
