-- One step more of a run.
use Rattle.std.proofs.Common.{◌≡◌, ℕ, ◌+◌, ◌<◌, Bool, true, false, cond, List, [], ◌∷◌, ◌++◌, length, get_or, drop, Option, sym, ap, ◌∙◌, append_assoc}
use Rattle.std.proofs.lemmas.List.{at_drop_more}
use Rattle.task_table.specs.declared.task.Task.{Task}
use Rattle.job_state.specs.declared.state.State.{State}
use Rattle.policies.specs.Picks.{Pick}
use Rattle.run_steps.specs.declared.step.Step.{Step}
use Rattle.task_runs.specs.declared.ticking.Tick.{Tick}
use Rattle.task_runs.specs.Ticking.{is_tick, ticks}

module _ {R : Type 0} (pick : Pick) (ts : List Task) (x : State) (ss : List (Step State R)) (i : ℕ) (s : Step State R) (is : s ≡ get_or ss i s) (h : i < length ss) (qs all : List Tick) (old : qs ++ ticks pick ts x (drop i ss) ≡ all) where
  -- the ticks from this step on
  from_here : ticks pick ts x (s ∷ drop (i + 1) ss) ≡ ticks pick ts x (drop i ss)
  from_here = ap (λ (t : Step State R). ticks pick ts x (t ∷ drop (i + 1) ss)) is ∙ sym (at_drop_more (ticks pick ts x) ss i s h)

  pub tick_more : (us : List Tick) (o : Option ℕ) → true ≡ is_tick s → o ≡ pick ts x.mode x.jobs → us ≡ qs ++ record { before = x; ran = o } ∷ [] → us ++ ticks pick ts s.state (drop (i + 1) ss) ≡ all
  tick_more us o b e u =
      let rest : List Tick = ticks pick ts s.state (drop (i + 1) ss) in
      let here : Option ℕ → Tick = λ p. record { before = x; ran = p } in
      ap (λ (vs : List Tick). vs ++ rest) u
      ∙ (append_assoc qs (here o ∷ []) rest
      ∙ (ap (λ (p : Option ℕ). qs ++ (here p ∷ rest)) e
      ∙ (ap (λ (v : Bool). qs ++ cond v (here (pick ts x.mode x.jobs) ∷ rest) rest) b
      ∙ (ap (λ (vs : List Tick). qs ++ vs) from_here ∙ old))))

  pub other_more : (us : List Tick) → false ≡ is_tick s → us ≡ qs → us ++ ticks pick ts s.state (drop (i + 1) ss) ≡ all
  other_more us b u =
      let rest : List Tick = ticks pick ts s.state (drop (i + 1) ss) in
      ap (λ (vs : List Tick). vs ++ rest) u
      ∙ (ap (λ (v : Bool). qs ++ cond v (record { before = x; ran = pick ts x.mode x.jobs } ∷ rest) rest) b
      ∙ (ap (λ (vs : List Tick). qs ++ vs) from_here ∙ old))
