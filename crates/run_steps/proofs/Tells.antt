-- What the steps of a run tell.
use Rattle.std.proofs.Common.{◌≡◌, ℕ, zero, suc, ◌+◌, ◌<◌, List, [], ◌∷◌, ◌++◌, length, Result, get_or, take, drop, sym, refl, ap, ◌∙◌, append_assoc, add-one, arith}
use Rattle.std.proofs.lemmas.List.{at_drop_more}
use Rattle.transition.specs.declared.refusal.Refusal.{Refusal}
use Rattle.transition.specs.Meanings.{Meaning}
use Rattle.transition.specs.Runs.{after, answered, walk}
use Rattle.run_steps.specs.declared.step.Step.{Step}
use Rattle.run_steps.specs.Steps.{step, steps, Tell}

module _ {X R : Type 0} (M : Meaning X R) where
  many : (x : X) (es : List ℕ) → length (steps M x es) ≡ length es
  many x [] = refl
  many x (e ∷ es) = ap suc (many (after (M.gives e x) x) es)

  event_at : (x : X) (es : List ℕ) (k : ℕ) (d : Step X R) → k < length es → (get_or (steps M x es) k d).event ≡ get_or es k 0
  event_at x [] k d h = absurd (omega arith)
  event_at x (e ∷ es) zero d h = refl
  event_at x (e ∷ es) (suc k) d h = event_at (after (M.gives e x) x) es k d (omega arith)

  answer_at : (x : X) (es : List ℕ) (k : ℕ) (d : Step X R) → k < length es → (get_or (steps M x es) k d).answer ≡ answered (M.gives (get_or es k 0) (walk M x (take k es)))
  answer_at x [] k d h = absurd (omega arith)
  answer_at x (e ∷ es) zero d h = refl
  answer_at x (e ∷ es) (suc k) d h = answer_at (after (M.gives e x) x) es k d (omega arith)

  state_at : (x : X) (es : List ℕ) (k : ℕ) (d : Step X R) → k < length es → (get_or (steps M x es) k d).state ≡ walk M x (take (suc k) es)
  state_at x [] k d h = absurd (omega arith)
  state_at x (e ∷ es) zero d h = refl
  state_at x (e ∷ es) (suc k) d h = state_at (after (M.gives e x) x) es k d (omega arith)

  pub tells : (x : X) (es : List ℕ) (ss : List (Step X R)) → ss ≡ steps M x es → Tell M x es ss
  tells x es ss e =
      record {
        count = ap length e ∙ many x es;
        event = λ k d h. ap (λ (ys : List (Step X R)). (get_or ys k d).event) e ∙ event_at x es k d h;
        answer = λ k d h. ap (λ (ys : List (Step X R)). (get_or ys k d).answer) e ∙ answer_at x es k d h;
        state = λ k d h. ap (λ (ys : List (Step X R)). (get_or ys k d).state) e ∙ rw add-one (state_at x es k d h);
      }

  pub step_is : (x : X) (e f : ℕ) (a : Result (Unit {0}) (Refusal R)) (y : X) → f ≡ e → a ≡ answered (M.gives e x) → y ≡ after (M.gives e x) x → record { event = f; answer = a; state = y } ≡ step M x e
  step_is x e f a y p q r = cc

  -- one event more
  pub steps_more : (x y : X) (es : List ℕ) (i : ℕ) (ss all : List (Step X R)) (s : Step X R) → i < length es → s ≡ step M x (get_or es i 0) → y ≡ after (M.gives (get_or es i 0) x) x → ss ++ steps M x (drop i es) ≡ all → (ss ++ s ∷ []) ++ steps M y (drop (i + 1) es) ≡ all
  steps_more x y es i ss all s h e n old =
      append_assoc ss (s ∷ []) (steps M y (drop (i + 1) es))
      ∙ (ap (λ (z : X). ss ++ (s ∷ steps M z (drop (i + 1) es))) n
      ∙ (ap (λ (t : Step X R). ss ++ (t ∷ steps M (after (M.gives (get_or es i 0) x) x) (drop (i + 1) es))) e
      ∙ (ap (λ (ys : List (Step X R)). ss ++ ys) (sym (at_drop_more (steps M x) es i 0 h)) ∙ old)))
