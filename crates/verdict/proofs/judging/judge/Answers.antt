use Rattle.std.proofs.Common.{◌≡◌, ℕ, ◌-◌, take, Ok, vec_items, sym, ap, ◌∙◌, subst, arith}
use Rattle.std.proofs.lemmas.Result.{err_from_is_err_and}
use Rattle.exploration.specs.declared.outcome.Outcome.{Outcome}
use Rattle.exploration.specs.declared.outcome.Outcome.TheVariants.{Unschedulable}
use Rattle.exploration.specs.Claims.{ShownLate, Decides}
use Rattle.verdict.specs.Failures.{Fails}
use Rattle.verdict.specs.Verdicts.{outcome_of}
use Rattle.verdict.proofs.Calls.{runs_never_late}
use Rattle.verdict.proofs.Outcomes.{refused_whole, decided, as_told, in_front, never_both}
use Rattle.verdict.proofs.judging.judge.Goals as goal

front : (n : ℕ) → n - 0 ≡ n
front n = omega arith

pub verdict_on-requires : goal.verdict_on-requires
verdict_on-requires g c =
    λ h. subst (λ n. ShownLate (g.S.System.meaning c.args.system.now) (take n c.explore-outcome.new.visits)) (sym (front c.explore-outcome.result.2)) (c.explore-outcome.ensures.shown_late h)

pub returns-in_err-verdict : goal.returns-in_err-verdict
returns-in_err-verdict g c =
    let p = err_from_is_err_and c.from_residual.result c.from_residual.ensures.1 in
    let told = c.explore-outcome.ensures in
    let was : c.explore-outcome.result.0 ≡ Unschedulable = c.in_err-verdict.ensures.no_memory in
    rw p.1
    (record {
      never_late = tt;
      closed = tt;
      shown_late = tt;
      ever_late = told.ever_late was;
      nodes_honestly_full = tt;
      visits_honestly_full = tt;
      too_large = λ large. absurd (never_both (sym was ∙ (told.too_large large).0));
      too_large_only = tt;
      decides = tt;
      answers = tt;
      within = tt;
      untouched = tt;
      every_visit_tells = tt;
      antichain = tt;
      no_memory = in_front Unschedulable _ c.explore-outcome.new.nodes c.explore-outcome.result.1 c.explore-outcome.new.visits c.explore-outcome.result.2 (omega (arith, told.within.0)) (omega (arith, told.within.1)) (as_told Unschedulable _ _ _ _ (sym was) told.answers);
    })

pub returns : goal.returns
returns g c =
    let means = g.S.System.meaning in
    let s = c.args.system.now in
    let told = c.explore-outcome.ensures in
    let o : Outcome = c.explore-outcome.result.0 in
    let v = c.in_ok-verdict.verdict in
    let shows : outcome_of v ≡ o = c.in_ok-verdict.ensures.outcome in
    record {
      never_late = λ h. runs_never_late means s (told.never_late (sym shows ∙ ap outcome_of h));
      closed = λ h. told.closed (sym shows ∙ ap outcome_of h);
      shown_late = λ f h.
          subst (λ n. Fails means s (take n c.explore-outcome.new.visits) (vec_items f.events) (vec_items f.forced) f.run) (front c.explore-outcome.result.2)
          (c.in_ok-verdict.ensures.fails f h);
      ever_late = λ f h. told.ever_late (sym shows ∙ ap outcome_of h);
      nodes_honestly_full = λ h. told.nodes_honestly_full (sym shows ∙ ap outcome_of h);
      visits_honestly_full = λ h. told.visits_honestly_full (sym shows ∙ ap outcome_of h);
      too_large = λ large.
          let left = told.too_large large in
          (ap Ok (refused_whole v o c.explore-outcome.result.1 c.explore-outcome.result.2 shows left.0 left.1 left.2), left.3, left.4);
      too_large_only = λ h. told.too_large_only (sym shows ∙ ap outcome_of h);
      decides = λ enough. decided means s v (subst (Decides (means s)) (sym shows) (told.decides enough));
      answers = as_told (outcome_of v) o _ _ _ shows told.answers;
      within = told.within;
      untouched = told.untouched;
      every_visit_tells = told.every_visit_tells;
      antichain = told.antichain;
      no_memory = tt;
    }
