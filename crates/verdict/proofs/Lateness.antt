-- The events of the last visit, made on a new run, and the forced ones after them make it late.
use Rattle.std.proofs.Common.{◌≡◌, ℕ, ◌≤◌, true, List, ◌++◌, length, Some, sym, refl, ap, ◌∙◌, subst}
use Rattle.transition.specs.declared.run.Run.{Run}
use Rattle.transition.specs.Meanings.{Meaning}
use Rattle.transition.specs.Laws.{Laws}
use Rattle.transition.specs.Runs.{replay}
use Rattle.exploration.specs.declared.node.Visit.{Visit}
use Rattle.exploration.specs.Traces.{traced, Traced}
use Rattle.exploration.specs.Claims.{ShownLate}
use Rattle.exploration.proofs.Runs.{replay_append}
use Rattle.verdict.specs.Moments.{begun, calls}
use Rattle.verdict.specs.Failures.{events_told, Forces, Fails}
use Rattle.verdict.proofs.Calls.{run_at, same_run, calls_walk}
use Rattle.verdict.proofs.Replays.{told_whole, replay_walk, forces_replay, soon_doomed}

module _ {S X R : Type 0} (means : S → Meaning X R) (s : S) (W : Laws (means s)) (vs : List Visit) (h : ShownLate (means s) vs) (events : List ℕ) (told : events ≡ events_told (traced vs (length vs) (length vs))) (new : Run S X R) (made : new ≡ calls means (begun means s) events) where
  same : events ≡ h.1.0
  same = told ∙ told_whole vs h.1.0 h.1.1

  led : replay (means s) (means s).first events ≡ Some h.0
  led = rw same h.1.2

  arrived : new ≡ run_at s h.0
  arrived = made ∙ calls_walk means s events (means s).first ∙ ap (run_at s) (replay_walk (means s) events (means s).first h.0 led)

  doomed_end : (means s).doomed h.0 ≡ true
  doomed_end = soon_doomed (means s) W h.0 h.2

  -- the state that the events lead to is doomed
  pub doomed_then : (means new.system).doomed new.state ≡ true
  doomed_then = subst (λ r. (means r.system).doomed r.state ≡ true) (sym arrived) doomed_end

  pub fails : (forced : List ℕ) (run : Run S X R) → run.system ≡ new.system → Forces (means new.system) new.state forced run.state → length forced ≤ 1151 → (means new.system).late run.state ≡ true → Fails means s vs events forced run
  fails forced run of f few late =
      let forces : Forces (means s) h.0 forced run.state = subst (λ r. Forces (means r.system) r.state forced run.state) arrived f in
      let all = replay_append (means s) events forced (means s).first h.0 run.state led (forces_replay (means s) forced h.0 run.state forces) in
      let mine = of ∙ ap (λ r. r.system) arrived in
      record {
        of_system = mine;
        by_calls = calls_walk means s (events ++ forced) (means s).first ∙ ap (run_at s) (replay_walk (means s) (events ++ forced) (means s).first run.state all) ∙ sym (same_run run s run.state mine refl);
        late_by = record {
          told = subst (Traced vs (length vs)) (sym same) h.1.1;
          doomed_state = h.0;
          led = led;
          doomed = doomed_end;
          by_force = forces;
          few = few;
          accepted = all;
          late = subst (λ r. (means r.system).late run.state ≡ true) arrived late;
        };
      }
