use Rattle.std.proofs.Common.{◌≡◌, ◌+◌, ◌++◌, get_or, drop, vec_items, sym, refl, ap, ◌∙◌, append-nil, arith}
use Rattle.std.proofs.lemmas.List.{at_drop_all}
use Rattle.transition.specs.Runs.{after, answered, walk}
use Rattle.transition.proofs.Walks.{walk_more}
use Rattle.run_steps.specs.Steps.{steps}
use Rattle.run_steps.proofs.Tells.{tells, steps_more, step_is}
use Rattle.run_steps.proofs.recording.record_steps.Goals as goal

pub loop-event-preserved : goal.loop-event-preserved
loop-event-preserved g c =
    let meaning = g.S.System.meaning in
    let same = c.loop-event.invariant.0 in
    let x = c.loop-event.run.state in
    let e = get_or c.args.events.now c.loop-event.event-index 0 in
    let M = meaning c.args.run.now.system in
    let next : c.call-answer.new.self.state ≡ after (M.gives e x) x = c.call-answer.ensures.state ∙ ap (λ s. after ((meaning s).gives e x) x) same in
    let answer : c.call-answer.result ≡ answered (M.gives e x) = c.call-answer.ensures.answer ∙ ap (λ s. answered ((meaning s).gives e x)) same in
    let made = step_is M x e e _ _ refl answer (c.state.ensures ∙ next) in (
      c.call-answer.ensures.system ∙ same,
      ap (λ ys. ys ++ steps M c.call-answer.new.self.state (drop (c.loop-event.event-index + 1) c.args.events.now)) c.in_ok-push.ensures.items
          ∙ steps_more M x c.call-answer.new.self.state c.args.events.now c.loop-event.event-index (vec_items c.loop-event.steps) _ _ (omega arith) made next c.loop-event.invariant.1,
      walk_more M x c.call-answer.new.self.state _ c.args.events.now c.loop-event.event-index (omega arith) next c.loop-event.invariant.2,
    )

pub returns : goal.returns
returns g c =
    let M = g.S.System.meaning c.args.run.now.system in
    let x = c.loop-event.run.state in
    let all : vec_items c.loop-event.steps ≡ steps M c.args.run.now.state c.args.events.now =
    sym (append-nil (vec_items c.loop-event.steps))
    ∙ (sym (at_drop_all (λ es. vec_items c.loop-event.steps ++ steps M x es) c.args.events.now c.loop-event.event-index (omega arith)) ∙ c.loop-event.invariant.1)
    in
    record {
      system = c.loop-event.invariant.0;
      steps = all;
      tell = tells M c.args.run.now.state c.args.events.now _ all;
      walks = sym (at_drop_all (walk M x) c.args.events.now c.loop-event.event-index (omega arith)) ∙ c.loop-event.invariant.2;
    }
