use Rattle.std.proofs.Common.{◌≡◌, ◌+◌, ◌≤◌, [], ◌∷◌, ◌++◌, length, Ok, vec_items, sym, refl, ap, ◌∙◌, subst, arith, length-append}
use Rattle.transition.specs.Runs.{after}
use Rattle.verdict.specs.Failures.{Forces}
use Rattle.verdict.proofs.Forcing.{left, left_few, Nearer, call_nearer, late_at_last, forces_push}
use Rattle.verdict.proofs.failing.force.Given as given
use Rattle.verdict.proofs.failing.force.Goals as goal

pub loop-forced-init : goal.loop-forced-init
loop-forced-init g c =
    let M = g.S.System.meaning c.args.run.now.system in
    let x = c.args.run.now.state in
    let none = c.new-forced.ensures.items in
    let few = left_few M (g.met.S.System.lawful c.args.run.now.system) x c.requires in
    (refl, c.requires, rw none refl, rw none (omega (arith, few)))

-- the event is the forced one of the run as it began the turn
asked : (g : given.Over) (c : goal.After-call g) → (g.S.System.meaning c.args.run.now.system).forced c.loop-forced.run.state ≡ Ok c.in-Ok.event
asked g c = sym (c.in-Ok.ensures.answer ∙ ap (λ s. (g.S.System.meaning s).forced c.loop-forced.run.state) c.loop-forced.invariant.0)

-- the call brings the run nearer to a late state
next : (g : given.Over) (c : goal.After-call g) → Nearer (g.S.System.meaning c.args.run.now.system) c.loop-forced.run.state c.in-Ok.event c.call.new.self.state
next g c =
    let M = g.S.System.meaning c.args.run.now.system in
    let x = c.loop-forced.run.state in
    let e = c.in-Ok.event in
    call_nearer M (g.met.S.System.lawful c.args.run.now.system) x e c.call.new.self.state c.loop-forced.invariant.1 (asked g c)
    (c.call.ensures.state ∙ ap (λ s. after ((g.S.System.meaning s).gives e x) x) c.loop-forced.invariant.0)

pub loop-forced-smaller : goal.loop-forced-smaller
loop-forced-smaller g c = (next g c).fewer

pub loop-forced-preserved : goal.loop-forced-preserved
loop-forced-preserved g c =
    let M = g.S.System.meaning c.args.run.now.system in
    let es = vec_items c.loop-forced.forced in
    let e = c.in-Ok.event in
    let y = c.call.new.self.state in
    let n = next g c in
    let inv = c.loop-forced.invariant in
    let more : vec_items c.push.new.self ≡ es ++ e ∷ [] = c.in_ok-push.ensures.items in
    let forces : Forces M c.args.run.now.state (es ++ e ∷ []) y = forces_push M es e c.args.run.now.state c.loop-forced.run.state y inv.2 (asked g c) n.given in
    let few : length (es ++ e ∷ []) + left M y ≤ 1151 = omega (arith, length-append es (e ∷ []), n.fewer, inv.3) in (
      c.call.ensures.system ∙ inv.0,
      n.doomed,
      subst (λ fs. Forces M c.args.run.now.state fs y) (sym more) forces,
      subst (λ fs. length fs + left M y ≤ 1151) (sym more) few,
    )

pub returns : goal.returns
returns g c =
    let s = c.args.run.now.system in
    let x = c.loop-forced.run.state in
    let inv = c.loop-forced.invariant in
    record {
      system = inv.0;
      forces = inv.2;
      few = omega (arith, inv.3);
      late = late_at_last (g.S.System.meaning s) (g.met.S.System.lawful s) x c.in_default.field-0 inv.1
          (sym (c.in_default.ensures.answer ∙ ap (λ q. (g.S.System.meaning q).forced x) inv.0));
    }
