use Rattle.std.proofs.Common.{◌+◌, get_or, drop, sym, ap, ◌∙◌, arith}
use Rattle.std.proofs.lemmas.List.{at_drop_more, at_drop_all}
use Rattle.verdict.specs.Moments.{moments, any_late}
use Rattle.verdict.proofs.Calls.{same_run, late_now, late_at_end, not_yet}
use Rattle.verdict.proofs.moments.is_ever_late.Goals as goal

pub returns-then-is_late : goal.returns-then-is_late
returns-then-is_late g c =
    let means = g.S.System.meaning in
    let new = same_run c.new-run.result c.args.system _ c.new-run.ensures.system c.new-run.ensures.begins in
    sym (late_now means c.loop-event.run (drop c.loop-event.event-index c.args.events.now) (sym c.if-is_late.ensures))
    ∙ c.loop-event.invariant ∙ ap (λ r. any_late means (moments means r c.args.events.now)) new

pub loop-event-preserved : goal.loop-event-preserved
loop-event-preserved g c =
    let means = g.S.System.meaning in
    let es = c.args.events.now in
    let i = c.loop-event.event-index in
    let r = c.loop-event.run in
    let left = same_run c.call.new.self r.system _ c.call.ensures.system c.call.ensures.state in
    ap (λ q. any_late means (moments means q (drop (i + 1) es))) left
    ∙ sym (not_yet means r (get_or es i 0) (drop (i + 1) es) (sym c.if-is_late.ensures))
    ∙ sym (at_drop_more (λ fs. any_late means (moments means r fs)) es i 0 (omega arith)) ∙ c.loop-event.invariant

pub returns : goal.returns
returns g c =
    let means = g.S.System.meaning in
    let es = c.args.events.now in
    let r = c.loop-event.run in
    let new = same_run c.new-run.result c.args.system _ c.new-run.ensures.system c.new-run.ensures.begins in
    c.is_late-2.ensures ∙ late_at_end means r
    ∙ sym (at_drop_all (λ fs. any_late means (moments means r fs)) es c.loop-event.event-index (omega arith))
    ∙ c.loop-event.invariant ∙ ap (λ q. any_late means (moments means q es)) new
