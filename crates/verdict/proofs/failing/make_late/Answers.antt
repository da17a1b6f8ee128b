use Rattle.std.proofs.Common.{vec_items, ap, ◌∙◌}
use Rattle.verdict.specs.Moments.{begun, calls}
use Rattle.verdict.proofs.Lateness.{doomed_then, fails}
use Rattle.verdict.proofs.failing.make_late.Goals as goal

pub force-requires : goal.force-requires
force-requires g c =
    let means = g.S.System.meaning in
    let s = c.args.system.now in
    let es = vec_items c.in_ok-events.events in
    doomed_then means s (g.met.S.System.lawful s) c.args.visits.now c.requires es c.in_ok-events.ensures c.run_after-run.result (c.run_after-run.ensures ∙ ap (calls means (begun means s)) c.deref.ensures.value)

pub returns : goal.returns
returns g c =
    let means = g.S.System.meaning in
    let s = c.args.system.now in
    let es = vec_items c.in_ok-events.events in
    let told = c.in_ok-forced.ensures in
    fails means s (g.met.S.System.lawful s) c.args.visits.now c.requires es c.in_ok-events.ensures c.run_after-run.result (c.run_after-run.ensures ∙ ap (calls means (begun means s)) c.deref.ensures.value)
    (vec_items c.in_ok-forced.forced) c.force.new.run told.system told.forces told.few told.late
