use Rattle.verdict.proofs.Calls.{made_of_new}
use Rattle.verdict.proofs.moments.run_after.Goals as goal

pub returns : goal.returns
returns g c =
    made_of_new g.S.System.meaning c.args.system c.new-run.result c.call_all.new.self c.args.events.now
    c.new-run.ensures.system c.new-run.ensures.begins c.call_all.ensures.system c.call_all.ensures.walks
