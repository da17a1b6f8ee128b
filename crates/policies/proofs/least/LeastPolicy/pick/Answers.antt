use Rattle.std.proofs.Common.{rules, ◌≡◌, sym, subst}
use Rattle.policies.specs.Leasts.{least, Least}
use Rattle.policies.specs.Chosen.{least_leads}
use Rattle.policies.proofs.least.LeastPolicy.pick.Goals as goal

pub returns : goal.returns
returns g c =
    let f = g.F.Figure.figured c.args.self.now.by c.args.state.now.mode in
    let ts = c.args.tasks.now in
    let xs = c.args.state.now.jobs in
    let is : c.map.result ≡ least f ts xs = search rules in
    record { picks = is; least = subst (Least f ts xs) (sym is) (least_leads f ts xs) }
