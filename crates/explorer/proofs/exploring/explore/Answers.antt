use Rattle.std.proofs.Common.{◌<◌, ◌≤◌, [], length, sym, refl, ap, inl, inr, ⊎_elim, arith}
use Rattle.exploration.specs.declared.outcome.Outcome.TheVariants.{TooLarge}
use Rattle.exploration.specs.Claims.{IsTooLarge, EveryVisitTells, Antichain}
use Rattle.exploration.proofs.Turns.{explored_too_large}
use Rattle.explorer.specs.Held.{held, shown}
use Rattle.explorer.proofs.Ends.{explored_over, tells, decides, as_entered}
use Rattle.explorer.proofs.exploring.explore.Goals as goal

pub returns-then-nodes-gt-MOST_NODES : goal.returns-then-nodes-gt-MOST_NODES
returns-then-nodes-gt-MOST_NODES g c =
    let M = g.S.System.meaning c.args.system.now in
    let P = length c.args.nodes.now in
    let L = length c.args.visits.now in
    let large : IsTooLarge P L = ⊎_elim (λ h. inl h) (λ h. inr h.1) c.then-nodes-gt-MOST_NODES.either in
    let is = explored_too_large M P L large in
    let W = g.met.S.System.lawful c.args.system.now in
    let T = tells M P L W is in
    record {
      answers = sym (ap shown is);
      within = (omega arith, omega arith);
      untouched = refl;
      too_large = λ _. (refl, refl, refl, refl, refl);
      too_large_only = λ h. (T.too_large h).0;
      never_late = T.never_late;
      closed = T.closed;
      ever_late = T.ever_late;
      shown_late = T.shown_late;
      nodes_honestly_full = T.nodes_full;
      visits_honestly_full = T.visits_full;
      decides = decides M P L W is;
      every_visit_tells = as_entered M P L (EveryVisitTells M) TooLarge c.args.nodes.now 0 c.args.visits.now 0 [] is T.every_visit;
      antichain = as_entered M P L (Antichain M P L) TooLarge c.args.nodes.now 0 c.args.visits.now 0 [] is T.antichain;
    }

pub returns : goal.returns
returns g c =
    let M = g.S.System.meaning c.args.system.now in
    let P = length c.args.nodes.now in
    let L = length c.args.visits.now in
    let small : P ≤ 4096 = omega arith in
    let few : L ≤ 65535 = omega arith in
    let ns = c.explore_lent.new.nodes in
    let vs = c.explore_lent.new.visits in
    let o = c.explore_lent.result in
    let end = c.explore_lent.ensures.ends in
    let is = explored_over M P L small few o.0 (held ns o.1 vs o.2 end.0) end.1 in
    let W = g.met.S.System.lawful c.args.system.now in
    let T = tells M P L W is in
    record {
      answers = sym (ap shown is);
      within = c.explore_lent.ensures.within;
      untouched = c.explore_lent.ensures.untouched;
      too_large = λ large. absurd (⊎_elim (λ (h : 4096 < P). omega arith) (λ (h : 65535 < L). omega arith) large);
      too_large_only = λ h. (T.too_large h).0;
      never_late = T.never_late;
      closed = T.closed;
      ever_late = T.ever_late;
      shown_late = T.shown_late;
      nodes_honestly_full = T.nodes_full;
      visits_honestly_full = T.visits_full;
      decides = decides M P L W is;
      every_visit_tells = as_entered M P L (EveryVisitTells M) o.0 ns o.1 vs o.2 end.0 is T.every_visit;
      antichain = as_entered M P L (Antichain M P L) o.0 ns o.1 vs o.2 end.0 is T.antichain;
    }
