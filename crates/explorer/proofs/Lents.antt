-- Steps of exploring, one after another, in the lent memory.
use Rattle.std.proofs.Common.{◌≡◌, ℕ, ◌+◌, ◌-◌, ◌≤◌, List, length, take, drop, sym, refl, ap, ◌∙◌, arith}
use Rattle.std.proofs.lemmas.List.{drop-drop, length-take-le}
use Rattle.exploration.specs.declared.node.Visit.{Visit}
use Rattle.explorer.specs.declared.memory.Memory.{Memory}
use Rattle.explorer.specs.Memories.{Extends}

-- lists that agree from one index on agree from a later one on
pub drop_later : (i j : ℕ) (xs ys : List Visit) → i ≤ j → drop i xs ≡ drop i ys → drop j xs ≡ drop j ys
drop_later i j xs ys h e =
    let at : (zs : List Visit) → drop j zs ≡ drop (j - i) (drop i zs) = λ zs. let sum : i + (j - i) ≡ j = omega arith in ap (λ m. drop m zs) (sym sum) ∙ sym (drop-drop (j - i) i zs) in
    at xs ∙ ap (drop (j - i)) e ∙ sym (at ys)

pub extends_none : {X : Type 0} (m : Memory X) → Extends m m
extends_none m = record { lent = record { same_nodes = refl; same_visits = refl; node_room = refl; visit_room = refl }; grows = omega arith; untouched = refl }

pub extends_more : {X : Type 0} {a b c : Memory X} → Extends a b → Extends b c → Extends a c
extends_more {a = a} {b = b} {c = c} f g = record {
  lent = record {
    same_nodes = g.lent.same_nodes ∙ f.lent.same_nodes;
    same_visits = g.lent.same_visits ∙ f.lent.same_visits;
    node_room = g.lent.node_room ∙ f.lent.node_room;
    visit_room = g.lent.visit_room ∙ f.lent.visit_room;
  };
  grows = omega (arith, f.grows, g.grows);
  untouched = g.untouched ∙ drop_later b.written c.written b.visits.now a.visits.now g.grows f.untouched;
}

-- the visits in use are no more than are lent
pub lent_short : {X : Type 0} {a : Memory X} (m : Memory X) → Extends a m → length (take m.written m.visits.now) ≤ length a.visits.now
lent_short m h = omega (arith, h.lent.visit_room, m.visits_within, length-take-le m.written m.visits.now m.visits_within)
