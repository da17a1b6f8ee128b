-- Opening one node after another.
use Rattle.std.proofs.Common.{◌≡◌, ℕ, ◌<◌, ◌≤◌, true, false, not, List, [], ◌∷◌, length, get_or, position, take, set, Some, None, sym, refl, ap, ◌∙◌, ◌+◌, ⊎_elim, arith}
use lib.Seq.{take-set-lt}
use Rattle.std.proofs.lemmas.Bool.{not-false, not-true, cases_Bool}
use Rattle.std.proofs.lemmas.List.{length-set, length-take-le, get_or-take, get_or-set_same}
use Rattle.std.proofs.lemmas.List.Quantifiers.{position-Some}
use Rattle.std.specs.List.{position_from}
use Rattle.std.proofs.lemmas.Iterator.Adapters.{position_from-zero}
use Rattle.transition.specs.Meanings.{Meaning}
use Rattle.exploration.specs.declared.node.Node.{Node}
use Rattle.exploration.specs.declared.outcome.Outcome.{Outcome}
use Rattle.exploration.specs.declared.outcome.Outcome.TheVariants.{Schedulable}
use Rattle.exploration.specs.Stores.{Store, Going, on, over, then, store, opening, first_unopened}
use Rattle.exploration.specs.Exploring.{sweep, open_found, turn, rest}
use Rattle.exploration.proofs.Nodes.{first_unopened_at}
use Rattle.exploration.proofs.Turns.{rest_turn}
use Rattle.explorer.specs.declared.memory.Memory.{Memory}
use Rattle.explorer.specs.Held.{held, ComesTo}
use Rattle.explorer.specs.Memories.{holds}

-- a search for the first node that is not opened
unopened_none : {X : Type 0} (ns : List (Node X)) → position (λ n. not n.opened) ns ≡ None → first_unopened ns ≡ None
unfolding first_unopened
unopened_none ns none = go ns 0 (sym (position_from-zero (λ n. not n.opened) ns) ∙ none)
  where
    go : {X : Type 0} (ns : List (Node X)) (i : ℕ) → position_from (λ n. not n.opened) i ns ≡ None → first_unopened ns ≡ None
    go [] i h = refl
    go (n ∷ ns) i h =
        ⊎_elim
        (λ (o : n.opened ≡ true). rw (o, go ns (i + 1) (rw o at h)) refl)
        (λ (o : n.opened ≡ false). let is : Some i ≡ None = rw o at h in let z : ◌≡◌ {A = ℕ} 0 1 = cc in absurd (omega arith))
        (cases_Bool n.opened)

unopened_some : {X : Type 0} (ns : List (Node X)) (i : ℕ) (d : Node X) → position (λ n. not n.opened) ns ≡ Some i → first_unopened ns ≡ Some (get_or ns i d, set ns i (opening (get_or ns i d)))
unopened_some ns i d found =
    let at = position-Some (λ n. not n.opened) ns i d found in
    first_unopened_at ns i d at.0 (λ k h. not-false (get_or ns k d).opened (at.2 k h)) (not-true (get_or ns i d).opened at.1)

pub marked_long : {X : Type 0} (ns : List (Node X)) (i : ℕ) (d : Node X) → length (set ns i (opening (get_or ns i d))) ≡ length ns
marked_long ns i d = length-set ns i (opening (get_or ns i d))

module _ {X R : Type 0} (M : Meaning X R) (P L : ℕ) where
  -- exploring from one store on comes to the same as from another
  abbrev pub Opened : (List X → Store X) → (List X → Store X) → Type 0
  Opened before after = ComesTo (λ es. rest M P L (before es)) (λ fs. rest M P L (after fs))

  module _ (before after : List X → Store X) (h : Opened before after) (short : (es : List X) → length (after es).visits ≤ L) where
    turned : (g : List X → Going X) → ComesTo (λ es. turn M P L (after es)) g → ComesTo (λ es. rest M P L (before es)) (λ fs. then (g fs) (rest M P L))
    turned g t es =
        let found = h es in
        let next = t found.0 in
        (next.0, found.1 ∙ rest_turn M P L (after found.0) (short found.0) ∙ ap (λ q. then q (rest M P L)) next.1)

    pub opened_on : (after' : List X → Store X) → ComesTo (λ es. turn M P L (after es)) (λ fs. on (after' fs)) → Opened before after'
    opened_on after' t = turned (λ fs. on (after' fs)) t

    pub opened_over : (o : Outcome) (after' : List X → Store X) → ComesTo (λ es. turn M P L (after es)) (λ fs. over o (after' fs)) → ComesTo (λ es. rest M P L (before es)) (λ fs. over o (after' fs))
    opened_over o after' t = turned (λ fs. over o (after' fs)) t

  module _ (m : Memory X) where
    -- the nodes in use
    abbrev ns : List (Node X)
    ns = take m.kept m.nodes.now

    -- the nodes, with one of them opened
    abbrev marked : ℕ → Node X → List (Node X)
    marked i d = set m.nodes.now i (opening (get_or m.nodes.now i d))

    -- no node is left to open
    pub turn_none : None ≡ position (λ n. not n.opened) ns → ComesTo (λ es. turn M P L (holds m es)) (λ fs. over Schedulable (holds m fs))
    unfolding turn
    turn_none none es = (es, ap (open_found M P L (holds m es)) (unopened_none ns (sym none)))

    module _ (i : ℕ) (found : Some i ≡ position (λ n. not n.opened) ns) (d : Node X) where
      inside : i < m.kept
      inside = omega (arith, (position-Some (λ n. not n.opened) ns i d (sym found)).0, length-take-le m.kept m.nodes.now m.nodes_within)

      read : get_or ns i d ≡ get_or m.nodes.now i d
      read = get_or-take m.kept m.nodes.now i d inside

      -- the first node that is not opened is opened
      turn_found : (es : List X) → turn M P L (holds m es) ≡ sweep M P L (get_or m.nodes.now i d).state (get_or m.nodes.now i d).visit M.count 1 (held (marked i d) m.kept m.visits.now m.written es)
      unfolding turn
      turn_found es =
          ap (open_found M P L (holds m es)) (unopened_some ns i d (sym found))
          ∙ ap (λ (n : Node X). open_found M P L (holds m es) (Some (n, set ns i (opening n)))) read
          ∙ ap (λ ms. sweep M P L (get_or m.nodes.now i d).state (get_or m.nodes.now i d).visit M.count 1 (store ms (take m.written m.visits.now) es)) (sym (take-set-lt m.kept m.nodes.now i (opening (get_or m.nodes.now i d)) inside))

      -- a turn is the sweep of the node that it opens
      pub turn_swept : (e : Node X) (g : List X → Going X)
          → ComesTo (λ es. sweep M P L (get_or (marked i d) i e).state (get_or (marked i d) i e).visit M.count 1 (held (marked i d) m.kept m.visits.now m.written es)) g
          → ComesTo (λ es. turn M P L (holds m es)) g
      turn_swept e g led es =
          let swept = led es in
          let same : opening (get_or m.nodes.now i d) ≡ get_or (marked i d) i e = sym (get_or-set_same m.nodes.now i (opening (get_or m.nodes.now i d)) e (omega (arith, inside, m.nodes_within))) in
          (swept.0, turn_found es ∙ ap (λ (n : Node X). sweep M P L n.state n.visit M.count 1 (held (marked i d) m.kept m.visits.now m.written es)) same ∙ swept.1)
