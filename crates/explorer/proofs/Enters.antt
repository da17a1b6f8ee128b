-- The five ways to enter a state, in the lent memory.
use Rattle.std.proofs.Common.{◌≡◌, ℕ, ◌+◌, ◌<◌, ◌≤◌, Bool, true, false, ◌||◌, List, [], ◌∷◌, ◌++◌, length, take, set, sym, refl, ap, ◌∙◌, arith}
use Rattle.std.specs.List.{list_any}
use Rattle.std.proofs.lemmas.List.{take_more_set, length-take-le}
use Rattle.transition.specs.Meanings.{Meaning}
use Rattle.exploration.specs.declared.node.Node.{Node}
use Rattle.exploration.specs.declared.node.Visit.{Visit}
use Rattle.exploration.specs.declared.outcome.Outcome.TheVariants.{Unschedulable, VisitsFull, NodesFull}
use Rattle.exploration.specs.Stores.{Going, on, over, store, states}
use Rattle.exploration.specs.Exploring.{simulated, without, enter}
use Rattle.exploration.proofs.Enters.{enter_known, enter_visits_full, enter_doomed, enter_nodes_full, enter_new}
use Rattle.explorer.specs.declared.memory.Memory.{Memory}
use Rattle.explorer.specs.Held.{held}
use Rattle.explorer.specs.Memories.{holds}

-- a test of the nodes is one of their states
any_simulates : {X R : Type 0} (M : Meaning X R) (r : X) (ns : List (Node X)) → simulated M (states ns) r ≡ list_any (λ n. M.simulates n.state r) ns
any_simulates M r [] = refl
any_simulates M r (n ∷ ns) = ap (λ b. M.simulates n.state r || b) (any_simulates M r ns)

module _ {X R : Type 0} (M : Meaning X R) (m : Memory X) (from : Visit) (r : X) (es : List X) where
  abbrev ns : List (Node X)
  ns = take m.kept m.nodes.now

  abbrev vs : List Visit
  vs = take m.written m.visits.now

  abbrev P : ℕ
  P = length m.nodes.now

  abbrev L : ℕ
  L = length m.visits.now

  -- what entering the state comes to
  abbrev pub Enters : Going X → Type 0
  Enters g = enter M P L from.parent from.event r (holds m es) ≡ g

  -- whether a node in use simulates the state
  abbrev pub Covered : Bool → Type 0
  Covered b = b ≡ list_any (λ n. M.simulates n.state r) ns

  pub enters_known : Covered true → Enters (on (holds m es))
  enters_known known = enter_known M P L from.parent from.event r ns vs es (any_simulates M r ns ∙ sym known)

  module _ (covered : Covered false) where
    fresh : simulated M (states ns) r ≡ false
    fresh = any_simulates M r ns ∙ sym covered

    visits_long : length vs ≡ m.written
    visits_long = length-take-le m.written m.visits.now m.visits_within

    pub enters_visits_full : m.written ≡ L → Enters (over VisitsFull (holds m es))
    enters_visits_full full = enter_visits_full M P L from.parent from.event r ns vs es fresh (omega (arith, visits_long))

    -- the first w of the visits us are those of the memory and the one from which the state came
    module _ (room : m.written < L) (us : List Visit) (w : ℕ) (one_more : us ≡ set m.visits.now m.written from) (next : w ≡ m.written + 1) where
      unused : length vs < L
      unused = omega (arith, visits_long)

      written : vs ++ from ∷ [] ≡ take w us
      written = sym (take_more_set m.visits.now m.written from room) ∙ ap (take (m.written + 1)) (sym one_more) ∙ ap (λ k. take k us) (sym next)

      pub enters_doomed : M.doomed r ≡ true → Enters (over Unschedulable (held m.nodes.now m.kept us w (es ++ r ∷ [])))
      enters_doomed doomed =
          enter_doomed M P L from.parent from.event r ns vs es fresh unused doomed
          ∙ ap (λ ws. over Unschedulable (store ns ws (es ++ r ∷ []))) written

      -- the first k of the nodes ms are what closing up leaves
      module _ (safe : M.doomed r ≡ false) (ms : List (Node X)) (k : ℕ) (same_length : length ms ≡ P) (k_within : k ≤ length ms) (stay : take k ms ≡ without M r ns) where
        stay_long : length (without M r ns) ≡ k
        stay_long = ap length (sym stay) ∙ length-take-le k ms k_within

        pub enters_nodes_full : k ≡ length ms → Enters (over NodesFull (held ms k us w (es ++ r ∷ [])))
        enters_nodes_full full =
            enter_nodes_full M P L from.parent from.event r ns vs es fresh unused safe (omega (arith, stay_long))
            ∙ ap (λ ws. over NodesFull (store (without M r ns) ws (es ++ r ∷ []))) written
            ∙ ap (λ os. over NodesFull (store os (take w us) (es ++ r ∷ []))) (sym stay)

        pub enters_new : k < length ms → Enters (on (held (set ms k (record { state = r; visit = w; opened = false })) (k + 1) us w (es ++ r ∷ [])))
        enters_new free =
            let node : ℕ → Node X = λ n. record { state = r; visit = n; opened = false } in
            let numbered : length vs + 1 ≡ w = omega (arith, visits_long, next) in
            let entered : without M r ns ++ node w ∷ [] ≡ take (k + 1) (set ms k (node w)) = ap (λ os. os ++ node w ∷ []) (sym stay) ∙ sym (take_more_set ms k (node w) free) in
            enter_new M P L from.parent from.event r ns vs es fresh unused safe (omega (arith, stay_long))
            ∙ ap (λ n. on (store (without M r ns ++ node n ∷ []) (vs ++ from ∷ []) (es ++ r ∷ []))) numbered
            ∙ ap (λ ws. on (store (without M r ns ++ node w ∷ []) ws (es ++ r ∷ []))) written
            ∙ ap (λ os. on (store os (take w us) (es ++ r ∷ []))) entered
