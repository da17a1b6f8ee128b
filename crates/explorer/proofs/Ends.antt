-- How exploring ends in the slices, and what its end tells.
use Rattle.std.proofs.Common.{◌≡◌, ℕ, ◌≤◌, List, [], sym, refl, ap, ◌∙◌, subst}
use Rattle.transition.specs.Meanings.{Meaning}
use Rattle.transition.specs.Laws.{Laws}
use Rattle.exploration.specs.declared.node.Node.{Node}
use Rattle.exploration.specs.declared.node.Visit.{Visit}
use Rattle.exploration.specs.declared.outcome.Outcome.{Outcome}
use Rattle.exploration.specs.Stores.{Store, Going, on, over, then, nothing}
use Rattle.exploration.specs.Exploring.{enter, rest, exploring, ended, explored}
use Rattle.exploration.specs.Claims.{Enough, Decides, Tells}
use Rattle.exploration.proofs.Turns.{exploring_rest, explored_within}
use Rattle.exploration.proofs.Theorems.{exploring_tells, exploring_decides}
use Rattle.explorer.specs.declared.memory.Memory.{Memory}
use Rattle.explorer.specs.Held.{held}
use Rattle.explorer.specs.Memories.{holds}

module _ {X R : Type 0} (M : Meaning X R) (P L : ℕ) where
  pub explored_over : P ≤ 4096 → L ≤ 65535 → (o : Outcome) (s : Store X) → exploring M P L ≡ over o s → explored M P L ≡ (o, s)
  explored_over small few o s e = explored_within M P L small few ∙ ap ended e

  -- the first state is entered where no memory is in use
  module _ (m : Memory X) (unused : (m.kept ≡ 0) × (m.written ≡ 0)) (x : X) (first : x ≡ M.first) where
    pub explores_then : (g : Going X) → enter M P L 0 0 x (holds m []) ≡ g → exploring M P L ≡ then g (rest M P L)
    explores_then g e =
        let none : nothing ≡ holds m [] = rw (unused.0, unused.1) refl in
        exploring_rest M P L ∙ ap (λ q. then q (rest M P L)) (ap (λ y. enter M P L 0 0 y nothing) (sym first) ∙ ap (enter M P L 0 0 x) none ∙ e)

    pub explores_on : (s t : Store X) (o : Outcome) {P' L' : ℕ} → P' ≡ P → L' ≡ L → enter M P L 0 0 x (holds m []) ≡ on s → rest M P' L' s ≡ over o t → exploring M P L ≡ over o t
    explores_on s t o {P'} same_P same_L e r =
        explores_then (on s) e ∙ ap (λ n. rest M n L s) (sym same_P) ∙ ap (λ n. rest M P' n s) (sym same_L) ∙ r

  module _ (W : Laws M) {o : Outcome} {s : Store X} (e : explored M P L ≡ (o, s)) where
    pub tells : Tells M P L o s
    tells = subst (λ q. Tells M P L q.0 q.1) e (exploring_tells M P L W)

    pub decides : Enough M P L → Decides M o
    decides enough = subst (λ q. Decides M q.0) e (exploring_decides M P L W enough)

  -- the states that the visits entered are those of the definition
  pub as_entered : (Q : Store X → Type 0) (o : Outcome) (ns : List (Node X)) (n : ℕ) (vs : List Visit) (v : ℕ) (fs : List X) → explored M P L ≡ (o, held ns n vs v fs) → Q (held ns n vs v fs) → Q (held ns n vs v (explored M P L).1.entered)
  as_entered Q o ns n vs v fs e q = subst (λ es. Q (held ns n vs v es)) (sym (ap (λ (r : Outcome × Store X). r.1.entered) e)) q
