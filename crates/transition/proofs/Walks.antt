-- One event more of a walk.
use Rattle.std.proofs.Common.{◌≡◌, ℕ, ◌+◌, ◌<◌, List, length, get_or, drop, sym, ap, ◌∙◌}
use Rattle.std.proofs.lemmas.List.{at_drop_more}
use Rattle.transition.specs.Meanings.{Meaning}
use Rattle.transition.specs.Runs.{after, walk}

pub walk_more : {X R : Type 0} (M : Meaning X R) (x y z : X) (es : List ℕ) (i : ℕ) → i < length es → y ≡ after (M.gives (get_or es i 0) x) x → walk M x (drop i es) ≡ z → walk M y (drop (i + 1) es) ≡ z
walk_more M x y z es i inside next rest = ap (λ w. walk M w (drop (i + 1) es)) next ∙ sym (at_drop_more (walk M x) es i 0 inside) ∙ rest
