-- Verdicts that tell different things of a late run.
use Rattle.std.specs.Prelude.{◌≡◌}
use Rattle.verdict.specs.declared.judgement.Verdict.{Verdict}
use Rattle.verdict.specs.declared.judgement.Verdict.TheVariants.{Schedulable, Unschedulable, TooLarge, VisitsFull, NodesFull}

-- the second verdict is the first, with something that the relation ties to what the first tells of the late run
abbrev pub Maps : {F G : Type 0} → (F → G → Type 0) → Verdict F → Verdict G → Type 0
Maps R Schedulable w = w ≡ Schedulable
Maps {G = G} R (Unschedulable f) w = (g : G) × R f g × (w ≡ Unschedulable g)
Maps R TooLarge w = w ≡ TooLarge
Maps R VisitsFull w = w ≡ VisitsFull
Maps R NodesFull w = w ≡ NodesFull
