-- One word after another is taken up, until one is refused.
use Rattle.std.proofs.Common.{◌≡◌, ℕ, ◌+◌, ◌<◌, List, [], map, length, get_or, drop, Some, None, Ok, Option, Result, sym, ap, ◌∙◌, Bor}
use Rattle.std.proofs.lemmas.List.{at_drop_more}
use Rattle.command_reading.specs.declared.verb.Verb.{Verb}
use Rattle.command_reading.specs.Misuses.{Wrong, Refuses, then}
use Rattle.command_options.specs.Named.{Word}
use Rattle.command_reading.specs.Readings.{Read, with_word, with_words}

-- what a read past the end would give
abbrev pub nowhere : Bor Word
nowhere = record { ref_ptr = (0, 0); now = [] }

module _ {X : Type 0} (f : X → Word) (v : Verb) (xs : List X) (i : ℕ) (d : X) (r : Read) (all : Result Read Wrong) (inside : i < length xs) (inv : with_words v r (map f (drop i xs)) ≡ all) where
  abbrev next : Result Read Wrong
  next = with_word v r r.waiting (f (get_or xs i d))

  step : then next (λ s. with_words v s (map f (drop (i + 1) xs))) ≡ all
  step = sym (at_drop_more (λ ys. with_words v r (map f ys)) xs i d inside) ∙ inv

  pub goes_on : (s : Read) → next ≡ Ok s → with_words v s (map f (drop (i + 1) xs)) ≡ all
  goes_on s e = sym (ap (λ o. then o (λ s. with_words v s (map f (drop (i + 1) xs)))) e) ∙ step

  pub stops : (o : Option Wrong) → Refuses next o → Refuses all o
  stops None h = tt
  stops (Some w) h = sym step ∙ ap (λ o. then o (λ s. with_words v s (map f (drop (i + 1) xs)))) h
