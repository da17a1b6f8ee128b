use Rattle.std.proofs.Common.{◌≡◌, map, drop}
use Rattle.command_reading.specs.Readings.{read_so_far, with_words}
use Rattle.command_reading.proofs.reading.Reading.take_words.Given as goal

abbrev pub invariant-loop-word : goal.invariant-loop-word
invariant-loop-word l = with_words l.verb (read_so_far l.self) (map (λ x. x.now) (drop l.word-index l.words)) ≡ with_words l.verb (read_so_far l.initial.self) (map (λ x. x.now) l.words)
