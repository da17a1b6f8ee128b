use Rattle.std.proofs.Common.{◌≡◌, not, eqb, length, ◌∙◌, rules, tests}
use Rattle.std.specs.Iterator.{YieldsFirstRef}
use Rattle.table_text.specs.Pieces.{pieces_left, words_left, filled}
use Rattle.table_text.proofs.Cuts.{find_filters, filled_is, progress}
use Rattle.table_text.proofs.pieces.WordsIterator.next.Goals as goal

steps : (c : goal.After-find) → YieldsFirstRef words_left c.args.self.now c.find.result (record { 0 = c.find.new.self })
steps c = find_filters (λ x. x.now) pieces_left filled _ _ (λ x b q k. let both : (q ≡ _) × (b ≡ not (eqb (length x.now) 0)) = search (rules, tests) in (both.0, both.1 ∙ filled_is x.now)) c.args.self.now.0 c.find.new.self c.find.result c.find.ensures.ran

pub returns-clause-steps : goal.returns-clause-steps
returns-clause-steps c = steps c

pub returns-clause-goes : goal.returns-clause-goes
returns-clause-goes c = progress (λ x. x.now) words_left _ (λ _. tt) _ _ c.find.result (steps c)
