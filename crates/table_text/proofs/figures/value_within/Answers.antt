use Rattle.std.proofs.Common.{arith}
use Rattle.std.proofs.lemmas.Grind.{common_steps}
use Rattle.table_text.proofs.Decimals.{reading_large}
use Rattle.table_text.proofs.figures.value_within.Goals as goal

pub returns-then-value-from-clause-answers : goal.returns-then-value-from-clause-answers
returns-then-value-from-clause-answers c = grind (arith, common_steps, reading_large)
