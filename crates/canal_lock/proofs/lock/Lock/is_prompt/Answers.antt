use Rattle.std.proofs.Common.{arith, rules}
use Rattle.std.proofs.lemmas.Bool.{ltb-true}
use Rattle.canal_lock.proofs.Prompt.{never_late}
use Rattle.canal_lock.proofs.lock.Lock.is_prompt.Goals as goal

pub returns : goal.returns
returns c = record {
  answer = search rules;
  never_late = λ prompt. never_late c.args.self.now (omega (arith, ltb-true c.fill.result c.patience.result prompt));
}
