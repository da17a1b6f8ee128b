use Rattle.task_load.proofs.Divisors.{divisor_pos, same_parted, lowest_parted}
use Rattle.task_load.proofs.fraction.Fraction.reduced.Goals as goal

pub returns : goal.returns
returns c =
    let gcd = c.common_divisor-divisor.ensures in
    record {
      same = same_parted _ _ _ gcd.0 gcd.1 c.requires;
      lowest = lowest_parted _ _ _ gcd.0 gcd.1 c.requires gcd.2;
    }

pub nonzero_div-result : goal.nonzero_div-result
nonzero_div-result c = let gcd = c.common_divisor-divisor.ensures in divisor_pos _ _ _ gcd.0 gcd.1 c.requires

pub nonzero_div-result-2 : goal.nonzero_div-result-2
nonzero_div-result-2 c = let gcd = c.common_divisor-divisor.ensures in divisor_pos _ _ _ gcd.0 gcd.1 c.requires
