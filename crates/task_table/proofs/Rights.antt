-- The test for right tasks tells the rule, of one task and of all in a list.
use Rattle.std.proofs.Common.{◌≡◌, ℕ, ◌+◌, ◌<◌, true, List, [], ◌∷◌, ◌++◌, length, take, set, Decides, refl, arith}
use Rattle.std.specs.List.{AllByRecursion}
use Rattle.std.proofs.lemmas.Bool.Decides.{nat_tests}
use Rattle.std.proofs.ByRecursion.{Decides-by_and, All-push}
use Rattle.std.proofs.lemmas.List.{take_more_set}
use Rattle.task_table.specs.declared.task.Criticality.{Criticality}
use Rattle.task_table.specs.declared.task.Criticality.TheVariants.{Low, High}
use Rattle.task_table.specs.declared.task.Task.{Task}
use Rattle.task_table.specs.Tasks.{Right, is_right, all_right}

-- at a criticality that is known, the test and the rule are the same orders of numbers
right_at : (t : Task) (k : Criticality) → t.criticality ≡ k → Decides (is_right t) (Right t)
right_at t Low e =
    rw e (
      λ h. record {
        runs = grind (arith, nat_tests);
        budgets = grind (arith, nat_tests);
        in_time = grind (arith, nat_tests);
        one_at_a_time = grind (arith, nat_tests);
        short_period = grind (arith, nat_tests);
        short_offset = grind (arith, nat_tests);
        low_has_one_budget = λ _. grind (arith, nat_tests);
      },
      λ r. let one = r.low_has_one_budget refl in grind (arith, nat_tests),
    )
right_at t High e =
    rw e (
      λ h. record {
        runs = grind (arith, nat_tests);
        budgets = grind (arith, nat_tests);
        in_time = grind (arith, nat_tests);
        one_at_a_time = grind (arith, nat_tests);
        short_period = grind (arith, nat_tests);
        short_offset = grind (arith, nat_tests);
        low_has_one_budget = λ same. let z : ◌≡◌ {A = ℕ} 0 1 = cc in absurd (omega arith);
      },
      λ r. grind (arith, nat_tests),
    )

pub right_decides : (t : Task) → Decides (is_right t) (Right t)
right_decides t = right_at t t.criticality refl

pub all_right_decides : (ts : List Task) → Decides (all_right ts) (AllByRecursion Right ts)
all_right_decides = Decides-by_and is_right Right all_right right_decides refl (λ _ _. refl)

pub right_put : (ts : List Task) (n : ℕ) (t : Task) → n < length ts → all_right (take n ts) ≡ true → is_right t ≡ true → all_right (take (n + 1) (set ts n t)) ≡ true
right_put ts n t l h k =
    rw (take_more_set ts n t l) ((all_right_decides (take n ts ++ t ∷ [])).1
    (All-push Right (take n ts) t ((all_right_decides (take n ts)).0 h) ((right_decides t).0 k)))
