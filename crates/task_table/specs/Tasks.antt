-- Which figures can be those of a task.
use Rattle.std.specs.Prelude.{◌≡◌, ℕ, ◌≤◌, Bool, ◌&&◌, List, ◌==◌, nat_le}
use Rattle.std.specs.List.{list_all}
use Rattle.task_table.specs.declared.task.Criticality.{Criticality}
use Rattle.task_table.specs.declared.task.Criticality.TheVariants.{Low, High}
use Rattle.task_table.specs.declared.task.Task.{Task}

-- the rule for a task's figures
pub record Right (t : Task) : Type 0 where
  pub runs : 1 ≤ t.budget_low
  pub budgets : t.budget_low ≤ t.budget_high
  pub in_time : t.budget_high ≤ t.deadline
  pub one_at_a_time : t.deadline ≤ t.period
  pub short_period : t.period ≤ 127
  pub short_offset : t.offset ≤ 127
  pub low_has_one_budget : t.criticality ≡ Low → t.budget_low ≡ t.budget_high

-- a task of low criticality has one budget
abbrev pub budgets_right : Criticality → ℕ → ℕ → Bool
budgets_right Low low high = low == high
budgets_right High low high = nat_le low high

-- the same rule as a test
abbrev pub is_right : Task → Bool
is_right t =
    nat_le 1 t.budget_low
    && (budgets_right t.criticality t.budget_low t.budget_high
    && (nat_le t.budget_high t.deadline
    && (nat_le t.deadline t.period
    && (nat_le t.period 127 && nat_le t.offset 127))))

abbrev pub all_right : List Task → Bool
all_right ts = list_all is_right ts
