use Rattle.std.proofs.Common.{◌≡◌, ◌+◌, ◌<◌, ◌++◌, length, drop, vec_items, sym, ap, ◌∙◌, subst, arith}
use Rattle.task_table.specs.Tables.{tasks_of}
use Rattle.task_verdict.specs.Misses.{late_numbers}
use Rattle.task_verdict.proofs.Numbers.{numbers_late, numbers_passed, numbers_whole, somebody}
use Rattle.task_verdict.proofs.lateness.late_tasks.Goals as goal
use Rattle.task_verdict.proofs.lateness.late_tasks.Goals.{then-is_late+in_ok-push, else-is_late}

pub loop-i-preserved : goal.loop-i-preserved
loop-i-preserved c =
    let ts = c.tasks-task-items.result.now in
    let xs = c.args.state.now.jobs in
    let i = c.loop-i.i in
    let wide = c.args.state.now.wide in
    let row : i < length ts = omega arith in
    let column : i < length xs = omega (arith, wide, c.tasks-task-items.ensures.few) in
    elim c.if-is_late.branch [
      | then-is_late+in_ok-push w ↦ ap (λ ns. vec_items ns ++ late_numbers (i + 1) (drop (i + 1) ts) (drop (i + 1) xs)) w.numbers-is
          ∙ ap (λ ns. ns ++ late_numbers (i + 1) (drop (i + 1) ts) (drop (i + 1) xs)) w.in_ok-push.ensures.items
          ∙ numbers_late ts xs i _ _ row column (vec_items c.loop-i.numbers) (late_numbers 0 ts xs) w.if-is_late.ensures c.loop-i.invariant
      | else-is_late w ↦ ap (λ ns. vec_items ns ++ late_numbers (i + 1) (drop (i + 1) ts) (drop (i + 1) xs)) w.numbers-is
          ∙ numbers_passed ts xs i _ _ row column (vec_items c.loop-i.numbers) (late_numbers 0 ts xs) w.if-is_late.ensures c.loop-i.invariant
    ]

pub returns : goal.returns
returns c =
    let ts = c.tasks-task-items.result.now in
    let xs = c.args.state.now.jobs in
    let whole : vec_items c.loop-i.numbers ≡ late_numbers 0 (tasks_of c.args.table.now) xs =
    numbers_whole ts (drop c.loop-i.i xs) c.loop-i.i (vec_items c.loop-i.numbers) (late_numbers 0 ts xs) (omega arith) c.loop-i.invariant
    ∙ ap (λ us. late_numbers 0 us xs) c.tasks-task-items.ensures.answers in
    record {
      numbers = whole;
      somebody = λ h. subst (λ ns. 0 < length ns) (sym whole) (somebody (tasks_of c.args.table.now) c.args.state.now h);
    }
