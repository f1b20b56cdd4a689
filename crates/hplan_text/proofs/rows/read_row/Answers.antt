use Rattle.std.proofs.Common.{◌∙◌, sym, ap, ap₂, subst, map, take, drop}
use Rattle.hplan_text.specs.Rows.{task_row}
use Rattle.hplan_text.specs.Scanning.{as_said, names_of, TellsRow}
use Rattle.hplan_text.proofs.Rowed.{root-row, bad-root, task-is}
use Rattle.hplan_text.proofs.rows.read_row.Goals as goal

pub returns-then-are_ids : goal.returns-then-are_ids
returns-then-are_ids c =
    let ids = sym c.are_ids.ensures ∙ c.if-are_ids.true in
    (ids, root-row c.args.first c.args.more.now (sym c.is_root.ensures ∙ c.if-is_root.true) ids)

pub returns-else-are_ids : goal.returns-else-are_ids
returns-else-are_ids c = bad-root c.args.first c.args.more.now (sym c.is_root.ensures ∙ c.if-is_root.true) (sym c.are_ids.ensures ∙ c.if-are_ids.false)

pub returns-in-Some : goal.returns-in-Some
returns-in-Some c =
    let w = c.args.first in
    let ws = c.args.more.now in
    let id = c.in-Some.ensures in
    let is = task-is w ws c.names_len.result (sym c.is_root.ensures ∙ c.if-is_root.false) id.0 c.names_len.ensures.names in
    let parts = ap₂ (λ x y. task_row (record { id = c.in-Some.id; at = w.at }) (names_of x) (map as_said y)) c.split_at.ensures.front c.split_at.ensures.back in
    let number = ap (λ i. task_row (record { id = i; at = w.at }) (names_of (take c.names_len.result ws)) (map as_said (drop c.names_len.result ws))) id.1 in
    subst (TellsRow c.task.result) (parts ∙ number ∙ sym is) c.task.ensures
