use Rattle.std.proofs.Common.{◌≡◌, ◌∙◌, ◌==◌, true, length, ap, sym, get_or, []}
use Rattle.hplan_text.specs.declared.lines.Word.{Word}
use Rattle.hplan_text.proofs.Rowed.{some-names, primitive-is, node-found, no-node, node-ids, third}
use Rattle.hplan_text.proofs.rows.task.Goals as goal

pub returns-in-empty : goal.returns-in-empty
returns-in-empty c =
    let ws = c.args.names.now in
    let some : length ws ≡ 0 → ⊥ = λ z. (let e : (length ws == 0) ≡ true = ap (λ k. k == 0) z in let f = c.is_empty.ensures in let g = c.if-is_empty.false in cc) in
    let n = some-names c.args.own ws some in
    (n.0, n.1, n.2, primitive-is c.args.own ws c.args.behind.now n.0 n.1 c.in-empty.len_below n.2)

-- what a read of a list gives past its end
abbrev nothing : Word
nothing = record { at = 0; bytes = record { ref_ptr = (0, 0); now = [] } }

pub returns-then-are_node : goal.returns-then-are_node
returns-then-are_node c =
    let ws = c.args.names.now in
    let some : length ws ≡ 0 → ⊥ = λ z. (let e : (length ws == 0) ≡ true = ap (λ k. k == 0) z in let f = c.is_empty.ensures in let g = c.if-is_empty.false in cc) in
    let n = some-names c.args.own ws some in
    let behind = c.args.behind.now in
    let t = sym c.are_node.ensures ∙ c.if-are_node.true in
    (n.0, n.1, n.2, node-ids c.args.own (get_or behind 0 nothing) (get_or behind 1 nothing) (third c.args.own behind) t, node-found c.args.own ws behind n.0 n.1 nothing nothing c.in-len2-up.len_at_least n.2 t)

pub returns-else-are_node : goal.returns-else-are_node
returns-else-are_node c =
    let ws = c.args.names.now in
    let some : length ws ≡ 0 → ⊥ = λ z. (let e : (length ws == 0) ≡ true = ap (λ k. k == 0) z in let f = c.is_empty.ensures in let g = c.if-is_empty.false in cc) in
    let n = some-names c.args.own ws some in
    no-node c.args.own ws c.args.behind.now n.0 n.1 nothing nothing c.in-len2-up.len_at_least n.2 (sym c.are_node.ensures ∙ c.if-are_node.false)
