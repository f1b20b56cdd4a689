use Rattle.hplan_text.specs.Scanning.{as_line}
use Rattle.hplan_text.proofs.Drafted.{on-ok}
use Rattle.hplan_text.proofs.draft.Draft.add.Goals as goal

pub returns-in-Primitive : goal.returns-in-Primitive
returns-in-Primitive c =
    let t = c.in-Primitive.ensures in
    record { added = on-ok c.add_primitive.result (λ f. λ ls h. f t.0 t.1 t.2 ls (as_line c.args.first c.args.more.now) h t.3) c.add_primitive.ensures.added }

pub returns-in-Decomposed : goal.returns-in-Decomposed
returns-in-Decomposed c =
    let t = c.in-Decomposed.ensures in
    record { added = on-ok c.add_node.result (λ f. λ ls h. f t.0 t.1 t.2 ls (as_line c.args.first c.args.more.now) h t.4) c.add_node.ensures.added }
