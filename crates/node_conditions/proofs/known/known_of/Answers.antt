use Rattle.std.proofs.Common.{ℕ, List, [], ◌≡◌, ◌++◌, take, drop, length, replicate, Option, None, sym, subst, ◌∙◌, ap, rules}
use Rattle.node_conditions.specs.Taken.{IsKnown, said, said_by}
use Rattle.node_conditions.proofs.Noting.{known_first, written}
use Rattle.node_conditions.proofs.known.known_of.Goals as goal

pub returns-clause-known : goal.returns-clause-known
returns-clause-known c =
    let known = c.in_ok-known.known in
    let values = c.args.values.now in
    let plan = c.args.plan.now in
    let fresh : known.items ≡ replicate c.len.result None = c.in_ok-known.ensures.items_if_clones_equal (search rules) in
    let first : IsKnown values [] c.as_mut_slice.result.now =
    subst (IsKnown values []) (sym (c.as_mut_slice.ensures.value ∙ fresh)) (known_first values c.len.result) in
    let one : IsKnown values plan.schema.task_args c.note.new.known =
    subst (λ z. IsKnown values z c.note.new.known) c.as_slice.ensures.items (c.note.ensures [] first) in
    let many : known.len ≡ length c.note.new.known = known.ok.0
    ∙ sym (ap (λ (z : List (Option ℕ)). length z) c.as_mut_slice.ensures.value) ∙ sym c.note.auto.known in
    let back : take known.len (c.note.new.known ++ drop
    (length c.note.new.known) known.items) ≡ c.note.new.known = written c.note.new.known known.items known.len many in
    let two : IsKnown values plan.schema.task_args c.as_mut_slice-2.result.now = subst (IsKnown values plan.schema.task_args) (sym
    (c.as_mut_slice-2.ensures.value ∙ back)) one in
    let all : IsKnown values (said plan) c.note_children.new.known =
    subst (λ z. IsKnown values (plan.schema.task_args ++ said_by z) c.note_children.new.known) c.as_slice-2.ensures.items
    (c.note_children.ensures plan.schema.task_args two) in
    let more : known.len ≡ length c.note_children.new.known = many
    ∙ sym (ap (λ (z : List (Option ℕ)). length z) (c.as_mut_slice-2.ensures.value ∙ back)) ∙ sym c.note_children.auto.known in
    subst (IsKnown values (said plan)) (sym (written c.note_children.new.known _ known.len more)) all
