use Rattle.std.proofs.Common.{[], ap, sym, ◌∙◌}
use Rattle.slot_encoding.specs.slot_declarations.Guards.{with_all_types}
use Rattle.slot_encoding.proofs.slot_declarations.GuardTypes.{with_all_types-empty}
use Rattle.std.proofs.lemmas.List.{drop_all}
use Rattle.slot_encoding.proofs.slot_declarations.guards.guard_types.Goals as goal

pub returns : goal.returns
returns c =
    let methods = c.as_slice-methods.result.now in
    ap (with_all_types c.loop-plan.types) (sym (drop_all c.loop-plan.plan-index methods c.loop-plan-test.false)) ∙ c.loop-plan.invariant
    ∙ ap (with_all_types []) c.as_slice-methods.ensures.items ∙ with_all_types-empty c.args.c.now.methods
