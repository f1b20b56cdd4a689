use Rattle.std.proofs.Common.{map, codes, ap, sym, ◌∙◌}
use Rattle.plan_texts.specs.SpellsPddl.{pddl_words}
use Rattle.plan_texts.specs.Printed.{all_parts, formula_part}
use Rattle.plan_texts.proofs.Equations.{part-And}
use Rattle.pddl_printer.specs.WrittenOut.{joined, condition_parts, condition}
use Rattle.pddl_printer.proofs.written_out.Equations.{condition-And}
use Rattle.pddl_printer.specs.Behind.{behind}
use Rattle.pddl_printer.specs.Literals.{conditions_behind}
use Rattle.pddl_printer.specs.Scopes.{words_in_force}
use Rattle.pddl_printer.proofs.Groups.{wrote-at, wrote-headed}
use Rattle.pddl_printer.proofs.OtherConditions.{condition_of-other}
use Rattle.pddl_printer.proofs.written_conditions.put_written_condition.Goals as goal

pub returns-in-And : goal.returns-in-And
returns-in-And c =
    let v = pddl_words c.args.p.now in
    let s = words_in_force c.args.p.now c.args.scope.now in
    let r = c.args.of.written.range in
    let d = c.args.of.depth in
    let parts = joined (map (condition_parts r d) c.in-And.parts) in
    wrote-at behind (sym (ap (λ f. formula_part v (condition r d f) s) c.in-And.is ∙ ap (λ f. formula_part v f s) (condition-And r d c.in-And.parts) ∙ part-And v parts s))
    (wrote-headed (codes "and") (all_parts (map (λ f. formula_part v f s) parts)) c.put.ensures.wrote (wrote-at (λ fs. conditions_behind v s (joined (map (condition_parts r d) fs))) c.as_slice.ensures.items c.put_condition_parts.ensures) c.put-in-And.ensures.wrote)

pub returns-in_default : goal.returns-in_default
returns-in_default c =
    let v = pddl_words c.args.p.now in
    let s = words_in_force c.args.p.now c.args.scope.now in
    let r = c.args.of.written.range in
    let d = c.args.of.depth in
    wrote-at (λ f. behind (formula_part v f s)) (sym (condition_of-other r d c.args.formula.now c.args.formula.now c.in_default.not-And)) c.put_formula.ensures
