use Rattle.std.proofs.Common.{sym, subst}
use Rattle.plan_texts.specs.SpellsPddl.{pddl_words}
use Rattle.plan_texts.specs.Printed.{formula_part}
use Rattle.pddl_printer.specs.WrittenOut.{condition_parts}
use Rattle.pddl_printer.specs.Literals.{conditions_behind}
use Rattle.pddl_printer.specs.Scopes.{words_in_force}
use Rattle.text_forms.specs.sheets.Sheets.{Wrote}
use Rattle.text_forms.proofs.sheets.Written.{wrote-as}
use Rattle.pddl_printer.proofs.Groups.{wrote-at, wrote-one}
use Rattle.pddl_printer.proofs.Each.{each-next, each-done}
use Rattle.pddl_printer.proofs.Ranges.{behind-joined}
use Rattle.pddl_printer.proofs.written_conditions.put_condition_parts.Goals as goal
use Rattle.pddl_printer.proofs.written_conditions.put_condition_parts.Goals.{in-Some, in-None}

pub loop-part-preserved : goal.loop-part-preserved
loop-part-preserved c =
    let v = pddl_words c.args.p.now in
    let s = words_in_force c.args.p.now c.args.scope.now in
    let r = c.args.of.written.range in
    let d = c.args.of.depth in
    let part = c.part-item.result in
    each-next (λ f. conditions_behind v s (condition_parts r d f)) c.args.parts.now c.loop-part.part-index part c.loop-part-test.true c.part-item.is c.loop-part.invariant
    (elim c.match-literal_of.branch [
      | in-Some w ↦ subst (λ t. Wrote (conditions_behind v s (condition_parts r d part)) c.loop-part.sheet t) (sym w.sheet-is) (wrote-as (w.in-Some.ensures v s d) w.put_each.ensures)
      | in-None w ↦
          subst (λ t. Wrote (conditions_behind v s (condition_parts r d part)) c.loop-part.sheet t) (sym w.sheet-is)
          (wrote-at (conditions_behind v s) (sym (w.in-None.ensures d)) (wrote-one (formula_part v part s) w.put_formula.ensures))
    ])

pub returns : goal.returns
returns c =
    let v = pddl_words c.args.p.now in
    let s = words_in_force c.args.p.now c.args.scope.now in
    let r = c.args.of.written.range in
    let d = c.args.of.depth in
    wrote-as (behind-joined (λ f. formula_part v f s) (condition_parts r d) c.args.parts.now) (each-done (λ f. conditions_behind v s (condition_parts r d f)) c.args.parts.now c.loop-part.part-index c.loop-part-test.false c.loop-part.invariant)
