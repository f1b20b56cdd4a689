use Rattle.std.proofs.Common.{List, map, codes, ap, sym, ◌∙◌}
use Rattle.std.proofs.lemmas.List.{map-append}
use Rattle.text_forms.specs.Lists.{group, nothing, part}
use Rattle.text_forms.specs.Words.{Word}
use Rattle.plan_texts.specs.SpellsPddl.{pddl_words}
use Rattle.plan_texts.specs.Printed.{all_parts, applied_part, params_parts, formula_part, effect_part}
use Rattle.pddl_printer.specs.Behind.{behind}
use Rattle.plan_model.specs.Scopes.{in_force}
use Rattle.pddl_printer.specs.Scopes.{words_in_force, words_within}
use Rattle.pddl_printer.proofs.Each.{behind-each}
use Rattle.pddl_printer.proofs.Batches.{added-as, added-of, added-one, added-two, added-headed, each-added, each-added-all}
use Rattle.plan_texts.specs.Declared.{variable}
use Rattle.plan_model.specs.declared.effects.Effect.{Effect}
use Rattle.plan_texts.proofs.Equations.{effect-Delete, effect-And, effect-Forall, effect-When}
use Rattle.pddl_printer.proofs.effects.+effects.Goals as goal

pub returns-in-Delete : goal.returns-in-Delete
returns-in-Delete t c =
    let v = pddl_words c.args.p.now in
    let s : List Word = words_in_force c.args.p.now c.args.scope.now in
    let q = applied_part v s c.in-Delete.atom.predicate c.in-Delete.atom.args in
    added-of behind (sym (ap (λ e. effect_part v e s) c.in-Delete.is ∙ effect-Delete v c.in-Delete.atom s))
    (added-headed (codes "not") (part q nothing) c.add.ensures (added-one q c.add_atom-in-Delete.ensures) c.add-in-Delete.ensures)

pub loop-part-preserved : goal.loop-part-preserved
loop-part-preserved t c = each-added (λ e. behind (effect_part (pddl_words c.args.p.now) e (words_in_force c.args.p.now c.args.scope.now))) c.as_slice-part-items.result.now c.loop-part.part-index c.part-item.result c.loop-part-test.true c.part-item.is c.loop-part.invariant c.add_effect.ensures

pub returns-after-loop-part : goal.returns-after-loop-part
returns-after-loop-part t c =
    let v = pddl_words c.args.p.now in
    let s : List Word = words_in_force c.args.p.now c.args.scope.now in
    let text = λ (e : Effect). effect_part v e s in
    let each = each-added-all (λ e. behind (text e)) c.as_slice-part-items.result.now c.loop-part.part-index c.loop-part-test.false c.as_slice-part-items.ensures.items c.loop-part.invariant in
    added-of behind (sym (ap (λ e. effect_part v e s) c.in-And.is ∙ effect-And v c.in-And.parts s))
    (added-headed (codes "and") (all_parts (map text c.in-And.parts)) c.add-in-And.ensures (added-as (behind-each text c.in-And.parts) each) c.add-in-And-2.ensures)

pub returns-in-Forall : goal.returns-in-Forall
returns-in-Forall t c =
    let p = c.args.p.now in
    let scope = c.args.scope.now in
    let v = pddl_words p in
    let s : List Word = words_in_force p scope in
    let g = group (params_parts v c.in-Forall.params) in
    let q = effect_part v c.in-Forall.body (words_within p scope c.in-Forall.params) in
    let within = map-append (variable v) (in_force scope) c.as_slice-params.result.now ∙ ap (words_within p scope) c.as_slice-params.ensures.items in
    added-of behind (sym (ap (λ e. effect_part v e s) c.in-Forall.is ∙ effect-Forall v c.in-Forall.params c.in-Forall.body s))
    (added-headed (codes "forall") (part g (part q nothing)) c.add-in-Forall.ensures
    (added-two g q (added-of (λ xs. behind (group (params_parts v xs))) c.as_slice-params.ensures.items c.add_variables.ensures)
    (added-as (λ i. behind (effect_part v (c.get.ensures.value i) (within i))) c.add_effect-in-Forall.ensures))
    c.add-in-Forall-2.ensures)

pub returns-in-When : goal.returns-in-When
returns-in-When t c =
    let v = pddl_words c.args.p.now in
    let s : List Word = words_in_force c.args.p.now c.args.scope.now in
    let q = formula_part v c.in-When.condition s in
    let r = effect_part v c.in-When.body s in
    added-of behind (sym (ap (λ e. effect_part v e s) c.in-When.is ∙ effect-When v c.in-When.condition c.in-When.body s))
    (added-headed (codes "when") (part q (part r nothing)) c.add-in-When.ensures
    (added-two q r c.add_formula.ensures (added-of (λ e. behind (effect_part v e s)) c.get-in-When.ensures.value c.add_effect-in-When.ensures))
    c.add-in-When-2.ensures)
