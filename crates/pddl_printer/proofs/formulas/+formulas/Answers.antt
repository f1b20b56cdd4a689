use Rattle.std.proofs.Common.{refl, List, ◌∷◌, map, codes, ap, sym, ◌∙◌}
use Rattle.std.proofs.lemmas.List.{map-append}
use Rattle.text_forms.specs.Lists.{Parts, group, nothing, part}
use Rattle.text_forms.specs.Words.{Word}
use Rattle.text_forms.specs.Printing.{bytes_behind}
use Rattle.plan_texts.specs.SpellsPddl.{pddl_words}
use Rattle.plan_texts.specs.Printed.{all_parts, params_parts, formula_part}
use Rattle.pddl_printer.specs.Behind.{behind}
use Rattle.plan_model.specs.Scopes.{in_force}
use Rattle.pddl_printer.specs.Texts.{quantified_text}
use Rattle.pddl_printer.specs.Scopes.{words_in_force, words_within}
use Rattle.pddl_printer.proofs.Each.{behind-each}
use Rattle.pddl_printer.proofs.Groups.{quantified-is}
use Rattle.pddl_printer.proofs.Batches.{added-as, added-then, added-of, added-one, added-two, added-headed, each-added, each-added-all}
use Rattle.plan_texts.specs.Declared.{Declared, variable}
use Rattle.plan_model.specs.declared.formulas.Formula.{Formula}
use Rattle.plan_texts.proofs.Equations.{part-Equal, part-Not, part-And, part-Or, part-Imply, part-Forall, part-Exists}
use Rattle.pddl_printer.proofs.formulas.+formulas.Goals as goal

-- formulas, each behind a space
abbrev all : Declared → List Word → List Formula → Parts
all v s fs = all_parts (map (λ f. formula_part v f s) fs)

pub add_formula-returns-in-Equal : goal.add_formula-returns-in-Equal
add_formula-returns-in-Equal t c =
    let v = pddl_words c.args.p.now in
    let s : List Word = words_in_force c.args.p.now c.args.scope.now in
    added-of behind (sym (ap (λ f. formula_part v f s) c.in-Equal.is ∙ part-Equal v c.in-Equal.left c.in-Equal.right s))
    c.add_applied.ensures

pub add_formula-returns-in-Not : goal.add_formula-returns-in-Not
add_formula-returns-in-Not t c =
    let v = pddl_words c.args.p.now in
    let s : List Word = words_in_force c.args.p.now c.args.scope.now in
    let q = formula_part v c.in-Not.part s in
    added-of behind (sym (ap (λ f. formula_part v f s) c.in-Not.is ∙ part-Not v c.in-Not.part s))
    (added-headed (codes "not") (part q nothing) c.add.ensures (added-one q (added-of (λ f. behind (formula_part v f s)) c.get.ensures.value c.add_formula.ensures)) c.add-in-Not.ensures)

pub add_formula-returns-in-And : goal.add_formula-returns-in-And
add_formula-returns-in-And t c =
    let v = pddl_words c.args.p.now in
    let s : List Word = words_in_force c.args.p.now c.args.scope.now in
    added-of behind (sym (ap (λ f. formula_part v f s) c.in-And.is ∙ part-And v c.in-And.parts s))
    (added-headed (codes "and") (all v s c.in-And.parts) c.add-in-And.ensures (added-of (λ fs. bytes_behind (all v s fs)) c.as_slice.ensures.items c.add_formulas.ensures) c.add-in-And-2.ensures)

pub add_formula-returns-in-Or : goal.add_formula-returns-in-Or
add_formula-returns-in-Or t c =
    let v = pddl_words c.args.p.now in
    let s : List Word = words_in_force c.args.p.now c.args.scope.now in
    added-of behind (sym (ap (λ f. formula_part v f s) c.in-Or.is ∙ part-Or v c.in-Or.parts s))
    (added-headed (codes "or") (all v s c.in-Or.parts) c.add-in-Or.ensures (added-of (λ fs. bytes_behind (all v s fs)) c.as_slice-in-Or.ensures.items c.add_formulas-in-Or.ensures) c.add-in-Or-2.ensures)

pub add_formula-returns-in-Imply : goal.add_formula-returns-in-Imply
add_formula-returns-in-Imply t c =
    let v = pddl_words c.args.p.now in
    let s : List Word = words_in_force c.args.p.now c.args.scope.now in
    let q = formula_part v c.in-Imply.premise s in
    let r = formula_part v c.in-Imply.conclusion s in
    added-of behind (sym (ap (λ f. formula_part v f s) c.in-Imply.is ∙ part-Imply v c.in-Imply.premise c.in-Imply.conclusion s))
    (added-headed (codes "imply") (part q (part r nothing)) c.add-in-Imply.ensures
    (added-two q r (added-of (λ f. behind (formula_part v f s)) c.get-in-Imply.ensures.value c.add_formula-in-Imply.ensures) (added-of (λ f. behind (formula_part v f s)) c.get-in-Imply-2.ensures.value c.add_formula-in-Imply-2.ensures))
    c.add-in-Imply-2.ensures)

pub add_formula-returns-in-Forall : goal.add_formula-returns-in-Forall
add_formula-returns-in-Forall t c =
    let v = pddl_words c.args.p.now in
    let s : List Word = words_in_force c.args.p.now c.args.scope.now in
    let word = codes "forall" in
    added-of behind (sym (ap (λ f. formula_part v f s) c.in-Forall.is ∙ part-Forall v c.in-Forall.params c.in-Forall.body s))
    (added-as ((λ i. quantified_text c.args.p.now c.args.scope.now (c.as_slice-params.ensures.items i) (32 ∷ 40 ∷ word) (c.get-in-Forall.ensures.value i)) ∙ quantified-is word (group (params_parts v c.in-Forall.params)) (formula_part v c.in-Forall.body (words_within c.args.p.now c.args.scope.now c.in-Forall.params)))
    c.add_quantified.ensures)

pub add_formula-returns-in-Exists : goal.add_formula-returns-in-Exists
add_formula-returns-in-Exists t c =
    let v = pddl_words c.args.p.now in
    let s : List Word = words_in_force c.args.p.now c.args.scope.now in
    let word = codes "exists" in
    added-of behind (sym (ap (λ f. formula_part v f s) c.in-Exists.is ∙ part-Exists v c.in-Exists.params c.in-Exists.body s))
    (added-as ((λ i. quantified_text c.args.p.now c.args.scope.now (c.as_slice-params-in-Exists.ensures.items i) (32 ∷ 40 ∷ word) (c.get-in-Exists.ensures.value i)) ∙ quantified-is word (group (params_parts v c.in-Exists.params)) (formula_part v c.in-Exists.body (words_within c.args.p.now c.args.scope.now c.in-Exists.params)))
    c.add_quantified-in-Exists.ensures)

pub add_quantified-returns : goal.add_quantified-returns
add_quantified-returns t c =
    let v = pddl_words c.args.p.now in
    let within = map-append (variable v) (in_force c.args.scope.now) c.args.params.now in
    added-then c.add.ensures
    (added-then c.add_variables.ensures (added-then (added-as (ap (λ s. behind (formula_part v c.args.part.now s)) within) c.add_formula.ensures) c.add-2.ensures))

pub add_formulas-loop-formula-preserved : goal.add_formulas-loop-formula-preserved
add_formulas-loop-formula-preserved t c = each-added (λ f. behind (formula_part (pddl_words c.args.p.now) f (words_in_force c.args.p.now c.args.scope.now))) c.args.formulas.now c.loop-formula.formula-index c.formula-item.result c.loop-formula-test.true c.formula-item.is c.loop-formula.invariant c.add_formula.ensures

pub add_formulas-returns : goal.add_formulas-returns
add_formulas-returns t c = added-as (behind-each (λ f. formula_part (pddl_words c.args.p.now) f (words_in_force c.args.p.now c.args.scope.now)) c.args.formulas.now) (each-added-all (λ f. behind (formula_part (pddl_words c.args.p.now) f (words_in_force c.args.p.now c.args.scope.now))) c.args.formulas.now c.loop-formula.formula-index c.loop-formula-test.false refl c.loop-formula.invariant)
