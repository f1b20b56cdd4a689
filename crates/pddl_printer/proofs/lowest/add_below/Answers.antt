use Rattle.std.proofs.Common.{List, [], ◌∷◌, map, codes, sym}
use Rattle.text_forms.specs.Words.{Word}
use Rattle.plan_texts.specs.SpellsPddl.{pddl_words}
use Rattle.plan_texts.specs.Printed.{all_parts, formula_part}
use Rattle.plan_texts.proofs.Equations.{part-And, part-Holds}
use Rattle.plan_model.specs.declared.terms.Atom.{Atom}
use Rattle.plan_model.specs.declared.terms.Term.TheVariants.{Var}
use Rattle.plan_model.specs.declared.formulas.Formula.TheVariants.{Holds}
use Rattle.pddl_printer.specs.Behind.{behind}
use Rattle.pddl_printer.specs.LowestFree.{belows}
use Rattle.pddl_printer.specs.Scopes.{words_in_force}
use Rattle.pddl_printer.specs.Texts.{applied_text}
use Rattle.pddl_printer.proofs.Batches.{added-of, added-two, added-headed}
use Rattle.pddl_printer.proofs.lowest.add_below.Goals as goal

pub returns : goal.returns
returns c =
    let p = c.args.p.now in
    let scope = c.args.scope.now in
    let l = c.args.lowest in
    let v = pddl_words p in
    let s : List Word = words_in_force p scope in
    let free : Atom = record { predicate = l.free; args = Var l.x ∷ [] } in
    let less : Atom = record { predicate = l.less; args = Var l.x ∷ Var c.args.k ∷ [] } in
    added-of behind (sym (part-And v (belows l c.args.k) s))
    (added-headed (codes "and") (all_parts (map (λ f. formula_part v f s) (belows l c.args.k))) c.add.ensures
    (added-two (formula_part v (Holds free) s) (formula_part v (Holds less) s)
    (added-of behind (sym (part-Holds v free s)) (added-of (λ w. applied_text p scope w free.args) c.predicate_word.ensures c.add_applied.ensures))
    (added-of behind (sym (part-Holds v less s)) (added-of (λ w. applied_text p scope w less.args) c.predicate_word-less.ensures c.add_applied-2.ensures)))
    c.add-2.ensures)
