use Rattle.std.proofs.Common.{List, [], ◌∷◌, codes, ap, sym}
use Rattle.std.proofs.lemmas.List.{map-append}
use Rattle.text_forms.specs.Lists.{group}
use Rattle.text_forms.specs.Words.{Word}
use Rattle.plan_texts.specs.Declared.{variable}
use Rattle.plan_texts.specs.SpellsPddl.{pddl_words}
use Rattle.plan_texts.specs.Printed.{params_parts, formula_part}
use Rattle.plan_texts.proofs.Equations.{part-Forall}
use Rattle.plan_model.specs.Scopes.{in_force}
use Rattle.pddl_printer.specs.Behind.{behind}
use Rattle.pddl_printer.specs.LowestFree.{lowest_body}
use Rattle.pddl_printer.specs.Scopes.{words_in_force, words_within}
use Rattle.pddl_printer.proofs.Batches.{added-as, added-of, added-then}
use Rattle.pddl_printer.proofs.Groups.{quantified-is}
use Rattle.pddl_printer.proofs.lowest.add_lowest.Goals as goal

pub returns : goal.returns
returns c =
    let p = c.args.p.now in
    let scope = c.args.scope.now in
    let other = c.args.lowest.other ∷ [] in
    let body = lowest_body c.args.lowest c.args.k in
    let v = pddl_words p in
    let s : List Word = words_in_force p scope in
    let within = map-append (variable v) (in_force scope) other in
    added-of behind (sym (part-Forall v other body s))
    (added-as (quantified-is (codes "forall") (group (params_parts v other)) (formula_part v body (words_within p scope other)))
    (added-then c.add.ensures (added-then c.add_variables.ensures (added-then (added-as (ap (λ z. behind (formula_part v body z)) within) c.add_body.ensures) c.add-2.ensures))))
