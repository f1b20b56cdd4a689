-- Values of the same PDDL texts have their types under the same numbers.
use Rattle.std.proofs.Common.{codes, sym, ap, ◌∙◌}
use Rattle.plan_texts.specs.Declared.{named}
use Rattle.plan_texts.specs.FirstSeen.{types_in_order, pairs_in_order, unions_in_order}
use Rattle.plan_texts.specs.Sections.{section, parts_in}
use Rattle.plan_texts.proofs.Unique.{same_definitions}
use Rattle.text_values.specs.form_spellings.PddlInOrder.{PddlHasOneOrder}

pub one_order : PddlHasOneOrder
one_order domain problem c d e f =
    let (_, _, a, b) = same_definitions domain problem (named c.names c.domain) (named c.names c.problem) (named d.names d.domain) (named d.names d.problem) e.spelled.texts f.spelled.texts in (
      e.ordered.types ∙ ap (λ ps. types_in_order (parts_in (section (codes ":types") ps))) a ∙ sym f.ordered.types,
      e.ordered.pairs ∙ ap (λ ps. pairs_in_order (parts_in (section (codes ":types") ps))) a ∙ sym f.ordered.pairs,
      e.ordered.unions ∙ (λ i. unions_in_order (a i) (b i)) ∙ sym f.ordered.unions,
    )
