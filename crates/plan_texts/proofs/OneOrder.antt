-- Values of the same texts have their types under the same numbers.
use Rattle.std.proofs.Common.{ℕ, ◌≡◌, List, ap, sym, ◌∙◌, codes}
use Rattle.plan_texts.specs.Declared.{union_words}
use Rattle.plan_texts.specs.Sections.{section, parts_in}
use Rattle.plan_texts.specs.SpellsHddl.{hddl_types}
use Rattle.plan_texts.specs.FirstSeen.{types_in_order, pairs_in_order, unions_in_order, IsHddlOf}
use Rattle.plan_model.specs.declared.values.Hddl.{Hddl}
use Rattle.plan_texts.proofs.Unique.{same_definitions}

pub one-order : (c d : Hddl) (domain problem : List ℕ) → IsHddlOf domain problem c → IsHddlOf domain problem d
    → (hddl_types c ≡ hddl_types d) × (c.types.parents ≡ d.types.parents) × (union_words c.names c.types ≡ union_words d.names d.types)
one-order c d domain problem e f =
    let (_, _, a, b) = same_definitions domain problem _ _ _ _ e.spelled.texts f.spelled.texts in (
      e.ordered.types ∙ ap (λ ps. types_in_order (parts_in (section (codes ":types") ps))) a ∙ sym f.ordered.types,
      e.ordered.pairs ∙ ap (λ ps. pairs_in_order (parts_in (section (codes ":types") ps))) a ∙ sym f.ordered.pairs,
      e.ordered.unions ∙ (λ i. unions_in_order (a i) (b i)) ∙ sym f.ordered.unions,
    )
