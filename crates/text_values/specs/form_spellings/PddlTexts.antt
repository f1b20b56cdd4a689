-- The value of two PDDL texts: types, pairs and unions in the order in which the texts first name them.
-- Source: this project's.
use Rattle.std.specs.Prelude.{ℕ, ◌≡◌, List, codes}
use Rattle.text_forms.specs.Faults.{IsFaultless}
use Rattle.text_forms.specs.Lists.{Parts}
use Rattle.plan_texts.specs.Declared.{union_words}
use Rattle.plan_texts.specs.FirstSeen.{types_in_order, pairs_in_order, unions_in_order}
use Rattle.plan_texts.specs.Sections.{section, parts_in}
use Rattle.plan_texts.specs.SpellsPddl.{pddl_types, SpellsPddl}
use Rattle.plan_model.specs.declared.values.Pddl.{Pddl}

pub record IsPddlInOrder (c : Pddl) (domain problem : Parts) : Type 0 where
  pub types : pddl_types c ≡ types_in_order (parts_in (section (codes ":types") domain))
  pub pairs : c.types.parents ≡ pairs_in_order (parts_in (section (codes ":types") domain))
  pub unions : union_words c.names c.types ≡ unions_in_order domain problem

-- The texts spell the value, whose types are in order. That no fault of forms and names stands in them is said by their readers.
pub record IsPddlOf (domain problem : List ℕ) (c : Pddl) : Type 0 where
  pub domain_faultless : IsFaultless domain
  pub problem_faultless : IsFaultless problem
  pub spelled : SpellsPddl domain problem c
  pub ordered : IsPddlInOrder c spelled.domain_sections spelled.problem_sections
