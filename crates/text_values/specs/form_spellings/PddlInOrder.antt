-- A value to which what was read of two PDDL texts is bound, with types, pairs and unions in the order of the texts, is their value, and
-- this order is one.
use Rattle.std.specs.Prelude.{ℕ, ◌≡◌, List}
use Rattle.text_forms.specs.Faults.{IsFaultless}
use Rattle.plan_texts.specs.Declared.{union_words}
use Rattle.plan_texts.specs.SpellsPddl.{pddl_types}
use Rattle.plan_model.specs.declared.values.Pddl.{Pddl}
use Rattle.gd_reader.specs.Terms.{Names}
use Rattle.hddl_reader.specs.declared.sections.Language.TheVariants.{Pddl as language}
use Rattle.hddl_reader.specs.declared.sections.RawDomain.{RawDomain}
use Rattle.hddl_reader.specs.declared.sections.RawProblem.{RawProblem}
use Rattle.text_values.specs.form_spellings.BoundTexts.{IsBoundPddl}
use Rattle.text_values.specs.form_spellings.HddlInOrder.{AreBoundInOrder}
use Rattle.text_values.specs.form_spellings.PddlTexts.{IsPddlOf}
use Rattle.text_values.specs.form_spellings.ReadTexts.{AreRead}

abbrev pub BoundPddlIsOfTexts : Type 0
BoundPddlIsOfTexts =
    (domain problem : List ℕ) (table : Names) (d : RawDomain) (p : RawProblem) → AreRead language domain problem table d p
    → IsFaultless domain → IsFaultless problem → (c : Pddl) → IsBoundPddl table d p c → AreBoundInOrder table d p c.names c.types → IsPddlOf domain problem c

-- two values of the same texts have the same types, pairs and unions under the same numbers
abbrev pub PddlHasOneOrder : Type 0
PddlHasOneOrder =
    (domain problem : List ℕ) (one other : Pddl) → IsPddlOf domain problem one → IsPddlOf domain problem other
    → (pddl_types one ≡ pddl_types other) × (one.types.parents ≡ other.types.parents) × (union_words one.names one.types ≡ union_words other.names other.types)
