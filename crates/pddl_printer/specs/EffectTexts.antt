-- The text of an effect with its quantifiers over the objects of a range written out.
-- Source: this project's.
use Rattle.std.specs.Prelude.{ℕ, ◌≡◌, Option, None, Some, List, [], ◌∷◌}
use Rattle.text_forms.specs.Words.{Word}
use Rattle.text_forms.specs.Printing.{bytes_behind}
use Rattle.plan_texts.specs.Declared.{Declared}
use Rattle.plan_texts.specs.Printed.{all_parts}
use Rattle.plan_model.specs.declared.effects.Effect.{Effect}
use Rattle.plan_model.specs.declared.values.Pddl.{Pddl}
use Rattle.plan_model.specs.declared.scope.Scope.{Scope}
use Rattle.pddl_printer.specs.declared.each_object.Instances.{Instances}
use Rattle.pddl_printer.specs.declared.instances.Literal.{Literal}
use Rattle.pddl_printer.specs.declared.object_range.Range.{Range}
use Rattle.pddl_printer.specs.Literals.{effects_behind, literal_part}
use Rattle.pddl_printer.specs.WrittenOut.{each, effect_parts, effect}
use Rattle.pddl_printer.specs.Texts.{effect_text}

-- of: the objects, and the number of variables in force, which is the number of the quantified one
abbrev pub written_text : Pddl → Scope → Instances → Effect → List ℕ
written_text p scope of e = effect_text p scope (effect of.written.range of.depth e)

-- the literal for each object stands in place of a part, or the part stays as it is
abbrev pub SaysOfEach : Range → Effect → Option Literal → Type 0
SaysOfEach range part None = (depth : ℕ) → effect_parts range depth part ≡ part ∷ []
SaysOfEach range part (Some literal) =
    (v : Declared) (s : List Word) (depth : ℕ) → bytes_behind (all_parts (each range depth (literal_part v s depth literal))) ≡ effects_behind v s (effect_parts range depth part)
