-- The text of a condition with its quantifiers over the objects of a range written out.
-- Source: this project's.
use Rattle.std.specs.Prelude.{ℕ, ◌≡◌, Option, None, Some, List, [], ◌∷◌, map}
use Rattle.text_forms.specs.Words.{Word}
use Rattle.text_forms.specs.Printing.{bytes_behind}
use Rattle.plan_texts.specs.Declared.{Declared}
use Rattle.plan_texts.specs.Printed.{all_parts}
use Rattle.plan_model.specs.declared.formulas.Formula.{Formula}
use Rattle.plan_model.specs.declared.values.Pddl.{Pddl}
use Rattle.plan_model.specs.declared.scope.Scope.{Scope}
use Rattle.pddl_printer.specs.declared.each_object.Instances.{Instances}
use Rattle.pddl_printer.specs.declared.instances.Literal.{Literal}
use Rattle.pddl_printer.specs.declared.object_range.Range.{Range}
use Rattle.pddl_printer.specs.Literals.{conditions_behind, literal_part}
use Rattle.pddl_printer.specs.WrittenOut.{each, joined, condition_parts, condition}
use Rattle.pddl_printer.specs.Texts.{formula_text, formulas_text}

-- of: the objects, and the number of variables in force, which is the number of the quantified one
module _ (p : Pddl) (scope : Scope) (of : Instances) where
  abbrev pub written_text : Formula → List ℕ
  written_text f = formula_text p scope (condition of.written.range of.depth f)

  -- what stands in place of the parts of a conjunction
  abbrev pub parts_text : List Formula → List ℕ
  parts_text fs = formulas_text p scope (joined (map (condition_parts of.written.range of.depth) fs))

-- the literal for each object stands in place of a part, or the part stays as it is
abbrev pub SaysOfEach : Range → Formula → Option Literal → Type 0
SaysOfEach range part None = (depth : ℕ) → condition_parts range depth part ≡ part ∷ []
SaysOfEach range part (Some literal) =
    (v : Declared) (s : List Word) (depth : ℕ) → bytes_behind (all_parts (each range depth (literal_part v s depth literal))) ≡ conditions_behind v s (condition_parts range depth part)
