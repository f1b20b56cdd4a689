-- The line of an action is its start, its condition behind a space, and its end.
-- Source: this project's.
use Rattle.std.specs.Prelude.{ℕ, Option, List, ◌++◌, map, length, codes}
use Rattle.htn_base.specs.declared.name.Name.{Name}
use Rattle.text_forms.specs.Lists.{group}
use Rattle.plan_texts.specs.Declared.{named, variable}
use Rattle.plan_texts.specs.SpellsPddl.{pddl_words}
use Rattle.plan_texts.specs.Printed.{params_parts, formula_part, effect_part}
use Rattle.plan_model.specs.declared.terms.Param.{Param}
use Rattle.plan_model.specs.declared.formulas.Formula.{Formula}
use Rattle.plan_model.specs.declared.effects.Effect.{Effect}
use Rattle.plan_model.specs.declared.values.Pddl.{Pddl}
use Rattle.pddl_printer.specs.declared.object_range.Range.{Range}
use Rattle.pddl_printer.specs.Behind.{behind}
use Rattle.pddl_printer.specs.InForm.{condition_in, effect_in}

-- its variables: xs
module _ (p : Pddl) (xs : List Param) where
  abbrev pub action_start : Name → List ℕ
  action_start n =
      codes " (:action " ++ (named p.names n ++ (codes " :parameters" ++ (behind (group (params_parts (pddl_words p) xs)) ++ codes " :precondition")))

  -- with the quantifiers over the range written out, if there is one
  module _ (range : Option Range) where
    abbrev pub action_condition : Formula → List ℕ
    action_condition f = behind (formula_part (pddl_words p) (condition_in range (length xs) f) (map (variable (pddl_words p)) xs))

    abbrev pub action_end : Effect → List ℕ
    action_end e =
        codes " :effect" ++ (behind (effect_part (pddl_words p) (effect_in range (length xs) e) (map (variable (pddl_words p)) xs)) ++ codes ")\n")
