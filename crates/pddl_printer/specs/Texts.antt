-- The text of each part of a value p. One part stands behind a space, and of several each does, where no other place is named.
-- Source: appendix A (grammar) of Fox and Long, "PDDL2.1", JAIR 20, 2003, level 1; the layout is this project's.
use Rattle.std.specs.Prelude.{ℕ, Option, List, ◌∷◌, ◌++◌, map, codes}
use Rattle.text_forms.specs.Lists.{group}
use Rattle.text_forms.specs.Words.{Word}
use Rattle.text_forms.specs.Printing.{bytes, bytes_behind, headed, lines}
use Rattle.plan_texts.specs.Declared.{kind_at}
use Rattle.plan_texts.specs.SpellsPddl.{pddl_words}
use Rattle.plan_texts.specs.Printed.{all_parts, kind_part, param_words, params_parts, term_part, applied_part, formula_part, effect_part}
use Rattle.plan_texts.specs.PrintedTexts.{object_words, parent_words, predicate_part, fact_part, action_part}
use Rattle.plan_model.specs.declared.terms.Term.{Term}
use Rattle.plan_model.specs.declared.terms.Atom.{Atom}
use Rattle.plan_model.specs.declared.terms.GroundAtom.{GroundAtom}
use Rattle.plan_model.specs.declared.terms.Param.{Param}
use Rattle.plan_model.specs.declared.types.Parent.{Parent}
use Rattle.plan_model.specs.declared.types.Object.{Object}
use Rattle.plan_model.specs.declared.formulas.Formula.{Formula}
use Rattle.plan_model.specs.declared.effects.Effect.{Effect}
use Rattle.plan_model.specs.declared.schemas.Predicate.{Predicate}
use Rattle.plan_model.specs.declared.schemas.ActionSchema.{ActionSchema}
use Rattle.plan_model.specs.declared.values.Pddl.{Pddl}
use Rattle.pddl_printer.specs.declared.object_range.Range.{Range}
use Rattle.plan_model.specs.declared.scope.Scope.{Scope}
use Rattle.pddl_printer.specs.Behind.{behind, line, typed}
use Rattle.pddl_printer.specs.InForm.{action_in, condition_in, parts_in}
use Rattle.pddl_printer.specs.Scopes.{words_in_force, words_within}

module _ (p : Pddl) where
  -- of a type that may be a union
  abbrev pub kind_text : ℕ → List ℕ
  kind_text ty = bytes (kind_part (kind_at (pddl_words p) ty))

  -- a variable with its type, without the space
  abbrev pub param_text : Param → List ℕ
  param_text x = typed (param_words (pddl_words p) x)

  -- behind a space
  abbrev pub spaced_param_text : Param → List ℕ
  spaced_param_text x = 32 ∷ param_text x

  -- variables with their types as one list
  abbrev pub variables_text : List Param → List ℕ
  variables_text xs = behind (group (params_parts (pddl_words p) xs))

  -- a type with its parent
  abbrev pub parent_text : Parent → List ℕ
  parent_text x = 32 ∷ typed (parent_words (pddl_words p) x)

  -- an object with its type
  abbrev pub object_text : Object → List ℕ
  object_text x = 32 ∷ typed (object_words (pddl_words p) x)

  abbrev pub fact_text : GroundAtom → List ℕ
  fact_text g = behind (fact_part (pddl_words p) g)

  abbrev pub predicate_text : Predicate → List ℕ
  predicate_text d = behind (predicate_part (pddl_words p) d)

  -- with the quantifiers over the range written out, if there is one; each action on a line of its own
  module _ (range : Option Range) where
    abbrev pub action_text : ActionSchema → List ℕ
    action_text a = line (action_part (pddl_words p) (action_in range a))

    abbrev pub actions_text : List ActionSchema → List ℕ
    actions_text actions = lines (all_parts (map (action_part (pddl_words p)) (map (action_in range) actions)))

  -- scope: the variables in force
  module _ (scope : Scope) where
    abbrev pub term_text : Term → List ℕ
    term_text t = behind (term_part (pddl_words p) (words_in_force p scope) t)

    -- a word with terms
    abbrev pub applied_text : Word → List Term → List ℕ
    applied_text w ts = behind (headed w (all_parts (map (term_part (pddl_words p) (words_in_force p scope)) ts)))

    abbrev pub atom_text : Atom → List ℕ
    atom_text a = behind (applied_part (pddl_words p) (words_in_force p scope) a.predicate a.args)

    abbrev pub formula_text : Formula → List ℕ
    formula_text f = behind (formula_part (pddl_words p) f (words_in_force p scope))

    abbrev pub formulas_text : List Formula → List ℕ
    formulas_text fs = bytes_behind (all_parts (map (λ f. formula_part (pddl_words p) f (words_in_force p scope)) fs))

    abbrev pub effect_text : Effect → List ℕ
    effect_text e = behind (effect_part (pddl_words p) e (words_in_force p scope))

    -- what opens a quantifier, its variables, and its part, in which they are in force too
    abbrev pub quantified_text : List Param → List ℕ → Formula → List ℕ
    quantified_text params opening f = opening ++ (variables_text params ++ (behind (formula_part (pddl_words p) f (words_within p scope params)) ++ codes ")"))

    -- with the quantifiers over the range written out, if there is one; depth: the number of variables in force
    module _ (range : Option Range) (depth : ℕ) where
      abbrev pub condition_text : Formula → List ℕ
      condition_text f = formula_text (condition_in range depth f)

      abbrev pub parts_text : List Formula → List ℕ
      parts_text fs = formulas_text (parts_in range depth fs)
