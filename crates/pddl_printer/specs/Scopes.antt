-- The words of the variables in force.
-- Source: scopes as in PDDL 2.1 (Fox and Long, JAIR 20, 2003, level 1): a quantifier's variables are in force in its part.
use Rattle.std.specs.Prelude.{List, ◌++◌, map}
use Rattle.text_forms.specs.Words.{Word}
use Rattle.plan_texts.specs.Declared.{variable}
use Rattle.plan_texts.specs.SpellsPddl.{pddl_words}
use Rattle.plan_model.specs.declared.terms.Param.{Param}
use Rattle.plan_model.specs.declared.values.Pddl.{Pddl}
use Rattle.plan_model.specs.declared.scope.Scope.{Scope}
use Rattle.plan_model.specs.Scopes.{in_force}

abbrev pub words_in_force : Pddl → Scope → List Word
words_in_force p scope = map (variable (pddl_words p)) (in_force scope)

-- these variables are in force too
abbrev pub words_within : Pddl → Scope → List Param → List Word
words_within p scope params = words_in_force p scope ++ map (variable (pddl_words p)) params
