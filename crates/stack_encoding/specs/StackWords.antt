-- All words of the printed problem of a stack: a name table that has them lacks none.
-- Source: this project's encoding.
use Rattle.std.specs.Prelude.{ℕ, suc, List, [], ◌∷◌, ◌++◌, map, codes, Contains}
use Rattle.htn_base.specs.Escapes.{slot_word}
use Rattle.text_forms.specs.Words.{Word}
use Rattle.plan_model.specs.declared.types.Object.{Object}
use Rattle.plan_model.specs.declared.schemas.Predicate.{Predicate}
use Rattle.plan_model.specs.declared.schemas.TaskSchema.{TaskSchema}
use Rattle.plan_model.specs.declared.schemas.ActionSchema.{ActionSchema}
use Rattle.plan_model.specs.declared.schemas.MethodPlan.{MethodPlan}
use Rattle.plan_model.specs.declared.values.Compiled.{Compiled}
use Rattle.plan_model.specs.task_networks.Spelling.{numbers}
use Rattle.slot_encoding.specs.EncodedNames.{joined, guard_types, checked_methods, guard_word}
use Rattle.slot_encoding.specs.EncodedWords.{param_words, formula_words, own_word, type_words, held_words, action_words}

module _ (c : Compiled) where
  -- the source objects, and cells 0 to b
  abbrev pub cell_words : ℕ → List Word
  cell_words b = map (λ (x : Object). own_word c x.name) c.hddl.objects ++ map slot_word (numbers 0 (suc b))

  -- the variables of the generated predicates and of the cells of actions
  abbrev pub cell_variables : List Word
  cell_variables = codes "htn_h" ∷ codes "htn_d" ∷ codes "htn_x" ∷ codes "htn_a1" ∷ []

  abbrev pub stack_predicate_words : List Word
  stack_predicate_words =
      joined (map (λ (p : Predicate). own_word c p.name ∷ param_words c.hddl.names p.params) c.hddl.predicates)
      ++ (codes "htn_top" ∷ codes "htn_tip" ∷ codes "htn_up" ∷ [])
      ++ joined (map (λ (s : TaskSchema). held_words c (codes "htn_t_") s.name s.params) c.hddl.tasks)
      ++ joined (map (λ (s : ActionSchema). held_words c (codes "htn_a_") s.name s.params) c.hddl.actions)
      ++ joined (map (λ (plan : MethodPlan). held_words c (codes "htn_c_") plan.schema.name plan.schema.params) (checked_methods c))
      ++ map (guard_word c [] 0) (guard_types c)

  -- all of them, with cells 0 to b; those of the actions are the words that they have with slots
  abbrev pub stack_words : ℕ → List Word
  stack_words b =
      own_word c c.hddl.domain ∷ own_word c c.hddl.problem ∷ type_words c ++ cell_words b ++ cell_variables ++ stack_predicate_words ++ action_words c
      ++ formula_words c.hddl.names c.hddl.goal

  -- the table lacks none of them
  abbrev pub HasStackWords : ℕ → List Word → Type 0
  HasStackWords b names = (w : Word) → Contains (stack_words b) w → Contains names w
