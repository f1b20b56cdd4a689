-- All words of the printed problem: a name table that has them lacks none.
-- Source: this project's encoding, after Alford et al., "Bound to Plan", ICAPS 2016.
use Rattle.std.specs.Prelude.{ℕ, zero, suc, ◌-◌, List, [], ◌∷◌, ◌++◌, map, length, codes, decimal, Contains}
use Rattle.htn_base.specs.Escapes.{slot_word}
use Rattle.htn_base.specs.declared.name.Name.{Name}
use Rattle.text_forms.specs.Words.{Word}
use Rattle.plan_model.specs.declared.terms.Param.{Param}
use Rattle.plan_model.specs.declared.types.Object.{Object}
use Rattle.plan_model.specs.declared.formulas.Formula.{Formula}
use Rattle.plan_model.specs.declared.formulas.Formula.TheFolds.{fold-Formula}
use Rattle.plan_model.specs.declared.formulas.Formula.TheOpen.{Formula-F}
use Rattle.plan_model.specs.declared.effects.Effect.{Effect}
use Rattle.plan_model.specs.declared.effects.Effect.TheFolds.{fold-Effect}
use Rattle.plan_model.specs.declared.effects.Effect.TheOpen.{Effect-F}
use Rattle.plan_model.specs.declared.schemas.Predicate.{Predicate}
use Rattle.plan_model.specs.declared.schemas.TaskSchema.{TaskSchema}
use Rattle.plan_model.specs.declared.schemas.ActionSchema.{ActionSchema}
use Rattle.plan_model.specs.declared.schemas.MethodPlan.{MethodPlan}
use Rattle.plan_model.specs.declared.values.Compiled.{Compiled}
use Rattle.plan_model.specs.task_networks.Spelling.{numbers}
use Rattle.slot_encoding.specs.SourceParts.{source_word}
use Rattle.slot_encoding.specs.EncodedNames.{joined, guard_types, checked_methods, guard_word}

module _ (source : List Word) where
  abbrev pub param_words : List Param → List Word
  param_words params = map (λ (x : Param). source_word source x.name) params

  -- the variables that are quantified in a formula, in an effect
  abbrev pub formula_words_step : Formula-F (List Word) → List Word
  formula_words_step (Formula-F.Holds a) = []
  formula_words_step (Formula-F.Equal s t) = []
  formula_words_step (Formula-F.Not f) = f
  formula_words_step (Formula-F.And fs) = joined fs
  formula_words_step (Formula-F.Or fs) = joined fs
  formula_words_step (Formula-F.Imply f g) = f ++ g
  formula_words_step (Formula-F.Forall ps f) = param_words ps ++ f
  formula_words_step (Formula-F.Exists ps f) = param_words ps ++ f

  abbrev pub formula_words : Formula → List Word
  formula_words = fold-Formula (List Word) formula_words_step

  abbrev pub effect_words_step : Effect-F (List Word) → List Word
  effect_words_step (Effect-F.Add a) = []
  effect_words_step (Effect-F.Delete a) = []
  effect_words_step (Effect-F.And es) = joined es
  effect_words_step (Effect-F.Forall ps e) = param_words ps ++ e
  effect_words_step (Effect-F.When f e) = formula_words f ++ e

  abbrev pub effect_words : Effect → List Word
  effect_words = fold-Effect (List Word) effect_words_step

-- numbered words, from 1 on
abbrev pub numbered : List ℕ → ℕ → List Word
numbered prefix n = map (λ k. prefix ++ decimal k) (numbers 1 n)

module _ (c : Compiled) where
  abbrev pub own_word : Name → Word
  own_word n = source_word c.hddl.names n

  abbrev pub own_types : List Name → List Word
  own_types [] = []
  own_types (object ∷ others) = map own_word others

  abbrev pub type_words : List Word
  type_words = codes "object" ∷ codes "htn_slot" ∷ codes "htn_object" ∷ own_types c.hddl.types.names

  abbrev pub object_words : ℕ → List Word
  object_words b = map (λ (x : Object). own_word x.name) c.hddl.objects ++ map slot_word (numbers 1 b)

  -- the variables of the generated predicates and of the slots of actions
  abbrev pub slot_variables : List Word
  slot_variables = codes "htn_h" ∷ codes "htn_x" ∷ codes "htn_a1" ∷ []

  -- a predicate for a slot that holds something with these parameters
  abbrev pub held_words : List ℕ → Name → List Param → List Word
  held_words prefix n params = (prefix ++ own_word n) ∷ numbered (codes "htn_a") (length params)

  abbrev pub predicate_words : List Word
  predicate_words =
      joined (map (λ (p : Predicate). own_word p.name ∷ param_words c.hddl.names p.params) c.hddl.predicates)
      ++ (codes "htn_top" ∷ codes "htn_free" ∷ codes "htn_before" ∷ [])
      ++ joined (map (λ (s : TaskSchema). held_words (codes "htn_t_") s.name s.params) c.hddl.tasks)
      ++ joined (map (λ (s : ActionSchema). held_words (codes "htn_a_") s.name s.params) c.hddl.actions)
      ++ joined (map (λ (plan : MethodPlan). held_words (codes "htn_c_") plan.schema.name plan.schema.params) (checked_methods c))
      ++ map (guard_word c [] 0) (guard_types c)

  -- a method's action is named by its place, the top method being number 0
  abbrev pub method_word : ℕ → Name → Word
  method_word zero n = codes "htn_start"
  method_word (suc m) n = codes "htn_m_" ++ own_word n

  -- name, slots of the new children, parameters, variables of the precondition, from method m on
  abbrev pub method_words : ℕ → List MethodPlan → List Word
  method_words m [] = []
  method_words m (plan ∷ plans) =
      method_word m plan.schema.name ∷ numbered (codes "htn_h") (length plan.schema.children - 1)
      ++ param_words c.hddl.names plan.schema.params ++ formula_words c.hddl.names plan.schema.pre ++ method_words (suc m) plans

  abbrev pub action_words : List Word
  action_words =
      method_words 0 c.methods
      ++ map (λ (plan : MethodPlan). codes "htn_c_" ++ own_word plan.schema.name) (checked_methods c)
      ++ joined (map (λ (s : ActionSchema). own_word s.name ∷ param_words c.hddl.names s.params ++ formula_words c.hddl.names s.pre ++ effect_words c.hddl.names s.eff) c.hddl.actions)

  -- all of them, with b slots
  abbrev pub encoded_words : ℕ → List Word
  encoded_words b =
      own_word c.hddl.domain ∷ own_word c.hddl.problem ∷ type_words ++ object_words b ++ slot_variables ++ predicate_words ++ action_words
      ++ formula_words c.hddl.names c.hddl.goal

  -- the table lacks none of them
  abbrev pub HasEncodedWords : ℕ → List Word → Type 0
  HasEncodedWords b names = (w : Word) → Contains (encoded_words b) w → Contains names w
