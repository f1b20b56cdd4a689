-- A table with all words of the printed problem has each part of them.
use Rattle.std.proofs.Common.{ℕ, ◌++◌, List, [], ◌∷◌, map, codes}
use Rattle.text_forms.specs.Words.{Word}
use Rattle.plan_model.specs.declared.schemas.Predicate.{Predicate}
use Rattle.plan_model.specs.declared.schemas.TaskSchema.{TaskSchema}
use Rattle.plan_model.specs.declared.schemas.ActionSchema.{ActionSchema}
use Rattle.plan_model.specs.declared.schemas.MethodPlan.{MethodPlan}
use Rattle.plan_model.specs.declared.values.Compiled.{Compiled}
use Rattle.plan_texts.specs.Types.{Has, EachIs}
use Rattle.plan_texts.proofs.Members.{contains-has, has-contains}
use Rattle.slot_encoding.proofs.places.Places.{each-from_has}
use Rattle.slot_encoding.specs.EncodedNames.{joined, guard_types, checked_methods, guard_word}
use Rattle.slot_encoding.specs.EncodedWords.{param_words, formula_words, effect_words, own_word, type_words, object_words, slot_variables, held_words, predicate_words, method_words, action_words, encoded_words, HasEncodedWords}
use Rattle.slot_encoding.proofs.words.Lists.{each-left, each-right}

module _ (c : Compiled) (b : ℕ) (names : List Word) (has : HasEncodedWords c b names) where
  abbrev Known : List Word → Type 0
  Known = EachIs (Has names)

  all : Known (encoded_words c b)
  all = each-from_has (Has names) (encoded_words c b) (λ w m. contains-has names w (has w (has-contains (encoded_words c b) w m)))

  pub known_domain : Has names (own_word c c.hddl.domain)
  known_domain = all.0

  pub known_problem : Has names (own_word c c.hddl.problem)
  known_problem = all.1.0

  abbrev up_to_objects : List Word
  up_to_objects = type_words c ++ object_words c b

  abbrev up_to_variables : List Word
  up_to_variables = up_to_objects ++ slot_variables c

  abbrev up_to_predicates : List Word
  up_to_predicates = up_to_variables ++ predicate_words c

  abbrev up_to_actions : List Word
  up_to_actions = up_to_predicates ++ action_words c

  pub known_goal : Known (formula_words c.hddl.names c.hddl.goal)
  known_goal = each-right (Has names) up_to_actions (formula_words c.hddl.names c.hddl.goal) all.1.1

  before_goal : Known up_to_actions
  before_goal = each-left (Has names) up_to_actions (formula_words c.hddl.names c.hddl.goal) all.1.1

  known_actions : Known (action_words c)
  known_actions = each-right (Has names) up_to_predicates (action_words c) before_goal

  before_actions : Known up_to_predicates
  before_actions = each-left (Has names) up_to_predicates (action_words c) before_goal

  known_predicates : Known (predicate_words c)
  known_predicates = each-right (Has names) up_to_variables (predicate_words c) before_actions

  before_predicates : Known up_to_variables
  before_predicates = each-left (Has names) up_to_variables (predicate_words c) before_actions

  pub known_variables : Known (slot_variables c)
  known_variables = each-right (Has names) up_to_objects (slot_variables c) before_predicates

  before_variables : Known up_to_objects
  before_variables = each-left (Has names) up_to_objects (slot_variables c) before_predicates

  pub known_objects : Known (object_words c b)
  known_objects = each-right (Has names) (type_words c) (object_words c b) before_variables

  pub known_types : Known (type_words c)
  known_types = each-left (Has names) (type_words c) (object_words c b) before_variables

  -- the groups of predicates
  abbrev up_to_three : List Word
  up_to_three = (joined (map (λ (p : Predicate). own_word c p.name ∷ param_words c.hddl.names p.params) c.hddl.predicates)) ++ (codes "htn_top" ∷ codes "htn_free" ∷ codes "htn_before" ∷ [])

  abbrev up_to_task_group : List Word
  up_to_task_group = up_to_three ++ (joined (map (λ (s : TaskSchema). held_words c (codes "htn_t_") s.name s.params) c.hddl.tasks))

  abbrev up_to_action_group : List Word
  up_to_action_group = up_to_task_group ++ (joined (map (λ (s : ActionSchema). held_words c (codes "htn_a_") s.name s.params) c.hddl.actions))

  abbrev up_to_check_group : List Word
  up_to_check_group = up_to_action_group ++ (joined (map (λ (plan : MethodPlan). held_words c (codes "htn_c_") plan.schema.name plan.schema.params) (checked_methods c)))

  pub known_guard_group : Known (map (guard_word c [] 0) (guard_types c))
  known_guard_group = each-right (Has names) up_to_check_group (map (guard_word c [] 0) (guard_types c)) known_predicates

  before_guard_group : Known up_to_check_group
  before_guard_group = each-left (Has names) up_to_check_group (map (guard_word c [] 0) (guard_types c)) known_predicates

  pub known_check_group : Known (joined (map (λ (plan : MethodPlan). held_words c (codes "htn_c_") plan.schema.name plan.schema.params) (checked_methods c)))
  known_check_group = each-right (Has names) up_to_action_group (joined (map (λ (plan : MethodPlan). held_words c (codes "htn_c_") plan.schema.name plan.schema.params) (checked_methods c))) before_guard_group

  before_check_group : Known up_to_action_group
  before_check_group = each-left (Has names) up_to_action_group (joined (map (λ (plan : MethodPlan). held_words c (codes "htn_c_") plan.schema.name plan.schema.params) (checked_methods c))) before_guard_group

  pub known_action_group : Known (joined (map (λ (s : ActionSchema). held_words c (codes "htn_a_") s.name s.params) c.hddl.actions))
  known_action_group = each-right (Has names) up_to_task_group (joined (map (λ (s : ActionSchema). held_words c (codes "htn_a_") s.name s.params) c.hddl.actions)) before_check_group

  before_action_group : Known up_to_task_group
  before_action_group = each-left (Has names) up_to_task_group (joined (map (λ (s : ActionSchema). held_words c (codes "htn_a_") s.name s.params) c.hddl.actions)) before_check_group

  pub known_task_group : Known (joined (map (λ (s : TaskSchema). held_words c (codes "htn_t_") s.name s.params) c.hddl.tasks))
  known_task_group = each-right (Has names) up_to_three (joined (map (λ (s : TaskSchema). held_words c (codes "htn_t_") s.name s.params) c.hddl.tasks)) before_action_group

  before_task_group : Known up_to_three
  before_task_group = each-left (Has names) up_to_three (joined (map (λ (s : TaskSchema). held_words c (codes "htn_t_") s.name s.params) c.hddl.tasks)) before_action_group

  pub known_three : Known (codes "htn_top" ∷ codes "htn_free" ∷ codes "htn_before" ∷ [])
  known_three = each-right (Has names) ((joined (map (λ (p : Predicate). own_word c p.name ∷ param_words c.hddl.names p.params) c.hddl.predicates))) (codes "htn_top" ∷ codes "htn_free" ∷ codes "htn_before" ∷ []) before_task_group

  pub known_source_group : Known ((joined (map (λ (p : Predicate). own_word c p.name ∷ param_words c.hddl.names p.params) c.hddl.predicates)))
  known_source_group = each-left (Has names) ((joined (map (λ (p : Predicate). own_word c p.name ∷ param_words c.hddl.names p.params) c.hddl.predicates))) (codes "htn_top" ∷ codes "htn_free" ∷ codes "htn_before" ∷ []) before_task_group

  -- the groups of actions
  abbrev up_to_checks : List Word
  up_to_checks = (method_words c 0 c.methods) ++ (map (λ (plan : MethodPlan). codes "htn_c_" ++ own_word c plan.schema.name) (checked_methods c))

  pub known_source_actions : Known (joined (map (λ (s : ActionSchema). own_word c s.name ∷ param_words c.hddl.names s.params ++ formula_words c.hddl.names s.pre ++ effect_words c.hddl.names s.eff) c.hddl.actions))
  known_source_actions = each-right (Has names) up_to_checks (joined (map (λ (s : ActionSchema). own_word c s.name ∷ param_words c.hddl.names s.params ++ formula_words c.hddl.names s.pre ++ effect_words c.hddl.names s.eff) c.hddl.actions)) known_actions

  before_source_actions : Known up_to_checks
  before_source_actions = each-left (Has names) up_to_checks (joined (map (λ (s : ActionSchema). own_word c s.name ∷ param_words c.hddl.names s.params ++ formula_words c.hddl.names s.pre ++ effect_words c.hddl.names s.eff) c.hddl.actions)) known_actions

  pub known_checks : Known (map (λ (plan : MethodPlan). codes "htn_c_" ++ own_word c plan.schema.name) (checked_methods c))
  known_checks = each-right (Has names) ((method_words c 0 c.methods)) (map (λ (plan : MethodPlan). codes "htn_c_" ++ own_word c plan.schema.name) (checked_methods c)) before_source_actions

  pub known_methods : Known ((method_words c 0 c.methods))
  known_methods = each-left (Has names) ((method_words c 0 c.methods)) (map (λ (plan : MethodPlan). codes "htn_c_" ++ own_word c plan.schema.name) (checked_methods c)) before_source_actions
