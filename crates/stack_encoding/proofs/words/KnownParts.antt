-- A table with all words of the printed problem of a stack has each part of them.
use Rattle.std.proofs.Common.{ℕ, ◌++◌, List, [], ◌∷◌, map, codes}
use Rattle.text_forms.specs.Words.{Word}
use Rattle.plan_model.specs.declared.schemas.Predicate.{Predicate}
use Rattle.plan_model.specs.declared.schemas.TaskSchema.{TaskSchema}
use Rattle.plan_model.specs.declared.schemas.ActionSchema.{ActionSchema}
use Rattle.plan_model.specs.declared.schemas.MethodPlan.{MethodPlan}
use Rattle.plan_model.specs.declared.values.Compiled.{Compiled}
use Rattle.plan_texts.specs.Types.{Has, EachIs}
use Rattle.plan_texts.proofs.Members.{contains-has, has-contains}
use Rattle.slot_encoding.specs.EncodedNames.{joined, guard_types, checked_methods, guard_word}
use Rattle.slot_encoding.specs.EncodedWords.{param_words, formula_words, effect_words, own_word, type_words, held_words, method_words, action_words}
use Rattle.slot_encoding.proofs.places.Places.{each-from_has}
use Rattle.stack_encoding.specs.StackWords.{cell_words, cell_variables, stack_predicate_words, stack_words, HasStackWords}
use Rattle.stack_encoding.proofs.words.Appended.{of-appended}

module _ (c : Compiled) where
  abbrev pub predicate_part : Predicate → List Word
  predicate_part p = own_word c p.name ∷ param_words c.hddl.names p.params

  abbrev pub task_part : TaskSchema → List Word
  task_part s = held_words c (codes "htn_t_") s.name s.params

  abbrev pub held_part : ActionSchema → List Word
  held_part s = held_words c (codes "htn_a_") s.name s.params

  abbrev pub check_part : MethodPlan → List Word
  check_part plan = held_words c (codes "htn_c_") plan.schema.name plan.schema.params

  abbrev pub check_word : MethodPlan → Word
  check_word plan = codes "htn_c_" ++ own_word c plan.schema.name

  abbrev pub action_part : ActionSchema → List Word
  action_part s = own_word c s.name ∷ param_words c.hddl.names s.params ++ formula_words c.hddl.names s.pre ++ effect_words c.hddl.names s.eff

  abbrev pub three_words : List Word
  three_words = codes "htn_top" ∷ codes "htn_tip" ∷ codes "htn_up" ∷ []

  pub record AreKnown (b : ℕ) (names : List Word) : Type 0 where
    pub domain : Has names (own_word c c.hddl.domain)
    pub problem : Has names (own_word c c.hddl.problem)
    pub types : EachIs (Has names) (type_words c)
    pub cells : EachIs (Has names) (cell_words c b)
    pub variables : EachIs (Has names) (cell_variables c)
    pub source : EachIs (Has names) (joined (map predicate_part c.hddl.predicates))
    pub three : EachIs (Has names) three_words
    pub tasks : EachIs (Has names) (joined (map task_part c.hddl.tasks))
    pub held : EachIs (Has names) (joined (map held_part c.hddl.actions))
    pub checks : EachIs (Has names) (joined (map check_part (checked_methods c)))
    pub guards : EachIs (Has names) (map (guard_word c [] 0) (guard_types c))
    pub methods : EachIs (Has names) (method_words c 0 c.methods)
    pub check_words : EachIs (Has names) (map check_word (checked_methods c))
    pub actions : EachIs (Has names) (joined (map action_part c.hddl.actions))
    pub goal : EachIs (Has names) (formula_words c.hddl.names c.hddl.goal)

  pub known_parts : (b : ℕ) (names : List Word) → HasStackWords c b names → AreKnown b names
  known_parts b names has =
      let all : EachIs (Has names) (stack_words c b) = each-from_has (Has names) (stack_words c b) (λ w m. contains-has names w (has w (has-contains (stack_words c b) w m))) in
      let goal = formula_words c.hddl.names c.hddl.goal in
      let parts = of-appended (Has names) (type_words c) (cell_words c b ∷ cell_variables c ∷ stack_predicate_words c ∷ action_words c ∷ goal ∷ []) all.1.1 in
      let source = joined (map predicate_part c.hddl.predicates) in
      let tasks = joined (map task_part c.hddl.tasks) in
      let held = joined (map held_part c.hddl.actions) in
      let checks = joined (map check_part (checked_methods c)) in
      let guards = map (guard_word c [] 0) (guard_types c) in
      let ps = of-appended (Has names) source (three_words ∷ tasks ∷ held ∷ checks ∷ guards ∷ []) parts.1.1.1.0 in
      let qs = of-appended (Has names) (method_words c 0 c.methods) (map check_word (checked_methods c) ∷ joined (map action_part c.hddl.actions) ∷ []) parts.1.1.1.1.0 in
      record {
        domain = all.0;
        problem = all.1.0;
        types = parts.0;
        cells = parts.1.0;
        variables = parts.1.1.0;
        source = ps.0;
        three = ps.1.0;
        tasks = ps.1.1.0;
        held = ps.1.1.1.0;
        checks = ps.1.1.1.1.0;
        guards = ps.1.1.1.1.1.0;
        methods = qs.0;
        check_words = qs.1.0;
        actions = qs.1.1.0;
        goal = parts.1.1.1.1.1.0;
      }
