-- A table with all words of the printed problem of a stack has those of each object, predicate, check and source action.
use Rattle.std.proofs.Common.{ℕ, suc, ◌≡◌, true, List, [], ◌∷◌, map, slice_get, Some}
use Rattle.htn_base.specs.Escapes.{slot_word}
use Rattle.text_forms.specs.Words.{Word}
use Rattle.plan_model.specs.declared.types.Object.{Object}
use Rattle.plan_model.specs.declared.schemas.Predicate.{Predicate}
use Rattle.plan_model.specs.declared.schemas.TaskSchema.{TaskSchema}
use Rattle.plan_model.specs.declared.schemas.ActionSchema.{ActionSchema}
use Rattle.plan_model.specs.declared.schemas.MethodPlan.{MethodPlan}
use Rattle.plan_model.specs.declared.values.Compiled.{Compiled}
use Rattle.plan_model.specs.task_networks.Spelling.{numbers}
use Rattle.plan_texts.specs.Types.{Has, EachIs}
use Rattle.plan_texts.proofs.Members.{each-has, contains-has, has-to_map}
use Rattle.slot_encoding.specs.EncodedNames.{guard_types, checked_methods, guard_word}
use Rattle.slot_encoding.specs.EncodedWords.{own_word, param_words, formula_words, effect_words}
use Rattle.slot_encoding.proofs.places.ListPlaces.{get_contains}
use Rattle.slot_encoding.proofs.places.Predicates.{is_checked, passed}
use Rattle.slot_encoding.proofs.words.Lists.{each-left, each-right, each-part}
use Rattle.slot_encoding.proofs.words.PredicatePlaces.{filter_at}
use Rattle.stack_encoding.proofs.words.Appended.{of-appended}
use Rattle.stack_encoding.proofs.words.KnownParts.{AreKnown, predicate_part, task_part, held_part, check_part, check_word, action_part}

module _ (c : Compiled) (b : ℕ) (names : List Word) (known : AreKnown c b names) where
  abbrev own : Object → Word
  own x = own_word c x.name

  abbrev sources : List Word
  sources = map own c.hddl.objects

  abbrev cells : List Word
  cells = map slot_word (numbers 0 (suc b))

  pub known_object : (x : Object) → Has c.hddl.objects x → Has names (own_word c x.name)
  known_object x m = each-has (Has names) sources (own x) (each-left (Has names) sources cells known.cells) (has-to_map own c.hddl.objects x m)

  pub known_cell : (k : ℕ) → Has (numbers 0 (suc b)) k → Has names (slot_word k)
  known_cell k m = each-has (Has names) cells (slot_word k) (each-right (Has names) sources cells known.cells) (has-to_map slot_word (numbers 0 (suc b)) k m)

  pub known_source : (p : Predicate) → Has c.hddl.predicates p → EachIs (Has names) (predicate_part c p)
  known_source p m = each-part (Has names) (predicate_part c) c.hddl.predicates p known.source m

  pub known_task : (s : TaskSchema) → Has c.hddl.tasks s → EachIs (Has names) (task_part c s)
  known_task s m = each-part (Has names) (task_part c) c.hddl.tasks s known.tasks m

  pub known_held : (s : ActionSchema) → Has c.hddl.actions s → EachIs (Has names) (held_part c s)
  known_held s m = each-part (Has names) (held_part c) c.hddl.actions s known.held m

  pub known_holding : (p : MethodPlan) → Has (checked_methods c) p → EachIs (Has names) (check_part c p)
  known_holding p m = each-part (Has names) (check_part c) (checked_methods c) p known.checks m

  pub known_guard : (ty : ℕ) → Has (guard_types c) ty → Has names (guard_word c [] 0 ty)
  known_guard ty m = each-has (Has names) (map (guard_word c [] 0) (guard_types c)) (guard_word c [] 0 ty) known.guards (has-to_map (guard_word c [] 0) (guard_types c) ty m)

  pub known_check : (m : ℕ) (plan : MethodPlan) → slice_get c.methods m ≡ Some plan → plan.checked ≡ true → Has names (check_word c plan)
  known_check m plan e t =
      let among = contains-has (checked_methods c) plan (get_contains (checked_methods c) (passed is_checked m c.methods) plan (filter_at is_checked c.methods m plan e t)) in
      each-has (Has names) _ (check_word c plan) known.check_words (has-to_map (check_word c) (checked_methods c) plan among)

  pub record IsKnownAction (s : ActionSchema) : Type 0 where
    pub word : Has names (own_word c s.name)
    pub params : EachIs (Has names) (param_words c.hddl.names s.params)
    pub pre : EachIs (Has names) (formula_words c.hddl.names s.pre)
    pub eff : EachIs (Has names) (effect_words c.hddl.names s.eff)

  pub known_action : (n : ℕ) (s : ActionSchema) → slice_get c.hddl.actions n ≡ Some s → IsKnownAction s
  known_action n s e =
      let all = each-part (Has names) (action_part c) c.hddl.actions s known.actions (contains-has c.hddl.actions s (get_contains c.hddl.actions n s e)) in
      let (params, (pre, (eff, _))) = of-appended (Has names) (param_words c.hddl.names s.params) (formula_words c.hddl.names s.pre ∷ effect_words c.hddl.names s.eff ∷ []) all.1 in
      record { word = all.0; params = params; pre = pre; eff = eff }
