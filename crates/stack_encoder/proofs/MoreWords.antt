-- A table that has all words of the encoding with slots, and the further ones of a stack, has all of the stack.
use Rattle.std.proofs.Common.{ℕ, suc, List, [], ◌∷◌, ◌++◌, map, codes, inl, inr, refl, sym, subst}
use Rattle.htn_base.specs.Escapes.{slot_word}
use Rattle.text_forms.specs.Words.{Word}
use Rattle.plan_texts.specs.Types.{Has, EachIs}
use Rattle.plan_texts.proofs.Members.{each-has, contains-has, has-contains}
use Rattle.plan_model.specs.declared.types.Object.{Object}
use Rattle.plan_model.specs.declared.schemas.Predicate.{Predicate}
use Rattle.plan_model.specs.declared.schemas.TaskSchema.{TaskSchema}
use Rattle.plan_model.specs.declared.schemas.ActionSchema.{ActionSchema}
use Rattle.plan_model.specs.declared.schemas.MethodPlan.{MethodPlan}
use Rattle.plan_model.specs.declared.values.Compiled.{Compiled}
use Rattle.plan_model.specs.task_networks.Spelling.{numbers}
use Rattle.slot_encoding.specs.EncodedNames.{joined, guard_types, checked_methods, guard_word}
use Rattle.slot_encoding.specs.EncodedWords.{param_words, formula_words, own_word, type_words, held_words, action_words, object_words, slot_variables, predicate_words, encoded_words, HasEncodedWords}
use Rattle.slot_encoding.specs.slot_declarations.Vocabulary.{Gains}
use Rattle.stack_encoding.specs.StackWords.{cell_words, cell_variables, stack_predicate_words, stack_words, HasStackWords}
use Rattle.stack_encoder.specs.Words.{more_words}
use Rattle.stack_encoder.proofs.LowestCell.{slot_0}

each-of : (P : Word → Type 0) (ws : List Word) → ((w : Word) → Has ws w → P w) → EachIs P ws
each-of P [] f = tt
each-of P (w ∷ ws) f = (f w (inl refl), each-of P ws (λ v h. f v (inr h)))

each-left : (P : Word → Type 0) (xs ys : List Word) → EachIs P (xs ++ ys) → EachIs P xs
each-left P [] ys h = tt
each-left P (x ∷ xs) ys h = (h.0, each-left P xs ys h.1)

each-right : (P : Word → Type 0) (xs ys : List Word) → EachIs P (xs ++ ys) → EachIs P ys
each-right P [] ys h = h
each-right P (x ∷ xs) ys h = each-right P xs ys h.1

each-both : (P : Word → Type 0) (xs ys : List Word) → EachIs P xs → EachIs P ys → EachIs P (xs ++ ys)
each-both P [] ys h g = g
each-both P (x ∷ xs) ys h g = (h.0, each-both P xs ys h.1 g)

module _ (c : Compiled) (b : ℕ) (P : Word → Type 0) where
  abbrev names : List Word
  names = own_word c c.hddl.domain ∷ own_word c c.hddl.problem ∷ type_words c

  abbrev objects : List Word
  objects = map (λ (x : Object). own_word c x.name) c.hddl.objects

  abbrev predicates : List Word
  predicates = joined (map (λ (p : Predicate). own_word c p.name ∷ param_words c.hddl.names p.params) c.hddl.predicates)

  abbrev tasks : List Word
  tasks = joined (map (λ (s : TaskSchema). held_words c (codes "htn_t_") s.name s.params) c.hddl.tasks)

  abbrev actions : List Word
  actions = joined (map (λ (s : ActionSchema). held_words c (codes "htn_a_") s.name s.params) c.hddl.actions)

  abbrev checks : List Word
  checks = joined (map (λ (plan : MethodPlan). held_words c (codes "htn_c_") plan.schema.name plan.schema.params) (checked_methods c))

  abbrev guards : List Word
  guards = map (guard_word c [] 0) (guard_types c)

  abbrev slots : List Word
  slots = codes "htn_top" ∷ codes "htn_free" ∷ codes "htn_before" ∷ []

  abbrev tips : List Word
  tips = codes "htn_top" ∷ codes "htn_tip" ∷ codes "htn_up" ∷ []

  more-predicates : EachIs P (predicate_words c) → EachIs P more_words → EachIs P (stack_predicate_words c)
  more-predicates h m =
      let five = predicates ++ slots ++ tasks ++ actions ++ checks in
      let four = predicates ++ slots ++ tasks ++ actions in
      let three = predicates ++ slots ++ tasks in
      let h5 = each-left P five guards h in
      let h4 = each-left P four checks h5 in
      let h3 = each-left P three actions h4 in
      let h2 = each-left P (predicates ++ slots) tasks h3 in
      let top = (each-right P predicates slots h2).0 in
      each-both P (predicates ++ tips ++ tasks ++ actions ++ checks) guards
      (each-both P (predicates ++ tips ++ tasks ++ actions) checks
      (each-both P (predicates ++ tips ++ tasks) actions
      (each-both P (predicates ++ tips) tasks
      (each-both P predicates tips (each-left P predicates slots h2) (top, (m.1.1.0, (m.1.1.1.0, tt))))
      (each-right P (predicates ++ slots) tasks h3))
      (each-right P three actions h4))
      (each-right P four checks h5))
      (each-right P five guards h)

  more-all : EachIs P (encoded_words c b) → EachIs P more_words → EachIs P (stack_words c b)
  more-all h m =
      let goal = formula_words c.hddl.names c.hddl.goal in
      let five = names ++ object_words c b ++ slot_variables c ++ predicate_words c ++ action_words c in
      let four = names ++ object_words c b ++ slot_variables c ++ predicate_words c in
      let three = names ++ object_words c b ++ slot_variables c in
      let h5 = each-left P five goal h in
      let h4 = each-left P four (action_words c) h5 in
      let h3 = each-left P three (predicate_words c) h4 in
      let h2 = each-left P (names ++ object_words c b) (slot_variables c) h3 in
      let of_objects = each-right P names (object_words c b) h2 in
      let vars = each-right P (names ++ object_words c b) (slot_variables c) h3 in
      each-both P (names ++ cell_words c b ++ cell_variables c ++ stack_predicate_words c ++ action_words c) goal
      (each-both P (names ++ cell_words c b ++ cell_variables c ++ stack_predicate_words c) (action_words c)
      (each-both P (names ++ cell_words c b ++ cell_variables c) (stack_predicate_words c)
      (each-both P (names ++ cell_words c b) (cell_variables c)
      (each-both P names (cell_words c b) (each-left P names (object_words c b) h2)
      (each-both P objects (map slot_word (numbers 0 (suc b))) (each-left P objects (map slot_word (numbers 1 b)) of_objects) (subst P (sym slot_0) m.0, each-right P objects (map slot_word (numbers 1 b)) of_objects)))
      (vars.0, (m.1.0, (vars.1.0, (vars.1.1.0, tt)))))
      (more-predicates (each-right P three (predicate_words c) h4) m))
      (each-right P four (action_words c) h5))
      (each-right P five goal h)

pub more-stack : (c : Compiled) (b : ℕ) (old new : List Word) → Gains more_words old new → HasEncodedWords c b old → HasStackWords c b new
more-stack c b old new g has w h =
    has-contains new w (each-has (Has new) (stack_words c b) w
    (more-all c b (Has new) (each-of (Has new) (encoded_words c b) (λ v k. g.kept v (contains-has old v (has v (has-contains (encoded_words c b) v k))))) g.gained)
    (contains-has (stack_words c b) w h))
