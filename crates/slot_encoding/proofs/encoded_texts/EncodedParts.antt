-- What is encoded of a compiled value over two tables that have all its words says the same: types, objects, predicates, formulas on slots.
use Rattle.std.proofs.Common.{ℕ, ◌≡◌, true, List, [], ◌∷◌, ◌++◌, map, length, codes, decimal, sym, ◌∙◌}
use Rattle.htn_base.specs.Escapes.{slot_word}
use Rattle.htn_base.specs.declared.name.Name.{Name}
use Rattle.text_forms.specs.Words.{Word, word_at}
use Rattle.plan_model.specs.declared.options.Style.{Style}
use Rattle.plan_model.specs.declared.options.Style.TheVariants.{Adl, Flat}
use Rattle.plan_model.specs.declared.types.Object.{Object}
use Rattle.plan_model.specs.declared.terms.Term.{Term}
use Rattle.plan_model.specs.declared.terms.Term.TheVariants.{Var, Obj}
use Rattle.plan_model.specs.declared.terms.Param.{Param}
use Rattle.plan_model.specs.declared.formulas.Formula.TheVariants.{Holds, Not}
use Rattle.plan_model.specs.declared.effects.Effect.TheVariants as E
use Rattle.plan_model.specs.declared.schemas.Predicate.{Predicate}
use Rattle.plan_model.specs.declared.schemas.TaskSchema.{TaskSchema}
use Rattle.plan_model.specs.declared.schemas.ActionSchema.{ActionSchema}
use Rattle.plan_model.specs.declared.schemas.MethodPlan.{MethodPlan}
use Rattle.plan_model.specs.declared.values.Compiled.{Compiled}
use Rattle.plan_model.specs.task_networks.Spelling.{numbers}
use Rattle.plan_texts.specs.Declared.{Declared, kinds, named, one_word}
use Rattle.plan_texts.specs.Types.{Has, EachIs}
use Rattle.plan_texts.specs.Said.{typed}
use Rattle.plan_texts.specs.Alike.{object_said, predicate_said}
use Rattle.plan_texts.specs.Together.{Together}
use Rattle.plan_texts.proofs.Together.{together-maps}
use Rattle.plan_texts.proofs.Members.{each-has, has-to_map}
use Rattle.slot_encoding.specs.SourceParts.{name, retyped}
use Rattle.order_encoder.specs.OrderFormulas.{OrderNumbers, pair_of, any_slot, slot_objects, wait_parts, clear_parts, copy_parts, free_parts}
use Rattle.slot_encoding.specs.EncodedNames.{joined, guard_types, checked_methods, slot_param, held, held_params, guard_word, encoded_objects, encoded_predicates, order_numbers}
use Rattle.slot_encoding.specs.EncodedWords.{param_words, held_words, own_word, HasEncodedWords}
use Rattle.slot_encoding.proofs.places.ObjectPlaces.{printed_object, printed_slot}
use Rattle.slot_encoding.proofs.words.Lists.{each-left, each-right, each-part}
use Rattle.slot_encoding.proofs.words.KnownWords.{known_types, known_objects, known_variables, known_source_group, known_three, known_task_group, known_action_group, known_check_group, known_guard_group}
use Rattle.slot_encoding.proofs.words.PrintedWords.{printed_words}
use Rattle.slot_encoding.proofs.words.PredicatePlaces.{printed_predicate, of_slot, of_pair, held_task, held_action, held_check, guarding, first_group, task_group, action_group, check_group, guard_group}
use Rattle.slot_encoding.proofs.words.TypeWords.{types-named}
use Rattle.slot_encoding.proofs.encoded_texts.SaidAlike.{together-made, together-join, SameParam, SameFormula, SameEffect, params-same, same-Holds, same-Not, same-Forall, same-Add, same-Delete, same-Each_one, same-When}
use Rattle.slot_encoding.proofs.encoded_texts.SourceSaid.{word-same, param-same, source_params-same}

module _ (c : Compiled) (b : ℕ) (names names' : List Word) (has : HasEncodedWords c b names) (has' : HasEncodedWords c b names') where
  abbrev pub v : Declared
  v = printed_words c names b

  abbrev pub w : Declared
  w = printed_words c names' b

  pub types-same : (printed_words c names b).types ≡ (printed_words c names' b).types
  types-same = types-named c names b (known_types c b names has) ∙ sym (types-named c names' b (known_types c b names' has'))

  pub kinds-same : kinds (printed_words c names b) ≡ kinds (printed_words c names' b)
  kinds-same = λ i. map one_word (types-same i) ++ map (map (word_at (types-same i))) (map (map retyped) c.hddl.types.unions)

  -- words of both tables
  abbrev InBoth : List Word → Type 0
  InBoth ws = EachIs (Has names) ws × EachIs (Has names') ws

  pub word : (u : Word) → Has names u → Has names' u → named names (name names u) ≡ named names' (name names' u)
  word = word-same v w kinds-same

  pub param : (u : Word) (ty : ℕ) → Has names u → Has names' u → typed v (record { name = name names u; ty = ty }) ≡ typed w (record { name = name names' u; ty = ty })
  param = param-same v w kinds-same

  pub slot_h : typed v (slot_param c names b (codes "htn_h")) ≡ typed w (slot_param c names' b (codes "htn_h"))
  slot_h = param (codes "htn_h") 1 (known_variables c b names has).0 (known_variables c b names' has').0

  pub slot_x : typed v (slot_param c names b (codes "htn_x")) ≡ typed w (slot_param c names' b (codes "htn_x"))
  slot_x = param (codes "htn_x") 1 (known_variables c b names has).1.0 (known_variables c b names' has').1.0

  slot_a1 : typed v (record { name = name names (codes "htn_a1"); ty = 2 }) ≡ typed w (record { name = name names' (codes "htn_a1"); ty = 2 })
  slot_a1 = param (codes "htn_a1") 2 (known_variables c b names has).1.1.0 (known_variables c b names' has').1.1.0

  -- numbered variables
  pub numbered-same : (prefix : List ℕ) (ty : ℕ) (ks : List ℕ) → InBoth (map (λ k. prefix ++ decimal k) ks)
      → Together (SameParam v w) (map (λ k. record { name = name names (prefix ++ decimal k); ty = ty }) ks) (map (λ k. record { name = name names' (prefix ++ decimal k); ty = ty }) ks)
  numbered-same prefix ty [] k = tt
  numbered-same prefix ty (n ∷ ks) k = (param (prefix ++ decimal n) ty k.0.0 k.1.0, numbered-same prefix ty ks (k.0.1, k.1.1))

  -- objects
  abbrev SameObject : Object → Object → Type 0
  SameObject x y = object_said v x ≡ object_said w y

  objects_pair : Together SameObject (encoded_objects c names b) (encoded_objects c names' b)
  objects_pair =
      let own = map (λ (x : Object). own_word c x.name) c.hddl.objects in
      let slots = map slot_word (numbers 1 b) in
      let k = known_objects c b names has in let k' = known_objects c b names' has' in
      together-join SameObject (map (printed_object c names b) c.hddl.objects) (map (printed_slot c names b) (numbers 1 b)) (map (printed_object c names' b) c.hddl.objects) (map (printed_slot c names' b) (numbers 1 b))
      (together-made SameObject (printed_object c names b) (printed_object c names' b) c.hddl.objects (λ x m.
      let u = own_word c x.name in
      let h = λ (ns : List Word) (l : EachIs (Has ns) own). each-has (Has ns) own u l (has-to_map (λ (x : Object). own_word c x.name) c.hddl.objects x m) in
      let e = word u (h names (each-left (Has names) own slots k)) (h names' (each-left (Has names') own slots k')) in
      λ i. (e i, word_at (types-same i) (retyped x.ty), true)))
      (together-made SameObject (printed_slot c names b) (printed_slot c names' b) (numbers 1 b) (λ n m.
      let u = slot_word n in
      let h = λ (ns : List Word) (l : EachIs (Has ns) slots). each-has (Has ns) slots u l (has-to_map slot_word (numbers 1 b) n m) in
      let e = word u (h names (each-right (Has names) own slots k)) (h names' (each-right (Has names') own slots k')) in
      λ i. (e i, word_at (types-same i) 1, true)))

  pub objects-said : map (object_said (printed_words c names b)) (encoded_objects c names b) ≡ map (object_said (printed_words c names' b)) (encoded_objects c names' b)
  objects-said = together-maps (object_said v) (object_said w) SameObject (λ x y e. e) (encoded_objects c names b) (encoded_objects c names' b) objects_pair

  -- predicates
  abbrev SamePredicate : Predicate → Predicate → Type 0
  SamePredicate x y = predicate_said v x ≡ predicate_said w y

  predicate-same : (u : Word) (xs ys : List Param) → Has names u → Has names' u → Together (SameParam v w) xs ys
      → predicate_said v (record { name = name names u; params = xs }) ≡ predicate_said w (record { name = name names' u; params = ys })
  predicate-same u xs ys h k t = let e = word u h k in let f = params-same v w xs ys t in λ i. (e i, f i)

  held-same : (prefix : List ℕ) (n : Name) (params : List Param) → InBoth (held_words c prefix n params) → SamePredicate (held c names b prefix n params) (held c names' b prefix n params)
  held-same prefix n params k =
      predicate-same (prefix ++ own_word c n) (held_params c names b (length params)) (held_params c names' b (length params)) k.0.0 k.1.0
      (slot_h, numbered-same (codes "htn_a") 2 (numbers 1 (length params)) (k.0.1, k.1.1))

  first-same : Together SamePredicate (first_group c names b) (first_group c names' b)
  first-same = together-made SamePredicate (printed_predicate c names b) (printed_predicate c names' b) c.hddl.predicates (λ p m.
      let part = λ (ns : List Word) (k : EachIs (Has ns) (joined (map (λ (p : Predicate). own_word c p.name ∷ param_words c.hddl.names p.params) c.hddl.predicates))). each-part (Has ns) (λ (p : Predicate). own_word c p.name ∷ param_words c.hddl.names p.params) c.hddl.predicates p k m in
      let k = part names (known_source_group c b names has) in let k' = part names' (known_source_group c b names' has') in
      predicate-same (own_word c p.name) _ _ k.0 k'.0 (source_params-same v w kinds-same c.hddl.names p.params (k.1, k'.1)))

  tasks-same : Together SamePredicate (task_group c names b) (task_group c names' b)
  tasks-same =
      let k = known_three c b names has in let k' = known_three c b names' has' in (
        predicate-same (codes "htn_top") (of_slot c names b (codes "htn_top")).params (of_slot c names' b (codes "htn_top")).params k.0 k'.0 (slot_h, tt),
        (
          predicate-same (codes "htn_free") (of_slot c names b (codes "htn_free")).params (of_slot c names' b (codes "htn_free")).params k.1.0 k'.1.0 (slot_h, tt),
          (
            predicate-same (codes "htn_before") (of_pair c names b).params (of_pair c names' b).params k.1.1.0 k'.1.1.0 (slot_x, (slot_h, tt)),
            together-made SamePredicate (held_task c names b) (held_task c names' b) c.hddl.tasks (λ s m.
                let part = λ (ns : List Word) (k : EachIs (Has ns) (joined (map (λ (s : TaskSchema). held_words c (codes "htn_t_") s.name s.params) c.hddl.tasks))). each-part (Has ns) (λ (s : TaskSchema). held_words c (codes "htn_t_") s.name s.params) c.hddl.tasks s k m in
                held-same (codes "htn_t_") s.name s.params (part names (known_task_group c b names has), part names' (known_task_group c b names' has'))),
          ),
        ),
      )

  actions-same : Together SamePredicate (action_group c names b) (action_group c names' b)
  actions-same = together-made SamePredicate (held_action c names b) (held_action c names' b) c.hddl.actions (λ s m.
      let part = λ (ns : List Word) (k : EachIs (Has ns) (joined (map (λ (s : ActionSchema). held_words c (codes "htn_a_") s.name s.params) c.hddl.actions))). each-part (Has ns) (λ (s : ActionSchema). held_words c (codes "htn_a_") s.name s.params) c.hddl.actions s k m in
      held-same (codes "htn_a_") s.name s.params (part names (known_action_group c b names has), part names' (known_action_group c b names' has')))

  checks-same : Together SamePredicate (check_group c names b) (check_group c names' b)
  checks-same = together-made SamePredicate (held_check c names b) (held_check c names' b) (checked_methods c) (λ p m.
      let part = λ (ns : List Word) (k : EachIs (Has ns) (joined (map (λ (p : MethodPlan). held_words c (codes "htn_c_") p.schema.name p.schema.params) (checked_methods c)))). each-part (Has ns) (λ (p : MethodPlan). held_words c (codes "htn_c_") p.schema.name p.schema.params) (checked_methods c) p k m in
      held-same (codes "htn_c_") p.schema.name p.schema.params (part names (known_check_group c b names has), part names' (known_check_group c b names' has')))

  guards-same : Together SamePredicate (guard_group c names b) (guard_group c names' b)
  guards-same = together-made SamePredicate (guarding c names b) (guarding c names' b) (guard_types c) (λ ty m.
      let words = map (guard_word c [] 0) (guard_types c) in
      let part = λ (ns : List Word) (k : EachIs (Has ns) words). each-has (Has ns) words (guard_word c [] 0 ty) k (has-to_map (guard_word c [] 0) (guard_types c) ty m) in
      predicate-same (guard_word c [] 0 ty) (guarding c names b ty).params (guarding c names' b ty).params (part names (known_guard_group c b names has)) (part names' (known_guard_group c b names' has')) (slot_a1, tt))

  predicates_pair : Together SamePredicate (encoded_predicates c names b) (encoded_predicates c names' b)
  predicates_pair =
      let f = first_group c names b in let t = task_group c names b in let a = action_group c names b in let k = check_group c names b in let g = guard_group c names b in
      let f' = first_group c names' b in let t' = task_group c names' b in let a' = action_group c names' b in let k' = check_group c names' b in let g' = guard_group c names' b in
      together-join SamePredicate (f ++ t ++ a ++ k) g (f' ++ t' ++ a' ++ k') g'
      (together-join SamePredicate (f ++ t ++ a) k (f' ++ t' ++ a') k' (together-join SamePredicate (f ++ t) a (f' ++ t') a' (together-join SamePredicate f t f' t' first-same tasks-same) actions-same) checks-same)
      guards-same

  pub predicates-said : map (predicate_said (printed_words c names b)) (encoded_predicates c names b) ≡ map (predicate_said (printed_words c names' b)) (encoded_predicates c names' b)
  predicates-said = together-maps (predicate_said v) (predicate_said w) SamePredicate (λ x y e. e) (encoded_predicates c names b) (encoded_predicates c names' b) predicates_pair

  -- the formulas on order pairs and free slots
  abbrev n : OrderNumbers
  n = order_numbers c names b

  abbrev n' : OrderNumbers
  n' = order_numbers c names' b

  any-same : Together (SameParam v w) (any_slot n b) (any_slot n' b)
  any-same = (slot_x, tt)

  pub waits-same : (depth : ℕ) (style : Style) (h : Term)
      → Together (SameFormula (printed_words c names b) (printed_words c names' b)) (wait_parts (order_numbers c names b) b depth style h) (wait_parts (order_numbers c names' b) b depth style h)
  waits-same depth Adl h = (same-Forall v w (any_slot n b) (any_slot n' b) _ _ any-same (same-Not v w _ _ (same-Holds v w (pair_of n b (Var depth) h))), tt)
  waits-same depth Flat h = together-made (SameFormula v w) (λ o. Not (Holds (pair_of n b (Obj o) h))) (λ o. Not (Holds (pair_of n' b (Obj o) h))) (slot_objects n b) (λ o m. same-Not v w _ _ (same-Holds v w (pair_of n b (Obj o) h)))

  pub clears-same : (depth : ℕ) (style : Style) (h : Term)
      → Together (SameEffect (printed_words c names b) (printed_words c names' b)) (clear_parts (order_numbers c names b) b depth style h) (clear_parts (order_numbers c names' b) b depth style h)
  clears-same depth Adl h = (same-Each_one v w (any_slot n b) (any_slot n' b) _ _ any-same (same-Delete v w (pair_of n b h (Var depth))), tt)
  clears-same depth Flat h = together-made (SameEffect v w) (λ o. E.Delete (pair_of n b h (Obj o))) (λ o. E.Delete (pair_of n' b h (Obj o))) (slot_objects n b) (λ o m. same-Delete v w (pair_of n b h (Obj o)))

  pub copies-same : (depth : ℕ) (style : Style) (h child : Term)
      → Together (SameEffect (printed_words c names b) (printed_words c names' b)) (copy_parts (order_numbers c names b) b depth style h child) (copy_parts (order_numbers c names' b) b depth style h child)
  copies-same depth Adl h child = (same-Each_one v w (any_slot n b) (any_slot n' b) _ _ any-same (same-When v w _ _ _ _ (same-Holds v w (pair_of n b h (Var depth))) (same-Add v w (pair_of n b child (Var depth)))), tt)
  copies-same depth Flat h child = together-made (SameEffect v w) (λ o. E.When (Holds (pair_of n b h (Obj o))) (E.Add (pair_of n b child (Obj o)))) (λ o. E.When (Holds (pair_of n' b h (Obj o))) (E.Add (pair_of n' b child (Obj o)))) (slot_objects n b)
      (λ o m. same-When v w _ _ _ _ (same-Holds v w (pair_of n b h (Obj o))) (same-Add v w (pair_of n b child (Obj o))))

  pub frees-same : (depth : ℕ) (style : Style) (free : ℕ)
      → Together (SameFormula (printed_words c names b) (printed_words c names' b)) (free_parts (order_numbers c names b) b depth style free) (free_parts (order_numbers c names' b) b depth style free)
  frees-same depth Adl free = (same-Forall v w (any_slot n b) (any_slot n' b) _ _ any-same (same-Holds v w (record { predicate = free; args = Var depth ∷ [] })), tt)
  frees-same depth Flat free = together-made (SameFormula v w) (λ o. Holds (record { predicate = free; args = Obj o ∷ [] })) (λ o. Holds (record { predicate = free; args = Obj o ∷ [] })) (slot_objects n b) (λ o m. same-Holds v w (record { predicate = free; args = Obj o ∷ [] }))
