-- The value of a stack over two tables that have all its words says the same: types, objects, predicates.
use Rattle.std.proofs.Common.{ℕ, suc, ◌≡◌, true, List, [], ◌∷◌, ◌++◌, map, length, codes, decimal, sym, ◌∙◌}
use Rattle.htn_base.specs.Escapes.{slot_word}
use Rattle.htn_base.specs.declared.name.Name.{Name}
use Rattle.text_forms.specs.Words.{Word, word_at}
use Rattle.plan_model.specs.declared.types.Object.{Object}
use Rattle.plan_model.specs.declared.terms.Param.{Param}
use Rattle.plan_model.specs.declared.schemas.Predicate.{Predicate}
use Rattle.plan_model.specs.declared.values.Compiled.{Compiled}
use Rattle.plan_model.specs.task_networks.Spelling.{numbers}
use Rattle.plan_texts.specs.Declared.{Declared, kinds, named, one_word}
use Rattle.plan_texts.specs.Types.{Has, EachIs}
use Rattle.plan_texts.specs.Alike.{object_said, predicate_said}
use Rattle.plan_texts.specs.Together.{Together}
use Rattle.plan_texts.proofs.Together.{together-maps}
use Rattle.slot_encoding.specs.SourceParts.{name, retyped}
use Rattle.slot_encoding.specs.EncodedNames.{guard_types, checked_methods, slot_param, held, held_params, guard_word}
use Rattle.slot_encoding.specs.EncodedWords.{own_word, held_words}
use Rattle.slot_encoding.proofs.places.ObjectPlaces.{printed_object, printed_slot}
use Rattle.slot_encoding.proofs.words.PredicatePlaces.{printed_predicate, held_task, held_action, held_check, guarding, first_group, action_group, check_group, guard_group}
use Rattle.slot_encoding.proofs.words.TypeWords.{types-named}
use Rattle.slot_encoding.proofs.encoded_texts.SaidAlike.{together-made, together-join, SameParam, params-same}
use Rattle.slot_encoding.proofs.encoded_texts.SourceSaid.{word-same, param-same, source_params-same}
use Rattle.stack_encoding.specs.StackNames.{stack_objects, stack_predicates}
use Rattle.stack_encoding.proofs.words.Appended.{together-appended}
use Rattle.stack_encoding.proofs.words.KnownParts.{AreKnown}
use Rattle.stack_encoding.proofs.words.KnownEach.{known_object, known_cell, known_source, known_task, known_held, known_holding, known_guard}
use Rattle.stack_encoding.proofs.words.StackDeclared.{stack_declared, cell_group}

module _ (c : Compiled) (b : ℕ) (names names' : List Word) (known : AreKnown c b names) (known' : AreKnown c b names') where
  abbrev v : Declared
  v = stack_declared c names b

  abbrev w : Declared
  w = stack_declared c names' b

  pub types-same : (stack_declared c names b).types ≡ (stack_declared c names' b).types
  types-same = types-named c names b known.types ∙ sym (types-named c names' b known'.types)

  pub kinds-same : kinds (stack_declared c names b) ≡ kinds (stack_declared c names' b)
  kinds-same = λ i. map one_word (types-same i) ++ map (map (word_at (types-same i))) (map (map retyped) c.hddl.types.unions)

  pub word : (u : Word) → Has names u → Has names' u → named names (name names u) ≡ named names' (name names' u)
  word = word-same v w kinds-same

  abbrev Same : Param → Param → Type 0
  Same = SameParam v w

  param : (u : Word) (ty : ℕ) → Has names u → Has names' u → Same (record { name = name names u; ty = ty }) (record { name = name names' u; ty = ty })
  param = param-same v w kinds-same

  pub cell_h : SameParam (stack_declared c names b) (stack_declared c names' b) (slot_param c names b (codes "htn_h")) (slot_param c names' b (codes "htn_h"))
  cell_h = param (codes "htn_h") 1 known.variables.0 known'.variables.0

  pub cell_d : SameParam (stack_declared c names b) (stack_declared c names' b) (slot_param c names b (codes "htn_d")) (slot_param c names' b (codes "htn_d"))
  cell_d = param (codes "htn_d") 1 known.variables.1.0 known'.variables.1.0

  cell_x : Same (slot_param c names b (codes "htn_x")) (slot_param c names' b (codes "htn_x"))
  cell_x = param (codes "htn_x") 1 known.variables.1.1.0 known'.variables.1.1.0

  pub numbered-same : (prefix : List ℕ) (ty : ℕ) (ks : List ℕ) → EachIs (Has names) (map (λ k. prefix ++ decimal k) ks) → EachIs (Has names') (map (λ k. prefix ++ decimal k) ks)
      → Together (SameParam (stack_declared c names b) (stack_declared c names' b)) (map (λ k. record { name = name names (prefix ++ decimal k); ty = ty }) ks) (map (λ k. record { name = name names' (prefix ++ decimal k); ty = ty }) ks)
  numbered-same prefix ty [] h h' = tt
  numbered-same prefix ty (k ∷ ks) h h' = (param (prefix ++ decimal k) ty h.0 h'.0, numbered-same prefix ty ks h.1 h'.1)

  -- predicates
  abbrev SamePredicate : Predicate → Predicate → Type 0
  SamePredicate x y = predicate_said v x ≡ predicate_said w y

  made-same : (u : Word) (xs ys : List Param) → Has names u → Has names' u → Together Same xs ys → SamePredicate (record { name = name names u; params = xs }) (record { name = name names' u; params = ys })
  made-same u xs ys h h' t = let e = word u h h' in let f = params-same v w xs ys t in λ i. (e i, f i)

  held-same : (prefix : List ℕ) (n : Name) (params : List Param) → EachIs (Has names) (held_words c prefix n params) → EachIs (Has names') (held_words c prefix n params)
      → SamePredicate (held c names b prefix n params) (held c names' b prefix n params)
  held-same prefix n params h h' =
      let count = length params in
      made-same (prefix ++ own_word c n) (held_params c names b count) (held_params c names' b count) h.0 h'.0 (cell_h, numbered-same (codes "htn_a") 2 (numbers 1 count) h.1 h'.1)

  -- objects
  abbrev SameObject : Object → Object → Type 0
  SameObject x y = object_said v x ≡ object_said w y

  own-same : (x : Object) → Has c.hddl.objects x → SameObject (printed_object c names b x) (printed_object c names' b x)
  own-same x m =
      let e = word (own_word c x.name) (known_object c b names known x m) (known_object c b names' known' x m) in
      λ i. (e i, word_at (types-same i) (retyped x.ty), true)

  cell-same : (k : ℕ) → Has (numbers 0 (suc b)) k → SameObject (printed_slot c names b k) (printed_slot c names' b k)
  cell-same k m =
      let e = word (slot_word k) (known_cell c b names known k m) (known_cell c b names' known' k m) in
      λ i. (e i, word_at (types-same i) 1, true)

  pub objects-said : map (object_said (stack_declared c names b)) (stack_objects c names b) ≡ map (object_said (stack_declared c names' b)) (stack_objects c names' b)
  objects-said =
      let cells = numbers 0 (suc b) in
      together-maps (object_said v) (object_said w) SameObject (λ x y e. e) (stack_objects c names b) (stack_objects c names' b)
      (together-join SameObject (map (printed_object c names b) c.hddl.objects) (map (printed_slot c names b) cells) (map (printed_object c names' b) c.hddl.objects) (map (printed_slot c names' b) cells)
      (together-made SameObject (printed_object c names b) (printed_object c names' b) c.hddl.objects own-same)
      (together-made SameObject (printed_slot c names b) (printed_slot c names' b) cells cell-same))

  source-same : (p : Predicate) → Has c.hddl.predicates p → SamePredicate (printed_predicate c names b p) (printed_predicate c names' b p)
  source-same p m =
      let h = known_source c b names known p m in let h' = known_source c b names' known' p m in
      made-same (own_word c p.name) (printed_predicate c names b p).params (printed_predicate c names' b p).params h.0 h'.0 (source_params-same v w kinds-same c.hddl.names p.params (h.1, h'.1))

  guard-same : (ty : ℕ) → Has (guard_types c) ty → SamePredicate (guarding c names b ty) (guarding c names' b ty)
  guard-same ty m =
      let a1 = param (codes "htn_a1") 2 known.variables.1.1.1.0 known'.variables.1.1.1.0 in
      made-same (guard_word c [] 0 ty) (guarding c names b ty).params (guarding c names' b ty).params (known_guard c b names known ty m) (known_guard c b names' known' ty m) (a1, tt)

  three-same : Together SamePredicate (cell_group c names b) (cell_group c names' b)
  three-same =
      let k = known.three in let k' = known'.three in
      let tasks = together-made SamePredicate (held_task c names b) (held_task c names' b) c.hddl.tasks (λ s m. held-same (codes "htn_t_") s.name s.params (known_task c b names known s m) (known_task c b names' known' s m)) in
      let one = λ (ns : List Word). slot_param c ns b (codes "htn_h") ∷ [] in
      let two = λ (ns : List Word). slot_param c ns b (codes "htn_x") ∷ slot_param c ns b (codes "htn_h") ∷ [] in
      let top = made-same (codes "htn_top") (one names) (one names') k.0 k'.0 (cell_h, tt) in
      let tip = made-same (codes "htn_tip") (one names) (one names') k.1.0 k'.1.0 (cell_h, tt) in
      let up = made-same (codes "htn_up") (two names) (two names') k.1.1.0 k'.1.1.0 (cell_x, (cell_h, tt)) in
      (top, (tip, (up, tasks)))

  pub predicates-said : map (predicate_said (stack_declared c names b)) (stack_predicates c names b) ≡ map (predicate_said (stack_declared c names' b)) (stack_predicates c names' b)
  predicates-said =
      let sources = together-made SamePredicate (printed_predicate c names b) (printed_predicate c names' b) c.hddl.predicates source-same in
      let actions = together-made SamePredicate (held_action c names b) (held_action c names' b) c.hddl.actions (λ s m. held-same (codes "htn_a_") s.name s.params (known_held c b names known s m) (known_held c b names' known' s m)) in
      let checks = together-made SamePredicate (held_check c names b) (held_check c names' b) (checked_methods c) (λ p m. held-same (codes "htn_c_") p.schema.name p.schema.params (known_holding c b names known p m) (known_holding c b names' known' p m)) in
      let guards = together-made SamePredicate (guarding c names b) (guarding c names' b) (guard_types c) guard-same in
      together-maps (predicate_said v) (predicate_said w) SamePredicate (λ x y e. e) (stack_predicates c names b) (stack_predicates c names' b)
      (together-appended SamePredicate (first_group c names b) (first_group c names' b)
      (cell_group c names b ∷ action_group c names b ∷ check_group c names b ∷ guard_group c names b ∷ [])
      (cell_group c names' b ∷ action_group c names' b ∷ check_group c names' b ∷ guard_group c names' b ∷ [])
      sources (three-same, (actions, (checks, (guards, tt)))))
