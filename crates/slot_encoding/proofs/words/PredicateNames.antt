-- The predicates of the printed problem: their words and their variables.
use Rattle.std.proofs.Common.{ℕ, ◌≡◌, ◌<◌, ◌^◌, List, [], ◌∷◌, ◌++◌, map, length, drop, codes, decimal, refl, ap, sym, subst, ◌∙◌, arith}
use Rattle.std.proofs.lemmas.List.{map-append}
use Rattle.htn_base.specs.Escapes.{escaped}
use Rattle.text_forms.specs.Words.{Word}
use Rattle.plan_model.specs.declared.options.Checks.{Checks}
use Rattle.plan_model.specs.declared.formulas.Formula.TheVariants.{And}
use Rattle.plan_model.specs.declared.types.Object.{Object}
use Rattle.plan_model.specs.declared.terms.Param.{Param}
use Rattle.plan_model.specs.declared.schemas.Predicate.{Predicate}
use Rattle.plan_model.specs.declared.schemas.TaskSchema.{TaskSchema}
use Rattle.plan_model.specs.declared.schemas.ActionSchema.{ActionSchema}
use Rattle.plan_model.specs.declared.schemas.MethodPlan.{MethodPlan}
use Rattle.plan_model.specs.declared.values.Compiled.{Compiled}
use Rattle.plan_texts.specs.Declared.{named}
use Rattle.htn_base.specs.Different.{AreDifferent}
use Rattle.plan_texts.specs.Types.{Has, EachIs}
use Rattle.plan_texts.specs.SpellsHddl.{hddl_words, task_words, action_words}
use Rattle.plan_texts.specs.Printable.{IsPlain, IsPlainVariable, IsSoundParam}
use Rattle.plan_texts.specs.SoundValue.{IsSoundHddl, arities}
use Rattle.plan_texts.proofs.Basics.{apart}
use Rattle.plan_texts.proofs.Members.{each-has, each-lacks, has-to_map, length-map}
use Rattle.plan_texts.proofs.Places.{plain-variable, each-join}
use Rattle.plan_model.specs.task_networks.Spelling.{numbers}
use Rattle.plan_model.specs.plan_meaning.Compilation.{IsCompiled}
use Rattle.slot_encoding.specs.SourceParts.{name}
use Rattle.slot_encoding.specs.EncodedNames.{guard_types, guard_word, checked_methods, encoded_objects, encoded_predicates, held_params}
use Rattle.slot_encoding.proofs.places.ObjectPlaces.{length-objects}
use Rattle.slot_encoding.specs.EncodedWords.{own_word, param_words, held_words, numbered, HasEncodedWords}
use Rattle.htn_base.proofs.DifferentLemmas.{different-left, different-right}
use Rattle.slot_encoding.proofs.words.Lists.{each-left, each-right, each-part, each-map, each-of_map, different-by, different-ranks, below-join, between-map}
use Rattle.slot_encoding.proofs.words.PlainWords.{rank, rank-escaped, plain-escaped, escaped-once, plain-behind, folded-decimal}
use Rattle.slot_encoding.proofs.words.TableWords.{named-name, words-made}
use Rattle.slot_encoding.proofs.words.KnownWords.{known_variables, known_types, known_source_group, known_three, known_task_group, known_action_group, known_check_group, known_guard_group}
use Rattle.slot_encoding.proofs.words.PrintedWords.{printed_words, printed_arities}
use Rattle.slot_encoding.proofs.words.TypeWords.{kinds_on, generated_kinds}
use Rattle.slot_encoding.proofs.words.SourceFormulas.{AreExtended, each_param}
use Rattle.slot_encoding.proofs.words.PredicatePlaces.{printed_predicate, held_task, held_action, held_check, guarding, first_group, task_group, action_group, check_group, guard_group, source_arity}
use Rattle.slot_encoding.proofs.words.CheckNames.{checks_differ, checks_plain}
use Rattle.slot_encoding.proofs.words.GuardWords.{guard_rank, guard_plain, guards_differ}

module _ (c : Compiled) (names : List Word) (b : ℕ) (sound : IsSoundHddl c.hddl) (has : HasEncodedWords c b names) where
  abbrev Known : List Word → Type 0
  Known = EachIs (Has names)

  abbrev nm : Predicate → Word
  nm d = named names d.name

  -- what the printed words have of the source's
  pub extended : AreExtended (hddl_words c.hddl) (printed_words c names b) (arities c.hddl) (printed_arities c names b)
  extended = record {
    objects = (let e = length-objects c names b in let f = length-map (λ (x : Object). named c.hddl.names x.name) c.hddl.objects in let g = length-map (λ (x : Object). named names x.name) (encoded_objects c names b) in omega arith);
    predicates = source_arity c names b;
    types = kinds_on c names b sound (known_types c b names has);
  }

  -- a generated variable
  pub generated_param : (w : Word) (ty : ℕ) → Has names w → IsPlain w → ty < 3 → IsSoundParam (printed_words c names b) (printed_arities c names b) (record { name = name names w; ty = ty })
  generated_param w ty h p l = (subst IsPlainVariable (sym (named-name w names h)) (plain-variable w p), generated_kinds c names b sound (known_types c b names has) ty l)

  pub known_h : Has names (codes "htn_h")
  known_h = (known_variables c b names has).0

  pub known_x : Has names (codes "htn_x")
  known_x = (known_variables c b names has).1.0

  known_a1 : Has names (codes "htn_a1")
  known_a1 = (known_variables c b names has).1.1.0

  -- the groups of words
  abbrev source_names : List Word
  source_names = map (λ (p : Predicate). own_word c p.name) c.hddl.predicates

  abbrev task_names : List Word
  task_names = map (λ (s : TaskSchema). codes "htn_t_" ++ own_word c s.name) c.hddl.tasks

  abbrev middle_names : List Word
  middle_names = codes "htn_top" ∷ codes "htn_free" ∷ codes "htn_before" ∷ task_names

  abbrev action_names : List Word
  action_names = map (λ (s : ActionSchema). codes "htn_a_" ++ own_word c s.name) c.hddl.actions

  abbrev check_names : List Word
  check_names = map (λ (p : MethodPlan). codes "htn_c_" ++ own_word c p.schema.name) (checked_methods c)

  abbrev guard_names : List Word
  guard_names = map (guard_word c [] 0) (guard_types c)

  abbrev predicate_names : List Word
  predicate_names = source_names ++ middle_names ++ action_names ++ check_names ++ guard_names

  known_source : (p : Predicate) → Has c.hddl.predicates p → Known (own_word c p.name ∷ param_words c.hddl.names p.params)
  known_source p m = each-part (Has names) (λ (p : Predicate). own_word c p.name ∷ param_words c.hddl.names p.params) c.hddl.predicates p (known_source_group c b names has) m

  known_task : (s : TaskSchema) → Has c.hddl.tasks s → Known (held_words c (codes "htn_t_") s.name s.params)
  known_task s m = each-part (Has names) (λ (s : TaskSchema). held_words c (codes "htn_t_") s.name s.params) c.hddl.tasks s (known_task_group c b names has) m

  known_action : (s : ActionSchema) → Has c.hddl.actions s → Known (held_words c (codes "htn_a_") s.name s.params)
  known_action s m = each-part (Has names) (λ (s : ActionSchema). held_words c (codes "htn_a_") s.name s.params) c.hddl.actions s (known_action_group c b names has) m

  known_check : (p : MethodPlan) → Has (checked_methods c) p → Known (held_words c (codes "htn_c_") p.schema.name p.schema.params)
  known_check p m = each-part (Has names) (λ (p : MethodPlan). held_words c (codes "htn_c_") p.schema.name p.schema.params) (checked_methods c) p (known_check_group c b names has) m

  pub predicates-named : map (λ (d : Predicate). named names d.name) (encoded_predicates c names b) ≡ predicate_names
  predicates-named = e4
    where
      f : map nm (first_group c names b) ≡ source_names
      f = words-made (printed_predicate c names b) nm (λ (p : Predicate). own_word c p.name) c.hddl.predicates (λ p m. named-name (own_word c p.name) names (known_source p m).0)

      t : map nm (task_group c names b) ≡ middle_names
      t =
          let r = words-made (held_task c names b) nm (λ (s : TaskSchema). codes "htn_t_" ++ own_word c s.name) c.hddl.tasks (λ s m. named-name (codes "htn_t_" ++ own_word c s.name) names (known_task s m).0) in
          let k = known_three c b names has in
          let x = named-name (codes "htn_top") names k.0 in
          let y = named-name (codes "htn_free") names k.1.0 in
          let z = named-name (codes "htn_before") names k.1.1.0 in
          λ i. x i ∷ y i ∷ z i ∷ r i

      a : map nm (action_group c names b) ≡ action_names
      a = words-made (held_action c names b) nm (λ (s : ActionSchema). codes "htn_a_" ++ own_word c s.name) c.hddl.actions (λ s m. named-name (codes "htn_a_" ++ own_word c s.name) names (known_action s m).0)

      k : map nm (check_group c names b) ≡ check_names
      k = words-made (held_check c names b) nm (λ (p : MethodPlan). codes "htn_c_" ++ own_word c p.schema.name) (checked_methods c) (λ p m. named-name (codes "htn_c_" ++ own_word c p.schema.name) names (known_check p m).0)

      g : map nm (guard_group c names b) ≡ guard_names
      g = words-made (guarding c names b) nm (guard_word c [] 0) (guard_types c) (λ ty m. named-name (guard_word c [] 0 ty) names (each-has (Has names) guard_names (guard_word c [] 0 ty) (known_guard_group c b names has) (has-to_map (guard_word c [] 0) (guard_types c) ty m)))

      e1 : map nm (first_group c names b ++ task_group c names b) ≡ source_names ++ middle_names
      e1 = map-append nm (first_group c names b) (task_group c names b) ∙ (λ i. f i ++ t i)

      e2 : map nm (first_group c names b ++ task_group c names b ++ action_group c names b) ≡ source_names ++ middle_names ++ action_names
      e2 = map-append nm (first_group c names b ++ task_group c names b) (action_group c names b) ∙ (λ i. e1 i ++ a i)

      e3 : map nm (first_group c names b ++ task_group c names b ++ action_group c names b ++ check_group c names b) ≡ source_names ++ middle_names ++ action_names ++ check_names
      e3 = map-append nm (first_group c names b ++ task_group c names b ++ action_group c names b) (check_group c names b) ∙ (λ i. e2 i ++ k i)

      e4 : map nm (encoded_predicates c names b) ≡ predicate_names
      e4 = map-append nm (first_group c names b ++ task_group c names b ++ action_group c names b ++ check_group c names b) (guard_group c names b) ∙ (λ i. e3 i ++ g i)

  -- the source's names
  task_plain : (s : TaskSchema) → Has c.hddl.tasks s → IsPlain (own_word c s.name)
  task_plain s m = plain-escaped (named c.hddl.names s.name) (each-has (λ (s : TaskSchema). IsPlain (named c.hddl.names s.name)) c.hddl.tasks s (each-of_map IsPlain (λ (s : TaskSchema). named c.hddl.names s.name) c.hddl.tasks (each-left IsPlain (task_words c.hddl) (action_words c.hddl) sound.calls_named)) m)

  pub action_plain : (s : ActionSchema) → Has c.hddl.actions s → IsPlain (own_word c s.name)
  action_plain s m = plain-escaped (named c.hddl.names s.name) (each-has (λ (s : ActionSchema). IsPlain (named c.hddl.names s.name)) c.hddl.actions s (each-of_map IsPlain (λ (s : ActionSchema). named c.hddl.names s.name) c.hddl.actions (each-right IsPlain (task_words c.hddl) (action_words c.hddl) sound.calls_named)) m)

  -- the variables
  abbrev Sound : Param → Type 0
  Sound = IsSoundParam (printed_words c names b) (printed_arities c names b)

  pub sound_h : IsSoundParam (printed_words c names b) (printed_arities c names b) (record { name = name names (codes "htn_h"); ty = 1 })
  sound_h = generated_param (codes "htn_h") 1 known_h (refl, refl) (omega arith)

  pub sound_x : IsSoundParam (printed_words c names b) (printed_arities c names b) (record { name = name names (codes "htn_x"); ty = 1 })
  sound_x = generated_param (codes "htn_x") 1 known_x (refl, refl) (omega arith)

  sound_held : (n : ℕ) → Known (numbered (codes "htn_a") n) → EachIs Sound (held_params c names b n)
  sound_held n known = (sound_h, go (numbers 1 n) known)
    where
      go : (ks : List ℕ) → Known (map (λ k. codes "htn_a" ++ decimal k) ks) → EachIs Sound (map (λ k. record { name = name names (codes "htn_a" ++ decimal k); ty = 2 }) ks)
      go [] h = tt
      go (k ∷ ks) h = (generated_param (codes "htn_a" ++ decimal k) 2 h.0 (plain-behind (codes "htn_a") (decimal k) refl refl (folded-decimal k)) (omega arith), go ks h.1)

  abbrev SoundParams : Predicate → Type 0
  SoundParams d = EachIs Sound d.params

  pub predicate_params : EachIs (λ (d : Predicate). EachIs (IsSoundParam (printed_words c names b) (printed_arities c names b)) d.params) (encoded_predicates c names b)
  predicate_params =
      each-join SoundParams (first_group c names b ++ task_group c names b ++ action_group c names b ++ check_group c names b) (guard_group c names b)
      (each-join SoundParams (first_group c names b ++ task_group c names b ++ action_group c names b) (check_group c names b)
      (each-join SoundParams (first_group c names b ++ task_group c names b) (action_group c names b)
      (each-join SoundParams (first_group c names b) (task_group c names b)
      (each-map SoundParams (printed_predicate c names b) c.hddl.predicates (λ d m. each_param (hddl_words c.hddl) (printed_words c names b) (arities c.hddl) (printed_arities c names b) extended d.params (known_source d m).1 (each-has (λ (d : Predicate). EachIs (IsSoundParam (hddl_words c.hddl) (arities c.hddl)) d.params) c.hddl.predicates d sound.predicates m)))
      ((sound_h, tt), ((sound_h, tt), ((sound_x, (sound_h, tt)), each-map SoundParams (held_task c names b) c.hddl.tasks (λ s m. sound_held (length s.params) (known_task s m).1)))))
      (each-map SoundParams (held_action c names b) c.hddl.actions (λ s m. sound_held (length s.params) (known_action s m).1)))
      (each-map SoundParams (held_check c names b) (checked_methods c) (λ p m. sound_held (length p.schema.params) (known_check p m).1)))
      (each-map SoundParams (guarding c names b) (guard_types c) (λ ty m. (generated_param (codes "htn_a1") 2 known_a1 (refl, refl) (omega arith), tt)))

  -- the predicate for lower slots is a single word, and none of the three
  pub less_is_new : EachIs (λ w. codes "htn_less" ≡ w → ⊥) (map (λ (d : Predicate). named names d.name) (encoded_predicates c names b))
  less_is_new =
      subst (EachIs New) (sym predicates-named)
      (each-join New (source_names ++ middle_names ++ action_names ++ check_names) guard_names
      (each-join New (source_names ++ middle_names ++ action_names) check_names
      (each-join New (source_names ++ middle_names) action_names
      (each-join New source_names middle_names
      (each-map New (λ (p : Predicate). own_word c p.name) c.hddl.predicates (λ p m. new (own_word c p.name) 0 (rank-escaped (named c.hddl.names p.name)) (λ l. omega arith)))
      (apart _ _ refl, (apart _ _ refl, (apart _ _ refl, each-map New (λ (s : TaskSchema). codes "htn_t_" ++ own_word c s.name) c.hddl.tasks (λ s m. new (codes "htn_t_" ++ own_word c s.name) 2 refl (λ l. omega arith))))))
      (each-map New (λ (s : ActionSchema). codes "htn_a_" ++ own_word c s.name) c.hddl.actions (λ s m. new (codes "htn_a_" ++ own_word c s.name) 3 refl (λ l. omega arith))))
      (each-map New (λ (p : MethodPlan). codes "htn_c_" ++ own_word c p.schema.name) (checked_methods c) (λ p m. new (codes "htn_c_" ++ own_word c p.schema.name) 4 refl (λ l. omega arith))))
      (each-map New (guard_word c [] 0) (guard_types c) (λ ty m. new (guard_word c [] 0 ty) 5 (guard_rank c ty) (λ l. omega arith))))
    where
      New : Word → Type 0
      New w = codes "htn_less" ≡ w → ⊥

      new : (w : Word) (r : ℕ) → rank w ≡ r → (1 ≡ r → ⊥) → codes "htn_less" ≡ w → ⊥
      new w r e other f = other (ap rank f ∙ e)

  module _ (mode : Checks) (compiled : IsCompiled c.hddl mode c) (top_free : c.hddl.top.pre ≡ And []) where
    plain : EachIs IsPlain predicate_names
    plain =
        each-join IsPlain (source_names ++ middle_names ++ action_names ++ check_names) guard_names
        (each-join IsPlain (source_names ++ middle_names ++ action_names) check_names
        (each-join IsPlain (source_names ++ middle_names) action_names
        (each-join IsPlain source_names middle_names
        (each-map IsPlain (λ (p : Predicate). own_word c p.name) c.hddl.predicates (λ p m. plain-escaped (named c.hddl.names p.name) (each-has (λ (p : Predicate). IsPlain (named c.hddl.names p.name)) c.hddl.predicates p (each-of_map IsPlain (λ (p : Predicate). named c.hddl.names p.name) c.hddl.predicates sound.words.predicates) m)))
        ((refl, refl), ((refl, refl), ((refl, refl), each-map IsPlain (λ (s : TaskSchema). codes "htn_t_" ++ own_word c s.name) c.hddl.tasks (λ s m. plain-behind (codes "htn_t_") (own_word c s.name) refl refl (task_plain s m).0)))))
        (each-map IsPlain (λ (s : ActionSchema). codes "htn_a_" ++ own_word c s.name) c.hddl.actions (λ s m. plain-behind (codes "htn_a_") (own_word c s.name) refl refl (action_plain s m).0)))
        (each-map IsPlain (λ (p : MethodPlan). codes "htn_c_" ++ own_word c p.schema.name) (checked_methods c) (λ p m. plain-behind (codes "htn_c_") (own_word c p.schema.name) refl refl (plain-escaped (named c.hddl.names p.schema.name) (each-has (λ (p : MethodPlan). IsPlain (named c.hddl.names p.schema.name)) (checked_methods c) p (checks_plain c mode compiled sound top_free) m)).0)))
        (each-map IsPlain (guard_word c [] 0) (guard_types c) (λ ty m. guard_plain c sound ty))

    pub predicates_plain : EachIs IsPlain (map (λ (d : Predicate). named names d.name) (encoded_predicates c names b))
    predicates_plain = subst (EachIs IsPlain) (sym predicates-named) plain

    -- words behind a prefix differ where the source's do
    behind_prefix : {X : Type 0} (prefix : Word) (n : ℕ) (word : X → Word) (xs : List X) → ((w : Word) → drop n (prefix ++ w) ≡ w) → AreDifferent (map word xs) → AreDifferent (map (λ x. prefix ++ escaped (word x)) xs)
    behind_prefix prefix n word xs cut d = different-by word (λ x. prefix ++ escaped (word x)) xs (λ x y h k e. escaped-once (word x) (word y) (sym (cut (escaped (word x))) ∙ ap (drop n) e ∙ cut (escaped (word y)))) d

    tasks_differ : AreDifferent task_names
    tasks_differ = behind_prefix (codes "htn_t_") 6 (λ (s : TaskSchema). named c.hddl.names s.name) c.hddl.tasks (λ w. refl) (different-left (task_words c.hddl) (action_words c.hddl) sound.calls_differ)

    pub actions_differ_behind : AreDifferent (map (λ (s : ActionSchema). named c.hddl.names s.name) c.hddl.actions)
    actions_differ_behind = different-right (task_words c.hddl) (action_words c.hddl) sound.calls_differ

    held_actions_differ : AreDifferent action_names
    held_actions_differ = behind_prefix (codes "htn_a_") 6 (λ (s : ActionSchema). named c.hddl.names s.name) c.hddl.actions (λ w. refl) actions_differ_behind

    pub check_names_differ : AreDifferent (map (λ (p : MethodPlan). codes "htn_c_" ++ own_word c p.schema.name) (checked_methods c))
    check_names_differ = behind_prefix (codes "htn_c_") 6 (λ (p : MethodPlan). named c.hddl.names p.schema.name) (checked_methods c) (λ w. refl) (checks_differ c mode compiled sound top_free)

    -- single words are of rank 1, and those of tasks of rank 2
    not_task : (w : Word) → rank w ≡ 1 → EachIs (λ u. w ≡ u → ⊥) task_names
    not_task w r = each-map (λ u. w ≡ u → ⊥) (λ (s : TaskSchema). codes "htn_t_" ++ own_word c s.name) c.hddl.tasks (λ s m e. (let f : 1 ≡ 2 = sym r ∙ ap rank e in omega arith))

    differ : (length c.hddl.types.unions < 2 ^ 64) → AreDifferent predicate_names
    differ short =
        different-ranks rank 5 6 (source_names ++ middle_names ++ action_names ++ check_names) guard_names
        (below-join rank 4 5 (source_names ++ middle_names ++ action_names) check_names (omega arith)
        (below-join rank 3 4 (source_names ++ middle_names) action_names (omega arith)
        (below-join rank 1 3 source_names middle_names (omega arith)
        (record {
          different = different-by (λ (p : Predicate). named c.hddl.names p.name) (λ (p : Predicate). own_word c p.name) c.hddl.predicates (λ p q h k e. escaped-once (named c.hddl.names p.name) (named c.hddl.names q.name) e) sound.words.predicates_differ;
          below = each-map (λ w. rank w < 1) (λ (p : Predicate). own_word c p.name) c.hddl.predicates (λ p m. (let e : rank (own_word c p.name) ≡ 0 = rank-escaped (named c.hddl.names p.name) in omega arith));
        }) (
          each-lacks (codes "htn_free" ∷ codes "htn_before" ∷ task_names) (codes "htn_top") (apart _ _ refl, (apart _ _ refl, not_task (codes "htn_top") refl)),
          (each-lacks (codes "htn_before" ∷ task_names) (codes "htn_free") (apart _ _ refl, not_task (codes "htn_free") refl), (each-lacks task_names (codes "htn_before") (not_task (codes "htn_before") refl), tasks_differ)),
        )
        ((omega arith, omega arith), ((omega arith, omega arith), ((omega arith, omega arith), between-map rank 1 3 2 (λ (s : TaskSchema). codes "htn_t_" ++ own_word c s.name) c.hddl.tasks (λ s m. refl) (omega arith) (omega arith)))))
        held_actions_differ (between-map rank 3 4 3 (λ (s : ActionSchema). codes "htn_a_" ++ own_word c s.name) c.hddl.actions (λ s m. refl) (omega arith) (omega arith)))
        check_names_differ (between-map rank 4 5 4 (λ (p : MethodPlan). codes "htn_c_" ++ own_word c p.schema.name) (checked_methods c) (λ p m. refl) (omega arith) (omega arith)))
        (guards_differ c sound short mode compiled) (between-map rank 5 6 5 (guard_word c [] 0) (guard_types c) (λ ty m. guard_rank c ty) (omega arith) (omega arith))

    pub predicates_differ : (length c.hddl.types.unions < 2 ^ 64) → AreDifferent (map (λ (d : Predicate). named names d.name) (encoded_predicates c names b))
    predicates_differ short = subst AreDifferent (sym predicates-named) (differ short)
