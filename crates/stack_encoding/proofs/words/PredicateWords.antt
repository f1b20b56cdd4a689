-- The predicates of the printed problem of a stack: their words and their variables. What is said of the words of slots is carried over.
use Rattle.std.proofs.Common.{ℕ, ◌≡◌, ◌<◌, ◌^◌, List, [], ◌∷◌, ◌++◌, map, length, codes, decimal, refl, ap, sym, subst, ◌∙◌, arith}
use Rattle.htn_base.specs.Different.{AreDifferent}
use Rattle.text_forms.specs.Words.{Word}
use Rattle.plan_model.specs.declared.options.Checks.{Checks}
use Rattle.plan_model.specs.declared.formulas.Formula.TheVariants.{And}
use Rattle.plan_model.specs.declared.terms.Param.{Param}
use Rattle.plan_model.specs.declared.schemas.Predicate.{Predicate}
use Rattle.plan_model.specs.declared.schemas.TaskSchema.{TaskSchema}
use Rattle.plan_model.specs.declared.schemas.ActionSchema.{ActionSchema}
use Rattle.plan_model.specs.declared.values.Compiled.{Compiled}
use Rattle.plan_model.specs.task_networks.Spelling.{numbers}
use Rattle.plan_model.specs.plan_meaning.Compilation.{IsCompiled}
use Rattle.plan_texts.specs.Declared.{named}
use Rattle.plan_texts.specs.Types.{Has, EachIs}
use Rattle.plan_texts.specs.SpellsHddl.{hddl_words}
use Rattle.plan_texts.specs.Printable.{IsPlain, IsPlainVariable, IsSoundParam}
use Rattle.plan_texts.specs.SoundValue.{IsSoundHddl, arities}
use Rattle.plan_texts.proofs.Basics.{apart}
use Rattle.plan_texts.proofs.Members.{each-has, each-lacks}
use Rattle.plan_texts.proofs.Places.{plain-variable}
use Rattle.slot_encoding.specs.SourceParts.{name}
use Rattle.slot_encoding.specs.EncodedNames.{guard_types, guard_word, checked_methods, encoded_predicates, held_params}
use Rattle.slot_encoding.specs.EncodedWords.{own_word, numbered}
use Rattle.slot_encoding.proofs.words.GuardWords.{guard_rank}
use Rattle.slot_encoding.proofs.words.Lists.{each-map, AreBelow, different-ranks, below-join, between-map}
use Rattle.slot_encoding.proofs.words.PlainWords.{rank, rank-escaped, plain-behind, folded-decimal}
use Rattle.slot_encoding.proofs.words.PredicateNames.{predicates-named as slot_predicates-named, predicates_plain as slot_predicates_plain, predicates_differ as slot_predicates_differ}
use Rattle.slot_encoding.proofs.words.PredicatePlaces.{printed_predicate, held_task, held_action, held_check, guarding, first_group, action_group, check_group, guard_group}
use Rattle.slot_encoding.proofs.words.SourceFormulas.{each_param}
use Rattle.slot_encoding.proofs.words.TableWords.{named-name, words-made}
use Rattle.slot_encoding.proofs.words.TypeWords.{generated_kinds}
use Rattle.stack_encoding.specs.StackNames.{stack_predicates}
use Rattle.stack_encoding.proofs.words.Appended.{appended, of-appended, to-appended, map-appended, different-appended}
use Rattle.stack_encoding.proofs.words.KnownParts.{AreKnown, check_word}
use Rattle.stack_encoding.proofs.words.KnownEach.{known_source, known_task, known_held, known_holding, known_guard}
use Rattle.stack_encoding.proofs.words.FewCells.{wide, wide_has}
use Rattle.stack_encoding.proofs.words.StackDeclared.{stack_declared, stack_arities, cell_group, stack_extended}

module _ (c : Compiled) where
  abbrev source_names : List Word
  source_names = map (λ (p : Predicate). own_word c p.name) c.hddl.predicates

  abbrev task_names : List Word
  task_names = map (λ (s : TaskSchema). codes "htn_t_" ++ own_word c s.name) c.hddl.tasks

  abbrev action_names : List Word
  action_names = map (λ (s : ActionSchema). codes "htn_a_" ++ own_word c s.name) c.hddl.actions

  abbrev check_names : List Word
  check_names = map (check_word c) (checked_methods c)

  abbrev guard_names : List Word
  guard_names = map (guard_word c [] 0) (guard_types c)

  -- all of them, where these are the generated ones
  abbrev predicate_names : List Word → List Word
  predicate_names three = appended source_names ((three ++ task_names) ∷ action_names ∷ check_names ∷ guard_names ∷ [])

  abbrev of_slots : List Word
  of_slots = codes "htn_top" ∷ codes "htn_free" ∷ codes "htn_before" ∷ []

  abbrev of_stack : List Word
  of_stack = codes "htn_top" ∷ codes "htn_tip" ∷ codes "htn_up" ∷ []

module _ (c : Compiled) (names : List Word) (b : ℕ) (sound : IsSoundHddl c.hddl) (known : AreKnown c b names) where
  abbrev nm : Predicate → Word
  nm d = named names d.name

  pub predicates-named : map (λ (d : Predicate). named names d.name) (stack_predicates c names b) ≡ predicate_names c (of_stack c)
  predicates-named =
      let f = words-made (printed_predicate c names b) nm (λ (p : Predicate). own_word c p.name) c.hddl.predicates (λ p m. named-name (own_word c p.name) names (known_source c b names known p m).0) in
      let t = words-made (held_task c names b) nm (λ (s : TaskSchema). codes "htn_t_" ++ own_word c s.name) c.hddl.tasks (λ s m. named-name (codes "htn_t_" ++ own_word c s.name) names (known_task c b names known s m).0) in
      let x = named-name (codes "htn_top") names known.three.0 in
      let y = named-name (codes "htn_tip") names known.three.1.0 in
      let z = named-name (codes "htn_up") names known.three.1.1.0 in
      let a = words-made (held_action c names b) nm (λ (s : ActionSchema). codes "htn_a_" ++ own_word c s.name) c.hddl.actions (λ s m. named-name (codes "htn_a_" ++ own_word c s.name) names (known_held c b names known s m).0) in
      let k = words-made (held_check c names b) nm (check_word c) (checked_methods c) (λ p m. named-name (check_word c p) names (known_holding c b names known p m).0) in
      let g = words-made (guarding c names b) nm (guard_word c [] 0) (guard_types c) (λ ty m. named-name (guard_word c [] 0 ty) names (known_guard c b names known ty m)) in
      map-appended nm (first_group c names b) (cell_group c names b ∷ action_group c names b ∷ check_group c names b ∷ guard_group c names b ∷ [])
      ∙ (λ i. appended (f i) ((x i ∷ y i ∷ z i ∷ t i) ∷ a i ∷ k i ∷ g i ∷ []))

  -- the variables
  pub generated_param : (w : Word) (ty : ℕ) → Has names w → IsPlain w → ty < 3 → IsSoundParam (stack_declared c names b) (stack_arities c names b) (record { name = name names w; ty = ty })
  generated_param w ty h p l = (subst IsPlainVariable (sym (named-name w names h)) (plain-variable w p), generated_kinds c names b sound known.types ty l)

  abbrev Sound : Param → Type 0
  Sound = IsSoundParam (stack_declared c names b) (stack_arities c names b)

  pub sound_h : IsSoundParam (stack_declared c names b) (stack_arities c names b) (record { name = name names (codes "htn_h"); ty = 1 })
  sound_h = generated_param (codes "htn_h") 1 known.variables.0 (refl, refl) (omega arith)

  pub sound_d : IsSoundParam (stack_declared c names b) (stack_arities c names b) (record { name = name names (codes "htn_d"); ty = 1 })
  sound_d = generated_param (codes "htn_d") 1 known.variables.1.0 (refl, refl) (omega arith)

  sound_x : Sound (record { name = name names (codes "htn_x"); ty = 1 })
  sound_x = generated_param (codes "htn_x") 1 known.variables.1.1.0 (refl, refl) (omega arith)

  sound_a1 : Sound (record { name = name names (codes "htn_a1"); ty = 2 })
  sound_a1 = generated_param (codes "htn_a1") 2 known.variables.1.1.1.0 (refl, refl) (omega arith)

  -- numbered ones
  pub sound_numbered : (prefix : List ℕ) (ty : ℕ) → ty < 3 → ((k : ℕ) → IsPlain (prefix ++ decimal k)) → (ks : List ℕ) → EachIs (Has names) (map (λ k. prefix ++ decimal k) ks)
      → EachIs (IsSoundParam (stack_declared c names b) (stack_arities c names b)) (map (λ k. record { name = name names (prefix ++ decimal k); ty = ty }) ks)
  sound_numbered prefix ty l plain [] h = tt
  sound_numbered prefix ty l plain (k ∷ ks) h = (generated_param (prefix ++ decimal k) ty h.0 (plain k) l, sound_numbered prefix ty l plain ks h.1)

  sound_held : (n : ℕ) → EachIs (Has names) (numbered (codes "htn_a") n) → EachIs Sound (held_params c names b n)
  sound_held n h = (sound_h, sound_numbered (codes "htn_a") 2 (omega arith) (λ k. plain-behind (codes "htn_a") (decimal k) refl refl (folded-decimal k)) (numbers 1 n) h)

  abbrev SoundParams : Predicate → Type 0
  SoundParams d = EachIs Sound d.params

  source_sound : (d : Predicate) → Has c.hddl.predicates d → SoundParams (printed_predicate c names b d)
  source_sound d m =
      let s = each-has (λ (d : Predicate). EachIs (IsSoundParam (hddl_words c.hddl) (arities c.hddl)) d.params) c.hddl.predicates d sound.predicates m in
      each_param (hddl_words c.hddl) (stack_declared c names b) (arities c.hddl) (stack_arities c names b) (stack_extended c names b sound known.types) d.params (known_source c b names known d m).1 s

  pub predicate_params : EachIs (λ (d : Predicate). EachIs (IsSoundParam (stack_declared c names b) (stack_arities c names b)) d.params) (stack_predicates c names b)
  predicate_params =
      let tasks = each-map SoundParams (held_task c names b) c.hddl.tasks (λ s m. sound_held (length s.params) (known_task c b names known s m).1) in
      let actions = each-map SoundParams (held_action c names b) c.hddl.actions (λ s m. sound_held (length s.params) (known_held c b names known s m).1) in
      let checks = each-map SoundParams (held_check c names b) (checked_methods c) (λ p m. sound_held (length p.schema.params) (known_holding c b names known p m).1) in
      let guards = each-map SoundParams (guarding c names b) (guard_types c) (λ ty m. (sound_a1, tt)) in
      to-appended SoundParams (first_group c names b) (cell_group c names b ∷ action_group c names b ∷ check_group c names b ∷ guard_group c names b ∷ [])
      (each-map SoundParams (printed_predicate c names b) c.hddl.predicates source_sound)
      (((sound_h, tt), ((sound_h, tt), ((sound_x, (sound_h, tt)), tasks))), (actions, (checks, (guards, tt))))

  module _ (mode : Checks) (compiled : IsCompiled c.hddl mode c) (top_free : c.hddl.top.pre ≡ And []) where
    -- the words with slots
    with_slots : map (λ (d : Predicate). named (wide c b names) d.name) (encoded_predicates c (wide c b names) b) ≡ predicate_names c (of_slots c)
    with_slots = slot_predicates-named c (wide c b names) b sound (wide_has c b names)

    pub predicates_plain : EachIs IsPlain (map (λ (d : Predicate). named names d.name) (stack_predicates c names b))
    predicates_plain =
        let parts = of-appended IsPlain (source_names c) ((of_slots c ++ task_names c) ∷ action_names c ∷ check_names c ∷ guard_names c ∷ [])
        (subst (EachIs IsPlain) with_slots (slot_predicates_plain c (wide c b names) b sound (wide_has c b names) mode compiled top_free)) in
        let tasks = parts.1.0.1.1.1 in
        subst (EachIs IsPlain) (sym predicates-named)
        (to-appended IsPlain (source_names c) ((of_stack c ++ task_names c) ∷ action_names c ∷ check_names c ∷ guard_names c ∷ []) parts.0 (((refl, refl), ((refl, refl), ((refl, refl), tasks))), parts.1.1))

    -- single words are of rank 1, and those of tasks of rank 2
    no_task : (w : Word) → rank w ≡ 1 → EachIs (λ u. w ≡ u → ⊥) (task_names c)
    no_task w r = each-map (λ u. w ≡ u → ⊥) (λ (s : TaskSchema). codes "htn_t_" ++ own_word c s.name) c.hddl.tasks (λ s m e. (let f : 1 ≡ 2 = sym r ∙ ap rank e in omega arith))

    differ : (length c.hddl.types.unions < 2 ^ 64) → AreDifferent (predicate_names c (of_stack c))
    differ short =
        let parts = different-appended (source_names c) ((of_slots c ++ task_names c) ∷ action_names c ∷ check_names c ∷ guard_names c ∷ [])
        (subst AreDifferent with_slots (slot_predicates_differ c (wide c b names) b sound (wide_has c b names) mode compiled top_free short)) in
        let middle = of_stack c ++ task_names c in
        let middle_apart : AreDifferent (of_stack c ++ task_names c) = (
          each-lacks (codes "htn_tip" ∷ codes "htn_up" ∷ task_names c) (codes "htn_top") (apart _ _ refl, (apart _ _ refl, no_task (codes "htn_top") refl)),
          (each-lacks (codes "htn_up" ∷ task_names c) (codes "htn_tip") (apart _ _ refl, no_task (codes "htn_tip") refl), (each-lacks (task_names c) (codes "htn_up") (no_task (codes "htn_up") refl), parts.1.0.1.1.1)),
        ) in
        let source_low = each-map (λ w. rank w < 1) (λ (p : Predicate). own_word c p.name) c.hddl.predicates (λ p m. (let e : rank (own_word c p.name) ≡ 0 = rank-escaped (named c.hddl.names p.name) in omega arith)) in
        let tasks_in = between-map rank 1 3 2 (λ (s : TaskSchema). codes "htn_t_" ++ own_word c s.name) c.hddl.tasks (λ s m. refl) (omega arith) (omega arith) in
        let actions_in = between-map rank 3 4 3 (λ (s : ActionSchema). codes "htn_a_" ++ own_word c s.name) c.hddl.actions (λ s m. refl) (omega arith) (omega arith) in
        let checks_in = between-map rank 4 5 4 (check_word c) (checked_methods c) (λ p m. refl) (omega arith) (omega arith) in
        let guards_in = between-map rank 5 6 5 (guard_word c [] 0) (guard_types c) (λ ty m. guard_rank c ty) (omega arith) (omega arith) in
        let one : AreBelow rank 1 (source_names c) = record { different = parts.0; below = source_low } in
        let two = below-join rank 1 3 (source_names c) middle (omega arith) one middle_apart ((omega arith, omega arith), ((omega arith, omega arith), ((omega arith, omega arith), tasks_in))) in
        let three = below-join rank 3 4 (source_names c ++ middle) (action_names c) (omega arith) two parts.1.1.0 actions_in in
        let four = below-join rank 4 5 (source_names c ++ middle ++ action_names c) (check_names c) (omega arith) three parts.1.1.1.0 checks_in in
        different-ranks rank 5 6 (source_names c ++ middle ++ action_names c ++ check_names c) (guard_names c) four parts.1.1.1.1.0 guards_in

    pub predicates_differ : (length c.hddl.types.unions < 2 ^ 64) → AreDifferent (map (λ (d : Predicate). named names d.name) (stack_predicates c names b))
    predicates_differ short = subst AreDifferent (sym predicates-named) (differ short)
