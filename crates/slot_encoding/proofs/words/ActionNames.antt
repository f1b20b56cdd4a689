-- The words of the printed actions: plain, and no two the same.
use Rattle.std.proofs.Common.{ℕ, zero, suc, ◌≡◌, ◌-◌, ◌<◌, Bool, true, false, cond, List, [], ◌∷◌, ◌++◌, map, filter, length, drop, codes, refl, ap, sym, subst, ◌∙◌, arith}
use Rattle.std.proofs.lemmas.List.{map-append}
use Rattle.text_forms.specs.Words.{Word}
use Rattle.plan_model.specs.declared.options.Style.{Style}
use Rattle.plan_model.specs.declared.options.Checks.{Checks}
use Rattle.plan_model.specs.declared.formulas.Formula.TheVariants.{And}
use Rattle.plan_model.specs.declared.schemas.ActionSchema.{ActionSchema}
use Rattle.plan_model.specs.declared.schemas.MethodPlan.{MethodPlan}
use Rattle.plan_model.specs.declared.values.Compiled.{Compiled}
use Rattle.plan_texts.specs.Declared.{named}
use Rattle.htn_base.specs.Different.{AreDifferent}
use Rattle.plan_texts.specs.Types.{Has, EachIs}
use Rattle.plan_texts.specs.Printable.{IsPlain}
use Rattle.plan_texts.specs.SoundValue.{IsSoundHddl, method_words as old_words}
use Rattle.plan_texts.proofs.Members.{each-has, each-lacks}
use Rattle.plan_texts.proofs.Places.{each-join}
use Rattle.plan_model.specs.plan_meaning.Compilation.{AreMethodPlans, IsCompiled}
use Rattle.slot_encoding.specs.EncodedNames.{joined, checked_methods}
use Rattle.slot_encoding.specs.EncodedActions.{encoded_check, method_word as named_word}
use Rattle.slot_encoding.specs.EncodedValue.{encoded_methods, encoded_checks, encoded_source, encoded_actions}
use Rattle.slot_encoding.proofs.places.Predicates.{is_checked}
use Rattle.slot_encoding.specs.EncodedWords.{own_word, param_words, formula_words, effect_words, numbered, method_word, method_words, HasEncodedWords}
use Rattle.slot_encoding.proofs.words.Lists.{each-left, each-right, each-map, each-of_map, different-by, AreBelow, different-ranks, below-join, between-map}
use Rattle.slot_encoding.proofs.words.PlainWords.{rank, rank-escaped, plain-escaped, escaped-once, plain-behind}
use Rattle.slot_encoding.proofs.words.TableWords.{named-name}
use Rattle.slot_encoding.proofs.words.KnownWords.{known_methods, known_checks, known_source_actions}
use Rattle.slot_encoding.proofs.words.KnownMethods.{of_first}
use Rattle.slot_encoding.proofs.words.CheckNames.{others_named, checks_plain}
use Rattle.slot_encoding.proofs.words.PredicateNames.{action_plain, actions_differ_behind, check_names_differ}

-- methods, then checks, then the source's actions
abbrev pub action_rank : Word → ℕ
action_rank w = 10 - rank w

module _ (c : Compiled) (names : List Word) (b : ℕ) (style : Style) (sound : IsSoundHddl c.hddl) (has : HasEncodedWords c b names) where
  abbrev Known : List Word → Type 0
  Known = EachIs (Has names)

  abbrev nm : ActionSchema → Word
  nm a = named names a.name

  abbrev names_from : ℕ → List MethodPlan → List Word
  names_from k [] = []
  names_from k (plan ∷ plans) = method_word c k plan.schema.name ∷ names_from (suc k) plans

  abbrev check_word : MethodPlan → Word
  check_word plan = codes "htn_c_" ++ own_word c plan.schema.name

  abbrev check_names : List Word
  check_names = map check_word (checked_methods c)

  abbrev source_names : List Word
  source_names = map (λ (s : ActionSchema). own_word c s.name) c.hddl.actions

  abbrev action_names : List Word
  action_names = names_from 0 c.methods ++ check_names ++ source_names

  same_word : (k : ℕ) (plan : MethodPlan) → named_word c names b style k plan k ≡ method_word c k plan.schema.name
  same_word zero plan = refl
  same_word (suc k) plan = refl

  methods-named : (k : ℕ) (plans : List MethodPlan) → Known (method_words c k plans) → map nm (encoded_methods c names b style k plans) ≡ names_from k plans
  methods-named k [] h = refl
  methods-named k (plan ∷ plans) h =
      let w = named_word c names b style k plan k in
      let front = method_word c k plan.schema.name ∷ numbered (codes "htn_h") (length plan.schema.children - 1) ++ param_words c.hddl.names plan.schema.params ++ formula_words c.hddl.names plan.schema.pre in
      let e = named-name w names (subst (Has names) (sym (same_word k plan)) (of_first c names k plan (method_words c (suc k) plans) h).word) ∙ same_word k plan in
      let r = methods-named (suc k) plans (each-right (Has names) front (method_words c (suc k) plans) h) in
      λ i. e i ∷ r i

  checks-named : (k : ℕ) (plans : List MethodPlan) → Known (map check_word (filter is_checked plans)) → map nm (encoded_checks c names b style k plans) ≡ map check_word (filter is_checked plans)
  checks-named k [] h = refl
  checks-named k (plan ∷ plans) h = go plan.checked h (checks-named (suc k) plans)
    where
      go : (t : Bool) → Known (map check_word (cond t (plan ∷ filter is_checked plans) (filter is_checked plans)))
          → (Known (map check_word (filter is_checked plans)) → map nm (encoded_checks c names b style (suc k) plans) ≡ map check_word (filter is_checked plans))
          → map nm (cond t (encoded_check c names b style k plan ∷ encoded_checks c names b style (suc k) plans) (encoded_checks c names b style (suc k) plans)) ≡ map check_word (cond t (plan ∷ filter is_checked plans) (filter is_checked plans))
      go true h r = let e = named-name (check_word plan) names h.0 in let f = r h.1 in λ i. e i ∷ f i
      go false h r = r h

  sources-named : (k : ℕ) (ss : List ActionSchema) → Known (joined (map (λ (s : ActionSchema). own_word c s.name ∷ param_words c.hddl.names s.params ++ formula_words c.hddl.names s.pre ++ effect_words c.hddl.names s.eff) ss))
      → map nm (encoded_source c names b style k ss) ≡ map (λ (s : ActionSchema). own_word c s.name) ss
  sources-named k [] h = refl
  sources-named k (s ∷ ss) h =
      let words = own_word c s.name ∷ param_words c.hddl.names s.params ++ formula_words c.hddl.names s.pre ++ effect_words c.hddl.names s.eff in
      let rest = joined (map (λ (s : ActionSchema). own_word c s.name ∷ param_words c.hddl.names s.params ++ formula_words c.hddl.names s.pre ++ effect_words c.hddl.names s.eff) ss) in
      let e = named-name (own_word c s.name) names (each-left (Has names) words rest h).0 in
      let r = sources-named (suc k) ss (each-right (Has names) words rest h) in
      λ i. e i ∷ r i

  pub actions-named : map (λ (a : ActionSchema). named names a.name) (encoded_actions c names b style) ≡ action_names
  actions-named =
      let ms = encoded_methods c names b style 0 c.methods in
      let cs = encoded_checks c names b style 0 c.methods in
      let ss = encoded_source c names b style 0 c.hddl.actions in
      let e = methods-named 0 c.methods (known_methods c b names has) in
      let f = checks-named 0 c.methods (known_checks c b names has) in
      let g = sources-named 0 c.hddl.actions (known_source_actions c b names has) in
      map-append nm (ms ++ cs) ss ∙ (λ i. (map-append nm ms cs ∙ (λ j. e j ++ f j)) i ++ g i)

  module _ (mode : Checks) (compiled : IsCompiled c.hddl mode c) (top_free : c.hddl.top.pre ≡ And []) where
    abbrev other_word : MethodPlan → Word
    other_word plan = codes "htn_m_" ++ own_word c plan.schema.name

    abbrev old_word : MethodPlan → Word
    old_word plan = named c.hddl.names plan.schema.name

    from_others : (k : ℕ) (plans : List MethodPlan) → names_from (suc k) plans ≡ map other_word plans
    from_others k [] = refl
    from_others k (plan ∷ plans) = ap (λ z. other_word plan ∷ z) (from_others (suc k) plans)

    methods_are : (P : List Word → Type 0) → ((plans : List MethodPlan) → map old_word plans ≡ old_words c.hddl → P (codes "htn_start" ∷ map other_word plans)) → P (names_from 0 c.methods)
    methods_are P h = go c.methods refl compiled.methods
      where
        go : (plans : List MethodPlan) → c.methods ≡ plans → AreMethodPlans c.hddl mode (c.hddl.top ∷ c.hddl.methods) plans → P (names_from 0 plans)
        go [] e a = absurd a
        go (p ∷ ps) e a = subst (λ z. P (codes "htn_start" ∷ z)) (sym (from_others 0 ps)) (h ps (others_named c mode compiled sound p ps e))

    methods_plain : EachIs IsPlain (names_from 0 c.methods)
    methods_plain = methods_are (EachIs IsPlain) (λ plans e. (
      (refl, refl),
      each-map IsPlain other_word plans (λ p m. plain-behind (codes "htn_m_") (own_word c p.schema.name) refl refl (plain-escaped (old_word p) (each-has (λ (p : MethodPlan). IsPlain (old_word p)) plans p (each-of_map IsPlain old_word plans (subst (EachIs IsPlain) (sym e) sound.methods_named)) m)).0),
    ))

    methods_below : AreBelow action_rank 5 (names_from 0 c.methods)
    methods_below = methods_are (AreBelow action_rank 5) (λ plans e. record {
      different = (
        each-lacks (map other_word plans) (codes "htn_start") (each-map (λ u. codes "htn_start" ≡ u → ⊥) other_word plans (λ p m f. (let g : 3 ≡ 4 = ap action_rank f in omega arith))),
        different-by old_word other_word plans (λ x y h k f. escaped-once (old_word x) (old_word y) (ap (drop 6) f)) (subst AreDifferent (sym e) sound.methods_differ),
      );
      below = (omega arith, each-map (λ w. action_rank w < 5) other_word plans (λ p m. omega arith));
    })

    plain : EachIs IsPlain action_names
    plain =
        each-join IsPlain (names_from 0 c.methods ++ check_names) source_names
        (each-join IsPlain (names_from 0 c.methods) check_names methods_plain
        (each-map IsPlain check_word (checked_methods c) (λ p m. plain-behind (codes "htn_c_") (own_word c p.schema.name) refl refl (plain-escaped (old_word p) (each-has (λ (p : MethodPlan). IsPlain (old_word p)) (checked_methods c) p (checks_plain c mode compiled sound top_free) m)).0)))
        (each-map IsPlain (λ (s : ActionSchema). own_word c s.name) c.hddl.actions (λ s m. action_plain c names b sound has s m))

    pub actions_plain : EachIs IsPlain (map (λ (a : ActionSchema). named names a.name) (encoded_actions c names b style))
    actions_plain = subst (EachIs IsPlain) (sym actions-named) plain

    differ : AreDifferent action_names
    differ = different-ranks action_rank 7 11 (names_from 0 c.methods ++ check_names) source_names
        (below-join action_rank 5 7 (names_from 0 c.methods) check_names (omega arith) methods_below (check_names_differ c names b sound has mode compiled top_free) (between-map action_rank 5 7 6 check_word (checked_methods c) (λ p m. refl) (omega arith) (omega arith)))
        (different-by (λ (s : ActionSchema). named c.hddl.names s.name) (λ (s : ActionSchema). own_word c s.name) c.hddl.actions (λ s t h k e. escaped-once (named c.hddl.names s.name) (named c.hddl.names t.name) e) (actions_differ_behind c names b sound has mode compiled top_free))
        (between-map action_rank 7 11 10 (λ (s : ActionSchema). own_word c s.name) c.hddl.actions (λ s m. ap (λ k. 10 - k) (rank-escaped (named c.hddl.names s.name))) (omega arith) (omega arith))

    pub actions_differ : AreDifferent (map (λ (a : ActionSchema). named names a.name) (encoded_actions c names b style))
    actions_differ = subst AreDifferent (sym actions-named) differ
