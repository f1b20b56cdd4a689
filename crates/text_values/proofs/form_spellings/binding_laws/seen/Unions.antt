-- The unions that typed lists, formulas and effects write, by the numbers and by the words of their types.
use Rattle.std.proofs.Common.{ℕ, ◌≡◌, ◌<◌, inl, inr, List, [], ◌∷◌, ◌++◌, map, length, refl, sym, ap, subst, ◌∙◌}
use Rattle.std.specs.Prelude.{flat_map}
use Rattle.std.proofs.lemmas.List.{map-append}
use Rattle.htn_base.specs.Different.{AreDifferent}
use Rattle.text_forms.specs.Words.{Word, word_at}
use Rattle.gd_reader.specs.Terms.{Names}
use Rattle.gd_reader.specs.declared.term.RawTerm.{RawTerm}
use Rattle.gd_reader.specs.declared.typed_lists.RawParam.{RawParam}
use Rattle.gd_reader.specs.declared.formulas.RawFormula.{RawFormula, roll-RawFormula}
use Rattle.gd_reader.specs.declared.formulas.RawFormula.TheFolds.{fold-roll-RawFormula, map-RawFormula, ind-RawFormula}
use Rattle.gd_reader.specs.declared.formulas.RawFormula.TheOpen.{RawFormula-F}
use Rattle.gd_reader.specs.declared.effects.RawEffect.{RawEffect, roll-RawEffect}
use Rattle.gd_reader.specs.declared.effects.RawEffect.TheFolds.{fold-roll-RawEffect, map-RawEffect, ind-RawEffect}
use Rattle.gd_reader.specs.declared.effects.RawEffect.TheOpen.{RawEffect-F}
use Rattle.hddl_reader.specs.declared.sections.RawAction.{RawAction}
use Rattle.hddl_reader.specs.declared.sections.RawDomain.{RawDomain}
use Rattle.hddl_reader.specs.declared.sections.RawHead.{RawHead}
use Rattle.hddl_reader.specs.declared.sections.RawMethod.{RawMethod}
use Rattle.hddl_reader.specs.declared.sections.RawProblem.{RawProblem}
use Rattle.plan_texts.specs.TypedLists.{first_seen}
use Rattle.plan_texts.specs.Types.{EachIs}
use Rattle.text_values.specs.form_spellings.Written.{Union, types_unions}
use Rattle.text_values.specs.form_spellings.Written as words
use Rattle.htn_base.specs.Lists.{One}
use Rattle.hddl_reader.specs.names.Standing.{InAction, InMethod, InDomain, InProblem}
use Rattle.hddl_reader.specs.names.Uses.{Scope, declares, IsDeclared, variables, formula_step, InFormula, effect_step, InEffect}
use Rattle.hddl_reader.specs.names.Words.{term_word}
use Rattle.hddl_reader.proofs.names.Rolls.{formula_roll, effect_roll}
use Rattle.name_binding.specs.Kinds.{Kinds, type_number, type_faults, members_written, kind_faults}
use Rattle.name_binding.specs.Unions.{union_at, unions_said, unions_behind, params_unions, joined, formula_unions, effect_unions}
use Rattle.name_binding.specs.Unions as unions
use Rattle.name_binding.specs.declared.unions.Either.{Either}
use Rattle.hddl_bind.specs.WholeUnions.{head_unions, heads_unions, action_unions, actions_unions, method_unions, methods_unions, domain_unions, problem_unions}
use Rattle.text_values.specs.form_spellings.binding_laws.Kinds.{AreTypesOf, AreTermsIn}
use Rattle.text_values.specs.form_spellings.binding_laws.Numbers.{words_of, AreKnown}
use Rattle.text_values.proofs.form_spellings.binding_laws.Mentioned.{known_has, seen_there, same_seen}
use Rattle.text_values.proofs.form_spellings.binding_laws.Ones.{has_each, each_both}
use Rattle.text_values.proofs.form_spellings.binding_laws.Written.{none_left, none_right, type_is, types_are}

module _ (names : Names) (d : RawDomain) (kinds : Kinds) (of : AreTypesOf names d kinds) (differ : AreDifferent (words_of names kinds.types)) where
  abbrev W : List Word
  W = words_of names kinds.types

  -- a union in words
  abbrev pub said : Either → Union
  said e = record { at = e.at; is = map (word_at W) e.members }

  abbrev pub IsBelow : ℕ → Type 0
  IsBelow n = n < length W

  abbrev pub IsBounded : Either → Type 0
  IsBounded e = EachIs IsBelow e.members

  -- unions by numbers and in words
  pub record Agree (us : List Either) (vs : List Union) : Type 0 where
    pub same : map said us ≡ vs
    pub known : EachIs IsBounded us

  none : Agree [] []
  none = record { same = refl; known = tt }

  both : (us us' : List Either) (vs vs' : List Union) → Agree us vs → Agree us' vs' → Agree (us ++ us') (vs ++ vs')
  both us us' vs vs' a b = record { same = map-append said us us' ∙ (λ i. a.same i ++ b.same i); known = each_both IsBounded us us' a.known b.known }

  -- written types without faults
  abbrev pub AreTypes : List RawTerm → Type 0
  AreTypes ts = AreTermsIn names ts × (kind_faults kinds ts ≡ [])

  numbers_below : (ts : List RawTerm) → AreTypes ts → AreKnown W (map (type_number kinds) ts)
  numbers_below [] k = tt
  numbers_below (t ∷ ts) k = (
    (type_is names d kinds of t k.0.0 (none_left (type_faults kinds t) (kind_faults kinds ts) k.1)).0,
    numbers_below ts (k.0.1, none_right (type_faults kinds t) (kind_faults kinds ts) k.1),
  )

  members_said : (ts : List RawTerm) → AreTypes ts → map (word_at W) (members_written kinds ts) ≡ first_seen [] (map (term_word names) ts)
  members_said ts k = same_seen W [] (map (type_number kinds) ts) differ tt (numbers_below ts k) ∙ ap (first_seen []) (types_are names d kinds of ts k.0 k.1)

  members_below : (ts : List RawTerm) → AreTypes ts → EachIs IsBelow (members_written kinds ts)
  members_below ts k = has_each IsBelow (members_written kinds ts) (λ n h. known_has W (map (type_number kinds) ts) n (numbers_below ts k) (seen_there [] (map (type_number kinds) ts) n h))

  one_union : (at : ℕ) (ms : List ℕ) → EachIs IsBelow ms → Agree (union_at at ms) (words.union_at at (map (word_at W) ms))
  one_union at [] k = none
  one_union at (n ∷ []) k = none
  one_union at (n ∷ m ∷ ns) k = record { same = refl; known = (k, tt) }

  types_agree : (ts : List RawTerm) → AreTypes ts → Agree (unions_said kinds ts) (types_unions names ts)
  types_agree [] k = none
  types_agree (t ∷ ts) k = subst (λ ws. Agree (union_at t.at (members_written kinds (t ∷ ts))) (words.union_at t.at ws)) (members_said (t ∷ ts) k) (one_union t.at (members_written kinds (t ∷ ts)) (members_below (t ∷ ts) k))

  params_agree : (xs : List RawParam) → ((x : RawParam) → IsDeclared xs (declares x) → AreTypes x.ty) → Agree (params_unions kinds xs) (words.params_unions names xs)
  params_agree [] k = none
  params_agree (x ∷ xs) k = both (unions_behind kinds x) (params_unions kinds xs) (types_unions names x.ty) (words.params_unions names xs) (types_agree x.ty (k x (inl refl))) (params_agree xs (λ y i. k y (inr i)))

  -- formulas
  abbrev Claim : RawFormula → Type 0
  Claim f = (outer : Scope) → ((here : Scope) (x : RawParam) → InFormula names f outer here (declares x) → AreTypes x.ty) → Agree (formula_unions kinds f) (words.formula_unions names f)

  abbrev Proved : Type 0
  Proved = (f : RawFormula) × Claim f

  abbrev formulas : List Proved → List RawFormula
  formulas fs = map (λ e. e.0) fs

  abbrev opened : RawFormula-F Proved → RawFormula-F RawFormula
  opened y = map-RawFormula Proved RawFormula (λ e. e.0) y

  abbrev Level : RawFormula-F RawFormula → Type 0
  Level y = (outer : Scope) → ((here : Scope) (x : RawParam) → formula_step names (InFormula names) y outer here (declares x) → AreTypes x.ty)
      → Agree (unions.formula_step kinds (map-RawFormula RawFormula (List Either) (formula_unions kinds) y)) (words.formula_step names (map-RawFormula RawFormula (List Union) (words.formula_unions names) y))

  many : (fs : List Proved) (outer : Scope) → ((here : Scope) (x : RawParam) → One (λ f. InFormula names f outer here (declares x)) (formulas fs) → AreTypes x.ty)
      → Agree (joined (map (formula_unions kinds) (formulas fs))) (words.joined (map (words.formula_unions names) (formulas fs)))
  many [] outer k = none
  many (f ∷ fs) outer k =
      both (formula_unions kinds f.0) (joined (map (formula_unions kinds) (formulas fs))) (words.formula_unions names f.0) (words.joined (map (words.formula_unions names) (formulas fs)))
      (f.1 outer (λ here x s. k here x (inl s))) (many fs outer (λ here x s. k here x (inr s)))

  level : (y : RawFormula-F Proved) → Level (opened y)
  level (RawFormula-F.Holds a) outer k = none
  level (RawFormula-F.Equal s t) outer k = none
  level (RawFormula-F.Not f) outer k = f.1 outer k
  level (RawFormula-F.And fs) outer k = many fs outer k
  level (RawFormula-F.Or fs) outer k = many fs outer k
  level (RawFormula-F.Imply f g) outer k =
      both (formula_unions kinds f.0) (formula_unions kinds g.0) (words.formula_unions names f.0) (words.formula_unions names g.0) (f.1 outer (λ here x s. k here x (inl s))) (g.1 outer (λ here x s. k here x (inr s)))
  level (RawFormula-F.Forall xs f) outer k =
      both (params_unions kinds xs) (formula_unions kinds f.0) (words.params_unions names xs) (words.formula_unions names f.0)
      (params_agree xs (λ x i. k [] x (inl i))) (f.1 (outer ++ variables names xs) (λ here x s. k here x (inr s)))
  level (RawFormula-F.Exists xs f) outer k =
      both (params_unions kinds xs) (formula_unions kinds f.0) (words.params_unions names xs) (words.formula_unions names f.0)
      (params_agree xs (λ x i. k [] x (inl i))) (f.1 (outer ++ variables names xs) (λ here x s. k here x (inr s)))

  claim : (y : RawFormula-F RawFormula) → Level y → Claim (roll-RawFormula y)
  claim y is outer k =
      subst (λ us. Agree us (words.formula_unions names (roll-RawFormula y))) (sym (fold-roll-RawFormula (List Either) (unions.formula_step kinds) y))
      (subst (Agree (unions.formula_step kinds (map-RawFormula RawFormula (List Either) (formula_unions kinds) y))) (sym (fold-roll-RawFormula (List Union) (words.formula_step names) y))
      (is outer (λ here x s. k here x (formula_roll names y (roll-RawFormula y) refl outer here (declares x) s))))

  formula_agrees : (f : RawFormula) → Claim f
  formula_agrees = ind-RawFormula Claim (λ x y is. subst (λ z. Claim (roll-RawFormula z)) is (claim (opened y) (level y)))

  -- effects
  abbrev EffectClaim : RawEffect → Type 0
  EffectClaim e = (outer : Scope) → ((here : Scope) (x : RawParam) → InEffect names e outer here (declares x) → AreTypes x.ty) → Agree (effect_unions kinds e) (words.effect_unions names e)

  abbrev EffectProved : Type 0
  EffectProved = (e : RawEffect) × EffectClaim e

  abbrev effects : List EffectProved → List RawEffect
  effects es = map (λ e. e.0) es

  abbrev effect_opened : RawEffect-F EffectProved → RawEffect-F RawEffect
  effect_opened y = map-RawEffect EffectProved RawEffect (λ e. e.0) y

  abbrev EffectLevel : RawEffect-F RawEffect → Type 0
  EffectLevel y = (outer : Scope) → ((here : Scope) (x : RawParam) → effect_step names (InEffect names) y outer here (declares x) → AreTypes x.ty)
      → Agree (unions.effect_step kinds (map-RawEffect RawEffect (List Either) (effect_unions kinds) y)) (words.effect_step names (map-RawEffect RawEffect (List Union) (words.effect_unions names) y))

  many_effects : (es : List EffectProved) (outer : Scope) → ((here : Scope) (x : RawParam) → One (λ e. InEffect names e outer here (declares x)) (effects es) → AreTypes x.ty)
      → Agree (joined (map (effect_unions kinds) (effects es))) (words.joined (map (words.effect_unions names) (effects es)))
  many_effects [] outer k = none
  many_effects (e ∷ es) outer k =
      both (effect_unions kinds e.0) (joined (map (effect_unions kinds) (effects es))) (words.effect_unions names e.0) (words.joined (map (words.effect_unions names) (effects es)))
      (e.1 outer (λ here x s. k here x (inl s))) (many_effects es outer (λ here x s. k here x (inr s)))

  effect_level : (y : RawEffect-F EffectProved) → EffectLevel (effect_opened y)
  effect_level (RawEffect-F.Add a) outer k = none
  effect_level (RawEffect-F.Delete a) outer k = none
  effect_level (RawEffect-F.And es) outer k = many_effects es outer k
  effect_level (RawEffect-F.Forall xs e) outer k =
      both (params_unions kinds xs) (effect_unions kinds e.0) (words.params_unions names xs) (words.effect_unions names e.0)
      (params_agree xs (λ x i. k [] x (inl i))) (e.1 (outer ++ variables names xs) (λ here x s. k here x (inr s)))
  effect_level (RawEffect-F.When f e) outer k =
      both (formula_unions kinds f) (effect_unions kinds e.0) (words.formula_unions names f) (words.effect_unions names e.0)
      (formula_agrees f outer (λ here x s. k here x (inl s))) (e.1 outer (λ here x s. k here x (inr s)))

  effect_claim : (y : RawEffect-F RawEffect) → EffectLevel y → EffectClaim (roll-RawEffect y)
  effect_claim y is outer k =
      subst (λ us. Agree us (words.effect_unions names (roll-RawEffect y))) (sym (fold-roll-RawEffect (List Either) (unions.effect_step kinds) y))
      (subst (Agree (unions.effect_step kinds (map-RawEffect RawEffect (List Either) (effect_unions kinds) y))) (sym (fold-roll-RawEffect (List Union) (words.effect_step names) y))
      (is outer (λ here x s. k here x (effect_roll names y (roll-RawEffect y) refl outer here (declares x) s))))

  effect_agrees : (e : RawEffect) → EffectClaim e
  effect_agrees = ind-RawEffect EffectClaim (λ x y is. subst (λ z. EffectClaim (roll-RawEffect z)) is (effect_claim (effect_opened y) (effect_level y)))

  -- schemas
  heads_agree : (hs : List RawHead) → ((x : RawParam) → One (λ (h : RawHead). IsDeclared h.params (declares x)) hs → AreTypes x.ty) → Agree (heads_unions kinds hs) (flat_map (words.head_unions names) hs)
  heads_agree [] k = none
  heads_agree (h ∷ hs) k = both (head_unions kinds h) (heads_unions kinds hs) (words.head_unions names h) (flat_map (words.head_unions names) hs) (params_agree h.params (λ x i. k x (inl i))) (heads_agree hs (λ x s. k x (inr s)))

  action_agrees : (a : RawAction) → ((here : Scope) (x : RawParam) → InAction names a here (declares x) → AreTypes x.ty) → Agree (action_unions kinds a) (words.action_unions names a)
  action_agrees a k =
      both (params_unions kinds a.head.params) (formula_unions kinds a.pre ++ effect_unions kinds a.eff) (words.params_unions names a.head.params) (words.formula_unions names a.pre ++ words.effect_unions names a.eff)
      (params_agree a.head.params (λ x i. k [] x (InAction.parameter i)))
      (both (formula_unions kinds a.pre) (effect_unions kinds a.eff) (words.formula_unions names a.pre) (words.effect_unions names a.eff)
      (formula_agrees a.pre (variables names a.head.params) (λ here x s. k here x (InAction.precondition s))) (effect_agrees a.eff (variables names a.head.params) (λ here x s. k here x (InAction.effect s))))

  actions_agree : (actions : List RawAction) → ((here : Scope) (x : RawParam) → One (λ a. InAction names a here (declares x)) actions → AreTypes x.ty) → Agree (actions_unions kinds actions) (flat_map (words.action_unions names) actions)
  actions_agree [] k = none
  actions_agree (a ∷ actions) k =
      both (action_unions kinds a) (actions_unions kinds actions) (words.action_unions names a) (flat_map (words.action_unions names) actions)
      (action_agrees a (λ here x s. k here x (inl s))) (actions_agree actions (λ here x s. k here x (inr s)))

  method_agrees : (m : RawMethod) → ((here : Scope) (x : RawParam) → InMethod names m here (declares x) → AreTypes x.ty) → Agree (method_unions kinds m) (words.method_unions names m)
  method_agrees m k =
      both (params_unions kinds m.head.params) (formula_unions kinds m.pre) (words.params_unions names m.head.params) (words.formula_unions names m.pre)
      (params_agree m.head.params (λ x i. k [] x (InMethod.parameter i))) (formula_agrees m.pre (variables names m.head.params) (λ here x s. k here x (InMethod.precondition s)))

  methods_agree : (methods : List RawMethod) → ((here : Scope) (x : RawParam) → One (λ m. InMethod names m here (declares x)) methods → AreTypes x.ty) → Agree (methods_unions kinds methods) (flat_map (words.method_unions names) methods)
  methods_agree [] k = none
  methods_agree (m ∷ methods) k =
      both (method_unions kinds m) (methods_unions kinds methods) (words.method_unions names m) (flat_map (words.method_unions names) methods)
      (method_agrees m (λ here x s. k here x (inl s))) (methods_agree methods (λ here x s. k here x (inr s)))

  pub domain_agrees : (r : RawDomain) → ((here : Scope) (x : RawParam) → InDomain names r here (declares x) → AreTypes x.ty) → Agree (domain_unions kinds r) (words.domain_unions names r)
  domain_agrees r k =
      both (heads_unions kinds r.predicates) (heads_unions kinds r.tasks ++ (actions_unions kinds r.actions ++ methods_unions kinds r.methods))
      (flat_map (words.head_unions names) r.predicates) (flat_map (words.head_unions names) r.tasks ++ (flat_map (words.action_unions names) r.actions ++ flat_map (words.method_unions names) r.methods))
      (heads_agree r.predicates (λ x s. k [] x (InDomain.of_predicate s)))
      (both (heads_unions kinds r.tasks) (actions_unions kinds r.actions ++ methods_unions kinds r.methods) (flat_map (words.head_unions names) r.tasks) (flat_map (words.action_unions names) r.actions ++ flat_map (words.method_unions names) r.methods)
      (heads_agree r.tasks (λ x s. k [] x (InDomain.of_task s)))
      (both (actions_unions kinds r.actions) (methods_unions kinds r.methods) (flat_map (words.action_unions names) r.actions) (flat_map (words.method_unions names) r.methods)
      (actions_agree r.actions (λ here x s. k here x (InDomain.action s))) (methods_agree r.methods (λ here x s. k here x (InDomain.method s)))))

  pub problem_agrees : (p : RawProblem) → ((here : Scope) (x : RawParam) → InProblem names p here (declares x) → AreTypes x.ty) → Agree (problem_unions kinds p) (words.problem_unions names p)
  problem_agrees p k =
      both (params_unions kinds p.params) (formula_unions kinds p.goal) (words.params_unions names p.params) (words.formula_unions names p.goal)
      (params_agree p.params (λ x i. k [] x (InProblem.parameter i))) (formula_agrees p.goal [] (λ here x s. k here x (InProblem.goal s)))
