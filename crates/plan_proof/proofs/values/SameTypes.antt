-- Of two values that are the same but for names: which object is in which type, the types of parameters, and what is printed for formulas and effects.
use Rattle.std.proofs.Common.{ℕ, ◌≡◌, ◌<◌, ◌-◌, ◌⊎◌, ◌↔◌, List, [], map, length, get_or, nat_lt, if◌then◌else◌, None, Some, slice_get, ap, sym, subst, ◌∙◌}
use Rattle.std.specs.Prelude.{Any, All, MatchOption}
use Rattle.text_forms.specs.Words.{Word, word_at}
use Rattle.plan_texts.specs.Declared.{Declared, named, kinds, kind_at}
use Rattle.plan_texts.specs.Types.{EachIs}
use Rattle.plan_texts.specs.SpellsHddl.{hddl_words}
use Rattle.plan_texts.specs.Printable.{IsSoundParam, IsSound, IsSoundEffect}
use Rattle.plan_texts.specs.SoundValue.{IsSoundHddl, arities}
use Rattle.plan_texts.specs.Said.{typed, said, done}
use Rattle.plan_texts.specs.Alike.{object_said}
use Rattle.plan_texts.proofs.AlikeLaws.{hddl_symmetric}
use Rattle.plan_texts.proofs.Members.{length-map}
use Rattle.plan_model.specs.Typing.{Leads, union_at, IsPart, IsA, InType}
use Rattle.plan_model.specs.declared.terms.Param.{Param}
use Rattle.plan_model.specs.declared.types.Object.{Object}
use Rattle.plan_model.specs.declared.formulas.Formula.{Formula}
use Rattle.plan_model.specs.declared.effects.Effect.{Effect}
use Rattle.plan_model.specs.declared.values.Hddl.{Hddl}
use Rattle.plan_model.specs.plan_meaning.Compilation.{AsksSomething}
use Rattle.slot_encoding.specs.SourceParts.{source_param, source_formula, source_effect}
use Rattle.slot_encoding.specs.EncodedActions.{is_empty, is_empty_effect}
use Rattle.plan_proof.specs.Same.{AreSameButNames}
use Rattle.plan_texts.proofs.Together.{together-of_maps, together-maps, together-and}
use Rattle.slot_encoding.proofs.places.Places.{each-at-some}
use Rattle.plan_proof.proofs.values.Pairing.{got}
use Rattle.plan_proof.proofs.values.TypeNumbers.{place, AreApart, place-at, word-once, all_apart}
use Rattle.plan_proof.proofs.values.SaidFormulas.{put_param, put, params-put, formula-put, says_nothing, empty-said, said-empty}
use Rattle.plan_proof.proofs.values.SaidEffects.{put_done, effect-put, does_nothing, empty-done}
use Rattle.plan_proof.proofs.values.SameSound.{kinds-same, types-count}

pub same_back : (c d : Hddl) → AreSameButNames c d → AreSameButNames d c
same_back c d same = record { alike = hddl_symmetric c d same.alike; types = sym same.types; parents = sym same.parents; unions = sym same.unions }

module _ (c d : Hddl) (same : AreSameButNames c d) where
  union-same : (ty : ℕ) → union_at c.types ty ≡ union_at d.types ty
  union-same ty = λ i. if nat_lt ty (types-count c d same i) then None else slice_get (same.unions i) (ty - types-count c d same i)

  pub part-same : (a t : ℕ) → IsPart c.types a t ≡ IsPart d.types a t
  part-same a t = λ i. ((t ≡ 0) ⊎ Leads (same.parents i) a t) ⊎ ((ms : List ℕ) × (union-same t i ≡ Some ms) × Any (λ m. (m ≡ 0) ⊎ Leads (same.parents i) a m) ms)

  pub is_a-same : (a t : ℕ) → IsA c.types a t ≡ IsA d.types a t
  is_a-same a t = λ i. MatchOption (union-same a i) (part-same a t i) (λ ms. All (λ m. part-same m t i) ms)

  pub object_type : IsSoundHddl d → (x y : Object) → object_said (hddl_words c) x ≡ object_said (hddl_words d) y → x.ty < length c.types.names → y.ty < length d.types.names → x.ty ≡ y.ty
  object_type sd x y e l m =
      let w = hddl_words d in
      let count = sym (length-map (named d.names) d.types.names) in
      word-once w.types x.ty y.ty sd.words.types_differ (subst (λ z. x.ty < z) (types-count c d same ∙ count) l) (subst (λ z. y.ty < z) count m) (ap (λ z. word_at z x.ty) (sym same.types) ∙ ap (λ z. z.1) e)

  to_in : IsSoundHddl c → IsSoundHddl d → (x t : ℕ) → InType c.types c.objects x t → InType d.types d.objects x t
  to_in sc sd x t (o, is, part) =
      let (y, is', e) = got (object_said (hddl_words d)) (object_said (hddl_words c)) d.objects c.objects (sym same.alike.objects) x o is in
      let l = each-at-some (λ (z : Object). z.ty < length d.types.names) d.objects x y sd.objects is' in
      let m = each-at-some (λ (z : Object). z.ty < length c.types.names) c.objects x o sc.objects is in
      (y, is', subst (λ z. IsPart d.types z t) (object_type sd o y (sym e) m l) (subst (λ (z : Type 0). z) (part-same o.ty t) part))

pub in_same : (c d : Hddl) → AreSameButNames c d → IsSoundHddl c → IsSoundHddl d → (x t : ℕ) → InType c.types c.objects x t ↔ InType d.types d.objects x t
in_same c d same sc sd x t = (to_in c d same sc sd x t, to_in d c (same_back c d same) sd sc x t)

-- what is said of two values
module _ (v w : Declared) where
  pub empty-same : (f g : Formula) → said v f ≡ said w g → is_empty f ≡ is_empty g
  empty-same f g e = (empty-said v f).0 ∙ ap says_nothing e ∙ sym (empty-said w g).0

  pub empty-effect-same : (f g : Effect) → done v f ≡ done w g → is_empty_effect f ≡ is_empty_effect g
  empty-effect-same f g e = empty-done v f ∙ ap does_nothing e ∙ sym (empty-done w g)

  pub counts : (f g : Formula) → said v f ≡ said w g → AsksSomething f → AsksSomething g
  counts f g e n h = n ((empty-said v f).1 ((empty-said v f).0 ∙ ap says_nothing e ∙ ap (λ z. says_nothing (said w z)) h ∙ said-empty w))

module _ (c d : Hddl) (same : AreSameButNames c d) (sc : IsSoundHddl c) (sd : IsSoundHddl d) (apart : AreApart (hddl_words d).unions) where
  abbrev v : Declared
  v = hddl_words c

  abbrev w : Declared
  w = hddl_words d

  abbrev number : List Word → ℕ
  number = place (kinds w)

  right_w : (t : ℕ) → t < length (kinds w) → number (kind_at w t) ≡ t
  right_w = place-at (kinds w) (all_apart w (arities d) sd.words apart)

  right_v : (t : ℕ) → t < length (kinds v) → number (kind_at v t) ≡ t
  right_v = subst (λ ks. (t : ℕ) → t < length ks → place (kinds w) (get_or ks t []) ≡ t) (sym (kinds-same c d same)) right_w

  abbrev type_of : Param → ℕ
  type_of p = p.ty

  pub types-of : (xs ys : List Param) → map (typed v) xs ≡ map (typed w) ys → EachIs (IsSoundParam v (arities c)) xs → EachIs (IsSoundParam w (arities d)) ys → map type_of xs ≡ map type_of ys
  types-of xs ys e s t =
      together-maps type_of type_of (λ x y. (typed v x ≡ typed w y) × IsSoundParam v (arities c) x × IsSoundParam w (arities d) y)
      (λ x y f. sym (right_v x.ty f.1.1) ∙ ap (λ z. number z.1) f.0 ∙ right_w y.ty f.2.1) xs ys
      (together-and (λ x y. typed v x ≡ typed w y) (IsSoundParam v (arities c)) (IsSoundParam w (arities d)) xs ys (together-of_maps (typed v) (typed w) xs ys e) s t)

  module _ (names : List (List ℕ)) where
    pub params-printed : (xs ys : List Param) → map (typed v) xs ≡ map (typed w) ys → EachIs (IsSoundParam v (arities c)) xs → EachIs (IsSoundParam w (arities d)) ys → map (source_param names c.names) xs ≡ map (source_param names d.names) ys
    params-printed xs ys e s t = params-put names number v (arities c) right_v xs s ∙ ap (map (put_param names number)) e ∙ sym (params-put names number w (arities d) right_w ys t)

    pub formula-printed : (front : ℕ) (f g : Formula) (scope scope' : List Word) → said v f ≡ said w g → IsSound v (arities c) f scope → IsSound w (arities d) g scope' → source_formula names c.names front f ≡ source_formula names d.names front g
    formula-printed front f g scope scope' e s t = formula-put names number v (arities c) right_v front f scope s ∙ ap (put names number front) e ∙ sym (formula-put names number w (arities d) right_w front g scope' t)

    pub effect-printed : (front : ℕ) (f g : Effect) (scope scope' : List Word) → done v f ≡ done w g → IsSoundEffect v (arities c) f scope → IsSoundEffect w (arities d) g scope' → source_effect names c.names front f ≡ source_effect names d.names front g
    effect-printed front f g scope scope' e s t = effect-put names number v (arities c) right_v front f scope s ∙ ap (put_done names number front) e ∙ sym (effect-put names number w (arities d) right_w front g scope' t)
