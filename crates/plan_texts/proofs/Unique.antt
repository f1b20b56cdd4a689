-- What the sections of a domain and of a problem decide.
use Rattle.std.proofs.Common.{ℕ, ◌≡◌, ◌⊎◌, ◌↔◌, Bool, true, false, List, [], ◌∷◌, ◌++◌, map, codes, Option, refl, ap, ap₂, sym, subst, ◌∙◌}
use Rattle.text_forms.specs.Lists.{Part, Parts, nothing, part}
use Rattle.text_forms.specs.Words.{Word, word_at}
use Rattle.plan_texts.specs.Declared.{Declared, variable, named}
use Rattle.plan_texts.specs.TypedLists.{Each, EachTyped}
use Rattle.plan_texts.specs.Formulas.{IsParam}
use Rattle.plan_texts.specs.Said.{Typed, typed, said, done}
use Rattle.plan_texts.specs.Sections.{found, section, one_in, parameters, precondition, effect}
use Rattle.text_forms.specs.Printing.{definition}
use Rattle.plan_texts.specs.Domains.{Domain, domain_words, Problem, AreDomainSections, AreProblemSections, AreDefinitions}
use Rattle.plan_texts.specs.Types.{Has, TypeItem, IsTypeItem, Mentions, IsPairSaid, IsPairOf, AreTypes}
use Rattle.plan_texts.specs.Schemas.{AreParams, IsObject, IsPredicate, IsAction, IsFact}
use Rattle.plan_texts.specs.Alike.{object_said, predicate_said, action_said}
use Rattle.plan_model.specs.declared.terms.Term.TheVariants.{Obj}
use Rattle.plan_model.specs.declared.terms.Param.{Param}
use Rattle.plan_model.specs.declared.types.Parent.{Parent}
use Rattle.plan_model.specs.declared.types.Object.{Object}
use Rattle.plan_model.specs.declared.schemas.Predicate.{Predicate}
use Rattle.plan_model.specs.declared.schemas.ActionSchema.{ActionSchema}
use Rattle.plan_model.specs.declared.terms.GroundAtom.{GroundAtom}
use Rattle.text_forms.proofs.OneNesting.{one_part}
use Rattle.plan_texts.proofs.Basics.{items}
use Rattle.plan_texts.proofs.Readings.{param_said, terms_said, reading, terms-said, params-said, scope-said, formula-said}
use Rattle.plan_texts.proofs.Effects.{effect-said, reading as effect_reading}

pub same-each : {X X' Y : Type 0} (Is : X → Part → Type 0) (Is' : X' → Part → Type 0) (view : X → Y) (view' : X' → Y) → ((x : X) (x' : X') (p : Part) → Is x p → Is' x' p → view x ≡ view' x') → (xs : List X) (xs' : List X') (ps : Parts) → Each Is xs ps → Each Is' xs' ps → map view xs ≡ map view' xs'
same-each Is Is' view view' h [] [] ps e e' = refl
same-each Is Is' view view' h [] (x ∷ xs) nothing e e' = absurd e'
same-each Is Is' view view' h [] (x ∷ xs) (part p ps) e e' = absurd e
same-each Is Is' view view' h (x ∷ xs) [] nothing e e' = absurd e
same-each Is Is' view view' h (x ∷ xs) [] (part p ps) e e' = absurd e'
same-each Is Is' view view' h (x ∷ xs) (x' ∷ xs') nothing e e' = absurd e
same-each Is Is' view view' h (x ∷ xs) (x' ∷ xs') (part p ps) e e' = ap₂ (λ y ys. y ∷ ys) (h x x' p e.0 e'.0) (same-each Is Is' view view' h xs xs' ps e.1 e'.1)

pub same-typed : {X X' Y : Type 0} (Is : X → Part → Option Part → Type 0) (Is' : X' → Part → Option Part → Type 0) (view : X → Y) (view' : X' → Y) → ((x : X) (x' : X') (p : Part) (o : Option Part) → Is x p o → Is' x' p o → view x ≡ view' x') → (xs : List X) (xs' : List X') (ps : Parts) → EachTyped Is xs ps → EachTyped Is' xs' ps → map view xs ≡ map view' xs'
same-typed Is Is' view view' h [] [] ps e e' = refl
same-typed Is Is' view view' h [] (x ∷ xs) nothing e e' = absurd e'
same-typed Is Is' view view' h [] (x ∷ xs) (part p ps) e e' = absurd e
same-typed Is Is' view view' h (x ∷ xs) [] nothing e e' = absurd e
same-typed Is Is' view view' h (x ∷ xs) [] (part p ps) e e' = absurd e'
same-typed Is Is' view view' h (x ∷ xs) (x' ∷ xs') nothing e e' = absurd e
same-typed Is Is' view view' h (x ∷ xs) (x' ∷ xs') (part p ps) e e' = ap₂ (λ y ys. y ∷ ys) (h x x' p _ e.0 e'.0) (same-typed Is Is' view view' h xs xs' _ e.1 e'.1)

pub map-is : {X : Type 0} (f : X → X) → ((x : X) → f x ≡ x) → (xs : List X) → map f xs ≡ xs
map-is f h [] = refl
map-is f h (x ∷ xs) = ap₂ (λ y ys. y ∷ ys) (h x) (map-is f h xs)

pub map-map : {X Y Z : Type 0} (f : X → Y) (g : Y → Z) (xs : List X) → map (λ x. g (f x)) xs ≡ map g (map f xs)
map-map f g [] = refl
map-map f g (x ∷ xs) = ap (λ t. g (f x) ∷ t) (map-map f g xs)

pub map-append : {X Y : Type 0} (f : X → Y) (xs ys : List X) → map f (xs ++ ys) ≡ map f xs ++ map f ys
map-append f [] ys = refl
map-append f (x ∷ xs) ys = ap (λ t. f x ∷ t) (map-append f xs ys)

same-objects : (xs ys : List ℕ) → map Obj xs ≡ map Obj ys → xs ≡ ys
same-objects [] [] e = refl
same-objects [] (y ∷ ys) e = cc
same-objects (x ∷ xs) [] e = cc
same-objects (x ∷ xs) (y ∷ ys) e = let f : map Obj xs ≡ map Obj ys = cc in let g = same-objects xs ys f in cc

module _ (v w : Declared) where
  pub same-object : (b : Bool) (x y : Object) (p : Part) (o : Option Part) → IsObject v b x p o → IsObject w b y p o → object_said v x ≡ object_said w y
  same-object b x y p o e f = let a = e.0 in let b' = f.0 in let c = e.2.0 in let d = f.2.0 in let g = e.3 in let h = f.3 in
      let i : named v.names x.name ≡ named w.names y.name = cc in
      let j : word_at v.types x.ty ≡ word_at w.types y.ty = cc in
      let k : x.constant ≡ y.constant = cc in
      λ n. (i n, j n, k n)

  pub same-params : (xs ys : List Param) (ps : Parts) → EachTyped (IsParam v) xs ps → EachTyped (IsParam w) ys ps → map (typed v) xs ≡ map (typed w) ys
  same-params xs ys ps e f = params-said v xs ps e ∙ sym (params-said w ys ps f)

  -- the typed variables of a schema, and their words
  pub same-parameters : (xs ys : List Param) (p q : Part) → p ≡ q → AreParams v xs p → AreParams w ys q → (map (typed v) xs ≡ map (typed w) ys) × (map (variable v) xs ≡ map (variable w) ys)
  same-parameters xs ys p q g e f =
      let a = e.1 in let b = f.1 in
      let k : e.0 ≡ f.0 = cc in
      (same-params xs ys f.0 (subst (EachTyped (IsParam v) xs) k e.2) f.2, scope-said v xs e.0 e.2 ∙ ap (λ t. map (λ (z : Typed). z.0) (map param_said (items t))) k ∙ sym (scope-said w ys f.0 f.2))

  pub same-predicate : (x y : Predicate) (p : Part) → IsPredicate v x p → IsPredicate w y p → predicate_said v x ≡ predicate_said w y
  same-predicate x y p e f =
      let a = e.1 in let b = f.1 in
      let i : named v.names x.name ≡ named w.names y.name = cc in
      let j : e.0 ≡ f.0 = cc in
      let k = same-params x.params y.params f.0 (subst (EachTyped (IsParam v) x.params) j e.3) f.3 in
      λ n. (i n, k n)

  module _ (same_objects : v.objects ≡ w.objects) (same_predicates : v.predicates ≡ w.predicates) where
    pub same-action : (x y : ActionSchema) (p : Part) → IsAction v x p → IsAction w y p → action_said v x ≡ action_said w y
    same-action x y p e f =
        let a = e.is in let b = f.is in
        let i : named v.names x.name ≡ named w.names y.name = cc in
        let j : e.entries ≡ f.entries = cc in
        let (l, s) = same-parameters x.params y.params _ _ (ap (found parameters) j) e.params f.params in
        let m : said v x.pre ≡ said w y.pre =
        sym (formula-said v x.pre _ _ e.pre) ∙ (λ n. reading (same_objects n) (same_predicates n) (s n) (found precondition (j n))) ∙ formula-said w y.pre _ _ f.pre in
        let o : done v x.eff ≡ done w y.eff =
        sym (effect-said v x.eff _ _ e.eff) ∙ (λ n. effect_reading (same_objects n) (same_predicates n) (s n) (found effect (j n))) ∙ effect-said w y.eff _ _ f.eff in
        λ n. (i n, l n, m n, o n)

    pub same-fact : (x y : GroundAtom) (p : Part) → IsFact v x p → IsFact w y p → x ≡ y
    same-fact x y p e f =
        let a = e.2 in let b = f.2 in let a' = e.4 in let b' = f.4 in
        let i : e.0 ≡ f.0 = cc in
        let j : e.1 ≡ f.1 = cc in
        let k : x.predicate ≡ y.predicate = cc in
        let l : map Obj x.args ≡ map Obj y.args = sym (terms-said v [] (map Obj x.args) e.1 e.5) ∙ (λ n. terms_said (same_objects n) (same_predicates n) [] (j n)) ∙ terms-said w [] (map Obj y.args) f.1 f.5 in
        let m = same-objects x.args y.args l in
        λ n. record { predicate = k n; args = m n }

pub same-item : (x y : TypeItem) (p : Part) (o : Option Part) → IsTypeItem x p o → IsTypeItem y p o → x ≡ y
same-item x y p o g h =
    let a = g.0 in let b = h.0 in let a' = g.2 in let b' = h.2 in
    let i : x.0 ≡ y.0 = cc in let j : x.1 ≡ y.1 = cc in λ n. (i n, j n)

-- one list of types has the words and the pairs of each value that it spells
module _ (types types' : List Word) (parents parents' : List Parent) (ps : Parts) (e : AreTypes types parents ps) (f : AreTypes types' parents' ps) where
  same_items : e.items ≡ f.items
  same_items = sym (map-is (λ x. x) (λ x. refl) e.items) ∙ same-typed IsTypeItem IsTypeItem (λ x. x) (λ x. x) same-item e.items f.items ps e.spelled f.spelled ∙ map-is (λ x. x) (λ x. refl) f.items

  pub same-words : (u : Word) → Has types u ↔ Has types' u
  same-words u =
      let a = e.same_words u in let b = subst (λ xs. Has types' u ↔ ((u ≡ codes "object") ⊎ Mentions xs u)) (sym same_items) (f.same_words u) in
      (λ x. b.1 (a.0 x), λ x. a.1 (b.0 x))

  pub same-pairs : (u t : Word) → IsPairOf types parents u t ↔ IsPairOf types' parents' u t
  same-pairs u t =
      let a = e.same_pairs u t in let b = subst (λ xs. IsPairOf types' parents' u t ↔ IsPairSaid xs u t) (sym same_items) (f.same_pairs u t) in
      (λ x. b.1 (a.0 x), λ x. a.1 (b.0 x))

-- the sections of a domain decide what it declares
module _ (many : List Word) (c d : Domain) (sections : Parts) (e : AreDomainSections many c sections) (f : AreDomainSections many d sections) where
  abbrev v : Declared
  v = domain_words c

  abbrev w : Declared
  w = domain_words d

  pub constants-said : map (object_said v) c.constants ≡ map (object_said w) d.constants
  constants-said = same-typed (IsObject v true) (IsObject w true) (object_said v) (object_said w) (same-object v w true) c.constants d.constants _ e.constants_spelled f.constants_spelled

  pub same_constants : v.objects ≡ w.objects
  same_constants = map-map (object_said v) (λ t. t.0) c.constants ∙ ap (map (λ t. t.0)) constants-said ∙ sym (map-map (object_said w) (λ t. t.0) d.constants)

  pub predicates-said : map (predicate_said v) c.predicates ≡ map (predicate_said w) d.predicates
  predicates-said = same-each (IsPredicate v) (IsPredicate w) (predicate_said v) (predicate_said w) (same-predicate v w) c.predicates d.predicates _ e.predicates f.predicates

  pub same_predicates : v.predicates ≡ w.predicates
  same_predicates = map-map (predicate_said v) (λ t. t.0) c.predicates ∙ ap (map (λ t. t.0)) predicates-said ∙ sym (map-map (predicate_said w) (λ t. t.0) d.predicates)

  pub actions-said : map (action_said v) c.actions ≡ map (action_said w) d.actions
  actions-said = same-each (IsAction v) (IsAction w) (action_said v) (action_said w) (same-action v w same_constants same_predicates) c.actions d.actions _ e.actions f.actions

-- and those of a problem what it declares, where the domain's part is said alike
module _ (once : List Word) (v w : Declared) (c d : Problem) (sections : Parts) (e : AreProblemSections once v c sections) (f : AreProblemSections once w d sections) where
  pub others-said : map (object_said v) c.objects ≡ map (object_said w) d.objects
  others-said = same-typed (IsObject v false) (IsObject w false) (object_said v) (object_said w) (same-object v w false) c.objects d.objects _ e.others_spelled f.others_spelled

  -- all objects are the constants and the problem's own
  pub objects-said : (xs ys xs' ys' : List Object) → xs ≡ xs' ++ c.objects → ys ≡ ys' ++ d.objects → map (object_said v) xs' ≡ map (object_said w) ys' → map (object_said v) xs ≡ map (object_said w) ys
  objects-said xs ys xs' ys' g h a = ap (map (object_said v)) g ∙ map-append (object_said v) xs' c.objects ∙ (λ n. a n ++ others-said n) ∙ sym (map-append (object_said w) ys' d.objects) ∙ sym (ap (map (object_said w)) h)

  module _ (same_objects : v.objects ≡ w.objects) (same_predicates : v.predicates ≡ w.predicates) where
    pub init-said : c.init ≡ d.init
    init-said = sym (map-is (λ x. x) (λ x. refl) c.init) ∙ same-each (IsFact v) (IsFact w) (λ x. x) (λ x. x) (same-fact v w same_objects same_predicates) c.init d.init _ e.init f.init ∙ map-is (λ x. x) (λ x. refl) d.init

    pub goal-said : said v c.goal ≡ said w d.goal
    goal-said = sym (formula-said v c.goal _ _ e.goal) ∙ (λ n. reading (same_objects n) (same_predicates n) [] (one_in (section (codes ":goal") sections))) ∙ formula-said w d.goal _ _ f.goal

same_definition : (k u w : Word) (ps qs : Parts) → definition k u ps ≡ definition k w qs → (u ≡ w) × (ps ≡ qs)
same_definition k u w ps qs e = (cc, cc)

-- two texts decide the names and the sections of a domain and of a problem
pub same_definitions : (domain problem : List ℕ) (c d c' d' : Word) (e : AreDefinitions domain problem c d) (f : AreDefinitions domain problem c' d')
    → (c ≡ c') × (d ≡ d') × (e.domain_sections ≡ f.domain_sections) × (e.problem_sections ≡ f.problem_sections)
same_definitions domain problem c d c' d' e f =
    let a = same_definition _ _ _ _ _ (one_part _ _ (sym e.domain_is ∙ f.domain_is)) in
    let b = same_definition _ _ _ _ _ (one_part _ _ (sym e.problem_is ∙ f.problem_is)) in
    (a.0, b.0, a.1, b.1)
