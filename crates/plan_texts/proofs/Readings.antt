-- One reading of each nested list: what a formula that it spells says. So all formulas that it spells are alike.
use Rattle.std.proofs.Common.{ℕ, ◌≡◌, ◌⊎◌, inl, inr, cond, List, [], ◌∷◌, ◌++◌, map, codes, Option, Some, None, refl, ap, ap₂, sym, subst, ◌∙◌}
use Rattle.std.proofs.lemmas.Bool.{cond-true}
use Rattle.text_forms.specs.Lists.{Part, Parts, name, group, nothing, part}
use Rattle.text_forms.specs.Words.{Word, is_name, first_place, last_place}
use Rattle.std.specs.Str.{bytes_eq}
use Rattle.plan_texts.specs.Declared.{Declared, variable}
use Rattle.plan_texts.specs.TypedLists.{Each, EachTyped, IsEmpty, is_dash, kind_said}
use Rattle.text_forms.specs.Printing.{headed}
use Rattle.plan_texts.specs.Formulas.{IsTerm, IsParam, formula_step, IsFormula}
use Rattle.plan_texts.specs.Said.{Typed, Said, holds, equal, no, all, any, imply, every, some, Saids, none, more, saids, typed, said_step, said}
use Rattle.plan_model.specs.declared.terms.Term.{Term}
use Rattle.plan_model.specs.declared.terms.Term.TheVariants.{Var, Obj}
use Rattle.plan_model.specs.declared.terms.Param.{Param}
use Rattle.plan_model.specs.declared.formulas.Formula.{Formula, roll-Formula}
use Rattle.plan_model.specs.declared.formulas.Formula.TheFolds.{rec-roll-Formula, fold-roll-Formula, map-Formula, ind-Formula}
use Rattle.plan_model.specs.declared.formulas.Formula.TheOpen.{Formula-F}
use Rattle.plan_texts.proofs.Basics.{items, typed-items}

abbrev pub or_zero : Option ℕ → ℕ
or_zero None = 0
or_zero (Some k) = k

abbrev behind_first : Word → Word
behind_first [] = []
behind_first (b ∷ w) = w

abbrev pub word_said : Part → Word
word_said (name w) = w
word_said (group ps) = []

-- an item of a typed list of variables
abbrev pub param_said : Part × Option Part → Typed
param_said x = (behind_first (word_said x.0), kind_said x.1)

abbrev pub first_said : Saids → Said
first_said none = all none
first_said (more s ss) = s

abbrev pub behind : Saids → Saids
behind none = none
behind (more s ss) = ss

abbrev first_term : List Term → Term
first_term [] = Obj 0
first_term (t ∷ ts) = t

abbrev last_terms : List Term → List Term
last_terms [] = []
last_terms (t ∷ ts) = ts

abbrev pub declared : Parts → List Typed
declared (part (group xs) qs) = map param_said (items xs)
declared (part (name w) qs) = []
declared nothing = []

abbrev pub by_keyword : Word → Saids → Said → List Typed → List Term → Said
by_keyword w ss inner xs ts =
    cond (bytes_eq w (codes "and")) (all ss) (cond (bytes_eq w (codes "or")) (any ss) (cond (bytes_eq w (codes "not")) (no (first_said ss))
    (cond (bytes_eq w (codes "imply")) (imply (first_said ss) (first_said (behind ss))) (cond (bytes_eq w (codes "forall")) (every xs inner)
    (cond (bytes_eq w (codes "exists")) (some xs inner) (equal (first_term ts) (first_term (last_terms ts))))))))

module _ (objects : List Word) (predicates : List Word) where
  abbrev pub term_said : List Word → Part → Term
  term_said scope (name w) = cond (is_name w) (Obj (or_zero (first_place w objects))) (Var (or_zero (last_place (behind_first w) scope)))
  term_said scope (group ps) = Obj 0

  abbrev pub terms_said : List Word → Parts → List Term
  terms_said scope nothing = []
  terms_said scope (part p ps) = term_said scope p ∷ terms_said scope ps

  abbrev mutual
    pub reading : List Word → Part → Said
    reading scope (name w) = all none
    reading scope (group nothing) = all none
    reading scope (group (part (group ps) qs)) = all none
    reading scope (group (part (name w) ps)) =
        cond (is_name w) (holds (or_zero (first_place w predicates)) (terms_said scope ps)) (by_keyword w (readings scope ps) (inner scope ps) (declared ps) (terms_said scope ps))

    pub readings : List Word → Parts → Saids
    readings scope nothing = none
    readings scope (part p ps) = more (reading scope p) (readings scope ps)

    pub inner : List Word → Parts → Said
    inner scope nothing = all none
    inner scope (part p nothing) = all none
    inner scope (part (name w) (part q qs)) = all none
    inner scope (part (group xs) (part q qs)) = reading (scope ++ map (λ x. x.0) (map param_said (items xs))) q

pub each-map : {X Y : Type 0} (u : X → Y) (Is : Y → Part → Type 0) (xs : List X) (ps : Parts) → Each (λ x. Is (u x)) xs ps ≡ Each Is (map u xs) ps
each-map u Is [] nothing = refl
each-map u Is [] (part p ps) = refl
each-map u Is (x ∷ xs) nothing = refl
each-map u Is (x ∷ xs) (part p ps) = ap (λ t. Is (u x) p × t) (each-map u Is xs ps)

pub empty-map : {X Y : Type 0} (u : X → Y) (xs : List X) → IsEmpty xs ≡ IsEmpty (map u xs)
empty-map u [] = refl
empty-map u (x ∷ xs) = refl

module _ (v : Declared) where
  natural : (X : Type 0) (u : X → Formula) (k : Formula → List Word → Part → Type 0) (x : Formula-F X) → formula_step v (λ p. k (u p)) x ≡ formula_step v k (map-Formula X Formula u x)
  natural X u k (Formula-F.Holds a) = refl
  natural X u k (Formula-F.Equal s t) = refl
  natural X u k (Formula-F.Not f) = refl
  natural X u k (Formula-F.And fs) = λ i scope p. ((ps : Parts) × (p ≡ headed (codes "and") ps) × each-map u (λ f. k f scope) fs ps i) ⊎ (empty-map u fs i × (p ≡ group nothing))
  natural X u k (Formula-F.Or fs) = λ i scope p. (ps : Parts) × (p ≡ headed (codes "or") ps) × each-map u (λ f. k f scope) fs ps i
  natural X u k (Formula-F.Imply f g) = refl
  natural X u k (Formula-F.Forall xs f) = refl
  natural X u k (Formula-F.Exists xs f) = refl

  -- one level
  pub formula_roll : (x : Formula-F Formula) → IsFormula v (roll-Formula x) ≡ formula_step v (IsFormula v) x
  formula_roll x = rec-roll-Formula (List Word → Part → Type 0) (λ X u k layer. formula_step v k layer) natural x

  pub said_roll : (x : Formula-F Formula) → said v (roll-Formula x) ≡ said_step v (map-Formula Formula Said (said v) x)
  said_roll x = fold-roll-Formula Said (said_step v) x

  pub term-said : (scope : List Word) (t : Term) (p : Part) → IsTerm v scope t p → term_said v.objects v.predicates scope p ≡ t
  term-said scope (Var k) p e = let f = e.1 in let g = e.2 in cc
  term-said scope (Obj o) p e = let f = e.1 in let g = e.2 in let h = e.3 in cc

  pub terms-said : (scope : List Word) (ts : List Term) (ps : Parts) → Each (IsTerm v scope) ts ps → terms_said v.objects v.predicates scope ps ≡ ts
  terms-said scope [] nothing e = refl
  terms-said scope [] (part p ps) e = absurd e
  terms-said scope (t ∷ ts) nothing e = absurd e
  terms-said scope (t ∷ ts) (part p ps) e = let g = term-said scope t p e.0 in let h = terms-said scope ts ps e.1 in cc

  pub params-said : (xs : List Param) (ps : Parts) → EachTyped (IsParam v) xs ps → map (typed v) xs ≡ map param_said (items ps)
  params-said = typed-items (IsParam v) (typed v) param_said (λ x p o e. (ap is_dash e.0, let f = e.0 in let g = e.2.0 in cc))

  pub scope-said : (xs : List Param) (ps : Parts) → EachTyped (IsParam v) xs ps → map (variable v) xs ≡ map (λ x. x.0) (map param_said (items ps))
  scope-said xs ps e = go xs ∙ ap (map (λ (x : Typed). x.0)) (params-said xs ps e)
    where
      go : (ys : List Param) → map (variable v) ys ≡ map (λ (x : Typed). x.0) (map (typed v) ys)
      go [] = refl
      go (y ∷ ys) = ap (λ t. variable v y ∷ t) (go ys)

  abbrev pub Claim : Formula → Type 0
  Claim f = (scope : List Word) (p : Part) → IsFormula v f scope p → reading v.objects v.predicates scope p ≡ said v f

  each-said : (fs : List ((f : Formula) × Claim f)) (scope : List Word) (ps : Parts) → Each (λ f. IsFormula v f scope) (map (λ e. e.0) fs) ps → readings v.objects v.predicates scope ps ≡ saids (map (said v) (map (λ e. e.0) fs))
  each-said [] scope nothing e = refl
  each-said [] scope (part p ps) e = absurd e
  each-said (f ∷ fs) scope nothing e = absurd e
  each-said (f ∷ fs) scope (part p ps) e = let g = f.1 scope p e.0 in let h = each-said fs scope ps e.1 in cc

  level : (y : Formula-F ((f : Formula) × Claim f)) (scope : List Word) (p : Part)
      → formula_step v (IsFormula v) (map-Formula ((f : Formula) × Claim f) Formula (λ e. e.0) y) scope p
      → reading v.objects v.predicates scope p ≡ said_step v (map-Formula Formula Said (said v) (map-Formula ((f : Formula) × Claim f) Formula (λ e. e.0) y))
  level (Formula-F.Holds a) scope p e =
      let f = e.2 in let g = e.4 in
      let h : reading v.objects v.predicates scope (headed e.0 e.1) ≡ holds (or_zero (first_place e.0 v.predicates)) (terms_said v.objects v.predicates scope e.1) = cond-true _ _ _ e.3 in
      let t = terms-said scope a.args e.1 e.5 in
      cc
  level (Formula-F.Equal s t) scope p e =
      ap (reading v.objects v.predicates scope) e.2 ∙ ap₂ equal (term-said scope s e.0 e.3) (term-said scope t e.1 e.4)
  level (Formula-F.Not f) scope p e = ap (reading v.objects v.predicates scope) e.1 ∙ ap no (f.1 scope e.0 e.2)
  level (Formula-F.And fs) scope p (inl e) = ap (reading v.objects v.predicates scope) e.1 ∙ ap all (each-said fs scope e.0 e.2)
  level (Formula-F.And []) scope p (inr e) = let g = e.1 in cc
  level (Formula-F.And (f ∷ fs)) scope p (inr e) = absurd e.0
  level (Formula-F.Or fs) scope p e = ap (reading v.objects v.predicates scope) e.1 ∙ ap any (each-said fs scope e.0 e.2)
  level (Formula-F.Imply f g) scope p e = ap (reading v.objects v.predicates scope) e.2 ∙ ap₂ imply (f.1 scope e.0 e.3) (g.1 scope e.1 e.4)
  level (Formula-F.Forall xs f) scope p e =
      ap (reading v.objects v.predicates scope) e.2 ∙ ap₂ every (sym (params-said xs e.0 e.3))
      (ap (λ s. reading v.objects v.predicates (scope ++ s) e.1) (sym (scope-said xs e.0 e.3)) ∙ f.1 (scope ++ map (variable v) xs) e.1 e.4)
  level (Formula-F.Exists xs f) scope p e =
      ap (reading v.objects v.predicates scope) e.2 ∙ ap₂ some (sym (params-said xs e.0 e.3))
      (ap (λ s. reading v.objects v.predicates (scope ++ s) e.1) (sym (scope-said xs e.0 e.3)) ∙ f.1 (scope ++ map (variable v) xs) e.1 e.4)

  pub formula-said : (f : Formula) → Claim f
  formula-said = ind-Formula Claim (λ x y is. subst (λ z. Claim (roll-Formula z)) is (claim (map-Formula ((f : Formula) × Claim f) Formula (λ e. e.0) y) (level y)))
    where
      claim : (x : Formula-F Formula) → ((scope : List Word) (p : Part) → formula_step v (IsFormula v) x scope p → reading v.objects v.predicates scope p ≡ said_step v (map-Formula Formula Said (said v) x)) → Claim (roll-Formula x)
      claim x h scope p e = h scope p (subst (λ (z : List Word → Part → Type 0). z scope p) (formula_roll x) e) ∙ sym (said_roll x)
