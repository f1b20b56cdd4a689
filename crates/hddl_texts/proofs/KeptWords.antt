-- What is sound in some words is sound where more words stand, and prints the same.
use Rattle.std.proofs.Common.{ℕ, ◌≡◌, ◌<◌, true, List, [], ◌∷◌, ◌++◌, map, length, get_or, codes, refl, ap, sym, subst, ◌∙◌}
use Rattle.text_forms.specs.Lists.{Part, Parts, name, group, nothing, part}
use Rattle.text_forms.specs.Words.{Word, is_variable, word_at}
use Rattle.text_forms.specs.Printing.{headed}
use Rattle.htn_base.specs.declared.name.Name.{Name}
use Rattle.htn_base.specs.Different.{AreDifferent}
use Rattle.plan_texts.specs.Declared.{Declared, one_word, named, kinds, variable}
use Rattle.plan_texts.specs.Types.{EachIs}
use Rattle.plan_texts.specs.Printed.{all_parts, typed_parts, term_part, applied_part, param_words, params_parts, formula_part_step, formula_part, effect_part_step, effect_part}
use Rattle.plan_texts.specs.Printable.{IsPlainVariable, IsInForce, IsSoundAtom, IsSoundParam, AreSoundParams, sound_step, IsSound, sound_effect_step, IsSoundEffect}
use Rattle.plan_model.specs.declared.terms.Term.{Term}
use Rattle.plan_model.specs.declared.terms.Term.TheVariants.{Var, Obj}
use Rattle.plan_model.specs.declared.terms.Param.{Param}
use Rattle.plan_model.specs.declared.formulas.Formula.{Formula, roll-Formula}
use Rattle.plan_model.specs.declared.formulas.Formula.TheFolds.{map-Formula, ind-Formula}
use Rattle.plan_model.specs.declared.formulas.Formula.TheOpen.{Formula-F}
use Rattle.plan_model.specs.declared.effects.Effect.{Effect, roll-Effect}
use Rattle.plan_model.specs.declared.effects.Effect.TheFolds.{map-Effect, ind-Effect}
use Rattle.plan_model.specs.declared.effects.Effect.TheOpen.{Effect-F}
use Rattle.plan_texts.proofs.Spelled.{sound_roll, part_roll}
use Rattle.plan_texts.proofs.SpelledEffects.{sound_roll as effect-sound_roll, effect-part_roll}

-- each word of the first words is the same in the second, which may have more
pub record Keeps (w u : Declared) : Type 0 where
  pub names : (n : Name) → (named w.names n ≡ [] → ⊥) → named u.names n ≡ named w.names n
  pub types : u.types ≡ w.types
  pub unions : u.unions ≡ w.unions
  pub predicates : u.predicates ≡ w.predicates
  pub objects : (o : ℕ) → o < length w.objects → (o < length u.objects) × (word_at u.objects o ≡ word_at w.objects o)

pub not-empty : (w : Word) → is_variable w ≡ true → w ≡ [] → ⊥
not-empty [] e f = cc
not-empty (b ∷ w) e f = cc

quantified : (k : Word) {ps qs : Parts} {p q : Part} → ps ≡ qs → p ≡ q → headed k (part (group ps) (part p nothing)) ≡ headed k (part (group qs) (part q nothing))
quantified k e f = λ i. headed k (part (group (e i)) (part (f i) nothing))

module _ (w u : Declared) (keeps : Keeps w u) (arities : List ℕ) where
  pub same-kinds : kinds u ≡ kinds w
  same-kinds = λ i. map one_word (keeps.types i) ++ keeps.unions i

  pub same-variable : (x : Param) → IsPlainVariable (variable w x) → variable u x ≡ variable w x
  same-variable x p = keeps.names x.name (not-empty (variable w x) p.1)

  kept-param : (x : Param) → IsSoundParam w arities x → IsSoundParam u arities x
  kept-param x p = (subst IsPlainVariable (sym (same-variable x p.0)) p.0, subst (λ ks. x.ty < length ks) (sym same-kinds) p.1)

  pub kept-each_param : (xs : List Param) → EachIs (IsSoundParam w arities) xs → EachIs (IsSoundParam u arities) xs
  kept-each_param [] e = tt
  kept-each_param (x ∷ xs) e = (kept-param x e.0, kept-each_param xs e.1)

  pub same-variables : (xs : List Param) → EachIs (IsSoundParam w arities) xs → map (variable u) xs ≡ map (variable w) xs
  same-variables [] e = refl
  same-variables (x ∷ xs) e = λ i. same-variable x e.0.0 i ∷ same-variables xs e.1 i

  pub kept-params : (xs : List Param) → AreSoundParams w arities xs → AreSoundParams u arities xs
  kept-params xs e = (kept-each_param xs e.0, subst AreDifferent (sym (same-variables xs e.0)) e.1)

  same-words : (xs : List Param) → EachIs (IsSoundParam w arities) xs → map (param_words u) xs ≡ map (param_words w) xs
  same-words [] e = refl
  same-words (x ∷ xs) e = λ i. (63 ∷ same-variable x e.0.0 i, get_or (same-kinds i) x.ty []) ∷ same-words xs e.1 i

  pub same-params : (xs : List Param) → EachIs (IsSoundParam w arities) xs → params_parts u xs ≡ params_parts w xs
  same-params xs e = ap typed_parts (same-words xs e)

  pub kept-term : (scope : List Word) (t : Term) → IsInForce w arities scope t → IsInForce u arities scope t × (term_part u scope t ≡ term_part w scope t)
  kept-term scope (Var k) e = (e, refl)
  kept-term scope (Obj o) e = let k = keeps.objects o e in (k.0, ap name k.1)

  pub kept-terms : (scope : List Word) (ts : List Term) → EachIs (IsInForce w arities scope) ts → EachIs (IsInForce u arities scope) ts × (map (term_part u scope) ts ≡ map (term_part w scope) ts)
  kept-terms scope [] e = (tt, refl)
  kept-terms scope (t ∷ ts) e = let g = kept-term scope t e.0 in let h = kept-terms scope ts e.1 in ((g.0, h.0), λ i. g.1 i ∷ h.1 i)

  pub kept-atom : (scope : List Word) (n : ℕ) (ts : List Term) → IsSoundAtom w arities scope n ts → IsSoundAtom u arities scope n ts × (applied_part u scope n ts ≡ applied_part w scope n ts)
  kept-atom scope n ts e =
      let g = kept-terms scope ts e.2 in
      ((subst (λ (ps : List Word). n < length ps) (sym keeps.predicates) e.0, e.1, g.0), λ i. headed (word_at (keeps.predicates i) n) (all_parts (g.1 i)))

  abbrev Claim : Formula → Type 0
  Claim f = (scope : List Word) → IsSound w arities f scope → IsSound u arities f scope × (formula_part u f scope ≡ formula_part w f scope)

  abbrev Layer : Formula-F Formula → Type 0
  Layer x = (scope : List Word) → sound_step w arities (IsSound w arities) x scope
      → sound_step u arities (IsSound u arities) x scope × (formula_part_step u (map-Formula Formula (List Word → Part) (formula_part u) x) scope ≡ formula_part_step w (map-Formula Formula (List Word → Part) (formula_part w) x) scope)

  each : (fs : List ((f : Formula) × Claim f)) (scope : List Word) → EachIs (λ f. IsSound w arities f scope) (map (λ e. e.0) fs)
      → EachIs (λ f. IsSound u arities f scope) (map (λ e. e.0) fs) × (map (λ f. f scope) (map (formula_part u) (map (λ e. e.0) fs)) ≡ map (λ f. f scope) (map (formula_part w) (map (λ e. e.0) fs)))
  each [] scope e = (tt, refl)
  each (f ∷ fs) scope e = let g = f.1 scope e.0 in let h = each fs scope e.1 in ((g.0, h.0), λ i. g.1 i ∷ h.1 i)

  level : (y : Formula-F ((f : Formula) × Claim f)) → Layer (map-Formula ((f : Formula) × Claim f) Formula (λ e. e.0) y)
  level (Formula-F.Holds a) scope e = kept-atom scope a.predicate a.args e
  level (Formula-F.Equal s t) scope e =
      let g = kept-term scope s e.0 in let h = kept-term scope t e.1 in
      ((g.0, h.0), λ i. headed (codes "=") (part (g.1 i) (part (h.1 i) nothing)))
  level (Formula-F.Not f) scope e = let g = f.1 scope e in (g.0, λ i. headed (codes "not") (part (g.1 i) nothing))
  level (Formula-F.And fs) scope e = let g = each fs scope e in (g.0, λ i. headed (codes "and") (all_parts (g.1 i)))
  level (Formula-F.Or fs) scope e = let g = each fs scope e in (g.0, λ i. headed (codes "or") (all_parts (g.1 i)))
  level (Formula-F.Imply f g) scope e =
      let h = f.1 scope e.0 in let k = g.1 scope e.1 in
      ((h.0, k.0), λ i. headed (codes "imply") (part (h.1 i) (part (k.1 i) nothing)))
  level (Formula-F.Forall xs f) scope e =
      let s = same-variables xs e.0.0 in let g = f.1 (scope ++ map (variable w) xs) e.1 in
      ((kept-params xs e.0, subst (λ vs. IsSound u arities f.0 (scope ++ vs)) (sym s) g.0), quantified (codes "forall") (same-params xs e.0.0) (ap (λ vs. formula_part u f.0 (scope ++ vs)) s ∙ g.1))
  level (Formula-F.Exists xs f) scope e =
      let s = same-variables xs e.0.0 in let g = f.1 (scope ++ map (variable w) xs) e.1 in
      ((kept-params xs e.0, subst (λ vs. IsSound u arities f.0 (scope ++ vs)) (sym s) g.0), quantified (codes "exists") (same-params xs e.0.0) (ap (λ vs. formula_part u f.0 (scope ++ vs)) s ∙ g.1))

  pub kept-formula : (f : Formula) → Claim f
  kept-formula = ind-Formula Claim (λ x y is. subst (λ z. Claim (roll-Formula z)) is (claim (map-Formula ((f : Formula) × Claim f) Formula (λ e. e.0) y) (level y)))
    where
      claim : (x : Formula-F Formula) → Layer x → Claim (roll-Formula x)
      claim x h scope e =
          let g = h scope (subst (λ (z : List Word → Type 0). z scope) (sound_roll w arities x) e) in
          (subst (λ (z : List Word → Type 0). z scope) (sym (sound_roll u arities x)) g.0, ap (λ (z : List Word → Part). z scope) (part_roll u arities x) ∙ (g.1 ∙ ap (λ (z : List Word → Part). z scope) (sym (part_roll w arities x))))

  abbrev Effect_claim : Effect → Type 0
  Effect_claim f = (scope : List Word) → IsSoundEffect w arities f scope → IsSoundEffect u arities f scope × (effect_part u f scope ≡ effect_part w f scope)

  abbrev Effect_layer : Effect-F Effect → Type 0
  Effect_layer x = (scope : List Word) → sound_effect_step w arities (IsSoundEffect w arities) x scope
      → sound_effect_step u arities (IsSoundEffect u arities) x scope × (effect_part_step u (map-Effect Effect (List Word → Part) (effect_part u) x) scope ≡ effect_part_step w (map-Effect Effect (List Word → Part) (effect_part w) x) scope)

  each_effect : (fs : List ((f : Effect) × Effect_claim f)) (scope : List Word) → EachIs (λ f. IsSoundEffect w arities f scope) (map (λ e. e.0) fs)
      → EachIs (λ f. IsSoundEffect u arities f scope) (map (λ e. e.0) fs) × (map (λ f. f scope) (map (effect_part u) (map (λ e. e.0) fs)) ≡ map (λ f. f scope) (map (effect_part w) (map (λ e. e.0) fs)))
  each_effect [] scope e = (tt, refl)
  each_effect (f ∷ fs) scope e = let g = f.1 scope e.0 in let h = each_effect fs scope e.1 in ((g.0, h.0), λ i. g.1 i ∷ h.1 i)

  effect-level : (y : Effect-F ((f : Effect) × Effect_claim f)) → Effect_layer (map-Effect ((f : Effect) × Effect_claim f) Effect (λ e. e.0) y)
  effect-level (Effect-F.Add a) scope e = kept-atom scope a.predicate a.args e
  effect-level (Effect-F.Delete a) scope e = let g = kept-atom scope a.predicate a.args e in (g.0, λ i. headed (codes "not") (part (g.1 i) nothing))
  effect-level (Effect-F.And fs) scope e = let g = each_effect fs scope e in (g.0, λ i. headed (codes "and") (all_parts (g.1 i)))
  effect-level (Effect-F.Forall xs f) scope e =
      let s = same-variables xs e.0.0 in let g = f.1 (scope ++ map (variable w) xs) e.1 in
      ((kept-params xs e.0, subst (λ vs. IsSoundEffect u arities f.0 (scope ++ vs)) (sym s) g.0), quantified (codes "forall") (same-params xs e.0.0) (ap (λ vs. effect_part u f.0 (scope ++ vs)) s ∙ g.1))
  effect-level (Effect-F.When f g) scope e =
      let h = kept-formula f scope e.0 in let k = g.1 scope e.1 in
      ((h.0, k.0), λ i. headed (codes "when") (part (h.1 i) (part (k.1 i) nothing)))

  pub kept-effect : (f : Effect) → Effect_claim f
  kept-effect = ind-Effect Effect_claim (λ x y is. subst (λ z. Effect_claim (roll-Effect z)) is (claim (map-Effect ((f : Effect) × Effect_claim f) Effect (λ e. e.0) y) (effect-level y)))
    where
      claim : (x : Effect-F Effect) → Effect_layer x → Effect_claim (roll-Effect x)
      claim x h scope e =
          let g = h scope (subst (λ (z : List Word → Type 0). z scope) (effect-sound_roll w arities x) e) in
          (subst (λ (z : List Word → Type 0). z scope) (sym (effect-sound_roll u arities x)) g.0, ap (λ (z : List Word → Part). z scope) (effect-part_roll u arities x) ∙ (g.1 ∙ ap (λ (z : List Word → Part). z scope) (sym (effect-part_roll w arities x))))
