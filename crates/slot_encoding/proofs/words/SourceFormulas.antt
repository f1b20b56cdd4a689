-- A sound source formula is sound behind other variables, in the words of the printed problem.
use Rattle.std.proofs.Common.{ℕ, ◌≡◌, ◌<◌, ◌≤◌, ◌++◌, List, [], ◌∷◌, map, length, slice_index, refl, ap, sym, subst, ◌∙◌, append_assoc, arith}
use Rattle.std.proofs.lemmas.List.{length-map, map-append}
use Rattle.htn_base.specs.Escapes.{escaped}
use Rattle.text_forms.specs.Words.{Word, last_place, word_at}
use Rattle.plan_texts.specs.Declared.{Declared, kinds, variable}
use Rattle.htn_base.specs.Different.{AreDifferent}
use Rattle.plan_texts.specs.Types.{Has, EachIs}
use Rattle.plan_texts.specs.Printable.{IsPlainVariable, IsInForce, IsSoundAtom, IsSoundParam, AreSoundParams, sound_step, IsSound}
use Rattle.plan_texts.proofs.Places.{plain-variable}
use Rattle.plan_texts.proofs.Spelled.{sound_roll}
use Rattle.plan_model.specs.declared.terms.Term.{Term}
use Rattle.plan_model.specs.declared.terms.Term.TheVariants.{Var, Obj}
use Rattle.plan_model.specs.declared.terms.Param.{Param}
use Rattle.plan_model.specs.declared.formulas.Formula.{Formula, roll-Formula}
use Rattle.plan_model.specs.declared.formulas.Formula.TheFolds.{fold-roll-Formula, map-Formula, ind-Formula}
use Rattle.plan_model.specs.declared.formulas.Formula.TheOpen.{Formula-F}
use Rattle.slot_encoding.specs.EncodedNames.{joined}
use Rattle.slot_encoding.specs.SourceParts.{retyped, moved, source_param, formula_layer, source_formula}
use Rattle.slot_encoding.specs.EncodedWords.{param_words, formula_words_step, formula_words}
use Rattle.slot_encoding.proofs.words.Lists.{each-left, each-right, different-by}
use Rattle.slot_encoding.proofs.words.PlainWords.{name-escaped, escaped-once}
use Rattle.slot_encoding.proofs.words.TableWords.{named-name}
use Rattle.slot_encoding.proofs.words.Scopes.{last-behind, last-within, word-behind, word-map, last-map}

-- the words of v, in force in the source, against those of v' in the printed problem
pub record AreExtended (v v' : Declared) (ar ar' : List ℕ) : Type 0 where
  pub objects : length v.objects ≤ length v'.objects
  pub predicates : (n : ℕ) → n < length v.predicates → (n < length v'.predicates) × (slice_index ar' n ≡ slice_index ar n)
  pub types : (t : ℕ) → t < length (kinds v) → retyped t < length (kinds v')

module _ (v v' : Declared) (ar ar' : List ℕ) (more : AreExtended v v' ar ar') where
  abbrev HasIt : Word → Type 0
  HasIt = Has v'.names

  abbrev printed_param : Param → Param
  printed_param = source_param v'.names v.names

  variable-printed : (x : Param) → HasIt (escaped (variable v x)) → variable v' (printed_param x) ≡ escaped (variable v x)
  variable-printed x h = named-name (escaped (variable v x)) v'.names h

  pub variables-printed : (xs : List Param) → EachIs HasIt (param_words v.names xs) → map (variable v') (map printed_param xs) ≡ map escaped (map (variable v) xs)
  variables-printed [] h = refl
  variables-printed (x ∷ xs) h = let e = variable-printed x h.0 in let r = variables-printed xs h.1 in λ i. e i ∷ r i

  pub each_param : (xs : List Param) → EachIs HasIt (param_words v.names xs) → EachIs (IsSoundParam v ar) xs → EachIs (IsSoundParam v' ar') (map printed_param xs)
  each_param [] h s = tt
  each_param (x ∷ xs) h s = ((subst IsPlainVariable (sym (variable-printed x h.0)) (plain-variable (escaped (variable v x)) (name-escaped (variable v x) s.0.0)), more.types x.ty s.0.1), each_param xs h.1 s.1)

  pub escapes_differ : (ws : List Word) → AreDifferent ws → AreDifferent (map escaped ws)
  escapes_differ ws d = different-by (λ w. w) escaped ws (λ x y h k e. escaped-once x y e) (subst AreDifferent (sym (same ws)) d)
    where
      same : (ws : List Word) → map (λ w. w) ws ≡ ws
      same [] = refl
      same (w ∷ ws) = ap (λ z. w ∷ z) (same ws)

  pub sound_params : (xs : List Param) → EachIs HasIt (param_words v.names xs) → AreSoundParams v ar xs → AreSoundParams v' ar' (map printed_param xs)
  sound_params xs h s = (each_param xs h s.0, subst AreDifferent (sym (variables-printed xs h)) (escapes_differ (map (variable v) xs) s.1))

  -- behind these variables
  module _ (front : List Word) where
    abbrev pub scope_behind : List Word → List Word
    scope_behind scope = front ++ map escaped scope

    pub in_force : (scope : List Word) (t : Term) → IsInForce v ar scope t → IsInForce v' ar' (scope_behind scope) (moved v'.names v.names (length front) t)
    in_force scope (Var k) e =
        let l = last-within (word_at scope k) scope k e in
        let f = word-behind front (map escaped scope) k ∙ word-map escaped scope k l in
        let g = last-map escaped escaped-once (word_at scope k) scope ∙ e in
        ap (λ z. last_place z (scope_behind scope)) f ∙ last-behind (escaped (word_at scope k)) front (map escaped scope) k g
    in_force scope (Obj o) e = let m = more.objects in omega arith

    pub each_in_force : (scope : List Word) (ts : List Term) → EachIs (IsInForce v ar scope) ts → EachIs (IsInForce v' ar' (scope_behind scope)) (map (moved v'.names v.names (length front)) ts)
    each_in_force scope [] e = tt
    each_in_force scope (t ∷ ts) e = (in_force scope t e.0, each_in_force scope ts e.1)

    pub sound_atom : (scope : List Word) (n : ℕ) (ts : List Term) → IsSoundAtom v ar scope n ts → IsSoundAtom v' ar' (scope_behind scope) n (map (moved v'.names v.names (length front)) ts)
    sound_atom scope n ts s = let p = more.predicates n s.0 in (p.0, length-map ts (moved v'.names v.names (length front)) ∙ s.1 ∙ sym p.1, each_in_force scope ts s.2)

    pub scope_on : (scope : List Word) (xs : List Param) → EachIs HasIt (param_words v.names xs) → scope_behind scope ++ map (variable v') (map printed_param xs) ≡ scope_behind (scope ++ map (variable v) xs)
    scope_on scope xs h =
        ap (λ z. scope_behind scope ++ z) (variables-printed xs h) ∙ append_assoc front (map escaped scope) (map escaped (map (variable v) xs))
        ∙ ap (λ z. front ++ z) (sym (map-append escaped scope (map (variable v) xs)))

    abbrev Sound : Formula → List Word → Type 0
    Sound = IsSound v ar

    abbrev Sound' : Formula → List Word → Type 0
    Sound' = IsSound v' ar'

    abbrev put : Formula → Formula
    put = source_formula v'.names v.names (length front)

    abbrev words : Formula → List Word
    words = formula_words v.names

    abbrev pub Claim : Formula → Type 0
    Claim f = (scope : List Word) → Sound f scope → EachIs HasIt (words f) → Sound' (put f) (scope_behind scope)

    abbrev Layer : Formula-F Formula → Type 0
    Layer x = (scope : List Word) → sound_step v ar Sound x scope → EachIs HasIt (formula_words_step v.names (map-Formula Formula (List Word) words x))
        → sound_step v' ar' Sound' (formula_layer v'.names v.names (length front) (map-Formula Formula Formula put x)) (scope_behind scope)

    each : (fs : List ((f : Formula) × Claim f)) (scope : List Word) → EachIs (λ f. Sound f scope) (map (λ e. e.0) fs) → EachIs HasIt (joined (map words (map (λ e. e.0) fs)))
        → EachIs (λ f. Sound' f (scope_behind scope)) (map put (map (λ e. e.0) fs))
    each [] scope s h = tt
    each (e ∷ fs) scope s h = (e.1 scope s.0 (each-left HasIt (words e.0) (joined (map words (map (λ e. e.0) fs))) h), each fs scope s.1 (each-right HasIt (words e.0) (joined (map words (map (λ e. e.0) fs))) h))

    level : (y : Formula-F ((f : Formula) × Claim f)) → Layer (map-Formula ((f : Formula) × Claim f) Formula (λ e. e.0) y)
    level (Formula-F.Holds a) scope s h = sound_atom scope a.predicate a.args s
    level (Formula-F.Equal t u) scope s h = (in_force scope t s.0, in_force scope u s.1)
    level (Formula-F.Not f) scope s h = f.1 scope s h
    level (Formula-F.And fs) scope s h = each fs scope s h
    level (Formula-F.Or fs) scope s h = each fs scope s h
    level (Formula-F.Imply f g) scope s h = (f.1 scope s.0 (each-left HasIt (words f.0) (words g.0) h), g.1 scope s.1 (each-right HasIt (words f.0) (words g.0) h))
    level (Formula-F.Forall xs f) scope s h =
        let a = each-left HasIt (param_words v.names xs) (words f.0) h in
        (sound_params xs a s.0, subst (Sound' (put f.0)) (sym (scope_on scope xs a)) (f.1 (scope ++ map (variable v) xs) s.1 (each-right HasIt (param_words v.names xs) (words f.0) h)))
    level (Formula-F.Exists xs f) scope s h =
        let a = each-left HasIt (param_words v.names xs) (words f.0) h in
        (sound_params xs a s.0, subst (Sound' (put f.0)) (sym (scope_on scope xs a)) (f.1 (scope ++ map (variable v) xs) s.1 (each-right HasIt (param_words v.names xs) (words f.0) h)))

    pub sound_formula : (f : Formula) → Claim f
    sound_formula = ind-Formula Claim (λ x y is. subst (λ z. Claim (roll-Formula z)) is (claim (map-Formula ((f : Formula) × Claim f) Formula (λ e. e.0) y) (level y)))
      where
        claim : (x : Formula-F Formula) → Layer x → Claim (roll-Formula x)
        claim x l scope s h =
            let put_x = formula_layer v'.names v.names (length front) (map-Formula Formula Formula put x) in
            let a : put (roll-Formula x) ≡ roll-Formula put_x = fold-roll-Formula Formula (λ layer. roll-Formula (formula_layer v'.names v.names (length front) layer)) x in
            let g = fold-roll-Formula (List Word) (formula_words_step v.names) x in
            let r = l scope (subst (λ (z : List Word → Type 0). z scope) (sound_roll v ar x) s) (subst (EachIs HasIt) g h) in
            subst (λ z. Sound' z (scope_behind scope)) (sym a) (subst (λ (z : List Word → Type 0). z (scope_behind scope)) (sym (sound_roll v' ar' put_x)) r)
