-- What is printed for a sound formula spells it.
use Rattle.std.proofs.Common.{ℕ, ◌≡◌, inl, List, [], ◌∷◌, ◌++◌, map, refl, ap, sym, subst, ◌∙◌}
use Rattle.text_forms.specs.Lists.{Part}
use Rattle.text_forms.specs.Words.{Word, word_at}
use Rattle.plan_texts.specs.Declared.{Declared, variable}
use Rattle.plan_texts.specs.TypedLists.{Each, EachTyped, are_names}
use Rattle.plan_texts.specs.Formulas.{IsTerm, IsApplied, IsParam, formula_step, IsFormula}
use Rattle.plan_texts.specs.Printed.{all_parts, term_part, applied_part, params_parts, formula_part_step, formula_part}
use Rattle.plan_texts.specs.Printable.{IsPlain, IsPlainVariable, IsInForce, IsSoundAtom, IsSoundParam, sound_step, IsSound, HasWords}
use Rattle.plan_texts.specs.Types.{EachIs}
use Rattle.plan_model.specs.declared.terms.Term.{Term}
use Rattle.plan_model.specs.declared.terms.Term.TheVariants.{Var, Obj}
use Rattle.plan_model.specs.declared.terms.Param.{Param}
use Rattle.plan_model.specs.declared.formulas.Formula.{Formula, roll-Formula}
use Rattle.plan_model.specs.declared.formulas.Formula.TheFolds.{rec-roll-Formula, fold-roll-Formula, map-Formula, ind-Formula}
use Rattle.plan_model.specs.declared.formulas.Formula.TheOpen.{Formula-F}
use Rattle.text_forms.specs.Printing.{IsPrintablePart, ArePrintableParts}
use Rattle.plan_texts.proofs.Places.{each-at, first-different, last-is, each-append, plain-token}
use Rattle.plan_texts.proofs.Readings.{formula_roll}
use Rattle.plan_texts.proofs.UnionTypes.{good-kind}

pub each_is-map : {X Y : Type 0} (u : X → Y) (P : Y → Type 0) (xs : List X) → EachIs (λ x. P (u x)) xs ≡ EachIs P (map u xs)
each_is-map u P [] = refl
each_is-map u P (x ∷ xs) = ap (λ t. P (u x) × t) (each_is-map u P xs)

module _ (v : Declared) (arities : List ℕ) where
  natural : (X : Type 0) (u : X → Formula) (k : Formula → List Word → Type 0) (x : Formula-F X) → sound_step v arities (λ p. k (u p)) x ≡ sound_step v arities k (map-Formula X Formula u x)
  natural X u k (Formula-F.Holds a) = refl
  natural X u k (Formula-F.Equal s t) = refl
  natural X u k (Formula-F.Not f) = refl
  natural X u k (Formula-F.And fs) = λ i scope. each_is-map u (λ f. k f scope) fs i
  natural X u k (Formula-F.Or fs) = λ i scope. each_is-map u (λ f. k f scope) fs i
  natural X u k (Formula-F.Imply f g) = refl
  natural X u k (Formula-F.Forall xs f) = refl
  natural X u k (Formula-F.Exists xs f) = refl

  pub sound_roll : (x : Formula-F Formula) → IsSound v arities (roll-Formula x) ≡ sound_step v arities (IsSound v arities) x
  sound_roll x = rec-roll-Formula (List Word → Type 0) (λ X u k layer. sound_step v arities k layer) natural x

  pub part_roll : (x : Formula-F Formula) → formula_part v (roll-Formula x) ≡ formula_part_step v (map-Formula Formula (List Word → Part) (formula_part v) x)
  part_roll x = fold-roll-Formula (List Word → Part) (formula_part_step v) x

  module _ (has : HasWords v arities) where
    pub spelled-term : (scope : List Word) (t : Term) → EachIs IsPlainVariable scope → IsInForce v arities scope t → IsTerm v scope t (term_part v scope t) × IsPrintablePart (term_part v scope t)
    spelled-term scope (Var k) s e = let p = last-is IsPlainVariable (word_at scope k) scope k s e in ((word_at scope k, refl, e), p.0)
    spelled-term scope (Obj o) s e =
        let p = each-at IsPlain v.objects o has.objects e in
        ((word_at v.objects o, refl, p.1, first-different v.objects o has.objects_differ e), plain-token (word_at v.objects o) p)

    pub spelled-terms : (scope : List Word) (ts : List Term) → EachIs IsPlainVariable scope → EachIs (IsInForce v arities scope) ts → Each (IsTerm v scope) ts (all_parts (map (term_part v scope) ts)) × ArePrintableParts (all_parts (map (term_part v scope) ts))
    spelled-terms scope [] s e = (tt, tt)
    spelled-terms scope (t ∷ ts) s e = let g = spelled-term scope t s e.0 in let h = spelled-terms scope ts s e.1 in ((g.0, h.0), (g.1, h.1))

    pub spelled-atom : (scope : List Word) (n : ℕ) (ts : List Term) → EachIs IsPlainVariable scope → IsSoundAtom v arities scope n ts → IsApplied v scope n ts (applied_part v scope n ts) × IsPrintablePart (applied_part v scope n ts)
    spelled-atom scope n ts s e =
        let g = spelled-terms scope ts s e.2 in
        let p = each-at IsPlain v.predicates n has.predicates e.0 in
        ((word_at v.predicates n, all_parts (map (term_part v scope) ts), refl, p.1, first-different v.predicates n has.predicates_differ e.0, g.0), (plain-token (word_at v.predicates n) p, g.1))

    pub spelled-params : (xs : List Param) → EachIs (IsSoundParam v arities) xs → EachTyped (IsParam v) xs (params_parts v xs) × ArePrintableParts (params_parts v xs)
    spelled-params [] e = (tt, tt)
    spelled-params (x ∷ xs) e =
        let h = spelled-params xs e.1 in
        let k = good-kind v arities has x.ty e.0.1 in
        (((refl, e.0.0.1, (sym k.0, ap are_names k.0 ∙ k.1)), h.0), (e.0.0.0, (refl, (k.2, h.1))))

    pub plain-scope : (xs : List Param) → EachIs (IsSoundParam v arities) xs → EachIs IsPlainVariable (map (variable v) xs)
    plain-scope [] e = tt
    plain-scope (x ∷ xs) e = (e.0.0, plain-scope xs e.1)

    abbrev pub Claim : Formula → Type 0
    Claim f = (scope : List Word) → EachIs IsPlainVariable scope → IsSound v arities f scope → IsFormula v f scope (formula_part v f scope) × IsPrintablePart (formula_part v f scope)

    abbrev pub Layer : Formula-F Formula → Type 0
    Layer x = (scope : List Word) → EachIs IsPlainVariable scope → sound_step v arities (IsSound v arities) x scope
        → formula_step v (IsFormula v) x scope (formula_part_step v (map-Formula Formula (List Word → Part) (formula_part v) x) scope) × IsPrintablePart (formula_part_step v (map-Formula Formula (List Word → Part) (formula_part v) x) scope)

    each : (fs : List ((f : Formula) × Claim f)) (scope : List Word) → EachIs IsPlainVariable scope → EachIs (λ f. IsSound v arities f scope) (map (λ e. e.0) fs)
        → Each (λ f. IsFormula v f scope) (map (λ e. e.0) fs) (all_parts (map (λ f. f scope) (map (formula_part v) (map (λ e. e.0) fs)))) × ArePrintableParts (all_parts (map (λ f. f scope) (map (formula_part v) (map (λ e. e.0) fs))))
    each [] scope s e = (tt, tt)
    each (f ∷ fs) scope s e = let g = f.1 scope s e.0 in let h = each fs scope s e.1 in ((g.0, h.0), (g.1, h.1))

    level : (y : Formula-F ((f : Formula) × Claim f)) → Layer (map-Formula ((f : Formula) × Claim f) Formula (λ e. e.0) y)
    level (Formula-F.Holds a) scope s e = spelled-atom scope a.predicate a.args s e
    level (Formula-F.Equal t u) scope s e =
        let g = spelled-term scope t s e.0 in let h = spelled-term scope u s e.1 in
        ((term_part v scope t, term_part v scope u, refl, g.0, h.0), (refl, (g.1, (h.1, tt))))
    level (Formula-F.Not f) scope s e = let g = f.1 scope s e in ((formula_part v f.0 scope, refl, g.0), (refl, (g.1, tt)))
    level (Formula-F.And fs) scope s e = let g = each fs scope s e in (inl (all_parts (map (λ f. f scope) (map (formula_part v) (map (λ e. e.0) fs))), refl, g.0), (refl, g.1))
    level (Formula-F.Or fs) scope s e = let g = each fs scope s e in ((all_parts (map (λ f. f scope) (map (formula_part v) (map (λ e. e.0) fs))), refl, g.0), (refl, g.1))
    level (Formula-F.Imply f g) scope s e =
        let h = f.1 scope s e.0 in let i = g.1 scope s e.1 in
        ((formula_part v f.0 scope, formula_part v g.0 scope, refl, h.0, i.0), (refl, (h.1, (i.1, tt))))
    level (Formula-F.Forall xs f) scope s e =
        let g = spelled-params xs e.0.0 in let h = f.1 (scope ++ map (variable v) xs) (each-append IsPlainVariable scope (map (variable v) xs) s (plain-scope xs e.0.0)) e.1 in
        ((params_parts v xs, formula_part v f.0 (scope ++ map (variable v) xs), refl, g.0, h.0), (refl, (g.1, (h.1, tt))))
    level (Formula-F.Exists xs f) scope s e =
        let g = spelled-params xs e.0.0 in let h = f.1 (scope ++ map (variable v) xs) (each-append IsPlainVariable scope (map (variable v) xs) s (plain-scope xs e.0.0)) e.1 in
        ((params_parts v xs, formula_part v f.0 (scope ++ map (variable v) xs), refl, g.0, h.0), (refl, (g.1, (h.1, tt))))

    pub formula-spelled : (f : Formula) → Claim f
    formula-spelled = ind-Formula Claim (λ x y is. subst (λ z. Claim (roll-Formula z)) is (claim (map-Formula ((f : Formula) × Claim f) Formula (λ e. e.0) y) (level y)))
      where
        claim : (x : Formula-F Formula) → Layer x → Claim (roll-Formula x)
        claim x h scope s e =
            let g = h scope s (subst (λ (z : List Word → Type 0). z scope) (sound_roll x) e) in
            subst (λ (z : List Word → Part). IsFormula v (roll-Formula x) scope (z scope) × IsPrintablePart (z scope)) (sym (part_roll x)) (subst (λ (z : List Word → Part → Type 0). z scope (formula_part_step v (map-Formula Formula (List Word → Part) (formula_part v) x) scope)) (sym (formula_roll v x)) g.0, g.1)
