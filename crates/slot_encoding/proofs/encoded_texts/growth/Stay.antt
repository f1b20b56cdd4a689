-- What is printed the same whatever slots there are: formulas and effects that name no object but those of the source.
use Rattle.std.proofs.Common.{ℕ, ◌≡◌, ◌+◌, ◌≤◌, List, [], ◌∷◌, ◌++◌, map, length, codes, refl, ap, ap₂, sym, subst, ◌∙◌, arith}
use Rattle.std.proofs.Math.ListN.{get_or-append}
use Rattle.text_forms.specs.Lists.{Part, name, group, nothing, part}
use Rattle.text_forms.specs.Words.{Word, word_at}
use Rattle.text_forms.specs.Printing.{headed}
use Rattle.plan_texts.specs.Declared.{Declared, variable}
use Rattle.plan_texts.specs.Types.{EachIs}
use Rattle.plan_texts.specs.Printed.{all_parts, term_part, applied_part, params_parts, formula_part_step, formula_part, effect_part_step, effect_part}
use Rattle.plan_texts.proofs.Spelled.{part_roll}
use Rattle.plan_texts.proofs.SpelledEffects.{effect-part_roll}
use Rattle.plan_texts.proofs.Unique.{map-map}
use Rattle.plan_model.specs.declared.terms.Term.{Term}
use Rattle.plan_model.specs.declared.terms.Term.TheVariants.{Var, Obj}
use Rattle.plan_model.specs.declared.terms.Atom.{Atom}
use Rattle.plan_model.specs.declared.terms.Param.{Param}
use Rattle.plan_model.specs.declared.formulas.Formula.{Formula, roll-Formula}
use Rattle.plan_model.specs.declared.formulas.Formula.TheFolds.{fold-roll-Formula, map-Formula, ind-Formula}
use Rattle.plan_model.specs.declared.formulas.Formula.TheOpen.{Formula-F}
use Rattle.plan_model.specs.declared.formulas.Formula.TheVariants.{Holds, Equal, Not, And, Forall, rolls-Holds, rolls-Equal, rolls-Not, rolls-And, rolls-Forall}
use Rattle.plan_model.specs.declared.effects.Effect.{Effect, roll-Effect}
use Rattle.plan_model.specs.declared.effects.Effect.TheFolds.{fold-roll-Effect, map-Effect, ind-Effect}
use Rattle.plan_model.specs.declared.effects.Effect.TheOpen.{Effect-F}
use Rattle.plan_model.specs.declared.effects.Effect.TheVariants as E
use Rattle.plan_model.specs.declared.effects.Effect.TheVariants.{rolls-Add, rolls-Delete, rolls-When, rolls-And as rolls-Both, rolls-Forall as rolls-Each_one}
use Rattle.slot_encoding.specs.SourceParts.{moved, source_param, formula_layer, source_formula, effect_layer, source_effect}
use Rattle.slot_encoding.specs.encoded_texts.NamedObjects.{greatest, of_term, of_terms, formula_step, of_formula, effect_step, of_effect}

-- what is printed for each form
module _ (v : Declared) (scope : List Word) where
  abbrev Printed : List Word → Formula → Part
  Printed s f = formula_part v f s

  pub part-Holds : (a : Atom) → formula_part v (Holds a) scope ≡ applied_part v scope a.predicate a.args
  part-Holds a = ap (λ f. formula_part v f scope) (sym (rolls-Holds a)) ∙ ap (λ (z : List Word → Part). z scope) (part_roll v [] (Formula-F.Holds a))

  pub part-Equal : (s t : Term) → formula_part v (Equal s t) scope ≡ headed (codes "=") (part (term_part v scope s) (part (term_part v scope t) nothing))
  part-Equal s t = ap (λ f. formula_part v f scope) (sym (rolls-Equal s t)) ∙ ap (λ (z : List Word → Part). z scope) (part_roll v [] (Formula-F.Equal s t))

  pub part-Not : (f : Formula) → formula_part v (Not f) scope ≡ headed (codes "not") (part (formula_part v f scope) nothing)
  part-Not f = ap (λ g. formula_part v g scope) (sym (rolls-Not f)) ∙ ap (λ (z : List Word → Part). z scope) (part_roll v [] (Formula-F.Not f))

  pub part-And : (fs : List Formula) → formula_part v (And fs) scope ≡ headed (codes "and") (all_parts (map (λ f. formula_part v f scope) fs))
  part-And fs =
      ap (λ g. formula_part v g scope) (sym (rolls-And fs)) ∙ ap (λ (z : List Word → Part). z scope) (part_roll v [] (Formula-F.And fs))
      ∙ ap (λ ps. headed (codes "and") (all_parts ps)) (sym (map-map (formula_part v) (λ (z : List Word → Part). z scope) fs))

  pub part-Forall : (xs : List Param) (f : Formula) → formula_part v (Forall xs f) scope ≡ headed (codes "forall") (part (group (params_parts v xs)) (part (formula_part v f (scope ++ map (variable v) xs)) nothing))
  part-Forall xs f = ap (λ g. formula_part v g scope) (sym (rolls-Forall xs f)) ∙ ap (λ (z : List Word → Part). z scope) (part_roll v [] (Formula-F.Forall xs f))

  pub part-Add : (a : Atom) → effect_part v (E.Add a) scope ≡ applied_part v scope a.predicate a.args
  part-Add a = ap (λ f. effect_part v f scope) (sym (rolls-Add a)) ∙ ap (λ (z : List Word → Part). z scope) (effect-part_roll v [] (Effect-F.Add a))

  pub part-Delete : (a : Atom) → effect_part v (E.Delete a) scope ≡ headed (codes "not") (part (applied_part v scope a.predicate a.args) nothing)
  part-Delete a = ap (λ f. effect_part v f scope) (sym (rolls-Delete a)) ∙ ap (λ (z : List Word → Part). z scope) (effect-part_roll v [] (Effect-F.Delete a))

  pub part-Both : (es : List Effect) → effect_part v (E.And es) scope ≡ headed (codes "and") (all_parts (map (λ e. effect_part v e scope) es))
  part-Both es =
      ap (λ g. effect_part v g scope) (sym (rolls-Both es)) ∙ ap (λ (z : List Word → Part). z scope) (effect-part_roll v [] (Effect-F.And es))
      ∙ ap (λ ps. headed (codes "and") (all_parts ps)) (sym (map-map (effect_part v) (λ (z : List Word → Part). z scope) es))

  pub part-Each_one : (xs : List Param) (e : Effect) → effect_part v (E.Forall xs e) scope ≡ headed (codes "forall") (part (group (params_parts v xs)) (part (effect_part v e (scope ++ map (variable v) xs)) nothing))
  part-Each_one xs e = ap (λ g. effect_part v g scope) (sym (rolls-Each_one xs e)) ∙ ap (λ (z : List Word → Part). z scope) (effect-part_roll v [] (Effect-F.Forall xs e))

  pub part-When : (f : Formula) (e : Effect) → effect_part v (E.When f e) scope ≡ headed (codes "when") (part (formula_part v f scope) (part (effect_part v e scope) nothing))
  part-When f e = ap (λ g. effect_part v g scope) (sym (rolls-When f e)) ∙ ap (λ (z : List Word → Part). z scope) (effect-part_roll v [] (Effect-F.When f e))

-- the words of a printed problem where these are the objects
abbrev pub with_objects : Declared → List Word → Declared
with_objects v ws = record { names = v.names; types = v.types; unions = v.unions; objects = ws; predicates = v.predicates }

-- own: the source's objects
module _ (v : Declared) (own : List Word) where
  abbrev pub at : List Word → Declared
  at us = with_objects v (own ++ us)

  abbrev pub among : Declared
  among = with_objects v own

  abbrev pub StaysTerm : Term → Type 0
  StaysTerm t = (us scope : List Word) → term_part (with_objects v (own ++ us)) scope t ≡ term_part (with_objects v own) scope t

  abbrev pub StaysFormula : Formula → Type 0
  StaysFormula f = (us scope : List Word) → formula_part (with_objects v (own ++ us)) f scope ≡ formula_part (with_objects v own) f scope

  abbrev pub StaysEffect : Effect → Type 0
  StaysEffect e = (us scope : List Word) → effect_part (with_objects v (own ++ us)) e scope ≡ effect_part (with_objects v own) e scope

  pub stays-term : (t : Term) → of_term t ≤ length own → StaysTerm t
  stays-term (Var k) l us scope = refl
  stays-term (Obj o) l us scope = ap name (get_or-append own us [] o (omega (arith, l)))

  pub terms : (ts : List Term) → EachIs StaysTerm ts → (us scope : List Word) → map (term_part (at us) scope) ts ≡ map (term_part among scope) ts
  terms [] e us scope = refl
  terms (t ∷ ts) e us scope = let a = e.0 us scope in let b = terms ts e.1 us scope in λ i. a i ∷ b i

  pub stays-Holds : (a : Atom) → EachIs StaysTerm a.args → StaysFormula (Holds a)
  stays-Holds a e us scope = part-Holds (at us) scope a ∙ ap (λ ps. headed (word_at v.predicates a.predicate) (all_parts ps)) (terms a.args e us scope) ∙ sym (part-Holds among scope a)

  pub stays-Equal : (s t : Term) → StaysTerm s → StaysTerm t → StaysFormula (Equal s t)
  stays-Equal s t e f us scope = part-Equal (at us) scope s t ∙ ap₂ (λ p q. headed (codes "=") (part p (part q nothing))) (e us scope) (f us scope) ∙ sym (part-Equal among scope s t)

  pub stays-Not : (f : Formula) → StaysFormula f → StaysFormula (Not f)
  stays-Not f e us scope = part-Not (at us) scope f ∙ ap (λ p. headed (codes "not") (part p nothing)) (e us scope) ∙ sym (part-Not among scope f)

  pub stays-Forall : (xs : List Param) (f : Formula) → StaysFormula f → StaysFormula (Forall xs f)
  stays-Forall xs f e us scope =
      part-Forall (at us) scope xs f ∙ ap (λ p. headed (codes "forall") (part (group (params_parts v xs)) (part p nothing))) (e us (scope ++ map (variable v) xs)) ∙ sym (part-Forall among scope xs f)

  pub stays-Add : (a : Atom) → EachIs StaysTerm a.args → StaysEffect (E.Add a)
  stays-Add a e us scope = part-Add (at us) scope a ∙ ap (λ ps. headed (word_at v.predicates a.predicate) (all_parts ps)) (terms a.args e us scope) ∙ sym (part-Add among scope a)

  pub stays-Delete : (a : Atom) → EachIs StaysTerm a.args → StaysEffect (E.Delete a)
  stays-Delete a e us scope =
      part-Delete (at us) scope a ∙ ap (λ ps. headed (codes "not") (part (headed (word_at v.predicates a.predicate) (all_parts ps)) nothing)) (terms a.args e us scope) ∙ sym (part-Delete among scope a)

  pub stays-Each_one : (xs : List Param) (e : Effect) → StaysEffect e → StaysEffect (E.Forall xs e)
  stays-Each_one xs f e us scope =
      part-Each_one (at us) scope xs f ∙ ap (λ p. headed (codes "forall") (part (group (params_parts v xs)) (part p nothing))) (e us (scope ++ map (variable v) xs)) ∙ sym (part-Each_one among scope xs f)

  pub stays-When : (f : Formula) (e : Effect) → StaysFormula f → StaysEffect e → StaysEffect (E.When f e)
  stays-When f e h k us scope =
      part-When (at us) scope f e ∙ ap₂ (λ p q. headed (codes "when") (part p (part q nothing))) (h us scope) (k us scope) ∙ sym (part-When among scope f e)

  -- what stands in the source, behind further variables
  module _ (names source : List Word) (front : ℕ) where
    pub stays-moved : (t : Term) → of_term t ≤ length own → StaysTerm (moved names source front t)
    stays-moved (Var k) l = stays-term (Var (front + k)) l
    stays-moved (Obj o) l = stays-term (Obj o) l

    pub stay-moved : (ts : List Term) → of_terms ts ≤ length own → EachIs StaysTerm (map (moved names source front) ts)
    stay-moved [] l = tt
    stay-moved (t ∷ ts) l = (stays-moved t (omega (arith, l)), stay-moved ts (omega (arith, l)))

    abbrev put : Formula → Formula
    put = source_formula names source front

    abbrev Claim : Formula → Type 0
    Claim f = of_formula f ≤ length own → StaysFormula (put f)

    abbrev old : List Word → Formula → List Word → Part
    old us = formula_part (at us)

    abbrev new : Formula → List Word → Part
    new = formula_part among

    each : (fs : List ((f : Formula) × Claim f)) → greatest (map of_formula (map (λ e. e.0) fs)) ≤ length own → (us scope : List Word)
        → map (λ (p : List Word → Part). p scope) (map (old us) (map put (map (λ e. e.0) fs))) ≡ map (λ (p : List Word → Part). p scope) (map new (map put (map (λ e. e.0) fs)))
    each [] l us scope = refl
    each (f ∷ fs) l us scope = let a = f.1 (omega (arith, l)) us scope in let b = each fs (omega (arith, l)) us scope in λ i. a i ∷ b i

    abbrev Layer : Formula-F Formula → Type 0
    Layer x = formula_step (map-Formula Formula ℕ of_formula x) ≤ length own → (us scope : List Word)
        → formula_part_step (at us) (map-Formula Formula (List Word → Part) (old us) (formula_layer names source front (map-Formula Formula Formula put x))) scope
        ≡ formula_part_step among (map-Formula Formula (List Word → Part) new (formula_layer names source front (map-Formula Formula Formula put x))) scope

    level : (y : Formula-F ((f : Formula) × Claim f)) → Layer (map-Formula ((f : Formula) × Claim f) Formula (λ e. e.0) y)
    level (Formula-F.Holds a) l us scope = ap (λ ps. headed (word_at v.predicates a.predicate) (all_parts ps)) (terms (map (moved names source front) a.args) (stay-moved a.args l) us scope)
    level (Formula-F.Equal s t) l us scope = ap₂ (λ p q. headed (codes "=") (part p (part q nothing))) (stays-moved s (omega (arith, l)) us scope) (stays-moved t (omega (arith, l)) us scope)
    level (Formula-F.Not f) l us scope = ap (λ p. headed (codes "not") (part p nothing)) (f.1 l us scope)
    level (Formula-F.And fs) l us scope = ap (λ ps. headed (codes "and") (all_parts ps)) (each fs l us scope)
    level (Formula-F.Or fs) l us scope = ap (λ ps. headed (codes "or") (all_parts ps)) (each fs l us scope)
    level (Formula-F.Imply f g) l us scope = ap₂ (λ p q. headed (codes "imply") (part p (part q nothing))) (f.1 (omega (arith, l)) us scope) (g.1 (omega (arith, l)) us scope)
    level (Formula-F.Forall xs f) l us scope =
        let ys = map (source_param names source) xs in
        ap (λ p. headed (codes "forall") (part (group (params_parts v ys)) (part p nothing))) (f.1 l us (scope ++ map (variable v) ys))
    level (Formula-F.Exists xs f) l us scope =
        let ys = map (source_param names source) xs in
        ap (λ p. headed (codes "exists") (part (group (params_parts v ys)) (part p nothing))) (f.1 l us (scope ++ map (variable v) ys))

    pub stays-formula : (f : Formula) → Claim f
    stays-formula = ind-Formula Claim (λ x y is. subst (λ z. Claim (roll-Formula z)) is (claim (map-Formula ((f : Formula) × Claim f) Formula (λ e. e.0) y) (level y)))
      where
        claim : (x : Formula-F Formula) → Layer x → Claim (roll-Formula x)
        claim x h l us scope =
            let e = fold-roll-Formula Formula (λ layer. roll-Formula (formula_layer names source front layer)) x in
            let z = formula_layer names source front (map-Formula Formula Formula put x) in
            ap (λ f. formula_part (at us) f scope) e
            ∙ ap (λ (p : List Word → Part). p scope) (part_roll (at us) [] z)
            ∙ h (subst (λ n. n ≤ length own) (fold-roll-Formula ℕ formula_step x) l) us scope
            ∙ sym (ap (λ (p : List Word → Part). p scope) (part_roll among [] z))
            ∙ ap (λ f. formula_part among f scope) (sym e)

    abbrev put_effect : Effect → Effect
    put_effect = source_effect names source front

    abbrev DoneClaim : Effect → Type 0
    DoneClaim e = of_effect e ≤ length own → StaysEffect (put_effect e)

    abbrev was : List Word → Effect → List Word → Part
    was us = effect_part (at us)

    abbrev now : Effect → List Word → Part
    now = effect_part among

    each_done : (es : List ((e : Effect) × DoneClaim e)) → greatest (map of_effect (map (λ e. e.0) es)) ≤ length own → (us scope : List Word)
        → map (λ (p : List Word → Part). p scope) (map (was us) (map put_effect (map (λ e. e.0) es))) ≡ map (λ (p : List Word → Part). p scope) (map now (map put_effect (map (λ e. e.0) es)))
    each_done [] l us scope = refl
    each_done (e ∷ es) l us scope = let a = e.1 (omega (arith, l)) us scope in let b = each_done es (omega (arith, l)) us scope in λ i. a i ∷ b i

    abbrev DoneLayer : Effect-F Effect → Type 0
    DoneLayer x = effect_step (map-Effect Effect ℕ of_effect x) ≤ length own → (us scope : List Word)
        → effect_part_step (at us) (map-Effect Effect (List Word → Part) (was us) (effect_layer names source front (map-Effect Effect Effect put_effect x))) scope
        ≡ effect_part_step among (map-Effect Effect (List Word → Part) now (effect_layer names source front (map-Effect Effect Effect put_effect x))) scope

    done_level : (y : Effect-F ((e : Effect) × DoneClaim e)) → DoneLayer (map-Effect ((e : Effect) × DoneClaim e) Effect (λ e. e.0) y)
    done_level (Effect-F.Add a) l us scope = ap (λ ps. headed (word_at v.predicates a.predicate) (all_parts ps)) (terms (map (moved names source front) a.args) (stay-moved a.args l) us scope)
    done_level (Effect-F.Delete a) l us scope =
        ap (λ ps. headed (codes "not") (part (headed (word_at v.predicates a.predicate) (all_parts ps)) nothing)) (terms (map (moved names source front) a.args) (stay-moved a.args l) us scope)
    done_level (Effect-F.And es) l us scope = ap (λ ps. headed (codes "and") (all_parts ps)) (each_done es l us scope)
    done_level (Effect-F.Forall xs e) l us scope =
        let ys = map (source_param names source) xs in
        ap (λ p. headed (codes "forall") (part (group (params_parts v ys)) (part p nothing))) (e.1 l us (scope ++ map (variable v) ys))
    done_level (Effect-F.When f e) l us scope =
        ap₂ (λ p q. headed (codes "when") (part p (part q nothing))) (stays-formula f (omega (arith, l)) us scope) (e.1 (omega (arith, l)) us scope)

    pub stays-effect : (e : Effect) → DoneClaim e
    stays-effect = ind-Effect DoneClaim (λ x y is. subst (λ z. DoneClaim (roll-Effect z)) is (claim (map-Effect ((e : Effect) × DoneClaim e) Effect (λ e. e.0) y) (done_level y)))
      where
        claim : (x : Effect-F Effect) → DoneLayer x → DoneClaim (roll-Effect x)
        claim x h l us scope =
            let e = fold-roll-Effect Effect (λ layer. roll-Effect (effect_layer names source front layer)) x in
            let z = effect_layer names source front (map-Effect Effect Effect put_effect x) in
            ap (λ f. effect_part (at us) f scope) e
            ∙ ap (λ (p : List Word → Part). p scope) (effect-part_roll (at us) [] z)
            ∙ h (subst (λ n. n ≤ length own) (fold-roll-Effect ℕ effect_step x) l) us scope
            ∙ sym (ap (λ (p : List Word → Part). p scope) (effect-part_roll among [] z))
            ∙ ap (λ f. effect_part among f scope) (sym e)
