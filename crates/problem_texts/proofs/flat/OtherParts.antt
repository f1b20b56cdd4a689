-- Parts that are no quantifier over slots stay as they are: literals, equalities, and whatever comes from the source.
use Rattle.std.proofs.Common.{ℕ, zero, suc, ◌≡◌, ◌∙◌, List, [], ◌∷◌, ◌==◌, Bool, true, false, cond, refl, sym, subst, ap, arith}
use Rattle.plan_model.specs.declared.terms.Term.{Term}
use Rattle.plan_model.specs.declared.terms.Atom.{Atom}
use Rattle.plan_model.specs.declared.formulas.Formula.{Formula, out-Formula, roll-Formula, out-roll-Formula}
use Rattle.plan_model.specs.declared.formulas.Formula.TheFolds.{fold-roll-Formula, map-Formula, ind-Formula}
use Rattle.plan_model.specs.declared.formulas.Formula.TheOpen.{Formula-F}
use Rattle.plan_model.specs.declared.formulas.Formula.TheVariants.{Holds, Equal, Not}
use Rattle.plan_model.specs.declared.effects.Effect.{Effect, out-Effect, roll-Effect, out-roll-Effect}
use Rattle.plan_model.specs.declared.effects.Effect.TheFolds.{fold-roll-Effect, map-Effect, ind-Effect}
use Rattle.plan_model.specs.declared.effects.Effect.TheOpen.{Effect-F}
use Rattle.plan_model.specs.declared.effects.Effect.TheVariants as E
use Rattle.plan_model.specs.declared.values.Compiled.{Compiled}
use Rattle.slot_encoding.specs.SourceParts.{retyped, formula_layer, source_formula, effect_layer, source_effect}
use Rattle.slot_encoding.specs.EncodedActions.{test}
use Rattle.pddl_printer.specs.WrittenOut.{condition_parts, quantified, literal, effect_parts, quantified_change, change}
use Rattle.pddl_printer.proofs.written_out.Equations.{out-Holds, out-Equal, out-Not, out-Add, out-Delete}
use Rattle.problem_texts.specs.Slots.{slots_of}

-- no type of the source is printed as that of slots
other_type : (t : ℕ) → (retyped t == 1) ≡ false
other_type zero = refl
other_type (suc t) = grind arith

module _ (c : Compiled) (b depth : ℕ) where
  abbrev pub parts : Formula → List Formula
  parts = condition_parts (slots_of c b) depth

  abbrev pub changes : Effect → List Effect
  changes = effect_parts (slots_of c b) depth

  pub parts-Holds : (a : Atom) → parts (Holds a) ≡ Holds a ∷ []
  parts-Holds a = ap (quantified (slots_of c b) depth (Holds a)) (out-Holds a)

  parts-Equal : (s t : Term) → parts (Equal s t) ≡ Equal s t ∷ []
  parts-Equal s t = ap (quantified (slots_of c b) depth (Equal s t)) (out-Equal s t)

  pub parts-Not : (f : Formula) → parts (Not f) ≡ Not f ∷ []
  parts-Not f = ap (quantified (slots_of c b) depth (Not f)) (out-Not f)

  pub parts-test : (equal : Bool) (s t : Term) → parts (test equal s t) ≡ test equal s t ∷ []
  parts-test true s t = parts-Equal s t
  parts-test false s t = parts-Not (Equal s t)

  pub changes-Add : (a : Atom) → changes (E.Add a) ≡ E.Add a ∷ []
  changes-Add a = ap (quantified_change (slots_of c b) depth (E.Add a)) (out-Add a)

  pub changes-Delete : (a : Atom) → changes (E.Delete a) ≡ E.Delete a ∷ []
  changes-Delete a = ap (quantified_change (slots_of c b) depth (E.Delete a)) (out-Delete a)

  module _ (names source : List (List ℕ)) (front : ℕ) where
    formula_layer_kept : (whole : Formula) (x : Formula-F Formula) → quantified (slots_of c b) depth whole (formula_layer names source front x) ≡ whole ∷ []
    formula_layer_kept whole (Formula-F.Holds a) = refl
    formula_layer_kept whole (Formula-F.Equal s t) = refl
    formula_layer_kept whole (Formula-F.Not f) = refl
    formula_layer_kept whole (Formula-F.And fs) = refl
    formula_layer_kept whole (Formula-F.Or fs) = refl
    formula_layer_kept whole (Formula-F.Imply f g) = refl
    formula_layer_kept whole (Formula-F.Forall [] f) = refl
    formula_layer_kept whole (Formula-F.Forall (p ∷ []) f) = ap (λ q. cond q (literal (slots_of c b) depth whole (out-Formula f)) (whole ∷ [])) (other_type p.ty)
    formula_layer_kept whole (Formula-F.Forall (p ∷ q ∷ ps) f) = refl
    formula_layer_kept whole (Formula-F.Exists ps f) = refl

    effect_layer_kept : (whole : Effect) (x : Effect-F Effect) → quantified_change (slots_of c b) depth whole (effect_layer names source front x) ≡ whole ∷ []
    effect_layer_kept whole (Effect-F.Add a) = refl
    effect_layer_kept whole (Effect-F.Delete a) = refl
    effect_layer_kept whole (Effect-F.And es) = refl
    effect_layer_kept whole (Effect-F.Forall [] e) = refl
    effect_layer_kept whole (Effect-F.Forall (p ∷ []) e) = ap (λ q. cond q (change (slots_of c b) depth whole (out-Effect e)) (whole ∷ [])) (other_type p.ty)
    effect_layer_kept whole (Effect-F.Forall (p ∷ q ∷ ps) e) = refl
    effect_layer_kept whole (Effect-F.When f e) = refl

    abbrev put : Formula → Formula
    put = source_formula names source front

    pub parts-source : (f : Formula) → parts (put f) ≡ put f ∷ []
    parts-source = ind-Formula Stays (λ x y is. subst (λ z. Stays (roll-Formula z)) is (stays (map-Formula ((f : Formula) × Stays f) Formula (λ e. e.0) y)))
      where
        Stays : Formula → Type 0
        Stays f = parts (put f) ≡ put f ∷ []

        stays : (x : Formula-F Formula) → Stays (roll-Formula x)
        stays x =
            let inner = map-Formula Formula Formula put x in
            let layer = formula_layer names source front inner in
            let e : put (roll-Formula x) ≡ roll-Formula layer = fold-roll-Formula Formula (λ z. roll-Formula (formula_layer names source front z)) x in
            subst (λ z. parts z ≡ z ∷ []) (sym e) (ap (quantified (slots_of c b) depth (roll-Formula layer)) (out-roll-Formula layer) ∙ formula_layer_kept (roll-Formula layer) inner)

    abbrev make : Effect → Effect
    make = source_effect names source front

    pub changes-source : (e : Effect) → changes (make e) ≡ make e ∷ []
    changes-source = ind-Effect Stays (λ x y is. subst (λ z. Stays (roll-Effect z)) is (stays (map-Effect ((e : Effect) × Stays e) Effect (λ e. e.0) y)))
      where
        Stays : Effect → Type 0
        Stays e = changes (make e) ≡ make e ∷ []

        stays : (x : Effect-F Effect) → Stays (roll-Effect x)
        stays x =
            let inner = map-Effect Effect Effect make x in
            let layer = effect_layer names source front inner in
            let e : make (roll-Effect x) ≡ roll-Effect layer = fold-roll-Effect Effect (λ z. roll-Effect (effect_layer names source front z)) x in
            subst (λ z. changes z ≡ z ∷ []) (sym e) (ap (quantified_change (slots_of c b) depth (roll-Effect layer)) (out-roll-Effect layer) ∙ effect_layer_kept (roll-Effect layer) inner)
