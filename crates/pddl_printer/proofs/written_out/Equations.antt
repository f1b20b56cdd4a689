-- One layer of a formula and of an effect, and what parts become.
use Rattle.std.proofs.Common.{ℕ, ◌≡◌, ◌∙◌, List, [], ◌∷◌, cond, map, sym, ap}
use Rattle.std.specs.Prelude.{◌==◌}
use Rattle.plan_model.specs.declared.terms.Term.{Term}
use Rattle.plan_model.specs.declared.terms.Atom.{Atom}
use Rattle.plan_model.specs.declared.terms.Param.{Param}
use Rattle.plan_model.specs.declared.formulas.Formula.{Formula, out-Formula, out-roll-Formula}
use Rattle.plan_model.specs.declared.formulas.Formula.TheOpen.{Formula-F}
use Rattle.plan_model.specs.declared.formulas.Formula.TheVariants.{Holds, Equal, Not, And, Imply, Forall, rolls-Holds, rolls-Equal, rolls-Not, rolls-And, rolls-Imply, rolls-Forall}
use Rattle.plan_model.specs.declared.effects.Effect.{Effect, out-Effect, out-roll-Effect}
use Rattle.plan_model.specs.declared.effects.Effect.TheOpen.{Effect-F}
use Rattle.plan_model.specs.declared.effects.Effect.TheVariants as E
use Rattle.pddl_printer.specs.declared.object_range.Range.{Range}
use Rattle.pddl_printer.specs.WrittenOut.{each, placed_atom, joined, literal, negated_literal, quantified, condition_parts, condition_of, condition, conditional_add, change, quantified_change, effect_parts, effect_of, effect}

pub out-Holds : (a : Atom) → out-Formula (Holds a) ≡ Formula-F.Holds a
out-Holds a = ap out-Formula (sym (rolls-Holds a)) ∙ out-roll-Formula (Formula-F.Holds a)

pub out-Equal : (s t : Term) → out-Formula (Equal s t) ≡ Formula-F.Equal s t
out-Equal s t = ap out-Formula (sym (rolls-Equal s t)) ∙ out-roll-Formula (Formula-F.Equal s t)

pub out-Not : (f : Formula) → out-Formula (Not f) ≡ Formula-F.Not f
out-Not f = ap out-Formula (sym (rolls-Not f)) ∙ out-roll-Formula (Formula-F.Not f)

pub out-And : (fs : List Formula) → out-Formula (And fs) ≡ Formula-F.And fs
out-And fs = ap out-Formula (sym (rolls-And fs)) ∙ out-roll-Formula (Formula-F.And fs)

pub out-Imply : (f g : Formula) → out-Formula (Imply f g) ≡ Formula-F.Imply f g
out-Imply f g = ap out-Formula (sym (rolls-Imply f g)) ∙ out-roll-Formula (Formula-F.Imply f g)

pub out-Forall : (xs : List Param) (f : Formula) → out-Formula (Forall xs f) ≡ Formula-F.Forall xs f
out-Forall xs f = ap out-Formula (sym (rolls-Forall xs f)) ∙ out-roll-Formula (Formula-F.Forall xs f)

pub out-Add : (a : Atom) → out-Effect (E.Add a) ≡ Effect-F.Add a
out-Add a = ap out-Effect (sym (E.rolls-Add a)) ∙ out-roll-Effect (Effect-F.Add a)

pub out-Delete : (a : Atom) → out-Effect (E.Delete a) ≡ Effect-F.Delete a
out-Delete a = ap out-Effect (sym (E.rolls-Delete a)) ∙ out-roll-Effect (Effect-F.Delete a)

pub out-Both : (es : List Effect) → out-Effect (E.And es) ≡ Effect-F.And es
out-Both es = ap out-Effect (sym (E.rolls-And es)) ∙ out-roll-Effect (Effect-F.And es)

pub out-Each : (xs : List Param) (e : Effect) → out-Effect (E.Forall xs e) ≡ Effect-F.Forall xs e
out-Each xs e = ap out-Effect (sym (E.rolls-Forall xs e)) ∙ out-roll-Effect (Effect-F.Forall xs e)

pub out-When : (f : Formula) (e : Effect) → out-Effect (E.When f e) ≡ Effect-F.When f e
out-When f e = ap out-Effect (sym (E.rolls-When f e)) ∙ out-roll-Effect (Effect-F.When f e)

module _ (r : Range) (depth : ℕ) where
  pub parts-Forall : (x : Param) (f : Formula) → condition_parts r depth (Forall (x ∷ []) f) ≡ cond (x.ty == r.ty) (literal r depth (Forall (x ∷ []) f) (out-Formula f)) (Forall (x ∷ []) f ∷ [])
  parts-Forall x f = ap (quantified r depth (Forall (x ∷ []) f)) (out-Forall (x ∷ []) f)

  pub literal-Holds : (whole : Formula) (a : Atom) → literal r depth whole (out-Formula (Holds a)) ≡ each r depth (λ o. Holds (placed_atom depth o a))
  literal-Holds whole a = ap (literal r depth whole) (out-Holds a)

  pub literal-Not : (whole : Formula) (a : Atom) → literal r depth whole (out-Formula (Not (Holds a))) ≡ each r depth (λ o. Not (Holds (placed_atom depth o a)))
  literal-Not whole a = ap (literal r depth whole) (out-Not (Holds a)) ∙ ap (negated_literal r depth whole) (out-Holds a)

  pub condition-And : (fs : List Formula) → condition r depth (And fs) ≡ And (joined (map (condition_parts r depth) fs))
  condition-And fs = ap (condition_of r depth (And fs)) (out-And fs)

  pub parts-Each : (x : Param) (e : Effect) → effect_parts r depth (E.Forall (x ∷ []) e) ≡ cond (x.ty == r.ty) (change r depth (E.Forall (x ∷ []) e) (out-Effect e)) (E.Forall (x ∷ []) e ∷ [])
  parts-Each x e = ap (quantified_change r depth (E.Forall (x ∷ []) e)) (out-Each (x ∷ []) e)

  pub change-Delete : (whole : Effect) (a : Atom) → change r depth whole (out-Effect (E.Delete a)) ≡ each r depth (λ o. E.Delete (placed_atom depth o a))
  change-Delete whole a = ap (change r depth whole) (out-Delete a)

  pub change-When : (whole : Effect) (a k : Atom) → change r depth whole (out-Effect (E.When (Holds a) (E.Add k))) ≡ each r depth (λ o. E.When (Holds (placed_atom depth o a)) (E.Add (placed_atom depth o k)))
  change-When whole a k = ap (change r depth whole) (out-When (Holds a) (E.Add k)) ∙ ap (λ z. conditional_add r depth whole z (out-Effect (E.Add k))) (out-Holds a) ∙ ap (conditional_add r depth whole (Formula-F.Holds a)) (out-Add k)

  pub effect-And : (es : List Effect) → effect r depth (E.And es) ≡ E.And (joined (map (effect_parts r depth) es))
  effect-And es = ap (effect_of r depth (E.And es)) (out-Both es)
