-- A PDDL value with the quantifiers over the objects of a range written out: where a part of a condition's conjunction quantifies over
-- them an atom or a negated atom, or a part of an effect's a delete, or an add with one atom as its condition, the instances for each
-- object stand in its place. Any other part stands as it is, a quantified add without a condition too.
-- Source: Fox and Long, "PDDL2.1", JAIR 20, 2003, level 1, where a quantifier over finitely many objects is short for its instances.
use Rattle.std.specs.Prelude.{ℕ, ◌==◌, cond, List, [], ◌∷◌, ◌++◌, map, length}
use Rattle.plan_model.specs.task_networks.Spelling.{numbers}
use Rattle.plan_model.specs.declared.terms.Term.{Term}
use Rattle.plan_model.specs.declared.terms.Term.TheVariants.{Var, Obj}
use Rattle.plan_model.specs.declared.terms.Atom.{Atom}
use Rattle.plan_model.specs.declared.formulas.Formula.{Formula, out-Formula}
use Rattle.plan_model.specs.declared.formulas.Formula.TheVariants.{Holds, Not, And}
use Rattle.plan_model.specs.declared.formulas.Formula.TheOpen.{Formula-F}
use Rattle.plan_model.specs.declared.effects.Effect.{Effect, out-Effect}
use Rattle.plan_model.specs.declared.effects.Effect.TheVariants as E
use Rattle.plan_model.specs.declared.effects.Effect.TheOpen.{Effect-F}
use Rattle.plan_model.specs.declared.schemas.ActionSchema.{ActionSchema}
use Rattle.plan_model.specs.declared.values.Pddl.{Pddl}
use Rattle.pddl_printer.specs.declared.object_range.Range.{Range}

-- the object in place of the variable of this number
abbrev pub placed : ℕ → ℕ → Term → Term
placed depth o (Var k) = cond (k == depth) (Obj o) (Var k)
placed depth o (Obj x) = Obj x

abbrev pub placed_atom : ℕ → ℕ → Atom → Atom
placed_atom depth o a = record { predicate = a.predicate; args = map (placed depth o) a.args }

abbrev pub joined : {A : Type 0} → List (List A) → List A
joined [] = []
joined (xs ∷ rest) = xs ++ joined rest

-- r: the objects; depth: the number of variables in force, which is the number of the quantified one
module _ (r : Range) (depth : ℕ) where
  abbrev pub each : {A : Type 0} → (ℕ → A) → List A
  each instance = map instance (numbers r.first r.count)

  -- whole, the part of a conjunction, as the parts that stand in its place; layer by layer
  module _ (whole : Formula) where
    abbrev pub negated_literal : Formula-F Formula → List Formula
    negated_literal (Formula-F.Holds a) = each (λ o. Not (Holds (placed_atom depth o a)))
    negated_literal other = whole ∷ []

    abbrev pub literal : Formula-F Formula → List Formula
    literal (Formula-F.Holds a) = each (λ o. Holds (placed_atom depth o a))
    literal (Formula-F.Not f) = negated_literal (out-Formula f)
    literal other = whole ∷ []

    abbrev pub quantified : Formula-F Formula → List Formula
    quantified (Formula-F.Forall (x ∷ []) f) = cond (x.ty == r.ty) (literal (out-Formula f)) (whole ∷ [])
    quantified other = whole ∷ []

  abbrev pub condition_parts : Formula → List Formula
  condition_parts f = quantified f (out-Formula f)

  module _ (whole : Effect) where
    abbrev pub conditional_add : Formula-F Formula → Effect-F Effect → List Effect
    conditional_add (Formula-F.Holds a) (Effect-F.Add k) = each (λ o. E.When (Holds (placed_atom depth o a)) (E.Add (placed_atom depth o k)))
    conditional_add f e = whole ∷ []

    abbrev pub change : Effect-F Effect → List Effect
    change (Effect-F.Delete a) = each (λ o. E.Delete (placed_atom depth o a))
    change (Effect-F.When f e) = conditional_add (out-Formula f) (out-Effect e)
    change other = whole ∷ []

    abbrev pub quantified_change : Effect-F Effect → List Effect
    quantified_change (Effect-F.Forall (x ∷ []) e) = cond (x.ty == r.ty) (change (out-Effect e)) (whole ∷ [])
    quantified_change other = whole ∷ []

  abbrev pub effect_parts : Effect → List Effect
  effect_parts e = quantified_change e (out-Effect e)

  -- a conjunction, part by part; anything else is as it was
  abbrev pub condition_of : Formula → Formula-F Formula → Formula
  condition_of whole (Formula-F.And fs) = And (joined (map condition_parts fs))
  condition_of whole other = whole

  abbrev pub condition : Formula → Formula
  condition f = condition_of f (out-Formula f)

  abbrev pub effect_of : Effect → Effect-F Effect → Effect
  effect_of whole (Effect-F.And es) = E.And (joined (map effect_parts es))
  effect_of whole other = whole

  abbrev pub effect : Effect → Effect
  effect e = effect_of e (out-Effect e)

abbrev pub action : Range → ActionSchema → ActionSchema
action r a = record { name = a.name; params = a.params; pre = condition r (length a.params) a.pre; eff = effect r (length a.params) a.eff }

-- the value with these objects written out in its actions and its goal
abbrev pub written_out : Range → Pddl → Pddl
written_out r p = record {
  names = p.names;
  domain = p.domain;
  problem = p.problem;
  types = p.types;
  objects = p.objects;
  predicates = p.predicates;
  actions = map (action r) p.actions;
  init = p.init;
  goal = condition r 0 p.goal;
}
