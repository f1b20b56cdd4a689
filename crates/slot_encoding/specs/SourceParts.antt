-- Source names, types, formulas and effects as they stand in the printed problem: names escaped, types after the two generated ones,
-- and further variables in front of the parameters.
-- Source: this project's encoding, after Alford et al., "Bound to Plan", ICAPS 2016.
use Rattle.std.specs.Prelude.{ℕ, zero, suc, ◌+◌, List, [], map, length, slice_index_or, unwrap_or}
use Rattle.htn_base.specs.Table.{number_of}
use Rattle.htn_base.specs.Escapes.{escaped}
use Rattle.htn_base.specs.declared.name.Name.{Name}
use Rattle.plan_model.specs.declared.terms.Term.{Term}
use Rattle.plan_model.specs.declared.terms.Term.TheVariants.{Var, Obj}
use Rattle.plan_model.specs.declared.terms.Atom.{Atom}
use Rattle.plan_model.specs.declared.terms.Param.{Param}
use Rattle.plan_model.specs.declared.formulas.Formula.{Formula, roll-Formula}
use Rattle.plan_model.specs.declared.formulas.Formula.TheFolds.{fold-Formula}
use Rattle.plan_model.specs.declared.formulas.Formula.TheOpen.{Formula-F}
use Rattle.plan_model.specs.declared.effects.Effect.{Effect, roll-Effect}
use Rattle.plan_model.specs.declared.effects.Effect.TheFolds.{fold-Effect}
use Rattle.plan_model.specs.declared.effects.Effect.TheOpen.{Effect-F}

-- the name of a word; a word that the table lacks has a number past its end, which is no name of any word
abbrev pub name : List (List ℕ) → List ℕ → Name
name names word = record { number = unwrap_or (number_of names word) (length names) }

-- type `object` of the source is the second generated type; the others follow it, unions too
abbrev pub retyped : ℕ → ℕ
retyped zero = 2
retyped (suc t) = suc t + 2

-- the printed word of a source name
abbrev pub source_word : List (List ℕ) → Name → List ℕ
source_word source n = escaped (slice_index_or source n.number [])

-- names: the words of the printed problem; source: those of the source problem
module _ (names source : List (List ℕ)) where
  abbrev pub renamed : Name → Name
  renamed n = name names (source_word source n)

  abbrev pub source_param : Param → Param
  source_param p = record { name = renamed p.name; ty = retyped p.ty }

  -- front: how many variables stand in front of the parameters
  module _ (front : ℕ) where
    abbrev pub moved : Term → Term
    moved (Var k) = Var (front + k)
    moved (Obj o) = Obj o

    abbrev pub source_atom : Atom → Atom
    source_atom a = record { predicate = a.predicate; args = map moved a.args }

    abbrev pub formula_layer : Formula-F Formula → Formula-F Formula
    formula_layer (Formula-F.Holds a) = Formula-F.Holds (source_atom a)
    formula_layer (Formula-F.Equal s t) = Formula-F.Equal (moved s) (moved t)
    formula_layer (Formula-F.Not f) = Formula-F.Not f
    formula_layer (Formula-F.And fs) = Formula-F.And fs
    formula_layer (Formula-F.Or fs) = Formula-F.Or fs
    formula_layer (Formula-F.Imply f g) = Formula-F.Imply f g
    formula_layer (Formula-F.Forall ps f) = Formula-F.Forall (map source_param ps) f
    formula_layer (Formula-F.Exists ps f) = Formula-F.Exists (map source_param ps) f

    abbrev pub source_formula : Formula → Formula
    source_formula = fold-Formula Formula (λ layer. roll-Formula (formula_layer layer))

    abbrev pub effect_layer : Effect-F Effect → Effect-F Effect
    effect_layer (Effect-F.Add a) = Effect-F.Add (source_atom a)
    effect_layer (Effect-F.Delete a) = Effect-F.Delete (source_atom a)
    effect_layer (Effect-F.And es) = Effect-F.And es
    effect_layer (Effect-F.Forall ps e) = Effect-F.Forall (map source_param ps) e
    effect_layer (Effect-F.When f e) = Effect-F.When (source_formula f) e

    abbrev pub source_effect : Effect → Effect
    source_effect = fold-Effect Effect (λ layer. roll-Effect (effect_layer layer))
