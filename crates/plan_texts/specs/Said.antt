-- A formula and an effect with words in the place of the numbers of names and types.
-- Source: this project's.
use Rattle.std.specs.Prelude.{ℕ, List, [], ◌∷◌, map}
use Rattle.text_forms.specs.Words.{Word}
use Rattle.plan_texts.specs.Declared.{Declared, kind_at, variable}
use Rattle.plan_model.specs.declared.terms.Term.{Term}
use Rattle.plan_model.specs.declared.terms.Param.{Param}
use Rattle.plan_model.specs.declared.formulas.Formula.{Formula}
use Rattle.plan_model.specs.declared.formulas.Formula.TheFolds.{fold-Formula}
use Rattle.plan_model.specs.declared.formulas.Formula.TheOpen.{Formula-F}
use Rattle.plan_model.specs.declared.effects.Effect.{Effect}
use Rattle.plan_model.specs.declared.effects.Effect.TheFolds.{fold-Effect}
use Rattle.plan_model.specs.declared.effects.Effect.TheOpen.{Effect-F}

-- a word with the words of its type
abbrev pub Typed : Type 0
Typed = Word × List Word

mutual
  pub data Said : Type 0 where
    holds : ℕ → List Term → Said
    equal : Term → Term → Said
    no : Said → Said
    all : Saids → Said
    any : Saids → Said
    imply : Said → Said → Said
    every : List Typed → Said → Said
    some : List Typed → Said → Said

  pub data Saids : Type 0 where
    none : Saids
    more : Said → Saids → Saids

mutual
  pub data Done : Type 0 where
    adds : ℕ → List Term → Done
    deletes : ℕ → List Term → Done
    both : Dones → Done
    for_every : List Typed → Done → Done
    when : Said → Done → Done

  pub data Dones : Type 0 where
    no_more : Dones
    and_more : Done → Dones → Dones

abbrev pub saids : List Said → Saids
saids [] = none
saids (s ∷ ss) = more s (saids ss)

abbrev pub dones : List Done → Dones
dones [] = no_more
dones (d ∷ ds) = and_more d (dones ds)

module _ (v : Declared) where
  abbrev pub typed : Param → Typed
  typed x = (variable v x, kind_at v x.ty)

  abbrev pub said_step : Formula-F Said → Said
  said_step (Formula-F.Holds a) = holds a.predicate a.args
  said_step (Formula-F.Equal s t) = equal s t
  said_step (Formula-F.Not f) = no f
  said_step (Formula-F.And fs) = all (saids fs)
  said_step (Formula-F.Or fs) = any (saids fs)
  said_step (Formula-F.Imply f g) = imply f g
  said_step (Formula-F.Forall xs f) = every (map typed xs) f
  said_step (Formula-F.Exists xs f) = some (map typed xs) f

  abbrev pub said : Formula → Said
  said = fold-Formula Said said_step

  abbrev pub done_step : Effect-F Done → Done
  done_step (Effect-F.Add a) = adds a.predicate a.args
  done_step (Effect-F.Delete a) = deletes a.predicate a.args
  done_step (Effect-F.And es) = both (dones es)
  done_step (Effect-F.Forall xs e) = for_every (map typed xs) e
  done_step (Effect-F.When f e) = when (said f) e

  abbrev pub done : Effect → Done
  done = fold-Effect Done done_step
