-- That each of some variables has the lowest object that is free, but for those of the variables before it.
-- Source: this project's.
use Rattle.std.specs.Prelude.{ℕ, zero, suc, Option, None, Some, List, [], ◌∷◌, map}
use Rattle.plan_model.specs.task_networks.Spelling.{numbers}
use Rattle.plan_model.specs.declared.terms.Term.TheVariants.{Var}
use Rattle.plan_model.specs.declared.formulas.Formula.{Formula}
use Rattle.plan_model.specs.declared.formulas.Formula.TheVariants.{Holds, Equal, Not, And, Or, Imply, Forall}
use Rattle.pddl_printer.specs.declared.lowest.Lowest.{Lowest}

module _ (l : Lowest) where
  -- the other variable's object is free, and lower than that of variable v
  abbrev pub belows : ℕ → List Formula
  belows v = Holds (record { predicate = l.free; args = Var l.x ∷ [] }) ∷ Holds (record { predicate = l.less; args = Var l.x ∷ Var v ∷ [] }) ∷ []

  abbrev pub below : ℕ → Formula
  below v = And (belows v)

  abbrev pub taken : ℕ → Formula
  taken j = Equal (Var l.x) (Var j)

  -- what is free and lower than variable k is one of the variables before it
  abbrev pub lowest_body : ℕ → Formula
  lowest_body zero = And []
  lowest_body (suc zero) = Not (below 1)
  lowest_body (suc (suc k)) = Imply (below (suc (suc k))) (Or (map taken (numbers 1 (suc k))))

  abbrev pub is_lowest : ℕ → Formula
  is_lowest k = Forall (l.other ∷ []) (lowest_body k)

-- of the variables 1 to spare, if it is said of them
abbrev pub lowest_of : Option Lowest → (spare : ℕ) → List Formula
lowest_of None spare = []
lowest_of (Some l) spare = map (is_lowest l) (numbers 1 spare)
