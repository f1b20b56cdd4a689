-- The formula that a written one stands for, and its faults, by the variables in force around it.
-- Source: scopes as in PDDL 2.1 (Fox and Long, JAIR 20, 2003, level 1): a quantifier's variables are in force in its part.
use Rattle.std.specs.Prelude.{ℕ, List, ◌++◌, map, flat_map}
use Rattle.name_binding.specs.declared.faults.Spot.{Spot}
use Rattle.name_binding.specs.Entered.{variables_of}
use Rattle.name_binding.specs.Terms.{term_bound, term_faults}
use Rattle.name_binding.specs.Typed.{params_bound, params_faults}
use Rattle.gd_reader.specs.declared.formulas.RawFormula.{RawFormula}
use Rattle.gd_reader.specs.declared.formulas.RawFormula.TheFolds.{fold-RawFormula}
use Rattle.gd_reader.specs.declared.formulas.RawFormula.TheOpen.{RawFormula-F}
use Rattle.plan_model.specs.declared.formulas.Formula.{Formula}
use Rattle.plan_model.specs.declared.formulas.Formula.TheVariants as formula
use Rattle.name_binding.specs.declared.known.Known.{Known}
use Rattle.name_binding.specs.Atoms.{atom_bound, atom_faults}

module _ (known : Known) where
  -- one level, where each part has what it stands for in each scope
  abbrev pub formula_step : RawFormula-F (List ℕ → Formula) → List ℕ → Formula
  formula_step (RawFormula-F.Holds a) scope = formula.Holds (atom_bound known scope a)
  formula_step (RawFormula-F.Equal s t) scope = formula.Equal (term_bound known.objects scope s) (term_bound known.objects scope t)
  formula_step (RawFormula-F.Not f) scope = formula.Not (f scope)
  formula_step (RawFormula-F.And fs) scope = formula.And (map (λ f. f scope) fs)
  formula_step (RawFormula-F.Or fs) scope = formula.Or (map (λ f. f scope) fs)
  formula_step (RawFormula-F.Imply f g) scope = formula.Imply (f scope) (g scope)
  formula_step (RawFormula-F.Forall xs f) scope = formula.Forall (params_bound known.types xs) (f (scope ++ variables_of xs))
  formula_step (RawFormula-F.Exists xs f) scope = formula.Exists (params_bound known.types xs) (f (scope ++ variables_of xs))

  abbrev pub formula_bound : List ℕ → RawFormula → Formula
  formula_bound scope f = fold-RawFormula (List ℕ → Formula) formula_step f scope

  abbrev pub formulas_bound : List ℕ → List RawFormula → List Formula
  formulas_bound scope fs = map (formula_bound scope) fs

  -- one level, where each part has its faults in each scope
  abbrev pub formula_faults_step : RawFormula-F (List ℕ → List Spot) → List ℕ → List Spot
  formula_faults_step (RawFormula-F.Holds a) scope = atom_faults known scope a
  formula_faults_step (RawFormula-F.Equal s t) scope = term_faults known.objects scope s ++ term_faults known.objects scope t
  formula_faults_step (RawFormula-F.Not f) scope = f scope
  formula_faults_step (RawFormula-F.And fs) scope = flat_map (λ f. f scope) fs
  formula_faults_step (RawFormula-F.Or fs) scope = flat_map (λ f. f scope) fs
  formula_faults_step (RawFormula-F.Imply f g) scope = f scope ++ g scope
  formula_faults_step (RawFormula-F.Forall xs f) scope = params_faults known.types xs ++ f (scope ++ variables_of xs)
  formula_faults_step (RawFormula-F.Exists xs f) scope = params_faults known.types xs ++ f (scope ++ variables_of xs)

  abbrev pub formula_faults : List ℕ → RawFormula → List Spot
  formula_faults scope f = fold-RawFormula (List ℕ → List Spot) formula_faults_step f scope

  abbrev pub formulas_faults : List ℕ → List RawFormula → List Spot
  formulas_faults scope fs = flat_map (formula_faults scope) fs
