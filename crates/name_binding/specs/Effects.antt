-- The effect that a written one stands for, and its faults, by the variables in force around it.
-- Source: scopes as in PDDL 2.1 (Fox and Long, JAIR 20, 2003, level 1): a quantifier's variables are in force in its part.
use Rattle.std.specs.Prelude.{ℕ, List, ◌++◌, map, flat_map}
use Rattle.name_binding.specs.declared.faults.Spot.{Spot}
use Rattle.name_binding.specs.Entered.{variables_of}
use Rattle.name_binding.specs.Typed.{params_bound, params_faults}
use Rattle.gd_reader.specs.declared.effects.RawEffect.{RawEffect}
use Rattle.gd_reader.specs.declared.effects.RawEffect.TheFolds.{fold-RawEffect}
use Rattle.gd_reader.specs.declared.effects.RawEffect.TheOpen.{RawEffect-F}
use Rattle.plan_model.specs.declared.effects.Effect.{Effect}
use Rattle.plan_model.specs.declared.effects.Effect.TheVariants as effect
use Rattle.name_binding.specs.declared.known.Known.{Known}
use Rattle.name_binding.specs.Atoms.{atom_bound, atom_faults}
use Rattle.name_binding.specs.Formulas.{formula_bound, formula_faults}

module _ (known : Known) where
  -- one level, where each part has what it stands for in each scope
  abbrev pub effect_step : RawEffect-F (List ℕ → Effect) → List ℕ → Effect
  effect_step (RawEffect-F.Add a) scope = effect.Add (atom_bound known scope a)
  effect_step (RawEffect-F.Delete a) scope = effect.Delete (atom_bound known scope a)
  effect_step (RawEffect-F.And es) scope = effect.And (map (λ e. e scope) es)
  effect_step (RawEffect-F.Forall xs e) scope = effect.Forall (params_bound known.types xs) (e (scope ++ variables_of xs))
  effect_step (RawEffect-F.When f e) scope = effect.When (formula_bound known scope f) (e scope)

  abbrev pub effect_bound : List ℕ → RawEffect → Effect
  effect_bound scope e = fold-RawEffect (List ℕ → Effect) effect_step e scope

  abbrev pub effects_bound : List ℕ → List RawEffect → List Effect
  effects_bound scope es = map (effect_bound scope) es

  -- one level, where each part has its faults in each scope
  abbrev pub effect_faults_step : RawEffect-F (List ℕ → List Spot) → List ℕ → List Spot
  effect_faults_step (RawEffect-F.Add a) scope = atom_faults known scope a
  effect_faults_step (RawEffect-F.Delete a) scope = atom_faults known scope a
  effect_faults_step (RawEffect-F.And es) scope = flat_map (λ e. e scope) es
  effect_faults_step (RawEffect-F.Forall xs e) scope = params_faults known.types xs ++ e (scope ++ variables_of xs)
  effect_faults_step (RawEffect-F.When f e) scope = formula_faults known scope f ++ e scope

  abbrev pub effect_faults : List ℕ → RawEffect → List Spot
  effect_faults scope e = fold-RawEffect (List ℕ → List Spot) effect_faults_step e scope

  abbrev pub effects_faults : List ℕ → List RawEffect → List Spot
  effects_faults scope es = flat_map (effect_faults scope) es
