-- The nested lists that are printed for the parts of a value.
-- Source: appendix A (grammar) of Fox and Long, "PDDL2.1", JAIR 20, 2003, level 1; the layout is this project's.
use Rattle.std.specs.Prelude.{ℕ, List, [], ◌∷◌, ◌++◌, map, codes}
use Rattle.text_forms.specs.Lists.{Part, Parts, name, group, nothing, part}
use Rattle.text_forms.specs.Words.{Word, word_at}
use Rattle.text_forms.specs.Printing.{headed}
use Rattle.plan_texts.specs.Declared.{Declared, kind_at, variable}
use Rattle.plan_model.specs.declared.terms.Term.{Term}
use Rattle.plan_model.specs.declared.terms.Term.TheVariants.{Var, Obj}
use Rattle.plan_model.specs.declared.terms.Param.{Param}
use Rattle.plan_model.specs.declared.formulas.Formula.{Formula}
use Rattle.plan_model.specs.declared.formulas.Formula.TheFolds.{fold-Formula}
use Rattle.plan_model.specs.declared.formulas.Formula.TheOpen.{Formula-F}
use Rattle.plan_model.specs.declared.effects.Effect.{Effect}
use Rattle.plan_model.specs.declared.effects.Effect.TheFolds.{fold-Effect}
use Rattle.plan_model.specs.declared.effects.Effect.TheOpen.{Effect-F}

abbrev pub all_parts : List Part → Parts
all_parts [] = nothing
all_parts (p ∷ ps) = part p (all_parts ps)

-- one type as its word, a union as ( either A B )
abbrev pub kind_part : List Word → Part
kind_part [] = name []
kind_part (w ∷ []) = name w
kind_part (w ∷ u ∷ ws) = headed (codes "either") (all_parts (map name (w ∷ u ∷ ws)))

-- a typed list with the type behind each word
abbrev pub typed_parts : List (Word × List Word) → Parts
typed_parts [] = nothing
typed_parts (x ∷ xs) = part (name x.0) (part (name (codes "-")) (part (kind_part x.1) (typed_parts xs)))

module _ (v : Declared) where
  abbrev pub term_part : List Word → Term → Part
  term_part scope (Var k) = name (63 ∷ word_at scope k)
  term_part scope (Obj o) = name (word_at v.objects o)

  abbrev pub applied_part : List Word → ℕ → List Term → Part
  applied_part scope n ts = headed (word_at v.predicates n) (all_parts (map (term_part scope) ts))

  abbrev pub param_words : Param → Word × List Word
  param_words x = (63 ∷ variable v x, kind_at v x.ty)

  abbrev pub params_parts : List Param → Parts
  params_parts xs = typed_parts (map param_words xs)

  abbrev pub formula_part_step : Formula-F (List Word → Part) → List Word → Part
  formula_part_step (Formula-F.Holds a) scope = applied_part scope a.predicate a.args
  formula_part_step (Formula-F.Equal s t) scope = headed (codes "=") (part (term_part scope s) (part (term_part scope t) nothing))
  formula_part_step (Formula-F.Not f) scope = headed (codes "not") (part (f scope) nothing)
  formula_part_step (Formula-F.And fs) scope = headed (codes "and") (all_parts (map (λ f. f scope) fs))
  formula_part_step (Formula-F.Or fs) scope = headed (codes "or") (all_parts (map (λ f. f scope) fs))
  formula_part_step (Formula-F.Imply f g) scope = headed (codes "imply") (part (f scope) (part (g scope) nothing))
  formula_part_step (Formula-F.Forall xs f) scope = headed (codes "forall") (part (group (params_parts xs)) (part (f (scope ++ map (variable v) xs)) nothing))
  formula_part_step (Formula-F.Exists xs f) scope = headed (codes "exists") (part (group (params_parts xs)) (part (f (scope ++ map (variable v) xs)) nothing))

  abbrev pub formula_part : Formula → List Word → Part
  formula_part = fold-Formula (List Word → Part) formula_part_step

  abbrev pub effect_part_step : Effect-F (List Word → Part) → List Word → Part
  effect_part_step (Effect-F.Add a) scope = applied_part scope a.predicate a.args
  effect_part_step (Effect-F.Delete a) scope = headed (codes "not") (part (applied_part scope a.predicate a.args) nothing)
  effect_part_step (Effect-F.And es) scope = headed (codes "and") (all_parts (map (λ e. e scope) es))
  effect_part_step (Effect-F.Forall xs e) scope = headed (codes "forall") (part (group (params_parts xs)) (part (e (scope ++ map (variable v) xs)) nothing))
  effect_part_step (Effect-F.When f e) scope = headed (codes "when") (part (formula_part f scope) (part (e scope) nothing))

  abbrev pub effect_part : Effect → List Word → Part
  effect_part = fold-Effect (List Word → Part) effect_part_step
