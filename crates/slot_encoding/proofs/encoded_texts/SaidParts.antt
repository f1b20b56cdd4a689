-- What is printed for a formula, and for an effect, is a function of what it says.
use Rattle.std.proofs.Common.{◌≡◌, List, [], ◌∷◌, ◌++◌, map, codes, refl, ap, ap₂, sym, subst, ◌∙◌}
use Rattle.text_forms.specs.Lists.{Part, Parts, group, nothing, part}
use Rattle.text_forms.specs.Words.{Word}
use Rattle.text_forms.specs.Printing.{headed}
use Rattle.plan_texts.specs.Declared.{Declared, variable}
use Rattle.plan_texts.specs.Printed.{all_parts, typed_parts, term_part, applied_part, param_words, params_parts, formula_part_step, formula_part, effect_part_step, effect_part}
use Rattle.plan_texts.specs.Said.{Typed, typed, Said, holds, equal, no, all, any, imply, every, some, Saids, none, more, saids, said_step, said, Done, adds, deletes, both, for_every, when, Dones, no_more, and_more, dones, done_step, done}
use Rattle.plan_texts.proofs.Spelled.{part_roll}
use Rattle.plan_texts.proofs.SpelledEffects.{effect-part_roll}
use Rattle.plan_texts.proofs.Readings.{said_roll}
use Rattle.plan_texts.proofs.Effects.{done_roll}
use Rattle.plan_model.specs.declared.terms.Param.{Param}
use Rattle.plan_model.specs.declared.formulas.Formula.{Formula, roll-Formula}
use Rattle.plan_model.specs.declared.formulas.Formula.TheFolds.{map-Formula, ind-Formula}
use Rattle.plan_model.specs.declared.formulas.Formula.TheOpen.{Formula-F}
use Rattle.plan_model.specs.declared.effects.Effect.{Effect, roll-Effect}
use Rattle.plan_model.specs.declared.effects.Effect.TheFolds.{map-Effect, ind-Effect}
use Rattle.plan_model.specs.declared.effects.Effect.TheOpen.{Effect-F}

-- the words of objects and predicates alone
abbrev pub bare : List Word → List Word → Declared
bare objects predicates = record { names = []; types = []; unions = []; objects = objects; predicates = predicates }

abbrev pub words_of : List Typed → List Word
words_of xs = map (λ (x : Typed). x.0) xs

pub words-typed : (v : Declared) (xs : List Param) → map (variable v) xs ≡ words_of (map (typed v) xs)
words-typed v [] = refl
words-typed v (x ∷ xs) = ap (λ z. variable v x ∷ z) (words-typed v xs)

-- a variable with its type
abbrev pub marked : Typed → Word × List Word
marked x = (63 ∷ x.0, x.1)

abbrev pub put_params : List Typed → Parts
put_params xs = typed_parts (map marked xs)

module _ (objects predicates : List Word) where
  abbrev mutual
    pub put : Said → List Word → Part
    put (holds n ts) scope = applied_part (bare objects predicates) scope n ts
    put (equal s t) scope = headed (codes "=") (part (term_part (bare objects predicates) scope s) (part (term_part (bare objects predicates) scope t) nothing))
    put (no f) scope = headed (codes "not") (part (put f scope) nothing)
    put (all fs) scope = headed (codes "and") (all_parts (puts fs scope))
    put (any fs) scope = headed (codes "or") (all_parts (puts fs scope))
    put (imply f g) scope = headed (codes "imply") (part (put f scope) (part (put g scope) nothing))
    put (every xs f) scope = headed (codes "forall") (part (group (put_params xs)) (part (put f (scope ++ words_of xs)) nothing))
    put (some xs f) scope = headed (codes "exists") (part (group (put_params xs)) (part (put f (scope ++ words_of xs)) nothing))

    puts : Saids → List Word → List Part
    puts none scope = []
    puts (more f fs) scope = put f scope ∷ puts fs scope

  abbrev mutual
    pub put_done : Done → List Word → Part
    put_done (adds n ts) scope = applied_part (bare objects predicates) scope n ts
    put_done (deletes n ts) scope = headed (codes "not") (part (applied_part (bare objects predicates) scope n ts) nothing)
    put_done (both ds) scope = headed (codes "and") (all_parts (put_dones ds scope))
    put_done (for_every xs d) scope = headed (codes "forall") (part (group (put_params xs)) (part (put_done d (scope ++ words_of xs)) nothing))
    put_done (when f d) scope = headed (codes "when") (part (put f scope) (part (put_done d scope) nothing))

    put_dones : Dones → List Word → List Part
    put_dones no_more scope = []
    put_dones (and_more d ds) scope = put_done d scope ∷ put_dones ds scope

module _ (v : Declared) where
  pub params-put : (xs : List Param) → params_parts v xs ≡ put_params (map (typed v) xs)
  params-put xs = ap typed_parts (go xs)
    where
      go : (xs : List Param) → map (param_words v) xs ≡ map marked (map (typed v) xs)
      go [] = refl
      go (x ∷ xs) = ap (λ z. param_words v x ∷ z) (go xs)

  quantified : (word : Word) (xs : List Param) (scope : List Word) (f : List Word → Part) (g : List Word → Part) → ((scope : List Word) → f scope ≡ g scope)
      → headed word (part (group (params_parts v xs)) (part (f (scope ++ map (variable v) xs)) nothing)) ≡ headed word (part (group (put_params (map (typed v) xs))) (part (g (scope ++ words_of (map (typed v) xs))) nothing))
  quantified word xs scope f g h =
      let a = params-put xs in let e = h (scope ++ map (variable v) xs) ∙ ap (λ z. g (scope ++ z)) (words-typed v xs) in
      λ i. headed word (part (group (a i)) (part (e i) nothing))

  abbrev Put : Said → List Word → Part
  Put = put v.objects v.predicates

  abbrev Puts : Saids → List Word → List Part
  Puts = puts v.objects v.predicates

  abbrev Claim : Formula → Type 0
  Claim f = (scope : List Word) → formula_part v f scope ≡ Put (said v f) scope

  each : (fs : List ((f : Formula) × Claim f)) (scope : List Word) → map (λ p. p scope) (map (formula_part v) (map (λ e. e.0) fs)) ≡ Puts (saids (map (said v) (map (λ e. e.0) fs))) scope
  each [] scope = refl
  each (f ∷ fs) scope = let g = f.1 scope in let h = each fs scope in λ i. g i ∷ h i

  abbrev Layer : Formula-F Formula → Type 0
  Layer x = (scope : List Word) → formula_part_step v (map-Formula Formula (List Word → Part) (formula_part v) x) scope ≡ Put (said_step v (map-Formula Formula Said (said v) x)) scope

  level : (y : Formula-F ((f : Formula) × Claim f)) → Layer (map-Formula ((f : Formula) × Claim f) Formula (λ e. e.0) y)
  level (Formula-F.Holds a) scope = refl
  level (Formula-F.Equal s t) scope = refl
  level (Formula-F.Not f) scope = ap (λ z. headed (codes "not") (part z nothing)) (f.1 scope)
  level (Formula-F.And fs) scope = ap (λ z. headed (codes "and") (all_parts z)) (each fs scope)
  level (Formula-F.Or fs) scope = ap (λ z. headed (codes "or") (all_parts z)) (each fs scope)
  level (Formula-F.Imply f g) scope = ap₂ (λ y z. headed (codes "imply") (part y (part z nothing))) (f.1 scope) (g.1 scope)
  level (Formula-F.Forall xs f) scope = quantified (codes "forall") xs scope (formula_part v f.0) (Put (said v f.0)) f.1
  level (Formula-F.Exists xs f) scope = quantified (codes "exists") xs scope (formula_part v f.0) (Put (said v f.0)) f.1

  pub formula-put : (f : Formula) → Claim f
  formula-put = ind-Formula Claim (λ x y is. subst (λ z. Claim (roll-Formula z)) is (claim (map-Formula ((f : Formula) × Claim f) Formula (λ e. e.0) y) (level y)))
    where
      claim : (x : Formula-F Formula) → Layer x → Claim (roll-Formula x)
      claim x h scope = ap (λ (z : List Word → Part). z scope) (part_roll v [] x) ∙ h scope ∙ ap (λ z. Put z scope) (sym (said_roll v x))

  abbrev PutDone : Done → List Word → Part
  PutDone = put_done v.objects v.predicates

  abbrev DoneClaim : Effect → Type 0
  DoneClaim e = (scope : List Word) → effect_part v e scope ≡ PutDone (done v e) scope

  each_done : (es : List ((e : Effect) × DoneClaim e)) (scope : List Word) → map (λ p. p scope) (map (effect_part v) (map (λ e. e.0) es)) ≡ put_dones v.objects v.predicates (dones (map (done v) (map (λ e. e.0) es))) scope
  each_done [] scope = refl
  each_done (e ∷ es) scope = let g = e.1 scope in let h = each_done es scope in λ i. g i ∷ h i

  abbrev DoneLayer : Effect-F Effect → Type 0
  DoneLayer x = (scope : List Word) → effect_part_step v (map-Effect Effect (List Word → Part) (effect_part v) x) scope ≡ PutDone (done_step v (map-Effect Effect Done (done v) x)) scope

  done_level : (y : Effect-F ((e : Effect) × DoneClaim e)) → DoneLayer (map-Effect ((e : Effect) × DoneClaim e) Effect (λ e. e.0) y)
  done_level (Effect-F.Add a) scope = refl
  done_level (Effect-F.Delete a) scope = refl
  done_level (Effect-F.And es) scope = ap (λ z. headed (codes "and") (all_parts z)) (each_done es scope)
  done_level (Effect-F.Forall xs e) scope = quantified (codes "forall") xs scope (effect_part v e.0) (PutDone (done v e.0)) e.1
  done_level (Effect-F.When f e) scope = ap₂ (λ y z. headed (codes "when") (part y (part z nothing))) (formula-put f scope) (e.1 scope)

  pub effect-put : (e : Effect) → DoneClaim e
  effect-put = ind-Effect DoneClaim (λ x y is. subst (λ z. DoneClaim (roll-Effect z)) is (claim (map-Effect ((e : Effect) × DoneClaim e) Effect (λ e. e.0) y) (done_level y)))
    where
      claim : (x : Effect-F Effect) → DoneLayer x → DoneClaim (roll-Effect x)
      claim x h scope = ap (λ (z : List Word → Part). z scope) (effect-part_roll v [] x) ∙ h scope ∙ ap (λ z. PutDone z scope) (sym (done_roll v x))
