-- In what texts spell the constants stand first, and the domain names these alone.
use Rattle.std.proofs.Common.{ℕ, suc, ◌≡◌, inl, inr, ◌<◌, not, cond, Bool, true, false, Option, Some, None, List, [], ◌∷◌, ◌++◌, map, filter, length, refl, ap, sym, subst, ◌∙◌, arith}
use Rattle.std.specs.Option.{option_map}
use Rattle.std.proofs.lemmas.Bool.{cond-true, cond-false}
use Rattle.std.proofs.lemmas.Option.{same_Some}
use Rattle.std.specs.Str.{bytes_eq}
use Rattle.htn_base.specs.declared.name.Name.{Name}
use Rattle.text_forms.specs.Lists.{Part, Parts, nothing, part}
use Rattle.text_forms.specs.Words.{Word, first_place}
use Rattle.plan_texts.specs.Declared.{Declared, variable, words_with}
use Rattle.plan_texts.specs.TypedLists.{Each, EachTyped, skipped}
use Rattle.plan_texts.specs.Types.{EachIs}
use Rattle.plan_texts.specs.Formulas.{IsTerm, IsApplied, formula_step, IsFormula, effect_step, IsEffect}
use Rattle.plan_texts.specs.Printable.{IsInForce, IsSoundAtom, sound_step, IsSound, sound_effect_step, IsSoundEffect}
use Rattle.plan_texts.specs.Schemas.{IsObject, IsAction}
use Rattle.plan_texts.specs.Networks.{IsConstraintBy, IsConstraint, IsSubtaskBy, IsSubtask, IsMethod}
use Rattle.plan_texts.specs.SpellsHddl.{hddl_words, task_words, action_words, SpellsHddl}
use Rattle.plan_texts.specs.SoundValue.{arities, scope_of, IsSoundHead, IsSoundMethod, IsSoundHddl}
use Rattle.plan_texts.proofs.Effects.{effect_roll}
use Rattle.plan_texts.proofs.Readings.{formula_roll}
use Rattle.plan_texts.proofs.Spelled.{sound_roll}
use Rattle.plan_texts.proofs.SpelledEffects.{sound_roll as effect-sound_roll}
use Rattle.plan_model.specs.declared.terms.Term.{Term}
use Rattle.plan_model.specs.declared.terms.Term.TheVariants.{Var, Obj}
use Rattle.plan_model.specs.declared.types.Object.{Object}
use Rattle.plan_model.specs.declared.formulas.Formula.{Formula, roll-Formula}
use Rattle.plan_model.specs.declared.formulas.Formula.TheFolds.{map-Formula, ind-Formula}
use Rattle.plan_model.specs.declared.formulas.Formula.TheOpen.{Formula-F}
use Rattle.plan_model.specs.declared.effects.Effect.{Effect, roll-Effect}
use Rattle.plan_model.specs.declared.effects.Effect.TheFolds.{map-Effect, ind-Effect}
use Rattle.plan_model.specs.declared.effects.Effect.TheOpen.{Effect-F}
use Rattle.plan_model.specs.declared.networks.Head.{Head}
use Rattle.plan_model.specs.declared.networks.Child.{Child}
use Rattle.plan_model.specs.declared.networks.Constraint.{Constraint}
use Rattle.plan_model.specs.declared.schemas.ActionSchema.{ActionSchema}
use Rattle.plan_model.specs.declared.schemas.MethodSchema.{MethodSchema}
use Rattle.plan_model.specs.declared.values.Hddl.{Hddl}
use Rattle.hddl_texts.specs.PrintedHddl.{constants_of, others_of}
use Rattle.hddl_texts.specs.Ids.{with_constants, IsOfTwoTexts}
use Rattle.hddl_texts.proofs.WithIds.{IsFit}

first-within : (w : Word) (ws : List Word) (k : ℕ) → first_place w ws ≡ Some k → k < length ws
first-within w [] k e = absurd (cc)
first-within w (u ∷ us) k e = go (bytes_eq w u) (first_place w us) (first-within w us) e
  where
    go : (b : Bool) (o : Option ℕ) → ((j : ℕ) → o ≡ Some j → j < length us) → cond b (Some 0) (option_map suc o) ≡ Some k → k < length (u ∷ us)
    go true o h f = let g = same_Some 0 k f in omega arith
    go false None h f = absurd (cc)
    go false (Some j) h f = let l = h j refl in let g = same_Some (suc j) k f in omega arith

-- the constants cs, and all objects os
module _ (h : Hddl) (cs : List Object) where
  abbrev c : Declared
  c = words_with h.names h.types h.predicates cs

  abbrev v : Declared
  v = hddl_words h

  abbrev ar : List ℕ
  ar = arities h

  named-term : (scope : List Word) (t : Term) (p : Part) → IsTerm c scope t p → IsInForce v ar scope t → IsInForce c ar scope t
  named-term scope (Var k) p e s = s
  named-term scope (Obj o) p e s = first-within e.0 c.objects o e.3

  named-terms : (scope : List Word) (ts : List Term) (ps : Parts) → Each (IsTerm c scope) ts ps → EachIs (IsInForce v ar scope) ts → EachIs (IsInForce c ar scope) ts
  named-terms scope [] ps e s = tt
  named-terms scope (t ∷ ts) nothing e s = absurd e
  named-terms scope (t ∷ ts) (part p ps) e s = (named-term scope t p e.0 s.0, named-terms scope ts ps e.1 s.1)

  named-atom : (scope : List Word) (n : ℕ) (ts : List Term) (p : Part) → IsApplied c scope n ts p → IsSoundAtom v ar scope n ts → IsSoundAtom c ar scope n ts
  named-atom scope n ts p e s = (s.0, s.1, named-terms scope ts e.1 e.5 s.2)

  abbrev Claim : Formula → Type 0
  Claim f = (scope : List Word) (p : Part) → IsFormula c f scope p → IsSound v ar f scope → IsSound c ar f scope

  abbrev Layer : Formula-F Formula → Type 0
  Layer x = (scope : List Word) (p : Part) → formula_step c (IsFormula c) x scope p → sound_step v ar (IsSound v ar) x scope → sound_step c ar (IsSound c ar) x scope

  each : (fs : List ((f : Formula) × Claim f)) (scope : List Word) (ps : Parts) → Each (λ f. IsFormula c f scope) (map (λ e. e.0) fs) ps → EachIs (λ f. IsSound v ar f scope) (map (λ e. e.0) fs) → EachIs (λ f. IsSound c ar f scope) (map (λ e. e.0) fs)
  each [] scope ps e s = tt
  each (f ∷ fs) scope nothing e s = absurd e
  each (f ∷ fs) scope (part p ps) e s = (f.1 scope p e.0 s.0, each fs scope ps e.1 s.1)

  all_of : (fs : List ((f : Formula) × Claim f)) (scope : List Word) (p : Part) → formula_step c (IsFormula c) (Formula-F.And (map (λ e. e.0) fs)) scope p → EachIs (λ f. IsSound v ar f scope) (map (λ e. e.0) fs) → EachIs (λ f. IsSound c ar f scope) (map (λ e. e.0) fs)
  all_of fs scope p (inl e) s = each fs scope e.0 e.2 s
  all_of [] scope p (inr e) s = tt
  all_of (f ∷ fs) scope p (inr e) s = absurd e.0

  level : (y : Formula-F ((f : Formula) × Claim f)) → Layer (map-Formula ((f : Formula) × Claim f) Formula (λ e. e.0) y)
  level (Formula-F.Holds a) scope p e s = named-atom scope a.predicate a.args p e s
  level (Formula-F.Equal t u) scope p e s = (named-term scope t e.0 e.3 s.0, named-term scope u e.1 e.4 s.1)
  level (Formula-F.Not f) scope p e s = f.1 scope e.0 e.2 s
  level (Formula-F.And fs) scope p e s = all_of fs scope p e s
  level (Formula-F.Or fs) scope p e s = each fs scope e.0 e.2 s
  level (Formula-F.Imply f g) scope p e s = (f.1 scope e.0 e.3 s.0, g.1 scope e.1 e.4 s.1)
  level (Formula-F.Forall xs f) scope p e s = (s.0, f.1 (scope ++ map (variable c) xs) e.1 e.4 s.1)
  level (Formula-F.Exists xs f) scope p e s = (s.0, f.1 (scope ++ map (variable c) xs) e.1 e.4 s.1)

  named-formula : (f : Formula) → Claim f
  named-formula = ind-Formula Claim (λ x y is. subst (λ z. Claim (roll-Formula z)) is (claim (map-Formula ((f : Formula) × Claim f) Formula (λ e. e.0) y) (level y)))
    where
      claim : (x : Formula-F Formula) → Layer x → Claim (roll-Formula x)
      claim x l scope p e s =
          subst (λ (z : List Word → Type 0). z scope) (sym (sound_roll c ar x))
          (l scope p (subst (λ (z : List Word → Part → Type 0). z scope p) (formula_roll c x) e) (subst (λ (z : List Word → Type 0). z scope) (sound_roll v ar x) s))

  abbrev Effect_claim : Effect → Type 0
  Effect_claim f = (scope : List Word) (p : Part) → IsEffect c f scope p → IsSoundEffect v ar f scope → IsSoundEffect c ar f scope

  abbrev Effect_layer : Effect-F Effect → Type 0
  Effect_layer x = (scope : List Word) (p : Part) → effect_step c (IsEffect c) x scope p → sound_effect_step v ar (IsSoundEffect v ar) x scope → sound_effect_step c ar (IsSoundEffect c ar) x scope

  each_effect : (fs : List ((f : Effect) × Effect_claim f)) (scope : List Word) (ps : Parts) → Each (λ f. IsEffect c f scope) (map (λ e. e.0) fs) ps → EachIs (λ f. IsSoundEffect v ar f scope) (map (λ e. e.0) fs) → EachIs (λ f. IsSoundEffect c ar f scope) (map (λ e. e.0) fs)
  each_effect [] scope ps e s = tt
  each_effect (f ∷ fs) scope nothing e s = absurd e
  each_effect (f ∷ fs) scope (part p ps) e s = (f.1 scope p e.0 s.0, each_effect fs scope ps e.1 s.1)

  all_effects : (fs : List ((f : Effect) × Effect_claim f)) (scope : List Word) (p : Part) → effect_step c (IsEffect c) (Effect-F.And (map (λ e. e.0) fs)) scope p → EachIs (λ f. IsSoundEffect v ar f scope) (map (λ e. e.0) fs) → EachIs (λ f. IsSoundEffect c ar f scope) (map (λ e. e.0) fs)
  all_effects fs scope p (inl e) s = each_effect fs scope e.0 e.2 s
  all_effects [] scope p (inr e) s = tt
  all_effects (f ∷ fs) scope p (inr e) s = absurd e.0

  effect-level : (y : Effect-F ((f : Effect) × Effect_claim f)) → Effect_layer (map-Effect ((f : Effect) × Effect_claim f) Effect (λ e. e.0) y)
  effect-level (Effect-F.Add a) scope p e s = named-atom scope a.predicate a.args p e s
  effect-level (Effect-F.Delete a) scope p e s = named-atom scope a.predicate a.args e.0 e.2 s
  effect-level (Effect-F.And fs) scope p e s = all_effects fs scope p e s
  effect-level (Effect-F.Forall xs f) scope p e s = (s.0, f.1 (scope ++ map (variable c) xs) e.1 e.4 s.1)
  effect-level (Effect-F.When f g) scope p e s = (named-formula f scope e.0 e.3 s.0, g.1 scope e.1 e.4 s.1)

  named-effect : (f : Effect) → Effect_claim f
  named-effect = ind-Effect Effect_claim (λ x y is. subst (λ z. Effect_claim (roll-Effect z)) is (claim (map-Effect ((f : Effect) × Effect_claim f) Effect (λ e. e.0) y) (effect-level y)))
    where
      claim : (x : Effect-F Effect) → Effect_layer x → Effect_claim (roll-Effect x)
      claim x l scope p e s =
          subst (λ (z : List Word → Type 0). z scope) (sym (effect-sound_roll c ar x))
          (l scope p (subst (λ (z : List Word → Part → Type 0). z scope p) (effect_roll c x) e) (subst (λ (z : List Word → Type 0). z scope) (effect-sound_roll v ar x) s))

  -- the arguments of a subtask, with an id or without one
  named-call : (scope : List Word) (i : Option Name) (d : Head) (ts : List Term) (p : Part) → IsSubtaskBy c (task_words h) (action_words h) scope i d ts p → EachIs (IsInForce v ar scope) ts → EachIs (IsInForce c ar scope) ts
  named-call scope None d ts p e s = named-terms scope ts e.1 e.5 s
  named-call scope (Some i) d ts p e s = let k = e.3 in named-terms scope ts k.1 k.5 s

  named-children : (scope : List Word) (xs : List Child) (ps : Parts) → Each (IsSubtask c (task_words h) (action_words h) scope) xs ps → EachIs (λ (x : Child). IsSoundHead h x.head (length x.args) × EachIs (IsInForce v ar scope) x.args) xs
      → EachIs (λ (x : Child). IsSoundHead h x.head (length x.args) × EachIs (IsInForce c ar scope) x.args) xs
  named-children scope [] ps e s = tt
  named-children scope (x ∷ xs) nothing e s = absurd e
  named-children scope (x ∷ xs) (part p ps) e s = ((s.0.0, named-call scope x.id x.head x.args p e.0 s.0.1), named-children scope xs ps e.1 s.1)

  named-constraint : (scope : List Word) (b : Bool) (l r : Term) (p : Part) → IsConstraintBy c scope b l r p → IsInForce v ar scope l → IsInForce v ar scope r → IsInForce c ar scope l × IsInForce c ar scope r
  named-constraint scope true l r p e s t = (named-term scope l e.0 e.3 s, named-term scope r e.1 e.4 t)
  named-constraint scope false l r p e s t = let k = e.2 in (named-term scope l k.0 k.3 s, named-term scope r k.1 k.4 t)

  named-constraints : (scope : List Word) (xs : List Constraint) (ps : Parts) → Each (IsConstraint c scope) xs ps → EachIs (λ (x : Constraint). IsInForce v ar scope x.left × IsInForce v ar scope x.right) xs
      → EachIs (λ (x : Constraint). IsInForce c ar scope x.left × IsInForce c ar scope x.right) xs
  named-constraints scope [] ps e s = tt
  named-constraints scope (x ∷ xs) nothing e s = absurd e
  named-constraints scope (x ∷ xs) (part p ps) e s = (named-constraint scope x.equal x.left x.right p e.0 s.0.0 s.0.1, named-constraints scope xs ps e.1 s.1)

  named-methods : (ms : List MethodSchema) (ps : Parts) → Each (IsMethod c (task_words h) (action_words h)) ms ps → EachIs (IsSoundMethod h) ms → EachIs (IsFit h c) ms
  named-methods [] ps e s = tt
  named-methods (m ∷ ms) nothing e s = absurd e
  named-methods (m ∷ ms) (part p ps) e s =
      let z = scope_of h m.params in
      let a = e.0 in
      let t = a.head in (
        record {
          params = s.0.params;
          task_args = named-terms z m.task_args t.1 t.5 s.0.task_args;
          pre = named-formula m.pre z _ a.pre s.0.pre;
          children = named-children z m.children _ a.network.children_spelled s.0.children;
          constraints = named-constraints z m.constraints _ a.network.constraints_spelled s.0.constraints;
        },
        named-methods ms ps e.1 s.1,
      )

  named-conditions : (as' : List ActionSchema) (ps : Parts) → Each (IsAction c) as' ps → EachIs (λ (a : ActionSchema). IsSound v ar a.pre (scope_of h a.params)) as' → EachIs (λ (a : ActionSchema). IsSound c ar a.pre (scope_of h a.params)) as'
  named-conditions [] ps e s = tt
  named-conditions (a ∷ as') nothing e s = absurd e
  named-conditions (a ∷ as') (part p ps) e s = (named-formula a.pre (scope_of h a.params) _ e.0.pre s.0, named-conditions as' ps e.1 s.1)

  named-changes : (as' : List ActionSchema) (ps : Parts) → Each (IsAction c) as' ps → EachIs (λ (a : ActionSchema). IsSoundEffect v ar a.eff (scope_of h a.params)) as' → EachIs (λ (a : ActionSchema). IsSoundEffect c ar a.eff (scope_of h a.params)) as'
  named-changes [] ps e s = tt
  named-changes (a ∷ as') nothing e s = absurd e
  named-changes (a ∷ as') (part p ps) e s = (named-effect a.eff (scope_of h a.params) _ e.0.eff s.0, named-changes as' ps e.1 s.1)

flags : (u : Declared) (b : Bool) (xs : List Object) (ps : Parts) → EachTyped (IsObject u b) xs ps → EachIs (λ (x : Object). x.constant ≡ b) xs
flags u b [] ps e = tt
flags u b (x ∷ xs) nothing e = absurd e
flags u b (x ∷ xs) (part p ps) e = (e.0.3, flags u b xs (skipped ps) e.1)

-- what passes a test stands in front of what doesn't
filter-front : {X : Type 0} (test : X → Bool) (xs ys : List X) → EachIs (λ x. test x ≡ true) xs → EachIs (λ x. test x ≡ false) ys → filter test (xs ++ ys) ≡ xs
filter-front test [] [] e f = refl
filter-front test [] (y ∷ ys) e f = cond-false _ _ _ f.0 ∙ filter-front test [] ys e f.1
filter-front test (x ∷ xs) ys e f = cond-true _ _ _ e.0 ∙ ap (λ t. x ∷ t) (filter-front test xs ys e.1 f)

filter-behind : {X : Type 0} (test : X → Bool) (xs ys : List X) → EachIs (λ x. test x ≡ false) xs → EachIs (λ x. test x ≡ true) ys → filter test (xs ++ ys) ≡ ys
filter-behind test [] [] e f = refl
filter-behind test [] (y ∷ ys) e f = cond-true _ _ _ f.0 ∙ ap (λ t. y ∷ t) (filter-behind test [] ys e f.1)
filter-behind test (x ∷ xs) ys e f = cond-false _ _ _ e.0 ∙ filter-behind test xs ys e.1 f

flipped : (b : Bool) (xs : List Object) → EachIs (λ (x : Object). x.constant ≡ b) xs → EachIs (λ (x : Object). not x.constant ≡ not b) xs
flipped b [] e = tt
flipped b (x ∷ xs) e = (ap not e.0, flipped b xs e.1)

pub of_two_texts : (domain problem : List ℕ) (h : Hddl) → SpellsHddl domain problem h → IsSoundHddl h → IsOfTwoTexts h
of_two_texts domain problem h spelled sound =
    let s = spelled.sections in
    let cs = s.constants in
    let os = s.others in
    let f = flags (words_with h.names h.types h.predicates cs) true cs _ s.in_domain.common.constants_spelled in
    let g = flags (hddl_words h) false os _ s.in_problem.common.others_spelled in
    let a : constants_of h ≡ cs = ap (filter (λ (x : Object). x.constant)) s.objects ∙ filter-front (λ (x : Object). x.constant) cs os f g in
    let b : others_of h ≡ os = ap (filter (λ (x : Object). not x.constant)) s.objects ∙ filter-behind (λ (x : Object). not x.constant) cs os (flipped true cs f) (flipped false os g) in
    let words = λ (xs : List Object). words_with h.names h.types h.predicates xs in
    record {
      objects = s.objects ∙ (λ i. sym a i ++ sym b i);
      pre = subst (λ xs. EachIs (λ (x : ActionSchema). IsSound (words xs) (arities h) x.pre (scope_of h x.params)) h.actions) (sym a) (named-conditions h cs h.actions _ s.in_domain.common.actions sound.pre);
      eff = subst (λ xs. EachIs (λ (x : ActionSchema). IsSoundEffect (words xs) (arities h) x.eff (scope_of h x.params)) h.actions) (sym a) (named-changes h cs h.actions _ s.in_domain.common.actions sound.eff);
      methods = fits h.methods (subst (λ xs. EachIs (IsFit h (words xs)) h.methods) (sym a) (named-methods h cs h.methods _ s.in_domain.methods sound.methods));
      top_named = s.in_problem.top.named;
    }
  where
    fits : (ms : List MethodSchema) → EachIs (IsFit h (words_with h.names h.types h.predicates (constants_of h))) ms → EachIs (IsSoundMethod (with_constants h)) ms
    fits [] e = tt
    fits (m ∷ ms) e = (record { params = e.0.params; task_args = e.0.task_args; pre = e.0.pre; children = e.0.children; constraints = e.0.constraints }, fits ms e.1)
