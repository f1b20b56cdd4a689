-- The variables of a printed action: cells, and behind them those of the source; and what of the source is sound among them.
use Rattle.std.proofs.Common.{ℕ, suc, ◌≡◌, ◌+◌, ◌<◌, Bool, true, false, cond, List, [], ◌∷◌, ◌++◌, map, length, subst, sym, ◌∙◌, arith}
use Rattle.std.proofs.lemmas.List.{map-append}
use Rattle.htn_base.specs.Escapes.{escaped}
use Rattle.htn_base.specs.Different.{AreDifferent}
use Rattle.text_forms.specs.Words.{Word}
use Rattle.plan_model.specs.declared.terms.Term.{Term}
use Rattle.plan_model.specs.declared.terms.Term.TheVariants.{Var}
use Rattle.plan_model.specs.declared.terms.Param.{Param}
use Rattle.plan_model.specs.declared.formulas.Formula.{Formula}
use Rattle.plan_model.specs.declared.effects.Effect.{Effect}
use Rattle.plan_model.specs.declared.values.Compiled.{Compiled}
use Rattle.plan_texts.specs.Declared.{Declared, variable}
use Rattle.plan_texts.specs.Types.{Has, EachIs}
use Rattle.plan_texts.specs.SpellsHddl.{hddl_words}
use Rattle.plan_texts.specs.Printable.{IsInForce, IsSoundAtom, IsSoundParam, AreSoundParams, IsSound, IsSoundEffect}
use Rattle.plan_texts.specs.SoundValue.{IsSoundHddl, arities, scope_of}
use Rattle.plan_texts.proofs.Members.{length-map}
use Rattle.plan_texts.proofs.Places.{each-join}
use Rattle.slot_encoding.specs.SourceParts.{moved, source_param, source_formula, source_effect}
use Rattle.slot_encoding.specs.EncodedWords.{param_words, formula_words, effect_words}
use Rattle.slot_encoding.specs.MethodParts.{is_empty, is_empty_effect, condition_part, change_part}
use Rattle.slot_encoding.proofs.places.ListPlaces.{length-joined}
use Rattle.slot_encoding.proofs.words.Scopes.{last-different}
use Rattle.slot_encoding.proofs.words.SourceFormulas.{AreExtended, in_force, each_in_force, each_param, variables-printed, sound_formula}
use Rattle.slot_encoding.proofs.words.SourceEffects.{sound_effect}
use Rattle.slot_encoding.proofs.words.PredicatePlaces.{HasArity, free_arity, before_arity}
use Rattle.stack_encoding.specs.StackActions.{is_tip, is_up}
use Rattle.stack_encoding.proofs.words.StackDeclared.{stack_declared, stack_arities, stack_extended, takes}
use Rattle.stack_encoding.proofs.words.KnownParts.{AreKnown}

module _ (c : Compiled) (names : List Word) (b : ℕ) (sound : IsSoundHddl c.hddl) (known : AreKnown c b names) where
  abbrev v : Declared
  v = hddl_words c.hddl

  abbrev v' : Declared
  v' = stack_declared c names b

  abbrev ar : List ℕ
  ar = arities c.hddl

  abbrev ar' : List ℕ
  ar' = stack_arities c names b

  more : AreExtended v v' ar ar'
  more = stack_extended c names b sound known.types

  -- these parameters are cells, by these words, and stand in front of the source's
  pub record IsFront (at : ℕ) (cells : List Param) (words : List Word) (params : List Param) : Type 0 where
    pub count : length words ≡ at
    pub named : map (variable v') cells ≡ words
    pub cells_sound : EachIs (IsSoundParam v' ar') cells
    pub apart : AreDifferent (words ++ map escaped (scope_of c.hddl params))
    pub params_known : EachIs (Has names) (param_words c.hddl.names params)
    pub are : AreSoundParams v ar params

  module _ (at : ℕ) (cells : List Param) (words : List Word) (params : List Param) (f : IsFront at cells words params) where
    abbrev pub stack_scope : List Word
    stack_scope = words ++ map escaped (scope_of c.hddl params)

    pub stack_scope-named : map (variable v') (cells ++ map (source_param names c.hddl.names) params) ≡ stack_scope
    stack_scope-named =
        let e = f.named in
        let g = variables-printed v v' ar ar' more params f.params_known in
        map-append (variable v') cells (map (source_param names c.hddl.names) params) ∙ (λ i. e i ++ g i)

    pub stack_params_sound : AreSoundParams v' ar' (cells ++ map (source_param names c.hddl.names) params)
    stack_params_sound = (each-join (IsSoundParam v' ar') cells (map (source_param names c.hddl.names) params) f.cells_sound (each_param v v' ar ar' more params f.params_known f.are.0), subst AreDifferent (sym stack_scope-named) f.apart)

    pub long : length stack_scope ≡ at + length params
    long = omega (arith, length-joined words (map escaped (scope_of c.hddl params)), length-map escaped (scope_of c.hddl params), length-map (variable v) params, f.count)

    -- each variable is in force
    pub variable_sound : (k : ℕ) → k < at + length params → IsInForce v' ar' stack_scope (Var k)
    variable_sound k l = last-different stack_scope k f.apart (let e = long in omega arith)

    pub moved_sound : (t : Term) → IsInForce v ar (scope_of c.hddl params) t → IsInForce v' ar' stack_scope (moved names c.hddl.names at t)
    moved_sound t i = subst (λ k. IsInForce v' ar' stack_scope (moved names c.hddl.names k t)) f.count (in_force v v' ar ar' more words (scope_of c.hddl params) t i)

    pub moved_each : (ts : List Term) → EachIs (IsInForce v ar (scope_of c.hddl params)) ts → EachIs (IsInForce v' ar' stack_scope) (map (moved names c.hddl.names at) ts)
    moved_each ts i = subst (λ k. EachIs (IsInForce v' ar' stack_scope) (map (moved names c.hddl.names k) ts)) f.count (each_in_force v v' ar ar' more words (scope_of c.hddl params) ts i)

    pub condition_sound : (g : Formula) → IsSound v ar g (scope_of c.hddl params) → EachIs (Has names) (formula_words c.hddl.names g) → EachIs (λ g. IsSound v' ar' g stack_scope) (condition_part c names at g)
    condition_sound g s h = go (is_empty g) (subst (λ k. IsSound v' ar' (source_formula names c.hddl.names k g) stack_scope) f.count (sound_formula v v' ar ar' more words g (scope_of c.hddl params) s h))
      where
        go : (t : Bool) → IsSound v' ar' (source_formula names c.hddl.names at g) stack_scope → EachIs (λ g. IsSound v' ar' g stack_scope) (cond t [] (source_formula names c.hddl.names at g ∷ []))
        go true s = tt
        go false s = (s, tt)

    pub change_sound : (e : Effect) → IsSoundEffect v ar e (scope_of c.hddl params) → EachIs (Has names) (effect_words c.hddl.names e) → EachIs (λ e. IsSoundEffect v' ar' e stack_scope) (change_part c names at e)
    change_sound e s h = go (is_empty_effect e) (subst (λ k. IsSoundEffect v' ar' (source_effect names c.hddl.names k e) stack_scope) f.count (sound_effect v v' ar ar' more words e (scope_of c.hddl params) s h))
      where
        go : (t : Bool) → IsSoundEffect v' ar' (source_effect names c.hddl.names at e) stack_scope → EachIs (λ e. IsSoundEffect v' ar' e stack_scope) (cond t [] (source_effect names c.hddl.names at e ∷ []))
        go true s = tt
        go false s = (s, tt)

    -- atoms of cells
    pub tip_sound : (k : ℕ) → k < at → IsSoundAtom v' ar' stack_scope (is_tip c names b k).predicate (is_tip c names b k).args
    tip_sound k l = let a = takes c names b _ 1 (free_arity c names b) in (a.0, sym a.1, (variable_sound k (omega arith), tt))

    pub up_sound : (j k : ℕ) → j < at → k < at → IsSoundAtom v' ar' stack_scope (is_up c names b j k).predicate (is_up c names b j k).args
    up_sound j k l m = let a = takes c names b _ 2 (before_arity c names b) in (a.0, sym a.1, (variable_sound j (omega arith), (variable_sound k (omega arith), tt)))

    -- something that a cell holds, with source arguments
    pub held_sound : (predicate k : ℕ) (ts : List Term) → HasArity c names b predicate (suc (length ts)) → k < at → EachIs (IsInForce v ar (scope_of c.hddl params)) ts
        → IsSoundAtom v' ar' stack_scope predicate (Var k ∷ map (moved names c.hddl.names at) ts)
    held_sound predicate k ts a l i =
        let t = takes c names b predicate (suc (length ts)) a in
        (t.0, (let e = length-map (moved names c.hddl.names at) ts in let g = t.1 in omega arith), (variable_sound k (omega arith), moved_each ts i))
