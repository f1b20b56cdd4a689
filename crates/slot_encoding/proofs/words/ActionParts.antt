-- The source's parts of a printed action are sound behind its slots.
use Rattle.std.proofs.Common.{ℕ, suc, ◌≡◌, ◌<◌, ◌^◌, Bool, true, false, cond, List, [], ◌∷◌, map, length, codes, subst}
use Rattle.text_forms.specs.Words.{Word}
use Rattle.plan_model.specs.declared.options.Style.{Style}
use Rattle.plan_model.specs.declared.terms.Term.{Term}
use Rattle.plan_model.specs.declared.terms.Param.{Param}
use Rattle.plan_model.specs.declared.formulas.Formula.{Formula}
use Rattle.plan_model.specs.declared.effects.Effect.{Effect}
use Rattle.plan_model.specs.declared.values.Compiled.{Compiled}
use Rattle.plan_texts.specs.Declared.{Declared}
use Rattle.plan_texts.specs.Types.{Has, EachIs}
use Rattle.plan_texts.specs.SpellsHddl.{hddl_words}
use Rattle.plan_texts.specs.Printable.{IsInForce, AreSoundParams, IsSound, IsSoundEffect}
use Rattle.plan_texts.specs.SoundValue.{IsSoundHddl, arities, scope_of}
use Rattle.slot_encoding.specs.SourceParts.{moved, source_formula, source_effect}
use Rattle.slot_encoding.specs.EncodedActions.{is_empty, is_empty_effect, source_condition, source_change}
use Rattle.slot_encoding.specs.EncodedWords.{param_words, formula_words, effect_words, numbered, HasEncodedWords}
use Rattle.slot_encoding.proofs.words.PrintedWords.{printed_words, printed_arities}
use Rattle.slot_encoding.proofs.words.SourceFormulas.{in_force, each_in_force, sound_formula}
use Rattle.slot_encoding.proofs.words.SourceEffects.{sound_effect}
use Rattle.slot_encoding.proofs.words.PredicateNames.{extended}
use Rattle.slot_encoding.proofs.words.SlotScopes.{slot_names, action_scope, length-slots}

module _ (c : Compiled) (names : List Word) (b : ℕ) (style : Style) (sound : IsSoundHddl c.hddl) (has : HasEncodedWords c b names)
    (n : ℕ) (params : List Param) (short : n < 2 ^ 64) (known : EachIs (Has names) (numbered (codes "htn_h") n)) (params_known : EachIs (Has names) (param_words c.hddl.names params)) (are : AreSoundParams (hddl_words c.hddl) (arities c.hddl) params) where
  abbrev v : Declared
  v = hddl_words c.hddl

  abbrev v' : Declared
  v' = printed_words c names b

  abbrev ar : List ℕ
  ar = arities c.hddl

  abbrev ar' : List ℕ
  ar' = printed_arities c names b

  abbrev pub scope : List Word
  scope = action_scope c names b sound has n params short known params_known are

  many : length (slot_names n) ≡ suc n
  many = length-slots c names b sound has n params short known params_known are

  pub moved_in_force : (t : Term) → IsInForce v ar (scope_of c.hddl params) t → IsInForce v' ar' scope (moved names c.hddl.names (suc n) t)
  moved_in_force t i = subst (λ k. IsInForce v' ar' scope (moved names c.hddl.names k t)) many (in_force v v' ar ar' (extended c names b sound has) (slot_names n) (scope_of c.hddl params) t i)

  pub each_moved : (ts : List Term) → EachIs (IsInForce v ar (scope_of c.hddl params)) ts → EachIs (IsInForce v' ar' scope) (map (moved names c.hddl.names (suc n)) ts)
  each_moved ts i = subst (λ k. EachIs (IsInForce v' ar' scope) (map (moved names c.hddl.names k) ts)) many (each_in_force v v' ar ar' (extended c names b sound has) (slot_names n) (scope_of c.hddl params) ts i)

  pub condition_sound : (f : Formula) → IsSound v ar f (scope_of c.hddl params) → EachIs (Has names) (formula_words c.hddl.names f) → EachIs (λ f. IsSound v' ar' f scope) (source_condition c names b style (suc n) f)
  condition_sound f s h = go (is_empty f) (subst (λ k. IsSound v' ar' (source_formula names c.hddl.names k f) scope) many (sound_formula v v' ar ar' (extended c names b sound has) (slot_names n) f (scope_of c.hddl params) s h))
    where
      go : (t : Bool) → IsSound v' ar' (source_formula names c.hddl.names (suc n) f) scope → EachIs (λ f. IsSound v' ar' f scope) (cond t [] (source_formula names c.hddl.names (suc n) f ∷ []))
      go true s = tt
      go false s = (s, tt)

  pub change_sound : (e : Effect) → IsSoundEffect v ar e (scope_of c.hddl params) → EachIs (Has names) (effect_words c.hddl.names e) → EachIs (λ e. IsSoundEffect v' ar' e scope) (source_change c names b style (suc n) e)
  change_sound e s h = go (is_empty_effect e) (subst (λ k. IsSoundEffect v' ar' (source_effect names c.hddl.names k e) scope) many (sound_effect v v' ar ar' (extended c names b sound has) (slot_names n) e (scope_of c.hddl params) s h))
    where
      go : (t : Bool) → IsSoundEffect v' ar' (source_effect names c.hddl.names (suc n) e) scope → EachIs (λ e. IsSoundEffect v' ar' e scope) (cond t [] (source_effect names c.hddl.names (suc n) e ∷ []))
      go true s = tt
      go false s = (s, tt)
