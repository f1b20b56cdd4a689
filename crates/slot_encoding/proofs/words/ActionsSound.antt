-- Each printed action is sound.
use Rattle.std.proofs.Common.{ℕ, ◌≡◌, ◌+◌, ◌<◌, ◌^◌, inl, inr, List, [], ◌∷◌, ◌++◌, length, slice_get, Some, codes, sym, subst, arith}
use Rattle.text_forms.specs.Words.{Word}
use Rattle.plan_model.specs.declared.options.Style.{Style}
use Rattle.plan_model.specs.declared.options.Checks.{Checks}
use Rattle.plan_model.specs.declared.schemas.ActionSchema.{ActionSchema}
use Rattle.plan_model.specs.declared.schemas.MethodPlan.{MethodPlan}
use Rattle.plan_model.specs.declared.values.Compiled.{Compiled}
use Rattle.plan_texts.specs.Types.{Has, EachIs}
use Rattle.plan_texts.specs.SpellsHddl.{hddl_words}
use Rattle.plan_texts.specs.Printable.{AreSoundParams, IsSound, IsSoundEffect}
use Rattle.plan_texts.specs.SoundValue.{IsSoundHddl, arities, scope_of}
use Rattle.plan_texts.proofs.Members.{contains-has}
use Rattle.slot_encoding.proofs.places.Places.{each-at-some}
use Rattle.plan_model.specs.plan_meaning.Compilation.{IsCompiled}
use Rattle.slot_encoding.specs.SourceParts.{source_word}
use Rattle.slot_encoding.specs.EncodedNames.{action_predicate, check_predicate}
use Rattle.slot_encoding.specs.EncodedActions.{source_change}
use Rattle.slot_encoding.specs.EncodedValue.{encoded_actions}
use Rattle.slot_encoding.proofs.places.ListPlaces.{get_contains}
use Rattle.slot_encoding.proofs.places.ActionPlaces.{IsOfMethod, IsOfCheck, IsOfAction, action_cases}
use Rattle.slot_encoding.specs.EncodedWords.{own_word, param_words, formula_words, effect_words, HasEncodedWords}
use Rattle.slot_encoding.proofs.words.Lists.{each-left, each-right, each-part, each-from_get}
use Rattle.slot_encoding.proofs.words.PrintedWords.{printed_words, printed_arities}
use Rattle.slot_encoding.proofs.words.KnownWords.{known_methods, known_source_actions}
use Rattle.slot_encoding.proofs.words.KnownMethods.{IsKnownMethod, known_method}
use Rattle.slot_encoding.proofs.words.PlanParts.{IsSoundPlan, sound_plans}
use Rattle.slot_encoding.proofs.words.PredicatePlaces.{action_arity, check_arity}
use Rattle.slot_encoding.proofs.words.ActionParts.{change_sound}
use Rattle.slot_encoding.proofs.words.Works.{IsSoundAction, work_sound}
use Rattle.slot_encoding.proofs.words.Methods.{method_sound}

module _ (c : Compiled) (names : List Word) (b : ℕ) (style : Style) (sound : IsSoundHddl c.hddl) (has : HasEncodedWords c b names) (mode : Checks) (compiled : IsCompiled c.hddl mode c)
    (short : EachIs (λ (plan : MethodPlan). length plan.schema.children < 2 ^ 64) c.methods) where
  abbrev Sound : ActionSchema → Type 0
  Sound = IsSoundAction (printed_words c names b) (printed_arities c names b)

  pub plan_sound : (m : ℕ) (plan : MethodPlan) → slice_get c.methods m ≡ Some plan → IsSoundPlan c plan
  plan_sound m plan e = each-at-some (IsSoundPlan c) c.methods m plan (sound_plans c mode compiled sound) e

  pub known : (m : ℕ) (plan : MethodPlan) → slice_get c.methods m ≡ Some plan → IsKnownMethod c names m plan
  known m plan e = let n : 0 + m ≡ m = omega arith in subst (λ z. IsKnownMethod c names z plan) n (known_method c names 0 c.methods m plan (known_methods c b names has) e)

  of_method : (a : ActionSchema) → IsOfMethod c names b style a → Sound a
  of_method a (m, plan, e, f) = subst Sound (sym f) (method_sound c names b style sound has m plan e (plan_sound m plan e) (known m plan e) (each-at-some (λ (plan : MethodPlan). length plan.schema.children < 2 ^ 64) c.methods m plan short e))

  of_check : (a : ActionSchema) → IsOfCheck c names b style a → Sound a
  of_check a (m, plan, e, t, f) =
      let sp = plan_sound m plan e in let km = known m plan e in
      subst Sound (sym f) (work_sound c names b style sound has (codes "htn_c_" ++ source_word c.hddl.names plan.schema.name) (check_predicate c m) plan.schema.params plan.schema.pre [] (check_arity c names b m plan e t) km.params sp.parts.params sp.parts.pre km.pre tt)

  of_action : (a : ActionSchema) → IsOfAction c names b style a → Sound a
  of_action a (n, s, e, f) =
      let words = each-part (Has names) (λ (s : ActionSchema). own_word c s.name ∷ param_words c.hddl.names s.params ++ formula_words c.hddl.names s.pre ++ effect_words c.hddl.names s.eff) c.hddl.actions s (known_source_actions c b names has) (contains-has c.hddl.actions s (get_contains c.hddl.actions n s e)) in
      let params = own_word c s.name ∷ param_words c.hddl.names s.params in
      let pre = formula_words c.hddl.names s.pre in
      let eff = effect_words c.hddl.names s.eff in
      let front = each-left (Has names) (params ++ pre) eff words in
      let kp = (each-left (Has names) params pre front).1 in
      let kf = each-right (Has names) params pre front in
      let ke = each-right (Has names) (params ++ pre) eff words in
      let are = each-at-some (λ (a : ActionSchema). AreSoundParams (hddl_words c.hddl) (arities c.hddl) a.params) c.hddl.actions n s sound.action_params e in
      let sf = each-at-some (λ (a : ActionSchema). IsSound (hddl_words c.hddl) (arities c.hddl) a.pre (scope_of c.hddl a.params)) c.hddl.actions n s sound.pre e in
      let se = each-at-some (λ (a : ActionSchema). IsSoundEffect (hddl_words c.hddl) (arities c.hddl) a.eff (scope_of c.hddl a.params)) c.hddl.actions n s sound.eff e in
      subst Sound (sym f) (work_sound c names b style sound has (source_word c.hddl.names s.name) (action_predicate c n) s.params s.pre (source_change c names b style 1 s.eff) (action_arity c names b n s e) kp are sf kf
      (change_sound c names b style sound has 0 s.params (omega arith) tt kp are s.eff se ke))

  pub actions_sound : EachIs (IsSoundAction (printed_words c names b) (printed_arities c names b)) (encoded_actions c names b style)
  actions_sound = each-from_get Sound (encoded_actions c names b style) (λ k a e. elim (action_cases c names b style k a e) [
    | inl x ↦ of_method a x
    | inr y ↦ elim y [ inl x ↦ of_check a x | inr x ↦ of_action a x ]
  ])
