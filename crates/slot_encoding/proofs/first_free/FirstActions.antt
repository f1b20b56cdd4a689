-- The actions of the printed problem with first-free slots: sound, with the names of the plain ones.
use Rattle.std.proofs.Common.{ℕ, suc, ◌≡◌, ◌+◌, ◌-◌, ◌<◌, ◌^◌, List, [], ◌∷◌, ◌++◌, map, length, slice_get, Some, refl, ap, sym, subst, ◌∙◌, arith}
use Rattle.std.proofs.lemmas.List.{map-append}
use Rattle.text_forms.specs.Words.{Word}
use Rattle.plan_model.specs.declared.options.Style.{Style}
use Rattle.plan_model.specs.declared.options.Checks.{Checks}
use Rattle.plan_model.specs.declared.formulas.Formula.TheVariants.{And}
use Rattle.plan_model.specs.declared.schemas.ActionSchema.{ActionSchema}
use Rattle.plan_model.specs.declared.schemas.MethodPlan.{MethodPlan}
use Rattle.plan_model.specs.declared.values.Compiled.{Compiled}
use Rattle.plan_model.specs.plan_meaning.Compilation.{IsCompiled}
use Rattle.plan_texts.specs.Declared.{named, variable}
use Rattle.plan_texts.specs.Types.{EachIs}
use Rattle.plan_texts.specs.Printable.{IsSound}
use Rattle.plan_texts.specs.SoundValue.{IsSoundHddl}
use Rattle.plan_texts.proofs.Places.{each-join}
use Rattle.slot_encoding.specs.EncodedActions.{spare, depth, method_pre, encoded_method}
use Rattle.slot_encoding.specs.EncodedValue.{encoded_methods, encoded_checks, encoded_source, encoded_actions}
use Rattle.slot_encoding.specs.EncodedWords.{HasEncodedWords}
use Rattle.slot_encoding.specs.FirstFree.{lowest_slots, first_method, first_methods, first_actions}
use Rattle.slot_encoding.proofs.places.Places.{each-at-some}
use Rattle.slot_encoding.proofs.words.Lists.{each-left, each-right, each-weaker}
use Rattle.slot_encoding.proofs.words.PrintedWords.{printed_words, printed_arities}
use Rattle.slot_encoding.proofs.words.SlotScopes.{action_scope, scope-named, scope_x_apart, length-scope}
use Rattle.slot_encoding.proofs.words.SoundEquations.{sound-And, and-parts}
use Rattle.slot_encoding.proofs.words.Works.{IsSoundAction}
use Rattle.slot_encoding.proofs.words.Methods.{method_sound}
use Rattle.slot_encoding.proofs.words.ActionsSound.{plan_sound, known, actions_sound}
use Rattle.slot_encoding.proofs.first_free.MorePredicates.{params-more, formula-more, effect-more}
use Rattle.slot_encoding.proofs.first_free.FirstWords.{first_words, first_predicate_words, first_arities, first_keeps}
use Rattle.slot_encoding.proofs.first_free.Conditions.{lowest_slots_sound}

module _ (c : Compiled) (names : List Word) (b : ℕ) (style : Style) where
  abbrev nm : ActionSchema → Word
  nm a = named names a.name

  methods-named : (m : ℕ) (plans : List MethodPlan) → map nm (first_methods c names b style m plans) ≡ map nm (encoded_methods c names b style m plans)
  methods-named m [] = refl
  methods-named m (plan ∷ plans) = ap (λ z. nm (encoded_method c names b style m plan) ∷ z) (methods-named (suc m) plans)

  pub first_actions-named : map (λ (a : ActionSchema). named names a.name) (first_actions c names b style) ≡ map (λ (a : ActionSchema). named names a.name) (encoded_actions c names b style)
  first_actions-named =
      let fs = first_methods c names b style 0 c.methods in
      let ms = encoded_methods c names b style 0 c.methods in
      let cs = encoded_checks c names b style 0 c.methods in
      let ss = encoded_source c names b style 0 c.hddl.actions in
      map-append nm (fs ++ cs) ss
      ∙ ap (λ z. z ++ map nm ss) (map-append nm fs cs ∙ ap (λ z. z ++ map nm cs) (methods-named 0 c.methods) ∙ sym (map-append nm ms cs))
      ∙ sym (map-append nm (ms ++ cs) ss)

  module _ (sound : IsSoundHddl c.hddl) (has : HasEncodedWords c b names) (mode : Checks) (compiled : IsCompiled c.hddl mode c)
      (short : EachIs (λ (plan : MethodPlan). length plan.schema.children < 2 ^ 64) c.methods) where
    abbrev Plain : ActionSchema → Type 0
    Plain = IsSoundAction (printed_words c names b) (printed_arities c names b)

    abbrev Sound : ActionSchema → Type 0
    Sound = IsSoundAction (first_words c names b style) (first_arities c names b style)

    more : (a : ActionSchema) → Plain a → Sound a
    more a s = record {
      params = params-more (printed_words c names b) (printed_arities c names b) (first_predicate_words c names b style) (first_arities c names b style) (first_keeps c names b style) a.params s.params;
      pre = formula-more (printed_words c names b) (printed_arities c names b) (first_predicate_words c names b style) (first_arities c names b style) (first_keeps c names b style) a.pre (map (variable (printed_words c names b)) a.params) s.pre;
      eff = effect-more (printed_words c names b) (printed_arities c names b) (first_predicate_words c names b style) (first_arities c names b style) (first_keeps c names b style) a.eff (map (variable (printed_words c names b)) a.params) s.eff;
    }

    method_more : (m : ℕ) (plan : MethodPlan) → slice_get c.methods m ≡ Some plan → Sound (first_method c names b style m plan)
    method_more m plan is =
        let sp = plan_sound c names b style sound has mode compiled short m plan is in
        let km = known c names b style sound has mode compiled short m plan is in
        let l = each-at-some (λ (plan : MethodPlan). length plan.schema.children < 2 ^ 64) c.methods m plan short is in
        let s = method_sound c names b style sound has m plan is sp km l in
        let n = length plan.schema.children - 1 in
        let few : n < 2 ^ 64 = omega arith in
        let scope = action_scope c names b sound has n plan.schema.params few km.slots km.params sp.parts.params in
        let scope_is = scope-named c names b sound has n plan.schema.params few km.slots km.params sp.parts.params in
        let apart = scope_x_apart c names b sound has n plan.schema.params few km.slots km.params sp.parts.params in
        let long = length-scope c names b sound has n plan.schema.params few km.slots km.params sp.parts.params in
        let fs = method_pre c names b style m plan in
        let gs = lowest_slots c names b style (depth c names b style m plan) (spare c names b style m plan) in
        let plain = and-parts (printed_words c names b) (printed_arities c names b) scope fs (subst (IsSound (printed_words c names b) (printed_arities c names b) (And fs)) scope_is s.pre) in
        let all = each-join (λ f. IsSound (first_words c names b style) (first_arities c names b style) f scope) fs gs
        (each-weaker (λ f. IsSound (printed_words c names b) (printed_arities c names b) f scope) (λ f. IsSound (first_words c names b style) (first_arities c names b style) f scope) fs
        (λ f. formula-more (printed_words c names b) (printed_arities c names b) (first_predicate_words c names b style) (first_arities c names b style) (first_keeps c names b style) f scope) plain)
        (lowest_slots_sound c names b style sound has scope apart (depth c names b style m plan) (sym long) n (omega arith)) in
        let plainly = more (encoded_method c names b style m plan) s in
        record {
          params = plainly.params;
          pre = subst (IsSound (first_words c names b style) (first_arities c names b style) (And (fs ++ gs))) (sym scope_is) (sound-And (first_words c names b style) (first_arities c names b style) scope (fs ++ gs) all);
          eff = plainly.eff;
        }

    methods_sound : (m : ℕ) (plans : List MethodPlan) → ((j : ℕ) (plan : MethodPlan) → slice_get plans j ≡ Some plan → Sound (first_method c names b style (m + j) plan)) → EachIs Sound (first_methods c names b style m plans)
    methods_sound m [] h = tt
    methods_sound m (plan ∷ plans) h = (
      (let e : m + 0 ≡ m = omega arith in subst (λ z. Sound (first_method c names b style z plan)) e (h 0 plan refl)),
      methods_sound (suc m) plans (λ j p e. (let f : m + suc j ≡ suc m + j = omega arith in subst (λ z. Sound (first_method c names b style z p)) f (h (suc j) p e))),
    )

    pub first_actions_sound : EachIs (IsSoundAction (first_words c names b style) (first_arities c names b style)) (first_actions c names b style)
    first_actions_sound =
        let fs = first_methods c names b style 0 c.methods in
        let ms = encoded_methods c names b style 0 c.methods in
        let cs = encoded_checks c names b style 0 c.methods in
        let ss = encoded_source c names b style 0 c.hddl.actions in
        let all = actions_sound c names b style sound has mode compiled short in
        each-join Sound (fs ++ cs) ss
        (each-join Sound fs cs (methods_sound 0 c.methods (λ j p e. (let f : j ≡ 0 + j = omega arith in subst (λ z. Sound (first_method c names b style z p)) f (method_more j p e))))
        (each-weaker Plain Sound cs more (each-right Plain ms cs (each-left Plain (ms ++ cs) ss all))))
        (each-weaker Plain Sound ss more (each-right Plain (ms ++ cs) ss all))
