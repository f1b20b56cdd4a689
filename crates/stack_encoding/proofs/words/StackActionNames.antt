-- The words of the printed actions of a stack: they are those of the actions with slots, so plain, and no two the same.
use Rattle.std.proofs.Common.{ℕ, zero, suc, ◌≡◌, cond, List, [], ◌∷◌, ◌++◌, map, slice_get, Some, refl, ap, sym, subst, ◌∙◌}
use Rattle.htn_base.specs.Different.{AreDifferent}
use Rattle.text_forms.specs.Words.{Word}
use Rattle.plan_model.specs.declared.options.Style.TheVariants.{Adl}
use Rattle.plan_model.specs.declared.options.Checks.{Checks}
use Rattle.plan_model.specs.declared.formulas.Formula.TheVariants.{And}
use Rattle.plan_model.specs.declared.schemas.ActionSchema.{ActionSchema}
use Rattle.plan_model.specs.declared.schemas.MethodPlan.{MethodPlan}
use Rattle.plan_model.specs.declared.values.Compiled.{Compiled}
use Rattle.plan_model.specs.plan_meaning.Compilation.{IsCompiled}
use Rattle.plan_texts.specs.Declared.{named}
use Rattle.plan_texts.specs.Types.{Has, EachIs}
use Rattle.plan_texts.specs.Printable.{IsPlain}
use Rattle.plan_texts.specs.SoundValue.{IsSoundHddl}
use Rattle.plan_texts.proofs.Together.{together-maps}
use Rattle.slot_encoding.specs.SourceParts.{name}
use Rattle.slot_encoding.specs.EncodedActions.{encoded_method, encoded_check, encoded_action}
use Rattle.slot_encoding.specs.EncodedValue.{encoded_methods, encoded_checks, encoded_source, encoded_actions}
use Rattle.slot_encoding.specs.EncodedWords.{own_word, method_word}
use Rattle.slot_encoding.proofs.encoded_texts.SaidAlike.{together-join}
use Rattle.slot_encoding.proofs.places.Predicates.{is_checked}
use Rattle.slot_encoding.proofs.words.ActionNames.{actions_plain as slot_actions_plain, actions_differ as slot_actions_differ}
use Rattle.slot_encoding.proofs.words.TableWords.{named-name}
use Rattle.stack_encoding.specs.StackActions.{stack_method, stack_check, stack_action}
use Rattle.stack_encoding.specs.StackActions as Stack
use Rattle.stack_encoding.specs.StackValue.{stack_actions}
use Rattle.stack_encoding.proofs.places.NumberedPlaces.{numbered, passing, together-from_zero, passing-from_zero}
use Rattle.stack_encoding.proofs.places.StackPlaces.{actions-numbered}
use Rattle.stack_encoding.proofs.words.FewCells.{wide, wide_has, widen, known_plan}
use Rattle.stack_encoding.proofs.words.KnownParts.{AreKnown, check_word}
use Rattle.stack_encoding.proofs.words.KnownEach.{known_check, known_action}

-- the word of a method's action, by its number
pub method_word-same : (c : Compiled) (names : List Word) (b m : ℕ) (plan : MethodPlan) → Stack.method_word c names b m plan m ≡ method_word c m plan.schema.name
method_word-same c names b zero plan = refl
method_word-same c names b (suc m) plan = refl

module _ (c : Compiled) (names : List Word) (b : ℕ) where
  -- the actions with slots, in the same form
  encoded-numbered : encoded_actions c names b Adl ≡ numbered (encoded_method c names b Adl) 0 c.methods ++ passing (encoded_check c names b Adl) is_checked 0 c.methods ++ numbered (encoded_action c names b Adl) 0 c.hddl.actions
  encoded-numbered = λ i. methods 0 c.methods i ++ checks 0 c.methods i ++ sources 0 c.hddl.actions i
    where
      methods : (m : ℕ) (plans : List MethodPlan) → encoded_methods c names b Adl m plans ≡ numbered (encoded_method c names b Adl) m plans
      methods m [] = refl
      methods m (plan ∷ plans) = ap (λ z. encoded_method c names b Adl m plan ∷ z) (methods (suc m) plans)

      checks : (m : ℕ) (plans : List MethodPlan) → encoded_checks c names b Adl m plans ≡ passing (encoded_check c names b Adl) is_checked m plans
      checks m [] = refl
      checks m (plan ∷ plans) = ap (λ z. cond plan.checked (encoded_check c names b Adl m plan ∷ z) z) (checks (suc m) plans)

      sources : (m : ℕ) (ss : List ActionSchema) → encoded_source c names b Adl m ss ≡ numbered (encoded_action c names b Adl) m ss
      sources m [] = refl
      sources m (s ∷ ss) = ap (λ z. encoded_action c names b Adl m s ∷ z) (sources (suc m) ss)

module _ (c : Compiled) (names : List Word) (b : ℕ) (sound : IsSoundHddl c.hddl) (known : AreKnown c b names) where
  abbrev more : List Word
  more = wide c b names

  -- a word of the one table is that of the other
  word : (w : Word) → Has names w → named names (name names w) ≡ named more (name more w)
  word w h = named-name w names h ∙ sym (named-name w more (widen c b names w h))

  abbrev SameName : ActionSchema → ActionSchema → Type 0
  SameName s t = named names s.name ≡ named more t.name

  of_method : (m : ℕ) (plan : MethodPlan) → slice_get c.methods m ≡ Some plan → SameName (stack_method c names b m plan) (encoded_method c more b Adl m plan)
  of_method m plan e = go m (known_plan c b names known m plan e).word
    where
      go : (k : ℕ) → Has names (method_word c k plan.schema.name) → named names (stack_method c names b k plan).name ≡ named (wide c b names) (encoded_method c (wide c b names) b Adl k plan).name
      go zero h = word (method_word c 0 plan.schema.name) h
      go (suc k) h = word (method_word c (suc k) plan.schema.name) h

  pub names-same : map (λ (a : ActionSchema). named names a.name) (stack_actions c names b) ≡ map (λ (a : ActionSchema). named (wide c b names) a.name) (encoded_actions c (wide c b names) b Adl)
  names-same =
      let methods = together-from_zero SameName (stack_method c names b) (encoded_method c more b Adl) c.methods of_method in
      let checks = passing-from_zero SameName (stack_check c names b) (encoded_check c more b Adl) is_checked c.methods (λ j plan e t. word (check_word c plan) (known_check c b names known j plan e t)) in
      let sources = together-from_zero SameName (stack_action c names b) (encoded_action c more b Adl) c.hddl.actions (λ j s e. word (own_word c s.name) (known_action c b names known j s e).word) in
      let ms = numbered (stack_method c names b) 0 c.methods in let ms' = numbered (encoded_method c more b Adl) 0 c.methods in
      let cs = passing (stack_check c names b) is_checked 0 c.methods in let cs' = passing (encoded_check c more b Adl) is_checked 0 c.methods in
      let ss = numbered (stack_action c names b) 0 c.hddl.actions in let ss' = numbered (encoded_action c more b Adl) 0 c.hddl.actions in
      let all = together-join SameName (ms ++ cs) ss (ms' ++ cs') ss' (together-join SameName ms cs ms' cs' methods checks) sources in
      ap (map (λ (a : ActionSchema). named names a.name)) (actions-numbered c names b)
      ∙ together-maps (λ (a : ActionSchema). named names a.name) (λ (a : ActionSchema). named more a.name) SameName (λ s t e. e) (ms ++ cs ++ ss) (ms' ++ cs' ++ ss') all
      ∙ ap (map (λ (a : ActionSchema). named more a.name)) (sym (encoded-numbered c more b))

  module _ (mode : Checks) (compiled : IsCompiled c.hddl mode c) (top_free : c.hddl.top.pre ≡ And []) where
    pub actions_plain : EachIs IsPlain (map (λ (a : ActionSchema). named names a.name) (stack_actions c names b))
    actions_plain = subst (EachIs IsPlain) (sym names-same) (slot_actions_plain c more b Adl sound (wide_has c b names) mode compiled top_free)

    pub actions_differ : AreDifferent (map (λ (a : ActionSchema). named names a.name) (stack_actions c names b))
    actions_differ = subst AreDifferent (sym names-same) (slot_actions_differ c more b Adl sound (wide_has c b names) mode compiled top_free)
