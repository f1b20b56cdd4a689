-- What a sound problem is compiled to has its words apart, and checks for checked methods alone. So its printed steps are read in one way.
use Rattle.std.proofs.Common.{ℕ, zero, suc, ◌≡◌, ◌<◌, ◌^◌, Bool, true, false, IsTrue, List, [], ◌∷◌, map, length, Some, option_map, slice_get, slice_index_or, refl, ap, sym, subst, ◌∙◌, Contains}
use Rattle.std.proofs.lemmas.Option.{slice_get-map}
use Rattle.htn_base.specs.declared.name.Name.{Name}
use Rattle.htn_base.specs.Different.{AreDifferent}
use Rattle.htn_base.proofs.DifferentLemmas.{different-right}
use Rattle.text_forms.specs.Words.{Word}
use Rattle.plan_texts.specs.Declared.{named}
use Rattle.plan_texts.specs.Types.{EachIs}
use Rattle.plan_texts.specs.SpellsHddl.{task_words, action_words}
use Rattle.plan_texts.specs.SoundValue.{IsSoundHead, IsSoundChild, IsSoundMethod, scope_of}
use Rattle.plan_texts.specs.SoundProblem.{IsSoundProblem}
use Rattle.plan_model.specs.declared.options.Checks.{Checks}
use Rattle.plan_model.specs.declared.types.Object.{Object}
use Rattle.plan_model.specs.declared.networks.Head.{Head}
use Rattle.plan_model.specs.declared.networks.Head.TheVariants.{Task, Action, Check}
use Rattle.plan_model.specs.declared.networks.Child.{Child}
use Rattle.plan_model.specs.declared.schemas.ActionSchema.{ActionSchema}
use Rattle.plan_model.specs.declared.schemas.MethodSchema.{MethodSchema}
use Rattle.plan_model.specs.declared.schemas.MethodPlan.{MethodPlan}
use Rattle.plan_model.specs.declared.values.Hddl.{Hddl}
use Rattle.plan_model.specs.declared.values.Compiled.{Compiled}
use Rattle.plan_model.specs.plan_meaning.Compilation.{children, IsMethodPlan, AreMethodPlans, IsCompiled}
use Rattle.tree_core.proofs.Gets.{one_place, place_of}
use Rattle.decoding.specs.PrintedSteps.{source_word, AreNamedApart, HasSoundChecks, HasSoundSteps}
use Rattle.decoding.specs.CompiledLaws.{CompiledAreReadInOneWay}
use Rattle.decoding.proofs.SoundSteps.{words_apart_are_sound}

same_place : {A : Type 0} (f : A → Word) (xs : List A) (j k : ℕ) (x y : A) → AreDifferent (map f xs) → slice_get xs j ≡ Some x → slice_get xs k ≡ Some y → f x ≡ f y → j ≡ k
same_place f xs j k x y d e g i = one_place (map f xs) d j k (f x) (slice_get-map f xs j ∙ ap (option_map f) e) (slice_get-map f xs k ∙ ap (option_map f) g ∙ ap Some (sym i))

each_at : {A : Type 0} (P : A → Type 0) (xs : List A) (k : ℕ) (x : A) → EachIs P xs → slice_get xs k ≡ Some x → P x
each_at P [] k x h e = absurd cc
each_at P (y ∷ xs) zero x h e = subst P (let f : y ≡ x = cc in f) h.0
each_at P (y ∷ xs) (suc k) x h e = each_at P xs k x h.1 e

module _ (h : Hddl) (mode : Checks) where
  -- the plan at a place is that of the method there
  plan_at : (ss : List MethodSchema) (ps : List MethodPlan) (k : ℕ) (p : MethodPlan) → AreMethodPlans h mode ss ps → slice_get ps k ≡ Some p → (s : MethodSchema) × (slice_get ss k ≡ Some s) × IsMethodPlan h mode s p
  plan_at [] [] k p a e = absurd cc
  plan_at [] (q ∷ ps) k p a e = absurd a
  plan_at (s ∷ ss) [] k p a e = absurd a
  plan_at (s ∷ ss) (q ∷ ps) zero p a e = (s, refl, subst (IsMethodPlan h mode s) (let f : q ≡ p = cc in f) a.0)
  plan_at (s ∷ ss) (q ∷ ps) (suc k) p a e = plan_at ss ps k p a.1 e

  module _ (c : Compiled) (sound : IsSoundProblem h) (is : IsCompiled h mode c) where
    word_is : (name : Name) → source_word c name ≡ named h.names name
    word_is name = ap (λ (z : Hddl). slice_index_or z.names name.number []) is.hddl

    same_word : (n m : Name) → source_word c n ≡ source_word c m → named h.names n ≡ named h.names m
    same_word n m e = sym (word_is n) ∙ e ∙ word_is m

    schema_word : (s : MethodSchema) (p : MethodPlan) → IsMethodPlan h mode s p → p.schema.name ≡ s.name
    schema_word s p m = ap (λ (z : MethodSchema). z.name) m.schema

    apart : AreNamedApart c
    apart = record {
      actions = λ a d s t e f i. same_place (λ (x : ActionSchema). named h.names x.name) h.actions a d s t (different-right (task_words h) (action_words h) sound.value.calls_differ)
          (subst (λ (z : Hddl). slice_get z.actions a ≡ Some s) is.hddl e) (subst (λ (z : Hddl). slice_get z.actions d ≡ Some t) is.hddl f) (same_word s.name t.name i);
      methods = methods;
      objects = λ x y o u e f i. same_place (λ (x : Object). named h.names x.name) h.objects x y o u sound.value.words.objects_differ
          (subst (λ (z : Hddl). slice_get z.objects x ≡ Some o) is.hddl e) (subst (λ (z : Hddl). slice_get z.objects y ≡ Some u) is.hddl f) (same_word o.name u.name i);
    }
      where
        methods : (m n : ℕ) (p q : MethodPlan) → slice_get c.methods (suc m) ≡ Some p → slice_get c.methods (suc n) ≡ Some q → source_word c p.schema.name ≡ source_word c q.schema.name → m ≡ n
        methods m n p q e f i =
            let (s, at, ps) = plan_at (h.top ∷ h.methods) c.methods (suc m) p is.methods e in
            let (t, on, qs) = plan_at (h.top ∷ h.methods) c.methods (suc n) q is.methods f in
            same_place (λ (x : MethodSchema). named h.names x.name) h.methods m n s t sound.value.methods_differ at on
            (ap (named h.names) (sym (schema_word s p ps)) ∙ same_word p.schema.name q.schema.name i ∙ ap (named h.names) (schema_word t q qs))

    sound_method : (k : ℕ) (s : MethodSchema) → slice_get (h.top ∷ h.methods) k ≡ Some s → IsSoundMethod h s
    sound_method zero s e = subst (IsSoundMethod h) (let f : h.top ≡ s = cc in f) sound.value.top
    sound_method (suc k) s e = each_at (IsSoundMethod h) h.methods k s sound.value.methods e

    checks : HasSoundChecks c
    checks = record { marked = marked; unchecked = unchecked }
      where
        no_check : (s : MethodSchema) (child : Child) → IsSoundMethod h s → Contains s.children child → child.head ≡ Check → ⊥
        no_check s child m k e =
            let (i, at) = place_of s.children child k in
            let x = (each_at (IsSoundChild h (scope_of h s.params)) s.children i child m.children at).0 in
            subst (λ z. IsHeadless z) e (headed child.head x)
          where
            IsHeadless : Head → Type 0
            IsHeadless (Task t) = Unit {0}
            IsHeadless (Action a) = Unit {0}
            IsHeadless Check = ⊥

            headed : (z : Head) → IsSoundHead h z (length child.args) → IsHeadless z
            headed (Task t) x = tt
            headed (Action a) x = tt
            headed Check x = x

        marked : (plan : MethodPlan) (child : Child) → Contains c.methods plan → Contains plan.schema.children child → child.head ≡ Check → IsTrue plan.checked
        marked plan child k d e =
            let (i, at) = place_of c.methods plan k in
            let (s, on, p) = plan_at (h.top ∷ h.methods) c.methods i plan is.methods at in
            go s p (sound_method i s on) plan.checked refl
          where
            go : (s : MethodSchema) → IsMethodPlan h mode s plan → IsSoundMethod h s → (b : Bool) → plan.checked ≡ b → IsTrue plan.checked
            go s p m true f = f
            go s p m false f = absurd (no_check s child m (subst (λ z. Contains z child) (ap (λ (z : MethodSchema). z.children) p.schema ∙ ap (λ z. children z s) f) d) e)

        unchecked : (plan : MethodPlan) → slice_get c.methods 0 ≡ Some plan → IsTrue plan.checked → ⊥
        unchecked plan e t =
            let (s, on, p) = plan_at (h.top ∷ h.methods) c.methods 0 plan is.methods e in
            let f : h.top ≡ s = cc in
            (p.checked.0 t).1 (ap (λ (z : MethodSchema). z.pre) (sym f) ∙ sound.no_condition)

    compiled_is_sound : (b : ℕ) → b < 2 ^ 32 → HasSoundSteps c b
    compiled_is_sound b few = words_apart_are_sound c b few apart checks

pub compiled_are_read_in_one_way : (c : Compiled) → CompiledAreReadInOneWay c
compiled_are_read_in_one_way c h mode sound is = record { apart = apart h mode c sound is; checks = checks h mode c sound is; steps = compiled_is_sound h mode c sound is }
