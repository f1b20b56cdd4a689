-- What a sound PDDL value gives to the run of a plan, and which file a fault of three texts is in.
use Rattle.std.proofs.Common.{ℕ, zero, suc, ◌≡◌, ◌<◌, List, [], ◌∷◌, map, length, slice_get, Some, All, Contains, refl, sym, ap, ◌∙◌, subst, arith}
use Rattle.htn_base.specs.Limits.{most_steps}
use Rattle.htn_base.specs.Different.{AreDifferent}
use Rattle.text_forms.specs.Words.{Word, word_at}
use Rattle.plan_texts.specs.Declared.{named}
use Rattle.plan_texts.specs.Printable.{IsPlain, IsUnion}
use Rattle.plan_texts.specs.PrintableValue.{arities_of}
use Rattle.plan_texts.specs.SpellsPddl.{pddl_types, pddl_words}
use Rattle.plan_texts.specs.Types.{Has, EachIs}
use Rattle.plan_texts.proofs.Members.{each-has}
use Rattle.plan_texts.proofs.SoundProblems.{each-all, each-more}
use Rattle.plan_model.specs.Parts.{AreListed}
use Rattle.plan_model.specs.declared.schemas.ActionSchema.{ActionSchema}
use Rattle.plan_model.specs.declared.steps.GroundAction.{GroundAction}
use Rattle.plan_model.specs.declared.types.Object.{Object}
use Rattle.plan_model.specs.declared.types.Parent.{Parent}
use Rattle.plan_model.specs.declared.values.Pddl.{Pddl}
use Rattle.plan_model.specs.plan_meaning.FailingStep.{AreNamedApart}
use Rattle.ground_state.specs.Runs.{IsRunnable}
use Rattle.plan_model.specs.declared.causes.FailWhy.{FailWhy}
use Rattle.text_values.specs.form_spellings.SoundPddl.{IsSoundClassical}
use Rattle.text_forms.specs.Faults.{fault}
use Rattle.hddl_reader.specs.declared.sections.Language.TheVariants as language
use Rattle.text_values.specs.TextFaults.{HaveNoFault}
use Rattle.text_values.specs.PddlValues.{IsValueOf}
use Rattle.plan_text.specs.Plans.{IsPlanFault, IsPlanRead}
use Rattle.htn_cli.specs.declared.checked.Checked.TheVariants as checked
use Rattle.htn_cli.specs.Checks.{IsChecked}
use Rattle.htn_cli.specs.LeastFaults.{IsLeastWithPlan, of_third}
use Rattle.htn_cli.specs.Validation.{Spell}
use Rattle.htn_cli.specs.Stops.{IsConfirmedFor, StopsFor}
use Rattle.htn_cli.specs.declared.refusal.Finding.TheVariants as finding
use Rattle.htn_cli.specs.declared.refusal.Limit.TheVariants as limit
use Rattle.htn_cli.specs.declared.refusal.Refusal.TheVariants as refused

-- things with different words are told apart by their words
module _ {X : Type 0} (word : X → Word) where
  has_word : (xs : List X) (x : X) → Contains xs x → Contains (map word xs) (word x)
  has_word [] x c = let l = c.1 in absurd (omega arith)
  has_word (y ∷ ys) x (zero, l, e) = (zero, omega arith, ap word e)
  has_word (y ∷ ys) x (suc k, l, e) = let m = has_word ys x (k, omega arith, e) in let n = m.1 in (suc m.0, omega arith, m.2)

  pub one_of_a_word : (xs : List X) → AreDifferent (map word xs) → (x y : X) → Contains xs x → Contains xs y → word x ≡ word y → x ≡ y
  one_of_a_word [] d x y c e same = let l = c.1 in absurd (omega arith)
  one_of_a_word (z ∷ zs) d x y (zero, l, e) (zero, m, f) same = sym e ∙ f
  one_of_a_word (z ∷ zs) d x y (zero, l, e) (suc k, m, f) same = absurd (d.0 (subst (Contains (map word zs)) (sym same ∙ ap word (sym e)) (has_word zs y (k, omega arith, f))))
  one_of_a_word (z ∷ zs) d x y (suc j, l, e) (zero, m, f) same = absurd (d.0 (subst (Contains (map word zs)) (same ∙ ap word (sym f)) (has_word zs x (j, omega arith, e))))
  one_of_a_word (z ∷ zs) d x y (suc j, l, e) (suc k, m, f) same = one_of_a_word zs d.1 x y (j, omega arith, e) (k, omega arith, f) same

  there : (xs : List X) (n : ℕ) (x : X) → slice_get xs n ≡ Some x → Contains xs x
  there [] n x e = absurd (cc)
  there (y ∷ ys) zero x e = let f : y ≡ x = cc in (zero, omega arith, f)
  there (y ∷ ys) (suc n) x e = let m = there ys n x e in let l = m.1 in (suc m.0, omega arith, m.2)

  pub one_place_of_a_word : (xs : List X) → AreDifferent (map word xs) → (j k : ℕ) (x y : X) → slice_get xs j ≡ Some x → slice_get xs k ≡ Some y → word x ≡ word y → j ≡ k
  one_place_of_a_word [] d j k x y e f same = absurd (cc)
  one_place_of_a_word (z ∷ zs) d zero zero x y e f same = refl
  one_place_of_a_word (z ∷ zs) d zero (suc k) x y e f same =
      let g : z ≡ x = cc in
      absurd (d.0 (subst (Contains (map word zs)) (sym same ∙ ap word (sym g)) (has_word zs y (there zs k y f))))
  one_place_of_a_word (z ∷ zs) d (suc j) zero x y e f same =
      let g : z ≡ y = cc in
      absurd (d.0 (subst (Contains (map word zs)) (same ∙ ap word (sym g)) (has_word zs x (there zs j x e))))
  one_place_of_a_word (z ∷ zs) d (suc j) (suc k) x y e f same = ap suc (one_place_of_a_word zs d.1 j k x y e f same)

-- the word with this number
word_there : (names : List Word) (n : ℕ) (word : Word) → slice_get names n ≡ Some word → word_at names n ≡ word
word_there [] n word e = absurd (cc)
word_there (w ∷ ws) zero word e = cc
word_there (w ∷ ws) (suc n) word e = word_there ws n word e

module _ (c : Pddl) (sound : IsSoundClassical c) where
  abbrev action_word : ActionSchema → Word
  action_word a = named c.names a.name

  abbrev object_word : Object → Word
  object_word x = named c.names x.name

  pub sound_apart : AreNamedApart c
  sound_apart = record {
    actions = λ a b step one other. (
        one_of_a_word action_word c.actions sound.value.actions_differ a b one.action other.action
        (word_there c.names a.name.number step.name one.name ∙ sym (word_there c.names b.name.number step.name other.name))
        );
    objects = λ x y word one other. (
        one_place_of_a_word object_word c.objects sound.value.words.objects_differ x y one.0 other.0 one.1 other.1
        (word_there c.names one.0.name.number word one.2 ∙ sym (word_there c.names other.0.name.number word other.2))
        );
  }

  -- a plain word is not empty, so it stands at a place of the list
  not_plain : IsPlain [] → ⊥
  not_plain p = let e = p.1 in cc

  within : (words : List Word) (n : ℕ) → (word_at words n ≡ [] → ⊥) → n < length words
  within [] n full = absurd (full refl)
  within (w ∷ ws) zero full = omega arith
  within (w ∷ ws) (suc n) full = let l = within ws n full in omega arith

  length_map : {A B : Type 0} (f : A → B) (xs : List A) → length (map f xs) ≡ length xs
  length_map f [] = refl
  length_map f (x ∷ xs) = ap suc (length_map f xs)

  member_within : (n : ℕ) → Has (pddl_types c) (word_at (pddl_types c) n) → n < length c.types.names
  member_within n has =
      let plain = each-has IsPlain (pddl_types c) (word_at (pddl_types c) n) sound.value.words.types has in
      let l = within (pddl_types c) n (λ e. not_plain (subst IsPlain e plain)) in
      let k = length_map (named c.names) c.types.names in
      omega arith

  members_within : (members : List ℕ) → EachIs (Has (pddl_types c)) (map (word_at (pddl_types c)) members) → EachIs (λ n. n < length c.types.names) members
  members_within [] each = tt
  members_within (n ∷ ns) each = (member_within n each.0, members_within ns each.1)

  unions_within : (unions : List (List ℕ)) → EachIs (IsUnion (pddl_words c) (arities_of c)) (map (map (word_at (pddl_types c))) unions) → EachIs (EachIs (λ n. n < length c.types.names)) unions
  unions_within [] each = tt
  unions_within (u ∷ us) each = (members_within u each.0.1, unions_within us each.1)

  pub sound_listed : AreListed c.types
  sound_listed = record {
    few = sound.limits.types;
    parents = each-all (λ (p : Parent). (p.child < length c.types.names) × (p.parent < length c.types.names)) c.types.parents (
        each-more
        (λ (p : Parent). (p.child < length c.types.names) × (p.parent < length c.types.names) × (0 < p.child))
        (λ (p : Parent). (p.child < length c.types.names) × (p.parent < length c.types.names))
        c.types.parents
        (λ p q. (q.0, q.1))
        sound.value.parents
        );
    unions = each-all (All (λ t. t < length c.types.names)) c.types.unions (
        each-more (EachIs (λ t. t < length c.types.names)) (All (λ t. t < length c.types.names)) c.types.unions (each-all (λ t. t < length c.types.names)) (unions_within c.types.unions sound.value.words.unions)
        );
  }

  pub sound_runnable : IsRunnable c
  sound_runnable =
      let o = sound.limits.objects in
      let a = sound.limits.actions in
      record { listed = sound_listed; objects = omega (arith, o); actions = omega (arith, a); apart = sound_apart }

-- a text of steps over two texts with a value
module _ (value : Pddl) (plan : List ℕ) where
  spell : (domain problem : List ℕ) → IsValueOf domain problem value → (steps : List GroundAction) → IsPlanRead plan steps → Spell domain problem plan value steps
  spell domain problem is steps read = record { value = is; list = read }

  pub confirmed_for : IsChecked value plan most_steps checked.Plan → IsConfirmedFor value plan
  confirmed_for c domain problem is = (value, c.0, record { spelled = spell domain problem is c.0 c.1; few = c.2.0 }, c.2.1)

  module _ (names : List Word) where
    pub too_many_for : (n : ℕ) → IsChecked value plan most_steps (checked.TooMany n) → StopsFor names value plan (refused.Limit (limit.Steps n))
    too_many_for n c domain problem is = (value, c.0, spell domain problem is c.0 c.1, c.2.0, c.2.1)

    pub fails_for : (step : ℕ) (why : FailWhy) → IsChecked value plan most_steps (checked.Fails step why) → StopsFor names value plan (refused.Finding (finding.NotAPlan step why))
    fails_for step why c domain problem is = (value, c.0, record { spelled = spell domain problem is c.0 c.1; few = c.2.0 }, c.2.1)

-- the fault of a plan's text is the least of three texts, where the two others have none
pub least_of_plan : (domain problem plan : List ℕ) (file code at : ℕ) → HaveNoFault language.Pddl domain problem → (file ≡ 2) × IsPlanFault plan (fault code at) → IsLeastWithPlan language.Pddl domain problem plan file code at
least_of_plan domain problem plan file code at none is = subst (λ z. IsLeastWithPlan language.Pddl domain problem plan z code at) (sym is.0) (of_third none is.1)
