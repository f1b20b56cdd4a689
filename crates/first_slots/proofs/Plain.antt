-- The printed problem with first-free slots, and the one with any free slots that it is made of.
use Rattle.std.proofs.Common.{ℕ, zero, suc, ◌≡◌, ◌+◌, ◌≤◌, ◌⊎◌, inl, inr, List, [], ◌∷◌, ◌++◌, map, length, slice_get, Some, refl, ap, sym, subst, ◌∙◌, append_assoc, arith}
use Rattle.htn_base.specs.Different.{AreDifferent}
use Rattle.text_forms.specs.Words.{Word}
use Rattle.plan_model.specs.declared.options.Checks.{Checks}
use Rattle.plan_model.specs.declared.options.Style.{Style}
use Rattle.plan_model.specs.declared.schemas.ActionSchema.{ActionSchema}
use Rattle.plan_model.specs.declared.schemas.MethodPlan.{MethodPlan}
use Rattle.plan_model.specs.declared.values.Compiled.{Compiled}
use Rattle.plan_model.specs.declared.values.Hddl.{Hddl}
use Rattle.plan_model.specs.declared.values.Pddl.{Pddl}
use Rattle.plan_texts.specs.Declared.{named}
use Rattle.plan_texts.specs.Types.{EachIs}
use Rattle.plan_texts.specs.Printable.{IsPlain}
use Rattle.plan_texts.specs.SpellsPddl.{pddl_words}
use Rattle.slot_encoding.specs.EncodedValue.{encoded_methods, encoded_checks, encoded_source, encoded_actions}
use Rattle.slot_encoding.specs.FirstFree.{first_method, first_methods, first_actions}
use Rattle.slot_encoding.specs.Printed.{IsPrintedFirst}
use Rattle.slot_encoding.proofs.first_free.FirstActions.{first_actions-named}
use Rattle.slot_encoding.proofs.places.ActionPlaces.{length-methods}
use Rattle.slot_encoding.proofs.places.ListPlaces.{get_append_cases, get_left, get_right, get_within}
use Rattle.slot_encoding.proofs.places.WellWorded.{IsWellWorded}

module _ (c : Compiled) (names : List (List ℕ)) (b : ℕ) (style : Style) where
  abbrev the_method : ℕ → MethodPlan → ActionSchema
  the_method = first_method c names b style

  moved : (m j : ℕ) (x : MethodPlan) → the_method (suc m + j) x ≡ the_method (m + suc j) x
  moved m j x = let e : suc m + j ≡ m + suc j = omega arith in ap (λ z. the_method z x) e

  last : (m : ℕ) (x : MethodPlan) → the_method m x ≡ the_method (m + 0) x
  last m x = let e : m ≡ m + 0 = omega arith in ap (λ z. the_method z x) e

  length-first : (m : ℕ) (plans : List MethodPlan) → length (first_methods c names b style m plans) ≡ length plans
  length-first m [] = refl
  length-first m (plan ∷ plans) = ap suc (length-first (suc m) plans)

  methods_at : (m j : ℕ) (plans : List MethodPlan) (plan : MethodPlan) → slice_get plans j ≡ Some plan → slice_get (first_methods c names b style m plans) j ≡ Some (the_method (m + j) plan)
  methods_at m j [] plan e = absurd cc
  methods_at m zero (x ∷ plans) plan e = let f : x ≡ plan = cc in ap (λ z. Some (the_method m z)) f ∙ ap Some (last m plan)
  methods_at m (suc j) (x ∷ plans) plan e = methods_at (suc m) j plans plan e ∙ ap Some (moved m j plan)

  methods_cases : (m j : ℕ) (plans : List MethodPlan) (a : ActionSchema) → slice_get (first_methods c names b style m plans) j ≡ Some a
      → (plan : MethodPlan) × (slice_get plans j ≡ Some plan) × (a ≡ the_method (m + j) plan)
  methods_cases m j [] a e = absurd cc
  methods_cases m zero (x ∷ plans) a e = (x, refl, (let f : the_method m x ≡ a = cc in sym f) ∙ last m x)
  methods_cases m (suc j) (x ∷ plans) a e = let (plan, f, g) = methods_cases (suc m) j plans a e in (plan, f, g ∙ moved m j plan)

  of_zero : (m : ℕ) (x : MethodPlan) → the_method (0 + m) x ≡ the_method m x
  of_zero m x = let e : 0 + m ≡ m = omega arith in ap (λ z. the_method z x) e

  abbrev narrowed_methods : List ActionSchema
  narrowed_methods = first_methods c names b style 0 c.methods

  abbrev plain_methods : List ActionSchema
  plain_methods = encoded_methods c names b style 0 c.methods

  abbrev checks : List ActionSchema
  checks = encoded_checks c names b style 0 c.methods

  abbrev sources : List ActionSchema
  sources = encoded_source c names b style 0 c.hddl.actions

  abbrev works : List ActionSchema
  works = checks ++ sources

  first_is : first_actions c names b style ≡ narrowed_methods ++ works
  first_is = append_assoc narrowed_methods checks sources

  plain_is : encoded_actions c names b style ≡ plain_methods ++ works
  plain_is = append_assoc plain_methods checks sources

  -- an action is that of a method, with its further conditions, or else stands as it did
  abbrev pub IsNarrowed : ℕ → ActionSchema → Type 0
  IsNarrowed k a = (plan : MethodPlan) × (slice_get c.methods k ≡ Some plan) × (a ≡ first_method c names b style k plan)

  abbrev pub IsUnchanged : ℕ → ActionSchema → Type 0
  IsUnchanged k a = (length c.methods ≤ k) × (slice_get (encoded_actions c names b style) k ≡ Some a)

  pub first_cases : (k : ℕ) (a : ActionSchema) → slice_get (first_actions c names b style) k ≡ Some a → IsNarrowed k a ⊎ IsUnchanged k a
  first_cases k a e = elim (get_append_cases narrowed_methods works k a (ap (λ z. slice_get z k) (sym first_is) ∙ e)) [
    | inl d ↦ inl (let (plan, f, g) = methods_cases 0 k c.methods a d in (plan, f, g ∙ of_zero k plan))
    | inr (j, f, g) ↦ inr (
        let l = length-first 0 c.methods in
        let m = length-methods c names b style 0 c.methods in
        let n : length plain_methods + j ≡ k = omega arith in
        (omega arith, ap (λ z. slice_get z k) plain_is ∙ subst (λ z. slice_get (plain_methods ++ works) z ≡ Some a) n (get_right plain_methods works j a g))
        )
  ]

  pub narrowed_at : (m : ℕ) (plan : MethodPlan) → slice_get c.methods m ≡ Some plan → slice_get (first_actions c names b style) m ≡ Some (first_method c names b style m plan)
  narrowed_at m plan e = ap (λ z. slice_get z m) first_is ∙ get_left narrowed_methods works m (the_method m plan) (methods_at 0 m c.methods plan e ∙ ap Some (of_zero m plan))

  pub unchanged_at : (k : ℕ) (a : ActionSchema) → IsUnchanged k a → slice_get (first_actions c names b style) k ≡ Some a
  unchanged_at k a (l, e) = elim (get_append_cases plain_methods works k a (ap (λ z. slice_get z k) (sym plain_is) ∙ e)) [
    | inl d ↦ absurd (let m = length-methods c names b style 0 c.methods in let n = get_within plain_methods k a d in omega arith)
    | inr (j, f, g) ↦ (
        let x = length-first 0 c.methods in
        let m = length-methods c names b style 0 c.methods in
        let n : length narrowed_methods + j ≡ k = omega arith in
        ap (λ z. slice_get z k) first_is ∙ subst (λ z. slice_get (narrowed_methods ++ works) z ≡ Some a) n (get_right narrowed_methods works j a g)
        )
  ]

-- so the plain one is well worded
module _ (h : Hddl) (mode : Checks) (c : Compiled) (b : ℕ) (style : Style) (p : Pddl) (is : IsPrintedFirst h mode c b style p) where
  abbrev pub plain : Pddl
  plain = is.encoded.plain

  abbrev words : Pddl → List Word
  words z = map (λ (a : ActionSchema). named z.names a.name) z.actions

  actions_are : words p ≡ words is.encoded.plain
  actions_are = ap words is.encoded.value_is ∙ first_actions-named c is.encoded.plain.names b style ∙ ap (map (λ (a : ActionSchema). named is.encoded.plain.names a.name)) (sym is.encoded.encoded.actions)

  objects_are : (pddl_words p).objects ≡ (pddl_words is.encoded.plain).objects
  objects_are = ap (λ z. (pddl_words z).objects) is.encoded.value_is

  pub plain_well : IsWellWorded h mode c b style is.encoded.plain
  plain_well = record {
    sound = is.sound;
    compiled = is.compiled;
    encoded = is.encoded.encoded;
    objects = subst (EachIs IsPlain) objects_are is.printable.words.objects;
    objects_differ = subst AreDifferent objects_are is.printable.words.objects_differ;
    actions = subst (EachIs IsPlain) actions_are is.printable.actions_named;
    actions_differ = subst AreDifferent actions_are is.printable.actions_differ;
  }
