-- Arguments in printed words: what an index over the printed words finds is what a printed step names.
use Rattle.std.proofs.Common.{ℕ, ◌≡◌, ◌<◌, List, [], ◌∷◌, length, map, Some, slice_get, Contains, refl, sym, ap, ◌∙◌}
use Rattle.htn_base.proofs.EscapeLemmas.{names_apart}
use Rattle.plan_model.specs.declared.terms.Param.{Param}
use Rattle.plan_model.specs.declared.types.Object.{Object}
use Rattle.plan_model.specs.declared.schemas.ActionSchema.{ActionSchema}
use Rattle.plan_model.specs.declared.values.Compiled.{Compiled}
use Rattle.plan_model.specs.plan_meaning.Truth.{AreTyped}
use Rattle.plan_model.specs.plan_meaning.ClassicalPlan.{HasWord, AreObjects}
use Rattle.plan_model.specs.plan_meaning.FailingStep.{AreNamedApart}
use Rattle.plan_model.specs.plan_meaning.Network.{InTypeOf}
use Rattle.plan_model.specs.plan_meaning.SpelledPlan.{object_word, object_by}
use Rattle.problem_index.specs.Printed.{in_print, source_word}
use Rattle.problem_index.proofs.IndexLaws.{contains_at, contains_from}
use Rattle.problem_index.proofs.PrintedNames.{word_at, there}

module _ (c : Compiled) where
  word_of_object : (x : ℕ) (word : List ℕ) → HasWord (in_print c.hddl) x word → word ≡ object_word c x
  word_of_object x word (o, at, w) = word_at c o.name word w ∙ sym (ap (object_by c) at)

  -- objects that have these words: the words are their printed ones
  pub objects_printed : (os : List ℕ) (words : List (List ℕ)) → AreObjects (in_print c.hddl) os words → words ≡ map (object_word c) os
  objects_printed [] [] are = refl
  objects_printed [] (w ∷ words) are = absurd are
  objects_printed (o ∷ os) [] are = absurd are
  objects_printed (o ∷ os) (w ∷ words) are =
      let here = word_of_object o w are.0 in
      let rest = objects_printed os words are.1 in
      λ i. here i ∷ rest i

  -- and objects of their types have these words, where each object has a name of the table
  module _ (named : (o : Object) → Contains c.hddl.objects o → o.name.number < length c.hddl.names) where
    object_has_word : (x : ℕ) (o : Object) → slice_get c.hddl.objects x ≡ Some o → HasWord (in_print c.hddl) x (object_word c x)
    object_has_word x o at =
        (o, at, there c o.name (named o (contains_from c.hddl.objects x o at)) ∙ ap (λ (w : List ℕ). Some w) (sym (ap (object_by c) at)))

    pub printed_objects : (params : List Param) (os : List ℕ) → AreTyped (InTypeOf c) params os → AreObjects (in_print c.hddl) os (map (object_word c) os)
    printed_objects [] [] typed = tt
    printed_objects [] (o ∷ os) typed = absurd typed
    printed_objects (p ∷ params) [] typed = absurd typed
    printed_objects (p ∷ params) (o ∷ os) typed = let t = typed.0 in (object_has_word o t.0 t.1, printed_objects params os typed.1)

  -- what is named apart in source words is so in printed ones
  pub printed_apart : ((a d : ℕ) (s t : ActionSchema) → slice_get c.hddl.actions a ≡ Some s → slice_get c.hddl.actions d ≡ Some t → source_word c s.name ≡ source_word c t.name → a ≡ d)
      → ((x y : ℕ) (o u : Object) → slice_get c.hddl.objects x ≡ Some o → slice_get c.hddl.objects y ≡ Some u → source_word c o.name ≡ source_word c u.name → x ≡ y)
      → AreNamedApart (in_print c.hddl)
  printed_apart actions objects = record {
    actions = λ s t step one two. (
        let at = contains_at c.hddl.actions s one.action in
        let to = contains_at c.hddl.actions t two.action in
        let place = actions at.0 to.0 s t at.1 to.1 (names_apart.one_to_one (source_word c s.name) (source_word c t.name) (sym (word_at c s.name step.name one.name) ∙ word_at c t.name step.name two.name)) in
        let same : Some s ≡ Some t = sym at.1 ∙ ap (slice_get c.hddl.actions) place ∙ to.1 in
        let is : s ≡ t = cc in
        is
        );
    objects = λ x y word one two. objects x y one.0 two.0 one.1 two.1
        (names_apart.one_to_one (source_word c one.0.name) (source_word c two.0.name) (sym (word_at c one.0.name word one.2) ∙ word_at c two.0.name word two.2));
  }
