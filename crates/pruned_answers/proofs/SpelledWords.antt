-- What two HDDL texts spell has sound words.
use Rattle.std.proofs.Common.{ℕ, ◌≡◌, ◌<◌, inl, inr, Bool, true, false, List, length, Some, refl, ap, sym, subst, ◌∙◌}
use Rattle.text_forms.specs.Lists.{Parts}
use Rattle.text_forms.specs.Words.{Word, is_name, word_at}
use Rattle.plan_texts.specs.Declared.{named, words_with}
use Rattle.plan_texts.specs.TypedLists.{EachTyped}
use Rattle.plan_texts.specs.Types.{EachIs, TypeItem, IsSomeName, IsTypeItem, Mentions, IsPairSaid}
use Rattle.plan_texts.specs.Schemas.{IsObject, IsAction}
use Rattle.plan_texts.specs.SpellsHddl.{hddl_types, AreHddlSections, SpellsHddl}
use Rattle.plan_texts.proofs.Members.{each-has}
use Rattle.plan_texts.proofs.Places.{each-join}
use Rattle.plan_model.specs.declared.types.Object.{Object}
use Rattle.plan_model.specs.declared.schemas.ActionSchema.{ActionSchema}
use Rattle.plan_model.specs.declared.values.Hddl.{Hddl}
use Rattle.slot_encoding.proofs.places.Places.{in_range, each-from_has, each-typed, each-spelled}
use Rattle.plan_proof.specs.SoundWords.{HasSoundWords}
use Rattle.pruned_answers.proofs.Meanings.{source}

module _ (c : Hddl) (domain problem : Parts) (e : AreHddlSections c domain problem) where
  items-named : EachIs (λ (x : TypeItem). (is_name x.0 ≡ true) × IsSomeName x.1) e.types.items
  items-named = each-typed IsTypeItem (λ (x : TypeItem). (is_name x.0 ≡ true) × IsSomeName x.1) (λ x p o i. (i.1, i.3)) e.types.items _ e.types.spelled

  mentioned : (w : Word) → Mentions e.types.items w → is_name w ≡ true
  mentioned w (inl h) = (each-has _ e.types.items (w, h.0) items-named h.1).0
  mentioned w (inr h) = (each-has _ e.types.items (h.0, Some w) items-named h.1).1

  pair-named : (u t : Word) → IsPairSaid e.types.items u t → (is_name u ≡ true) × (is_name t ≡ true)
  pair-named u t (inl h) = each-has _ e.types.items (u, Some t) items-named h
  pair-named u t (inr h) = (mentioned u h.2, ap is_name h.0)

  typed : (b : Bool) (os xs : List Object) (ps : Parts) → EachTyped (IsObject (words_with c.names c.types c.predicates os) b) xs ps → EachIs (λ (x : Object). x.ty < length (hddl_types c)) xs
  typed b os = each-typed (IsObject (words_with c.names c.types c.predicates os) b) (λ (x : Object). x.ty < length (hddl_types c)) (λ x p o i. in_range (hddl_types c) x.ty (ap is_name i.2.0 ∙ i.2.1))

  objects-named : (b : Bool) (os xs : List Object) (ps : Parts) → EachTyped (IsObject (words_with c.names c.types c.predicates os) b) xs ps → EachIs (λ (x : Object). is_name (named c.names x.name) ≡ true) xs
  objects-named b os = each-typed (IsObject (words_with c.names c.types c.predicates os) b) (λ (x : Object). is_name (named c.names x.name) ≡ true) (λ x p o i. i.1)

  sections_sound : HasSoundWords (source c)
  sections_sound = record {
    first = e.types.first;
    different = e.types.different;
    types_named = each-from_has _ (hddl_types c) (λ w h. elim ((e.types.same_words w).0 h) [ inl g ↦ ap is_name g | inr g ↦ mentioned w g ]);
    parents = each-from_has _ c.types.parents (λ x h. (let g = pair-named (word_at (hddl_types c) x.child) (word_at (hddl_types c) x.parent) ((e.types.same_pairs _ _).0 (x, h, refl, refl)) in (in_range (hddl_types c) x.child g.0, in_range (hddl_types c) x.parent g.1)));
    objects_typed = subst (EachIs (λ (x : Object). x.ty < length (hddl_types c))) (sym e.objects) (each-join _ e.constants e.others (typed true e.constants e.constants _ e.constants_spelled) (typed false c.objects e.others _ e.others_spelled));
    objects_named = subst (EachIs (λ (x : Object). is_name (named c.names x.name) ≡ true)) (sym e.objects) (each-join _ e.constants e.others (objects-named true e.constants e.constants _ e.constants_spelled) (objects-named false c.objects e.others _ e.others_spelled));
    actions_named = each-spelled (IsAction (words_with c.names c.types c.predicates e.constants)) (λ (a : ActionSchema). is_name (named c.names a.name) ≡ true) (λ a p i. i.named) c.actions _ e.actions;
  }

pub spelled_words : (domain problem : List ℕ) (c : Hddl) → SpellsHddl domain problem c → HasSoundWords (source c)
spelled_words domain problem c e = sections_sound c e.domain_sections e.problem_sections e.sections
