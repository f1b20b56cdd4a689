-- Spelled values and printable values have sound words.
use Rattle.std.proofs.Common.{ℕ, ◌≡◌, ◌<◌, inl, inr, Bool, true, false, List, length, Some, refl, ap, sym, subst, ◌∙◌}
use Rattle.text_forms.specs.Lists.{Parts}
use Rattle.text_forms.specs.Words.{Word, is_name, word_at}
use Rattle.plan_texts.specs.Declared.{named}
use Rattle.plan_texts.specs.TypedLists.{EachTyped}
use Rattle.plan_texts.specs.Types.{EachIs, TypeItem, IsSomeName, IsTypeItem, Mentions, IsPairSaid}
use Rattle.plan_texts.specs.Schemas.{IsObject, IsAction}
use Rattle.plan_texts.specs.SpellsPddl.{pddl_types, pddl_words, pddl_domain_words, ArePddlSections, SpellsPddl}
use Rattle.plan_model.specs.declared.types.Object.{Object}
use Rattle.plan_model.specs.declared.schemas.ActionSchema.{ActionSchema}
use Rattle.plan_model.specs.declared.values.Pddl.{Pddl}
use Rattle.plan_texts.proofs.Members.{each-has}
use Rattle.plan_texts.proofs.Places.{each-join}
use Rattle.plan_proof.specs.SoundWords.{HasSoundWords}
use Rattle.slot_encoding.proofs.places.Places.{in_range, each-from_has, each-typed, each-spelled}

module _ (c : Pddl) (domain problem : Parts) (e : ArePddlSections c domain problem) where
  items-named : EachIs (λ (x : TypeItem). (is_name x.0 ≡ true) × IsSomeName x.1) e.types.items
  items-named = each-typed IsTypeItem (λ (x : TypeItem). (is_name x.0 ≡ true) × IsSomeName x.1) (λ x p o i. (i.1, i.3)) e.types.items _ e.types.spelled

  mentioned : (w : Word) → Mentions e.types.items w → is_name w ≡ true
  mentioned w (inl h) = (each-has _ e.types.items (w, h.0) items-named h.1).0
  mentioned w (inr h) = (each-has _ e.types.items (h.0, Some w) items-named h.1).1

  pair-named : (u t : Word) → IsPairSaid e.types.items u t → (is_name u ≡ true) × (is_name t ≡ true)
  pair-named u t (inl h) = each-has _ e.types.items (u, Some t) items-named h
  pair-named u t (inr h) = (mentioned u h.2, ap is_name h.0)

  typed : (b : Bool) (xs : List Object) (ps : Parts) → EachTyped (IsObject (pddl_words c) b) xs ps → EachIs (λ (x : Object). x.ty < length (pddl_types c)) xs
  typed b = each-typed (IsObject (pddl_words c) b) (λ (x : Object). x.ty < length (pddl_types c)) (λ x p o i. in_range (pddl_types c) x.ty (ap is_name i.2.0 ∙ i.2.1))

  objects-named : (b : Bool) (xs : List Object) (ps : Parts) → EachTyped (IsObject (pddl_words c) b) xs ps → EachIs (λ (x : Object). is_name (named c.names x.name) ≡ true) xs
  objects-named b = each-typed (IsObject (pddl_words c) b) (λ (x : Object). is_name (named c.names x.name) ≡ true) (λ x p o i. i.1)

  sections-sound : HasSoundWords c
  sections-sound = record {
    first = e.types.first;
    different = e.types.different;
    types_named = each-from_has _ (pddl_types c) (λ w h. elim ((e.types.same_words w).0 h) [ inl g ↦ ap is_name g | inr g ↦ mentioned w g ]);
    parents = each-from_has _ c.types.parents (λ x h. let g = pair-named (word_at (pddl_types c) x.child) (word_at (pddl_types c) x.parent) ((e.types.same_pairs _ _).0 (x, h, refl, refl)) in (in_range (pddl_types c) x.child g.0, in_range (pddl_types c) x.parent g.1));
    objects_typed = subst (EachIs (λ (x : Object). x.ty < length (pddl_types c))) (sym e.objects) (each-join _ e.constants e.others (typed true e.constants _ e.constants_spelled) (typed false e.others _ e.others_spelled));
    objects_named = subst (EachIs (λ (x : Object). is_name (named c.names x.name) ≡ true)) (sym e.objects) (each-join _ e.constants e.others (objects-named true e.constants _ e.constants_spelled) (objects-named false e.others _ e.others_spelled));
    actions_named = each-spelled (IsAction (pddl_domain_words c e.constants)) (λ (a : ActionSchema). is_name (named c.names a.name) ≡ true) (λ a p i. i.named) c.actions _ e.actions;
  }

pub spelled-sound : (c : Pddl) (domain problem : List ℕ) → SpellsPddl domain problem c → HasSoundWords c
spelled-sound c domain problem e = sections-sound c e.domain_sections e.problem_sections e.sections
