-- The words of the printed objects: each has one, and no two have the same.
use Rattle.std.proofs.Common.{ℕ, zero, suc, ◌≡◌, ◌+◌, ◌-◌, ◌<◌, true, List, [], ◌∷◌, ◌++◌, map, length, get_or, slice_get, unwrap_or, Option, Some, None, refl, ap, sym, subst, ◌∙◌, arith}
use Rattle.std.proofs.lemmas.List.Quantifiers.{position-Some}
use Rattle.std.proofs.lemmas.Option.{slice_get-get_or}
use Rattle.std.specs.Str.{bytes_eq}
use Rattle.htn_base.specs.Table.{number_of}
use Rattle.htn_base.specs.Escapes.{slot_word}
use Rattle.plan_model.specs.declared.options.Style.{Style}
use Rattle.plan_model.specs.declared.options.Checks.{Checks}
use Rattle.plan_model.specs.declared.types.Object.{Object}
use Rattle.plan_model.specs.declared.values.Hddl.{Hddl}
use Rattle.plan_model.specs.declared.values.Compiled.{Compiled}
use Rattle.plan_model.specs.declared.values.Pddl.{Pddl}
use Rattle.text_forms.specs.Words.{Word, is_name, word_at}
use Rattle.plan_texts.specs.Declared.{named}
use Rattle.htn_base.specs.Different.{AreDifferent}
use Rattle.plan_texts.specs.Types.{EachIs}
use Rattle.plan_texts.specs.Printable.{IsPlain}
use Rattle.plan_texts.proofs.Basics.{bytes_eq-true}
use Rattle.slot_encoding.proofs.places.Places.{in_range, same_place, get-word, each-at-some}
use Rattle.plan_model.specs.plan_meaning.ClassicalPlan.{HasWord, AreObjects}
use Rattle.plan_model.specs.plan_meaning.SpelledPlan.{object_by, object_word}
use Rattle.slot_encoding.specs.SourceParts.{name, source_word}
use Rattle.slot_encoding.specs.EncodedNames.{first_slot, encoded_objects}
use Rattle.slot_encoding.proofs.places.WellWorded.{IsWellWorded}
use Rattle.slot_encoding.proofs.Pieces.{IsSlot, slot_object, ObjectWords}
use Rattle.slot_encoding.proofs.places.ListPlaces.{get_to_map, get_within, within_get}
use Rattle.slot_encoding.proofs.places.ObjectPlaces.{printed_object, printed_slot, object_at, slot_at}

-- a name whose word is printable is that of its word
pub name_word : (names : List Word) (word : Word) → is_name (word_at names (name names word).number) ≡ true → slice_get names (name names word).number ≡ Some word
name_word names word e = go (number_of names word) refl e
  where
    go : (o : Option ℕ) → number_of names word ≡ o → is_name (word_at names (unwrap_or o (length names))) ≡ true → slice_get names (unwrap_or o (length names)) ≡ Some word
    go None f h = absurd (let l = in_range names (length names) h in omega arith)
    go (Some k) f h =
        let (l, t, later) = position-Some (bytes_eq word) names k [] f in
        slice_get-get_or names k [] l ∙ ap Some (sym (bytes_eq-true word (get_or names k []) t))

-- words that differ stand at one place each
pub same_get : (ws : List Word) (j k : ℕ) (w : Word) → AreDifferent ws → slice_get ws j ≡ Some w → slice_get ws k ≡ Some w → j ≡ k
same_get ws j k w d e f = same_place ws j k d (get_within ws j w e) (get_within ws k w f) (get-word ws j w e ∙ sym (get-word ws k w f))

module _ (h : Hddl) (mode : Checks) (c : Compiled) (b : ℕ) (style : Style) (p : Pddl) (is : IsWellWorded h mode c b style p) where
  abbrev words : List Word
  words = map (λ (x : Object). named p.names x.name) p.objects

  -- the word of an object of the list of words
  word_there : (o : ℕ) (w : Word) → HasWord p o w → slice_get words o ≡ Some w
  word_there o w (x, e, f) = get_to_map (λ (x : Object). named p.names x.name) p.objects o x e ∙ ap Some (get-word p.names x.name.number w f)

  -- an object named by a word has this word
  has_word : (o : ℕ) (x : Object) (w : Word) → slice_get p.objects o ≡ Some x → x.name ≡ name p.names w → HasWord p o w
  has_word o x w e f =
      let plain : IsPlain (named p.names x.name) = each-at-some IsPlain words o (named p.names x.name) is.objects (get_to_map (λ (x : Object). named p.names x.name) p.objects o x e) in
      (x, e, subst (λ z. slice_get p.names z.number ≡ Some w) (sym f) (name_word p.names w (subst (λ z. is_name (named p.names z) ≡ true) f plain.1)))

  at : (o : ℕ) (x : Object) → slice_get (encoded_objects c p.names b) o ≡ Some x → slice_get p.objects o ≡ Some x
  at o x e = ap (λ z. slice_get z o) is.encoded.objects ∙ e

  of_source : (o : ℕ) → o < length c.hddl.objects → HasWord p o (object_word c o)
  of_source o l =
      let (x, e) = within_get c.hddl.objects o l in
      subst (HasWord p o) (ap (object_by c) (sym e)) (has_word o (printed_object c p.names b x) (source_word c.hddl.names x.name) (at o (printed_object c p.names b x) (object_at c p.names b o x e)) refl)

  of_slot : (k : ℕ) → IsSlot c b style p k → HasWord p (slot_object c b style p k) (slot_word k)
  of_slot zero s = absurd (let l = s.0 in omega arith)
  of_slot (suc k) s =
      let e : suc k - 1 ≡ k = omega arith in
      let l : k < b = (let m = s.1 in omega arith) in
      subst (λ z. HasWord p (first_slot c + z) (slot_word (suc k))) (sym e) (has_word (first_slot c + k) (printed_slot c p.names b (suc k)) (slot_word (suc k)) (at (first_slot c + k) (printed_slot c p.names b (suc k)) (slot_at c p.names b k l)) refl)

  one : (o o' : ℕ) (w : Word) → HasWord p o w → HasWord p o' w → o ≡ o'
  one o o' w i j = same_get words o o' w is.objects_differ (word_there o w i) (word_there o' w j)

  one_word : (o : ℕ) (w w' : Word) → HasWord p o w → HasWord p o w' → w ≡ w'
  one_word o w w' i j = let e = word_there o w i in let f = word_there o w' j in cc

  pub object_words : ObjectWords c b style p
  object_words = record { source = of_source; slot = of_slot; one = one; one_word = one_word }

  pub same_objects : (os os' : List ℕ) (ws : List Word) → AreObjects p os ws → AreObjects p os' ws → os ≡ os'
  same_objects [] [] ws i j = refl
  same_objects [] (o ∷ os') [] i j = absurd j
  same_objects [] (o ∷ os') (w ∷ ws) i j = absurd i
  same_objects (o ∷ os) [] [] i j = absurd i
  same_objects (o ∷ os) [] (w ∷ ws) i j = absurd j
  same_objects (o ∷ os) (o' ∷ os') [] i j = absurd i
  same_objects (o ∷ os) (o' ∷ os') (w ∷ ws) i j = let e = one o o' w i.0 j.0 in let f = same_objects os os' ws i.1 j.1 in cc

  pub same_words : (os : List ℕ) (ws ws' : List Word) → AreObjects p os ws → AreObjects p os ws' → ws ≡ ws'
  same_words [] [] [] i j = refl
  same_words [] [] (w ∷ ws') i j = absurd j
  same_words [] (w ∷ ws) ws' i j = absurd i
  same_words (o ∷ os) [] ws' i j = absurd i
  same_words (o ∷ os) (w ∷ ws) [] i j = absurd j
  same_words (o ∷ os) (w ∷ ws) (w' ∷ ws') i j = let e = one_word o w w' i.0 j.0 in let f = same_words os ws ws' i.1 j.1 in cc

  pub join_objects : (os os' : List ℕ) (ws ws' : List Word) → AreObjects p os ws → AreObjects p os' ws' → AreObjects p (os ++ os') (ws ++ ws')
  join_objects [] os' [] ws' i j = j
  join_objects [] os' (w ∷ ws) ws' i j = absurd i
  join_objects (o ∷ os) os' [] ws' i j = absurd i
  join_objects (o ∷ os) os' (w ∷ ws) ws' i j = (i.0, join_objects os os' ws ws' i.1 j)

  pub slots_worded : (ks : List ℕ) → EachIs (IsSlot c b style p) ks → AreObjects p (map (slot_object c b style p) ks) (map slot_word ks)
  slots_worded [] e = tt
  slots_worded (k ∷ ks) e = (of_slot k e.0, slots_worded ks e.1)

  pub source_worded : (os : List ℕ) → EachIs (λ o. o < length c.hddl.objects) os → AreObjects p os (map (object_word c) os)
  source_worded [] e = tt
  source_worded (o ∷ os) e = (of_source o e.0, source_worded os e.1)
