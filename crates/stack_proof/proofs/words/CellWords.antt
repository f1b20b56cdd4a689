-- The words of the printed objects: each has one, and no two have the same.
-- Source: this project's.
use Rattle.std.proofs.Common.{ℕ, ◌≡◌, ◌<◌, ◌≤◌, true, List, [], ◌∷◌, ◌++◌, map, length, slice_get, Some, ap, sym, subst, ◌∙◌, refl}
use Rattle.htn_base.specs.Escapes.{slot_word}
use Rattle.plan_model.specs.declared.options.Checks.{Checks}
use Rattle.plan_model.specs.declared.types.Object.{Object}
use Rattle.plan_model.specs.declared.terms.Param.{Param}
use Rattle.plan_model.specs.declared.values.Hddl.{Hddl}
use Rattle.plan_model.specs.declared.values.Compiled.{Compiled}
use Rattle.plan_model.specs.declared.values.Pddl.{Pddl}
use Rattle.text_forms.specs.Words.{Word, is_name}
use Rattle.plan_texts.specs.Declared.{named}
use Rattle.plan_texts.specs.Types.{EachIs}
use Rattle.plan_texts.specs.Printable.{IsPlain}
use Rattle.plan_model.specs.plan_meaning.Truth.{AreTyped}
use Rattle.plan_model.specs.plan_meaning.Network as Source
use Rattle.plan_model.specs.plan_meaning.ClassicalPlan.{HasWord, AreObjects}
use Rattle.plan_model.specs.plan_meaning.SpelledPlan.{object_by, object_word}
use Rattle.slot_encoding.specs.SourceParts.{name, source_word}
use Rattle.slot_encoding.proofs.places.Places.{get-word, each-at-some}
use Rattle.slot_encoding.proofs.places.ListPlaces.{get_to_map, get_within, within_get}
use Rattle.slot_encoding.proofs.places.ObjectPlaces.{printed_object, printed_slot}
use Rattle.plan_proof.proofs.machine.ObjectWords.{name_word, same_get}
use Rattle.stack_encoding.specs.StackNames.{cell_object, stack_objects}
use Rattle.stack_encoding.proofs.places.StackWorded.{IsStackWorded}
use Rattle.stack_encoding.proofs.places.CellPlaces.{object_at, cell_at}
use Rattle.stack_proof.proofs.words.Cells.{IsCellNumber}

module _ (h : Hddl) (mode : Checks) (c : Compiled) (b : ℕ) (p : Pddl) (is : IsStackWorded h mode c b p) where
  abbrev words : List Word
  words = map (λ (x : Object). named p.names x.name) p.objects

  -- the word of an object of the list of words
  word_there : (o : ℕ) (w : Word) → HasWord p o w → slice_get words o ≡ Some w
  word_there o w (x, e, f) = get_to_map (λ (x : Object). named p.names x.name) p.objects o x e ∙ ap Some (get-word p.names x.name.number w f)

  -- an object named by a word has this word
  has_word : (o : ℕ) (x : Object) (w : Word) → slice_get p.objects o ≡ Some x → x.name ≡ name p.names w → HasWord p o w
  has_word o x w e f =
      let plain : IsPlain (named p.names x.name) = each-at-some IsPlain words o (named p.names x.name) is.objects (get_to_map (λ (x : Object). named p.names x.name) p.objects o x e) in
      (x, e, subst (λ z. slice_get p.names z.number ≡ Some w) (sym f) (name_word p.names w (subst (λ z. is_name (named p.names z) ≡ true) f plain.1)))

  at : (o : ℕ) (x : Object) → slice_get (stack_objects c p.names b) o ≡ Some x → slice_get p.objects o ≡ Some x
  at o x e = ap (λ z. slice_get z o) is.encoded.objects ∙ e

  of_source : (o : ℕ) → o < length c.hddl.objects → HasWord p o (object_word c o)
  of_source o l =
      let (x, e) = within_get c.hddl.objects o l in
      subst (HasWord p o) (ap (object_by c) (sym e)) (has_word o (printed_object c p.names b x) (source_word c.hddl.names x.name) (at o (printed_object c p.names b x) (object_at c p.names b o x e)) refl)

  of_cell : (k : ℕ) → k ≤ b → HasWord p (cell_object c k) (slot_word k)
  of_cell k l = has_word (cell_object c k) (printed_slot c p.names b k) (slot_word k) (at (cell_object c k) (printed_slot c p.names b k) (cell_at c p.names b k l)) refl

  one : (o o' : ℕ) (w : Word) → HasWord p o w → HasWord p o' w → o ≡ o'
  one o o' w i j = same_get words o o' w is.objects_differ (word_there o w i) (word_there o' w j)

  one_word : (o : ℕ) (w w' : Word) → HasWord p o w → HasWord p o w' → w ≡ w'
  one_word o w w' i j = let e = word_there o w i in let f = word_there o w' j in cc

  pub same_objects : (os os' : List ℕ) (ws : List Word) → AreObjects p os ws → AreObjects p os' ws → os ≡ os'
  same_objects [] [] ws i j = refl
  same_objects [] (o ∷ os') [] i j = absurd j
  same_objects [] (o ∷ os') (w ∷ ws) i j = absurd i
  same_objects (o ∷ os) [] [] i j = absurd i
  same_objects (o ∷ os) [] (w ∷ ws) i j = absurd j
  same_objects (o ∷ os) (o' ∷ os') [] i j = absurd i
  same_objects (o ∷ os) (o' ∷ os') (w ∷ ws) i j = let e = one o o' w i.0 j.0 in let f = same_objects os os' ws i.1 j.1 in cc

  pub same_words : (os : List ℕ) (ws ws' : List Word) → AreObjects p os ws → AreObjects p os ws' → ws ≡ ws'
  same_words [] [] [] i j = refl
  same_words [] [] (w ∷ ws') i j = absurd j
  same_words [] (w ∷ ws) ws' i j = absurd i
  same_words (o ∷ os) [] ws' i j = absurd i
  same_words (o ∷ os) (w ∷ ws) [] i j = absurd j
  same_words (o ∷ os) (w ∷ ws) (w' ∷ ws') i j = let e = one_word o w w' i.0 j.0 in let f = same_words os ws ws' i.1 j.1 in cc

  join_objects : (os os' : List ℕ) (ws ws' : List Word) → AreObjects p os ws → AreObjects p os' ws' → AreObjects p (os ++ os') (ws ++ ws')
  join_objects [] os' [] ws' i j = j
  join_objects [] os' (w ∷ ws) ws' i j = absurd i
  join_objects (o ∷ os) os' [] ws' i j = absurd i
  join_objects (o ∷ os) os' (w ∷ ws) ws' i j = (i.0, join_objects os os' ws ws' i.1 j)

  cells_worded : (ks : List ℕ) → EachIs (IsCellNumber b) ks → AreObjects p (map (cell_object c) ks) (map slot_word ks)
  cells_worded [] e = tt
  cells_worded (k ∷ ks) e = (of_cell k e.0, cells_worded ks e.1)

  source_worded : (params : List Param) (os : List ℕ) → AreTyped (Source.InTypeOf c) params os → AreObjects p os (map (object_word c) os)
  source_worded [] [] t = tt
  source_worded [] (o ∷ os) t = absurd t
  source_worded (x ∷ params) [] t = absurd t
  source_worded (x ∷ params) (o ∷ os) t = (of_source o (get_within c.hddl.objects o t.0.0 t.0.1), source_worded params os t.1)

  -- the words of cells and objects
  pub worded : (ks values : List ℕ) (params : List Param) → EachIs (IsCellNumber b) ks → AreTyped (Source.InTypeOf c) params values → AreObjects p (map (cell_object c) ks ++ values) (map slot_word ks ++ map (object_word c) values)
  worded ks values params e t = join_objects (map (cell_object c) ks) values (map slot_word ks) (map (object_word c) values) (cells_worded ks e) (source_worded params values t)
