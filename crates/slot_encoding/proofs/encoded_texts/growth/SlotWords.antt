-- The words of the printed problem with so many slots: those of types, predicates and source objects stay, and the slots' words stand behind.
use Rattle.std.proofs.Common.{ℕ, suc, ◌≡◌, ◌≤◌, List, [], ◌∷◌, ◌++◌, map, length, refl, ap, sym, ◌∙◌, arith, append_assoc}
use Rattle.std.specs.Prelude.{sum_by}
use Rattle.std.proofs.lemmas.List.{length-append, length-map, map-append}
use Rattle.std.proofs.lemmas.List.Sums.{sum_by-cons}
use Rattle.htn_base.specs.Escapes.{slot_word}
use Rattle.text_forms.specs.Words.{Word, word_at}
use Rattle.plan_texts.specs.Declared.{Declared, named}
use Rattle.plan_texts.specs.Types.{Has}
use Rattle.plan_texts.proofs.Members.{each-has, has-to_map, has-contains, contains-has}
use Rattle.plan_texts.proofs.Unique.{map-map}
use Rattle.plan_model.specs.declared.types.Object.{Object}
use Rattle.plan_model.specs.declared.values.Compiled.{Compiled}
use Rattle.plan_model.specs.task_networks.Spelling.{numbers}
use Rattle.plan_model.proofs.task_networks.Numbers.{length-numbers, numbers_to, to_numbers}
use Rattle.slot_encoding.specs.SourceParts.{name, renamed, retyped}
use Rattle.slot_encoding.specs.EncodedNames.{first_slot}
use Rattle.slot_encoding.specs.EncodedWords.{own_word, HasEncodedWords}
use Rattle.slot_encoding.proofs.places.ObjectPlaces.{printed_object, printed_slot}
use Rattle.slot_encoding.proofs.words.Lists.{each-right}
use Rattle.slot_encoding.proofs.words.KnownWords.{known_types, known_objects}
use Rattle.slot_encoding.proofs.words.PrintedWords.{printed_words}
use Rattle.slot_encoding.proofs.words.TableWords.{words-named}
use Rattle.slot_encoding.proofs.words.TypeWords.{types-named}
use Rattle.slot_encoding.proofs.encoded_texts.growth.Lines.{letters}
use Rattle.slot_encoding.proofs.encoded_texts.growth.Stay.{with_objects}

-- the words behind others, found by their places
at_end : (xs : List Word) (y : Word) (ys : List Word) → word_at (xs ++ y ∷ ys) (length xs) ≡ y
at_end [] y ys = refl
at_end (x ∷ xs) y ys = at_end xs y ys

abbrev found : List Word → ℕ → ℕ
found ws o = length (word_at ws o)

behind-sum : (xs ys : List Word) → sum_by (found (xs ++ ys)) (numbers (length xs) (length ys)) ≡ sum_by length ys
behind-sum xs [] = refl
behind-sum xs (y ∷ ys) =
    let a = append_assoc xs (y ∷ []) ys in
    let n : length (xs ++ y ∷ []) ≡ suc (length xs) = (let e = length-append xs (y ∷ []) in omega (arith, e)) in
    let r = behind-sum (xs ++ y ∷ []) ys in
    let s = (λ i. sum_by (found (sym a i)) (numbers (sym n i) (length ys))) ∙ r in
    let f = sum_by-cons (found (xs ++ y ∷ ys)) (length xs) (numbers (suc (length xs)) (length ys)) in
    let g = sum_by-cons length y ys in
    let e = ap length (at_end xs y ys) in
    omega (arith, s, f, g, e)

sum-map : (f : ℕ → Word) (ns : List ℕ) → sum_by length (map f ns) ≡ sum_by (λ k. length (f k)) ns
sum-map f [] = refl
sum-map f (n ∷ ns) =
    let a = sum_by-cons length (f n) (map f ns) in
    let b = sum_by-cons (λ k. length (f k)) n ns in
    let r = sum-map f ns in
    omega (arith, a, b, r)

module _ (c : Compiled) (names : List Word) (b : ℕ) (has : HasEncodedWords c b names) where
  -- the words with b slots, of which others are the same but for the objects
  abbrev pub base : Declared
  base = printed_words c names b

  abbrev pub own : List Word
  own = map (λ (x : Object). named names (renamed names c.hddl.names x.name)) c.hddl.objects

  abbrev pub slots : ℕ → List Word
  slots m = map (λ k. named names (name names (slot_word k))) (numbers 1 m)

  objects-are : (m : ℕ) → (printed_words c names m).objects ≡ own ++ slots m
  objects-are m =
      map-append (λ (x : Object). named names x.name) (map (printed_object c names m) c.hddl.objects) (map (printed_slot c names m) (numbers 1 m))
      ∙ (λ i. sym (map-map (printed_object c names m) (λ (x : Object). named names x.name) c.hddl.objects) i ++ sym (map-map (printed_slot c names m) (λ (x : Object). named names x.name) (numbers 1 m)) i)

  types-are : (m : ℕ) → (printed_words c names m).types ≡ (printed_words c names b).types
  types-are m = types-named c names m (known_types c b names has) ∙ sym (types-named c names b (known_types c b names has))

  pub words-are : (m : ℕ) → printed_words c names m ≡ with_objects (printed_words c names b) (own ++ slots m)
  words-are m = λ i. record {
    names = names;
    types = types-are m i;
    unions = map (map (word_at (types-are m i))) (map (map retyped) c.hddl.types.unions);
    objects = objects-are m i;
    predicates = (printed_words c names b).predicates;
  }

  pub length-own : length own ≡ first_slot c
  length-own = length-map c.hddl.objects (λ (x : Object). named names (renamed names c.hddl.names x.name))

  pub known : (m : ℕ) → m ≤ b → (k : ℕ) → Has (numbers 1 m) k → Has names (slot_word k)
  known m l k h =
      let n = numbers_to 1 m k (has-contains (numbers 1 m) k h) in
      let low = n.0 in
      let high = n.1 in
      let all = each-right (Has names) (map (λ (x : Object). own_word c x.name) c.hddl.objects) (map slot_word (numbers 1 b)) (known_objects c b names has) in
      each-has (Has names) (map slot_word (numbers 1 b)) (slot_word k) all (has-to_map slot_word (numbers 1 b) k (contains-has (numbers 1 b) k (to_numbers 1 b k low (omega (arith, high, l)))))

  slots-are : (m : ℕ) → m ≤ b → slots m ≡ map slot_word (numbers 1 m)
  slots-are m l = words-named names slot_word (numbers 1 m) (known m l)

  -- the word of each slot, by the number of its object
  pub sums : (m : ℕ) → m ≤ b → sum_by (λ o. length (word_at (own ++ slots m) o)) (numbers (first_slot c) m) ≡ letters m
  sums m l =
      let n : length (slots m) ≡ m = length-map (numbers 1 m) (λ k. named names (name names (slot_word k))) ∙ length-numbers 1 m in
      (λ i. sum_by (λ o. length (word_at (own ++ slots m) o)) (numbers (sym length-own i) (sym n i)))
      ∙ behind-sum own (slots m)
      ∙ ap (sum_by length) (slots-are m l)
      ∙ sum-map slot_word (numbers 1 m)

  -- the words of the slots, by their numbers
  pub slot-sum : (m : ℕ) → m ≤ b → sum_by (λ k. length (named names (name names (slot_word k)))) (numbers 1 m) ≡ letters m
  slot-sum m l = sym (sum-map (λ k. named names (name names (slot_word k))) (numbers 1 m)) ∙ ap (sum_by length) (slots-are m l) ∙ sum-map slot_word (numbers 1 m)
