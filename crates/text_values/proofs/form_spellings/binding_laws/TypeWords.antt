-- The types of a domain by numbers and in words.
use Rattle.std.proofs.Common.{ℕ, ◌≡◌, ◌<◌, inl, inr, List, [], ◌∷◌, map, length, refl, sym, ap, subst, ◌∙◌}
use Rattle.std.specs.Prelude.{◌↔◌, codes}
use Rattle.std.proofs.lemmas.List.Sorted.{Contains-permutation, IsPermutation-sym}
use Rattle.htn_base.specs.Different.{AreDifferent}
use Rattle.text_forms.specs.Words.{Word, word_at}
use Rattle.gd_reader.specs.Terms.{Names}
use Rattle.gd_reader.specs.declared.term.RawTerm.{RawTerm}
use Rattle.hddl_reader.specs.declared.sections.RawDomain.{RawDomain}
use Rattle.plan_texts.specs.TypedLists.{first_seen as first_words}
use Rattle.text_values.specs.form_spellings.InTable.{IsIn}
use Rattle.htn_base.specs.Lists.{Has}
use Rattle.hddl_reader.specs.names.Types.{IsType}
use Rattle.hddl_reader.specs.names.Words.{WordAt, term_word}
use Rattle.name_binding.specs.Mentions.{mentioned, numbers_of, AreInTextOrder, types_in_order}
use Rattle.name_binding.specs.Seen.{first_seen}
use Rattle.text_values.specs.form_spellings.binding_laws.Kinds.{AreTypesOf}
use Rattle.text_values.specs.form_spellings.binding_laws.Numbers.{words_of, AreKnown}
use Rattle.text_values.specs.form_spellings.binding_laws.TypeWords.{AreTypesIn, HasTypes, HasTypesInOrder, OfAllTypes}
use Rattle.text_values.proofs.form_spellings.binding_laws.Mentioned.{mentions_in, mention_said, said_mention, known_each, words_differ, seen_there, seen_apart, seen_differ, seen_back, same_seen}
use Rattle.text_values.proofs.form_spellings.binding_laws.Numbered.{contains_has, has_contains, has_of_map, has_to_map}
use Rattle.text_values.proofs.form_spellings.binding_laws.Ones.{one_has, has_one, each_has}

module _ (names : Names) (object : ℕ) (d : RawDomain) (is : AreTypesIn names object d.types) (words : List RawTerm) (order : AreInTextOrder d.types words) where
  abbrev others : List ℕ
  others = first_seen (object ∷ []) (numbers_of words)

  mentioned_here : (t : RawTerm) → Has words t → Has (mentioned d.types) t
  mentioned_here t h = contains_has (mentioned d.types) t (Contains-permutation words (mentioned d.types) t (IsPermutation-sym (mentioned d.types) words order.same) (has_contains words t h))

  word_here : (t : RawTerm) → Has (mentioned d.types) t → Has words t
  word_here t h = contains_has words t (Contains-permutation (mentioned d.types) words t order.same (has_contains (mentioned d.types) t h))

  in_table : (t : RawTerm) → Has words t → IsIn names t.name
  in_table t h = each_has (λ (t : RawTerm). IsIn names t.name) (mentioned d.types) t (mentions_in names d.types is.words_in) (mentioned_here t h)

  -- a number is that of a word
  of_word : (n : ℕ) → Has (numbers_of words) n → (t : RawTerm) × Has words t × (t.name.number ≡ n)
  of_word n h = one_has (λ (t : RawTerm). t.name.number ≡ n) words (has_of_map (λ (t : RawTerm). t.name.number) words n h)

  of_number : (t : RawTerm) → Has words t → Has (numbers_of words) t.name.number
  of_number t h = has_to_map (λ (t : RawTerm). t.name.number) words t.name.number (has_one (λ (u : RawTerm). u.name.number ≡ t.name.number) words t h refl)

  numbers_known : AreKnown names (numbers_of words)
  numbers_known = known_each names (numbers_of words) (λ n h. let t = of_word n h in subst (λ n. n < length names) t.2 (in_table t.0 t.1))

  pub types_known : AreKnown names (types_in_order object words)
  types_known = (is.known, known_each names others (λ n h. let t = of_word n (seen_there (object ∷ []) (numbers_of words) n h) in subst (λ n. n < length names) t.2 (in_table t.0 t.1)))

  type_there : (w : Word) → Has (words_of names (types_in_order object words)) w → IsType names d w
  type_there w (inl e) = inl (sym e ∙ is.is_object)
  type_there w (inr h) =
      let n = one_has (λ n. word_at names n ≡ w) others (has_of_map (word_at names) others w h) in
      let t = of_word n.0 (seen_there (object ∷ []) (numbers_of words) n.0 n.1) in
      inr (mention_said names d.types (λ (m : WordAt). m.word ≡ w) t.0 (mentioned_here t.0 t.1) (ap (word_at names) t.2 ∙ n.2))

  type_back : (w : Word) → IsType names d w → Has (words_of names (types_in_order object words)) w
  type_back w (inl e) = inl (is.is_object ∙ sym e)
  type_back w (inr o) =
      let t = said_mention names d.types (λ (m : WordAt). m.word ≡ w) o in
      elim (seen_back (object ∷ []) (numbers_of words) t.0.name.number (of_number t.0 (word_here t.0 t.1))) [
        | inl (inl e) ↦ inl (ap (word_at names) e ∙ t.2)
        | inl (inr none) ↦ absurd none
        | inr h ↦ inr (has_to_map (word_at names) others w (has_one (λ n. word_at names n ≡ w) others t.0.name.number h t.2))
      ]

  numbers_differ : AreDifferent (types_in_order object words)
  numbers_differ = ((λ c. seen_apart (object ∷ []) (numbers_of words) object (contains_has others object c) (inl refl)), seen_differ (object ∷ []) (numbers_of words))

  pub types_differ : AreDifferent (words_of names (types_in_order object words))
  types_differ = words_differ names (types_in_order object words) is.differ types_known numbers_differ

  words_are : (ts : List RawTerm) → words_of names (numbers_of ts) ≡ map (term_word names) ts
  words_are [] = refl
  words_are (t ∷ ts) = ap (λ ws. term_word names t ∷ ws) (words_are ts)

  pub types_follow : words_of names (types_in_order object words) ≡ codes "object" ∷ first_words (codes "object" ∷ []) (map (term_word names) words)
  types_follow =
      ap (λ ws. word_at names object ∷ ws) (same_seen names (object ∷ []) (numbers_of words) is.differ (is.known, tt) numbers_known)
      ∙ ap (λ ws. word_at names object ∷ first_words (word_at names object ∷ []) ws) (words_are words)
      ∙ ap (λ o. o ∷ first_words (o ∷ []) (map (term_word names) words)) is.is_object

  pub types_are : AreTypesOf names d (record { types = types_in_order object words; unions = [] })
  types_are = record { differ = is.differ; known = types_known; words = λ w. (type_there w, type_back w) }

pub has_types : OfAllTypes HasTypes
has_types names object d kinds is (words, order, e) =
    let of = types_are names object d is words order in (
      record { differ = is.differ; known = subst (AreKnown names) (sym e) of.known; words = subst (λ ns. (w : Word) → Has (words_of names ns) w ↔ IsType names d w) (sym e) of.words },
      subst (λ ns. AreDifferent (words_of names ns)) (sym e) (types_differ names object d is words order),
    )

pub has_types_in_order : OfAllTypes HasTypesInOrder
has_types_in_order names object d words is order = types_follow names object d is words order
