-- Too many types, by numbers and in words.
use Rattle.std.proofs.Common.{ℕ, ◌≡◌, ◌<◌, List, map, length, refl, sym, ap, subst, ◌∙◌}
use Rattle.std.specs.Prelude.{◌≢◌, Contains, codes, unwrap_or}
use Rattle.std.proofs.lemmas.List.{length-map}
use Rattle.text_forms.specs.Words.{Word, word_at, first_place}
use Rattle.gd_reader.specs.Terms.{Names}
use Rattle.gd_reader.specs.declared.term.RawTerm.{RawTerm}
use Rattle.hddl_reader.specs.declared.sections.RawDomain.{RawDomain}
use Rattle.plan_texts.proofs.Places.{first-different}
use Rattle.text_values.specs.form_spellings.InTable.{IsIn}
use Rattle.htn_base.specs.Lists.{One, Has}
use Rattle.hddl_reader.specs.names.Types as words
use Rattle.hddl_reader.specs.names.Words.{WordAt, term_word}
use Rattle.name_binding.specs.Mentions.{mentioned}
use Rattle.name_binding.specs.TooMany as numbers
use Rattle.text_values.specs.form_spellings.binding_laws.Numbers.{words_of}
use Rattle.text_values.specs.form_spellings.binding_laws.TypeWords.{AreTypesIn, HasTooManyTypes, OfAllTypes}
use Rattle.text_values.proofs.form_spellings.binding_laws.Mentioned.{mentions_in, mention_said, said_mention, known_each, words_differ}
use Rattle.text_values.proofs.form_spellings.binding_laws.Numbered.{contains_has, has_contains, has_of_map, has_to_map}
use Rattle.text_values.proofs.form_spellings.binding_laws.Ones.{one_has, has_one, each_has, differ_mapped}
use Rattle.text_values.proofs.form_spellings.binding_laws.Places.{same_number}

module _ (names : Names) (object : ℕ) (d : RawDomain) (is : AreTypesIn names object d.types) (most at : ℕ) where
  abbrev here : List RawTerm
  here = mentioned d.types

  abbrev said : List WordAt
  said = words.mentioned names d.types

  in_table : (t : RawTerm) → Has here t → IsIn names t.name
  in_table t h = each_has (λ (t : RawTerm). IsIn names t.name) here t (mentions_in names d.types is.words_in) h

  -- a word that is not object has another number
  other_number : (n : ℕ) → (word_at names n ≢ codes "object") → n ≢ object
  other_number n x e = x (ap (word_at names) e ∙ is.is_object)

  other_word : (n : ℕ) → n < length names → n ≢ object → word_at names n ≢ codes "object"
  other_word n l x e = x (same_number names n object is.differ l is.known (e ∙ sym is.is_object))

  module _ (r : numbers.IsOneTooMany most object here at) where
    earlier : (n : ℕ) → Has r.earlier n → (n ≢ object) × numbers.IsSaidBefore here at n
    earlier n h = (r.are_before n).0 (has_contains r.earlier n h)

    earlier_in : (n : ℕ) → Has r.earlier n → n < length names
    earlier_in n h = let s = (earlier n h).1 in subst (λ n. n < length names) s.2 (in_table s.0 (contains_has here s.0 s.1))

    before_there : (w : Word) → Has (words_of names r.earlier) w → (w ≢ codes "object") × One (λ (m : WordAt). (m.word ≡ w) × (m.at < at)) said
    before_there w h =
        let n = one_has (λ n. word_at names n ≡ w) r.earlier (has_of_map (word_at names) r.earlier w h) in
        let s = earlier n.0 n.1 in (
          subst (λ w. w ≢ codes "object") n.2 (other_word n.0 (earlier_in n.0 n.1) s.0),
          mention_said names d.types (λ (m : WordAt). (m.word ≡ w) × (m.at < at)) s.1.0 (contains_has here s.1.0 s.1.1) (ap (word_at names) s.1.2 ∙ n.2, s.1.3),
        )

    before_back : (w : Word) → (w ≢ codes "object") × One (λ (m : WordAt). (m.word ≡ w) × (m.at < at)) said → Has (words_of names r.earlier) w
    before_back w b =
        let t = said_mention names d.types (λ (m : WordAt). (m.word ≡ w) × (m.at < at)) b.1 in
        let n = t.0.name.number in
        let x = other_number n (subst (λ w. w ≢ codes "object") (sym t.2.0) b.0) in
        has_to_map (word_at names) r.earlier w (has_one (λ n. word_at names n ≡ w) r.earlier n (contains_has r.earlier n ((r.are_before n).1 (x, (t.0, has_contains here t.0 t.1, refl, t.2.1)))) t.2.0)

    not_there : Has (words_of names r.earlier) (term_word names r.word) → ⊥
    not_there h =
        let n = one_has (λ n. word_at names n ≡ term_word names r.word) r.earlier (has_of_map (word_at names) r.earlier (term_word names r.word) h) in
        let e = same_number names n.0 r.word.name.number is.differ (earlier_in n.0 n.1) (in_table r.word (contains_has here r.word r.said)) n.2 in
        r.new (has_contains r.earlier r.word.name.number (subst (Has r.earlier) e n.1))

    pub in_words : words.IsOneTooMany most said at
    in_words = record {
      word = term_word names r.word;
      said = mention_said names d.types (λ (m : WordAt). (m.word ≡ term_word names r.word) × (m.at ≡ at)) r.word (contains_has here r.word r.said) (refl, r.here);
      not_object = other_word r.word.name.number (in_table r.word (contains_has here r.word r.said)) r.not_object;
      earlier = words_of names r.earlier;
      are_before = λ w. (before_there w, before_back w);
      different = words_differ names r.earlier is.differ (known_each names r.earlier earlier_in) r.different;
      most_stand = length-map r.earlier (word_at names) ∙ r.most_stand;
      new = not_there;
    }

  module _ (r : words.IsOneTooMany most said at) where
    abbrev number_in : Word → ℕ
    number_in w = unwrap_or (first_place w names) 0

    -- a word that stands earlier has a number
    of_earlier : (w : Word) → Has r.earlier w → (t : RawTerm) × Has here t × (term_word names t ≡ w) × (t.at < at) × (number_in w ≡ t.name.number)
    of_earlier w h =
        let t = said_mention names d.types (λ (m : WordAt). (m.word ≡ w) × (m.at < at)) ((r.are_before w).0 h).1 in
        (t.0, t.1, t.2.0, t.2.1, ap number_in (sym t.2.0) ∙ ap (λ o. unwrap_or o 0) (first-different names t.0.name.number is.differ (in_table t.0 t.1)))

    before_there' : (n : ℕ) → Contains (map number_in r.earlier) n → (n ≢ object) × numbers.IsSaidBefore here at n
    before_there' n c =
        let w = one_has (λ w. number_in w ≡ n) r.earlier (has_of_map number_in r.earlier n (contains_has (map number_in r.earlier) n c)) in
        let t = of_earlier w.0 w.1 in
        let e = sym t.4 ∙ w.2 in (
          subst (λ n. n ≢ object) e (other_number t.0.name.number (subst (λ w. w ≢ codes "object") (sym t.2) ((r.are_before w.0).0 w.1).0)),
          (t.0, has_contains here t.0 t.1, e, t.3),
        )

    before_back' : (n : ℕ) → (n ≢ object) × numbers.IsSaidBefore here at n → Contains (map number_in r.earlier) n
    before_back' n (x, (t, c, e, l)) =
        let w = term_word names t in
        let i = in_table t (contains_has here t c) in
        let y = other_word t.name.number i (subst (λ n. n ≢ object) (sym e) x) in
        let h = (r.are_before w).1 (y, mention_said names d.types (λ (m : WordAt). (m.word ≡ w) × (m.at < at)) t (contains_has here t c) (refl, l)) in
        let f = ap (λ o. unwrap_or o 0) (first-different names t.name.number is.differ i) ∙ e in
        has_contains (map number_in r.earlier) n (has_to_map number_in r.earlier n (has_one (λ w. number_in w ≡ n) r.earlier w h f))

    apart : (u w : Word) → Has r.earlier u → Has r.earlier w → number_in u ≡ number_in w → u ≡ w
    apart u w h i e =
        let s = of_earlier u h in
        let t = of_earlier w i in
        sym s.2 ∙ ap (word_at names) (sym s.4 ∙ e ∙ t.4) ∙ t.2

    pub in_numbers : numbers.IsOneTooMany most object here at
    in_numbers =
        let t = said_mention names d.types (λ (m : WordAt). (m.word ≡ r.word) × (m.at ≡ at)) r.said in
        record {
          word = t.0;
          said = has_contains here t.0 t.1;
          here = t.2.1;
          not_object = other_number t.0.name.number (subst (λ w. w ≢ codes "object") (sym t.2.0) r.not_object);
          earlier = map number_in r.earlier;
          are_before = λ n. (before_there' n, before_back' n);
          different = differ_mapped number_in r.earlier apart r.different;
          most_stand = length-map r.earlier number_in ∙ r.most_stand;
          new = λ c.
              let w = one_has (λ w. number_in w ≡ t.0.name.number) r.earlier (has_of_map number_in r.earlier t.0.name.number (contains_has (map number_in r.earlier) t.0.name.number c)) in
              let s = of_earlier w.0 w.1 in
              r.new (subst (Has r.earlier) (sym s.2 ∙ ap (word_at names) (sym s.4 ∙ w.2) ∙ t.2.0) w.1);
        }

pub has_too_many_types : OfAllTypes HasTooManyTypes
has_too_many_types names object d l at is = (in_words names object d is (words.most_types l) at, in_numbers names object d is (words.most_types l) at)
