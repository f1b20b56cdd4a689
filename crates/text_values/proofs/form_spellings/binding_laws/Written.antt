-- Written types by numbers and in words.
use Rattle.std.proofs.Common.{ℕ, zero, suc, ◌≡◌, ◌<◌, ◌+◌, inl, inr, List, [], ◌∷◌, ◌++◌, map, length, get_or, refl, sym, ap, subst, ◌∙◌, arith}
use Rattle.std.specs.Prelude.{unwrap_or, option_map, position, codes}
use Rattle.std.specs.Str.{bytes_eq}
use Rattle.std.proofs.lemmas.List.{get_or-map, length-map}
use Rattle.htn_base.specs.Different.{AreDifferent}
use Rattle.text_forms.specs.Words.{word_at}
use Rattle.text_forms.specs.Words as words
use Rattle.gd_reader.specs.declared.term.RawTerm.{RawTerm}
use Rattle.gd_reader.specs.Terms.{Names}
use Rattle.hddl_reader.specs.declared.sections.RawDomain.{RawDomain}
use Rattle.plan_texts.specs.Declared.{Declared, kind_at, one_word}
use Rattle.text_values.specs.form_spellings.Bound as bound
use Rattle.text_values.specs.form_spellings.InTable.{IsIn}
use Rattle.htn_base.specs.Lists.{One, Has}
use Rattle.hddl_reader.specs.names.Types.{IsType}
use Rattle.hddl_reader.specs.names.Words.{term_word}
use Rattle.name_binding.specs.Places as numbers
use Rattle.name_binding.specs.Spots.{spot}
use Rattle.name_binding.specs.Kinds.{Kinds, type_number, type_faults, kind_by, members_written, kind_bound, kind_faults}
use Rattle.text_values.specs.form_spellings.binding_laws.Numbers.{words_of}
use Rattle.text_values.specs.form_spellings.binding_laws.Kinds.{AreTypesOf, HasKinds, AreTermsIn, IsKindFault, IsNumbered, HasKindFaults, IsKindBound, OfAllKinds}
use Rattle.text_values.proofs.form_spellings.binding_laws.Places.{have_one_place}
use Rattle.text_values.proofs.form_spellings.binding_laws.Lists.{no_first, lacks_first, unless_has, flat_there, flat_back}
use Rattle.text_values.proofs.form_spellings.binding_laws.Terms.{found_at}
use Rattle.text_values.proofs.form_spellings.binding_laws.Numbered.{contains_has, has_contains, has_of_map, has_to_map, first_is, kind_alone, kind_union, place_of_member, seen_once}

pub none_left : {X : Type 0} (xs ys : List X) → xs ++ ys ≡ [] → xs ≡ []
none_left [] ys e = refl
none_left (x ∷ xs) ys e = absurd (cc)

pub none_right : {X : Type 0} (xs ys : List X) → xs ++ ys ≡ [] → ys ≡ []
none_right [] ys e = e
none_right (x ∷ xs) ys e = absurd (cc)

-- what stands in front stays there
front_at : {X : Type 0} (us vs : List (List X)) (k : ℕ) → k < length us → get_or (us ++ vs) k [] ≡ get_or us k []
front_at [] vs k l = absurd (omega arith)
front_at (u ∷ us) vs zero l = refl
front_at (u ∷ us) vs (suc k) l = front_at us vs k (omega arith)

module _ (names : Names) (d : RawDomain) (kinds : Kinds) (of : AreTypesOf names d kinds) where
  first : (t : RawTerm) → IsIn names t.name → words.first_place (term_word names t) (words_of names kinds.types) ≡ numbers.first_place t.name.number kinds.types
  first t is = (have_one_place names t.name.number kinds.types of.differ is of.known).0

  type_there : (t : RawTerm) (code at : ℕ) → IsIn names t.name → Has (type_faults kinds t) (spot at code) → (code ≡ 11) × (t.at ≡ at) × (IsType names d (term_word names t) → ⊥)
  type_there t code at is h =
      let r = (unless_has 11 t.at (numbers.first_place t.name.number kinds.types) code at).0 h in
      (sym r.2, r.1, λ i. no_first (term_word names t) (words_of names kinds.types) (first t is ∙ r.0) ((of.words (term_word names t)).1 i))

  type_back : (t : RawTerm) (code at : ℕ) → IsIn names t.name → (code ≡ 11) → (t.at ≡ at) → (IsType names d (term_word names t) → ⊥) → Has (type_faults kinds t) (spot at code)
  type_back t code at is c a n =
      (unless_has 11 t.at (numbers.first_place t.name.number kinds.types) code at).1
      (sym (first t is) ∙ lacks_first (term_word names t) (words_of names kinds.types) (λ h. n ((of.words (term_word names t)).0 h)), a, sym c)

  kinds_there : (ts : List RawTerm) (code at : ℕ) → AreTermsIn names ts → One (λ t. Has (type_faults kinds t) (spot at code)) ts → IsKindFault names d ts code at
  kinds_there [] code at is h = absurd h
  kinds_there (t ∷ ts) code at is (inl h) = let r = type_there t code at is.0 h in (r.0, inl (r.1, r.2))
  kinds_there (t ∷ ts) code at is (inr h) = let r = kinds_there ts code at is.1 h in (r.0, inr r.1)

  kinds_back : (ts : List RawTerm) (code at : ℕ) → AreTermsIn names ts → (code ≡ 11) → One (λ (t : RawTerm). (t.at ≡ at) × (IsType names d (term_word names t) → ⊥)) ts → One (λ t. Has (type_faults kinds t) (spot at code)) ts
  kinds_back [] code at is c h = absurd h
  kinds_back (t ∷ ts) code at is c (inl h) = inl (type_back t code at is.0 c h.0 h.1)
  kinds_back (t ∷ ts) code at is c (inr h) = inr (kinds_back ts code at is.1 c h)

  -- a type without a fault stands at its number
  pub type_is : (t : RawTerm) → IsIn names t.name → type_faults kinds t ≡ [] → (type_number kinds t < length (words_of names kinds.types)) × (word_at (words_of names kinds.types) (type_number kinds t) ≡ term_word names t)
  type_is t is e =
      first_is (term_word names t) (words_of names kinds.types) (type_number kinds t)
      (first t is ∙ found_at 11 t.at (numbers.first_place t.name.number kinds.types) e)

  pub types_are : (ts : List RawTerm) → AreTermsIn names ts → kind_faults kinds ts ≡ [] → map (word_at (words_of names kinds.types)) (map (type_number kinds) ts) ≡ map (term_word names) ts
  types_are [] is e = refl
  types_are (t ∷ ts) is e = λ i.
      (type_is t is.0 (none_left (type_faults kinds t) (kind_faults kinds ts) e)).1 i
      ∷ types_are ts is.1 (none_right (type_faults kinds t) (kind_faults kinds ts) e) i

  -- types of different words have different numbers
  same_words : (t : RawTerm) (ts : List RawTerm) → IsIn names t.name → type_faults kinds t ≡ [] → AreTermsIn names ts → kind_faults kinds ts ≡ [] → One (λ u. type_number kinds u ≡ type_number kinds t) ts → One (λ u. term_word names u ≡ term_word names t) ts
  same_words t [] i f is e h = absurd h
  same_words t (u ∷ ts) i f is e (inl h) =
      inl (sym (type_is u is.0 (none_left (type_faults kinds u) (kind_faults kinds ts) e)).1 ∙ ap (word_at (words_of names kinds.types)) h ∙ (type_is t i f).1)
  same_words t (u ∷ ts) i f is e (inr h) = inr (same_words t ts i f is.1 (none_right (type_faults kinds u) (kind_faults kinds ts) e) h)

  numbers_differ : (ts : List RawTerm) → AreTermsIn names ts → kind_faults kinds ts ≡ [] → AreDifferent (map (term_word names) ts) → AreDifferent (map (type_number kinds) ts)
  numbers_differ [] is e n = tt
  numbers_differ (t ∷ ts) is e n =
      let f = none_left (type_faults kinds t) (kind_faults kinds ts) e in
      let g = none_right (type_faults kinds t) (kind_faults kinds ts) e in (
        (λ c. n.0 (has_contains (map (term_word names) ts) (term_word names t)
            (has_to_map (term_word names) ts (term_word names t) (same_words t ts is.0 f is.1 g (has_of_map (type_number kinds) ts (type_number kinds t) (contains_has (map (type_number kinds) ts) (type_number kinds t) c)))))),
        numbers_differ ts is.1 g n.1,
      )

  pub members_are : (ts : List RawTerm) → AreTermsIn names ts → kind_faults kinds ts ≡ [] → AreDifferent (map (term_word names) ts) → members_written kinds ts ≡ map (type_number kinds) ts
  members_are ts is e n = seen_once [] (map (type_number kinds) ts) (numbers_differ ts is e n) (λ m h g. g)

  module _ (v : Declared) (has : HasKinds v names kinds) where
    object_is : kind_at v 0 ≡ codes "object" ∷ []
    object_is =
        let f = first_is (codes "object") v.types 0 has.object_first in
        kind_alone v.types v.unions 0 f.0 ∙ ap one_word f.1

    -- a type alone
    pub alone_is : (t : RawTerm) → IsIn names t.name → type_faults kinds t ≡ [] → (type_number kinds t < length v.types) × (word_at v.types (type_number kinds t) ≡ term_word names t)
    alone_is t is e = subst (λ ws. (type_number kinds t < length ws) × (word_at ws (type_number kinds t) ≡ term_word names t)) (sym has.types) (type_is t is e)

    union_is : (ns : List ℕ) (n m : ℕ) (more : List ℕ) → ns ≡ n ∷ m ∷ more → Has kinds.unions ns → kind_at v (kind_by kinds ns) ≡ map (word_at v.types) ns
    union_is ns n m more e h =
        let p = place_of_member kinds.unions ns h in
        let is : kind_by kinds ns ≡ length v.types + p.0 =
        ap (kind_by kinds) e ∙ ap (λ ms. unwrap_or (option_map (λ k. length kinds.types + k) (position (bytes_eq ms) kinds.unions)) 0) (sym e)
        ∙ ap (λ o. unwrap_or (option_map (λ k. length kinds.types + k) o) 0) p.1 ∙ ap (λ k. k + p.0) (sym (ap length has.types ∙ length-map kinds.types (word_at names))) in
        ap (kind_at v) is ∙ kind_union v.types v.unions p.0 ∙ ap (λ us. get_or us p.0 []) has.unions
        ∙ front_at (map (map (word_at v.types)) kinds.unions) has.more p.0 (subst (λ n. p.0 < n) (sym (length-map kinds.unions (map (word_at v.types)))) p.2)
        ∙ get_or-map (map (word_at v.types)) kinds.unions p.0 [] [] p.2 ∙ ap (map (word_at v.types)) p.3

    kind_is : (ts : List RawTerm) → AreTermsIn names ts → IsNumbered names kinds ts → kind_faults kinds ts ≡ [] → kind_at v (kind_bound kinds ts) ≡ bound.types_of v names ts
    kind_is [] is n e = object_is
    kind_is (t ∷ []) is n e =
        let a = alone_is t is.0 (none_left (type_faults kinds t) [] e) in
        kind_alone v.types v.unions (type_number kinds t) a.0 ∙ ap one_word a.1
    kind_is (t ∷ u ∷ ts) is n e =
        let m = members_are (t ∷ u ∷ ts) is e n.0 in
        union_is (members_written kinds (t ∷ u ∷ ts)) (type_number kinds t) (type_number kinds u) (map (type_number kinds) ts) m (n.1 (omega arith))
        ∙ ap (map (word_at v.types)) m ∙ ap (λ ws. map (word_at ws) (map (type_number kinds) (t ∷ u ∷ ts))) has.types ∙ types_are (t ∷ u ∷ ts) is e

pub has_kind_faults : OfAllKinds HasKindFaults
has_kind_faults names d kinds ts code at of is = (
  λ h. kinds_there names d kinds of ts code at is (flat_there (type_faults kinds) ts (spot at code) h),
  λ h. flat_back (type_faults kinds) ts (spot at code) (kinds_back names d kinds of ts code at is h.0 h.1),
)

pub is_kind_bound : OfAllKinds IsKindBound
is_kind_bound names d kinds v ts of is has n e = kind_is names d kinds of v has ts is n e
