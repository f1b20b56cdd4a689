-- The types of a domain, bound to what its section of types says.
use Rattle.std.proofs.Common.{ℕ, zero, suc, ◌≡◌, ◌<◌, false, inl, inr, List, [], ◌∷◌, map, length, Option, Some, None, refl, sym, ap, subst, ◌∙◌, arith}
use Rattle.std.specs.Prelude.{◌⊎◌, codes, unwrap_or, ◌≤◌}
use Rattle.std.proofs.lemmas.List.{length-map}
use Rattle.htn_base.specs.Different.{AreDifferent}
use Rattle.text_forms.specs.Words.{Word, word_at}
use Rattle.text_forms.specs.Words as words
use Rattle.gd_reader.specs.Terms.{Names}
use Rattle.gd_reader.specs.declared.term.RawTerm.{RawTerm}
use Rattle.gd_reader.specs.declared.typed_lists.RawParam.{RawParam}
use Rattle.hddl_reader.specs.declared.sections.RawDomain.{RawDomain}
use Rattle.plan_texts.specs.Declared.{Declared}
use Rattle.plan_texts.specs.Together.{Together}
use Rattle.plan_texts.specs.TypedLists.{first_seen}
use Rattle.plan_texts.specs.Types as plan
use Rattle.plan_texts.specs.Types.{EachIs, TypeItem, Mentions, IsPairOf, IsPairSaid}
use Rattle.text_values.specs.form_spellings.Bound.{parent_of, IsBoundType}
use Rattle.text_values.specs.form_spellings.BoundTexts.{AreBoundTypes}
use Rattle.text_values.specs.form_spellings.EachName.{OfParam}
use Rattle.text_values.specs.form_spellings.InTable.{IsIn, IsNameIn}
use Rattle.htn_base.specs.Lists.{Has}
use Rattle.hddl_reader.specs.names.Types.{IsType, TypeCycle}
use Rattle.hddl_reader.specs.names.Words.{WordAt, term_word, param_word}
use Rattle.name_binding.specs.Places as numbers
use Rattle.name_binding.specs.Kinds.{Kinds}
use Rattle.name_binding.specs.Mentions.{mentioned, own_word}
use Rattle.name_binding.specs.Parents.{parent, place_of, pairs_in_order}
use Rattle.text_values.specs.form_spellings.binding_laws.BoundTypes.{item_of, HasBoundTypes}
use Rattle.text_values.specs.form_spellings.binding_laws.InOrder.{IsTypedName}
use Rattle.text_values.specs.form_spellings.binding_laws.Kinds.{AreTypesOf}
use Rattle.text_values.specs.form_spellings.binding_laws.Numbers.{words_of}
use Rattle.text_values.specs.form_spellings.binding_laws.TypeWords.{AreTypesIn, OfAllTypes}
use Rattle.text_values.proofs.form_spellings.binding_laws.Lists.{no_first, append_left, append_right, append_there}
use Rattle.text_values.proofs.form_spellings.binding_laws.Mentioned.{mention_said, said_mention}
use Rattle.text_values.proofs.form_spellings.binding_laws.NoTypeCycle.{no_parent_of_object}
use Rattle.text_values.proofs.form_spellings.binding_laws.Numbered.{first_is}
use Rattle.text_values.proofs.form_spellings.binding_laws.Ones.{each_has}
use Rattle.text_values.proofs.form_spellings.binding_laws.Places.{have_one_place, same_number}
use Rattle.text_values.proofs.form_spellings.binding_laws.SecondWords.{has_at}
use Rattle.text_values.proofs.form_spellings.binding_laws.TypePairs.{own_place, IsWritten, IsPair, pair_there, pair_back}
use Rattle.text_values.proofs.form_spellings.binding_laws.TypeWords.{has_types, has_types_in_order}

-- two ways to say that something stands in a list
pub plan_has : {X : Type 0} (xs : List X) (x : X) → Has xs x → plan.Has xs x
plan_has [] x h = h
plan_has (y ∷ xs) x (inl e) = inl e
plan_has (y ∷ xs) x (inr h) = inr (plan_has xs x h)

pub has_plan : {X : Type 0} (xs : List X) (x : X) → plan.Has xs x → Has xs x
has_plan [] x h = h
has_plan (y ∷ xs) x (inl e) = inl e
has_plan (y ∷ xs) x (inr h) = inr (has_plan xs x h)

-- a word of a section: a type's own, or that of a parent behind it
mention_there : (xs : List RawParam) (t : RawTerm) → Has (mentioned xs) t → (x : RawParam) × Has xs x × ((own_word x ≡ t) ⊎ Has x.ty t)
mention_there [] t h = absurd h
mention_there (x ∷ xs) t (inl e) = (x, inl refl, inl e)
mention_there (x ∷ xs) t (inr h) = elim (append_there x.ty (mentioned xs) t h) [
  | inl i ↦ (x, inl refl, inr i)
  | inr i ↦ let r = mention_there xs t i in (r.0, inr r.1, r.2)
]

mention_back : (xs : List RawParam) (x : RawParam) (t : RawTerm) → Has xs x → (own_word x ≡ t) ⊎ Has x.ty t → Has (mentioned xs) t
mention_back [] x t h w = absurd h
mention_back (y ∷ xs) x t (inl e) (inl w) = inl (ap own_word e ∙ w)
mention_back (y ∷ xs) x t (inl e) (inr w) = inr (append_left y.ty (mentioned xs) t (subst (λ (z : RawParam). Has z.ty t) (sym e) w))
mention_back (y ∷ xs) x t (inr h) w = inr (append_right y.ty (mentioned xs) t (mention_back xs x t h w))

place_at : (ws : List Word) (c : Word) → Has ws c → (k : ℕ) × (k < length ws) × (word_at ws k ≡ c)
place_at [] c h = absurd h
place_at (w ∷ ws) c (inl e) = (0, omega arith, e)
place_at (w ∷ ws) c (inr h) = let r = place_at ws c h in let l = r.1 in (suc r.0, omega arith, r.2)

module _ (names : Names) (object : ℕ) (d : RawDomain) (v : Declared) (kinds : Kinds) (is : AreTypesIn names object d.types) (of : AreTypesOf names d kinds) (differ : AreDifferent (words_of names kinds.types))
    (rest : List Word) (first : words_of names kinds.types ≡ codes "object" ∷ rest) (named_each : EachIs (IsTypedName names) d.types) (none : (at : ℕ) → TypeCycle names d at → ⊥) where
  abbrev W : List Word
  W = words_of names kinds.types

  abbrev items : List TypeItem
  items = map (item_of v names) d.types

  -- a word that is a type's stands at its place
  placed : (n : ℕ) → n < length names → IsType names d (word_at names n) → (unwrap_or (numbers.first_place n kinds.types) 0 < length W) × (word_at W (unwrap_or (numbers.first_place n kinds.types) 0) ≡ word_at names n)
  placed n l t = go (numbers.first_place n kinds.types) refl
    where
      same : words.first_place (word_at names n) W ≡ numbers.first_place n kinds.types
      same = (have_one_place names n kinds.types of.differ l of.known).0

      go : (o : Option ℕ) → numbers.first_place n kinds.types ≡ o → (unwrap_or o 0 < length W) × (word_at W (unwrap_or o 0) ≡ word_at names n)
      go None e = absurd (no_first (word_at names n) W (same ∙ e) ((of.words (word_at names n)).1 t))
      go (Some k) e = first_is (word_at names n) W k (same ∙ e)

  own_type : (x : RawParam) → Has d.types x → IsType names d (param_word names x)
  own_type x h = inr (mention_said names d.types (λ (m : WordAt). m.word ≡ param_word names x) (own_word x) (mention_back d.types x (own_word x) h (inl refl)) refl)

  parent_type : (x : RawParam) (t : RawTerm) → Has d.types x → Has x.ty t → IsType names d (term_word names t)
  parent_type x t h i = inr (mention_said names d.types (λ (m : WordAt). m.word ≡ term_word names t) t (mention_back d.types x t h (inr i)) refl)

  pub in_table : (x : RawParam) → Has d.types x → OfParam (IsNameIn names) false x
  in_table x h = each_has (OfParam (IsNameIn names) false) d.types x is.words_in h

  pub own_at : (x : RawParam) → Has d.types x → (own_place kinds.types d.types x < length W) × (word_at W (own_place kinds.types d.types x) ≡ param_word names x)
  own_at x h = placed x.name.number (in_table x h).0 (own_type x h)

  pub parent_at : (x : RawParam) (t : RawTerm) → Has d.types x → Has x.ty t → (place_of kinds.types t < length W) × (word_at W (place_of kinds.types t) ≡ term_word names t)
  parent_at x t h i = placed t.name.number (each_has (λ (t : RawTerm). IsIn names t.name) x.ty t (in_table x h).1 i) (parent_type x t h i)

  -- the one parent that is written
  parent_there : (ts : List RawTerm) (t : RawTerm) → length ts ≤ 1 → Has ts t → parent_of v names ts ≡ Some (term_word names t)
  parent_there [] t l h = absurd h
  parent_there (u ∷ ts) t l (inl e) = ap (λ t. Some (term_word names t)) e
  parent_there (u ∷ []) t l (inr h) = absurd h
  parent_there (u ∷ w ∷ ts) t l (inr h) = absurd (omega arith)

  parent_back : (ts : List RawTerm) (w : Word) → parent_of v names ts ≡ Some w → (t : RawTerm) × Has ts t × (term_word names t ≡ w)
  parent_back [] w e = absurd (cc)
  parent_back (t ∷ ts) w e = let same : term_word names t ≡ w = cc in (t, inl refl, same)

  item_there : (xs : List RawParam) (c : Word) (o : Option Word) → plan.Has (map (item_of v names) xs) (c, o) → (x : RawParam) × Has xs x × (param_word names x ≡ c) × (parent_of v names x.ty ≡ o)
  item_there [] c o h = absurd h
  item_there (x ∷ xs) c o (inl e) = (x, inl refl, ap (λ (i : TypeItem). i.0) e, ap (λ (i : TypeItem). i.1) e)
  item_there (x ∷ xs) c o (inr h) = let r = item_there xs c o h in (r.0, inr r.1, r.2, r.3)

  item_back : (xs : List RawParam) (x : RawParam) → Has xs x → plan.Has (map (item_of v names) xs) (item_of v names x)
  item_back [] x h = absurd h
  item_back (y ∷ xs) x (inl e) = inl (ap (item_of v names) e)
  item_back (y ∷ xs) x (inr h) = inr (item_back xs x h)

  item_is : (x : RawParam) (c : Word) (o : Option Word) → Has d.types x → param_word names x ≡ c → parent_of v names x.ty ≡ o → plan.Has items (c, o)
  item_is x c o h e f = subst (λ c. plan.Has items (c, o)) e (subst (λ o. plan.Has items (param_word names x, o)) f (item_back d.types x h))

  said_parent : (x : RawParam) (t : RawTerm) → Has d.types x → Has x.ty t → plan.Has items (param_word names x, Some (term_word names t))
  said_parent x t h i = item_is x (param_word names x) (Some (term_word names t)) h refl (parent_there x.ty t (each_has (IsTypedName names) d.types x named_each h).one_type i)

  -- words
  mention_type : (w : Word) → Mentions items w → IsType names d w
  mention_type w (inl (o, h)) = let r = item_there d.types w o h in subst (IsType names d) r.2 (own_type r.0 r.1)
  mention_type w (inr (c, h)) = let r = item_there d.types c (Some w) h in let t = parent_back r.0.ty w r.3 in subst (IsType names d) t.2 (parent_type r.0 t.0 r.1 t.1)

  type_mention : (w : Word) → IsType names d w → (w ≡ codes "object") ⊎ Mentions items w
  type_mention w (inl e) = inl e
  type_mention w (inr o) =
      let t = said_mention names d.types (λ (m : WordAt). m.word ≡ w) o in
      let r = mention_there d.types t.0 t.1 in
      inr (elim r.2 [
        | inl e ↦ inl (parent_of v names r.0.ty, item_is r.0 w (parent_of v names r.0.ty) r.1 (ap (term_word names) e ∙ t.2) refl)
        | inr i ↦ inr (param_word names r.0, subst (λ w. plan.Has items (param_word names r.0, Some w)) t.2 (said_parent r.0 t.0 r.1 i))
      ])

  words_there : (w : Word) → plan.Has W w → (w ≡ codes "object") ⊎ Mentions items w
  words_there w h = type_mention w ((of.words w).0 (has_plan W w h))

  words_back : (w : Word) → (w ≡ codes "object") ⊎ Mentions items w → plan.Has W w
  words_back w (inl e) = plan_has W w ((of.words w).1 (inl e))
  words_back w (inr m) = plan_has W w ((of.words w).1 (mention_type w m))

  -- pairs
  first_at : (word_at W 0 ≡ codes "object") × (0 < length W)
  first_at = (ap (λ ws. word_at ws 0) first, let e = ap length first in omega arith)

  below : (n : ℕ) → n < length kinds.types → n < length W
  below n l = subst (λ k. n < k) (sym (length-map kinds.types (word_at names))) l

  above : (n : ℕ) → n < length W → n < length kinds.types
  above n l = subst (λ k. n < k) (length-map kinds.types (word_at names)) l

  one_place : (i j : ℕ) → i < length W → j < length W → word_at W i ≡ word_at W j → i ≡ j
  one_place i j l m e = same_number W i j differ l m e

  not_first : (n : ℕ) → 0 < n → n < length W → word_at W n ≡ codes "object" → ⊥
  not_first n l m e = let z = one_place n 0 m first_at.1 (e ∙ sym first_at.0) in omega arith

  positive : (n : ℕ) → (n ≡ 0 → ⊥) → 0 < n
  positive zero x = absurd (x refl)
  positive (suc n) x = omega arith

  -- a written pair by places is one in words
  written_said : (n : ℕ) (p : ℕ) → IsWritten kinds.types d.types n p → plan.Has items (word_at W n, Some (word_at W p))
  written_said n p (x, h, e, (t, i, f)) =
      subst (λ n. plan.Has items (word_at W n, Some (word_at W p))) e
      (subst (λ p. plan.Has items (word_at W (own_place kinds.types d.types x), Some (word_at W p))) f
      (subst (λ c. plan.Has items (c, Some (word_at W (place_of kinds.types t)))) (sym (own_at x h).1)
      (subst (λ q. plan.Has items (param_word names x, Some q)) (sym (parent_at x t h i).1) (said_parent x t h i))))

  pairs_there : (c q : Word) → IsPairOf W (pairs_in_order kinds.types d.types) c q → IsPairSaid items c q
  pairs_there c q (y, h, e, f) = go (pair_there kinds.types d.types y (has_plan (pairs_in_order kinds.types d.types) y h))
    where
      go : IsPair kinds.types d.types y → IsPairSaid items c q
      go (l, m, inl w) = inl (subst (λ c. plan.Has items (c, Some q)) e (subst (λ q. plan.Has items (word_at W y.child, Some q)) f (written_said y.child y.parent w)))
      go (l, m, inr (z, nowhere)) =
          let not_object : c ≡ codes "object" → ⊥ = λ g. not_first y.child m (below y.child l) (e ∙ g) in
          inr (
            sym f ∙ ap (word_at W) z ∙ first_at.0,
            not_object,
            elim (words_there c (plan_has W c (subst (Has W) e (has_at W y.child (below y.child l))))) [ inl g ↦ absurd (not_object g) | inr g ↦ g ],
            λ r g.
                let x = item_there d.types c (Some r) g in
                let t = parent_back x.0.ty r x.3 in
                let own = own_at x.0 x.1 in
                nowhere (place_of kinds.types t.0) (x.0, x.1, one_place (own_place kinds.types d.types x.0) y.child own.0 (below y.child l) (own.1 ∙ x.2 ∙ sym e), (t.0, t.1, refl)),
          )

  pairs_back : (c q : Word) → IsPairSaid items c q → IsPairOf W (pairs_in_order kinds.types d.types) c q
  pairs_back c q (inl h) =
      let x = item_there d.types c (Some q) h in
      let t = parent_back x.0.ty q x.3 in
      let own = own_at x.0 x.1 in
      let n = own_place kinds.types d.types x.0 in
      let p = place_of kinds.types t.0 in
      let above_first = positive n (λ z. no_parent_of_object names d none x.0 t.0 x.1 t.1 (sym own.1 ∙ ap (word_at W) z ∙ first_at.0)) in
      (parent n p, plan_has (pairs_in_order kinds.types d.types) (parent n p) (pair_back kinds.types d.types n p (above n own.0) above_first (inl (x.0, x.1, refl, (t.0, t.1, refl)))), own.1 ∙ x.2, (parent_at x.0 t.0 x.1 t.1).1 ∙ t.2)
  pairs_back c q (inr (e, not_object, m, nowhere)) =
      let w = place_at W c (has_plan W c (words_back c (inr m))) in
      let above_first = positive w.0 (λ z. not_object (sym w.2 ∙ ap (word_at W) z ∙ first_at.0)) in (
        parent w.0 0,
        plan_has (pairs_in_order kinds.types d.types) (parent w.0 0) (pair_back kinds.types d.types w.0 0 (above w.0 w.1) above_first (inr (refl, λ p r. nowhere (word_at W p) (subst (λ c. plan.Has items (c, Some (word_at W p))) w.2 (written_said w.0 p r))))),
        w.2,
        first_at.0 ∙ sym e,
      )

  items_are : (xs : List RawParam) → Together (IsBoundType v names) xs (map (item_of v names) xs)
  items_are [] = tt
  items_are (x ∷ xs) = ((refl, refl), items_are xs)

  pub types_bound : AreBoundTypes v names W (pairs_in_order kinds.types d.types) d.types
  types_bound = record {
    items = items;
    bound = items_are d.types;
    first = first_at.0;
    different = differ;
    same_words = λ w. (words_there w, words_back w);
    same_pairs = λ c q. (pairs_there c q, pairs_back c q);
  }

pub has_bound_types : OfAllTypes HasBoundTypes
has_bound_types names object d v kinds is types named_each none =
    let t = has_types names object d kinds is types in
    types_bound names object d v kinds is t.0 t.1 (first_seen (codes "object" ∷ []) (map (term_word names) types.0)) (ap (words_of names) types.2 ∙ has_types_in_order names object d types.0 is types.1) named_each none
