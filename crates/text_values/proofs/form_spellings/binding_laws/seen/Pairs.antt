-- The pairs of types and parents in order, by numbers and by words.
use Rattle.std.proofs.Common.{ℕ, suc, ◌≡◌, ◌<◌, ◌+◌, Bool, true, false, cond, eqb, List, [], ◌∷◌, ◌++◌, map, length, refl, sym, ap, subst, ◌∙◌, append-nil, append_assoc, arith}
use Rattle.std.specs.Prelude.{◌≤◌, flat_map}
use Rattle.std.specs.Str.{bytes_eq}
use Rattle.std.proofs.lemmas.Bool.{cond-true, cond-false}
use Rattle.htn_base.specs.Different.{AreDifferent}
use Rattle.text_forms.specs.Words.{Word, word_at}
use Rattle.text_forms.specs.Words as words
use Rattle.gd_reader.specs.Terms.{Names}
use Rattle.gd_reader.specs.declared.term.RawTerm.{RawTerm}
use Rattle.gd_reader.specs.declared.typed_lists.RawParam.{RawParam}
use Rattle.plan_texts.specs.FirstSeen.{place_or_zero, parents_for, pairs_from, but_first}
use Rattle.plan_texts.specs.FirstSeen as plan
use Rattle.plan_texts.specs.TypedLists.{first_seen}
use Rattle.plan_texts.specs.Types.{EachIs, TypeItem}
use Rattle.plan_texts.proofs.Unique.{map-map}
use Rattle.text_values.specs.form_spellings.Written.{item_written, parent_written}
use Rattle.text_values.proofs.form_spellings.seen.Mapped.{kept_mapped}
use Rattle.hddl_reader.specs.names.Words.{term_word, param_word}
use Rattle.name_binding.specs.Parents.{parent, pairs_with, pairs_for, place_of, parents_behind, parents_written, pairs_below, pairs_in_order}
use Rattle.name_binding.specs.Seen as numbers
use Rattle.text_values.proofs.form_spellings.binding_laws.Places.{same_word}
use Rattle.text_values.proofs.form_spellings.binding_laws.TypePairs.{own_place, for_one}

-- what is known of a section of types, whose types have these numbers and words
module _ (names : Names) (types : List ℕ) (xs : List RawParam) (W : List Word) (differ : AreDifferent W) where
  abbrev pub place : Word → ℕ
  place w = place_or_zero (words.first_place w W)

  -- it is the word of a type
  abbrev pub Stands : Word → Type 0
  Stands w = (place w < length W) × (word_at W (place w) ≡ w)

  -- a declared type stands for its word, with one parent at most
  pub record IsPlaced (x : RawParam) : Type 0 where
    pub own_below : own_place types xs x < length W
    pub own_is : word_at W (own_place types xs x) ≡ param_word names x
    pub one : length x.ty ≤ 1
    pub each : EachIs (λ (t : RawTerm). (place_of types t ≡ place (term_word names t)) × Stands (term_word names t)) x.ty

  abbrev items : List RawParam → List TypeItem
  items ys = map (item_written names) ys

  alike : (v w : Word) → Stands v → Stands w → eqb (place v) (place w) ≡ bytes_eq v w
  alike v w s t = sym (same_word W (place v) (place w) differ s.0 t.0) ∙ ap (λ u. bytes_eq u (word_at W (place w))) s.1 ∙ ap (bytes_eq v) t.1

  abbrev IsParent : RawTerm → Type 0
  IsParent t = (place_of types t ≡ place (term_word names t)) × Stands (term_word names t)

  step : (ts : List RawTerm) → length ts ≤ 1 → EachIs IsParent ts → (b : Bool) (w u : Word) (is : List TypeItem) (rest : List ℕ) → bytes_eq w u ≡ b → rest ≡ map place (parents_for w is)
      → cond b (map (place_of types) ts) [] ++ rest ≡ map place (parents_for w ((u, parent_written names ts) ∷ is))
  step [] l e true w u is rest f r = r
  step [] l e false w u is rest f r = r
  step (t ∷ []) l e true w u is rest f r = (λ i. e.0.0 i ∷ r i) ∙ ap (map place) (sym (cond-true _ _ _ f))
  step (t ∷ []) l e false w u is rest f r = r ∙ ap (map place) (sym (cond-false _ _ _ f))
  step (t ∷ v ∷ ts) l e b w u is rest f r = absurd (omega arith)

  -- the parents behind the words of a type, by numbers and by words
  behind_are : (ys : List RawParam) → EachIs IsPlaced ys → (k : ℕ) → k < length W → flat_map (parents_behind types k) ys ≡ map place (parents_for (word_at W k) (items ys))
  behind_are [] p k l = refl
  behind_are (y ∷ ys) p k l =
      let same : bytes_eq (word_at W k) (param_word names y) ≡ eqb k (own_place types xs y) = ap (bytes_eq (word_at W k)) (sym p.0.own_is) ∙ same_word W k (own_place types xs y) differ l p.0.own_below in
      step y.ty p.0.one p.0.each (eqb k (own_place types xs y)) (word_at W k) (param_word names y) (items ys) (flat_map (parents_behind types k) ys) same (behind_are ys p.1 k l)

  stand : (ts : List RawTerm) → EachIs IsParent ts → (w u : Word) (is : List TypeItem) → EachIs Stands (parents_for w is) → EachIs Stands (parents_for w ((u, parent_written names ts) ∷ is))
  stand [] e w u is s = s
  stand (t ∷ ts) e w u is s = go (bytes_eq w u)
    where
      go : (b : Bool) → EachIs Stands (cond b (term_word names t ∷ parents_for w is) (parents_for w is))
      go true = (e.0.1, s)
      go false = s

  parents_stand : (ys : List RawParam) → EachIs IsPlaced ys → (w : Word) → EachIs Stands (parents_for w (items ys))
  parents_stand [] p w = tt
  parents_stand (y ∷ ys) p w = stand y.ty p.0.each w (param_word names y) (items ys) (parents_stand ys p.1 w)

  module _ (placed : EachIs IsPlaced xs) where
    written_are : (k : ℕ) → k < length W → parents_written types xs k ≡ map place (first_seen [] (parents_for (word_at W k) (items xs)))
    written_are k l =
        ap (numbers.first_seen []) (behind_are xs placed k l)
        ∙ kept_mapped bytes_eq eqb place Stands alike first_seen (λ seen. refl) (λ seen v vs. refl) numbers.first_seen (λ seen. refl) (λ seen n ns. refl) (parents_for (word_at W k) (items xs)) [] tt (parents_stand xs placed (word_at W k))

    one_type : (c : ℕ) (qs : List Word) (ps : List ℕ) → ps ≡ map place (first_seen [] qs) → pairs_for (suc c) ps ≡ plan.pairs_for (suc c) W qs
    one_type c [] ps e = for_one types xs c ps ∙ ap (pairs_with (suc c)) e
    one_type c (q ∷ qs) ps e = for_one types xs c ps ∙ ap (pairs_with (suc c)) e ∙ sym (map-map place (parent (suc c)) (first_seen [] (q ∷ qs)))

    -- from this place on these are the words of types
    abbrev Behind : ℕ → List Word → Type 0
    Behind k ws = (i : ℕ) → i < length ws → (k + i < length W) × (word_at W (k + i) ≡ word_at ws i)

    next : (k : ℕ) (w : Word) (ws : List Word) → Behind k (w ∷ ws) → Behind (suc k) ws
    next k w ws s i l = let e : k + suc i ≡ suc k + i = omega arith in subst (λ n. (n < length W) × (word_at W n ≡ word_at ws i)) e (s (suc i) (omega arith))

    here : (k : ℕ) (w : Word) (ws : List Word) → Behind k (w ∷ ws) → (k < length W) × (word_at W k ≡ w)
    here k w ws s = let e : k + 0 ≡ k = omega arith in subst (λ n. (n < length W) × (word_at W n ≡ w)) e (s 0 (omega arith))

    below_are : (ws : List Word) (c : ℕ) → Behind (suc c) ws → pairs_below types xs (suc c + length ws) ≡ pairs_below types xs (suc c) ++ pairs_from (suc c) W ws (items xs)
    below_are [] c s = let e : suc c + 0 ≡ suc c = omega arith in ap (pairs_below types xs) e ∙ sym (append-nil (pairs_below types xs (suc c)))
    below_are (w ∷ ws) c s =
        let e : suc c + suc (length ws) ≡ suc (suc c) + length ws = omega arith in
        let h = here (suc c) w ws s in
        let one : pairs_for (suc c) (parents_written types xs (suc c)) ≡ plan.pairs_for (suc c) W (parents_for w (items xs)) =
        one_type c (parents_for w (items xs)) (parents_written types xs (suc c)) (written_are (suc c) h.0 ∙ ap (λ v. map place (first_seen [] (parents_for v (items xs)))) h.1) in
        ap (pairs_below types xs) e ∙ below_are ws (suc c) (next (suc c) w ws s)
        ∙ append_assoc (pairs_below types xs (suc c)) (pairs_for (suc c) (parents_written types xs (suc c))) (pairs_from (suc (suc c)) W ws (items xs))
        ∙ ap (λ ps. pairs_below types xs (suc c) ++ (ps ++ pairs_from (suc (suc c)) W ws (items xs))) one

    pub pairs_are : (w : Word) (rest : List Word) → W ≡ w ∷ rest → length types ≡ length W → pairs_in_order types xs ≡ pairs_from 1 W (but_first W) (items xs)
    pairs_are w rest first count =
        let behind : Behind 1 rest = λ i l.
        let e : suc i ≡ 1 + i = omega arith in
        subst (λ n. (n < length W) × (word_at W n ≡ word_at rest i)) e (subst (λ V. (suc i < length V) × (word_at V (suc i) ≡ word_at rest i)) (sym first) (omega arith, refl)) in
        let long : suc (length rest) ≡ 1 + length rest = omega arith in
        ap (pairs_below types xs) (count ∙ ap length first ∙ long) ∙ below_are rest 0 behind ∙ ap (λ ws. pairs_from 1 W (but_first ws) (items xs)) (sym first)
