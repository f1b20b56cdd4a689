-- Which words of a section of types are of the first types.
use Rattle.std.proofs.Common.{ℕ, suc, ◌≡◌, ◌+◌, ◌<◌, ◌≤◌, inl, inr, List, [], ◌∷◌, ◌++◌, Option, Some, None, true, length, map, take, drop, get_or, refl, ap, sym, subst, ◌∙◌, Contains, append_assoc, append-nil, arith, length-take}
use Rattle.std.specs.Prelude.{is_some}
use Rattle.std.proofs.lemmas.Bool.{cases_lt, cases_eq}
use Rattle.std.proofs.lemmas.List.{get_or-take, get_or_default, map-append, take-append-drop}
use Rattle.std.proofs.lemmas.List.Elements.{Contains-append_right}
use Rattle.std.proofs.lemmas.List.Sorted.{Contains-permutation, IsPermutation-sym}
use Rattle.plan_model.proofs.task_networks.Lists.{Contains-here, Contains-later}
use Rattle.htn_base.specs.Lists.{Each}
use Rattle.name_binding.specs.Places.{first_place}
use Rattle.name_binding.specs.Spots.{IsInTextOrder}
use Rattle.name_binding.proofs.Found.{first_within, first_known}
use Rattle.gd_reader.specs.declared.term.RawTerm.{RawTerm}
use Rattle.gd_reader.specs.declared.typed_lists.RawParam.{RawParam}
use Rattle.name_binding.specs.Mentions.{own_word, mentioned, numbers_of, AreInTextOrder, types_in_order}
use Rattle.name_binding.specs.PairsAmong.{place_among}
use Rattle.name_binding.specs.Seen.{first_seen}
use Rattle.name_binding.specs.TooMany.{HaveOneWordAPlace, NoneIsOfType, IsFirstOfType}
use Rattle.name_binding.proofs.CycleLemmas.{IsKnownAmong, each-back}
use Rattle.name_binding.proofs.PairLemmas.{place-among}
use Rattle.name_binding.proofs.SeenLemmas.{is_some-first_place}
use Rattle.name_binding.proofs.TooManyLemmas.{Contains-among, first_seen-append, seen-in}
use Rattle.name_binding.proofs.TooManyNoted.{most_seen, room}

-- offsets rise from word to word
abbrev pub Rises : List RawParam → Type 0
Rises [] = Unit {0}
Rises (x ∷ xs) = Each (λ (z : RawParam). x.at < z.at) xs × Rises xs

abbrev at_of : RawParam → ℕ
at_of x = x.at

each-later : (n : ℕ) (xs : List RawParam) → ((j d : ℕ) → j < length (map at_of xs) → n < get_or (map at_of xs) j d) → Each (λ (z : RawParam). n < z.at) xs
each-later n [] h = tt
each-later n (x ∷ xs) h = (h 0 0 (omega arith), each-later n xs (λ j d l. h (suc j) d (omega (arith, l))))

pub rises : (xs : List RawParam) → IsInTextOrder (map at_of xs) → Rises xs
rises [] h = tt
rises (x ∷ xs) h = (each-later x.at xs (λ j d l. h 0 (suc j) d (omega arith) (omega (arith, l))), rises xs (λ i j d l m. h (suc i) (suc j) d (omega (arith, l)) (omega (arith, m))))

pub front-below : (xs ys : List RawParam) (y : RawParam) → Rises (xs ++ y ∷ ys) → Each (λ (z : RawParam). z.at < y.at) xs
front-below [] ys y h = tt
front-below (x ∷ xs) ys y h = ((each-back (λ (z : RawParam). x.at < z.at) xs (y ∷ ys) h.0).0, front-below xs ys y h.1)

pub rises-back : (xs ys : List RawParam) → Rises (xs ++ ys) → Rises ys
rises-back [] ys h = h
rises-back (x ∷ xs) ys h = rises-back xs ys h.1

pub each-weaker : {X : Type 0} (P Q : X → Type 0) → ((x : X) → P x → Q x) → (xs : List X) → Each P xs → Each Q xs
each-weaker P Q f [] h = tt
each-weaker P Q f (x ∷ xs) h = (f x h.0, each-weaker P Q f xs h.1)

-- a word of the section is mentioned there
pub own-mentioned : (xs ys : List RawParam) (x : RawParam) → Contains (mentioned (xs ++ x ∷ ys)) (own_word x)
own-mentioned [] ys x = Contains-here (own_word x) (x.ty ++ mentioned ys)
own-mentioned (z ∷ xs) ys x =
    Contains-later (own_word z) (z.ty ++ mentioned (xs ++ x ∷ ys)) (own_word x)
    (Contains-append_right z.ty (mentioned (xs ++ x ∷ ys)) (own_word x) (own-mentioned xs ys x))

some-is : (o : Option ℕ) → is_some o ≡ true → (k : ℕ) × (o ≡ Some k)
some-is None e = absurd cc
some-is (Some k) e = (k, refl)

has-place : (n : ℕ) (ns : List ℕ) → Contains ns n → (k : ℕ) × (first_place n ns ≡ Some k)
has-place n ns c = some-is (first_place n ns) (is_some-first_place n ns ∙ Contains-among n ns c)

first-append : (n k : ℕ) (xs ys : List ℕ) → first_place n xs ≡ Some k → first_place n (xs ++ ys) ≡ Some k
first-append n k xs [] e = ap (first_place n) (append-nil xs) ∙ e
first-append n k xs (y ∷ ys) e = ap (first_place n) (sym (append_assoc xs (y ∷ []) ys)) ∙ first-append n k (xs ++ y ∷ []) ys (first_known n y k xs e)

numbers-cut : (i : ℕ) (words : List RawTerm) → numbers_of words ≡ numbers_of (take i words) ++ numbers_of (drop i words)
numbers-cut i words = ap numbers_of (sym (take-append-drop i words)) ∙ map-append (λ (w : RawTerm). w.name.number) (take i words) (drop i words)

module _ (most object : ℕ) (xs : List RawParam) (words : List RawTerm) (order : AreInTextOrder xs words) (one : HaveOneWordAPlace (mentioned xs)) where
  abbrev types : List ℕ
  types = types_in_order object words

  among-types : (ws : List RawTerm) (m : RawTerm) → Contains ws m → Contains (types_in_order object ws) m.name.number
  among-types ws m c = elim (cases_eq m.name.number object) [
    | inl e ↦ subst (Contains (types_in_order object ws)) (sym e) (Contains-here object (first_seen (object ∷ []) (numbers_of ws)))
    | inr d ↦ Contains-later object (first_seen (object ∷ []) (numbers_of ws)) m.name.number (seen-in most object xs words order one ws m c d)
  ]

  -- where no type is one too many, all words are of the first types
  pub all-known : NoneIsOfType types (most + 1) words → (m : RawTerm) → Contains (mentioned xs) m → (k : ℕ) × (place_among types (most + 2) m.name.number ≡ Some k)
  all-known none m c =
      let p = has-place m.name.number types (among-types words m (Contains-permutation (mentioned xs) words m order.same c)) in
      let l = first_within m.name.number types p.0 p.1 in
      let few = room most object xs words order one none in
      (p.0, place-among types (most + 2) m.name.number p.0 p.1 (omega (arith, l, few)))

  -- else those up to the first word of that type
  pub known-up-to : (at : ℕ) → IsFirstOfType types (most + 1) words at → (m : RawTerm) → Contains (mentioned xs) m → m.at ≤ at → (k : ℕ) × (place_among types (most + 2) m.name.number ≡ Some k)
  known-up-to at f m c le = go (Contains-permutation (mentioned xs) words m order.same c)
    where
      early : Contains (take f.index words) m → (k : ℕ) × (place_among types (most + 2) m.name.number ≡ Some k)
      early d =
          let (zs, split) = first_seen-append (object ∷ []) (numbers_of (take f.index words)) (numbers_of (drop f.index words)) in
          let whole : types ≡ types_in_order object (take f.index words) ++ zs = ap (λ ns. object ∷ first_seen (object ∷ []) ns) (numbers-cut f.index words) ∙ ap (λ ns. object ∷ ns) split in
          let p = has-place m.name.number (types_in_order object (take f.index words)) (among-types (take f.index words) m d) in
          let l = first_within m.name.number (types_in_order object (take f.index words)) p.0 p.1 in
          let seen = most_seen most object xs words order one at f in
          let e = ap (first_place m.name.number) whole ∙ first-append m.name.number p.0 (types_in_order object (take f.index words)) zs p.1 in
          (p.0, place-among types (most + 2) m.name.number p.0 e (omega (arith, l, seen)))

      there : m.name.number ≡ f.word.name.number → (k : ℕ) × (place_among types (most + 2) m.name.number ≡ Some k)
      there e = (most + 1, place-among types (most + 2) m.name.number (most + 1) (ap (λ n. first_place n types) e ∙ f.is) (omega arith))

      go : Contains words m → (k : ℕ) × (place_among types (most + 2) m.name.number ≡ Some k)
      go (j, l, e) = elim (cases_lt j f.index) [
        | inl lt ↦ early (j, omega (arith, length-take f.index words), get_or-take f.index words j m lt ∙ e)
        | inr ge ↦ there (one m f.word c said (omega (arith, le, up j l e ge, f.here)))
      ]
        where
          said : Contains (mentioned xs) f.word
          said = Contains-permutation words (mentioned xs) f.word (IsPermutation-sym (mentioned xs) words order.same) (f.index, f.below, sym f.read)

          up : (j : ℕ) → j < length words → get_or words j m ≡ m → f.index ≤ j → f.word.at ≤ m.at
          up j l e ge =
              let r = order.rise f.index j m ge l in
              let a = ap (λ (t : RawTerm). t.at) (get_or_default words f.index m f.word f.below ∙ sym f.read) in
              let b = ap (λ (t : RawTerm). t.at) e in
              omega (arith, r, a, b)

  -- and so for words of the section
  pub each-known : (P : RawParam → Type 0) → ((x : RawParam) → Contains (mentioned xs) (own_word x) → P x → IsKnownAmong types (most + 2) x)
      → (front zs rest : List RawParam) → Each P zs → xs ≡ front ++ (zs ++ rest) → Each (IsKnownAmong types (most + 2)) zs
  each-known P f front [] rest h e = tt
  each-known P f front (z ∷ zs) rest h e = (
    f z (subst (λ ys. Contains (mentioned ys) (own_word z)) (sym e) (own-mentioned front (zs ++ rest) z)) h.0,
    each-known P f (front ++ z ∷ []) zs rest h.1 (e ∙ sym (append_assoc front (z ∷ []) (zs ++ rest))),
  )
