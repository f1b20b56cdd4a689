-- The numbers that are first seen, and the word that names one type too many.
use Rattle.std.proofs.Common.{◌≡◌, ◌≢◌, ℕ, zero, suc, ◌<◌, ◌≤◌, List, [], ◌∷◌, ◌++◌, Bool, true, false, cond, not, ◌&&◌, ◌||◌, nat_eq, length, take, get_or, Some, refl, sym, ap, subst, ◌∙◌, inl, inr, arith, true≢false, length-take}
use Rattle.std.specs.Prelude.{Contains, option_map}
use Rattle.std.proofs.lemmas.Bool.{cases_lt, cases_eq, eq-eqb, ne_eqb, eqb-true}
use Rattle.std.proofs.lemmas.List.{get_or-take, get_or_default}
use Rattle.std.proofs.lemmas.List.Sorted.{Contains-permutation, IsPermutation-sym}
use Rattle.std.proofs.lemmas.List.Folds.{Any-from_list_any, list_any_at}
use Rattle.std.proofs.lemmas.List.Elements.{Contains-get_or}
use Rattle.htn_base.specs.Different.{AreDifferent}
use Rattle.plan_model.proofs.task_networks.Lists.{Contains-here, Contains-later, head_or_tail, not-in_empty}
use Rattle.plan_model.proofs.task_networks.Different.{no_more}
use Rattle.name_binding.specs.Places.{first_place}
use Rattle.gd_reader.specs.declared.term.RawTerm.{RawTerm}
use Rattle.gd_reader.specs.declared.typed_lists.RawParam.{RawParam}
use Rattle.name_binding.specs.Mentions.{mentioned, numbers_of, AreInTextOrder}
use Rattle.name_binding.specs.TooMany.{HaveOneWordAPlace, IsSaidBefore, AreTypesBefore, IsOneTooMany}
use Rattle.name_binding.specs.Seen.{is_among, first_seen}

or-true : (b : Bool) → (b || true) ≡ true
or-true true = refl
or-true false = refl

pub among-Contains : (n : ℕ) (xs : List ℕ) → is_among n xs ≡ true → Contains xs n
among-Contains n xs e =
    let (k, x, below, at, same) = Any-from_list_any (nat_eq n) xs e in
    subst (Contains xs) (sym (eqb-true n x same)) (k, below, at)

pub Contains-among : (n : ℕ) (xs : List ℕ) → Contains xs n → is_among n xs ≡ true
Contains-among n xs (k, below, at) = list_any_at (nat_eq n) xs k n below (eq-eqb n (get_or xs k n) (sym at))

among-first_seen-new : (n x : ℕ) (seen among : Bool) → (n ≡ x → seen ≡ false)
    → (nat_eq n x || (not (nat_eq n x || seen) && among)) ≡ (not seen && (nat_eq n x || among))
among-first_seen-new n x seen among new = elim (cases_eq n x) [
  | inl e ↦ rw (eq-eqb n x e, new e) refl
  | inr d ↦ rw (ne_eqb n x d) refl
]

among-first_seen-old : (n x : ℕ) (seen among : Bool) → (n ≡ x → seen ≡ true) → (not seen && among) ≡ (not seen && (nat_eq n x || among))
among-first_seen-old n x seen among old = elim (cases_eq n x) [
  | inl e ↦ rw (old e) refl
  | inr d ↦ rw (ne_eqb n x d) refl
]

-- those that are first seen are those that were not seen before
pub among-first_seen : (n : ℕ) (seen xs : List ℕ) → is_among n (first_seen seen xs) ≡ (not (is_among n seen) && is_among n xs)
among-first_seen n seen [] = by (is_among n seen)
  where
    by : (b : Bool) → false ≡ (not b && false)
    by true = refl
    by false = refl
among-first_seen n seen (x ∷ xs) = by (is_among x seen) refl (among-first_seen n seen xs) (among-first_seen n (x ∷ seen) xs)
  where
    by : (known : Bool) → is_among x seen ≡ known
        → is_among n (first_seen seen xs) ≡ (not (is_among n seen) && is_among n xs)
        → is_among n (first_seen (x ∷ seen) xs) ≡ (not (nat_eq n x || is_among n seen) && is_among n xs)
        → is_among n (cond known (first_seen seen xs) (x ∷ first_seen (x ∷ seen) xs)) ≡ (not (is_among n seen) && (nat_eq n x || is_among n xs))
    by true k old new = old ∙ among-first_seen-old n x (is_among n seen) (is_among n xs) (λ e. ap (λ m. is_among m seen) e ∙ k)
    by false k old new = ap (λ b. nat_eq n x || b) new ∙ among-first_seen-new n x (is_among n seen) (is_among n xs) (λ e. ap (λ m. is_among m seen) e ∙ k)

-- they differ
pub first_seen-different : (seen xs : List ℕ) → AreDifferent (first_seen seen xs)
first_seen-different seen [] = tt
first_seen-different seen (x ∷ xs) = by (is_among x seen) (first_seen-different seen xs) (first_seen-different (x ∷ seen) xs)
  where
    none : (there : Bool) → is_among x (first_seen (x ∷ seen) xs) ≡ there → (not (nat_eq x x || is_among x seen) && is_among x xs) ≡ there → Contains (first_seen (x ∷ seen) xs) x → ⊥
    none there e f c = true≢false (sym (Contains-among x (first_seen (x ∷ seen) xs) c) ∙ e ∙ sym f ∙ rw (eq-eqb x x refl) refl)

    by : (known : Bool) → AreDifferent (first_seen seen xs) → AreDifferent (first_seen (x ∷ seen) xs) → AreDifferent (cond known (first_seen seen xs) (x ∷ first_seen (x ∷ seen) xs))
    by true old new = old
    by false old new = (none _ (among-first_seen x (x ∷ seen) xs) refl, new)

-- the first of them are those of a first part
pub first_seen-append : (seen xs ys : List ℕ) → (zs : List ℕ) × (first_seen seen (xs ++ ys) ≡ first_seen seen xs ++ zs)
first_seen-append seen [] ys = (first_seen seen ys, refl)
first_seen-append seen (x ∷ xs) ys = by (is_among x seen) (first_seen-append seen xs ys) (first_seen-append (x ∷ seen) xs ys)
  where
    by : (known : Bool) → (zs : List ℕ) × (first_seen seen (xs ++ ys) ≡ first_seen seen xs ++ zs) → (zs : List ℕ) × (first_seen (x ∷ seen) (xs ++ ys) ≡ first_seen (x ∷ seen) xs ++ zs)
        → (zs : List ℕ) × (cond known (first_seen seen (xs ++ ys)) (x ∷ first_seen (x ∷ seen) (xs ++ ys)) ≡ cond known (first_seen seen xs) (x ∷ first_seen (x ∷ seen) xs) ++ zs)
    by true old new = old
    by false old new = (new.0, ap (λ ns. x ∷ ns) new.1)

-- the place of a number in front of which it does not stand
pub first_place-after : (n : ℕ) (front rest : List ℕ) → is_among n front ≡ false → first_place n (front ++ n ∷ rest) ≡ Some (length front)
first_place-after n [] rest none = rw (eq-eqb n n refl) refl
first_place-after n (x ∷ front) rest none = elim (cases_eq n x) [
  | inl e ↦ absurd (true≢false (sym (rw (eq-eqb n x e) refl) ∙ none))
  | inr d ↦ rw (ne_eqb n x d) (ap (option_map suc) (first_place-after n front rest (sym (rw (ne_eqb n x d) refl) ∙ none)))
]

-- each of different numbers has its own place
pub first_place-different : (xs : List ℕ) (k d : ℕ) → AreDifferent xs → k < length xs → first_place (get_or xs k d) xs ≡ Some k
first_place-different [] k d h below = absurd (omega arith)
first_place-different (x ∷ xs) zero d h below = rw (eq-eqb x x refl) refl
first_place-different (x ∷ xs) (suc k) d h below =
    let l : k < length xs = omega arith in
    rw (ne_eqb (get_or xs k d) x (λ e. h.0 (subst (Contains xs) e (Contains-get_or xs k d l)))) (ap (option_map suc) (first_place-different xs k d h.1 l))

pub among-numbers : (m : RawTerm) (words : List RawTerm) → Contains words m → is_among m.name.number (numbers_of words) ≡ true
among-numbers m [] c = absurd (not-in_empty m c)
among-numbers m (w ∷ words) c = elim (head_or_tail w words m c) [
  | inl e ↦ rw (eq-eqb m.name.number w.name.number (ap (λ (t : RawTerm). t.name.number) (sym e))) refl
  | inr d ↦ rw (among-numbers m words d) (or-true (nat_eq m.name.number w.name.number))
]

pub among-said : (n : ℕ) (words : List RawTerm) → is_among n (numbers_of words) ≡ true → (m : RawTerm) × Contains words m × (m.name.number ≡ n)
among-said n [] e = absurd (true≢false (sym e))
among-said n (w ∷ words) e = elim (cases_eq n w.name.number) [
  | inl s ↦ (w, Contains-here w words, sym s)
  | inr d ↦ let (m, c, s) = among-said n words (rw (ne_eqb n w.name.number d) at e) in (m, Contains-later w words m c, s)
]

seen-here : (n object : ℕ) (among : Bool) → (not (nat_eq n object || false) && among) ≡ true → (n ≢ object) × (among ≡ true)
seen-here n object among e = elim (cases_eq n object) [
  | inl s ↦ absurd (true≢false (sym e ∙ rw (eq-eqb n object s) refl))
  | inr d ↦ (d, rw (ne_eqb n object d) at e)
]

module _ (most object : ℕ) (xs : List RawParam) (words : List RawTerm) (order : AreInTextOrder xs words) (one : HaveOneWordAPlace (mentioned xs)) where
  abbrev pub seen_in : List RawTerm → List ℕ
  seen_in ws = first_seen (object ∷ []) (numbers_of ws)

  pub seen-in : (ws : List RawTerm) (m : RawTerm) → Contains ws m → m.name.number ≢ object → Contains (seen_in ws) m.name.number
  seen-in ws m c d =
      among-Contains m.name.number (seen_in ws)
      (among-first_seen m.name.number (object ∷ []) (numbers_of ws) ∙ rw (ne_eqb m.name.number object d) (among-numbers m ws c))

  pub seen-out : (ws : List RawTerm) (n : ℕ) → Contains (seen_in ws) n → (n ≢ object) × ((m : RawTerm) × Contains ws m × (m.name.number ≡ n))
  seen-out ws n c =
      let (d, e) = seen-here n object (is_among n (numbers_of ws)) (sym (among-first_seen n (object ∷ []) (numbers_of ws)) ∙ Contains-among n (seen_in ws) c) in
      (d, among-said n ws e)

  module _ (j : ℕ) (w : RawTerm) (below : j < length words) (read : w ≡ get_or words j w) where
    in-front : (m : RawTerm) → Contains words m → m.at < w.at → Contains (take j words) m
    in-front m (k, l, e) lt = elim (cases_lt k j) [
      | inl h ↦ (k, omega (arith, length-take j words), get_or-take j words k m h ∙ e)
      | inr h ↦
          let up = order.rise j k m h l in
          let at_w : get_or words j m ≡ w = get_or_default words j m w below ∙ sym read in
          let a = ap (λ (t : RawTerm). t.at) at_w in
          let b = ap (λ (t : RawTerm). t.at) e in
          absurd (omega arith)
    ]

    not-behind : (m : RawTerm) → Contains (take j words) m → (m.at ≤ w.at) × Contains words m
    not-behind m (k, l, e) =
        let len = length-take j words in
        let h : k < j = omega arith in
        let e' : get_or words k m ≡ m = sym (get_or-take j words k m h) ∙ e in
        let up = order.rise k j m (omega arith) below in
        let at_w : get_or words j m ≡ w = get_or_default words j m w below ∙ sym read in
        let a = ap (λ (t : RawTerm). t.at) at_w in
        let b = ap (λ (t : RawTerm). t.at) e' in
        (omega arith, (k, omega arith, e'))

    said : Contains (mentioned xs) w
    said = Contains-permutation words (mentioned xs) w (IsPermutation-sym (mentioned xs) words order.same) (j, below, sym read)

    module _ (new : is_among w.name.number (numbers_of (take j words)) ≡ false) where
      strictly : (m : RawTerm) → Contains (take j words) m → Contains (mentioned xs) m → m.at ≡ w.at → ⊥
      strictly m c d e = true≢false (sym (among-numbers m (take j words) c) ∙ ap (λ n. is_among n (numbers_of (take j words))) (one m w d said e) ∙ new)

      before : AreTypesBefore object (mentioned xs) w.at (seen_in (take j words))
      before n = (to, from)
        where
          to : Contains (seen_in (take j words)) n → (n ≢ object) × IsSaidBefore (mentioned xs) w.at n
          to c =
              let (d, (m, cm, e)) = seen-out (take j words) n c in
              let (le, cw) = not-behind m cm in
              let cx = Contains-permutation words (mentioned xs) m (IsPermutation-sym (mentioned xs) words order.same) cw in
              let ne : m.at ≢ w.at = strictly m cm cx in
              (d, (m, cx, e, omega arith))

          from : (n ≢ object) × IsSaidBefore (mentioned xs) w.at n → Contains (seen_in (take j words)) n
          from (d, (m, cx, e, lt)) =
              subst (Contains (seen_in (take j words))) e
              (seen-in (take j words) m (in-front m (Contains-permutation (mentioned xs) words m order.same cx) lt) (λ s. d (sym e ∙ s)))

      pub one_too_many : w.name.number ≢ object → length (seen_in (take j words)) ≡ most → IsOneTooMany most object (mentioned xs) w.at
      one_too_many d len = record {
        word = w;
        said = said;
        here = refl;
        not_object = d;
        earlier = seen_in (take j words);
        are_before = before;
        different = first_seen-different (object ∷ []) (numbers_of (take j words));
        most_stand = len;
        new = λ c. let (s, (m, cm, e)) = seen-out (take j words) w.name.number c in true≢false (sym (ap (λ n. is_among n (numbers_of (take j words))) (sym e) ∙ among-numbers m (take j words) cm) ∙ new);
      }

      pub at_least : length (seen_in (take j words)) ≡ most → (at : ℕ) → IsOneTooMany most object (mentioned xs) at → at < w.at → ⊥
      at_least len at f lt =
          let few = no_more (f.word.name.number ∷ f.earlier) (seen_in (take j words)) (f.new, f.different) within in
          let m = f.most_stand in
          omega arith
        where
          within : (n : ℕ) → Contains (f.word.name.number ∷ f.earlier) n → Contains (seen_in (take j words)) n
          within n c = elim (head_or_tail f.word.name.number f.earlier n c) [
            | inl e ↦ (before n).1 ((λ s. f.not_object (e ∙ s)), (f.word, f.said, e, let h = f.here in omega arith))
            | inr d ↦ let (o, (m, cm, e, l)) = (f.are_before n).0 d in (before n).1 (o, (m, cm, e, omega arith))
          ]

  -- where there is room for all types, none is one too many
  pub none_too_many : length (seen_in words) ≤ most → (at : ℕ) → IsOneTooMany most object (mentioned xs) at → ⊥
  none_too_many room at f =
      let few = no_more (f.word.name.number ∷ f.earlier) (seen_in words) (f.new, f.different) within in
      let m = f.most_stand in
      omega arith
    where
      there : (m : RawTerm) → Contains (mentioned xs) m → m.name.number ≢ object → Contains (seen_in words) m.name.number
      there m c d = seen-in words m (Contains-permutation (mentioned xs) words m order.same c) d

      within : (n : ℕ) → Contains (f.word.name.number ∷ f.earlier) n → Contains (seen_in words) n
      within n c = elim (head_or_tail f.word.name.number f.earlier n c) [
        | inl e ↦ subst (Contains (seen_in words)) e (there f.word f.said f.not_object)
        | inr d ↦ let (o, (m, cm, e, l)) = (f.are_before n).0 d in subst (Contains (seen_in words)) e (there m cm (λ s. o (sym e ∙ s)))
      ]
