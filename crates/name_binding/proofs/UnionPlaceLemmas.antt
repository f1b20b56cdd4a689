-- The places of unions after one more was put, or taken back.
use Rattle.std.proofs.Common.{◌≡◌, ◌≢◌, ℕ, ◌+◌, ◌<◌, ◌≤◌, List, [], ◌∷◌, ◌++◌, length, Vec, Global, Bool, true, false, cond, not, Option, Some, None, Result, Ok, Err, inl, inr, nat_lt, refl, sym, ap, subst, ◌∙◌, arith, true≢false}
use Rattle.std.specs.List.{list_any, position_or_len}
use Rattle.std.specs.Prelude.{position, is_some, IfOk, IsOkAnd}
use Rattle.std.specs.Str.{bytes_eq}
use Rattle.std.specs.BTreeMap as tree
use Rattle.std.specs.BTreeMap.{BTreeMap}
use Rattle.std.proofs.lemmas.Bool.{cases_lt, ne_eqb, ltb-false, le-ltb, lt-ltb, eq-eqb, cond-true, cond-false}
use Rattle.std.proofs.lemmas.List.{length-append}
use Rattle.std.proofs.lemmas.List.Folds.{list_any_at, list_any_none, position_or_len_push}
use Rattle.std.proofs.lemmas.List.Quantifiers.{position-Some}
use Rattle.std.proofs.lemmas.List.Sums.{fails_before_first, prefix_len-le-length}
use Rattle.std.proofs.lemmas.Slice.Eq.{bytes_eq-Decides}
use Rattle.htn_base.specs.Table.{with_word}
use Rattle.htn_base.proofs.OrderedLemmas.{key_order, list_order, others-same}
use Rattle.name_binding.specs.UnionPlaces.{place_kept, ArePlacesOf}

module _ {X : Type 0} (test : X → Bool) (xs : List X) where
  within : position_or_len test xs ≤ length xs
  within = prefix_len-le-length (λ x. not (test x)) xs

  -- nothing passes: the first place is behind all
  past : position test xs ≡ None → position_or_len test xs ≡ length xs
  past none = by (nat_lt (position_or_len test xs) (length xs)) refl none
    where
      by : (b : Bool) → nat_lt (position_or_len test xs) (length xs) ≡ b → cond b (Some (position_or_len test xs)) None ≡ None → position_or_len test xs ≡ length xs
      by true e none = absurd (cc none)
      by false e none = let above = ltb-false _ _ e in omega (arith, above, within)

  none_passes : position test xs ≡ None → list_any test xs ≡ false
  none_passes none = list_any_none test xs λ k d below. fails_before_first test xs k d (subst (λ n. k < n) (sym (past none)) below)

  one_passes : (k : ℕ) → position test xs ≡ Some k → X → list_any test xs ≡ true
  one_passes k some x = let found = position-Some test xs k x some in list_any_at test xs k x found.0 found.1

  -- what is put behind them is the first that passes
  position-last : (x : X) → position test xs ≡ None → test x ≡ true → position test (xs ++ x ∷ []) ≡ Some (length xs)
  position-last x none passes =
      let ends = past none in
      let first : position_or_len test (xs ++ x ∷ []) ≡ length xs + 0 =
      position_or_len_push test xs x
      ∙ ap (λ b. cond b (length xs + cond (test x) 0 1) (position_or_len test xs)) (eq-eqb _ _ ends)
      ∙ ap (λ b. length xs + cond b 0 1) passes in
      let below : position_or_len test (xs ++ x ∷ []) < length (xs ++ x ∷ []) = omega (arith, first, length-append xs (x ∷ [])) in
      let is : position_or_len test (xs ++ x ∷ []) ≡ length xs = omega (arith, first) in
      ap (λ b. cond b (Some (position_or_len test (xs ++ x ∷ []))) None) (lt-ltb _ _ below) ∙ ap (λ n. Some n) is

  -- or does not pass
  position-else : (x : X) → test x ≡ false → position test (xs ++ x ∷ []) ≡ position test xs
  position-else x fails = elim (cases_lt (position_or_len test xs) (length xs)) [
    | inl less ↦
        let first : position_or_len test (xs ++ x ∷ []) ≡ position_or_len test xs =
        position_or_len_push test xs x ∙ ap (λ b. cond b (length xs + cond (test x) 0 1) (position_or_len test xs)) (ne_eqb _ _ (λ e. omega (arith, e, less))) in
        let below : position_or_len test (xs ++ x ∷ []) < length (xs ++ x ∷ []) = omega (arith, first, less, length-append xs (x ∷ [])) in
        ap (λ b. cond b (Some (position_or_len test (xs ++ x ∷ []))) None) (lt-ltb _ _ below) ∙ ap (λ n. Some n) first
        ∙ sym (ap (λ b. cond b (Some (position_or_len test xs)) None) (lt-ltb _ _ less))
    | inr past_all ↦
        let ends : position_or_len test xs ≡ length xs = omega (arith, past_all, within) in
        let first : position_or_len test (xs ++ x ∷ []) ≡ length xs + 1 =
        position_or_len_push test xs x
        ∙ ap (λ b. cond b (length xs + cond (test x) 0 1) (position_or_len test xs)) (eq-eqb _ _ ends)
        ∙ ap (λ b. length xs + cond b 0 1) fails in
        let above : length (xs ++ x ∷ []) ≤ position_or_len test (xs ++ x ∷ []) = omega (arith, first, length-append xs (x ∷ [])) in
        ap (λ b. cond b (Some (position_or_len test (xs ++ x ∷ []))) None) (le-ltb _ _ above)
        ∙ sym (ap (λ b. cond b (Some (position_or_len test xs)) None) (le-ltb _ _ past_all))
  ]

module _ (unions : List (List ℕ)) (union : List ℕ) where
  -- a union that is there
  pub with-there : is_some (position (bytes_eq union) unions) ≡ true → with_word unions union ≡ unions
  with-there there = by (position (bytes_eq union) unions) refl there
    where
      by : (place : Option ℕ) → position (bytes_eq union) unions ≡ place → is_some place ≡ true → with_word unions union ≡ unions
      by None e there = absurd (true≢false (sym there))
      by (Some k) e there = cond-true (list_any (bytes_eq union) unions) unions (unions ++ union ∷ []) (one_passes (bytes_eq union) unions k e union)

  -- and one that is not there
  pub not-there : is_some (position (bytes_eq union) unions) ≡ false → position (bytes_eq union) unions ≡ None
  not-there absent = by (position (bytes_eq union) unions) refl absent
    where
      by : (place : Option ℕ) → position (bytes_eq union) unions ≡ place → is_some place ≡ false → position (bytes_eq union) unions ≡ None
      by None e absent = e
      by (Some k) e absent = absurd (true≢false absent)

  module _ (new : position (bytes_eq union) unions ≡ None) where
    pub with-new : with_word unions union ≡ unions ++ union ∷ []
    with-new = cond-false (list_any (bytes_eq union) unions) unions (unions ++ union ∷ []) (none_passes (bytes_eq union) unions new)

    module _ (old : BTreeMap (Vec ℕ Global) ℕ) (places : ArePlacesOf old unions) where
      pub places-put : (now : BTreeMap (Vec ℕ Global) ℕ) → tree.UpdatesBy key_order (list_order union) old now (Some (length unions)) → ArePlacesOf now (unions ++ union ∷ [])
      places-put now put other = by (bytes_eq other union) refl
        where
          by : (same : Bool) → bytes_eq other union ≡ same → place_kept now other ≡ position (bytes_eq other) (unions ++ union ∷ [])
          by true e =
              let is = (bytes_eq-Decides other union).0 e in
              ap (λ m. place_kept now m) is ∙ put.1
              ∙ sym (ap (λ m. position (bytes_eq m) (unions ++ union ∷ [])) is ∙ position-last (bytes_eq union) unions union new ((bytes_eq-Decides union union).1 refl))
          by false e =
              let differ : union ≢ other = λ is. true≢false (sym ((bytes_eq-Decides other union).1 (sym is)) ∙ e) in
              others-same union other differ old now put.3 ∙ places other ∙ sym (position-else (bytes_eq other) unions union e)

      pub places-back : (between now : BTreeMap (Vec ℕ Global) ℕ) (w : Option ℕ) → tree.UpdatesBy key_order (list_order union) old between w
          → tree.UpdatesBy key_order (list_order union) between now None → ArePlacesOf now unions
      places-back between now w put back other = by (bytes_eq other union) refl
        where
          by : (same : Bool) → bytes_eq other union ≡ same → place_kept now other ≡ position (bytes_eq other) unions
          by true e =
              let is = (bytes_eq-Decides other union).0 e in
              ap (λ m. place_kept now m) is ∙ back.1 ∙ sym (ap (λ m. position (bytes_eq m) unions) is ∙ new)
          by false e =
              let differ : union ≢ other = λ is. true≢false (sym ((bytes_eq-Decides other union).1 (sym is)) ∙ e) in
              others-same union other differ between now back.3 ∙ others-same union other differ old between put.3 ∙ places other

-- a copy of the list that was put
pub copy-put : {E : Type 0} (made : Result (List ℕ) E) (members : List ℕ) (old new : List (List ℕ)) → IfOk made (λ list. list ≡ members)
    → IsOkAnd made (λ item. new ≡ old ++ item ∷ []) → new ≡ old ++ members ∷ []
copy-put (Ok list) members old new same put = put ∙ ap (λ item. old ++ item ∷ []) same
copy-put (Err error) members old new same put = absurd put
