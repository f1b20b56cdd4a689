-- The least of the faults that were noted is the least of all.
use Rattle.std.proofs.Common.{zero, suc, ◌≡◌, ◌⊎◌, ◌+◌, ◌<◌, List, [], ◌∷◌, ◌++◌, Some, None, false, true, length, inl, inr, refl, subst, ap, ◌∙◌, arith, length-append}
use Rattle.std.specs.Prelude.{All, Contains}
use Rattle.std.proofs.lemmas.Bool.{cases_Bool, cond-true, cond-false}
use Rattle.std.proofs.lemmas.Bool.Decides.{nat_tests}
use Rattle.std.proofs.lemmas.List.{get_or_append_left, get_or-append-add}
use Rattle.std.proofs.lemmas.List.Elements.{All-cons, All-nil, All-head, All-tail, All-append, All-contains, All-contains_itself, All-weaker}
use Rattle.name_binding.specs.declared.faults.Spot.{Spot}
use Rattle.name_binding.specs.Spots.{is_in_front, noted, AreLeastOf}

pub not_in_front_of_itself : (s : Spot) → is_in_front s s ≡ false
not_in_front_of_itself s = grind (arith, nat_tests)

pub not_in_front_after : (a b c : Spot) → is_in_front a b ≡ false → is_in_front b c ≡ false → is_in_front a c ≡ false
not_in_front_after a b c h g = grind (arith, nat_tests)

pub in_front_not_behind : (a b : Spot) → is_in_front a b ≡ true → is_in_front b a ≡ false
in_front_not_behind a b h = grind (arith, nat_tests)

-- one of these, and none of them is in front of it
pub record IsLeastIn (ss : List Spot) (r : Spot) : Type 0 where
  pub is : Contains ss r
  pub least : All (λ s. is_in_front s r ≡ false) ss

behind : (t : Spot) (ss : List Spot) (r : Spot) → Contains ss r → Contains (t ∷ ss) r
behind t ss r (k, l, e) = (suc k, omega (arith, l), e)

past_second : (t s : Spot) (ss : List Spot) (r : Spot) → Contains (t ∷ ss) r → Contains (t ∷ s ∷ ss) r
past_second t s ss r (zero, l, e) = (0, omega arith, e)
past_second t s ss r (suc k, l, e) = (suc (suc k), omega (arith, l), e)

one_is_kept : (t : Spot) (ss : List Spot) → (r : Spot) × (noted (Some t) ss ≡ Some r) × IsLeastIn (t ∷ ss) r
one_is_kept t [] = (
  t,
  refl,
  record {
    is = (0, omega arith, refl);
    least = All-cons (λ s. is_in_front s t ≡ false) t [] (not_in_front_of_itself t) (All-nil (λ s. is_in_front s t ≡ false));
  },
)
one_is_kept t (s ∷ ss) = elim (cases_Bool (is_in_front s t)) [
  | inl b ↦
      let k = one_is_kept s ss in
      let P : Spot → Type 0 = λ u. is_in_front u k.0 ≡ false in (
        k.0,
        ap (λ o. noted o ss) (cond-true (is_in_front s t) (Some s) (Some t) b) ∙ k.1,
        record {
          is = behind t (s ∷ ss) k.0 k.2.is;
          least = All-cons P t (s ∷ ss) (not_in_front_after t s k.0 (in_front_not_behind s t b) (All-head P s ss k.2.least)) k.2.least;
        },
      )
  | inr b ↦
      let k = one_is_kept t ss in
      let P : Spot → Type 0 = λ u. is_in_front u k.0 ≡ false in
      let first = All-head P t ss k.2.least in (
        k.0,
        ap (λ o. noted o ss) (cond-false (is_in_front s t) (Some s) (Some t) b) ∙ k.1,
        record {
          is = past_second t s ss k.0 k.2.is;
          least = All-cons P t (s ∷ ss) first (All-cons P s ss (not_in_front_after s t k.0 b first) (All-tail P t ss k.2.least));
        },
      )
]

-- what is noted from none is the least of all
pub noted_is_least : (ss : List Spot) (r : Spot) → noted None ss ≡ Some r → IsLeastIn ss r
noted_is_least [] r e = absurd cc
noted_is_least (t ∷ ss) r e =
    let k = one_is_kept t ss in
    let same : k.0 ≡ r = let f = k.1 in cc in
    subst (IsLeastIn (t ∷ ss)) same k.2

pub none_is_noted : (ss : List Spot) → noted None ss ≡ None → ss ≡ []
none_is_noted [] e = refl
none_is_noted (t ∷ ss) e = let k = one_is_kept t ss in let f = k.1 in absurd cc

module _ {P : Spot → Type 0} (ss : List Spot) (h : AreLeastOf P ss) where
  -- the one that is kept is a fault, and none stands in front of it
  pub least_is_fault : (r : Spot) → noted None ss ≡ Some r → P r
  least_is_fault r e = All-contains P ss r h.sound (noted_is_least ss r e).is

  pub least_is_first : (r : Spot) → noted None ss ≡ Some r → (s : Spot) → P s → is_in_front s r ≡ false
  least_is_first r e s p =
      let a = h.least s p in
      not_in_front_after s a.1 r a.4 (All-contains (λ u. is_in_front u r ≡ false) ss a.1 (noted_is_least ss r e).least (a.0, a.2, a.3))

  -- where none is kept there is none
  pub none_is_fault : noted None ss ≡ None → (s : Spot) → P s → ⊥
  none_is_fault e s p =
      let a = h.least s p in
      let l = a.2 in
      let z = subst (λ us. a.0 < length us) (none_is_noted ss e) l in
      omega (arith, z)

pub least-append : {P Q : Spot → Type 0} (xs ys : List Spot) → AreLeastOf P xs → AreLeastOf Q ys → AreLeastOf (λ s. P s ⊎ Q s) (xs ++ ys)
least-append {P} {Q} xs ys h g = record {
  sound = All-append (λ s. P s ⊎ Q s) xs ys (All-weaker P (λ s. P s ⊎ Q s) (λ s p. inl p) xs h.sound) (All-weaker Q (λ s. P s ⊎ Q s) (λ s q. inr q) ys g.sound);
  least = λ s f. elim f [
    | inl p ↦ let a = h.least s p in (a.0, a.1, (let l = a.2 in omega (arith, l, length-append xs ys)), get_or_append_left xs ys a.1 a.0 a.2 ∙ a.3, a.4)
    | inr q ↦ let a = g.least s q in (length xs + a.0, a.1, (let l = a.2 in omega (arith, l, length-append xs ys)), get_or-append-add xs ys a.0 a.1 ∙ a.3, a.4)
  ];
}

-- faults that are listed one by one
pub least_of_themselves : (ss : List Spot) → AreLeastOf (Contains ss) ss
least_of_themselves ss = record {
  sound = All-contains_itself ss;
  least = λ s c. (c.0, s, c.1, c.2, not_in_front_of_itself s);
}
