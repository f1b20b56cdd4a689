-- Lists of options are the values that the parameters can have.
use Rattle.std.proofs.Common.{ℕ, zero, suc, ◌≡◌, ◌↔◌, List, [], ◌∷◌, length, get_or, Option, Some, slice_get, refl, subst, Contains, arith}
use Rattle.plan_model.specs.declared.terms.Param.{Param}
use Rattle.plan_model.specs.plan_meaning.Truth.{AreTyped}
use Rattle.value_choices.specs.declared.range.Range.{Range}
use Rattle.value_choices.specs.Choices.{Agree, CanBe}
use Rattle.value_choices.specs.Ranges.{options, IsRange, AreRanges, AreAmong}

module _ (InType : ℕ → ℕ → Type 0) where
  abbrev Are : List Param → List (Option ℕ) → List Range → Type 0
  Are params known ranges = (i : ℕ) (p : Param) (k : Option ℕ) (r : Range) → slice_get params i ≡ Some p → slice_get known i ≡ Some k
      → slice_get ranges i ≡ Some r → IsRange InType p.ty k r

  can_be : (params : List Param) (known : List (Option ℕ)) (ranges : List Range) (values : List ℕ) → Are params known ranges
      → length known ≡ length params → length ranges ≡ length params → length values ≡ length ranges
      → ((i : ℕ) (r : Range) → slice_get ranges i ≡ Some r → Contains (options r) (get_or values i 0))
      → AreTyped InType params values × Agree known values
  can_be [] [] [] [] are e f g among = (tt, tt)
  can_be (p ∷ ps) (k ∷ ks) (r ∷ rs) (x ∷ xs) are e f g among =
      let here = ((are 0 p k r refl refl refl).each x).0 (among 0 r refl) in
      let there = can_be ps ks rs xs (λ i. are (suc i)) (omega arith) (omega arith) (omega arith) (λ i. among (suc i)) in
      ((here.0, there.0), (here.1, there.1))
  can_be [] [] [] (x ∷ xs) are e f g among = absurd (omega arith)
  can_be [] [] (r ∷ rs) values are e f g among = absurd (omega arith)
  can_be [] (k ∷ ks) ranges values are e f g among = absurd (omega arith)
  can_be (p ∷ ps) [] ranges values are e f g among = absurd (omega arith)
  can_be (p ∷ ps) (k ∷ ks) [] values are e f g among = absurd (omega arith)
  can_be (p ∷ ps) (k ∷ ks) (r ∷ rs) [] are e f g among = absurd (omega arith)

  among : (params : List Param) (known : List (Option ℕ)) (ranges : List Range) (values : List ℕ) → Are params known ranges
      → length known ≡ length params → length ranges ≡ length params → AreTyped InType params values → Agree known values
      → AreAmong ranges values
  among [] [] [] [] are e f t a = record { as_many = refl; each = λ i r g. absurd cc }
  among (p ∷ ps) (k ∷ ks) (r ∷ rs) (x ∷ xs) are e f t a =
      let here = ((are 0 p k r refl refl refl).each x).1 (t.0, a.0) in
      let there = among ps ks rs xs (λ i. are (suc i)) (omega arith) (omega arith) t.1 a.1 in
      record { as_many = (let m = there.as_many in omega arith); each = each here there }
    where
      each : Contains (options r) x → AreAmong rs xs → (i : ℕ) (q : Range) → slice_get (r ∷ rs) i ≡ Some q → Contains (options q)
          (get_or (x ∷ xs) i 0)
      each here there zero q g = subst (λ (z : Range). Contains (options z) x) (let m : r ≡ q = cc in m) here
      each here there (suc i) q g = there.each i q g
  among [] [] [] (x ∷ xs) are e f t a = absurd t
  among [] [] (r ∷ rs) values are e f t a = absurd (omega arith)
  among [] (k ∷ ks) ranges values are e f t a = absurd (omega arith)
  among (p ∷ ps) [] ranges values are e f t a = absurd (omega arith)
  among (p ∷ ps) (k ∷ ks) [] values are e f t a = absurd (omega arith)
  among (p ∷ ps) (k ∷ ks) (r ∷ rs) [] are e f t a = absurd t

  pub among_can_be : (params : List Param) (known : List (Option ℕ)) (ranges : List Range) → AreRanges InType params known ranges
      → length ranges ≡ length params → (values : List ℕ) → AreAmong ranges values ↔ CanBe InType params known values
  among_can_be params known ranges a e values = (
    λ b. (let c = can_be params known ranges values a.each a.as_many e b.as_many b.each in record { typed = c.0; agree = c.1 }),
    λ c. among params known ranges values a.each a.as_many e c.typed c.agree,
  )
