-- What is known of values that are asked for, one thing after another.
use Rattle.std.proofs.Common.{ℕ, zero, suc, ◌≡◌, ◌+◌, ◌<◌, ◌≤◌, ◌↔◌, ◌==◌, eq-eqb, Bool, true, false, List, [], ◌∷◌, drop, length, get_or, set, Option, Some, None, slice_get, refl, ap, sym, subst, ◌∙◌, arith}
use Rattle.std.proofs.lemmas.Bool.{eqb-true, true≢false}
use Rattle.std.proofs.lemmas.Option.{slice_get-get_or}
use Rattle.plan_model.specs.declared.terms.Term.{Term}
use Rattle.plan_model.specs.plan_meaning.Truth.{value_of, values_of}
use Rattle.value_choices.specs.Choices.{Agree}
use Rattle.value_choices.specs.Settled.{Settles}
use Rattle.value_choices.proofs.Known.{agree_at, agree_set}

-- of the values that agree with the old ones those of which P is true are those that agree with these, of which L is true
abbrev pub IsLeft : (List ℕ → Type 0) → (List ℕ → Type 0) → List (Option ℕ) → List (Option ℕ) → Type 0
IsLeft P L old now = (length now ≡ length old) × ((values : List ℕ) → length values ≡ length old → (Agree old values × P values) ↔
    (Agree now values × L values))

module _ (P L Q N : List ℕ → Type 0) (step : (values : List ℕ) → L values ↔ (Q values × N values)) (old now new : List (Option ℕ)) where
  pub left_more : length new ≡ length now → IsLeft P L old now → Settles Q now new true → IsLeft P N old new
  left_more e h s = (e ∙ h.0, λ values l. go values (h.1 values l) (s values (l ∙ sym h.0)) (step values))
    where
      go : (values : List ℕ) → (Agree old values × P values) ↔ (Agree now values × L values) → (Agree now values × Q values)
          ↔ Agree new values
          → L values ↔ (Q values × N values) → (Agree old values × P values) ↔ (Agree new values × N values)
      go values a b s = (
        λ x. (let y = a.0 x in let z = s.0 y.1 in (b.0 (y.0, z.0), z.1)),
        λ x. (let y = b.1 x.0 in a.1 (y.0, s.1 (y.1, x.1))),
      )

  pub left_fails : IsLeft P L old now → Settles Q now new false → Settles P old new false
  left_fails h s values l a p =
      let x = (h.1 values l).0 (a, p) in
      s values (l ∙ sym h.0) x.0 ((step values).0 x.1).0

module _ (P L : List ℕ → Type 0) (old now : List (Option ℕ)) where
  pub left_all : ((values : List ℕ) → L values) → IsLeft P L old now → Settles P old now true
  left_all all h values l = (λ x. ((h.1 values l).0 x).0, λ a. (h.1 values l).1 (a, all values))

  pub left_never : (new : List (Option ℕ)) → ((values : List ℕ) → L values → ⊥) → IsLeft P L old now → Settles P old new false
  left_never new never h values l a p = never values ((h.1 values l).0 (a, p)).1

pub left_none : (P : List ℕ → Type 0) (old : List (Option ℕ)) → IsLeft P P old old
left_none P old = (refl, λ values l. (λ x. x, λ x. x))

-- other words for what is asked
pub settles_as : (P Q : List ℕ → Type 0) (old new : List (Option ℕ)) (found : Bool) → ((values : List ℕ) → P values ↔ Q values)
    → Settles P old new found
    → Settles Q old new found
settles_as P Q old new true same s = λ values l. (
  λ x. (s values l).0 (x.0, (same values).1 x.1),
  λ a. (let x = (s values l).1 a in (x.0, (same values).0 x.1)),
)
settles_as P Q old new false same s = λ values l a q. s values l a ((same values).1 q)

-- an answer that is known beforehand
pub settles_known : (P : List ℕ → Type 0) (old : List (Option ℕ)) (found : Bool)
    → ((values : List ℕ) → length values ≡ length old → Agree old values → (found ≡ true → P values) × (P values → found ≡ true))
    → Settles P old old found
settles_known P old true h = λ values l. (λ x. x.0, λ a. (a, (h values l a).0 refl))
settles_known P old false h = λ values l a p. absurd (true≢false (sym ((h values l a).1 p)))

module _ (known : List (Option ℕ)) (k : ℕ) (l : k < length known) where
  -- the value is known already
  pub bound_known : (v x : ℕ) → get_or known k None ≡ Some v → Settles (λ values. get_or values k 0 ≡ x) known known (v == x)
  bound_known v x e = settles_known (λ values. get_or values k 0 ≡ x) known (v == x) (λ values n a. (
    λ t. is values a ∙ eqb-true v x t,
    λ f. eq-eqb v x (sym (is values a) ∙ f),
  ))
    where
      is : (values : List ℕ) → Agree known values → get_or values k 0 ≡ v
      is values a = agree_at known values k v a (slice_get-get_or known k None l ∙ ap Some e)

  -- it is known from now on
  pub bound_open : (x : ℕ) → get_or known k None ≡ None → Settles (λ values. get_or values k 0 ≡ x) known (set known k (Some x)) true
  bound_open x e = λ values n. agree_set known values k x (slice_get-get_or known k None l ∙ ap Some e)

module _ (terms : List Term) (objects : List ℕ) where
  abbrev pub TermsLeft : ℕ → List ℕ → Type 0
  TermsLeft i values = values_of values (drop i terms) ≡ drop i objects

  abbrev pub TermIs : Term → ℕ → List ℕ → Type 0
  TermIs t o values = value_of values t ≡ o

terms_step : (i : ℕ) (terms : List Term) (objects : List ℕ) (t : Term) (o : ℕ) → slice_get terms i ≡ Some t → slice_get objects i ≡ Some o
    → (values : List ℕ)
    → (values_of values (drop i terms) ≡ drop i objects) ↔ ((value_of values t ≡ o) ×
    (values_of values (drop (suc i) terms) ≡ drop (suc i) objects))
terms_step i [] objects t o e f values = absurd cc
terms_step i (s ∷ terms) [] t o e f values = absurd cc
terms_step zero (s ∷ terms) (p ∷ objects) t o e f values =
    let a : s ≡ t = cc in
    let b : p ≡ o = cc in
    subst (λ (z : Term). (values_of values (s ∷ terms) ≡ p ∷ objects) ↔ ((value_of values z ≡ o) × (values_of values terms ≡ objects))) a
    (subst (λ z. (values_of values (s ∷ terms) ≡ p ∷ objects) ↔ ((value_of values s ≡ z) × (values_of values terms ≡ objects))) b (
      λ g. (let x : value_of values s ≡ p = cc in x, let y : values_of values terms ≡ objects = cc in y),
      λ g. (λ j. g.0 j ∷ g.1 j),
    ))
terms_step (suc i) (s ∷ terms) (p ∷ objects) t o e f values = terms_step i terms objects t o e f values

pub terms_more : (i : ℕ) (terms : List Term) (objects : List ℕ) (t : Term) (o : ℕ) → slice_get terms i ≡ Some t
    → slice_get objects i ≡ Some o → (values : List ℕ)
    → TermsLeft terms objects i values ↔ ((value_of values t ≡ o) × TermsLeft terms objects (i + 1) values)
terms_more i terms objects t o e f values =
    let n : suc i ≡ i + 1 = omega arith in
    subst (λ j. TermsLeft terms objects i values ↔ ((value_of values t ≡ o) × TermsLeft terms objects j values)) n
    (terms_step i terms objects t o e f values)

pub terms_end : (i : ℕ) (terms : List Term) (objects : List ℕ) → length terms ≡ length objects → length terms ≤ i → (values : List ℕ)
    → TermsLeft terms objects i values
terms_end i [] [] e l values = nil i
  where
    nil : (i : ℕ) → values_of values (drop i []) ≡ drop i []
    nil zero = refl
    nil (suc i) = refl
terms_end i (t ∷ terms) [] e l values = absurd (omega arith)
terms_end i [] (o ∷ objects) e l values = absurd (omega arith)
terms_end zero (t ∷ terms) (o ∷ objects) e l values = absurd (omega arith)
terms_end (suc i) (t ∷ terms) (o ∷ objects) e l values = terms_end i terms objects (omega arith) (omega arith) values

length-values : (values : List ℕ) (terms : List Term) → length (values_of values terms) ≡ length terms
length-values values [] = refl
length-values values (t ∷ terms) = ap suc (length-values values terms)

-- lists of other lengths
pub terms_apart : (terms : List Term) (objects : List ℕ) (old new : List (Option ℕ)) → (length terms ≡ length objects → ⊥)
    → Settles (λ values. values_of values terms ≡ objects) old new false
terms_apart terms objects old new n values l a e = n (sym (length-values values terms) ∙ ap (λ (z : List ℕ). length z) e)
