-- The objects by their declared types, object by object, and those of parts, list by list.
use Rattle.std.proofs.Common.{ℕ, zero, suc, ◌≡◌, ◌+◌, ◌<◌, ◌++◌, ◌↔◌, ◌⊎◌, inl, inr, IsTrue, List, [], ◌∷◌, length, get_or, set, Contains, Some, slice_get, refl, sym, subst, ◌∙◌, ap, arith, length-set, get_or-set_other}
use Rattle.std.proofs.lemmas.Bool.{cases_eq, cases_lt}
use Rattle.std.proofs.lemmas.Grind.{get_or-set_at}
use Rattle.std.proofs.lemmas.List.Elements.{Contains-append_left, Contains-append_right, Contains-append_cases}
use Rattle.std.proofs.lemmas.Option.{slice_get-get_or, get_or_from_slice_get}
use Rattle.plan_model.specs.declared.types.Object.{Object}
use Rattle.plan_model.specs.declared.parts.Parts.{Parts}
use Rattle.plan_model.specs.Parts.{has}
use Rattle.problem_index.specs.Kinds.{IsDeclaredOf, AreFirstByType}

one_is : (n x : ℕ) → Contains (n ∷ []) x → n ≡ x
one_is n x (zero, l, e) = e
one_is n x (suc k, l, e) = absurd (omega arith)

is_one : (n x : ℕ) → n ≡ x → Contains (n ∷ []) x
is_one n x e = (0, omega arith, e)

-- below the next number a number is below this one, or it is this one
below : (x n : ℕ) → x < n + 1 → (x < n) ⊎ (n ≡ x)
below x n l = elim (cases_lt x n) [ inl m ↦ inl m | inr m ↦ inr (omega arith) ]

-- with one more object at the end of the list of its type
module _ (objects : List Object) (lists : List (List ℕ)) (n : ℕ) (o : Object) (new : List ℕ) (at : slice_get objects n ≡ Some o) (within : o.ty < length lists) (is : new ≡ get_or lists o.ty [] ++ n ∷ []) (h : AreFirstByType n objects lists) where
  declared : (ty x : ℕ) → IsDeclaredOf objects ty x → n ≡ x → o.ty ≡ ty
  declared ty x d e =
      let same : o ≡ d.0 = by (sym at ∙ (ap (slice_get objects) e ∙ d.1)) in
      ap (λ (z : Object). z.ty) same ∙ d.2
    where
      by : {a b : Object} → Some a ≡ Some b → a ≡ b
      by e = cc

  here : (x : ℕ) → Contains new x ↔ ((x < n + 1) × IsDeclaredOf objects o.ty x)
  here x = (
    λ c. elim (Contains-append_cases (get_or lists o.ty []) (n ∷ []) x (subst (λ l. Contains l x) is c)) [
      | inl a ↦ (let d = (h.each o.ty x within).0 a in (omega (arith, d.0), d.1))
      | inr a ↦ (let e = one_is n x a in (omega (arith, e), subst (IsDeclaredOf objects o.ty) e (o, at, refl)))
    ],
    λ t. subst (λ l. Contains l x) (sym is) (elim (below x n t.0) [
      | inl m ↦ Contains-append_left (get_or lists o.ty []) (n ∷ []) x ((h.each o.ty x within).1 (m, t.1))
      | inr e ↦ Contains-append_right (get_or lists o.ty []) (n ∷ []) x (is_one n x e)
    ]),
  )

  elsewhere : (ty x : ℕ) → ty < length lists → (ty ≡ o.ty → ⊥) → Contains (get_or lists ty []) x ↔ ((x < n + 1) × IsDeclaredOf objects ty x)
  elsewhere ty x l other = (
    λ c. let d = (h.each ty x l).0 c in (omega (arith, d.0), d.1),
    λ t. elim (below x n t.0) [
      | inl m ↦ (h.each ty x l).1 (m, t.1)
      | inr e ↦ absurd (other (sym (declared ty x t.1 e)))
    ],
  )

  pub by_type_more : AreFirstByType (n + 1) objects (set lists o.ty new)
  by_type_more = record {
    each = λ ty x l. elim (cases_eq ty o.ty) [
      | inl e ↦ subst (λ list. Contains list x ↔ ((x < n + 1) × IsDeclaredOf objects ty x)) (sym (get_or-set_at lists o.ty ty new [] e within)) (subst (λ t. Contains new x ↔ ((x < n + 1) × IsDeclaredOf objects t x)) (sym e) (here x))
      | inr e ↦ subst (λ list. Contains list x ↔ ((x < n + 1) × IsDeclaredOf objects ty x)) (sym (get_or-set_other lists o.ty ty new [] e)) (elsewhere ty x (let s = length-set lists o.ty new in omega (arith, l, s)) e)
    ];
    all = λ ty x l d.
        let s = length-set lists o.ty new in
        elim (below x n l) [
          | inl m ↦ (let a = h.all ty x m d in omega (arith, a, s))
          | inr e ↦ (let t = declared ty x d e in omega (arith, within, t, s))
        ];
  }

module _ (parts : Parts) (lists : List (List ℕ)) where
  abbrev pub OfSome : ℕ → ℕ → Type 0
  OfSome n x = (ty : ℕ) × (ty < n) × IsTrue (has parts ty) × Contains (get_or lists ty []) x

  -- with those of one more list, which is that of a part
  pub listed_more : (n : ℕ) (old new of d : List ℕ) → n < length lists → of ≡ get_or lists n d → IsTrue (has parts n) → new ≡ old ++ of → ((x : ℕ) → Contains old x ↔ OfSome n x) → (x : ℕ) → Contains new x ↔ OfSome (n + 1) x
  listed_more n old new of d within of-is part is h x =
      let at : of ≡ get_or lists n [] = of-is ∙ sym (get_or_from_slice_get lists n (get_or lists n d) [] (slice_get-get_or lists n d within)) in (
        λ c. elim (Contains-append_cases old of x (subst (λ l. Contains l x) is c)) [
          | inl a ↦ (let t = (h x).0 a in (t.0, (let l = t.1 in omega (arith, l)), t.2, t.3))
          | inr a ↦ (n, omega arith, part, subst (λ l. Contains l x) at a)
        ],
        λ t. subst (λ l. Contains l x) (sym is) (elim (below t.0 n t.1) [
          | inl m ↦ Contains-append_left old of x ((h x).1 (t.0, m, t.2, t.3))
          | inr e ↦ Contains-append_right old of x (subst (λ l. Contains l x) (sym (at ∙ ap (λ k. get_or lists k []) e)) t.3)
        ]),
      )

  -- one more list is that of another type
  pub listed_same : (n : ℕ) (old : List ℕ) → (IsTrue (has parts n) → ⊥) → ((x : ℕ) → Contains old x ↔ OfSome n x) → (x : ℕ) → Contains old x ↔ OfSome (n + 1) x
  listed_same n old other h x = (
    λ c. let t = (h x).0 c in (t.0, (let l = t.1 in omega (arith, l)), t.2, t.3),
    λ t. elim (below t.0 n t.1) [
      | inl m ↦ (h x).1 (t.0, m, t.2, t.3)
      | inr e ↦ absurd (other (subst (λ k. IsTrue (has parts k)) (sym e) t.2))
    ],
  )
