-- The objects of types: those of their parts.
use Rattle.std.proofs.Common.{ℕ, ◌≡◌, ◌<◌, ◌^◌, ◌&&◌, ◌↔◌, ◌⊎◌, ◌++◌, inl, inr, true, false, Bool, cond, nat_lt, IsTrue, List, [], ◌∷◌, length, Contains, Some, None, refl, sym, subst, ◌∙◌, ap, arith, slice_get}
use Rattle.std.proofs.lemmas.Bool.{cases_lt, lt-ltb}
use Rattle.std.proofs.lemmas.List.{get_or_push, get_or_append_left, length-append}
use Rattle.std.proofs.lemmas.Option.{slice_get_within, slice_get-get_or, get_or_from_slice_get, slice_get_cases}
use Rattle.std.specs.Option.{option_and_then}
use Rattle.plan_model.specs.declared.types.Types.{Types}
use Rattle.plan_model.specs.declared.types.Object.{Object}
use Rattle.plan_model.specs.declared.parts.Parts.{Parts}
use Rattle.plan_model.specs.Parts.{has}
use Rattle.plan_model.specs.Typing.{IsPart, InType}
use Rattle.problem_index.specs.Domains.{ArePartsOf, among}
use Rattle.problem_index.specs.declared.kinds.Kind.{Kind}
use Rattle.problem_index.specs.Kinds.{IsDeclaredOf, AreByType, AreOfParts, IsOfParts, IsKind, AreInOrder}

among_one : (parts : Parts) (i x : ℕ) (o : Object) → among parts i o ≡ Some x → (i ≡ x) × IsTrue (has parts o.ty)
among_one parts i x o e = by (has parts o.ty) (nat_lt i (2 ^ 32)) e
  where
    by : (h l : Bool) → cond (h && l) (Some i) None ≡ Some x → (i ≡ x) × IsTrue h
    by true true e = (cc e, refl)
    by true false e = absurd (cc e)
    by false l e = absurd (cc e)

-- an object stands at its place among all objects, where it is declared of one of the parts
pub among_at : (objects : List Object) (parts : Parts) (x : ℕ) → length objects < 2 ^ 32
    → ((i : ℕ) × (i < length objects) × (option_and_then (among parts i) (slice_get objects i) ≡ Some x)) ↔ IsOfParts objects parts x
among_at objects parts x few = (λ t. there t.0 t.2, λ t. (x, slice_get_within objects x t.0 t.1, back t.0 t.1 t.2))
  where
    there : (i : ℕ) → option_and_then (among parts i) (slice_get objects i) ≡ Some x → IsOfParts objects parts x
    there i e = elim (slice_get_cases objects i).1 [
      | inl c ↦ (
          let one = among_one parts i x c.0 (sym (ap (option_and_then (among parts i)) c.2) ∙ e) in
          (c.0, subst (λ k. slice_get objects k ≡ Some c.0) one.0 c.2, one.1)
          )
      | inr c ↦ absurd (let g : None ≡ Some x = sym (ap (option_and_then (among parts i)) c.1) ∙ e in cc g)
    ]

    back : (o : Object) → slice_get objects x ≡ Some o → IsTrue (has parts o.ty) → option_and_then (among parts x) (slice_get objects x) ≡ Some x
    back o is h =
        let l : x < 2 ^ 32 = (let m = slice_get_within objects x o is in omega (arith, m, few)) in
        ap (option_and_then (among parts x)) is ∙ (ap (λ b. cond (b && nat_lt x (2 ^ 32)) (Some x) None) h ∙ ap (λ b. cond b (Some x) None) (lt-ltb x (2 ^ 32) l))

-- the objects of a list stand at its places
pub listed_at : (listed : List ℕ) (x : ℕ) → ((i : ℕ) × (i < length listed) × (slice_get listed i ≡ Some x)) ↔ Contains listed x
listed_at listed x = (
  λ t. (t.0, t.1, get_or_from_slice_get listed t.0 x x t.2),
  λ t. (t.0, t.1, slice_get-get_or listed t.0 x t.1 ∙ ap (λ z. Some z) t.2),
)

-- objects of the parts of a type are those in the type
pub of_parts : (types : Types) (objects : List Object) (ty : ℕ) (parts : Parts) → ArePartsOf types ty parts → (x : ℕ) → IsOfParts objects parts x ↔ InType types objects x ty
of_parts types objects ty parts p x = (λ t. (t.0, t.1, (p t.0.ty).0 t.2), λ t. (t.0, t.1, (p t.0.ty).1 t.2))

-- those of the lists of the parts are those of the parts
pub of_lists : (objects : List Object) (lists : List (List ℕ)) (parts : Parts) (listed : List ℕ) → AreByType objects lists → AreOfParts parts lists listed → (x : ℕ) → Contains listed x ↔ IsOfParts objects parts x
of_lists objects lists parts listed h l x = (
  λ c.
      let t = (l x).0 c in
      let d = (h.each t.0 x t.1).0 t.3 in
      (d.1.0, d.1.1, subst (λ ty. IsTrue (has parts ty)) (sym d.1.2) t.2),
  λ t.
      let d : IsDeclaredOf objects t.0.ty x = (t.0, t.1, refl) in
      let m = slice_get_within objects x t.0 t.1 in
      let w = h.all t.0.ty x m d in
      (l x).1 (t.0.ty, w, t.2, (h.each t.0.ty x w).1 (m, d)),
)

-- an object is in a type where its declared type is one of the parts
pub in_type_at : (types : Types) (objects : List Object) (parts : Parts) (x ty : ℕ) (object : Object) → ArePartsOf types ty parts → slice_get objects x ≡ Some object → IsTrue (has parts object.ty) ↔ InType types objects x ty
in_type_at types objects parts x ty object p at = (λ t. (object, at, (p object.ty).0 t), λ i. (p object.ty).1 (subst (λ (o : Object). IsPart types o.ty ty) (same (sym i.1 ∙ at)) i.2))
  where
    same : {a b : Object} → Some a ≡ Some b → a ≡ b
    same e = cc

-- an item of a list with one more is an old one, or the new one
push_cases : {X : Type 0} (xs : List X) (y x : X) (k : ℕ) → slice_get (xs ++ y ∷ []) k ≡ Some x → ((k < length xs) × (slice_get xs k ≡ Some x)) ⊎ ((k ≡ length xs) × (y ≡ x))
push_cases xs y x k e =
    let all = length-append xs (y ∷ []) in
    let l = slice_get_within (xs ++ y ∷ []) k x e in
    let is = get_or_from_slice_get (xs ++ y ∷ []) k x x e in
    elim (cases_lt k (length xs)) [
      | inl m ↦ inl (m, slice_get-get_or xs k x m ∙ ap (λ z. Some z) (sym (get_or_append_left xs (y ∷ []) x k m) ∙ is))
      | inr m ↦ (let at : k ≡ length xs = omega arith in inr (at, sym (get_or_push xs y x k (sym at)) ∙ is))
    ]

-- with what is known of one more type
pub kinds_more : (types : Types) (objects : List Object) (list : List Kind) (n : ℕ) (d : Kind) → length list ≡ n → ArePartsOf types n d.parts → IsKind objects d.parts d → AreInOrder types objects list → AreInOrder types objects (list ++ d ∷ [])
kinds_more types objects list n d l p q h k kind e = elim (push_cases list d kind k e) [
  | inl m ↦ h k kind m.1
  | inr m ↦ (let at : n ≡ k = omega (arith, l, m.0) in subst (λ (z : Kind). ArePartsOf types k z.parts × IsKind objects z.parts z) m.1 (subst (λ j. ArePartsOf types j d.parts) at p, q))
]
