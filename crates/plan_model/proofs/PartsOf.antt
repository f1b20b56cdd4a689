-- What the marks of a type's parts say: they are its parts.
use Rattle.std.proofs.Common.{ℕ, ◌≡◌, ◌<◌, ◌≤◌, ◌↔◌, ◌⊎◌, ◌||◌, ◌==◌, inl, inr, List, length, Bool, true, false, IsTrue, get_or, refl, sym, subst, ap, ◌∙◌, arith, All, Contains, Option, Some, None, slice_get, MatchOption, nat_lt, if◌then◌else◌, ◌-◌, [], ◌∷◌, replicate, zero, suc}
use Rattle.std.proofs.lemmas.Bool.{cases_lt, or_cases, false≢true, eqb-true, eq-eqb}
use Rattle.std.proofs.Math.Bool.{or-true}
use Rattle.std.proofs.lemmas.List.Elements.{All-contains}
use Rattle.std.proofs.lemmas.Option.{slice_get_within, slice_get-get_or, get_or_from_slice_get}
use Rattle.plan_model.specs.declared.types.Parent.{Parent}
use Rattle.plan_model.specs.declared.types.Object.{Object}
use Rattle.plan_model.specs.declared.types.Types.{Types}
use Rattle.plan_model.specs.declared.parts.Parts.{Parts}
use Rattle.plan_model.specs.Typing.{Leads, stay, climb, union_at, IsPart, IsA, InType}
use Rattle.plan_model.specs.Parts.{has, IsMarked, IsMarkedFurther, IsClosedUnder, AreListed, AreListedParents}
use Rattle.plan_model.proofs.Marks.{AreBelow, marked_within, further_none, further_twice, below}

abbrev pub IsMemberAt : Types → ℕ → ℕ → Type 0
IsMemberAt types of ty = (members : List ℕ) × (union_at types of ≡ Some members) × Contains members ty

-- the type itself and the types of the union are marked
abbrev pub IsStart : Types → ℕ → List Bool → Type 0
IsStart types of marks = (ty : ℕ) → ty < 1024 → IsMarked marks ty ↔ ((ty ≡ of) ⊎ IsMemberAt types of ty)

-- a chain from a number past all types stays there
pub leads_out : (count : ℕ) (parents : List Parent) → AreListedParents count parents → {i j : ℕ} → Leads parents i j → count ≤ i → i ≡ j
leads_out count parents listed stay l = refl
leads_out count parents listed (climb c rest) l = absurd (let b = (All-contains (λ (p : Parent). (p.child < count) × (p.parent < count)) parents _ listed c).0 in omega arith)

-- a chain to a number past all types begins there
pub leads_past : (count : ℕ) (parents : List Parent) → AreListedParents count parents → {i j : ℕ} → Leads parents i j → count ≤ j → i ≡ j
leads_past count parents listed stay l = refl
leads_past count parents listed (climb c rest) l =
    let e = leads_past count parents listed rest l in
    absurd (let b = (All-contains (λ (p : Parent). (p.child < count) × (p.parent < count)) parents _ listed c).1 in omega arith)

union_by : (b : Bool) (ms : Option (List ℕ)) (members : List ℕ) → (if b then None else ms) ≡ Some members → ms ≡ Some members
union_by true ms members e = absurd (cc e)
union_by false ms members e = e

-- the types of a union are listed
pub members_listed : (types : Types) → AreListed types → (of : ℕ) (members : List ℕ) → union_at types of ≡ Some members → All (λ member. member < length types.names) members
members_listed types listed of members e =
    let is = union_by (nat_lt of (length types.names)) (slice_get types.unions (of - length types.names)) members e in
    All-contains (All (λ member. member < length types.names)) types.unions members listed.unions (of - length types.names, slice_get_within types.unions (of - length types.names) members is, get_or_from_slice_get types.unions (of - length types.names) members members is)

module _ (types : Types) (of : ℕ) (first marks : List Bool) (room : length first ≡ 1024) (listed : AreListed types) (start : IsStart types of first) (below : AreBelow types.parents first marks) where
  abbrev parts : Parts
  parts = record { of = of; whole = get_or first 0 false; marks = marks }

  -- a marked type leads to the type itself or to one of the union's
  up_from : (ty j : ℕ) → IsMarked first j → Leads types.parents ty j → IsPart types ty of
  up_from ty j m leads = elim ((start j (let l = marked_within first j m in omega (arith, room))).0 m) [
    | inl e ↦ inl (inr (subst (Leads types.parents ty) e leads))
    | inr u ↦ inr (u.0, u.1, (u.2.0, j, u.2.1, u.2.2, inr leads))
  ]

  whole_part : (ty : ℕ) → IsMarked first 0 → IsPart types ty of
  whole_part ty m = elim ((start 0 (omega arith)).0 m) [
    | inl e ↦ inl (inl (sym e))
    | inr u ↦ inr (u.0, u.1, (u.2.0, 0, u.2.1, u.2.2, inl refl))
  ]

  first_of : 0 ≡ of → IsMarked first 0
  first_of e = (start 0 (omega arith)).1 (inl e)

  is_has : (ty : ℕ) → IsTrue (has parts ty) → IsPart types ty of
  is_has ty t = elim (or_cases (parts.whole || (ty == of)) (get_or marks ty false) t) [
    | inl a ↦ elim (or_cases parts.whole (ty == of) a) [
      | inl m ↦ whole_part ty m
      | inr e ↦ inl (inr (subst (Leads types.parents ty) (eqb-true ty of e) stay))
    ]
    | inr m ↦ up_from ty ((below ty).0 m).0 ((below ty).0 m).1 ((below ty).0 m).2
  ]

  by_whole : (ty : ℕ) → IsMarked first 0 → IsTrue (has parts ty)
  by_whole ty m = ap (λ b. b || (ty == of) || get_or marks ty false) m

  by_mark : (ty : ℕ) → IsMarked marks ty → IsTrue (has parts ty)
  by_mark ty m = ap (λ b. parts.whole || (ty == of) || b) m ∙ or-true (parts.whole || (ty == of))

  by_itself : (ty : ℕ) → ty ≡ of → IsTrue (has parts ty)
  by_itself ty e = ap (λ b. parts.whole || b || get_or marks ty false) (eq-eqb ty of e) ∙ ap (λ b. b || get_or marks ty false) (or-true parts.whole)

  by_leads : (ty j : ℕ) → ((j ≡ of) ⊎ IsMemberAt types of j) → j < 1024 → Leads types.parents ty j → IsTrue (has parts ty)
  by_leads ty j s l leads = by_mark ty ((below ty).1 (j, (start j l).1 s, leads))

  member_within : (members : List ℕ) → union_at types of ≡ Some members → (j : ℕ) → Contains members j → j < 1024
  member_within members e j c = let l = All-contains (λ member. member < length types.names) members j (members_listed types listed of members e) c in let f = listed.few in omega arith

  has_is : (ty : ℕ) → IsPart types ty of → IsTrue (has parts ty)
  has_is ty (inl (inl e)) = by_whole ty (first_of (sym e))
  has_is ty (inl (inr leads)) = elim (cases_lt of 1024) [
    | inl l ↦ by_leads ty of (inl refl) l leads
    | inr l ↦ by_itself ty (leads_past (length types.names) types.parents listed.parents leads (let f = listed.few in omega arith))
  ]
  has_is ty (inr (members, e, (k, j, l, is, inl z))) = by_whole ty ((start 0 (omega arith)).1 (inr (members, e, subst (Contains members) z (k, l, is))))
  has_is ty (inr (members, e, (k, j, l, is, inr leads))) = by_leads ty j (inr (members, e, (k, l, is))) (member_within members e j (k, l, is)) leads

  pub parts_are : (ty : ℕ) → IsTrue (has parts ty) ↔ IsPart types ty of
  parts_are ty = (is_has ty, has_is ty)

-- the first marks are of the type and of the union's types, and these are their further ones
pub record AreMarkedFrom (types : Types) (of : ℕ) (whole : Bool) (marks : List Bool) : Type 0 where
  pub first : List Bool
  pub room : length first ≡ 1024
  pub start : IsStart types of first
  pub whole_is : whole ≡ get_or first 0 false
  pub further : IsMarkedFurther types.parents first marks

pub marked_start : (types : Types) (of : ℕ) (marks : List Bool) → (length marks ≡ 1024) × IsStart types of marks → AreMarkedFrom types of (get_or marks 0 false) marks
marked_start types of marks is = record { first = marks; room = is.0; start = is.1; whole_is = refl; further = further_none types.parents marks }

pub marked_further : (types : Types) (of : ℕ) (whole : Bool) (marks new : List Bool) → AreMarkedFrom types of whole marks → IsMarkedFurther types.parents marks new → AreMarkedFrom types of whole new
marked_further types of whole marks new h f = record { first = h.first; room = h.room; start = h.start; whole_is = h.whole_is; further = further_twice types.parents h.first marks new h.further f }

-- where they are closed, they are all parts
pub marked_parts : (types : Types) (of : ℕ) (whole : Bool) (marks : List Bool) → AreListed types → AreMarkedFrom types of whole marks → IsClosedUnder types.parents marks
    → (ty : ℕ) → IsTrue (has (record { of = of; whole = whole; marks = marks }) ty) ↔ IsPart types ty of
marked_parts types of whole marks listed h closed =
    subst (λ b. (ty : ℕ) → IsTrue (has (record { of = of; whole = b; marks = marks }) ty) ↔ IsPart types ty of) (sym h.whole_is)
    (parts_are types of h.first marks h.room listed h.start (below types.parents h.first marks h.further closed))

none_marked : (n i : ℕ) → IsMarked (replicate n false) i → ⊥
none_marked zero i m = absurd (false≢true m)
none_marked (suc n) zero m = absurd (false≢true m)
none_marked (suc n) (suc i) m = none_marked n i m

one_is : (of i : ℕ) → Contains (of ∷ []) i → i ≡ of
one_is of i (zero, l, e) = sym e
one_is of i (suc k, l, e) = absurd (omega arith)

-- the first marks: that of the type alone
alone : (of : ℕ) (first : List Bool) → ((i : ℕ) → i < 1024 → IsMarked first i ↔ (IsMarked (replicate 1024 false) i ⊎ Contains (of ∷ []) i)) → (i : ℕ) → i < 1024 → IsMarked first i ↔ (i ≡ of)
alone of first a i l = (
  λ m. elim ((a i l).0 m) [ inl n ↦ absurd (none_marked 1024 i n) | inr c ↦ one_is of i c ],
  λ e. (a i l).1 (inr (0, omega arith, sym e)),
)

pub start_alone : (types : Types) (of : ℕ) (first : List Bool) → None ≡ union_at types of
    → ((i : ℕ) → i < 1024 → IsMarked first i ↔ (IsMarked (replicate 1024 false) i ⊎ Contains (of ∷ []) i)) → IsStart types of first
start_alone types of first u a i l = (
  λ m. inl ((alone of first a i l).0 m),
  λ t. elim t [ inl e ↦ (alone of first a i l).1 e | inr c ↦ absurd (cc (u, c.1)) ],
)

pub start_of : (types : Types) (of : ℕ) (first second : List Bool) (members : List ℕ) → Some members ≡ union_at types of
    → ((i : ℕ) → i < 1024 → IsMarked first i ↔ (IsMarked (replicate 1024 false) i ⊎ Contains (of ∷ []) i))
    → ((i : ℕ) → i < 1024 → IsMarked second i ↔ (IsMarked first i ⊎ Contains members i)) → IsStart types of second
start_of types of first second members u a b i l = (
  λ m. elim ((b i l).0 m) [ inl n ↦ inl ((alone of first a i l).0 n) | inr c ↦ inr (members, sym u, c) ],
  λ t. elim t [
    | inl e ↦ (b i l).1 (inl ((alone of first a i l).1 e))
    | inr c ↦ (b i l).1 (inr (subst (λ ms. Contains ms i) (let e : c.0 ≡ members = cc (u, c.1) in e) c.2))
  ],
)

pub is_a_union : (types : Types) (ty of : ℕ) (those : Parts) → ((t : ℕ) → IsTrue (has those t) ↔ IsPart types t of) → (members : List ℕ) → Some members ≡ union_at types ty
    → (r : Bool) → IsTrue r ↔ All (λ t. IsTrue (has those t)) members → IsTrue r ↔ IsA types ty of
is_a_union types ty of those is members e r all =
    subst (λ o. IsTrue r ↔ MatchOption o (IsPart types ty of) (λ ms. All (λ m. IsPart types m of) ms)) e
    ((λ t k d l. (is (get_or members k d)).0 (all.0 t k d l)), (λ a. all.1 (λ k d l. (is (get_or members k d)).1 (a k d l))))

-- an object is in a type where its declared type is a part of it
pub in_type_at : (types : Types) (objects : List Object) (ty k : ℕ) (d : Object) → k < length objects → InType types objects k ty ↔ IsPart types (get_or objects k d).ty ty
in_type_at types objects ty k d l =
    let is = slice_get-get_or objects k d l in (
      λ t. let e : t.0 ≡ get_or objects k d = cc (is, t.1) in subst (λ (o : Object). IsPart types o.ty ty) e t.2,
      λ p. (get_or objects k d, is, p),
    )

pub in_type_within : (types : Types) (objects : List Object) (ty k : ℕ) → InType types objects k ty → k < length objects
in_type_within types objects ty k t = slice_get_within objects k t.0 t.1
