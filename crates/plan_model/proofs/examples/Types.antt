-- Objects and types, worked out: `red - block`, `block` and `city`, and the union `(either red city)`.
use Rattle.std.proofs.Common.{◌≡◌, ℕ, zero, suc, List, [], ◌∷◌, None, Some, Contains, ◌⊎◌, inl, inr, refl, arith, ◌≤◌, lit<, true, false, sym, ap}
use Rattle.plan_model.specs.declared.types.Types.{Types}
use Rattle.plan_model.specs.declared.types.Object.{Object}
use Rattle.plan_model.specs.Typing.{Leads, stay, climb, union_at, InType, IsA}

-- the types are object 0, block 1, red 2 and city 3, and the union is 4
abbrev types : Types
types = record {
  names = record { number = 0 } ∷ record { number = 1 } ∷ record { number = 2 } ∷ record { number = 3 } ∷ [];
  parents = record { child = 1; parent = 0 } ∷ record { child = 2; parent = 1 } ∷ record { child = 3; parent = 0 } ∷ [];
  unions = (2 ∷ 3 ∷ []) ∷ [];
}

-- the objects are the block b 0, the red block r 1 and the city c 2
abbrev objects : List Object
objects =
    record { name = record { number = 4 }; ty = 1; constant = false } ∷
    record { name = record { number = 5 }; ty = 2; constant = false } ∷
    record { name = record { number = 6 }; ty = 3; constant = true } ∷ []

city_is_no_union : union_at types 3 ≡ None
city_is_no_union = refl

the_union : union_at types 4 ≡ Some (2 ∷ 3 ∷ [])
the_union = refl

no_type : union_at types 5 ≡ None
no_type = refl

a_chain : Leads types.parents 2 1
a_chain = climb (1, lit< tt, refl) stay

r_is_a_block : InType types objects 1 1
r_is_a_block = (_, refl, inl (inr (climb (1, lit< tt, refl) stay)))

c_is_an_object : InType types objects 2 0
c_is_an_object = (_, refl, inl (inl refl))

c_is_in_the_union : InType types objects 2 4
c_is_in_the_union = (_, refl, inr (2 ∷ 3 ∷ [], refl, (1, 3, lit< tt, refl, inr stay)))

nothing_else_is_an_object : InType types objects 3 0 → ⊥
nothing_else_is_an_object (object, at, part) = cc

listed : {ty parent : ℕ} → Contains types.parents (record { child = ty; parent = parent }) → ((ty ≡ 1) × (parent ≡ 0)) ⊎ (((ty ≡ 2) × (parent ≡ 1)) ⊎ ((ty ≡ 3) × (parent ≡ 0)))
listed (zero, below, e) = inl (ap (λ p. p.child) (sym e), ap (λ p. p.parent) (sym e))
listed (suc zero, below, e) = inr (inl (ap (λ p. p.child) (sym e), ap (λ p. p.parent) (sym e)))
listed (suc (suc zero), below, e) = inr (inr (ap (λ p. p.child) (sym e), ap (λ p. p.parent) (sym e)))
listed (suc (suc (suc k)), below, e) = absurd (omega arith)

above_object : {ty of : ℕ} → Leads types.parents ty of → ty ≡ 0 → of ≡ 0
above_object stay e = e
above_object (climb pair rest) e = elim (listed pair) [ inl p ↦ absurd (omega arith) | inr (inl p) ↦ absurd (omega arith) | inr (inr p) ↦ absurd (omega arith) ]

above_block : {ty of : ℕ} → Leads types.parents ty of → ty ≡ 1 → of ≤ 1
above_block stay e = omega arith
above_block (climb pair rest) e =
    elim (listed pair) [ inl p ↦ (let top = above_object rest p.1 in omega arith) | inr (inl p) ↦ absurd (omega arith) | inr (inr p) ↦ absurd (omega arith) ]

b_is_not_red : InType types objects 0 2 → ⊥
b_is_not_red (object, at, inl (inl e)) = omega arith
b_is_not_red (object, at, inl (inr leads)) =
    let declared : object.ty ≡ 1 = cc in
    let low = above_block leads declared in
    omega arith
b_is_not_red (object, at, inr (members, union, part)) = cc

the_union_is_a_part_of_object : IsA types 4 0
the_union_is_a_part_of_object = λ k member below. inl (inl refl)

red_is_a_part_of_the_union : IsA types 2 4
red_is_a_part_of_the_union = inr (2 ∷ 3 ∷ [], refl, (0, 2, lit< tt, refl, inr stay))
