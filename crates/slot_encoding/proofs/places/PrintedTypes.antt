-- The types of the printed problem: which type is a part of which.
use Rattle.std.proofs.Common.{ℕ, zero, suc, ◌≡◌, ◌+◌, ◌-◌, ◌<◌, ◌≤◌, ◌⊎◌, ◌↔◌, inl, inr, nat_lt, false, if◌then◌else◌, List, [], ◌∷◌, map, length, slice_get, Option, Some, None, refl, ap, sym, subst, ◌∙◌, Contains, arith}
use Rattle.std.specs.Option.{option_map}
use Rattle.std.proofs.lemmas.List.{length-map}
use Rattle.std.proofs.lemmas.Option.{slice_get-map}
use Rattle.htn_base.specs.declared.name.Name.{Name}
use Rattle.plan_model.specs.declared.types.Parent.{Parent}
use Rattle.plan_model.specs.declared.types.Types.{Types}
use Rattle.plan_model.specs.declared.values.Compiled.{Compiled}
use Rattle.plan_model.specs.Typing.{Leads, stay, climb, union_at, IsBelow, IsPart}
use Rattle.plan_model.proofs.task_networks.Lists.{not-in_empty, head_or_tail, Contains-later}
use Rattle.std.specs.Prelude.{Any}
use Rattle.plan_texts.specs.Types.{Has}
use Rattle.std.proofs.str.Laws.{order}
use Rattle.plan_texts.proofs.Members.{has-to_map, has-of_map}
use Rattle.slot_encoding.proofs.places.Places.{any-has, has-any}
use Rattle.slot_encoding.specs.SourceParts.{renamed, retyped}
use Rattle.slot_encoding.specs.EncodedNames.{encoded_types}
use Rattle.plan_model.proofs.plan_meaning.Pairs.{map_to}
use Rattle.plan_model.proofs.plan_meaning.examples.Unequal.{to_lt}
use Rattle.slot_encoding.proofs.places.TypeChains.{first_pair, climb_by}

pub to_not_lt : (a b : ℕ) → b ≤ a → nat_lt a b ≡ false
to_not_lt a b l = grind (arith, l)

pub union_none : (types : Types) (ty : ℕ) → ty < length types.names → union_at types ty ≡ None
union_none types ty l = ap (λ z. if z then None else slice_get types.unions (ty - length types.names)) (to_lt ty (length types.names) l)

union_some : (types : Types) (ty : ℕ) → length types.names ≤ ty → union_at types ty ≡ slice_get types.unions (ty - length types.names)
union_some types ty l = ap (λ z. if z then None else slice_get types.unions (ty - length types.names)) (to_not_lt ty (length types.names) l)

retyped_least : (t : ℕ) → 2 ≤ retyped t
retyped_least zero = omega arith
retyped_least (suc t) = omega arith

pub retyped_once : (s t : ℕ) → retyped s ≡ retyped t → s ≡ t
retyped_once zero zero e = refl
retyped_once zero (suc t) e = absurd (omega arith)
retyped_once (suc s) zero e = absurd (omega arith)
retyped_once (suc s) (suc t) e = omega arith

abbrev pub retyped_pair : Parent → Parent
retyped_pair x = record { child = retyped x.child; parent = retyped x.parent }

abbrev pub slot_pair : Parent
slot_pair = record { child = 1; parent = 0 }

abbrev pub object_pair : Parent
object_pair = record { child = 2; parent = 0 }

abbrev pub printed_parents : List Parent → List Parent
printed_parents parents = slot_pair ∷ object_pair ∷ map retyped_pair parents

module _ (parents : List Parent) where
  -- a pair of the printed types: of the two generated ones, or of the source
  pair_cases : (x : Parent) → Contains (printed_parents parents) x → ((x.child ≤ 2) × (1 ≤ x.child) × (x.parent ≡ 0)) ⊎ ((y : Parent) × Contains parents y × (retyped y.child ≡ x.child) × (retyped y.parent ≡ x.parent))
  pair_cases x c = elim (head_or_tail slot_pair (object_pair ∷ map retyped_pair parents) x c) [
    | inl e ↦ inl (of_first slot_pair e (omega arith) (omega arith) refl)
    | inr d ↦ elim (head_or_tail object_pair (map retyped_pair parents) x d) [
      | inl e ↦ inl (of_first object_pair e (omega arith) (omega arith) refl)
      | inr k ↦ inr (let (y, m, e) = map_to retyped_pair parents x k in (y, m, ap (λ (z : Parent). z.child) e, ap (λ (z : Parent). z.parent) e))
    ]
  ]
    where
      of_first : (y : Parent) → y ≡ x → y.child ≤ 2 → 1 ≤ y.child → y.parent ≡ 0 → (x.child ≤ 2) × (1 ≤ x.child) × (x.parent ≡ 0)
      of_first y e i j f = subst (λ (z : Parent). (z.child ≤ 2) × (1 ≤ z.child) × (z.parent ≡ 0)) e (i, j, f)

  -- no chain leads on from object
  pub from_printed_object : (t : ℕ) → Leads (printed_parents parents) 0 t → t ≡ 0
  from_printed_object t l = elim (first_pair (printed_parents parents) 0 t l) [
    | inl e ↦ sym e
    | inr (x, c, e, m) ↦ absurd (elim (pair_cases x c) [ inl (a, z, f) ↦ omega arith | inr (y, d, f, g) ↦ (let h = retyped_least y.child in omega arith) ])
  ]

  -- from the type of slots one leads to object alone
  from_slot : (t : ℕ) → Leads (printed_parents parents) 1 t → (t ≡ 1) ⊎ (t ≡ 0)
  from_slot t l = elim (first_pair (printed_parents parents) 1 t l) [
    | inl e ↦ inl (sym e)
    | inr (x, c, e, m) ↦ elim (pair_cases x c) [
      | inl (a, z, f) ↦ inr (from_printed_object t (subst (λ z. Leads (printed_parents parents) z t) f m))
      | inr (y, d, f, g) ↦ absurd (let h = retyped_least y.child in omega arith)
    ]
  ]

  -- from a source type a chain leads to object or is one of the source
  pub from_retyped : (s t a : ℕ) → Leads (printed_parents parents) s t → s ≡ retyped a → (t ≡ 0) ⊎ ((u : ℕ) × (t ≡ retyped u) × Leads parents a u)
  from_retyped s t a stay e = inr (a, e, stay)
  from_retyped s t a (climb {ty} {parent} {of} c l) e = elim (pair_cases (record { child = ty; parent = parent }) c) [
    | inl (i, j, f) ↦ inl (from_printed_object of (subst (λ z. Leads (printed_parents parents) z of) f l))
    | inr (y, d, f, g) ↦ elim (from_retyped parent of y.parent l (sym g)) [
      | inl h ↦ inl h
      | inr (u, h, m) ↦ inr (u, h, climb_by parents a u y d (retyped_once y.child a (f ∙ e)) m)
    ]
  ]

  to_retyped : (a t : ℕ) → Leads parents a t → Leads (printed_parents parents) (retyped a) (retyped t)
  to_retyped a t (stay {ty}) = stay
  to_retyped a t (climb {ty} {parent} {of} c l) =
      let x = retyped_pair (record { child = ty; parent = parent }) in
      let d = in_map parents (record { child = ty; parent = parent }) c in
      climb (Contains-later slot_pair (object_pair ∷ map retyped_pair parents) x (Contains-later object_pair (map retyped_pair parents) x d)) (to_retyped parent of l)
    where
      in_map : (xs : List Parent) (y : Parent) → Contains xs y → Contains (map retyped_pair xs) (retyped_pair y)
      in_map [] y c = absurd (not-in_empty y c)
      in_map (x ∷ xs) y (zero, m, e) = (0, omega arith, ap retyped_pair e)
      in_map (x ∷ xs) y (suc k, m, e) = Contains-later (retyped_pair x) (map retyped_pair xs) (retyped_pair y) (in_map xs y (k, omega arith, e))

module _ (c : Compiled) (names : List (List ℕ)) (b : ℕ) (some_type : 0 < length c.hddl.types.names) where
  abbrev source : Types
  source = c.hddl.types

  abbrev printed : Types
  printed = encoded_types c names b

  abbrev with_names : List Name → Compiled
  with_names ns = record c { hddl = record c.hddl { types = record c.hddl.types { names = ns } } }

  pub length-names : length printed.names ≡ length source.names + 2
  length-names = go source.names some_type
    where
      go : (ns : List Name) → 0 < length ns → length (encoded_types (with_names ns) names b).names ≡ length ns + 2
      go [] l = absurd (omega arith)
      go (n ∷ ns) l = let h = length-map ns (λ (x : Name). renamed names c.hddl.names x) in omega (arith, h)

  retyped_range : (t : ℕ) → (retyped t < length printed.names) ↔ (t < length source.names)
  retyped_range zero = let h = length-names in (λ l. some_type, λ l. omega arith)
  retyped_range (suc t) = let h = length-names in (λ l. omega arith, λ l. omega arith)

  -- a union of the source has its types retyped
  union-printed : (t : ℕ) → union_at printed (retyped t) ≡ option_map (map retyped) (union_at source t)
  union-printed t = elim (order t (length source.names)) [
    | inl l ↦ union_none printed (retyped t) ((retyped_range t).1 l) ∙ ap (option_map (map retyped)) (sym (union_none source t l))
    | inr l ↦ behind t l
  ]
    where
      behind : (t : ℕ) → length source.names ≤ t → union_at printed (retyped t) ≡ option_map (map retyped) (union_at source t)
      behind zero l = absurd (omega arith)
      behind (suc t) l =
          let h = length-names in
          let n : retyped (suc t) - length printed.names ≡ suc t - length source.names = omega arith in
          union_some printed (retyped (suc t)) (omega arith) ∙ ap (slice_get printed.unions) n ∙ slice_get-map (map retyped) source.unions (suc t - length source.names) ∙ ap (option_map (map retyped)) (sym (union_some source (suc t) l))

  -- the type of slots is no union
  slot_type_alone : union_at printed 1 ≡ None
  slot_type_alone = let h = length-names in union_none printed 1 (omega arith)

  below_to : (a t : ℕ) → IsBelow printed (retyped a) (retyped t) → IsBelow source a t
  below_to a t (inl e) = absurd (let h = retyped_least t in omega arith)
  below_to a t (inr l) = elim (from_retyped source.parents (retyped a) (retyped t) a l refl) [
    | inl e ↦ absurd (let h = retyped_least t in omega arith)
    | inr (u, e, m) ↦ inr (subst (Leads source.parents a) (sym (retyped_once t u e)) m)
  ]

  pub part_to : (a t : ℕ) → IsPart printed (retyped a) (retyped t) → IsPart source a t
  part_to a t (inl h) = inl (below_to a t h)
  part_to a t (inr (members, e, any)) = inr (go (union_at source t) refl)
    where
      found : (ms : List ℕ) → map retyped ms ≡ members → Any (IsBelow source a) ms
      found ms f =
          let (m, has, below) = any-has (IsBelow printed (retyped a)) members any in
          let (k, has', g) = has-of_map retyped ms m (subst (λ z. Has z m) (sym f) has) in
          has-any (IsBelow source a) ms k has' (below_to a k (subst (IsBelow printed (retyped a)) (sym g) below))

      go : (o : Option (List ℕ)) → union_at source t ≡ o → (ms : List ℕ) × (union_at source t ≡ Some ms) × Any (IsBelow source a) ms
      go None f = absurd (let g : Some members ≡ None = sym e ∙ union-printed t ∙ ap (option_map (map retyped)) f in cc)
      go (Some ms) f = (ms, f, found ms (let g : Some members ≡ Some (map retyped ms) = sym e ∙ union-printed t ∙ ap (option_map (map retyped)) f in cc))

  below_from : (a t : ℕ) → Leads source.parents a 0 → IsBelow source a t → IsBelow printed (retyped a) (retyped t)
  below_from a t top (inl e) = inr (to_retyped source.parents a t (subst (Leads source.parents a) (sym e) top))
  below_from a t top (inr l) = inr (to_retyped source.parents a t l)

  pub part_from : (a t : ℕ) → Leads source.parents a 0 → IsPart source a t → IsPart printed (retyped a) (retyped t)
  part_from a t top (inl h) = inl (below_from a t top h)
  part_from a t top (inr (members, e, any)) =
      let (m, has, below) = any-has (IsBelow source a) members any in
      inr (map retyped members, union-printed t ∙ ap (option_map (map retyped)) e, has-any (IsBelow printed (retyped a)) (map retyped members) (retyped m) (has-to_map retyped members m has) (below_from a m top below))

  slot_below : (t : ℕ) → IsBelow printed 1 (retyped t) → ⊥
  slot_below t (inl e) = let h = retyped_least t in omega arith
  slot_below t (inr l) = elim (from_slot source.parents (retyped t) l) [ inl e ↦ (let h = retyped_least t in omega arith) | inr e ↦ (let h = retyped_least t in omega arith) ]

  -- the type of slots is a part of no source type
  pub slot_apart : (t : ℕ) → IsPart printed 1 (retyped t) → ⊥
  slot_apart t (inl h) = slot_below t h
  slot_apart t (inr (members, e, any)) = go (union_at source t) refl
    where
      go : (o : Option (List ℕ)) → union_at source t ≡ o → ⊥
      go None f = let g : Some members ≡ None = sym e ∙ union-printed t ∙ ap (option_map (map retyped)) f in cc
      go (Some ms) f =
          let g : Some members ≡ Some (map retyped ms) = sym e ∙ union-printed t ∙ ap (option_map (map retyped)) f in
          let i : members ≡ map retyped ms = cc in
          let (m, has, below) = any-has (IsBelow printed 1) members any in
          let (k, has', j) = has-of_map retyped ms m (subst (λ z. Has z m) i has) in
          slot_below k (subst (IsBelow printed 1) (sym j) below)

  -- and no source type is a part of that of slots
  pub apart_from_slots : (a : ℕ) → IsPart printed (retyped a) 1 → ⊥
  apart_from_slots a (inl (inl e)) = cc
  apart_from_slots a (inl (inr l)) = elim (from_retyped source.parents (retyped a) 1 a l refl) [ inl e ↦ absurd cc | inr (u, e, m) ↦ (let h = retyped_least u in omega arith) ]
  apart_from_slots a (inr (members, e, any)) = let f : Some members ≡ None = sym e ∙ slot_type_alone in cc
