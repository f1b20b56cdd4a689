-- The types of a sound problem: each is a part of object, a part of a part is a part, and being of a type is decided.
use Rattle.std.proofs.Common.{ℕ, ◌≡◌, ◌<◌, ◌≤◌, inl, inr, List, [], ◌∷◌, length, slice_get, Option, Some, None, refl, ap, sym, subst, ◌∙◌, Contains, arith}
use Rattle.std.specs.Prelude.{All, Any, MatchOption}
use Rattle.std.proofs.str.Laws.{order}
use Rattle.std.proofs.Math.Decide.{ℕ_discrete}
use Rattle.plan_model.specs.declared.types.Object.{Object}
use Rattle.plan_model.specs.declared.types.Parent.{Parent}
use Rattle.plan_model.specs.declared.types.Types.{Types}
use Rattle.plan_model.specs.declared.values.Hddl.{Hddl}
use Rattle.plan_model.specs.Typing.{Leads, stay, climb, union_at, IsBelow, IsPart, InType, IsA}
use Rattle.plan_texts.specs.Types.{Has, EachIs}
use Rattle.plan_texts.specs.SpellsHddl.{hddl_types}
use Rattle.plan_texts.specs.SoundValue.{IsSoundHddl}
use Rattle.plan_texts.proofs.Members.{each-has, contains-has, has-contains, length-map}
use Rattle.slot_encoding.proofs.places.Places.{any-has, has-any, in_range, each-at-some, each-from_has}
use Rattle.slot_encoding.proofs.places.TypeChains.{first_pair, leads_on, leads_to_object, from_object, leads_decided}
use Rattle.slot_encoding.proofs.places.PrintedTypes.{union_none}
use Rattle.plan_texts.specs.Declared.{named}
use Rattle.plan_texts.proofs.SoundProblems.{each-all as all-each}
use Rattle.text_forms.specs.Words.{is_name}

module _ (h : Hddl) (sound : IsSoundHddl h) where
  abbrev types : Types
  types = h.types

  abbrev parents : List Parent
  parents = types.parents

  abbrev count : ℕ
  count = length types.names

  pub some_type : 0 < length h.types.names
  some_type = let l = in_range (hddl_types h) 0 (ap is_name sound.first) in let e = length-map (named h.names) types.names in omega arith

  pair_range : (x : Parent) → Contains parents x → (x.child < count) × (x.parent < count) × (0 < x.child)
  pair_range x c = each-has (λ (x : Parent). (x.child < count) × (x.parent < count) × (0 < x.child)) parents x sound.parents (contains-has parents x c)

  parent_of : (k : ℕ) → 0 < k → k < count → (x : Parent) × Contains parents x × (x.child ≡ k)
  parent_of k z l = let (x, m, e) = sound.has_parent k z l in (x, has-contains parents x m, e)

  no_cycle : (x : Parent) → Contains parents x → Leads parents x.parent x.child → ⊥
  no_cycle x c = sound.no_cycle x (contains-has parents x c)

  pub leads_up : (a : ℕ) → a < length h.types.names → Leads h.types.parents a 0
  leads_up = leads_to_object parents count pair_range parent_of no_cycle

  from_top : (t : ℕ) → Leads parents 0 t → t ≡ 0
  from_top = from_object parents count pair_range parent_of no_cycle

  decided : (a t : ℕ) → a < count → Dec (Leads parents a t)
  decided = leads_decided parents count pair_range parent_of no_cycle

  below_on : (a m t : ℕ) → IsBelow types a m → IsBelow types m t → IsBelow types a t
  below_on a m t below (inl e) = inl e
  below_on a m t (inl e) (inr l) = inl (from_top t (subst (λ z. Leads parents z t) e l))
  below_on a m t (inr k) (inr l) = inr (leads_on parents a m t k l)

  part_on : (a m t : ℕ) → IsBelow types a m → IsPart types m t → IsPart types a t
  part_on a m t below (inl l) = inl (below_on a m t below l)
  part_on a m t below (inr (members, e, any)) =
      let (k, has, l) = any-has (IsBelow types m) members any in
      inr (members, e, has-any (IsBelow types a) members k has (below_on a m k below l))

  pub object_typed : (o : ℕ) (x : Object) → slice_get h.objects o ≡ Some x → x.ty < length h.types.names
  object_typed o x e = each-at-some (λ (x : Object). x.ty < count) h.objects o x sound.objects e

  all-has : {X : Type 0} (P : X → Type 0) (xs : List X) → All P xs → (x : X) → Has xs x → P x
  all-has P xs all x has = let (k, l, e) = has-contains xs x has in subst P e (all k x l)

  leads_within : (a t : ℕ) → a < count → Leads parents a t → t < count
  leads_within a t l stay = l
  leads_within a t l (climb {ty} {parent} {of} c m) = leads_within parent of (pair_range (record { child = ty; parent = parent }) c).1 m

  -- what has objects by itself is no union
  no_union : (a t : ℕ) → a < count → IsBelow types a t → union_at types t ≡ None
  no_union a t l (inl e) = union_none types t (let m = some_type in omega arith)
  no_union a t l (inr m) = union_none types t (leads_within a t l m)

  -- an object of a type that is a part of another is of that one
  pub in_larger : (o ty of : ℕ) → InType h.types h.objects o ty → IsA h.types ty of → InType h.types h.objects o of
  in_larger o ty of (x, e, part) a = (x, e, go (union_at types ty) refl part (λ f. subst (λ z. MatchOption z (IsPart types ty of) (λ members. All (λ member. IsPart types member of) members)) f a))
    where
      go : (u : Option (List ℕ)) → union_at types ty ≡ u → IsPart types x.ty ty → (union_at types ty ≡ u → MatchOption u (IsPart types ty of) (λ members. All (λ member. IsPart types member of) members)) → IsPart types x.ty of
      go None f (inl b) i = part_on x.ty ty of b (i f)
      go None f (inr (members, g, any)) i = absurd (let k : Some members ≡ None = sym g ∙ f in cc)
      go (Some ms) f (inl b) i = absurd (let k : None ≡ Some ms = sym (no_union x.ty ty (object_typed o x e) b) ∙ f in cc)
      go (Some ms) f (inr (members, g, any)) i =
          let k : Some members ≡ Some ms = sym g ∙ f in
          let (m, has, below) = any-has (IsBelow types x.ty) members any in
          part_on x.ty m of below (all-has (λ member. IsPart types member of) ms (i f) m (subst (λ z. Has z m) (let n : members ≡ ms = cc in n) has))

  leads_decided_any : (a t : ℕ) → Dec (Leads parents a t)
  leads_decided_any a t = elim (order a count) [ inl l ↦ decided a t l | inr l ↦ outside l (ℕ_discrete a t) ]
    where
      outside : count ≤ a → Dec (a ≡ t) → Dec (Leads parents a t)
      outside l (yes e) = yes (subst (Leads parents a) e stay)
      outside l (no e) = no (λ m. elim (first_pair parents a t m) [ inl f ↦ e f | inr (x, c, f, k) ↦ (let r = (pair_range x c).0 in omega arith) ])

  below_decided : (a t : ℕ) → Dec (IsBelow types a t)
  below_decided a t = go (ℕ_discrete t 0) (leads_decided_any a t)
    where
      go : Dec (t ≡ 0) → Dec (Leads parents a t) → Dec (IsBelow types a t)
      go (yes e) d = yes (inl e)
      go (no e) (yes m) = yes (inr m)
      go (no e) (no m) = no (λ b. elim b [ inl f ↦ e f | inr f ↦ m f ])

  some_decided : {X : Type 0} (P : X → Type 0) → ((x : X) → Dec (P x)) → (xs : List X) → Dec ((x : X) × Has xs x × P x)
  some_decided P d [] = no (λ h. absurd h.1)
  some_decided {X = X} P d (x ∷ xs) = go (d x) (some_decided P d xs)
    where
      go : Dec (P x) → Dec ((y : X) × Has xs y × P y) → Dec ((y : X) × Has (x ∷ xs) y × P y)
      go (yes p) e = yes (x, inl refl, p)
      go (no p) (yes (y, m, q)) = yes (y, inr m, q)
      go (no p) (no q) = no (λ h. elim h.1 [ inl f ↦ p (subst P (sym f) h.2) | inr m ↦ q (h.0, m, h.2) ])

  each_decided : {X : Type 0} (P : X → Type 0) → ((x : X) → Dec (P x)) → (xs : List X) → Dec (EachIs P xs)
  each_decided P d [] = yes tt
  each_decided P d (x ∷ xs) = go (d x) (each_decided P d xs)
    where
      go : Dec (P x) → Dec (EachIs P xs) → Dec (EachIs P (x ∷ xs))
      go (yes p) (yes q) = yes (p, q)
      go (yes p) (no q) = no (λ h. q h.1)
      go (no p) q = no (λ h. p h.0)

  each-all : {X : Type 0} (P : X → Type 0) (xs : List X) → All P xs → EachIs P xs
  each-all P xs all = each-from_has P xs (λ x m. all-has P xs all x m)

  part_decided : (a t : ℕ) → Dec (IsPart types a t)
  part_decided a t = go (below_decided a t) (union_at types t) refl
    where
      by : (ms : List ℕ) → union_at types t ≡ Some ms → (IsBelow types a t → ⊥) → Dec ((x : ℕ) × Has ms x × IsBelow types a x) → Dec (IsPart types a t)
      by ms f n (yes (x, m, b)) = yes (inr (ms, f, has-any (IsBelow types a) ms x m b))
      by ms f n (no d) = no (λ p. elim p [ inl b ↦ n b | inr q ↦ not_there q ])
        where
          not_there : ((members : List ℕ) × (union_at types t ≡ Some members) × Any (IsBelow types a) members) → ⊥
          not_there (members, g, any) =
              let k : Some members ≡ Some ms = sym g ∙ f in
              let (x, m, b) = any-has (IsBelow types a) members any in
              d (x, subst (λ z. Has z x) (let n : members ≡ ms = cc in n) m, b)

      go : Dec (IsBelow types a t) → (u : Option (List ℕ)) → union_at types t ≡ u → Dec (IsPart types a t)
      go (yes b) u f = yes (inl b)
      go (no n) None f = no (λ p. elim p [ inl b ↦ n b | inr q ↦ (let k : Some q.0 ≡ None = sym q.1 ∙ f in absurd cc) ])
      go (no n) (Some ms) f = by ms f n (some_decided (IsBelow types a) (below_decided a) ms)

  pub is_a_decided : (t of : ℕ) → Dec (IsA h.types t of)
  is_a_decided t of = go (union_at types t)
    where
      each : (ms : List ℕ) → Dec (EachIs (λ member. IsPart types member of) ms) → Dec (All (λ member. IsPart types member of) ms)
      each ms (yes e) = yes (all-each (λ member. IsPart types member of) ms e)
      each ms (no e) = no (λ all. e (each-all (λ member. IsPart types member of) ms all))

      go : (u : Option (List ℕ)) → Dec (MatchOption u (IsPart types t of) (λ members. All (λ member. IsPart types member of) members))
      go None = part_decided t of
      go (Some ms) = each ms (each_decided (λ member. IsPart types member of) (λ m. part_decided m of) ms)

  pub in_type_decided : (o t : ℕ) → Dec (InType h.types h.objects o t)
  in_type_decided o t = go (slice_get h.objects o) refl
    where
      by : (x : Object) → slice_get h.objects o ≡ Some x → Dec (IsPart types x.ty t) → Dec (InType h.types h.objects o t)
      by x e (yes p) = yes (x, e, p)
      by x e (no p) = no (λ i. (let k : Some i.0 ≡ Some x = sym i.1 ∙ e in p (subst (λ (z : Object). IsPart types z.ty t) (let n : i.0 ≡ x = cc in n) i.2)))

      go : (u : Option Object) → slice_get h.objects o ≡ u → Dec (InType h.types h.objects o t)
      go None e = no (λ i. (let k : Some i.0 ≡ None = sym i.1 ∙ e in absurd cc))
      go (Some x) e = by x e (part_decided x.ty t)
