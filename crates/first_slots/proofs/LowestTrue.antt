-- The further conditions of a method are true exactly where its new slots are the lowest free ones.
use Rattle.std.proofs.Common.{ℕ, zero, suc, ◌≡◌, ◌↔◌, ◌<◌, inl, inr, List, [], ◌∷◌, ◌++◌, map, length, slice_index, slice_get, Some, refl, ap, sym, subst, ◌∙◌, Contains, append_assoc, arith}
use Rattle.std.specs.Prelude.{codes}
use Rattle.plan_model.specs.declared.options.Style.{Style}
use Rattle.plan_model.specs.declared.terms.Term.TheVariants.{Var}
use Rattle.plan_model.specs.declared.terms.Param.{Param}
use Rattle.plan_model.specs.declared.formulas.Formula.{Formula}
use Rattle.plan_model.specs.declared.formulas.Formula.TheVariants.{Holds, Equal, Not, Or, Imply, Forall}
use Rattle.plan_model.specs.declared.schemas.MethodPlan.{MethodPlan}
use Rattle.plan_model.specs.declared.values.Compiled.{Compiled}
use Rattle.plan_model.specs.declared.values.Pddl.{Pddl}
use Rattle.plan_model.specs.task_networks.Spelling.{numbers}
use Rattle.plan_model.proofs.task_networks.Numbers.{numbers_to, to_numbers}
use Rattle.plan_model.specs.plan_meaning.Truth.{State, AreTyped, EachTrue, OneTrue, IsTrueIn}
use Rattle.plan_model.specs.plan_meaning.Network.{GroundMethod, InTypeOf}
use Rattle.plan_model.proofs.plan_meaning.TruthEquations.{truth-Holds, truth-Not, truth-And, truth-Or, truth-Imply, truth-Forall, truth-Equal}
use Rattle.plan_model.proofs.plan_meaning.EachPart.{each_map, one_map}
use Rattle.schedules.specs.ruled.LowestSlots.{AreLowestFree}
use Rattle.slot_encoding.specs.EncodedNames.{slot_param, free_predicate}
use Rattle.slot_encoding.specs.EncodedActions.{is_free, spare, depth, method_pre, encoded_method}
use Rattle.slot_encoding.specs.EncodedValue.{atom}
use Rattle.slot_encoding.specs.FirstFree.{less_predicate, is_free_below, lowest_slot, lowest_slots, first_method}
use Rattle.slot_encoding.proofs.Pieces.{TypesAgree, slot_object, IsSlot}
use Rattle.slot_encoding.proofs.places.ListPlaces.{get_append_cases, get_left, get_within, within_get, get_contains, contains_get}
use Rattle.slot_encoding.proofs.places.Sums.{each-append}
use Rattle.plan_proof.proofs.machine.Reading.{free_atom}
use Rattle.plan_proof.proofs.machine.Atoms.{one_slot, slot_of}
use Rattle.plan_proof.proofs.machine.Freeing.{InT}
use Rattle.plan_proof.proofs.machine.MethodConditions.{objects, depth_long}
use Rattle.first_slots.proofs.Less.{less_atom, TellsLess}

-- the value behind the others, one of the others, and one of those that are mapped
last_value : (vs : List ℕ) (o : ℕ) → slice_index (vs ++ o ∷ []) (length vs) ≡ o
last_value [] o = refl
last_value (v ∷ vs) o = last_value vs o

mapped_value : (f : ℕ → ℕ) (xs rest : List ℕ) (k z : ℕ) → slice_get xs k ≡ Some z → slice_index (map f xs ++ rest) k ≡ f z
mapped_value f [] rest k z e = absurd cc
mapped_value f (x ∷ xs) rest zero z e = let g : x ≡ z = cc in ap f g
mapped_value f (x ∷ xs) rest (suc k) z e = mapped_value f xs rest k z e

-- a list cut at a place
cut_get : (xs : List ℕ) (n x : ℕ) → slice_get xs n ≡ Some x → (before rest : List ℕ) × (xs ≡ before ++ x ∷ rest) × (length before ≡ n)
cut_get [] n x e = absurd cc
cut_get (y ∷ xs) zero x e = ([], xs, (let f : y ≡ x = cc in ap (λ z. z ∷ xs) f), refl)
cut_get (y ∷ xs) (suc n) x e = let (before, rest, f, g) = cut_get xs n x e in (y ∷ before, rest, ap (λ z. y ∷ z) f, ap suc g)

get_cut : (before rest : List ℕ) (x : ℕ) → slice_get (before ++ x ∷ rest) (length before) ≡ Some x
get_cut [] rest x = refl
get_cut (y ∷ before) rest x = get_cut before rest x

-- the rule by places: what is free and lower than the one at place n stands at a place before
module _ (free : ℕ → Type 0) (new : List ℕ) where
  abbrev pub IsLowestAt : ℕ → ℕ → Type 0
  IsLowestAt n z = (y : ℕ) → free y → y < z → (j : ℕ) × (j < n) × (slice_get new j ≡ Some y)

  pub lowest_by_places : AreLowestFree free new ↔ ((n z : ℕ) → slice_get new n ≡ Some z → IsLowestAt n z)
  lowest_by_places = (to, from)
    where
      to : AreLowestFree free new → (n z : ℕ) → slice_get new n ≡ Some z → IsLowestAt n z
      to k n z e y f l =
          let (before, rest, i, m) = cut_get new n z e in
          let (j, g) = contains_get before y (k before rest z y i f l) in
          let w = get_within before j y g in
          (j, omega arith, ap (λ v. slice_get v j) i ∙ get_left before (z ∷ rest) j y g)

      from : ((n z : ℕ) → slice_get new n ≡ Some z → IsLowestAt n z) → AreLowestFree free new
      from k before rest z y i f l =
          let (j, m, g) = k (length before) z (ap (λ v. slice_get v (length before)) i ∙ get_cut before rest z) y f l in
          elim (get_append_cases before (z ∷ rest) j y (ap (λ v. slice_get v j) (sym i) ∙ g)) [ inl d ↦ get_contains before j y d | inr d ↦ absurd (let w = d.1 in omega arith) ]

module _ (c : Compiled) (b : ℕ) (style : Style) (q : Pddl) (types : TypesAgree c b style q) (S : State) (tells : TellsLess c b style q S) (h : ℕ) (new : List ℕ) (g : GroundMethod) (plan : MethodPlan)
    (long : length new ≡ spare c q.names b style g.number plan) (typed : AreTyped (InTypeOf c) plan.schema.params g.values) (slots : (x : ℕ) → Contains new x → IsSlot c b style q x) where
  abbrev vs : List ℕ
  vs = objects c b style q h new g plan long typed

  abbrev slot : ℕ → ℕ
  slot = slot_object c b style q

  abbrev True : Formula → List ℕ → Type 0
  True = IsTrueIn (InT c b style q) S

  -- slot x is free
  abbrev pub IsFree : ℕ → Type 0
  IsFree x = IsSlot c b style q x × S (free_atom c b style q x)

  new_value : (os : List ℕ) (k z : ℕ) → slice_get new k ≡ Some z → slice_index (vs ++ os) (suc k) ≡ slot z
  new_value os k z e = ap (λ l. slice_index l k) (append_assoc (map slot new) g.values os) ∙ mapped_value slot new (g.values ++ os) k z e

  abbrev Below : ℕ → Formula
  Below v = is_free_below c q.names b style (length vs) v

  -- the quantified slot is free, and lower than that of variable v
  below_true : (o v : ℕ) → True (Below v) (vs ++ o ∷ []) ↔ (S (atom (free_predicate c) o) × S (less_atom c b style q o (slice_index (vs ++ o ∷ []) v)))
  below_true o v = (
    λ k. (let x = subst (λ z. z) both k in (subst (λ z. z) one x.0, subst (λ z. z) other x.1.0)),
    λ k. subst (λ z. z) (sym both) (subst (λ z. z) (sym one) k.0, (subst (λ z. z) (sym other) k.1, tt)),
  )
    where
      one : True (Holds (is_free c q.names b style (length vs))) (vs ++ o ∷ []) ≡ S (atom (free_predicate c) o)
      one = ap (λ z. z (vs ++ o ∷ [])) (truth-Holds (InT c b style q) S (is_free c q.names b style (length vs))) ∙ ap (λ z. S (atom (free_predicate c) z)) (last_value vs o)

      other : True (Holds (record { predicate = less_predicate c; args = Var (length vs) ∷ Var v ∷ [] })) (vs ++ o ∷ []) ≡ S (less_atom c b style q o (slice_index (vs ++ o ∷ []) v))
      other = ap (λ z. z (vs ++ o ∷ [])) (truth-Holds (InT c b style q) S (record { predicate = less_predicate c; args = Var (length vs) ∷ Var v ∷ [] })) ∙ ap (λ z. S (less_atom c b style q z (slice_index (vs ++ o ∷ []) v))) (last_value vs o)

      both : True (Below v) (vs ++ o ∷ [])
          ≡ (True (Holds (is_free c q.names b style (length vs))) (vs ++ o ∷ []) × (True (Holds (record { predicate = less_predicate c; args = Var (length vs) ∷ Var v ∷ [] })) (vs ++ o ∷ []) × Unit {0}))
      both = ap (λ z. z (vs ++ o ∷ [])) (truth-And (InT c b style q) S (Holds (is_free c q.names b style (length vs)) ∷ Holds (record { predicate = less_predicate c; args = Var (length vs) ∷ Var v ∷ [] }) ∷ []))

  abbrev variable : List Param
  variable = slot_param c q.names b (codes "htn_x") ∷ []

  -- for all slots
  forall_true : (f : Formula) → True (Forall variable f) vs ↔ ((y : ℕ) → IsSlot c b style q y → True f (vs ++ slot y ∷ []))
  forall_true f = (
    λ k y s. subst (λ z. z vs) e k (slot y ∷ []) ((types.slots (slot y)).1 ((slot_of c b style q (slot y)).1 (y, s, refl)), tt),
    λ k. subst (λ z. z vs) (sym e) (λ os t. each k os t),
  )
    where
      e : True (Forall variable f) ≡ (λ values. (os : List ℕ) → AreTyped (InT c b style q) variable os → True f (values ++ os))
      e = truth-Forall (InT c b style q) S variable f

      each : ((y : ℕ) → IsSlot c b style q y → True f (vs ++ slot y ∷ [])) → (os : List ℕ) → AreTyped (InT c b style q) variable os → True f (vs ++ os)
      each k [] t = absurd t
      each k (o ∷ []) t = let (y, s, i) = (slot_of c b style q o).0 ((types.slots o).0 t.0) in subst (λ z. True f (vs ++ z ∷ [])) (sym i) (k y s)
      each k (o ∷ u ∷ os) t = absurd t.1

  -- slot y is free, and lower than new slot n
  lower : (n z y : ℕ) → slice_get new n ≡ Some z → IsSlot c b style q y → True (Below (suc n)) (vs ++ slot y ∷ []) ↔ (S (free_atom c b style q y) × (y < z))
  lower n z y e s =
      let u = below_true (slot y) (suc n) in
      let v = new_value (slot y ∷ []) n z e in
      let w = tells y z s (slots z (get_contains new n z e)) in (
        λ k. (let x = u.0 k in (x.0, w.0 (subst (λ i. S (less_atom c b style q (slot y) i)) v x.1))),
        λ k. u.1 (k.0, subst (λ i. S (less_atom c b style q (slot y) i)) (sym v) (w.1 k.1)),
      )

  abbrev is_one_of : ℕ → Formula
  is_one_of m = Or (map (λ j. Equal (Var (length vs)) (Var j)) (numbers 1 m))

  -- slot y is one of the first new slots
  one_of_true : (m y : ℕ) → m < length new → IsSlot c b style q y → True (is_one_of m) (vs ++ slot y ∷ []) ↔ ((j : ℕ) × (j < m) × (slice_get new j ≡ Some y))
  one_of_true m y l s = (λ k. to (some.0 (subst (λ z. z) e k)), λ k. subst (λ z. z) (sym e) (some.1 (from k)))
    where
      e : True (is_one_of m) (vs ++ slot y ∷ []) ≡ OneTrue True (map (λ j. Equal (Var (length vs)) (Var j)) (numbers 1 m)) (vs ++ slot y ∷ [])
      e = ap (λ z. z (vs ++ slot y ∷ [])) (truth-Or (InT c b style q) S (map (λ j. Equal (Var (length vs)) (Var j)) (numbers 1 m)))

      some : OneTrue True (map (λ j. Equal (Var (length vs)) (Var j)) (numbers 1 m)) (vs ++ slot y ∷ []) ↔ ((j : ℕ) × Contains (numbers 1 m) j × True (Equal (Var (length vs)) (Var j)) (vs ++ slot y ∷ []))
      some = one_map True (λ j. Equal (Var (length vs)) (Var j)) (numbers 1 m) (vs ++ slot y ∷ [])

      equal : (j : ℕ) → True (Equal (Var (length vs)) (Var j)) (vs ++ slot y ∷ []) ≡ (slice_index (vs ++ slot y ∷ []) (length vs) ≡ slice_index (vs ++ slot y ∷ []) j)
      equal j = ap (λ z. z (vs ++ slot y ∷ [])) (truth-Equal (InT c b style q) S (Var (length vs)) (Var j))

      to : (j : ℕ) × Contains (numbers 1 m) j × True (Equal (Var (length vs)) (Var j)) (vs ++ slot y ∷ []) → (j : ℕ) × (j < m) × (slice_get new j ≡ Some y)
      to (zero, d, k) = absurd (let (i, r) = numbers_to 1 m 0 d in omega arith)
      to (suc j, d, k) =
          let (i, r) = numbers_to 1 m (suc j) d in
          let (w, f) = within_get new j (omega arith) in
          let v : slot y ≡ slot w = sym (last_value vs (slot y)) ∙ subst (λ z. z) (equal (suc j)) k ∙ new_value (slot y ∷ []) j w f in
          (j, omega arith, f ∙ ap Some (sym (one_slot c b style q y w s (slots w (get_contains new j w f)) v)))

      from : (j : ℕ) × (j < m) × (slice_get new j ≡ Some y) → (j : ℕ) × Contains (numbers 1 m) j × True (Equal (Var (length vs)) (Var j)) (vs ++ slot y ∷ [])
      from (j, r, f) = (suc j, to_numbers 1 m (suc j) (omega arith) (omega arith), subst (λ z. z) (sym (equal (suc j))) (last_value vs (slot y) ∙ sym (new_value (slot y ∷ []) j y f)))

  -- the condition for new slot n
  slot_true : (n z : ℕ) → slice_get new n ≡ Some z → True (lowest_slot c q.names b style (length vs) (suc n)) vs ↔ IsLowestAt IsFree new n z
  slot_true zero z e = (to, from)
    where
      each : True (Forall variable (Not (Below 1))) vs ↔ ((y : ℕ) → IsSlot c b style q y → True (Not (Below 1)) (vs ++ slot y ∷ []))
      each = forall_true (Not (Below 1))

      none : (y : ℕ) → True (Not (Below 1)) (vs ++ slot y ∷ []) ≡ (True (Below 1) (vs ++ slot y ∷ []) → ⊥)
      none y = ap (λ z. z (vs ++ slot y ∷ [])) (truth-Not (InT c b style q) S (Below 1))

      to : True (Forall variable (Not (Below 1))) vs → IsLowestAt IsFree new 0 z
      to k y (s, f) l = absurd (subst (λ i. i) (none y) (each.0 k y s) ((lower 0 z y e s).1 (f, l)))

      from : IsLowestAt IsFree new 0 z → True (Forall variable (Not (Below 1))) vs
      from k = each.1 (λ y s. subst (λ i. i) (sym (none y)) (λ r. (let (f, l) = (lower 0 z y e s).0 r in let (j, m, i) = k y (s, f) l in omega arith)))
  slot_true (suc n) z e = (to, from)
    where
      each : True (Forall variable (Imply (Below (suc (suc n))) (is_one_of (suc n)))) vs ↔ ((y : ℕ) → IsSlot c b style q y → True (Imply (Below (suc (suc n))) (is_one_of (suc n))) (vs ++ slot y ∷ []))
      each = forall_true (Imply (Below (suc (suc n))) (is_one_of (suc n)))

      then : (y : ℕ) → True (Imply (Below (suc (suc n))) (is_one_of (suc n))) (vs ++ slot y ∷ []) ≡ (True (Below (suc (suc n))) (vs ++ slot y ∷ []) → True (is_one_of (suc n)) (vs ++ slot y ∷ []))
      then y = ap (λ z. z (vs ++ slot y ∷ [])) (truth-Imply (InT c b style q) S (Below (suc (suc n))) (is_one_of (suc n)))

      many : suc n < length new
      many = get_within new (suc n) z e

      to : True (Forall variable (Imply (Below (suc (suc n))) (is_one_of (suc n)))) vs → IsLowestAt IsFree new (suc n) z
      to k y (s, f) l = (one_of_true (suc n) y many s).0 (subst (λ i. i) (then y) (each.0 k y s) ((lower (suc n) z y e s).1 (f, l)))

      from : IsLowestAt IsFree new (suc n) z → True (Forall variable (Imply (Below (suc (suc n))) (is_one_of (suc n)))) vs
      from k = each.1 (λ y s. subst (λ i. i) (sym (then y)) (λ r. (let (f, l) = (lower (suc n) z y e s).0 r in (one_of_true (suc n) y many s).1 (k y (s, f) l))))

  abbrev count : ℕ
  count = spare c q.names b style g.number plan

  -- all of them
  lowest_true : EachTrue True (lowest_slots c q.names b style (length vs) count) vs ↔ AreLowestFree IsFree new
  lowest_true = (λ k. places.1 (λ n z e. (slot_true n z e).0 (each.0 k (suc n) (let l = get_within new n z e in let m = long in to_numbers 1 count (suc n) (omega arith) (omega arith)))), λ k. each.1 (λ n d. from (places.0 k) n d))
    where
      each : EachTrue True (lowest_slots c q.names b style (length vs) count) vs ↔ ((n : ℕ) → Contains (numbers 1 count) n → True (lowest_slot c q.names b style (length vs) n) vs)
      each = each_map True (lowest_slot c q.names b style (length vs)) (numbers 1 count) vs

      places : AreLowestFree IsFree new ↔ ((n z : ℕ) → slice_get new n ≡ Some z → IsLowestAt IsFree new n z)
      places = lowest_by_places IsFree new

      from : ((n z : ℕ) → slice_get new n ≡ Some z → IsLowestAt IsFree new n z) → (n : ℕ) → Contains (numbers 1 count) n → True (lowest_slot c q.names b style (length vs) n) vs
      from k zero d = absurd (let (i, r) = numbers_to 1 count 0 d in omega arith)
      from k (suc n) d =
          let (i, r) = numbers_to 1 count (suc n) d in
          let m = long in
          let (z, e) = within_get new n (omega arith) in
          (slot_true n z e).1 (k n z e)

  -- the narrowed action of a method may be taken where the plain one may, and the new slots are the lowest free ones
  pub first_true : True (first_method c q.names b style g.number plan).pre vs ↔ (True (encoded_method c q.names b style g.number plan).pre vs × AreLowestFree IsFree new)
  first_true = (
    λ k. (let x = cut.0 (subst (λ z. z vs) all k) in (subst (λ z. z vs) (sym plain) x.0, lowest.0 x.1)),
    λ k. subst (λ z. z vs) (sym all) (cut.1 (subst (λ z. z vs) plain k.0, lowest.1 k.1)),
  )
    where
      further : List Formula
      further = lowest_slots c q.names b style (depth c q.names b style g.number plan) (spare c q.names b style g.number plan)

      before : List Formula
      before = method_pre c q.names b style g.number plan

      all : True (first_method c q.names b style g.number plan).pre ≡ EachTrue True (before ++ further)
      all = truth-And (InT c b style q) S (before ++ further)

      plain : True (encoded_method c q.names b style g.number plan).pre ≡ EachTrue True before
      plain = truth-And (InT c b style q) S before

      cut : EachTrue True (before ++ further) vs ↔ (EachTrue True before vs × EachTrue True further vs)
      cut = each-append True before further vs

      lowest : EachTrue True further vs ↔ AreLowestFree IsFree new
      lowest = subst (λ n. EachTrue True (lowest_slots c q.names b style n (spare c q.names b style g.number plan)) vs ↔ AreLowestFree IsFree new) (depth_long c b style q h new g plan long typed) lowest_true
