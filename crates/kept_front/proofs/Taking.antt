-- An act is taken: what the lists do is what is kept of the longer front.
use Rattle.std.proofs.Common.{ℕ, Bool, zero, suc, ◌≡◌, ◌+◌, ◌<◌, ◌≤◌, inl, inr, ◌==◌, eq-eqb, eqb-true, List, [], ◌∷◌, ◌++◌, map, filter, length, get_or, Option, Some, None, option_map, slice_get, refl, ap, sym, subst, ◌∙◌, Contains, arith}
use Rattle.std.specs.Option.{IfSome, option_and_then, option_map_or, unwrap_or}
use Rattle.std.proofs.lemmas.List.{length-map, map-append, length-append, nil_from_length}
use Rattle.std.proofs.lemmas.List.Elements.{Contains-get_or}
use Rattle.std.proofs.lemmas.Option.{get_or_from_slice_get}
use Rattle.htn_base.specs.Different.{AreDifferent}
use Rattle.plan_model.specs.declared.networks.Pair.{Pair}
use Rattle.plan_model.specs.declared.schemas.MethodPlan.{MethodPlan}
use Rattle.plan_model.specs.declared.values.Compiled.{Compiled}
use Rattle.plan_model.specs.Pairs.{pair, Pairs}
use Rattle.plan_model.specs.task_networks.Net.{Net, count}
use Rattle.plan_model.specs.task_networks.Lawful.{IsLawful}
use Rattle.plan_model.specs.task_networks.Tree as Trees
use Rattle.plan_model.specs.task_networks.Tree.{ran, used, waits}
use Rattle.plan_model.specs.task_networks.Spelling.{Act, run, apply, label_of, others}
use Rattle.plan_model.specs.plan_meaning.Network.{Work, task, GroundMethod, network, IsGroundMethod}
use Rattle.plan_model.specs.plan_meaning.Solution.{top_work}
use Rattle.plan_model.proofs.task_networks.Lists.{Contains-here, Contains-later}
use Rattle.plan_model.proofs.task_networks.Filters.{filter_to, to_filter, different-filter}
use Rattle.plan_model.proofs.task_networks.OtherChildren.{rest_of}
use Rattle.slot_machine.specs.Machine.{with_heir}
use Rattle.slot_machine.proofs.Inserts.{length-insert_at, insert_cases, different-insert_at}
use Rattle.slot_machine.proofs.OtherChildren.{map_cases, Contains-map, length-rest}
use Rattle.tree_core.specs.declared.label.Label.{Label}
use Rattle.tree_core.specs.declared.label.Label.TheVariants.{Primitive, Check, Abstract}
use Rattle.tree_core.specs.Growths.{Growth, IsUnder}
use Rattle.tree_core.proofs.Gets.{get_left, get_right, get_within, get_some}
use Rattle.decoding.specs.FailingAct.{slot_in, new_in, IsFormed, IsMet}
use Rattle.decoding.specs.Waiting.{AreMany, works_below}
use Rattle.decoding.specs.HeldLeaves.{growth_of, IsChildSlot}
use Rattle.decoding.specs.Counted.{AreNumberedNew, AreNumberedNone}
use Rattle.decoding.specs.Keeping.{Kept, IsGrownBy}
use Rattle.decoding.proofs.Many.{same_many}
use Rattle.decoding.proofs.KeptFronts.{keeps_with_children, keeps_without}
use Rattle.kept_front.specs.declared.leaves.Leaf.{Leaf}
use Rattle.kept_front.specs.declared.later.Later.{Later}
use Rattle.kept_front.specs.declared.front.Front.{Front}
use Rattle.kept_front.specs.Leaves.{room, leaf_at, blocked_in}
use Rattle.kept_front.specs.Nodes.{unfinished_at, child_slot}
use Rattle.kept_front.specs.Nodes as Nodes
use Rattle.kept_front.specs.Later.{predecessors, AreLater, AreAllLater}
use Rattle.kept_front.specs.Fronts.{label_in, growth_in, work_below, work_under, leaf_of, growths_in, kept, IsFrontOf, IsWholeAt, later_of, heir_of, IsGrownAt, StaysSized, MayTakeAt}
use Rattle.kept_front.proofs.Walking.{pair_of, method_is}

pub grown_sized : (leaf : Leaf) (slot : ℕ) (slots : List ℕ) (label : Label) (later : Option Later) (old next : Front) → IsGrownAt leaf slot slots label later old next → StaysSized old next
grown_sized leaf slot slots label later old next g b s = record {
  room = g.room ∙ s.room;
  nodes = g.nodes.more ∙ ap (λ z. z + 1) s.nodes ∙ sym (ap length g.growths ∙ length-append old.growths (record { parent = leaf.parent; child = leaf.child; label = label } ∷ []));
}

-- those that come right before a child are those of the pairs
different_firsts : (pairs : List Pair) (j : ℕ) → AreDifferent pairs → ((p : Pair) → Contains pairs p → p.then ≡ j) → AreDifferent (map (λ (p : Pair). p.first) pairs)
different_firsts [] j d f = tt
different_firsts (p ∷ pairs) j d f = (
  λ c. (
      let (q, k, e) = map_cases (λ (p : Pair). p.first) pairs p.first c in
      let g = f q (Contains-later p pairs q k) ∙ sym (f p (Contains-here p pairs)) in
      d.0 (subst (Contains pairs) (λ z. record { first = e z; then = g z }) k)),
  different_firsts pairs j d.1 (λ q k. f q (Contains-later p pairs q k)),
)

many_before : (pairs : List Pair) → AreDifferent pairs → (j : ℕ) → AreMany (λ i. Pairs pairs i j) (predecessors pairs j)
many_before pairs d j = record {
  numbers = map (λ (p : Pair). p.first) (filter test pairs);
  different = different_firsts (filter test pairs) j (different-filter test pairs d) (λ p k. eqb-true p.then j (filter_to test pairs p k).1);
  all = λ i. (to i, from i);
  many = length-map (filter test pairs) (λ (p : Pair). p.first);
}
  where
    test : Pair → Bool
    test p = p.then == j

    to : (i : ℕ) → Contains (map (λ (p : Pair). p.first) (filter test pairs)) i → Pairs pairs i j
    to i c =
        let (p, k, e) = map_cases (λ (p : Pair). p.first) (filter test pairs) i c in
        let (l, t) = filter_to test pairs p k in
        let f = eqb-true p.then j t in
        subst (Contains pairs) (λ z. record { first = e z; then = f z }) l

    from : (i : ℕ) → Pairs pairs i j → Contains (map (λ (p : Pair). p.first) (filter test pairs)) i
    from i c = Contains-map (λ (p : Pair). p.first) (filter test pairs) (pair i j) (to_filter test pairs (pair i j) c (eq-eqb j j refl))

module _ (c : Compiled) where
  abbrev N : Net
  N = network c

  -- an action and a check have no heir
  no_heir : (l : Label) (w : Work) → label_in c l ≡ ran w → heir_of c l ≡ None
  no_heir (Primitive a args) w e = refl
  no_heir (Check m values) w e = refl
  no_heir (Abstract t args m values) w e = absurd cc

  ground : (a : Act N) (m : GroundMethod) → label_of N a ≡ used m → IsMet N a → IsGroundMethod c m
  ground (run h w) m e met = absurd cc
  ground (apply h new n) m e met = subst (IsGroundMethod c) (let f : n ≡ m = cc in f) met

  formed : (a : Act N) (m : GroundMethod) → label_of N a ≡ used m → (b : ℕ) → IsFormed N b a → length (new_in N a) ≡ length (others N m)
  formed (run h w) m e b f = absurd cc
  formed (apply h new n) m e b f = subst (λ z. length new ≡ length (others N z)) (let g : n ≡ m = cc in g) f.form

  module _ (law : IsLawful N) (b : ℕ) (acts : List (Act N)) (a : Act N) (front : Front) (slot : ℕ) (new : List ℕ) (label : Label) (may : MayTakeAt c b front acts a slot new label) where
    abbrev slots : List ℕ
    slots = with_heir (heir_of c label) slot new

    abbrev old : Kept N
    old = kept c front

    heir_is : (m : GroundMethod) → label_of N a ≡ used m → N.heir m ≡ heir_of c label
    heir_is m e = sym (ap (option_and_then (λ k. option_and_then (λ (plan : MethodPlan). plan.heir) (slice_get c.methods k))) (method_is c label m (sym may.label_is ∙ e)))

    slots_are : (m : GroundMethod) → label_of N a ≡ used m → with_heir (N.heir m) (slot_in N a) (new_in N a) ≡ slots
    slots_are m e = λ i. with_heir (heir_is m e i) (may.slot_is i) (may.new_is i)

    -- without a method there are no slots
    no_slots : (w : Work) → label_of N a ≡ ran w → slots ≡ []
    no_slots w e = ap (λ o. with_heir o slot new) (no_heir label w (sym may.label_is ∙ e)) ∙ sym may.new_is ∙ none a e
      where
        none : (z : Act N) → label_of N z ≡ ran w → new_in N z ≡ []
        none (run h v) f = refl
        none (apply h xs m) f = absurd cc

    child_at : (i x : ℕ) → slice_get slots i ≡ Some x → IsChildSlot N a i x
    child_at i x e = go (label_of N a) refl
      where
        go : (l : Trees.Label N) → label_of N a ≡ l → IsChildSlot N a i x
        go (waits w) f = absurd (never a f)
          where
            never : (z : Act N) → label_of N z ≡ waits w → ⊥
            never (run h v) f = cc
            never (apply h xs m) f = cc
        go (ran w) f = absurd (let g = ap (λ z. slice_get z i) (no_slots w f) in cc)
        go (used m) f = (m, f, ap (λ z. slice_get z i) (slots_are m f) ∙ e)

    at_child : (i x : ℕ) → IsChildSlot N a i x → slice_get slots i ≡ Some x
    at_child i x (m, f, e) = ap (λ z. slice_get z i) (sym (slots_are m f)) ∙ e

    -- the slot's own leaf
    own : (l : Leaf) × (leaf_at front.leaves slot ≡ Some l)
    own = go (leaf_at front.leaves slot) refl
      where
        held : option_map (leaf_of c (growths_in c front)) (leaf_at front.leaves slot) ≡ Some may.leaf
        held = ap old.held (sym may.slot_is) ∙ may.may.held

        go : (o : Option Leaf) → leaf_at front.leaves slot ≡ o → (l : Leaf) × (leaf_at front.leaves slot ≡ Some l)
        go None e = absurd (let f = held in let g = ap (option_map (leaf_of c (growths_in c front))) e in cc)
        go (Some l) e = (l, e)

    pub slot_is_held : leaf_at front.leaves slot ≡ None → ⊥
    slot_is_held e = let f = own.1 in cc

    pub in_range : (1 ≤ slot) × (slot ≤ room front.leaves)
    in_range = let s = may.may.formed.slot in let e = may.slot_is in let r = may.sized.room in (omega arith, omega arith)

    new_range : (x : ℕ) → Contains new x → (1 ≤ x) × (x ≤ room front.leaves)
    new_range x k = let s = may.may.formed.new x (subst (λ z. Contains z x) (sym may.new_is) k) in let r = may.sized.room in (s.0, (let l = s.1 in omega arith))

    -- the heir is one of the children
    few_others : (m : GroundMethod) → label_of N a ≡ used m → (k : ℕ) → N.heir m ≡ Some k → (k ≤ length new) × (suc (length new) ≡ count N m)
    few_others m e k h =
        let f = ap length (sym may.new_is) ∙ formed a m e b may.may.formed in
        let g = ap (λ o. length (rest_of o (count N m))) h in
        let r = law.heir_is_child m k h in
        let s = length-rest k (count N m) r in
        (omega arith, omega arith)

    pub heir_within : (k : ℕ) → heir_of c label ≡ Some k → k ≤ length new
    heir_within k h = go (label_of N a) refl
      where
        go : (l : Trees.Label N) → label_of N a ≡ l → k ≤ length new
        go (waits w) f = absurd (never a f)
          where
            never : (z : Act N) → label_of N z ≡ waits w → ⊥
            never (run h v) f = cc
            never (apply h xs m) f = cc
        go (ran w) f = absurd (let g = no_heir label w (sym may.label_is ∙ f) in cc)
        go (used m) f = (few_others m f k (heir_is m f ∙ h)).0

    -- as many slots as children
    as_many : (m : GroundMethod) → label_of N a ≡ used m → length slots ≡ count N m
    as_many m e = go (N.heir m) refl
      where
        go : (o : Option ℕ) → N.heir m ≡ o → length slots ≡ count N m
        go (Some k) h =
            ap (λ z. length (with_heir z slot new)) (sym (heir_is m e) ∙ h) ∙ length-insert_at k slot new ∙ (few_others m e k h).1
        go None h =
            let none : count N m ≡ 0 = childless (count N m) refl in
            let f = ap length (sym may.new_is) ∙ formed a m e b may.may.formed in
            let g : length (others N m) ≡ 0 = ap (λ n. length (rest_of (N.heir m) n)) none in
            ap (λ z. length (with_heir z slot new)) (sym (heir_is m e) ∙ h) ∙ f ∙ g ∙ sym none
          where
            childless : (n : ℕ) → count N m ≡ n → count N m ≡ 0
            childless zero f = f
            childless (suc n) f = absurd (let x = (law.has_heir m (omega arith)).1 in cc)

    -- the slots differ, and are there
    not_new : Contains new slot → ⊥
    not_new k =
        let f = may.may.free slot (subst (λ z. Contains z slot) (sym may.new_is) k) in
        let g = ap (option_map (leaf_of c (growths_in c front))) own.1 in
        cc

    pub slots_differ : AreDifferent slots
    slots_differ = go (heir_of c label)
      where
        go : (o : Option ℕ) → AreDifferent (with_heir o slot new)
        go None = subst AreDifferent may.new_is may.may.different
        go (Some k) = different-insert_at k slot new (subst AreDifferent may.new_is may.may.different) not_new

    pub slots_within : (k d : ℕ) → k < length slots → (1 ≤ get_or slots k d) × (get_or slots k d ≤ room front.leaves)
    slots_within k d l = go (heir_of c label) (get_or slots k d) (Contains-get_or slots k d l)
      where
        go : (o : Option ℕ) (x : ℕ) → Contains (with_heir o slot new) x → (1 ≤ x) × (x ≤ room front.leaves)
        go None x k = new_range x k
        go (Some h) x k = elim (insert_cases h slot new x k) [ inl e ↦ subst (λ z. (1 ≤ z) × (z ≤ room front.leaves)) e in_range | inr d ↦ new_range x d ]

    pub heir_fits : (h : Option ℕ) → h ≡ heir_of c label → IfSome h (λ k. k ≤ length new)
    heir_fits None e = tt
    heir_fits (Some k) e = heir_within k (sym e)

    pub few_slots : length slots ≤ length new + 1
    few_slots = go (heir_of c label)
      where
        go : (o : Option ℕ) → length (with_heir o slot new) ≤ length new + 1
        go None = omega arith
        go (Some k) = let e = length-insert_at k slot new in omega arith

    -- the same, of a list that the code has made
    pub record AreSlots (xs : List ℕ) : Type 0 where
      pub within : (k d : ℕ) → k < length xs → (1 ≤ get_or xs k d) × (get_or xs k d ≤ room front.leaves)
      pub differ : AreDifferent xs
      pub few : length xs ≤ length new + 1

    pub are_slots : (xs : List ℕ) → xs ≡ slots → AreSlots xs
    are_slots xs e = subst AreSlots (sym e) (record { within = slots_within; differ = slots_differ; few = few_slots })

    module _ (l : Leaf) (is : leaf_at front.leaves slot ≡ Some l) (laters : List Later) (all : AreAllLater c laters) (next : Front) (g : IsGrownAt l slot slots label (later_of laters label) front next) where
      abbrev now : Kept N
      now = kept c next

      abbrev one : Growth N
      one = growth_of N may.leaf a

      leaf_is : may.leaf ≡ leaf_of c (growths_in c front) l
      leaf_is =
          let f = may.may.held in
          let e : old.held (slot_in N a) ≡ Some (leaf_of c (growths_in c front) l) = ap old.held may.slot_is ∙ ap (option_map (leaf_of c (growths_in c front))) is in
          cc

      many : length (growths_in c front) ≡ length front.growths
      many = length-map front.growths (growth_in c)

      growths : growths_in c next ≡ growths_in c front ++ one ∷ []
      growths =
          ap (map (growth_in c)) g.growths ∙ map-append (growth_in c) front.growths (record { parent = l.parent; child = l.child; label = label } ∷ [])
          ∙ ap (λ z. growths_in c front ++ z ∷ []) (λ i. record { parent = (sym leaf_is i).parent; child = (sym leaf_is i).child; label = sym may.label_is i })

      last : slice_get (growths_in c next) (length (growths_in c front)) ≡ Some one
      last =
          ap (λ z. slice_get z (length (growths_in c front))) growths
          ∙ ap (slice_get (growths_in c front ++ one ∷ [])) (let y : length (growths_in c front) ≡ length (growths_in c front) + 0 = omega arith in y)
          ∙ get_right (growths_in c front) (one ∷ []) 0

      -- a leaf that is kept hangs under an earlier growth
      earlier : (x : ℕ) (k : Leaf) → leaf_at front.leaves x ≡ Some k → leaf_of c (growths_in c next) k ≡ leaf_of c (growths_in c front) k
      earlier x k e = λ i. record { parent = k.parent; child = k.child; work = under k.parent refl i }
        where
          under : (o : Option ℕ) → k.parent ≡ o → work_under c (growths_in c next) o k.child ≡ work_under c (growths_in c front) o k.child
          under None f = refl
          under (Some y) f =
              let h = may.keeps.fits.held_are x (leaf_of c (growths_in c front) k) (ap (option_map (leaf_of c (growths_in c front))) e) in
              let u = subst (λ z. IsUnder N may.keeps.order (length may.keeps.order) z k.child h.0) f h.3 in
              let lt : y < length (growths_in c front) = (let z = u.0 in let v = may.keeps.fits.growths_are.many in omega arith) in
              let (q, at) = get_some (growths_in c front) y lt in
              ap (λ z. option_map_or (λ (v : Growth N). work_below c v.label k.child) z (task 0 [])) (ap (λ z. slice_get z y) growths ∙ get_left (growths_in c front) (one ∷ []) y q at ∙ sym at)

      stays : (x : ℕ) → leaf_at next.leaves x ≡ leaf_at front.leaves x → now.held x ≡ old.held x
      stays x e = ap (option_map (leaf_of c (growths_in c next))) e ∙ go (leaf_at front.leaves x) refl
        where
          go : (o : Option Leaf) → leaf_at front.leaves x ≡ o → option_map (leaf_of c (growths_in c next)) o ≡ option_map (leaf_of c (growths_in c front)) o
          go None f = refl
          go (Some k) f = ap Some (earlier x k f)

      -- what is known of the method's pairs
      known : (m : GroundMethod) → label_of N a ≡ used m → (plan : MethodPlan) × (slice_get c.methods m.number ≡ Some plan) × (later : Later) × (later_of laters label ≡ Some later) × AreLater plan.schema.pairs later × AreDifferent plan.schema.pairs
      known m e =
          let gm = ground a m e may.may.met in
          let f = all m.number gm.plan gm.is in
          (gm.plan, gm.is, f.0, ap (option_and_then (slice_get laters)) (method_is c label m (sym may.label_is ∙ e)) ∙ f.1, f.2, f.3)

      children : (i x : ℕ) (m : GroundMethod) (w : Work) → label_of N a ≡ used m → slice_get (with_heir (N.heir m) (slot_in N a) (new_in N a)) i ≡ Some x → slice_get (N.works m) i ≡ Some w
          → now.held x ≡ Some (record { parent = Some (length (growths_in c front)); child = i; work = w })
      children i x m w e at wk =
          let k = known m e in
          ap (option_map (leaf_of c (growths_in c next))) (g.leaves.children k.2 i x k.3 (at_child i x (m, e, at)))
          ∙ ap Some (λ j. record { parent = Some (sym many j); child = i; work = work j })
        where
          work : work_under c (growths_in c next) (Some (length front.growths)) i ≡ w
          work =
              ap (λ z. option_map_or (λ (v : Growth N). work_below c v.label i) (slice_get (growths_in c next) z) (task 0 [])) (sym many)
              ∙ ap (λ z. option_map_or (λ (v : Growth N). work_below c v.label i) z (task 0 [])) last
              ∙ ap (λ z. work_below c z i) e
              ∙ ap (λ z. unwrap_or z (task 0 [])) wk

      place : length (growths_in c front) ≡ Nodes.count front.nodes
      place = many ∙ sym may.sized.nodes

      grown : IsGrownBy N old now a may.leaf
      grown = record {
        growths = growths;
        held = record {
          children = children;
          freed = λ x e h. ap (option_map (leaf_of c (growths_in c next))) (g.leaves.freed x (e ∙ may.slot_is) (λ i at. h i (child_at i x at)));
          others = λ x d h. stays x (g.leaves.others x (λ f. d (f ∙ sym may.slot_is)) (λ i at. h i (child_at i x at)));
        };
        new_slots = λ m j x e at. ap (λ k. child_slot next.nodes k j) place ∙ g.nodes.last_slots j ∙ get_or_from_slice_get slots j x 0 (at_child j x (m, e, at));
        other_slots = λ k j lt. g.nodes.slots k j (subst (λ z. k < z) place lt);
      }

      numbered : (m : GroundMethod) → label_of N a ≡ used m → AreNumberedNew N a m (length (growths_in c front)) old.blocked old.open_at now.blocked now.open_at
      numbered m e = record {
        children = λ j x at. (
            let k = known m e in
            let f = ap blocked_in (g.leaves.children k.2 j x k.3 (at_child j x at)) ∙ k.4.before_each j in
            subst (AreMany (λ i. N.Pair m i j)) (sym f)
            (same_many (λ i. Pairs k.0.schema.pairs i j) (λ i. N.Pair m i j) (predecessors k.0.schema.pairs j) (λ i. ((pair_of c m k.0 k.1 i j).1, (pair_of c m k.0 k.1 i j).0)) (many_before k.0.schema.pairs k.5 j)));
        others = λ x d h. ap blocked_in (g.leaves.others x (λ f. d (f ∙ sym may.slot_is)) (λ i at. h i (child_at i x at)));
        all_open = ap (unfinished_at next.nodes) place ∙ g.nodes.last_unfinished ∙ as_many m e;
        earlier = λ x lt. g.nodes.unfinished x (subst (λ z. x < z) place lt);
      }

      positive : 1 ≤ b
      positive = let s = may.may.formed.slot in omega arith

      pub taken : 0 < length slots → IsFrontOf c b next (acts ++ a ∷ [])
      taken lt =
          let (x, at) = get_some slots 0 lt in
          let (m, e, f) = child_at 0 x at in
          let n = as_many m e in
          keeps_with_children N law b (top_work c) old now acts a may.leaf m positive may.keeps may.may grown e (omega arith) (numbered m e)

      pub whole : length slots ≡ 0 → IsWholeAt c b next (length front.growths) acts a
      whole z = subst (λ k. IsWholeAt c b next k acts a) many
          (keeps_without N law b (top_work c) old now acts a may.leaf positive may.keeps may.may grown (none_below (label_of N a) refl) none_numbered)
        where
          none_below : (l : Trees.Label N) → label_of N a ≡ l → works_below N l ≡ []
          none_below (waits w) f = refl
          none_below (ran w) f = refl
          none_below (used m) f = nil_from_length (N.works m) (sym (as_many m f) ∙ z)

          none_numbered : AreNumberedNone N a (length (growths_in c front)) old.blocked old.open_at now.blocked now.open_at
          none_numbered = record {
            others = λ x d. ap blocked_in (g.leaves.others x (λ f. d (f ∙ sym may.slot_is)) (λ i at. (let k = get_within slots i x at in omega arith)));
            none_open = ap (unfinished_at next.nodes) place ∙ g.nodes.last_unfinished ∙ z;
            earlier = λ x lt. g.nodes.unfinished x (subst (λ y. x < y) place lt);
          }

    -- what has been done is what was to be done
    grown_as : (l : Leaf) (laters : List Later) (xs : List ℕ) → xs ≡ slots → (later : Option Later) → later ≡ later_of laters label → (next : Front) → IsGrownAt l slot xs label later front next
        → IsGrownAt l slot slots label (later_of laters label) front next
    grown_as l laters xs same later found next h = subst (λ z. IsGrownAt l slot z label (later_of laters label) front next) same (subst (λ z. IsGrownAt l slot xs label z front next) found h)

    pub taken_of : (l : Leaf) → leaf_at front.leaves slot ≡ Some l → (laters : List Later) → AreAllLater c laters → (xs : List ℕ) → xs ≡ slots → (later : Option Later) → later ≡ later_of laters label → (next : Front)
        → IsGrownAt l slot xs label later front next → 0 < length xs → IsFrontOf c b next (acts ++ a ∷ [])
    taken_of l is laters all xs same later found next h lt = taken l is laters all next (grown_as l laters xs same later found next h) (subst (λ z. 0 < length z) same lt)

    pub whole_of : (l : Leaf) → leaf_at front.leaves slot ≡ Some l → (laters : List Later) → AreAllLater c laters → (xs : List ℕ) → xs ≡ slots → (later : Option Later) → later ≡ later_of laters label → (next : Front)
        → IsGrownAt l slot xs label later front next → length xs ≡ 0 → IsWholeAt c b next (length front.growths) acts a
    whole_of l is laters all xs same later found next h z = whole l is laters all next (grown_as l laters xs same later found next h) (subst (λ y. length y ≡ 0) same z)
