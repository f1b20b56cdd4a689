-- A growth that is whole is told to its parent: what the lists do is what is kept.
use Rattle.std.proofs.Common.{ℕ, ◌≡◌, ◌<◌, ◌≤◌, ◌↔◌, ◌==◌, eq-eqb, eqb-true, List, [], ◌∷◌, ◌++◌, map, filter, length, Option, Some, None, option_map, slice_get, refl, ap, sym, subst, ◌∙◌, Contains, arith}
use Rattle.std.specs.Prelude.{MatchOption}
use Rattle.std.specs.Option.{option_and_then, option_map_or}
use Rattle.std.proofs.lemmas.List.{length-map}
use Rattle.std.proofs.lemmas.Option.{slice_get-map}
use Rattle.htn_base.specs.Different.{AreDifferent}
use Rattle.plan_model.specs.declared.networks.Pair.{Pair}
use Rattle.plan_model.specs.declared.schemas.MethodPlan.{MethodPlan}
use Rattle.plan_model.specs.declared.values.Compiled.{Compiled}
use Rattle.plan_model.specs.Pairs.{pair, Pairs}
use Rattle.plan_model.specs.task_networks.Net.{Net}
use Rattle.plan_model.specs.task_networks.Lawful.{IsLawful}
use Rattle.plan_model.specs.task_networks.Tree.{split, used, Address, label_at}
use Rattle.plan_model.specs.task_networks.Spelling.{Act}
use Rattle.plan_model.specs.plan_meaning.Network.{GroundMethod, network, IsGroundMethod}
use Rattle.plan_model.specs.plan_meaning.Solution.{top_work}
use Rattle.plan_model.proofs.task_networks.Lists.{Contains-here, Contains-later}
use Rattle.plan_model.proofs.task_networks.Filters.{filter_to, to_filter, different-filter}
use Rattle.plan_model.proofs.task_networks.Nodes.{grown_at}
use Rattle.plan_model.proofs.task_networks.Parents.{split_at}
use Rattle.slot_machine.proofs.OtherChildren.{map_cases, Contains-map}
use Rattle.slot_machine.proofs.Matching.{parent_used}
use Rattle.tree_core.specs.declared.label.Label.{Label}
use Rattle.tree_core.specs.declared.label.Label.TheVariants.{Primitive, Check, Abstract}
use Rattle.tree_core.specs.declared.growth.Growth as Grown
use Rattle.tree_core.specs.Growths.{Growth, IsUnder}
use Rattle.tree_core.proofs.Gets.{get_within, get_some}
use Rattle.decoding.specs.HeldLeaves as Held
use Rattle.decoding.specs.Keeping.{IsLoweredBy}
use Rattle.decoding.specs.KeepingLaws.{WalkGoes}
use Rattle.decoding.proofs.KeptFronts.{walk_goes_up, walk_is_over}
use Rattle.kept_front.specs.declared.leaves.Leaf.{Leaf}
use Rattle.kept_front.specs.declared.later.Later.{Later}
use Rattle.kept_front.specs.declared.front.Front.{Front}
use Rattle.kept_front.specs.Leaves.{leaf_at, place_of, Place}
use Rattle.kept_front.specs.Nodes.{unfinished_at}
use Rattle.kept_front.specs.Later.{followers, after, AreLater, AreAllLater}
use Rattle.kept_front.specs.Fronts.{label_in, growth_in, work_under, leaf_of, growths_in, kept, IsFrontOf, IsWholeAt, method_of, later_at, parent_at, child_at, IsLowered, MayLower}

-- those that follow are those of the pairs
follows : (pairs : List Pair) (i j : ℕ) → Contains (followers pairs i) j ↔ Pairs pairs i j
follows pairs i j = (to, from)
  where
    to : Contains (followers pairs i) j → Pairs pairs i j
    to c =
        let (p, k, e) = map_cases (λ (p : Pair). p.then) (filter (λ (p : Pair). p.first == i) pairs) j c in
        let (l, t) = filter_to (λ (p : Pair). p.first == i) pairs p k in
        let f = eqb-true p.first i t in
        subst (Contains pairs) (λ z. record { first = f z; then = e z }) l

    from : Pairs pairs i j → Contains (followers pairs i) j
    from c = Contains-map (λ (p : Pair). p.then) (filter (λ (p : Pair). p.first == i) pairs) (pair i j) (to_filter (λ (p : Pair). p.first == i) pairs (pair i j) c (eq-eqb i i refl))

different_mapped : (pairs : List Pair) (i : ℕ) → AreDifferent pairs → ((p : Pair) → Contains pairs p → p.first ≡ i) → AreDifferent (map (λ (p : Pair). p.then) pairs)
different_mapped [] i d f = tt
different_mapped (p ∷ pairs) i d f = (
  λ c. (
      let (q, k, e) = map_cases (λ (p : Pair). p.then) pairs p.then c in
      let g = f q (Contains-later p pairs q k) ∙ sym (f p (Contains-here p pairs)) in
      d.0 (subst (Contains pairs) (λ z. record { first = g z; then = e z }) k)),
  different_mapped pairs i d.1 (λ q k. f q (Contains-later p pairs q k)),
)

different_followers : (pairs : List Pair) (i : ℕ) → AreDifferent pairs → AreDifferent (followers pairs i)
different_followers pairs i d =
    different_mapped (filter (λ (p : Pair). p.first == i) pairs) i (different-filter (λ (p : Pair). p.first == i) pairs d)
    (λ p k. eqb-true p.first i (filter_to (λ (p : Pair). p.first == i) pairs p k).1)

module _ (c : Compiled) where
  abbrev N : Net
  N = network c

  pub method_is : (l : Label) (m : GroundMethod) → label_in c l ≡ used m → method_of l ≡ Some m.number
  method_is (Primitive a args) m e = absurd cc
  method_is (Check k values) m e = absurd cc
  method_is (Abstract t args k values) m e = let f : record { number = k; values = values } ≡ m = cc in ap (λ (z : GroundMethod). Some z.number) f

  -- a leaf of the network goes by its place
  abbrev at_place_in : List (Growth N) → Place → Held.Leaf N
  at_place_in growths place = record { parent = place.0; child = place.1; work = work_under c growths place.0 place.1 }

  by_place : (growths : List (Growth N)) (one other : Option Leaf) → option_map place_of one ≡ option_map place_of other → option_map (leaf_of c growths) one ≡ option_map (leaf_of c growths) other
  by_place growths None None e = refl
  by_place growths None (Some y) e = absurd cc
  by_place growths (Some x) None e = absurd cc
  by_place growths (Some x) (Some y) e = ap (option_map (at_place_in growths)) e

  pub pair_of : (m : GroundMethod) (plan : MethodPlan) → slice_get c.methods m.number ≡ Some plan → (i j : ℕ) → N.Pair m i j ↔ Pairs plan.schema.pairs i j
  pair_of m plan e i j =
      let P : Option MethodPlan → Type 0 = λ o. MatchOption o ⊥ (λ (plan : MethodPlan). Pairs plan.schema.pairs i j) in
      (subst P e, subst P (sym e))

  module _ (old new : Front) (i x : ℕ) (m : GroundMethod) (plan : MethodPlan) (is : slice_get c.methods m.number ≡ Some plan) (low : IsLowered x (followers plan.schema.pairs i) old new) where
    lowered : IsLoweredBy N (kept c old) (kept c new) m i x
    lowered = record {
      growths = ap (map (growth_in c)) low.growths;
      held = λ y. subst (λ z. option_map (leaf_of c (map (growth_in c) z)) (leaf_at new.leaves y) ≡ option_map (leaf_of c (growths_in c old)) (leaf_at old.leaves y)) (sym low.growths)
          (by_place (growths_in c old) (leaf_at new.leaves y) (leaf_at old.leaves y) (low.places y));
      slots = λ k j l. low.slots k j;
      blocked_falls = λ j d. low.falls j ((follows plan.schema.pairs i j).1 ((pair_of m plan is i j).0 d));
      blocked_stays = λ y h. low.stays y (λ j d. h j ((pair_of m plan is i j).1 ((follows plan.schema.pairs i j).0 d)));
      open_falls = low.unfinished_falls;
      open_stays = low.unfinished_stays;
    }

  -- what the code finds on the way, and what it may do
  pub record WalkStep (b : ℕ) (acts : List (Act N)) (a : Act N) (front : Front) (laters : List Later) (i x : ℕ) : Type 0 where
    pub later : Later
    pub found : later_at laters front x ≡ Some later
    pub may : MayLower x (after later i) front
    pub whole : (new : Front) → IsLowered x (after later i) front new → unfinished_at new.nodes x ≡ 0 → IsWholeAt c b new x acts a
    pub done : (new : Front) → IsLowered x (after later i) front new → 1 ≤ unfinished_at new.nodes x → IsFrontOf c b new (acts ++ a ∷ [])

  -- the same, of the list that is gone over
  pub record WalkAlong (b : ℕ) (acts : List (Act N)) (a : Act N) (front : Front) (list : List ℕ) (x : ℕ) : Type 0 where
    pub may : MayLower x list front
    pub whole : (new : Front) → IsLowered x list front new → unfinished_at new.nodes x ≡ 0 → IsWholeAt c b new x acts a
    pub done : (new : Front) → IsLowered x list front new → 1 ≤ unfinished_at new.nodes x → IsFrontOf c b new (acts ++ a ∷ [])

  module _ (law : IsLawful N) (b : ℕ) (acts : List (Act N)) (a : Act N) (front : Front) (k : ℕ) (w : IsWholeAt c b front k acts a) where
    -- as many growths as nodes in the order
    many : length w.longer ≡ length front.growths
    many = w.fits.growths_are.many ∙ length-map front.growths (growth_in c)

    -- a growth stands there
    pub stands : (g : Grown.Growth) × (slice_get front.growths k ≡ Some g)
    stands = get_some front.growths k (let x = get_within w.longer k w.node w.is_at in let y = many in omega arith)

    kept_at : (k : ℕ) (g : Grown.Growth) → slice_get front.growths k ≡ Some g → slice_get (growths_in c front) k ≡ Some (growth_in c g)
    kept_at k g e = slice_get-map (growth_in c) front.growths k ∙ ap (option_map (growth_in c)) e

    pub over : (g : Grown.Growth) → slice_get front.growths k ≡ Some g → g.parent ≡ None → IsFrontOf c b front (acts ++ a ∷ [])
    over g e n = walk_is_over N law b (top_work c) (kept c front) acts a k (growth_in c g) w (kept_at k g e) n

    module _ (g : Grown.Growth) (e : slice_get front.growths k ≡ Some g) (x : ℕ) (up : g.parent ≡ Some x) where
      under : (x < k) × ((q : Address) × (slice_get w.longer x ≡ Some q) × (w.node ≡ g.child ∷ q))
      under = subst (λ z. IsUnder N w.longer k z g.child w.node) up (w.fits.growths_are.under k (growth_in c g) w.node (kept_at k g e) w.is_at)

      abbrev q : Address
      q = under.1.0

      parent_used_by : (m : GroundMethod) × (label_at N w.grown q ≡ Some (used m))
      parent_used_by = parent_used N w.grown g.child q (label_in c g.label) (ap (label_at N w.grown) (sym under.1.2) ∙ w.fits.growths_are.labels k (growth_in c g) w.node (kept_at k g e) w.is_at)

      abbrev m : GroundMethod
      m = parent_used_by.0

      parent_stands : (h : Grown.Growth) × (slice_get front.growths x ≡ Some h)
      parent_stands = get_some front.growths x (let y = get_within w.longer x q under.1.1 in let z = many in omega arith)

      abbrev h : Grown.Growth
      h = parent_stands.0

      labelled : label_in c h.label ≡ used m
      labelled =
          let y = w.fits.growths_are.labels x (growth_in c h) q (kept_at x h parent_stands.1) under.1.1 in
          let z = parent_used_by.1 in
          cc

      ground : IsGroundMethod c m
      ground = let (ts, y) = split_at N w.grown q m parent_used_by.1 in (grown_at N w.grown q (split m ts) w.spells.front.grown y).0

      abbrev plan : MethodPlan
      plan = ground.plan

      goes : WalkGoes N b (top_work c) (kept c front) acts a g.child x m
      goes = walk_goes_up N law b (top_work c) (kept c front) acts a k x (growth_in c g) (growth_in c h) m w (kept_at k g e) up (kept_at x h parent_stands.1) labelled

      abbrev later_list : List ℕ
      later_list = followers plan.schema.pairs g.child

      pair_here : (j : ℕ) → Contains later_list j → N.Pair m g.child j
      pair_here j d = (pair_of m plan ground.is g.child j).1 ((follows plan.schema.pairs g.child j).0 d)

      module _ (laters : List Later) (all : AreAllLater c laters) where
        found : (later : Later) × (slice_get laters m.number ≡ Some later) × AreLater plan.schema.pairs later × AreDifferent plan.schema.pairs
        found = all m.number plan ground.is

        same : later_list ≡ after found.0 g.child
        same = sym (found.2.after_each g.child)

        may : MayLower x later_list front
        may = record {
          blocked = λ j d. (goes.waiting j (pair_here j d)).0;
          apart = λ j i d f. goes.apart j i (pair_here j d) (pair_here i f);
          once = different_followers plan.schema.pairs g.child found.3;
          unfinished = goes.parent;
        }

        pub walk_step : WalkStep b acts a front laters g.child x
        walk_step = record {
          later = found.0;
          found = ap (λ z. option_and_then (slice_get laters) (option_and_then (λ (y : Grown.Growth). method_of y.label) z)) parent_stands.1
              ∙ ap (option_and_then (slice_get laters)) (method_is h.label m labelled) ∙ found.1;
          may = subst (λ z. MayLower x z front) same may;
          whole = λ new low z. goes.whole (kept c new) (lowered front new g.child x m plan ground.is (subst (λ y. IsLowered x y front new) (sym same) low)) z;
          done = λ new low z. goes.done (kept c new) (lowered front new g.child x m plan ground.is (subst (λ y. IsLowered x y front new) (sym same) low)) z;
        }

    -- the same, in the code's words
    pub walk_over : parent_at front k ≡ None → IsFrontOf c b front (acts ++ a ∷ [])
    walk_over n = let (g, e) = stands in over g e (sym (ap (option_and_then (λ (z : Grown.Growth). z.parent)) e) ∙ n)

    pub parent_before : (x : ℕ) → parent_at front k ≡ Some x → x < k
    parent_before x up = let (g, e) = stands in (under g e x (sym (ap (option_and_then (λ (z : Grown.Growth). z.parent)) e) ∙ up)).0

    pub walk_next : (laters : List Later) → AreAllLater c laters → (x : ℕ) → parent_at front k ≡ Some x → WalkStep b acts a front laters (child_at front k) x
    walk_next laters all x up =
        let (g, e) = stands in
        subst (λ z. WalkStep b acts a front laters z x) (sym (ap (λ o. option_map_or (λ (z : Grown.Growth). z.child) o 0) e))
        (walk_step g e x (sym (ap (option_and_then (λ (z : Grown.Growth). z.parent)) e) ∙ up) laters all)

    -- and with the list that is gone over
    pub walk_with : (laters : List Later) → AreAllLater c laters → (x : ℕ) → parent_at front k ≡ Some x → (later : Later) → later_at laters front x ≡ Some later → (child : ℕ) → child ≡ child_at front k
        → (list : List ℕ) → list ≡ after later child → WalkAlong b acts a front list x
    walk_with laters all x up later found child ch list le = record {
      may = subst (λ z. MayLower x z front) same s.may;
      whole = λ new low z. s.whole new (subst (λ y. IsLowered x y front new) (sym same) low) z;
      done = λ new low z. s.done new (subst (λ y. IsLowered x y front new) (sym same) low) z;
    }
      where
        s : WalkStep b acts a front laters (child_at front k) x
        s = walk_next laters all x up

        one : s.later ≡ later
        one = let e = s.found in let f = found in cc

        same : after s.later (child_at front k) ≡ list
        same = (λ i. after (one i) (sym ch i)) ∙ sym le

    pub none_missing : (laters : List Later) → AreAllLater c laters → (x : ℕ) → parent_at front k ≡ Some x → later_at laters front x ≡ None → ⊥
    none_missing laters all x up e = let s = walk_next laters all x up in let f = s.found in cc
