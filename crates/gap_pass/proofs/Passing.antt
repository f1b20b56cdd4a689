-- What the pass keeps after some steps of the tour, and the cap and the gap of one more node.
use Rattle.std.proofs.Common.{ℕ, suc, ◌≡◌, ◌<◌, ◌≤◌, ◌↔◌, List, [], ◌∷◌, length, take, get_or, Option, Some, None, option_map, slice_get, refl, ap, sym, subst, ◌∙◌, Contains, arith}
use Rattle.std.specs.Prelude.{MatchOption}
use Rattle.std.specs.Option.{option_and_then, option_map_or}
use Rattle.std.proofs.lemmas.Option.{get_or_from_slice_get, slice_get-get_or}
use Rattle.plan_model.specs.declared.schemas.MethodPlan.{MethodPlan}
use Rattle.plan_model.specs.declared.values.Compiled.{Compiled}
use Rattle.plan_model.specs.Pairs.{Pairs}
use Rattle.plan_model.specs.task_networks.Order.{Precedes, direct}
use Rattle.plan_model.specs.task_networks.Net.{Net}
use Rattle.plan_model.specs.task_networks.Tree.{Tree, used, Address, label_at, IsAddress}
use Rattle.plan_model.specs.task_networks.Schedule.{Blocks}
use Rattle.plan_model.specs.task_networks.Preorder.{preorder}
use Rattle.plan_model.specs.plan_meaning.Network.{GroundMethod, network}
use Rattle.plan_model.proofs.task_networks.Addresses.{below-itself}
use Rattle.plan_model.proofs.task_networks.Parents.{parent_label, child_address}
use Rattle.plan_texts.specs.SoundlyCompiled.{IsSoundlyCompiled}
use Rattle.tree_core.specs.Tables.{Row, IsWay}
use Rattle.tree_core.specs.Labels.{labels, labelled, labelled_node}
use Rattle.tree_core.specs.Runs.{label_in, parent_in, number_in}
use Rattle.tree_core.proofs.Gets.{get_within, one_place, at_place, place_of}
use Rattle.tree_core.proofs.Siblings.{one_node_place, place_of_node, node_address}
use Rattle.schedules.specs.latest.Gaps.{IsGapFunction}
use Rattle.schedules.specs.latest.OnePass.{IsUnder, IsCap, Fits, IsGreatestAt}
use Rattle.schedules.specs.latest.GreatestGap.{IsGreatest, IsBound}
use Rattle.schedules.proofs.latest.Counts.{found, to_place}
use Rattle.schedules.proofs.latest.GreatestGap.{is_greatest, nothing_fits, own_is_greatest}
use Rattle.schedules.proofs.latest.OnePass.{root_cap, number_fits}
use Rattle.kept_front.specs.declared.later.Later.{Later}
use Rattle.kept_front.specs.Later as laters
use Rattle.kept_front.specs.Later.{AreAllLater}
use Rattle.gap_pass.proofs.Followers.{follows}
use Rattle.gap_pass.specs.Children.{AreAllChildren, children_at}
use Rattle.gap_pass.specs.Tours.{IsAt, IsLeft, IsTour, method_of}
use Rattle.gap_pass.specs.Least.{IsLeast}
use Rattle.gap_pass.specs.Passes.{AreOwn, own_at, after_at, IsCapAt, IsGapAt}
use Rattle.gap_pass.specs.LatestGaps.{IsSetting, MayStand}
use Rattle.gap_pass.specs.declared.pass.Pass.{Pass}
use Rattle.gap_pass.specs.declared.tour.Step.{Step}
use Rattle.gap_pass.specs.declared.tour.Step.TheVariants.{Enter, Leave}
use Rattle.gap_pass.proofs.Capped.{capped}
use Rattle.gap_pass.proofs.Grown.{there, within_rows, row_at, label_here, children_here, ground}
use Rattle.gap_pass.proofs.Sound.{lawful}
use Rattle.gap_pass.proofs.TourLaws.{clear}
use Rattle.gap_pass.proofs.Places.{node_of_place, place_of_listed}

module _ (c : Compiled) (rows : List (Row labels)) (actions : List ℕ) (later : List Later) (children : List (List ℕ))
    (own : List (Option ℕ)) (may : ℕ → ℕ → Type 0)
    (tree : Tree (network c)) (plan : List Address) (steps : List Step) where
  abbrev N : Net
  N = network c

  abbrev Allowed : Address → ℕ → Type 0
  Allowed = MayStand c rows actions may tree

  -- the gaps of the nodes that are left
  abbrev pub Agrees : ℕ → List ℕ → (Address → ℕ) → Type 0
  Agrees t gaps gap = (k : ℕ) (p : Address) → IsAt N tree k p → IsLeft N tree (take t steps) k → get_or gaps k 0 ≡ gap p

  -- caps are right, each gap is the greatest that fits, and no gap function is above them
  pub record Holds (t : ℕ) (caps : List ℕ) (gap : Address → ℕ) : Type 0 where
    pub caps_are : (k : ℕ) (p : Address) → IsAt N tree k p → Contains (take t steps) (Enter k) → IsCap N tree plan gap p (get_or caps k 0)
    pub greatest : (k : ℕ) (p : Address) → IsAt N tree k p → IsLeft N tree (take t steps) k → IsGreatestAt N tree plan Allowed gap p
    pub above : (g : Address → ℕ) → IsGapFunction N tree plan Allowed g → (k : ℕ) (p : Address) → IsAt N tree k p
        → IsLeft N tree (take t steps) k → g p ≤ gap p

  module _ (soundly : IsSoundlyCompiled c) (are_later : AreAllLater c later) (are_children : AreAllChildren rows children)
      (are_own : AreOwn (length rows) actions own)
      (s : IsSetting c rows actions tree plan) (tour : IsTour N tree steps) where
    node : (k : ℕ) (p q : Address) → IsAt N tree k p → IsAt N tree k q → q ≡ p
    node k p q a b = cc

    -- the siblings right after a node
    after_is : (g : GroundMethod) (x i : ℕ) (q : Address) → IsAt N tree x q → label_at N tree q ≡ Some (used g) → (j : ℕ)
        → Contains (after_at later (label_in rows x) (Some i)) j ↔ N.Pair g i j
    after_is g x i q at_x e j =
        let b = ground c rows tree s.rows_are s.grown q g e in
        let (l, is_l, are, once) = are_later g.number b.plan b.is in
        let named : method_of (label_in rows x) ≡ Some g.number = ap method_of (label_here c rows tree s.rows_are x q at_x
        ∙ ap (option_map (labelled_node c)) e) in
        let f : after_at later (label_in rows x) (Some i) ≡ laters.followers b.plan.schema.pairs i =
        ap (λ o. option_map_or (λ m. option_map_or (λ (z : Later). laters.after z i) (slice_get later m) []) o []) named
        ∙ ap (λ o. option_map_or (λ (z : Later). laters.after z i) o []) is_l ∙ are.after_each i in
        let pairs : (Pairs b.plan.schema.pairs i j) ↔ N.Pair g i j =
        (let P : Option MethodPlan → Type 0 = λ o. MatchOption o ⊥ (λ (z : MethodPlan). Pairs z.schema.pairs i j) in
        (subst P (sym b.is), subst P b.is)) in (
          λ d. pairs.0 ((follows b.plan.schema.pairs i j).0 (subst (λ zs. Contains zs j) f d)),
          λ d. subst (λ zs. Contains zs j) (sym f) ((follows b.plan.schema.pairs i j).1 (pairs.1 d)),
        )

    pair_of_nodes : (g : GroundMethod) (q : Address) → label_at N tree q ≡ Some (used g) → (j l : ℕ) → N.Pair g j l
        → IsAddress N tree (j ∷ q)
    pair_of_nodes g q e j l h = child_address N tree q g j s.grown e ((lawful c soundly).pairs g j l h).0

    module _ (t k : ℕ) (p : Address) (at_k : IsAt N tree k p) (gap : Address → ℕ) (old : Pass) (agrees : Agrees t old.gaps.items gap)
        (h : Holds t old.caps.items gap) where
      -- the cap of a node that is entered
      child_cap : (i x : ℕ) (q : Address) (g : GroundMethod) (cap : ℕ) → p ≡ i ∷ q → IsAt N tree x q → label_at N tree q ≡ Some (used g)
          → Contains (take t steps) (Enter x)
          → ((j y : ℕ) → Precedes (N.Pair g) i j → IsAt N tree y (j ∷ q) → IsLeft N tree (take t steps) y)
          → IsLeast old.gaps.items (get_or old.caps.items x 0) (λ y. (j : ℕ) × Contains (after_at later (label_in rows x) (Some i)) j
          × (slice_get (children_at children x) j ≡ Some y)) cap
          → IsCap N tree plan gap p cap
      child_cap i x q g cap same at_x e entered needs least = subst (λ z. IsCap N tree plan gap z cap) (sym same)
          (capped N tree plan gap i q g (get_or old.caps.items x 0) cap e (h.caps_are x q at_x entered) sorted (pair_of_nodes g q e)
          (λ n. (
            λ l. (let b = (least n).0 l in (
              b.0,
              λ j a d. (
                  let (y, at_y) = place_of_node N tree (j ∷ q) a in
                  let m = b.1 y (
                    j,
                    (after_is g x i q at_x e j).1 d,
                    (children_here c rows tree s.rows_are children are_children x q at_x j
                        y).1 at_y,
                  ) in
                  let f = agrees y (j ∷ q) at_y (needs j y (direct d) at_y) in
                  omega arith),
            )),
            λ b. (least n).1 (
              b.0,
              λ y d. (
                  let (j, is, here) = d in
                  let at_y = (children_here c rows tree s.rows_are children are_children x q at_x j y).0 here in
                  let pair = (after_is g x i q at_x e j).0 is in
                  let m = b.1 j (node_address N tree y (j ∷ q) at_y) pair in
                  let f = agrees y (j ∷ q) at_y (needs j y (direct pair) at_y) in
                  omega arith),
            ),
          )))
        where
          sorted : (j l : ℕ) → IsAddress N tree (j ∷ q) → IsAddress N tree (l ∷ q) → Precedes (N.Pair g) i j → N.Pair g j l
              → gap (j ∷ q) ≤ gap (l ∷ q)
          sorted j l a b d pair =
              let (y, at_y) = place_of_node N tree (j ∷ q) a in
              (h.greatest y (j ∷ q) at_y (needs j y d at_y)).fits.under.later (l ∷ q) b (g, j, e, direct pair, below-itself (j ∷ q))

      pub cap_is : (cap : ℕ) → slice_get steps t ≡ Some (Enter k) → old.most ≡ length plan → IsCapAt later rows children old k cap
          → IsCap N tree plan gap p cap
      cap_is cap taken most is_cap = let (r, e, row) = row_at c rows tree s.rows_are k p at_k in go r e p refl row.way
        where
          IsCapBy : Option ℕ → Option ℕ → Type 0
          IsCapBy parent number = MatchOption parent (cap ≡ old.most)
              (λ x. IsLeast old.gaps.items (get_or old.caps.items x 0) (λ y. (j : ℕ) × Contains (after_at later (label_in rows x) number)
              j × (slice_get (children_at children x) j ≡ Some y)) cap)

          go : (r : Row labels) → slice_get rows k ≡ Some r → (z : Address) → p ≡ z → IsWay labels (labelled c tree) k r z
              → IsCap N tree plan gap p cap
          go r e [] same way =
              let parent : parent_in rows k ≡ None = ap (option_and_then (λ (r : Row labels). r.parent)) e ∙ way.1 in
              let f : cap ≡ length plan = subst (λ o. IsCapBy o (number_in rows k)) parent is_cap ∙ most in
              subst (λ z. IsCap N tree plan gap z cap) (sym same) (subst (IsCap N tree plan gap []) (sym f) (root_cap N tree plan gap))
          go r e (i ∷ q) same (number, (x, l, par, at)) =
              let parent : parent_in rows k ≡ Some x = ap (option_and_then (λ (r : Row labels). r.parent)) e ∙ par in
              let numbered : number_in rows k ≡ Some i =
              ap (option_and_then (λ (r : Row labels). option_map (λ x. r.number) r.parent)) e ∙ ap (option_map (λ x. r.number)) par
              ∙ ap Some number in
              let at_x = there c rows tree s.rows_are x q at in
              let here = subst (λ z. IsAt N tree k z) same at_k in
              let (g, f) = parent_label N tree i q (node_address N tree k (i ∷ q) here) in
              let ready = tour.each t (Enter k) taken in
              child_cap i x q g cap same at_x f (ready.begun i x q here at_x) (λ j y d at_y. ready.needs i j y q g here f d at_y)
              (subst (λ o. IsCapBy (Some x) o) numbered (subst (λ o. IsCapBy o (number_in rows k)) parent is_cap))

      -- a node that is left
      module _ (taken : slice_get steps t ≡ Some (Leave k)) where
        entered : Contains (take t steps) (Enter k)
        entered = (tour.each t (Leave k) taken).begun

        cap : IsCap N tree plan gap p (get_or old.caps.items k 0)
        cap = h.caps_are k p at_k entered

        kids : (i y : ℕ) → IsAt N tree y (i ∷ p) → IsLeft N tree (take t steps) y
        kids i y at_y = (tour.each t (Leave k) taken).needs i y p at_k at_y

        listed_child : (i y : ℕ) → (slice_get (children_at children k) i ≡ Some y) ↔ IsAt N tree y (i ∷ p)
        listed_child i y = children_here c rows tree s.rows_are children are_children k p at_k i y

        bound_is : (bound : ℕ) → IsLeast old.gaps.items (get_or old.caps.items k 0) (Contains (children_at children k)) bound
            → IsBound N tree plan gap p bound
        bound_is bound least n = (
          λ b. (least n).1 (
            (cap n).0 b.0,
            λ y d. (
                let (i, e) = place_of (children_at children k) y d in
                let at_y = (listed_child i y).0 e in
                let f = agrees y (i ∷ p) at_y (kids i y at_y) in
                let m = b.1 i (node_address N tree y (i ∷ p) at_y) in
                omega arith),
          ),
          λ l. (
              let b = (least n).0 l in (
                (cap n).1 b.0,
                λ i a. (
                    let (y, at_y) = place_of_node N tree (i ∷ p) a in
                    let f = agrees y (i ∷ p) at_y (kids i y at_y) in
                    let m = b.1 y (at_place (children_at children k) i y ((listed_child i y).1 at_y)) in
                    omega arith),
              )),
        )

        -- each gap function's number fits
        pub number_is : (g : Address → ℕ) → IsGapFunction N tree plan Allowed g → Fits N tree plan Allowed gap p (g p)
        number_is g r = number_fits N tree plan Allowed gap g p r (node_address N tree k p at_k)
            (λ i a. (let (y, at_y) = place_of_node N tree (i ∷ p) a in h.above g r y (i ∷ p) at_y (kids i y at_y)))
            (λ v a b. (let (y, at_y) = place_of_node N tree v a in h.above g r y v at_y
            (clear N tree steps tour t p k v y entered at_k b at_y)))

        within : k < length own
        within = let l = within_rows c rows tree s.rows_are k p at_k in let m = are_own.many in omega arith

        listed : (i : ℕ) → own_at own k ≡ Some i → slice_get plan i ≡ Some p
        listed i e =
            let f = are_own.each k i (slice_get-get_or own k None within ∙ ap Some e) in
            let (q, g, b) = node_of_place (preorder N tree) plan actions i k s.places f in
            g ∙ ap Some (node k p q at_k b)

        unlisted : own_at own k ≡ None → Contains plan p → ⊥
        unlisted e d =
            let (i, f) = to_place plan p d in
            let (x, g, b) = place_of_listed (preorder N tree) plan actions i p s.places f in
            let same : x ≡ k = one_node_place N tree x k p b at_k in
            let (j, m) = are_own.all i k (subst (λ z. slice_get actions i ≡ Some z) same g)
            (let l = within in let n = are_own.many in omega arith) in
            let n : own_at own k ≡ Some j = get_or_from_slice_get own k (Some j) None m in
            cc

        allowed : (i : ℕ) → Allowed p i → may k i
        allowed i (x, b, m) = subst (λ z. may z i) (one_node_place N tree x k p b at_k) m

        -- one more is still under what comes after it, exactly where it is less than the cap
        less : (i : ℕ) → slice_get plan i ≡ Some p → IsUnder N tree plan gap p i → ((v : Address) → IsAddress N tree v → Blocks N tree p v
            → i < gap v) → i < get_or old.caps.items k 0
        less i e u f =
            let l = get_within plan i p e in
            let m = (cap (suc i)).0 (record { range = omega arith; later = λ v a b. (let n = f v a b in omega arith) }) in
            omega arith

        no_children : (i n : ℕ) → slice_get plan i ≡ Some p → IsAddress N tree (n ∷ p) → ⊥
        no_children i n e a =
            let (w, f) = s.is_plan.leaves p (found plan i p e) in
            let (g, m) = parent_label N tree n p a in
            cc

        own_fits : (i : ℕ) → slice_get plan i ≡ Some p → gap p ≡ i → i < get_or old.caps.items k 0 → may k i
            → Fits N tree plan Allowed gap p (gap p)
        own_fits i e f l m =
            let u = (cap (suc i)).1 (omega arith) in
            subst (Fits N tree plan Allowed gap p) (sym f) (record {
              under = (cap i).1 (omega arith);
              own = λ j b. one_place plan s.is_plan.different i j p e b;
              children = λ n a. absurd (no_children i n e a);
              primitive = λ d v a b. (let n = u.later v a b in omega arith);
              allowed = (k, at_k, m);
            })

        pub is_gap : (x : ℕ) → gap p ≡ x → IsGapAt children old (may k) (own_at own k) k (Some x) → IsGreatestAt N tree plan Allowed gap p
        is_gap x f is = go (own_at own k) refl is
          where
            go : (o : Option ℕ) → own_at own k ≡ o → IsGapAt children old (may k) o k (Some x) → IsGreatestAt N tree plan Allowed gap p
            go None e (bound, least, g) = is_greatest N Allowed tree plan gap p bound (unlisted e) (bound_is bound least)
                (subst (IsGreatest (Allowed p) bound) (sym f) (record {
                  within = g.within;
                  holds = (k, at_k, g.holds);
                  greatest = λ i l a. g.greatest i l (allowed i a);
                }))
            go (Some i) e (same, l, m) = (own_is_greatest N Allowed tree plan gap i p (listed i e)
                (own_fits i (listed i e) (f ∙ same) l m)).1

        pub no_gap : IsGapAt children old (may k) (own_at own k) k None → (n : ℕ) → Fits N tree plan Allowed gap p n → ⊥
        no_gap is = go (own_at own k) refl is
          where
            go : (o : Option ℕ) → own_at own k ≡ o → IsGapAt children old (may k) o k None → (n : ℕ) → Fits N tree plan Allowed gap p n → ⊥
            go None e (bound, least, g) n f = nothing_fits N Allowed tree plan gap p bound (bound_is bound least)
                (λ i l a. g i l (allowed i a)) n f
            go (Some i) e g n f =
                let b = listed i e in
                let same : n ≡ i = f.own i b in
                g (less i b (subst (IsUnder N tree plan gap p) same f.under)
                (λ v a d. subst (λ z. z < gap v) same (f.primitive (found plan i p b) v a d)))
                (subst (may k) same (allowed n f.allowed))
