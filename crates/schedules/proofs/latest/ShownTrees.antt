-- A tree with a schedule shows a plan exactly where the plan's ids are the tree's nodes and the actions stand in the schedule in the order of their lines.
use Rattle.std.proofs.Common.{ℕ, ◌≡◌, ◌↔◌, inl, List, [], map, filter, get_or, Some, None, Bool, true, false, refl, ap, sym, subst, ◌∙◌, Contains}
use Rattle.std.specs.List.{filter_map}
use Rattle.std.specs.List.Sorted.{IsPermutation}
use Rattle.std.proofs.lemmas.Simd.{map-map}
use Rattle.std.proofs.lemmas.List.Sorted.{IsPermutation-sym, IsPermutation-map, Contains-permutation}
use Rattle.std.proofs.lemmas.List.Elements.{Contains-append_left, Contains-append_right}
use Rattle.htn_base.specs.Different.{AreDifferent}
use Rattle.htn_base.proofs.DifferentLemmas.{different-left, different-right}
use Rattle.plan_model.specs.task_networks.Net.{Net}
use Rattle.plan_model.specs.task_networks.Tree.{Tree, ran, Address, label_at, IsAddress, IsOpen, IsGrown}
use Rattle.plan_model.specs.task_networks.Schedule.{IsSchedule}
use Rattle.plan_model.specs.task_networks.Listed.{is_listed}
use Rattle.plan_model.proofs.task_networks.Different.{different_append}
use Rattle.plan_model.proofs.task_networks.PendingNodes.{among_to, to_among}
use Rattle.schedules.specs.latest.Gaps.{IsPlanOf}
use Rattle.schedules.specs.latest.PlanLines.{StepLine, SplitLine, PlanLines, step_ids, line_ids, IsId, renamed_step, renamed_split, IsOneToOne, IsRenumbering}
use Rattle.schedules.specs.latest.Shown.{PlanWords, step_line, split_line, lines, number, plan_of, Shows, IsTreeOf, step_nodes}
use Rattle.plan_model.proofs.plan_meaning.Pairs.{map_to}
use Rattle.schedules.proofs.latest.Rearranged.{in_map, in_filter_map, from_filter_map, different_from_map, different_map, different_permutation, permutation_of, filter_map_given, filter_map_kept, back_is_filter}
use Rattle.schedules.proofs.latest.Renumbered.{is_renamed, is_old, renumbered_twice}
use Rattle.schedules.proofs.latest.LinesOfTrees.{place_at, step_of, step_id, split_id, step_node, split_node, not_both, in_order, different_steps, different_splits, id_is_line}

module _ (N : Net) (W : PlanWords N) (tree : Tree N) where
  abbrev Plan : Type 0
  Plan = PlanLines ℕ W.Step W.Split

  -- the nodes of a plan's actions
  module _ (plan : Plan) (node : ℕ → Address) (t : IsTreeOf N W tree plan node) where
    pub in_step_nodes : (l : StepLine ℕ W.Step) → Contains plan.steps l → Contains (step_nodes N W node plan) (node l.id)
    in_step_nodes l c = in_map node (step_ids plan) l.id (in_map (λ k. k.id) plan.steps l c)

    pub from_step_nodes : (p : Address) → Contains (step_nodes N W node plan) p
        → (l : StepLine ℕ W.Step) × Contains plan.steps l × (node l.id ≡ p)
    from_step_nodes p c =
        let (i, d, e) = map_to node (step_ids plan) p c in
        let (l, f, g) = map_to (λ k. k.id) plan.steps i d in
        (l, f, ap node g ∙ e)

    pub different_step_nodes : AreDifferent (step_nodes N W node plan)
    different_step_nodes = different_map node (step_ids plan)
        (λ i j a b e. t.one_to_one i j (inl (Contains-append_left (step_ids plan) (map (λ l. l.id) plan.splits) i a)) (inl (Contains-append_left (step_ids plan) (map (λ l. l.id) plan.splits) j b)) e)
        (different-left (step_ids plan) (map (λ l. l.id) plan.splits) t.different)

    pub steps_are_plan : ((p : Address) → IsOpen N tree p → ⊥) → IsPlanOf N tree (step_nodes N W node plan)
    steps_are_plan no_leaves = record {
      finished = no_leaves;
      different = different_step_nodes;
      leaves = λ p c. (let (l, d, e) = from_step_nodes p c in let h = step_of N W (label_at N tree (node l.id)) (node l.id) (renamed_step node l) (t.steps l d) in (h.0, subst (λ z. label_at N tree z ≡ Some (ran h.0)) e h.1));
    }

  module _ (grown : IsGrown N tree) (no_leaves : (p : Address) → IsOpen N tree p → ⊥) (order : List Address)
      (s : IsSchedule N tree order) where
    abbrev L : PlanLines Address W.Step W.Split
    L = lines N W tree order

    listed : (p : Address) → IsAddress N tree p → Contains order p
    listed p a = in_order N W tree grown no_leaves order s p a

    number_back : (p : Address) → IsId L p → get_or (line_ids L) (number N W tree order p) [] ≡ p
    number_back p a = place_at (line_ids L) p (id_is_line N W tree grown no_leaves order s p a)

    module _ (plan : Plan) (node : ℕ → Address) where
      abbrev its_steps : List Address
      its_steps = step_nodes N W node plan

      -- from a renumbering
      module _ (r : IsRenumbering node plan L) where
        step_at : (l : StepLine ℕ W.Step) → Contains plan.steps l → step_line N W tree (node l.id) ≡ Some (renamed_step node l)
        step_at l c =
            let (p, d, e) = from_filter_map (step_line N W tree) order (renamed_step node l) (subst (λ z. Contains z (renamed_step node l)) (sym r.steps) (in_map (renamed_step node) plan.steps l c)) in
            subst (λ z. step_line N W tree z ≡ Some (renamed_step node l)) (sym (step_id N W tree p (renamed_step node l) e)) e

        split_at : (l : SplitLine ℕ W.Split) → Contains plan.splits l → split_line N W tree (node l.id) ≡ Some (renamed_split node l)
        split_at l c =
            let (p, d, e) = from_filter_map (split_line N W tree) order (renamed_split node l) (Contains-permutation (map (renamed_split node) plan.splits) L.splits (renamed_split node l) r.splits (in_map (renamed_split node) plan.splits l c)) in
            subst (λ z. split_line N W tree z ≡ Some (renamed_split node l)) (sym (split_id N W tree p (renamed_split node l) e)) e

        same_steps : step_ids L ≡ its_steps
        same_steps = ap (map (λ l. l.id)) r.steps ∙ map-map (λ l. l.id) (renamed_step node) plan.steps ∙ sym (map-map node (λ l. l.id) plan.steps)

        is_different : AreDifferent (line_ids plan)
        is_different = different_append (step_ids plan) (map (λ l. l.id) plan.splits)
            (different_from_map node (step_ids plan) (subst AreDifferent same_steps (different_steps N W tree grown no_leaves order s)))
            (different_from_map node (map (λ l. l.id) plan.splits) (subst AreDifferent (map-map (λ l. l.id) (renamed_split node) plan.splits ∙ sym (map-map node (λ l. l.id) plan.splits))
            (different_permutation (map (λ l. l.id) (map (renamed_split node) plan.splits)) (map (λ l. l.id) L.splits) (IsPermutation-map (λ l. l.id) (map (renamed_split node) plan.splits) L.splits r.splits) (different_splits N W tree grown no_leaves order s))))
            (λ i c d. (
            let (l, e, f) = map_to (λ l. l.id) plan.steps i c in
            let (k, g, h) = map_to (λ l. l.id) plan.splits i d in
            not_both N W tree (node i) (renamed_step node l) (renamed_split node k) (subst (λ z. step_line N W tree (node z) ≡ Some (renamed_step node l)) f (step_at l e)) (subst (λ z. split_line N W tree (node z) ≡ Some (renamed_split node k)) h (split_at k g))))

        pub tree_from : IsTreeOf N W tree plan node
        tree_from = record {
          different = is_different;
          one_to_one = r.one_to_one;
          root = r.root;
          steps = step_at;
          splits = split_at;
          all_steps = λ p l e. (
              let c = in_filter_map (step_line N W tree) order p l (listed p (step_node N W tree p l e)) e in
              let (k, d, f) = map_to (renamed_step node) plan.steps l (subst (λ z. Contains z l) r.steps c) in
              (k, d, ap (λ z. z.id) f ∙ step_id N W tree p l e));
          all_splits = λ p l e. (
              let c = in_filter_map (split_line N W tree) order p l (listed p (split_node N W tree p l e)) e in
              let (k, d, f) = map_to (renamed_split node) plan.splits l (Contains-permutation L.splits (map (renamed_split node) plan.splits) l (IsPermutation-sym (map (renamed_split node) plan.splits) L.splits r.splits) c) in
              (k, d, ap (λ z. z.id) f ∙ split_id N W tree p l e));
        }

        pub steps_in_order : filter (is_listed its_steps) order ≡ its_steps
        steps_in_order = subst (λ z. filter (is_listed z) order ≡ z) same_steps (back_is_filter (step_line N W tree) (λ l. l.id) (is_listed (step_ids L)) order (step_id N W tree)
            (λ p l c e. to_among (step_ids L) p (subst (Contains (step_ids L)) (step_id N W tree p l e) (in_map (λ l. l.id) L.steps l (in_filter_map (step_line N W tree) order p l c e))))
            (λ p c e. not_among p e (is_listed (step_ids L) p) refl))
          where
            not_among : (p : Address) → step_line N W tree p ≡ None → (b : Bool) → is_listed (step_ids L) p ≡ b → b ≡ false
            not_among p e false f = refl
            not_among p e true f =
                let (l, d, g) = map_to (λ l. l.id) L.steps p (among_to (step_ids L) p f) in
                let (q, c, h) = from_filter_map (step_line N W tree) order l d in
                let k : p ≡ q = sym g ∙ step_id N W tree q l h in
                let m = ap (step_line N W tree) k in
                absurd cc

      -- and back
      module _ (t : IsTreeOf N W tree plan node) (in_place : filter (is_listed its_steps) order ≡ its_steps) where
        pub renumbering_from : IsRenumbering node plan L
        renumbering_from = record { one_to_one = t.one_to_one; steps = steps; root = t.root; splits = splits }
          where
            steps : L.steps ≡ map (renamed_step node) plan.steps
            steps =
                sym (filter_map_kept (step_line N W tree) (is_listed its_steps) order (λ p l c e. (let (k, d, f) = t.all_steps p l e in to_among its_steps p (subst (Contains its_steps) f (in_step_nodes plan node t k d)))))
                ∙ ap (filter_map (step_line N W tree)) (in_place ∙ map-map node (λ l. l.id) plan.steps)
                ∙ filter_map_given (step_line N W tree) (λ l. node l.id) (renamed_step node) plan.steps t.steps

            split_ids_different : AreDifferent (map node (map (λ l. l.id) plan.splits))
            split_ids_different = different_map node (map (λ l. l.id) plan.splits)
                (λ i j a b e. t.one_to_one i j (inl (Contains-append_right (step_ids plan) (map (λ l. l.id) plan.splits) i a)) (inl (Contains-append_right (step_ids plan) (map (λ l. l.id) plan.splits) j b)) e)
                (different-right (step_ids plan) (map (λ l. l.id) plan.splits) t.different)

            splits : IsPermutation (map (renamed_split node) plan.splits) L.splits
            splits = permutation_of (map (renamed_split node) plan.splits) L.splits
                (different_from_map (λ l. l.id) (map (renamed_split node) plan.splits) (subst AreDifferent (map-map node (λ l. l.id) plan.splits ∙ sym (map-map (λ l. l.id) (renamed_split node) plan.splits)) split_ids_different))
                (different_from_map (λ l. l.id) L.splits (different_splits N W tree grown no_leaves order s))
                (λ l c. (let (k, d, e) = map_to (renamed_split node) plan.splits l c in
                let f = t.splits k d in
                subst (Contains L.splits) e (in_filter_map (split_line N W tree) order (node k.id) (renamed_split node k) (listed (node k.id) (split_node N W tree (node k.id) (renamed_split node k) f)) f)))
                (λ l c. (let (p, d, e) = from_filter_map (split_line N W tree) order l c in
                let (k, g, h) = t.all_splits p l e in
                let f = t.splits k g in
                let same : renamed_split node k ≡ l = (let j = ap (split_line N W tree) h in cc) in
                subst (Contains (map (renamed_split node) plan.splits)) same (in_map (renamed_split node) plan.splits k g)))

    pub shows_exactly : (plan : Plan)
        → Shows N W tree plan order
        ↔ ((node : ℕ → Address) × IsTreeOf N W tree plan node × (filter (is_listed (step_nodes N W node plan)) order ≡ step_nodes N W node plan))
    shows_exactly plan = (to, from)
      where
        to : Shows N W tree plan order
            → (node : ℕ → Address) × IsTreeOf N W tree plan node
            × (filter (is_listed (step_nodes N W node plan)) order ≡ step_nodes N W node plan)
        to (new, r) =
            let old : ℕ → Address = λ k. get_or (line_ids L) k [] in
            let back = is_old (number N W tree order) L old number_back in
            let both = renumbered_twice new old plan (plan_of N W tree order) L r back in
            ((λ i. old (new i)), tree_from plan (λ i. old (new i)) both, steps_in_order plan (λ i. old (new i)) both)

        from : ((node : ℕ → Address) × IsTreeOf N W tree plan node × (filter (is_listed (step_nodes N W node plan)) order ≡ step_nodes N W node plan)) → Shows N W tree plan order
        from (node, t, e) =
            let r = renumbering_from plan node t e in
            let one : IsOneToOne (number N W tree order) L = λ p q a b f. sym (number_back p a) ∙ ap (λ k. get_or (line_ids L) k []) f ∙ number_back q b in
            ((λ i. number N W tree order (node i)), renumbered_twice node (number N W tree order) plan L (plan_of N W tree order) r (is_renamed (number N W tree order) L one))
