-- A solution shows a plan exactly where the plan's tree has a gap function with some values for each method.
use Rattle.std.proofs.Common.{ℕ, ◌≡◌, ◌⊎◌, inr, ◌∙◌, true, false, List, [], ◌∷◌, slice_get, Option, Some, None, option_map, MatchOption, refl, ap, sym, subst, Contains}
use Rattle.plan_model.specs.declared.options.Checks.{Checks}
use Rattle.plan_model.specs.declared.schemas.MethodPlan.{MethodPlan}
use Rattle.plan_model.specs.declared.values.Hddl.{Hddl}
use Rattle.plan_model.specs.declared.values.Compiled.{Compiled}
use Rattle.plan_model.specs.Pairs.{Pairs}
use Rattle.plan_model.specs.task_networks.Order.{Precedes, direct, through}
use Rattle.plan_model.specs.task_networks.Net.{Net}
use Rattle.plan_model.specs.task_networks.Tree.{Tree, open_leaf, done, split, Label, waits, ran, used, Address, label_at, work_of, IsAddress}
use Rattle.plan_model.specs.task_networks.Executable.{AreLabels}
use Rattle.plan_model.specs.plan_meaning.Truth.{State}
use Rattle.plan_model.specs.plan_meaning.Network.{Work, action, check, task, GroundMethod, network}
use Rattle.plan_model.specs.plan_meaning.Solution.{top_work, Allows, next, initial, IsGoal, IsSolution}
use Rattle.plan_model.proofs.task_networks.Lists.{Contains-here, Contains-later}
use Rattle.plan_model.proofs.net_order.Closures.{decide_chain}
use Rattle.plan_model.proofs.plan_meaning.CompiledNetworks.{prepared}
use Rattle.hplan_text.specs.declared.values.HPlan.{HPlan}
use Rattle.schedules.specs.latest.Gaps.{IsPlanOf, IsGapFunction, IsLatest, IsPlaced, gap_in}
use Rattle.schedules.specs.latest.LatestSchedule.{IsScheduleOf}
use Rattle.schedules.specs.latest.Laws.{IsOrderDecided}
use Rattle.schedules.specs.latest.Relabelled.{new_label}
use Rattle.schedules.specs.latest.Choices.{IsChoice}
use Rattle.schedules.proofs.latest.GrownTrees.{simple_at}
use Rattle.schedules.specs.latest.Execution.{AllowedAt}
use Rattle.schedules.specs.latest.Shown.{PlanWords, AreTelling, SaysTheSame, Shows}
use Rattle.schedules.specs.latest.ShownLaws.{IsShown}
use Rattle.schedules.proofs.latest.Choices.{some_gaps, placed_exactly_where_gaps}
use Rattle.schedules.proofs.latest.LinesOfTrees.{step_of}
use Rattle.schedules.proofs.latest.ShownTrees.{from_step_nodes}
use Rattle.schedules.specs.latest.PlanLines.{renamed_step}
use Rattle.schedules.proofs.latest.Shapes.{same_gap_functions, shape_back, same_plan, address_back}
use Rattle.schedules.proofs.latest.Execution.{labels_of}
use Rattle.schedules.proofs.latest.ShownTheorem.{in_order, steps, shown_is_placed}
use Rattle.schedules.proofs.latest.ShownSolutions.{solutions_that_show}
use Rattle.schedules.proofs.latest.SameTrees.{same_step_nodes}
use Rattle.schedules.proofs.latest.Theorem.{induces, placed}
use Rattle.plan_encoder.specs.Calls.{is_check, words, lines_of}
use Rattle.plan_encoder.specs.ChosenValues.{with_values, CanHave, method_with, work_with, chosen, is_checked_by, ParentCanHave, chooser, state_in, LabelMayStand, MayStand}
use Rattle.plan_encoder.specs.Laws.{IsOf, IsTreeOfPlan, SomeSolutionShows, actions, HasTree, MayStandSomehow, MayStandWith, GoalAfter, SolutionsExactlyWhereGaps, SolutionsExactlyWherePlaced, IsLatestSolution, LatestIsSolution}
use Rattle.plan_encoder.proofs.ChosenTrees.{label_chosen, work_stays, tree_for_chosen}
use Rattle.plan_encoder.proofs.Standing.{check_is_first, check_below, choice, each_can_have, each_allowed}
use Rattle.plan_encoder.proofs.SameRecords.{alike, same_work, same_number, can_have}
use Rattle.plan_encoder.proofs.Telling.{words_tell}

-- the order of a compiled network is decided
pub order_decided : (h : Hddl) (mode : Checks) (c : Compiled) → IsOf h mode c → IsOrderDecided (network c)
order_decided h mode c of = record { acyclic = (prepared h mode c of.ordered of.compiled).acyclic; precedes = λ g i j. decided (slice_get c.methods g.number) i j }
  where
    decided : (o : Option MethodPlan) (i j : ℕ)
        → Precedes (λ i j. MatchOption o ⊥ (λ plan. Pairs plan.schema.pairs i j)) i j
        ⊎ (Precedes (λ i j. MatchOption o ⊥ (λ plan. Pairs plan.schema.pairs i j)) i j → ⊥)
    decided None i j = inr (none i j)
      where
        none : (i j : ℕ) → Precedes (λ i j. MatchOption None ⊥ (λ (plan : MethodPlan). Pairs plan.schema.pairs i j)) i j → ⊥
        none i j (direct x) = x
        none i j (through y x) = x
    decided (Some p) i j = decide_chain p.schema.pairs i j

module _ (h : Hddl) (mode : Checks) (c : Compiled) (of : IsOf h mode c) where
  abbrev N : Net
  N = network c

  abbrev W : PlanWords N
  W = words c

  abbrev top : Work
  top = top_work c

  told : AreTelling N W top
  told = words_tell c h mode of.sound of.compiled

  check_keeps : (w : Work) → W.is_check w ≡ true → (s : State) → next c s (ran w) ≡ s
  check_keeps (action a args) e s = absurd cc
  check_keeps (check m values) e s = refl
  check_keeps (task t args) e s = absurd cc

  module _ (plan : HPlan) (labels : List (Label N)) where
    -- the solutions on one tree of the plan
    solutions_on : (tree : Tree N) (node : ℕ → Address) → IsTreeOfPlan c plan tree node → AreLabels N tree (actions c plan node) labels
        → (order : List Address)
        → (IsSolution c tree order × Shows N W tree (lines_of plan) order
        → IsShown N W top (AllowedAt N State (Allows c) (next c) (initial c) tree labels) (lines_of plan) tree node order
        × GoalAfter c labels)
        × (IsShown N W top (AllowedAt N State (Allows c) (next c) (initial c) tree labels) (lines_of plan) tree node order × GoalAfter c labels
        → IsSolution c tree order × Shows N W tree (lines_of plan) order)
    solutions_on tree node t are order =
        let x = solutions_that_show N W top told State (Allows c) (next c) check_keeps (λ m s. refl) (lines_of plan) tree node t (initial c) (IsGoal c) labels are order in
        (x.0, x.1)

    module _ (tree : Tree N) (node : ℕ → Address) (t : IsTreeOfPlan c plan tree node)
        (are : AreLabels N tree (actions c plan node) labels) where
      abbrev acts : List Address
      acts = actions c plan node

      a_plan : IsPlanOf N tree acts
      a_plan = steps N W top tree (lines_of plan) node t

      -- a tree with chosen values, where each node stands in its gap
      module _ (values : Address → List ℕ) (gap : Address → ℕ)
          (stands : (p : Address) → IsAddress N tree p → MayStandWith c tree labels values p (gap p)) where
        have : (q : Address) (g : GroundMethod) → label_at N tree q ≡ Some (used g) → CanHave c g (values q)
        have = each_can_have c h mode of.sound of.compiled tree t.grown t.no_leaves t.root labels values gap stands

        new_tree : IsTreeOfPlan c plan (chosen c tree values) node
        new_tree = tree_for_chosen c tree values have h mode of.sound of.compiled t.grown (lines_of plan) node t

        -- the primitives keep their labels
        new_labels : AreLabels N (chosen c tree values) acts labels
        new_labels = go acts labels (λ p d. d) are
          where
            Stay : Address → Label N → Type 0
            Stay p l = label_at N (chosen c tree values) p ≡ Some l

            one : (p : Address) (l : Label N) → label_at N tree p ≡ Some l → Contains acts p → Stay p l
            one p l e d = label_chosen c tree values p ∙ ap (option_map (new_label N (work_with values) (method_with values) p)) e ∙ ap Some (same p l e d)
              where
                same : (p : Address) (l : Label N) → label_at N tree p ≡ Some l → Contains acts p
                    → new_label N (work_with values) (method_with values) p l ≡ l
                same p (waits w) e d = absurd (t.no_leaves p (w, e))
                same p (used g) e d = absurd (let (w, f) = a_plan.leaves p d in cc)
                same p (ran w) e d = ap ran (work_stays values p w (no_check p w e d))
                  where
                    no_check : (p : Address) (w : Work) → label_at N tree p ≡ Some (ran w) → Contains acts p → is_check w ≡ false
                    no_check p w e d =
                        let (k, f, g) = from_step_nodes N W tree (lines_of plan) node t.of_plan p d in
                        let (v, x, y, z, u) = step_of N W (label_at N tree (node k.id)) (node k.id) (renamed_step node k) (t.of_plan.steps k f) in
                        let r = ap (label_at N tree) g in
                        let same : v ≡ w = cc in
                        ap is_check (sym same) ∙ y

            go : (ps : List Address) (ls : List (Label N)) → ((p : Address) → Contains ps p → Contains acts p) → AreLabels N tree ps ls
                → AreLabels N (chosen c tree values) ps ls
            go [] [] f a = tt
            go [] (l ∷ ls) f a = a
            go (p ∷ ps) [] f a = a
            go (p ∷ ps) (l ∷ ls) f a = (one p l a.0 (f p (Contains-here p ps)), go ps ls (λ q d. f q (Contains-later p ps q d)) a.1)

        -- a placed schedule of it is a solution, where the goal is true
        pub placed_is_solution : (order : List Address) → IsPlaced N (chosen c tree values) acts (MayStandWith c tree labels values) order
            → ((p : Address) → IsAddress N tree p → gap_in N (chosen c tree values) acts order p ≡ gap p) → GoalAfter c labels
            → IsSolution c (chosen c tree values) order × Shows N W (chosen c tree values) (lines_of plan) order
        placed_is_solution order p same goal = (solutions_on (chosen c tree values) node new_tree new_labels order).1 (
          record {
            finished = record { front = record { grown = new_tree.grown; root = new_tree.root; schedule = p.schedule }; no_leaves = new_tree.no_leaves };
            shows = shown;
            allowed = λ q a. subst (AllowedAt N State (Allows c) (next c) (initial c) (chosen c tree values) labels q) (sym (same q (back q a)))
                (each_allowed c h mode of.sound of.compiled tree t.grown t.no_leaves t.root labels values gap stands q (back q a));
          },
          goal,
        )
          where
            back : (q : Address) → IsAddress N (chosen c tree values) q → IsAddress N tree q
            back = address_back N tree (chosen c tree values) ((choice c h mode of.sound of.compiled tree t.grown t.no_leaves t.root labels).shape values)

            shown : Shows N W (chosen c tree values) (lines_of plan) order
            shown = (in_order N W top (chosen c tree values) order (lines_of plan)
                (record { front = record { grown = new_tree.grown; root = new_tree.root; schedule = p.schedule }; no_leaves = new_tree.no_leaves })).1 (node, new_tree.of_plan, p.primitives)

      abbrev Any : Address → ℕ → Type 0
      Any = MayStandSomehow c tree labels

      abbrev With : (Address → List ℕ) → Address → ℕ → Type 0
      With values = MayStandWith c tree labels values

      one_choice : IsChoice N tree (List ℕ) (chosen c tree) (MayStand c tree labels) (chooser c tree)
      one_choice = choice c h mode of.sound of.compiled tree t.grown t.no_leaves t.root labels

      there : (values : Address → List ℕ) (p : Address) → IsAddress N tree p → IsAddress N (chosen c tree values) p
      there values = address_back N (chosen c tree values) tree (shape_back N tree (chosen c tree values) (one_choice.shape values))

      -- a gap function gives a solution
      solution_from : GoalAfter c labels → (gap : Address → ℕ) → IsGapFunction N tree acts Any gap → SomeSolutionShows c plan
      solution_from goal gap g =
          let (values, order, p) = (placed_exactly_where_gaps N tree (List ℕ) (chosen c tree) (MayStand c tree labels) (chooser c tree) one_choice [] acts
          (order_decided h mode c of) a_plan).1 (gap, g) in
          let s = placed_is_solution values (gap_in N (chosen c tree values) acts order) (λ q a. p.allowed q (there values q a)) order p (λ q a. refl) goal in
          (chosen c tree values, order, s.0, s.1)

      -- the schedule of the latest gap function is one
      latest_from : GoalAfter c labels → (gap : Address → ℕ) (values : Address → List ℕ) (order : List Address)
          → IsLatest N tree acts Any gap
          → ((p : Address) → IsAddress N tree p → With values p (gap p)) → IsScheduleOf N (chosen c tree values) acts gap order
          → IsLatestSolution c plan tree node labels gap values order
      latest_from goal gap values order latest stands s =
          let shape = one_choice.shape values in
          let new = chosen c tree values in
          let gaps = same_gap_functions N tree new shape acts Any (With values) gap latest.is (λ p a. stands p (address_back N tree new shape p a)) in
          let x = placed N (With values) new acts gap order (same_plan N tree new shape acts a_plan) gaps s in
          let y = placed_is_solution values gap stands order x.0 (λ p a. x.1 p (there values p a)) goal in
          record {
            solution = y.0;
            shows = y.1;
            latest = record {
              is = gaps;
              greatest = λ less g p a. latest.greatest less (some_gaps N tree (List ℕ) (chosen c tree) (MayStand c tree labels) (chooser c tree) one_choice [] acts values less g)
                  p (address_back N tree new shape p a);
            };
          }

      -- a solution on another tree
      module _ (other : Tree N) (another : ℕ → Address) (o : IsTreeOfPlan c plan other another) where
        -- what is no root has no label but those of a leaf or a method; and the root has a method
        no_leaf_root : (w : Work) → label_at N tree [] ≡ Some (ran w) → ⊥
        no_leaf_root w e = subst N.IsSimple (root_is tree w e ∙ t.root) (simple_at N tree t.grown [] w e)
          where
            root_is : (u : Tree N) (w : Work) → label_at N u [] ≡ Some (ran w) → w ≡ work_of N u
            root_is (open_leaf v) w e = absurd cc
            root_is (done v) w e = cc
            root_is (split m ts) w e = absurd cc

        -- the label of the other tree
        other_label : (p : Address) (k : Label N) → label_at N tree p ≡ Some k
            → (l : Label N) × (label_at N other p ≡ Some l) × SaysTheSame N W k l
        other_label p k e =
            let a = alike c h mode of.sound of.compiled (lines_of plan) tree other node another t o in
            let (l, f, s) = a.shape.to p k e in
            (l, f, a.said p k l e f)

        ran_only : (w : Work) (l : Label N) → SaysTheSame N W (ran w) l → (v : Work) × (l ≡ ran v) × (is_check w ≡ is_check v)
        ran_only w (waits v) s = absurd s
        ran_only w (ran v) s = (v, refl, s.0)
        ran_only w (used g) s = absurd s

        used_only : (g : GroundMethod) (l : Label N) → SaysTheSame N W (used g) l → (k : GroundMethod) × (l ≡ used k)
        used_only g (waits v) s = absurd s
        used_only g (ran v) s = absurd s
        used_only g (used k) s = (k, refl)

        -- an action has the same label in both
        action_stays : (p : Address) (w : Work) → label_at N tree p ≡ Some (ran w) → is_check w ≡ false → label_at N other p ≡ Some (ran w)
        action_stays [] w e n = absurd (no_leaf_root w e)
        action_stays (j ∷ q) w e n =
            let (l, f, s) = other_label (j ∷ q) (ran w) e in
            let (v, g, k) = ran_only w l s in
            let there : label_at N other (j ∷ q) ≡ Some (ran v) = f ∙ ap Some g in
            let same : w ≡ v = same_work c h mode of.sound of.compiled (lines_of plan) tree other node another t o j q (ran w) (ran v) e there n in
            there ∙ ap (λ z. Some (ran z)) (sym same)

        action_of : (p : Address) (l : Label N) → label_at N tree p ≡ Some l → Contains acts p
            → (w : Work) × (l ≡ ran w) × (is_check w ≡ false)
        action_of p l e d =
            let (k, f, g) = from_step_nodes N W tree (lines_of plan) node t.of_plan p d in
            let (v, x, y, z, u) = step_of N W (label_at N tree (node k.id)) (node k.id) (renamed_step node k) (t.of_plan.steps k f) in
            let r = ap (label_at N tree) g in
            (v, (let same : l ≡ ran v = cc in same), y)

        same_acts : acts ≡ actions c plan another
        same_acts = same_step_nodes N W top told (lines_of plan) tree other node another t o

        other_labels : AreLabels N other (actions c plan another) labels
        other_labels = subst (λ z. AreLabels N other z labels) same_acts (go acts labels (λ p d. d) are)
          where
            go : (ps : List Address) (ls : List (Label N)) → ((p : Address) → Contains ps p → Contains acts p) → AreLabels N tree ps ls
                → AreLabels N other ps ls
            go [] [] f a = tt
            go [] (l ∷ ls) f a = a
            go (p ∷ ps) [] f a = a
            go (p ∷ ps) (l ∷ ls) f a = (
              (let (w, e, n) = action_of p l a.0 (f p (Contains-here p ps)) in action_stays p w (a.0 ∙ ap Some e) n ∙ ap Some (sym e)),
              go ps ls (λ q d. f q (Contains-later p ps q d)) a.1,
            )

        module _ (order : List Address) (solution : IsSolution c other order) (shows : Shows N W other (lines_of plan) order) where
          abbrev Allowed : Address → ℕ → Type 0
          Allowed = AllowedAt N State (Allows c) (next c) (initial c) other labels

          gap : Address → ℕ
          gap = gap_in N other acts order

          shown : IsShown N W top Allowed (lines_of plan) other another order × GoalAfter c labels
          shown = (solutions_on other another o other_labels order).0 (solution, shows)

          gaps : IsGapFunction N other acts Allowed gap
          unfolding gap
          gaps = subst (λ z. IsGapFunction N other z Allowed (gap_in N other z order)) (sym same_acts)
              (induces N Allowed other (actions c plan another) order (steps N W top other (lines_of plan) another o)
              (shown_is_placed N W top Allowed told (lines_of plan) other another o order shown.0))

          -- each node may stand there with the values that its method has in the other tree
          stands : (p : Address) → IsAddress N tree p → Any p (gap p)
          stands p (k, e) = go p k e (other_label p k e)
            where
              Is : Address → Label N → Type 0
              Is p k = (v : List ℕ) × LabelMayStand c tree labels p (Some k) v (gap p)

              allowed : (p : Address) (l : Label N) → label_at N other p ≡ Some l → Allows c (state_in c tree labels (gap p)) l
              allowed p l f = gaps.allowed p (l, f) l f

              renumbered : (q : Address) (g k : GroundMethod) → label_at N tree q ≡ Some (used g) → label_at N other q ≡ Some (used k)
                  → k ≡ with_values g k.values
              renumbered q g k e f = λ i. record { number = (same_number c h mode of.sound of.compiled (lines_of plan) tree other node another t o q g k e f) i; values = k.values }

              at_method : (q : Address) (g k : GroundMethod) → label_at N tree q ≡ Some (used g) → label_at N other q ≡ Some (used k)
                  → Is q (used g)
              at_method q g k e f = (
                k.values,
                inr (
                  can_have c h mode of.sound of.compiled (lines_of plan) tree other node another t o q g k e f,
                  subst (λ z. Allows c (state_in c tree labels (gap q)) (used z)) (renumbered q g k e f) (allowed q (used k) f),
                ),
              )

              at_check : (p : Address) (m : ℕ) (old : List ℕ) → label_at N tree p ≡ Some (ran (check m old)) → Is p (ran (check m old))
              at_check p m old e =
                  let x = check_is_first c h mode of.sound of.compiled tree t.grown t.no_leaves t.root p m old e in
                  let (l, f, s) = other_label x.parent (used x.method) x.above in
                  let (k, g) = used_only x.method l s in
                  let above : label_at N other x.parent ≡ Some (used k) = f ∙ ap Some g in
                  let number : k.number ≡ x.method.number = same_number c h mode of.sound of.compiled (lines_of plan) tree other node another t o x.parent x.method k x.above above in
                  let low : label_at N other (0 ∷ x.parent) ≡ Some (ran (check k.number k.values)) = check_below c h mode of.sound of.compiled other o.grown o.no_leaves o.root x.parent k above (ap (λ z. is_checked_by c (slice_get c.methods z)) number ∙ x.checked) in
                  let here : label_at N other p ≡ Some (ran (check k.number k.values)) = ap (label_at N other) x.here ∙ low in
                  let own : label_at N tree (0 ∷ x.parent) ≡ Some (ran (check x.method.number x.method.values)) = check_below c h mode of.sound of.compiled tree t.grown t.no_leaves t.root x.parent x.method x.above x.checked in
                  let m_is : m ≡ k.number = number_of (sym e ∙ ap (label_at N tree) x.here ∙ own) ∙ sym number in (
                    k.values,
                    (
                      subst (λ z. ParentCanHave c tree z k.values) (sym x.here)
                          (x.method, x.above, can_have c h mode of.sound of.compiled (lines_of plan) tree other node another t o x.parent x.method k x.above above),
                      subst (λ z. Allows c (state_in c tree labels (gap p)) (ran (check z k.values))) (sym m_is) (allowed p (ran (check k.number k.values)) here),
                    ),
                  )
                where
                  number_of : {m n : ℕ} {v w : List ℕ} → (let x : Option (Label N) = Some (ran (check m v)) in x) ≡ Some (ran (check n w))
                      → m ≡ n
                  number_of e = cc

              back : (p : Address) (k : Label N) → label_at N tree p ≡ Some k → Is p k → Any p (gap p)
              back p k e (v, m) = (v, subst (λ z. LabelMayStand c tree labels p z v (gap p)) (sym e) m)

              go : (p : Address) (k : Label N) → label_at N tree p ≡ Some k
                  → (l : Label N) × (label_at N other p ≡ Some l) × SaysTheSame N W k l → Any p (gap p)
              go p (waits w) e x = absurd (t.no_leaves p (w, e))
              go p (ran (task u v)) e x = absurd (simple_at N tree t.grown p (task u v) e)
              go p (ran (action a v)) e x = back p (ran (action a v)) e ([], allowed p (ran (action a v)) (action_stays p (action a v) e refl))
              go p (ran (check m old)) e x = back p (ran (check m old)) e (at_check p m old e)
              go p (used g) e (l, f, s) = let (k, r) = used_only g l s in back p (used g) e (at_method p g k e (f ∙ ap Some r))

          pub gaps_from : GoalAfter c labels × ((gap : Address → ℕ) × IsGapFunction N tree acts Any gap)
          gaps_from = (
            shown.1,
            (
              gap,
              same_gap_functions N other tree (shape_back N tree other (alike c h mode of.sound of.compiled (lines_of plan) tree other node another t o).shape) acts Allowed Any gap gaps stands,
            ),
          )

pub solutions_exactly_where_gaps : (c : Compiled) → SolutionsExactlyWhereGaps c
solutions_exactly_where_gaps c h mode of plan tree node labels has = (
  λ (other, order, s, shows). (
      let (another, x, e) = (in_order (network c) (words c) (top_work c) other order (lines_of plan) s.finished).0 shows in
      gaps_from h mode c of plan labels tree node has.of_plan has.are_labels other another
      (record { grown = s.finished.front.grown; root = s.finished.front.root; no_leaves = s.finished.no_leaves; of_plan = x }) order s shows),
  λ (goal, (gap, g)). solution_from h mode c of plan labels tree node has.of_plan has.are_labels goal gap g,
)

pub latest_is_solution : (c : Compiled) → LatestIsSolution c
latest_is_solution c h mode of plan tree node labels has goal gap values order latest stands s =
    latest_from h mode c of plan labels tree node has.of_plan has.are_labels goal gap values order latest stands s

pub solutions_exactly_where_placed : (c : Compiled) → SolutionsExactlyWherePlaced c
solutions_exactly_where_placed c h mode of plan = (to, from)
  where
    to : SomeSolutionShows c plan → (tree : Tree (network c)) × (node : ℕ → Address) × (labels : List (Label (network c))) × HasTree c plan tree node labels × GoalAfter c labels
        × (gap : Address → ℕ) × IsGapFunction (network c) tree (actions c plan node) (MayStandSomehow c tree labels) gap
    to (tree, order, s, shows) =
        let (node, x, e) = (in_order (network c) (words c) (top_work c) tree order (lines_of plan) s.finished).0 shows in
        let t : IsTreeOfPlan c plan tree node = record { grown = s.finished.front.grown; root = s.finished.front.root; no_leaves = s.finished.no_leaves; of_plan = x } in
        let p = steps (network c) (words c) (top_work c) tree (lines_of plan) node t in
        let (labels, are) = labels_of (network c) State (Allows c) (λ s l. s) tree [] (λ p l n e s. refl) (actions c plan node) (λ q d. (let y = p.leaves q d in (ran y.0, y.1))) in
        let has : HasTree c plan tree node labels = record { of_plan = t; are_labels = are } in
        let (goal, (gaps, g)) = (solutions_exactly_where_gaps c h mode of plan tree node labels has).0 (tree, order, s, shows) in
        (tree, node, labels, has, goal, gaps, g)

    from : (tree : Tree (network c)) × (node : ℕ → Address) × (labels : List (Label (network c))) × HasTree c plan tree node labels × GoalAfter c labels
        × (gap : Address → ℕ) × IsGapFunction (network c) tree (actions c plan node) (MayStandSomehow c tree labels) gap → SomeSolutionShows c plan
    from (tree, node, labels, has, goal, gaps, g) = (solutions_exactly_where_gaps c h mode of plan tree node labels has).1 (goal, (gaps, g))
