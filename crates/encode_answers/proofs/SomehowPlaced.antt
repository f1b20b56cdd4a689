-- A plan has a latest schedule, or a sentence says why it has none: what is asked of its lines, its actions, the goal and its gaps is told.
use Rattle.std.proofs.Common.{ℕ, ◌≡◌, ◌<◌, ◌⊎◌, inl, inr, List, [], ◌∷◌, ◌++◌, length, map, slice_get, Option, Some, None}
use Rattle.std.proofs.Common.{refl, ap, sym, subst, ◌∙◌, arith}
use Rattle.std.proofs.lemmas.List.{length-map, length-append}
use Rattle.plan_model.specs.declared.options.Checks.{Checks}
use Rattle.plan_model.specs.declared.values.Hddl.{Hddl}
use Rattle.plan_model.specs.declared.values.Compiled.{Compiled}
use Rattle.plan_model.specs.task_networks.Net.{Net}
use Rattle.plan_model.specs.task_networks.Tree.{Tree, Label, ran, Address, label_at, IsAddress}
use Rattle.plan_model.specs.task_networks.Executable.{AreLabels, AreAllowed, last_state}
use Rattle.plan_model.specs.plan_meaning.Truth.{State}
use Rattle.plan_model.specs.plan_meaning.Network.{check, network}
use Rattle.plan_model.specs.plan_meaning.Solution.{top_work, Allows, next, initial}
use Rattle.tree_core.proofs.Gets.{get_some}
use Rattle.slot_machine.proofs.bound_laws.Decided.{Or_not}
use Rattle.hplan_text.specs.declared.values.HLine.{HLine}
use Rattle.hplan_text.specs.declared.values.HPlan.{HPlan}
use Rattle.hplan_text.specs.Printable.{IsSoundHPlan}
use Rattle.schedules.specs.latest.Execution.{IsSameShape}
use Rattle.schedules.specs.latest.Gaps.{IsPlanOf, IsGapFunction, IsLatest}
use Rattle.schedules.specs.latest.LatestSchedule.{IsScheduleOf}
use Rattle.schedules.specs.latest.Laws.{IsDecided}
use Rattle.schedules.specs.latest.PlanLines.{StepLine, step_ids}
use Rattle.schedules.proofs.latest.Execution.{labels_of}
use Rattle.schedules.proofs.latest.Shapes.{same_gap_functions, same_plan, address_back}
use Rattle.schedules.proofs.latest.ShownTheorem.{steps}
use Rattle.schedules.proofs.latest.Theorem.{schedules, latest}
use Rattle.value_choices.specs.Choices.{IsFirst}
use Rattle.plan_encoder.specs.Calls.{Call, step_of, lines_of, words}
use Rattle.plan_encoder.specs.ChosenValues.{chosen, chooser, asking, MayStand}
use Rattle.plan_encoder.specs.Laws.{IsOf, IsTreeOfPlan, actions, HasTree, MayStandSomehow, MayStandWith, GoalAfter}
use Rattle.plan_encoder.proofs.Standing.{check_is_first, asks, choice}
use Rattle.plan_encoder.proofs.PlanTrees.{trees_exactly_where_fitting}
use Rattle.plan_encoder.proofs.Solutions.{order_decided, solutions_exactly_where_gaps}
use Rattle.placements.specs.Placement.{AreExecutable, IsPlaced, IsNotExecutable, HasNoPlace}
use Rattle.placements.specs.Laws.{IsRefused}
use Rattle.decode_answers.proofs.SomehowStates.{goal_told, allows_told}
use Rattle.encode_answers.proofs.SomehowLines.{fitting_or_first}
use Rattle.encode_answers.proofs.SomehowStanding.{may_told, first_values, first_nowhere}

labels_long : (N : Net) (tree : Tree N) (ps : List Address) (ls : List (Label N)) → AreLabels N tree ps ls → length ps ≡ length ls
labels_long N tree [] [] a = refl
labels_long N tree [] (l ∷ ls) a = absurd a
labels_long N tree (p ∷ ps) [] a = absurd a
labels_long N tree (p ∷ ps) (l ∷ ls) a = let e = labels_long N tree ps ls a.1 in omega arith

module _ (c : Compiled) where
  abbrev N : Net
  N = network c

  abbrev after : State → List (Label N) → State
  after s ls = last_state N State (Allows c) (next c) s ls

  -- the first label whose condition is false
  record FailsFirst (s : State) (labels : List (Label N)) : Type 0 where
    pub before : List (Label N)
    pub label : Label N
    pub rest : List (Label N)
    pub parts : labels ≡ before ++ label ∷ rest
    pub executable : AreAllowed N State (Allows c) (next c) s before
    pub fails : Allows c (after s before) label → ⊥

  allowed_or_first : (s : State) → ((ls : List (Label N)) (l : Label N) → Or_not (Allows c (after s ls) l)) → (labels : List (Label N))
      → AreAllowed N State (Allows c) (next c) s labels ⊎ FailsFirst s labels
  allowed_or_first s told [] = inl tt
  allowed_or_first s told (l ∷ ls) = go (told [] l) (allowed_or_first (next c s l) (λ ks k. told (l ∷ ks) k) ls)
    where
      go : Or_not (Allows c s l) → AreAllowed N State (Allows c) (next c) (next c s l) ls ⊎ FailsFirst (next c s l) ls
          → AreAllowed N State (Allows c) (next c) s (l ∷ ls) ⊎ FailsFirst s (l ∷ ls)
      go (inr n) r = inr (record { before = []; label = l; rest = ls; parts = refl; executable = tt; fails = n })
      go (inl a) (inl r) = inl (a, r)
      go (inl a) (inr f) = inr (record {
        before = l ∷ f.before;
        label = f.label;
        rest = f.rest;
        parts = ap (λ z. l ∷ z) f.parts;
        executable = (a, f.executable);
        fails = f.fails;
      })

  -- placed, or refused
  abbrev pub IsPlacedSomehow : HPlan → Type 0
  IsPlacedSomehow plan = ((tree : Tree N) × (order : List Address) × IsPlaced c plan tree order) ⊎ IsRefused c plan

  module _ (h : Hddl) (mode : Checks) (of : IsOf h mode c) (plan : HPlan) where
    module _ (tree : Tree N) (node : ℕ → Address) (labels : List (Label N)) (has : HasTree c plan tree node labels) where
      abbrev acts : List Address
      acts = actions c plan node

      abbrev Any : Address → ℕ → Type 0
      Any = MayStandSomehow c tree labels

      abbrev t : IsTreeOfPlan c plan tree node
      t = has.of_plan

      no_check : (m : ℕ) (v : List ℕ) → label_at N tree [] ≡ Some (ran (check m v)) → ⊥
      no_check m v e = let x = (check_is_first c h mode of.sound of.compiled tree t.grown t.no_leaves t.root [] m v e).here in cc

      a_plan : IsPlanOf N tree acts
      a_plan = steps N (words c) (top_work c) tree (lines_of plan) node t

      decided : IsDecided N Any
      decided = record { order = order_decided h mode c of; allowed = may_told c tree labels no_check }

      -- the line of the first action whose condition is false
      not_executable : FailsFirst (initial c) labels → (id : ℕ) × IsNotExecutable c plan id
      not_executable f = (
        line.0.id,
        record {
          tree = tree;
          node = node;
          labels = labels;
          has = has;
          before = f.before;
          label = f.label;
          rest = f.rest;
          parts = f.parts;
          executable = f.executable;
          fails = f.fails;
          line = line.0;
          line_is = line.1;
          id_is = refl;
        },
      )
        where
          within : length f.before < length plan.primitives
          within =
              let a = labels_long N tree acts labels has.are_labels in
              let b = ap length f.parts ∙ length-append f.before (f.label ∷ f.rest) in
              let d = length-map (step_ids (lines_of plan)) node in
              let e = length-map (map step_of plan.primitives) (λ (l : StepLine ℕ Call). l.id) in
              let g = length-map plan.primitives step_of in
              omega arith

          line : (l : HLine) × (slice_get plan.primitives (length f.before) ≡ Some l)
          line = get_some plan.primitives (length f.before) within

      module _ (executable : AreExecutable c labels) (goal : GoalAfter c labels) where
        module _ (gap : Address → ℕ) (greatest : IsLatest N tree acts Any gap) where
          somehow : (p : Address) (o : Option (Label N)) → label_at N tree p ≡ o → Any p (gap p)
          somehow p None e = first_nowhere c tree labels no_check p (gap p) e
          somehow p (Some l) e = greatest.is.allowed p (l, e)

          pick : (k : Address) → (v : List ℕ) × IsFirst (λ v. MayStand c tree labels (asking c tree k) v (gap (asking c tree k))) v
          pick k =
              let p = asking c tree k in
              first_values c tree labels no_check p (gap p) (somehow p (label_at N tree p) refl)

          abbrev values : Address → List ℕ
          values k = (pick k).0

          abbrev new : Tree N
          new = chosen c tree values

          stands : (p : Address) → IsAddress N tree p → MayStandWith c tree labels values p (gap p)
          stands p a = elim (asks c h mode of.sound of.compiled tree t.grown t.no_leaves t.root labels p) [
            | inl e ↦ (
                let k = chooser c tree p in
                subst (λ z. MayStand c tree labels z (values k) (gap z)) (sym e) (pick k).1.is)
            | inr f ↦ f (values (chooser c tree p)) (gap p)
          ]

          shape : IsSameShape N tree new
          shape = (choice c h mode of.sound of.compiled tree t.grown t.no_leaves t.root labels).shape values

          gaps : IsGapFunction N new acts (MayStandWith c tree labels values) gap
          gaps = same_gap_functions N tree new shape acts Any (MayStandWith c tree labels values) gap greatest.is
              (λ p a. stands p (address_back N tree new shape p a))

          schedule : (order : List Address) × IsScheduleOf N new acts gap order
          schedule = schedules N (MayStandWith c tree labels values) (order_decided h mode c of) new acts gap
              (same_plan N tree new shape acts a_plan) gaps

          placed : IsPlaced c plan new schedule.0
          placed = record {
            bare = tree;
            node = node;
            labels = labels;
            has = has;
            executable = executable;
            goal = goal;
            gap = gap;
            latest = greatest;
            values = values;
            first = λ p a. (pick p).1;
            tree_is = refl;
            schedule = schedule.1;
          }

        no_place : ((gap : Address → ℕ) → IsGapFunction N tree acts Any gap → ⊥) → HasNoPlace c plan
        no_place n = record {
          tree = tree;
          node = node;
          labels = labels;
          has = has;
          executable = executable;
          goal = goal;
          none = λ s. (let x = ((solutions_exactly_where_gaps c h mode of plan tree node labels has).0 s).1 in n x.0 x.1);
        }

        placed_or_not : IsPlacedSomehow plan
        placed_or_not = elim (latest N Any decided tree acts a_plan) [
          | inl (gap, l) ↦ inl (new gap l, (schedule gap l).0, placed gap l)
          | inr n ↦ inr (inr (inr (inr (no_place n))))
        ]

      with_tree : IsPlacedSomehow plan
      with_tree = on (allowed_or_first (initial c) (allows_told c) labels) (goal_told c labels)
        where
          on : AreExecutable c labels ⊎ FailsFirst (initial c) labels → Or_not (GoalAfter c labels) → IsPlacedSomehow plan
          on (inr f) d = inr (inr (inl (not_executable f)))
          on (inl e) (inr n) = inr (inr (inr (inl (record {
            tree = tree;
            node = node;
            labels = labels;
            has = has;
            executable = e;
            goal = n;
          }))))
          on (inl e) (inl goal) = placed_or_not e goal

    pub placed_or_refused : IsSoundHPlan plan → IsPlacedSomehow plan
    placed_or_refused sound = elim (fitting_or_first c plan) [
      | inr unmatched ↦ inr (inl unmatched)
      | inl fits ↦ (
          let (tree, node, t) = (trees_exactly_where_fitting c h mode of plan sound).1 fits in
          let p = steps N (words c) (top_work c) tree (lines_of plan) node t in
          let (labels, are) = labels_of N State (Allows c) (λ s l. s) tree [] (λ q l n e s. refl) (actions c plan node)
          (λ q d. (let y = p.leaves q d in (ran y.0, y.1))) in
          with_tree tree node labels (record { of_plan = t; are_labels = are }))
    ]
