-- How far a plan gets: it has a tree, its actions can be executed, they reach the goal, and it is placed. What is said of a plan that is not
-- placed tells how far it gets, and names one line.
use Rattle.std.proofs.Common.{ℕ, zero, suc, ◌≡◌, ◌<◌, inl, inr, ◌∙◌, List, [], ◌∷◌, ◌++◌, length, slice_get, Option, Some, None, Contains, refl, ap, sym, subst, arith}
use Rattle.std.proofs.lemmas.Bool.{cases_lt}
use Rattle.std.proofs.lemmas.List.Elements.{Contains-append_right}
use Rattle.plan_texts.specs.Types.{EachIs}
use Rattle.plan_model.specs.declared.options.Checks.{Checks}
use Rattle.plan_model.specs.declared.values.Hddl.{Hddl}
use Rattle.plan_model.specs.declared.values.Compiled.{Compiled}
use Rattle.plan_model.specs.task_networks.Net.{Net}
use Rattle.plan_model.specs.task_networks.Tree.{Tree, Label, Address}
use Rattle.plan_model.specs.task_networks.Executable.{AreAllowed, last_state}
use Rattle.plan_model.specs.plan_meaning.Truth.{State}
use Rattle.plan_model.specs.plan_meaning.Network.{network}
use Rattle.plan_model.specs.plan_meaning.Solution.{Allows, next, initial}
use Rattle.plan_model.proofs.task_networks.Lists.{Contains-here}
use Rattle.hplan_text.specs.declared.values.HLine.{HLine}
use Rattle.hplan_text.specs.declared.values.HNode.{HNode}
use Rattle.hplan_text.specs.declared.values.HPlan.{HPlan}
use Rattle.hplan_text.specs.Printable.{IsSoundHPlan}
use Rattle.schedules.proofs.latest.Rearranged.{in_map}
use Rattle.plan_encoder.specs.Calls.{split_of, lines_of}
use Rattle.plan_encoder.specs.Records.{EachFits}
use Rattle.plan_encoder.specs.Laws.{IsOf, HasTree, GoalAfter}
use Rattle.plan_encoder.proofs.PlanTrees.{trees_exactly_where_fitting}
use Rattle.placements.specs.Matching.{IsFitted, IsUnmatched}
use Rattle.placements.specs.Placement.{AreExecutable, IsPlaced, IsNotExecutable, MissesGoal, HasNoPlace}
use Rattle.placements.proofs.PlacedPlans.{placed_are_solutions}
use Rattle.encode_answers.proofs.OnceTrees.{same_labels}

-- a list has one first item of which this is false
first_false : {A : Type 0} (P : A → Type 0) (before other rest behind : List A) (x y : A) → EachIs P before → EachIs P other → (P x → ⊥)
    → (P y → ⊥) → before ++ x ∷ rest ≡ other ++ y ∷ behind → x ≡ y
first_false P [] [] rest behind x y a b m n e = cc
first_false P [] (z ∷ other) rest behind x y a b m n e = absurd (m (subst P (let f : z ≡ x = cc in f) b.0))
first_false P (z ∷ before) [] rest behind x y a b m n e = absurd (n (subst P (let f : z ≡ y = cc in f) a.0))
first_false P (z ∷ before) (w ∷ other) rest behind x y a b m n e =
    first_false P before other rest behind x y a.1 b.1 m n (let f : before ++ x ∷ rest ≡ other ++ y ∷ behind = cc in f)

module _ (N : Net) (S : Type 1) (Can : S → Label N → Type 0) (then : S → Label N → S) where
  -- what is executed is allowed after what is before it
  allowed_after : (s : S) (before rest : List (Label N)) (l : Label N) → AreAllowed N S Can then s (before ++ l ∷ rest)
      → Can (last_state N S Can then s before) l
  allowed_after s [] rest l a = a.0
  allowed_after s (k ∷ before) rest l a = allowed_after (then s k) before rest l a.1

  -- labels have one first that is not allowed
  first_failing : (s : S) (before other rest behind : List (Label N)) (k l : Label N) → AreAllowed N S Can then s before
      → AreAllowed N S Can then s other → (Can (last_state N S Can then s before) k → ⊥) → (Can (last_state N S Can then s other) l → ⊥)
      → before ++ k ∷ rest ≡ other ++ l ∷ behind → length before ≡ length other
  first_failing s [] [] rest behind k l a b m n e = refl
  first_failing s [] (z ∷ other) rest behind k l a b m n e = absurd (m (subst (Can s) (let f : z ≡ k = cc in f) b.0))
  first_failing s (z ∷ before) [] rest behind k l a b m n e = absurd (n (subst (Can s) (let f : z ≡ l = cc in f) a.0))
  first_failing s (z ∷ before) (w ∷ other) rest behind k l a b m n e =
      let same : w ≡ z = cc in
      let more : before ++ k ∷ rest ≡ other ++ l ∷ behind = cc in
      ap suc (first_failing (then s z) before other rest behind k l a.1
      (subst (λ u. AreAllowed N S Can then (then s u) other) same b.1) m
      (λ x. n (subst (λ u. Can (last_state N S Can then (then s u) other) l) (sym same) x)) more)

module _ (h : Hddl) (mode : Checks) (c : Compiled) (of : IsOf h mode c) (plan : HPlan) (sound : IsSoundHPlan plan) where
  abbrev N : Net
  N = network c

  -- a tree of the plan, with labels of its actions of which this is true
  pub record WithLabels (P : List (Label N) → Type 0) : Type 0 where
    pub tree : Tree N
    pub node : ℕ → Address
    pub labels : List (Label N)
    pub has : HasTree c plan tree node labels
    pub is : P labels

  -- all its trees have these labels
  of_each : (P : List (Label N) → Type 0) → WithLabels P → (tree : Tree N) (node : ℕ → Address) (labels : List (Label N))
      → HasTree c plan tree node labels → P labels
  of_each P x tree node labels has =
      subst P (same_labels h mode c of plan x.tree tree x.node node x.has.of_plan has.of_plan x.labels labels x.has.are_labels has.are_labels) x.is

  -- the plan gets so far
  abbrev pub Reaches : ℕ → Type 0
  Reaches zero = Unit {0}
  Reaches (suc zero) = WithLabels (λ labels. Unit {0})
  Reaches (suc (suc zero)) = WithLabels (AreExecutable c)
  Reaches (suc (suc (suc zero))) = WithLabels (λ labels. AreExecutable c labels × GoalAfter c labels)
  Reaches (suc (suc (suc (suc zero)))) = (tree : Tree N) × (order : List Address) × IsPlaced c plan tree order
  Reaches (suc (suc (suc (suc (suc n))))) = ⊥

  reaches_less : (n : ℕ) → Reaches (suc n) → Reaches n
  reaches_less zero x = tt
  reaches_less (suc zero) x = record { tree = x.tree; node = x.node; labels = x.labels; has = x.has; is = tt }
  reaches_less (suc (suc zero)) x = record { tree = x.tree; node = x.node; labels = x.labels; has = x.has; is = x.is.0 }
  reaches_less (suc (suc (suc zero))) (tree, order, x) =
      record { tree = x.bare; node = x.node; labels = x.labels; has = x.has; is = (x.executable, x.goal) }
  reaches_less (suc (suc (suc (suc zero)))) x = absurd x
  reaches_less (suc (suc (suc (suc (suc n))))) x = absurd x

  reaches_before : (n m : ℕ) → n < m → Reaches m → Reaches (suc n)
  reaches_before n zero l x = absurd (omega arith)
  reaches_before n (suc m) l x = elim (cases_lt n m) [
    | inl k ↦ reaches_before n m k (reaches_less m x)
    | inr k ↦ subst Reaches (let e : suc m ≡ suc n = omega arith in e) x
  ]

  -- it gets so far and no farther
  pub record Stops (n : ℕ) : Type 0 where
    pub reaches : Reaches n
    pub no_farther : Reaches (suc n) → ⊥

  pub stops_once : (n m : ℕ) → Stops n → Stops m → n ≡ m
  stops_once n m x y = elim (cases_lt n m) [
    | inl l ↦ absurd (x.no_farther (reaches_before n m l y.reaches))
    | inr k ↦ elim (cases_lt m n) [
      | inl l ↦ absurd (y.no_farther (reaches_before m n l x.reaches))
      | inr l ↦ (let e : n ≡ m = omega arith in e)
    ]
  ]

  each_fits : Reaches 1 → EachFits c (lines_of plan)
  each_fits x = (trees_exactly_where_fitting c h mode of plan sound).0 (x.tree, x.node, x.has.of_plan)

  pub unmatched_stops : (id : Option ℕ) → IsUnmatched c plan id → Stops 0
  unmatched_stops id u = record { reaches = tt; no_farther = λ x. go id u (each_fits x) }
    where
      go : (id : Option ℕ) → IsUnmatched c plan id → EachFits c (lines_of plan) → ⊥
      go None none fits = let (g, f) = fits.root in none g f
      go (Some id) (before, node, first, same) fits =
          let there : Contains plan.nodes node = subst (λ z. Contains z node) (sym first.parts) (Contains-append_right before (node ∷ first.rest) node (Contains-here node first.rest)) in
          let (g, f) = fits.splits (split_of node) (in_map split_of plan.nodes node there) in
          first.unfitted g f

  pub failing_stops : (id : ℕ) → IsNotExecutable c plan id → Stops 1
  failing_stops id x = record {
    reaches = record { tree = x.tree; node = x.node; labels = x.labels; has = x.has; is = tt };
    no_farther = λ y. x.fails (allowed_after N State (Allows c) (next c) (initial c) x.before x.rest x.label
        (subst (AreExecutable c) x.parts (of_each (AreExecutable c) y x.tree x.node x.labels x.has)));
  }

  pub missing_stops : MissesGoal c plan → Stops 2
  missing_stops x = record {
    reaches = record { tree = x.tree; node = x.node; labels = x.labels; has = x.has; is = x.executable };
    no_farther = λ y. x.goal (of_each (λ labels. AreExecutable c labels × GoalAfter c labels) y x.tree x.node x.labels x.has).1;
  }

  pub unplaced_stops : HasNoPlace c plan → Stops 3
  unplaced_stops x = record {
    reaches = record { tree = x.tree; node = x.node; labels = x.labels; has = x.has; is = (x.executable, x.goal) };
    no_farther = λ (tree, order, y). (let s = placed_are_solutions c h mode of plan tree order y in x.none (tree, order, s.0, s.1));
  }

  pub placed_stops : (tree : Tree N) (order : List Address) → IsPlaced c plan tree order → Stops 4
  placed_stops tree order x = record { reaches = (tree, order, x); no_farther = λ y. y }

  -- one line is the first that none fits, and one the first that fails
  pub one_unmatched : (id other : Option ℕ) → IsUnmatched c plan id → IsUnmatched c plan other → id ≡ other
  one_unmatched None None x y = refl
  one_unmatched None (Some id) x (before, node, first, same) = absurd (x first.root.0 first.root.1)
  one_unmatched (Some id) None (before, node, first, same) y = absurd (y first.root.0 first.root.1)
  one_unmatched (Some id) (Some other) (before, node, first, same) (front, last, second, is) =
      let e : node ≡ last = first_false (IsFitted c plan) before front first.rest second.rest node last first.fitted second.fitted
      (λ x. first.unfitted x.0 x.1) (λ x. second.unfitted x.0 x.1) (sym first.parts ∙ second.parts) in
      ap Some (sym same ∙ ap (λ (z : HNode). z.line.id) e ∙ is)

  pub one_failing : (id other : ℕ) → IsNotExecutable c plan id → IsNotExecutable c plan other → id ≡ other
  one_failing id other x y =
      let labels : x.labels ≡ y.labels = same_labels h mode c of plan x.tree y.tree x.node y.node x.has.of_plan y.has.of_plan x.labels y.labels x.has.are_labels y.has.are_labels in
      let place : length x.before ≡ length y.before = first_failing N State (Allows c) (next c) (initial c) x.before y.before x.rest y.rest x.label y.label x.executable y.executable x.fails y.fails
      (sym x.parts ∙ labels ∙ y.parts) in
      let lines : Some x.line ≡ Some y.line = sym x.line_is ∙ ap (slice_get plan.primitives) place ∙ y.line_is in
      let line : x.line ≡ y.line = cc in
      sym x.id_is ∙ ap (λ (z : HLine). z.id) line ∙ y.id_is
