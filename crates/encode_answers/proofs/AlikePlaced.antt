-- What a plan comes to over one compiled value it comes to over another of the same texts: its place, or why it has none.
use Rattle.std.proofs.Common.{ℕ, ◌≡◌, List, [], ◌∷◌, ◌++◌, Some, slice_get, refl, ap, sym, subst, ◌∙◌}
use Rattle.plan_model.specs.declared.values.Compiled.{Compiled}
use Rattle.plan_model.specs.declared.steps.GroundAction.{GroundAction}
use Rattle.plan_model.specs.task_networks.Tree.{Tree, Trees, open_leaf, done, split, none, more, Label, Address}
use Rattle.plan_model.specs.plan_meaning.Network.{network}
use Rattle.plan_model.specs.plan_meaning.Truth.{State}
use Rattle.plan_model.specs.plan_meaning.Solution.{top_work, Allows, next, initial, IsGoal, IsSolution}
use Rattle.renamed_networks.specs.Renamed.{AreSame, SameLabel, SameTree, SameTrees}
use Rattle.renamed_networks.proofs.RenamedTrees.{address_back}
use Rattle.renamed_networks.proofs.RenamedRuns.{same-length, labels_to, solution_with, spells_to, width_to}
use Rattle.hplan_text.specs.declared.values.HPlan.{HPlan}
use Rattle.value_choices.specs.Choices.{IsFirst}
use Rattle.plan_encoder.specs.ChosenValues.{asking, chosen, MayStand}
use Rattle.plan_encoder.specs.Laws.{HasTree, SomeSolutionShows, actions, MayStandSomehow}
use Rattle.placements.specs.Placement.{IsPlaced, IsNotExecutable, MissesGoal, HasNoPlace}
use Rattle.step_texts.specs.StepTexts.{HasWidth, IsSpelled}
use Rattle.decode_answers.proofs.AlikeFailures.{another_tree}
use Rattle.decode_answers.proofs.AlikeValues.{HoldTheSame, AreTwins, twins_back}
use Rattle.decode_answers.proofs.AlikeReaders.{Equal, reader, label_back, renaming, alike_readers}
use Rattle.decode_answers.proofs.AlikeShown.{steps_same}
use Rattle.encode_answers.proofs.AlikeSchedules.{latest_to, schedule_of_to, lowest_to}
use Rattle.encode_answers.proofs.AlikeLines.{shows_ids_to, of_plan_to}
use Rattle.encode_answers.proofs.AlikeChoices.{chosen_to, executable_to, states_same, goal_after_to, asking_same, stands_to, stands_somehow_to}

-- the part at one place of the one list has a part of the other
parts_to : {A B : Type 0} (R : A → B → Type 0) (before : List A) (x : A) (rest : List A) (ys : List B) → AreSame R (before ++ x ∷ rest) ys
    → (ahead : List B) × (y : B) × (after : List B) × (ys ≡ ahead ++ y ∷ after) × AreSame R before ahead × R x y
parts_to R [] x rest [] s = absurd s
parts_to R [] x rest (y ∷ ys) s = ([], y, ys, refl, tt, s.0)
parts_to R (b ∷ before) x rest [] s = absurd s
parts_to R (b ∷ before) x rest (z ∷ ys) s =
    let (ahead, y, after, e, a, r) = parts_to R before x rest ys s.1 in
    (z ∷ ahead, y, after, ap (λ k. z ∷ k) e, (s.0, a), r)

module _ (c d : Compiled) where
  abbrev Like : Tree (network c) → Tree (network d) → Type 0
  Like = SameTree (network c) (network d) Equal Equal

  abbrev LikeLabel : Label (network c) → Label (network d) → Type 0
  LikeLabel = SameLabel (network c) (network d) Equal Equal

  mutual
    tree_back : (x : Tree (network c)) (y : Tree (network d)) → Like x y → SameTree (network d) (network c) Equal Equal y x
    tree_back (open_leaf v) (open_leaf w) s = sym s
    tree_back (done v) (done w) s = sym s
    tree_back (split g ts) (split m us) s = (sym s.0, trees_back ts us s.1)
    tree_back (open_leaf v) (done w) s = absurd s
    tree_back (open_leaf v) (split m us) s = absurd s
    tree_back (done v) (open_leaf w) s = absurd s
    tree_back (done v) (split m us) s = absurd s
    tree_back (split g ts) (open_leaf w) s = absurd s
    tree_back (split g ts) (done w) s = absurd s

    trees_back : (ts : Trees (network c)) (us : Trees (network d)) → SameTrees (network c) (network d) Equal Equal ts us
        → SameTrees (network d) (network c) Equal Equal us ts
    trees_back none none s = tt
    trees_back (more x ts) (more y us) s = (tree_back x y s.0, trees_back ts us s.1)
    trees_back none (more y us) s = absurd s
    trees_back (more x ts) none s = absurd s

  labels_back : (ks : List (Label (network c))) (ls : List (Label (network d))) → AreSame LikeLabel ks ls
      → AreSame (SameLabel (network d) (network c) Equal Equal) ls ks
  labels_back [] [] s = tt
  labels_back (k ∷ ks) (l ∷ ls) s = (label_back c d k l s.0, labels_back ks ls s.1)
  labels_back [] (l ∷ ls) s = absurd s
  labels_back (k ∷ ks) [] s = absurd s

module _ (c d : Compiled) (t : AreTwins c d) where
  other_one : (tree : Tree (network c)) → (other : Tree (network d)) × Like c d tree other
  other_one = another_tree State GroundAction (reader c) (reader d) Equal Equal HoldTheSame (alike_readers c d t)

  solution_to : (tree : Tree (network c)) (other : Tree (network d)) → Like c d tree other → (order : List Address)
      → IsSolution c tree order → IsSolution d other order
  solution_to tree other s order x =
      let alike = alike_readers c d t in
      solution_with (network c) (network d) Equal Equal State HoldTheSame (Allows c) (next c) (Allows d) (next d)
      (λ S S' h k l z. (alike.allows S S' h k l z).0) alike.next
      tree other s order (initial c) (initial d) alike.first (renaming c d t) (top_work c) (top_work d) alike.top (IsGoal c) (IsGoal d)
      (λ S S' h. (alike.goal S S' h).0) x

  pub some_solution_to : (plan : HPlan) → SomeSolutionShows c plan → SomeSolutionShows d plan
  some_solution_to plan (tree, order, x, shows) =
      let (other, s) = other_one tree in (other, order, solution_to tree other s order x, shows_ids_to c d t tree other s plan order shows)

module _ (c d : Compiled) (t : AreTwins c d) (plan : HPlan) where
  -- the tree of a plan, and its labels, over the other value
  pub record IsFollowed (tree : Tree (network c)) (node : ℕ → Address) (labels : List (Label (network c))) : Type 0 where
    pub other : Tree (network d)
    pub like : Like c d tree other
    pub labels_there : List (Label (network d))
    pub same : AreSame (LikeLabel c d) labels labels_there
    pub has : HasTree d plan other node labels_there

  followed : (tree : Tree (network c)) (node : ℕ → Address) (labels : List (Label (network c))) → HasTree c plan tree node labels
      → IsFollowed tree node labels
  followed tree node labels x =
      let (other, s) = other_one c d t tree in
      let (ls, b, y) = labels_to (network c) (network d) Equal Equal tree other s (actions c plan node) labels x.are_labels in
      record {
        other = other;
        like = s;
        labels_there = ls;
        same = y;
        has = record { of_plan = of_plan_to c d t tree other s plan node x.of_plan; are_labels = b };
      }

  pub not_executable_to : (id : ℕ) → IsNotExecutable c plan id → IsNotExecutable d plan id
  not_executable_to id x =
      let f = followed x.tree x.node x.labels x.has in
      let (ahead, l, after, parts, before, same) = parts_to (LikeLabel c d) x.before x.label x.rest f.labels_there
      (subst (λ z. AreSame (LikeLabel c d) z f.labels_there) x.parts f.same) in
      record {
        tree = f.other;
        node = x.node;
        labels = f.labels_there;
        has = f.has;
        before = ahead;
        label = l;
        rest = after;
        parts = parts;
        executable = executable_to c d t x.before ahead before x.executable;
        fails = λ a. x.fails (((alike_readers c d t).allows _ _ (states_same c d t x.before ahead before) x.label l same).1 a);
        line = x.line;
        line_is = subst (λ z. slice_get plan.primitives z ≡ Some x.line) (same-length (LikeLabel c d) x.before ahead before) x.line_is;
        id_is = x.id_is;
      }

  pub misses_to : MissesGoal c plan → MissesGoal d plan
  misses_to x =
      let f = followed x.tree x.node x.labels x.has in
      record {
        tree = f.other;
        node = x.node;
        labels = f.labels_there;
        has = f.has;
        executable = executable_to c d t x.labels f.labels_there f.same x.executable;
        goal = λ g. x.goal (goal_after_to d c (twins_back c d t) f.labels_there x.labels
            (labels_back c d x.labels f.labels_there f.same) g);
      }

  pub no_place_to : HasNoPlace c plan → HasNoPlace d plan
  no_place_to x =
      let f = followed x.tree x.node x.labels x.has in
      record {
        tree = f.other;
        node = x.node;
        labels = f.labels_there;
        has = f.has;
        executable = executable_to c d t x.labels f.labels_there f.same x.executable;
        goal = goal_after_to c d t x.labels f.labels_there f.same x.goal;
        none = λ y. x.none (some_solution_to d c (twins_back c d t) plan y);
      }

  module _ (bare : Tree (network c)) (other : Tree (network d)) (s : Like c d bare other) (ks : List (Label (network c)))
      (ls : List (Label (network d))) (same : AreSame (LikeLabel c d) ks ls) where
    stands_back : (p : Address) (values : List ℕ) (i : ℕ) → MayStand d other ls p values i → MayStand c bare ks p values i
    stands_back = stands_to d c (twins_back c d t) other bare (tree_back c d bare other s) ls ks (labels_back c d ks ls same)

    somehow_back : (p : Address) (i : ℕ) → MayStandSomehow d other ls p i → MayStandSomehow c bare ks p i
    somehow_back = stands_somehow_to d c (twins_back c d t) other bare (tree_back c d bare other s) ls ks (labels_back c d ks ls same)

    -- the first values of the method for which a node asks
    first_to : (gap : Address → ℕ) (p : Address) (values : List ℕ)
        → IsFirst (λ v. MayStand c bare ks (asking c bare p) v (gap (asking c bare p))) values
        → IsFirst (λ v. MayStand d other ls (asking d other p) v (gap (asking d other p))) values
    first_to gap p values x = subst (λ q. IsFirst (λ v. MayStand d other ls q v (gap q)) values) (asking_same c d t bare other s p)
        (record {
          is = stands_to c d t bare other s ks ls same (asking c bare p) values (gap (asking c bare p)) x.is;
          none_before = λ others y. x.none_before others (stands_back (asking c bare p) others (gap (asking c bare p)) y);
        })

  -- the placed tree over the other value
  pub placed_to : (tree : Tree (network c)) (order : List Address) → IsPlaced c plan tree order
      → (there : Tree (network d)) × Like c d tree there × IsPlaced d plan there order
  placed_to tree order x =
      let f = followed x.bare x.node x.labels x.has in
      let r = renaming c d t in
      let like = subst (λ z. Like c d z (chosen d f.other x.values)) (sym x.tree_is) (chosen_to c d t x.values x.bare f.other f.like) in (
        chosen d f.other x.values,
        like,
        record {
          bare = f.other;
          node = x.node;
          labels = f.labels_there;
          has = f.has;
          executable = executable_to c d t x.labels f.labels_there f.same x.executable;
          goal = goal_after_to c d t x.labels f.labels_there f.same x.goal;
          gap = x.gap;
          latest = latest_to (network c) (network d) Equal Equal r x.bare f.other f.like (actions c plan x.node)
              (MayStandSomehow c x.bare x.labels) (MayStandSomehow d f.other f.labels_there)
              (stands_somehow_to c d t x.bare f.other f.like x.labels f.labels_there f.same)
              (somehow_back x.bare f.other f.like x.labels f.labels_there f.same) x.gap x.latest;
          values = x.values;
          first = λ p a. first_to x.bare f.other f.like x.labels f.labels_there f.same x.gap p (x.values p)
              (x.first p (address_back (network c) (network d) Equal Equal r x.bare f.other f.like p a));
          tree_is = refl;
          schedule = schedule_of_to (network c) (network d) Equal Equal r tree (chosen d f.other x.values) like
              (actions c plan x.node) x.gap order x.schedule;
        },
      )

  pub width_of_to : (width : ℕ) → HasWidth c plan width → HasWidth d plan width
  width_of_to width x =
      let (there, like, placed) = placed_to x.tree x.order x.placed in
      record {
        tree = there;
        order = x.order;
        placed = placed;
        width_is = width_to (network c) (network d) Equal Equal (renaming c d t) x.tree there like width x.order x.width_is;
      }

  pub spelled_to : (slots width : ℕ) (steps : List GroundAction) → IsSpelled c plan slots width steps → IsSpelled d plan slots width steps
  spelled_to slots width steps x =
      let r = renaming c d t in
      let (there, like, placed) = placed_to x.tree x.order x.placed in
      let (others, sp, y) = spells_to (network c) (network d) Equal Equal r x.tree there like x.slot slots (top_work c) (top_work d)
      (alike_readers c d t).top x.acts x.order x.lowest.spells in
      record {
        tree = there;
        order = x.order;
        placed = placed;
        width_is = width_to (network c) (network d) Equal Equal r x.tree there like width x.order x.width_is;
        within = x.within;
        few = x.few;
        acts = others;
        slot = x.slot;
        lowest = record { spells = sp; lowest = lowest_to (network c) (network d) Equal Equal r x.tree there like x.slot x.order x.lowest.lowest };
        steps_are = x.steps_are ∙ steps_same c d t x.acts others y;
      }
