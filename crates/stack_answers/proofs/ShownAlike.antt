-- A solution that is spelled with its cells shows the same plan over two compiled values of the same texts.
use Rattle.std.proofs.Common.{ℕ, suc, ◌≡◌, List, [], ◌∷◌, ◌++◌, map, filter, length, Option, Some, slice_get, refl, ap, sym, subst, ◌∙◌}
use Rattle.plan_model.specs.declared.steps.GroundAction.{GroundAction}
use Rattle.plan_model.specs.declared.values.Compiled.{Compiled}
use Rattle.plan_model.specs.task_networks.Tree.{Tree, Label, waits, ran, used, Address, label_at}
use Rattle.plan_model.specs.task_networks.Spelling.{numbers}
use Rattle.plan_model.specs.plan_meaning.Network.{Work, action, check, task, GroundMethod, network}
use Rattle.plan_model.specs.plan_meaning.Truth.{State}
use Rattle.plan_model.specs.plan_meaning.Solution.{top_work, Allows, next, initial, IsGoal}
use Rattle.renamed_networks.specs.Renamed.{SameLabel, SameTree}
use Rattle.renamed_networks.proofs.RenamedTrees.{SameOption, same_labels, to_label}
use Rattle.renamed_networks.proofs.RenamedRuns.{solution_with}
use Rattle.hplan_text.specs.declared.values.HLine.{HLine}
use Rattle.hplan_text.specs.declared.values.HNode.{HNode}
use Rattle.hplan_text.specs.declared.values.HPlan.{HPlan}
use Rattle.hplan_text.specs.ShownPlan.{line_of, is_primitive, is_decomposed, is_lower, is_shown, primitives_in, lower_in, numbered, AreIds, shown_children, ArePrimitives, IsNode, AreNodes, ShowsHPlan}
use Rattle.stack_decoding.specs.StackShown.{StackShown}
use Rattle.decode_answers.proofs.Alike.{twins}
use Rattle.decode_answers.proofs.AlikeShown.{object_same, method_same, name_same, told_same}
use Rattle.decode_answers.proofs.AlikeValues.{HoldTheSame, AreTwins}
use Rattle.decode_answers.proofs.AlikeReaders.{Equal, head_same, count_same, objects_same, renaming, alike_readers}
use Rattle.stack_answers.specs.StackDecodeLaws.{AreStackDecodedAlike, ValuesAreStackDecodedAlike}
use Rattle.stack_answers.proofs.StackAlike.{other_tree, spelled_to, fails_to}

module _ (c d : Compiled) (t : AreTwins c d) where
  line_same : (w : Work) (n : ℕ) → line_of c w n ≡ line_of d w n
  line_same w n = let e = name_same c d t w in let os = objects_same c d t w in λ i. record { id = n; name = e i; args = map (λ o. object_same c d t o i) (os i) }

  abbrev SameLabels : Option (Label (network c)) → Option (Label (network d)) → Type 0
  SameLabels = SameOption (network c) (network d) Equal Equal (SameLabel (network c) (network d) Equal Equal)

  done_primitive : (w : Work) → is_primitive c (Some (ran w)) ≡ is_primitive d (Some (ran w))
  done_primitive (action a args) = refl
  done_primitive (check m values) = refl
  done_primitive (task k args) = refl

  done_shown : (w : Work) → is_shown c (Some (ran w)) ≡ is_shown d (Some (ran w))
  done_shown (action a args) = refl
  done_shown (check m values) = refl
  done_shown (task k args) = refl

  module _ (tree : Tree (network c)) (other : Tree (network d)) (s : SameTree (network c) (network d) Equal Equal tree other) (order : List Address) where
    labels : (p : Address) → SameLabels (label_at (network c) tree p) (label_at (network d) other p)
    labels = same_labels (network c) (network d) Equal Equal tree other s

    primitive_same : (p : Address) → is_primitive c (label_at (network c) tree p) ≡ is_primitive d (label_at (network d) other p)
    primitive_same p = told_same c d t (is_primitive c) (is_primitive d) refl (λ w. refl) done_primitive (λ m. refl) (label_at (network c) tree p) (label_at (network d) other p) (labels p)

    lower_same : (p : Address) → is_lower c p (label_at (network c) tree p) ≡ is_lower d p (label_at (network d) other p)
    lower_same [] = refl
    lower_same (i ∷ q) = told_same c d t (is_decomposed c) (is_decomposed d) refl (λ w. refl) (λ w. refl) (λ m. refl) (label_at (network c) tree (i ∷ q)) (label_at (network d) other (i ∷ q)) (labels (i ∷ q))

    shown_same : (p : Address) → is_shown c (label_at (network c) tree p) ≡ is_shown d (label_at (network d) other p)
    shown_same p = told_same c d t (is_shown c) (is_shown d) refl (λ w. refl) done_shown (λ m. refl) (label_at (network c) tree p) (label_at (network d) other p) (labels p)

    primitives_same : primitives_in c tree order ≡ primitives_in d other order
    primitives_same = λ i. filter (λ p. primitive_same p i) order

    lowers_same : lower_in c tree order ≡ lower_in d other order
    lowers_same = λ i. filter (λ p. lower_same p i) order

    numbered_same : numbered c tree order ≡ numbered d other order
    numbered_same = λ i. primitives_same i ++ lowers_same i

    children_same : (q : Address) (g : GroundMethod) → shown_children c tree order q g ≡ shown_children d other order q g
    children_same q g = let n = count_same c d t g in λ i. filter (λ p. shown_same p i) (map (λ j. j ∷ q) (numbers 0 (n i)))

    ids_to : (ps : List Address) (ns : List ℕ) → AreIds c tree order ps ns → AreIds d other order ps ns
    ids_to [] [] a = tt
    ids_to (p ∷ ps) (n ∷ ns) a = (subst (λ z. slice_get z n ≡ Some p) numbered_same a.0, ids_to ps ns a.1)
    ids_to [] (n ∷ ns) a = absurd a
    ids_to (p ∷ ps) [] a = absurd a

    ran_to : (p : Address) (w : Work) → label_at (network c) tree p ≡ Some (ran w) → label_at (network d) other p ≡ Some (ran w)
    ran_to p w e = (let k = to_label (network c) (network d) Equal Equal tree other s p (ran w) e in go k.0 k.1 k.2)
      where
        go : (l : Label (network d)) → label_at (network d) other p ≡ Some l → SameLabel (network c) (network d) Equal Equal (ran w) l → label_at (network d) other p ≡ Some (ran w)
        go (waits v) f x = absurd x
        go (ran v) f x = f ∙ ap (λ z. Some (ran z)) (sym x)
        go (used m) f x = absurd x

    used_to : (p : Address) (g : GroundMethod) → label_at (network c) tree p ≡ Some (used g) → label_at (network d) other p ≡ Some (used g)
    used_to p g e = (let k = to_label (network c) (network d) Equal Equal tree other s p (used g) e in go k.0 k.1 k.2)
      where
        go : (l : Label (network d)) → label_at (network d) other p ≡ Some l → SameLabel (network c) (network d) Equal Equal (used g) l → label_at (network d) other p ≡ Some (used g)
        go (waits v) f x = absurd x
        go (ran v) f x = absurd x
        go (used m) f x = f ∙ ap (λ z. Some (used z)) (sym x)

    primitives_to : (n : ℕ) (ps : List Address) (ls : List HLine) → ArePrimitives c tree order n ps ls → ArePrimitives d other order n ps ls
    primitives_to n [] [] a = tt
    primitives_to n (p ∷ ps) (l ∷ ls) ((w, e, f), a) = ((w, ran_to p w e, f ∙ line_same w n), primitives_to (suc n) ps ls a)
    primitives_to n [] (l ∷ ls) a = absurd a
    primitives_to n (p ∷ ps) [] a = absurd a

    node_to : (n : ℕ) (p : Address) (node : HNode) → IsNode c tree order n p node → IsNode d other order n p node
    node_to n p node a = record {
      method = a.method;
      is = used_to p a.method a.is;
      line = a.line ∙ line_same ((network c).head a.method) n ∙ ap (λ w. line_of d w n) (head_same c d t a.method);
      name = a.name ∙ method_same c d t a.method.number;
      ids = subst (λ z. AreIds d other order z node.ids) (children_same p a.method) (ids_to (shown_children c tree order p a.method) node.ids a.ids);
    }

    nodes_to : (n : ℕ) (ps : List Address) (xs : List HNode) → AreNodes c tree order n ps xs → AreNodes d other order n ps xs
    nodes_to n [] [] a = tt
    nodes_to n (p ∷ ps) (x ∷ xs) a = (node_to n p x a.0, nodes_to (suc n) ps xs a.1)
    nodes_to n [] (x ∷ xs) a = absurd a
    nodes_to n (p ∷ ps) [] a = absurd a

    shows_to : (plan : HPlan) → ShowsHPlan c tree order plan → ShowsHPlan d other order plan
    shows_to plan a = record {
      primitives = subst (λ z. ArePrimitives d other order 0 z plan.primitives) primitives_same (primitives_to 0 (primitives_in c tree order) plan.primitives a.primitives);
      top = a.top;
      at_root = used_to [] a.top a.at_root;
      root = subst (λ z. AreIds d other order z plan.root) (children_same [] a.top) (ids_to (shown_children c tree order [] a.top) plan.root a.root);
      nodes = subst (λ (z : Type 0). z) (λ i. AreNodes d other order (length (primitives_same i)) (lowers_same i) plan.nodes) (nodes_to (length (primitives_in c tree order)) (lower_in c tree order) plan.nodes a.nodes);
    }

  -- the same steps show the same plan
  stack_shown_to : (b : ℕ) (steps : List GroundAction) (shown : HPlan) → StackShown c b steps shown → StackShown d b steps shown
  stack_shown_to b steps shown x =
      let alike = alike_readers c d t in
      let (u, s) = other_tree c d t x.tree in
      record {
        tree = u;
        order = x.order;
        cell = x.cell;
        spelled = spelled_to c d t b steps x.tree u s x.order x.cell x.spelled;
        solution = solution_with (network c) (network d) Equal Equal State HoldTheSame (Allows c) (next c) (Allows d) (next d) (λ S S' h k l z. (alike.allows S S' h k l z).0) alike.next
            x.tree u s x.order (initial c) (initial d) alike.first (renaming c d t) (top_work c) (top_work d) alike.top (IsGoal c) (IsGoal d) (λ S S' h. (alike.goal S S' h).0) x.solution;
        shows = shows_to x.tree u s x.order shown x.shows;
      }

  decoded_alike : (b : ℕ) (steps : List GroundAction) → AreStackDecodedAlike c d b steps
  decoded_alike b steps = record { shown = stack_shown_to b steps; fails = fails_to c d t b steps }

pub values_are_stack_decoded_alike : ValuesAreStackDecodedAlike
values_are_stack_decoded_alike domain problem h i checks c k b steps spelled spelled' can compiled =
    decoded_alike c k (twins domain problem h i checks c k spelled spelled' can.decodable.sound can.decodable.compiled compiled) b steps
