-- The plan that a finished tree and its order show has the lines of the tree, with the numbers that these have.
use Rattle.std.proofs.Common.{ℕ, zero, suc, ◌≡◌, ◌+◌, ◌∙◌, Bool, true, false, not, cond, List, [], ◌∷◌, ◌++◌, length, map, filter, slice_get, Option, Some, None, refl, ap, sym, subst, Contains, arith}
use Rattle.std.specs.List.{filter_map, cons_option}
use Rattle.std.proofs.lemmas.Simd.{map-map}
use Rattle.htn_base.specs.Different.{AreDifferent}
use Rattle.plan_model.specs.declared.values.Compiled.{Compiled}
use Rattle.plan_model.specs.task_networks.Net.{Net, count}
use Rattle.plan_model.specs.task_networks.Tree.{Tree, open_leaf, done, split, Label, waits, ran, used, Address, label, label_at, work_of}
use Rattle.plan_model.specs.task_networks.Front.{IsFinished}
use Rattle.plan_model.specs.task_networks.Listed.{same_address}
use Rattle.plan_model.specs.task_networks.Spelling.{numbers}
use Rattle.plan_model.specs.plan_meaning.Network.{Work, action, check, task, GroundMethod, network}
use Rattle.plan_model.specs.plan_meaning.Solution.{top_work}
use Rattle.plan_model.proofs.task_networks.Filters.{filter_to}
use Rattle.plan_model.proofs.task_networks.Lists.{Contains-here, Contains-later}
use Rattle.plan_model.proofs.task_networks.Numbers.{numbers_to}
use Rattle.plan_model.proofs.task_networks.Parents.{child_address}
use Rattle.plan_model.proofs.task_networks.PendingNodes.{same_to, address_same_itself}
use Rattle.tree_core.proofs.Gets.{at_place, get_left, get_right}
use Rattle.hplan_text.specs.declared.values.HLine.{HLine}
use Rattle.hplan_text.specs.declared.values.HNode.{HNode}
use Rattle.hplan_text.specs.declared.values.HPlan.{HPlan}
use Rattle.hplan_text.specs.ShownPlan.{is_primitive, is_lower, is_shown, primitives_in, lower_in, numbered, AreIds, shown_children, ArePrimitives, AreNodes, ShowsHPlan}
use Rattle.hplan_text.proofs.ShownOnce.{numbered_once, each_is_shown_once}
use Rattle.schedules.specs.latest.PlanLines.{StepLine, SplitLine, PlanLines, line_ids, renamed_step, renamed_split}
use Rattle.schedules.specs.latest.Shown.{PlanWords, place, step_of_label, split_of_label, children_shown, children_of_label, step_line, split_line, lines, number, plan_of}
use Rattle.schedules.specs.latest.Shown as Lines
use Rattle.schedules.proofs.latest.GrownTrees.{tree_there, simple_at, its_work}
use Rattle.schedules.proofs.latest.LinesOfTrees.{step_id, split_id}
use Rattle.schedules.proofs.latest.LinesOfTrees as of_lines
use Rattle.schedules.proofs.latest.Rearranged.{back_is_filter, filter_map_kept, map_itself}
use Rattle.plan_encoder.specs.Calls.{Call, Decomposed, call_of, step_of, split_of, lines_of, is_check, call, words}
use Rattle.plan_encoder.specs.Laws.{ShownAreLines}
use Rattle.plan_encoder.proofs.CompiledMethods.{head_no_check}

-- the place of the n-th of different nodes
pub place_is : (xs : List Address) (n : ℕ) (q : Address) → AreDifferent xs → slice_get xs n ≡ Some q → place xs q ≡ n
place_is [] n q d e = absurd cc
place_is (x ∷ xs) zero q d e = ap (λ b. cond b zero (suc (place xs q))) (subst (λ z. same_address x z ≡ true) (let f : x ≡ q = cc in f) (address_same_itself x))
place_is (x ∷ xs) (suc n) q d e = go (place_is xs n q d.1 e) (same_address x q) refl
  where
    go : place xs q ≡ n → (b : Bool) → same_address x q ≡ b → cond b zero (suc (place xs q)) ≡ suc n
    go r true f = absurd (d.0 (subst (Contains xs) (sym (same_to x q f)) (at_place xs n q e)))
    go r false f = ap suc r

filter_maps : {A B : Type 0} (f : A → B) (t : B → Bool) (s : A → Bool) (xs : List A) → ((x : A) → Contains xs x → t (f x) ≡ s x)
    → filter t (map f xs) ≡ map f (filter s xs)
filter_maps f t s [] h = refl
filter_maps {A = A} {B = B} f t s (x ∷ xs) h =
    ap (λ b. cond b (f x ∷ filter t (map f xs)) (filter t (map f xs))) (h x (Contains-here x xs)) ∙ go (s x) (filter_maps f t s xs (λ y d. h y (Contains-later x xs y d)))
  where
    go : (b : Bool) → filter t (map f xs) ≡ map f (filter s xs)
        → cond b (f x ∷ filter t (map f xs)) (filter t (map f xs)) ≡ map f (cond b (x ∷ filter s xs) (filter s xs))
    go true e = ap (λ z. f x ∷ z) e
    go false e = e

-- a plan from its lines
abbrev line_from : StepLine ℕ Call → HLine
line_from l = record { id = l.id; name = l.step.name; args = l.step.args }

abbrev node_from : SplitLine ℕ Decomposed → HNode
node_from l = record { line = record { id = l.id; name = l.split.task.name; args = l.split.task.args }; method = l.split.method; ids = l.children }

abbrev hplan_from : PlanLines ℕ Call Decomposed → HPlan
hplan_from p = record { primitives = map line_from p.steps; root = p.root; nodes = map node_from p.splits }

from_lines : (plan : HPlan) → hplan_from (lines_of plan) ≡ plan
from_lines plan =
    let a : map line_from (map step_of plan.primitives) ≡ plan.primitives = map-map line_from step_of plan.primitives ∙ map_itself (λ l. line_from (step_of l)) plan.primitives (λ l d. refl) in
    let b : map node_from (map split_of plan.nodes) ≡ plan.nodes = map-map node_from split_of plan.nodes ∙ map_itself (λ l. node_from (split_of l)) plan.nodes (λ l d. refl) in
    λ i. record { primitives = a i; root = plan.root; nodes = b i }

module _ (c : Compiled) where
  abbrev N : Net
  N = network c

  abbrev W : PlanWords N
  W = words c

  module _ (tree : Tree N) (order : List Address) (f : IsFinished N (top_work c) tree order) where
    abbrev at_node : Address → Option (Label N)
    at_node p = label_at N tree p

    -- primitives are those with a line of a step, decomposed nodes but the root those with a line of a decomposition
    primitive_gives : (p : Address) (l : StepLine Address Call) → step_line N W tree p ≡ Some l → is_primitive c (at_node p) ≡ true
    primitive_gives p l e =
        let (w, x, n, y, z) = of_lines.step_of N W (at_node p) p l e in
        ap (is_primitive c) x ∙ go w (simple_at N tree f.front.grown p w x) n
      where
        go : (w : Work) → N.IsSimple w → is_check w ≡ false → is_primitive c (Some (ran w)) ≡ true
        go (action a args) s n = refl
        go (check m values) s n = absurd cc
        go (task t args) s n = absurd s

    no_primitive : (p : Address) → step_line N W tree p ≡ None → is_primitive c (at_node p) ≡ false
    no_primitive p e = go (at_node p) e
      where
        go : (o : Option (Label N)) → step_of_label N W o p ≡ None → is_primitive c o ≡ false
        go None e = refl
        go (Some (waits w)) e = refl
        go (Some (used g)) e = refl
        go (Some (ran (action a args))) e = absurd cc
        go (Some (ran (check m values))) e = refl
        go (Some (ran (task t args))) e = refl

    lower_gives : (p : Address) (l : SplitLine Address Decomposed) → split_line N W tree p ≡ Some l → is_lower c p (at_node p) ≡ true
    lower_gives p l e = go p (at_node p) e
      where
        go : (p : Address) (o : Option (Label N)) → split_of_label N W o p ≡ Some l → is_lower c p o ≡ true
        go p None e = absurd cc
        go p (Some (waits w)) e = absurd cc
        go p (Some (ran w)) e = absurd cc
        go [] (Some (used g)) e = absurd cc
        go (i ∷ q) (Some (used g)) e = refl

    no_lower : (p : Address) → split_line N W tree p ≡ None → is_lower c p (at_node p) ≡ false
    no_lower p e = go p (at_node p) e
      where
        go : (p : Address) (o : Option (Label N)) → split_of_label N W o p ≡ None → is_lower c p o ≡ false
        go [] o e = refl
        go (i ∷ q) None e = refl
        go (i ∷ q) (Some (waits w)) e = refl
        go (i ∷ q) (Some (ran w)) e = refl
        go (i ∷ q) (Some (used g)) e = absurd cc

    ids_are : line_ids (lines N W tree order) ≡ numbered c tree order
    ids_are =
        let a = back_is_filter (step_line N W tree) (λ l. l.id) (λ p. is_primitive c (at_node p)) order (step_id N W tree) (λ p l d e. primitive_gives p l e) (λ p d e. no_primitive p e) in
        let b = back_is_filter (split_line N W tree) (λ l. l.id) (λ p. is_lower c p (at_node p)) order (split_id N W tree) (λ p l d e. lower_gives p l e) (λ p d e. no_lower p e) in
        λ i. (sym a) i ++ (sym b) i

    abbrev num : Address → ℕ
    num = number N W tree order

    number_is : (n : ℕ) (q : Address) → slice_get (numbered c tree order) n ≡ Some q → num q ≡ n
    number_is n q e = ap (λ z. place z q) ids_are ∙ place_is (numbered c tree order) n q (numbered_once c tree order f) e

    ids_by_number : (ps : List Address) (ns : List ℕ) → AreIds c tree order ps ns → ns ≡ map num ps
    ids_by_number [] [] a = refl
    ids_by_number [] (n ∷ ns) a = absurd a
    ids_by_number (p ∷ ps) [] a = absurd a
    ids_by_number (p ∷ ps) (n ∷ ns) a = let x = number_is n p a.0 in let r = ids_by_number ps ns a.1 in λ i. (sym x) i ∷ r i

    -- the same children are shown
    shown_same : (q : Address) (g : GroundMethod) → at_node q ≡ Some (used g)
        → shown_children c tree order q g ≡ map (λ i. i ∷ q) (Lines.shown_children N W g)
    shown_same q g e = filter_maps (λ i. i ∷ q) (λ p. is_shown c (at_node p)) (λ i. Lines.is_shown N W (slice_get (N.works g) i)) (numbers 0 (count N g)) same
      where
        no_check_shown : (t : Tree N) (p : Address) → at_node p ≡ Some (label N t)
            → is_shown c (Some (label N t)) ≡ not (is_check (work_of N t))
        no_check_shown (open_leaf w) p e = absurd (f.no_leaves p (w, e))
        no_check_shown (done (action a args)) p e = refl
        no_check_shown (done (check m values)) p e = refl
        no_check_shown (done (task t args)) p e = refl
        no_check_shown (split m ts) p e = ap not (sym (head_no_check c m))

        same : (i : ℕ) → Contains (numbers 0 (count N g)) i → is_shown c (at_node (i ∷ q)) ≡ Lines.is_shown N W (slice_get (N.works g) i)
        same i d =
            let l = (numbers_to 0 (count N g) i d).1 in
            let a = child_address N tree q g i f.front.grown e (omega arith) in
            let (t, there, lab) = tree_there N tree (i ∷ q) a in
            ap (is_shown c) lab ∙ no_check_shown t (i ∷ q) lab ∙ ap (Lines.is_shown N W) (sym (its_work N tree f.front.grown i q g e t there))

    child_ids : (q : Address) (g : GroundMethod) (ns : List ℕ) → at_node q ≡ Some (used g)
        → AreIds c tree order (shown_children c tree order q g) ns
        → ns ≡ map num (map (λ i. i ∷ q) (Lines.shown_children N W g))
    child_ids q g ns e a = ids_by_number (shown_children c tree order q g) ns a ∙ ap (map num) (shown_same q g e)

    -- from number n on, these nodes have these numbers
    abbrev HaveNumbers : ℕ → List Address → Type 0
    HaveNumbers n ps = (k : ℕ) (p : Address) → slice_get ps k ≡ Some p → num p ≡ n + k

    behind : (n : ℕ) (p : Address) (ps : List Address) → HaveNumbers n (p ∷ ps) → HaveNumbers (suc n) ps
    behind n p ps h k q e = let x = h (suc k) q e in omega arith

    steps_same : (n : ℕ) (ps : List Address) (ls : List HLine) → ((p : Address) → Contains ps p → is_primitive c (at_node p) ≡ true)
        → HaveNumbers n ps
        → ArePrimitives c tree order n ps ls → map step_of ls ≡ map (renamed_step num) (filter_map (step_line N W tree) ps)
    steps_same n [] [] t h a = refl
    steps_same n [] (l ∷ ls) t h a = absurd a
    steps_same n (p ∷ ps) [] t h a = absurd a
    steps_same n (p ∷ ps) (l ∷ ls) t h ((w, e, x), a) =
        let line : step_line N W tree p ≡ Some (record { id = p; step = call c w }) = given w e (t p (Contains-here p ps)) in
        let rest = steps_same (suc n) ps ls (λ q d. t q (Contains-later p ps q d)) (behind n p ps h) a in
        let here : step_of l ≡ renamed_step num (record { id = p; step = call c w }) = (let y : n ≡ num p = (let z = h 0 p refl in omega arith) in ap step_of x ∙ (λ i. record { id = y i; step = call c w })) in
        (λ i. here i ∷ rest i) ∙ ap (map (renamed_step num)) (sym (ap (λ o. cons_option o (filter_map (step_line N W tree) ps)) line))
      where
        given : (w : Work) → at_node p ≡ Some (ran w) → is_primitive c (at_node p) ≡ true
            → step_line N W tree p ≡ Some (record { id = p; step = call c w })
        given (action a args) e t = ap (λ o. step_of_label N W o p) e
        given (check m values) e t = absurd (let y = ap (is_primitive c) e in cc)
        given (task u args) e t = absurd (let y = ap (is_primitive c) e in cc)

    abbrev line_at : Address → GroundMethod → SplitLine Address Decomposed
    line_at p g = record { id = p; split = W.split g; children = map (λ k. k ∷ p) (Lines.shown_children N W g) }

    splits_same : (n : ℕ) (ps : List Address) (xs : List HNode) → ((p : Address) → Contains ps p → is_lower c p (at_node p) ≡ true)
        → HaveNumbers n ps
        → AreNodes c tree order n ps xs → map split_of xs ≡ map (renamed_split num) (filter_map (split_line N W tree) ps)
    splits_same n [] [] t h a = refl
    splits_same n [] (x ∷ xs) t h a = absurd a
    splits_same n (p ∷ ps) [] t h a = absurd a
    splits_same n (p ∷ ps) (x ∷ xs) t h (is, a) =
        let line = given p is.method is.is (t p (Contains-here p ps)) in
        let rest = splits_same (suc n) ps xs (λ q d. t q (Contains-later p ps q d)) (behind n p ps h) a in
        (λ i. here i ∷ rest i) ∙ ap (map (renamed_split num)) (sym (ap (λ o. cons_option o (filter_map (split_line N W tree) ps)) line))
      where
        given : (p : Address) (g : GroundMethod) → at_node p ≡ Some (used g) → is_lower c p (at_node p) ≡ true
            → split_line N W tree p ≡ Some (line_at p g)
        given [] g e t = absurd cc
        given (i ∷ q) g e t = ap (λ o. split_of_label N W o (i ∷ q)) e

        here : split_of x ≡ renamed_split num (line_at p is.method)
        here =
            let y : n ≡ num p = (let z = h 0 p refl in omega arith) in
            let ids = child_ids p is.method x.ids is.is is.ids in
            λ i. record {
              id = (ap (λ (z : HLine). z.id) is.line ∙ y) i;
              split = record { task = call_of (is.line i); method = is.name i };
              children = ids i;
            }

    root_same : (plan : HPlan) → ShowsHPlan c tree order plan → plan.root ≡ map num (children_shown N W tree [])
    root_same plan s = child_ids [] s.top plan.root s.at_root s.root ∙ ap (map num) (sym (ap (λ o. children_of_label N W o []) s.at_root))

    primitives_numbered : HaveNumbers 0 (primitives_in c tree order)
    primitives_numbered k p e = subst (λ z. num p ≡ z) (let x : k ≡ 0 + k = omega arith in x) (number_is k p (get_left (primitives_in c tree order) (lower_in c tree order) k p e))

    lower_numbered : HaveNumbers (length (primitives_in c tree order)) (lower_in c tree order)
    lower_numbered k p e = number_is (length (primitives_in c tree order) + k) p (get_right (primitives_in c tree order) (lower_in c tree order) k ∙ e)

    pub lines_shown : (plan : HPlan) → ShowsHPlan c tree order plan → lines_of plan ≡ plan_of N W tree order
    lines_shown plan s = λ i. record { steps = steps i; root = (root_same plan s) i; splits = splits i }
      where
        steps : map step_of plan.primitives ≡ map (renamed_step num) (filter_map (step_line N W tree) order)
        steps =
            steps_same 0 (primitives_in c tree order) plan.primitives (λ p d. (filter_to (λ p. is_primitive c (at_node p)) order p d).1) primitives_numbered s.primitives
            ∙ ap (map (renamed_step num)) (filter_map_kept (step_line N W tree) (λ p. is_primitive c (at_node p)) order (λ p l d e. primitive_gives p l e))

        splits : map split_of plan.nodes ≡ map (renamed_split num) (filter_map (split_line N W tree) order)
        splits =
            splits_same (length (primitives_in c tree order)) (lower_in c tree order) plan.nodes (λ p d. (filter_to (λ p. is_lower c p (at_node p)) order p d).1) lower_numbered s.nodes
            ∙ ap (map (renamed_split num)) (filter_map_kept (split_line N W tree) (λ p. is_lower c p (at_node p)) order (λ p l d e. lower_gives p l e))

pub shown_are_lines : (c : Compiled) → ShownAreLines c
shown_are_lines c tree order plan f = (
  lines_shown c tree order f plan,
  λ e. (
      let one = each_is_shown_once c tree order f in
      let same : one.plan ≡ plan = sym (from_lines one.plan) ∙ ap hplan_from (lines_shown c tree order f one.plan one.shows ∙ sym e) ∙ from_lines plan in
      subst (ShowsHPlan c tree order) same one.shows),
)
