-- A plan has a tree exactly where its lines are fitted: each id is listed once and the root reaches each line, so that lines are joined to a tree.
use Rattle.std.proofs.Common.{ℕ, zero, suc, ◌≡◌, ◌+◌, ◌⊎◌, inl, inr, ◌∙◌, Bool, true, false, not, List, [], ◌∷◌, ◌++◌, length, map, filter, slice_get, Option, Some, None, option_map, refl, ap, sym, subst, Contains, arith}
use Rattle.std.proofs.lemmas.List.{length-map, length-append}
use Rattle.std.proofs.lemmas.List.Elements.{Contains-append_left, Contains-append_right}
use Rattle.htn_base.specs.Different.{AreDifferent}
use Rattle.plan_texts.specs.SoundProblem.{IsSoundProblem}
use Rattle.plan_texts.proofs.Members.{contains-has, has-contains}
use Rattle.plan_model.specs.declared.options.Checks.{Checks}
use Rattle.plan_model.specs.declared.values.Hddl.{Hddl}
use Rattle.plan_model.specs.declared.values.Compiled.{Compiled}
use Rattle.plan_model.specs.task_networks.Net.{Net}
use Rattle.plan_model.specs.task_networks.Tree.{Tree, Trees, open_leaf, done, split, none, more, Label, waits, ran, used, Address, at, child_at, label, label_at, work_of, works_of, IsOpen, IsGrown, AreGrown}
use Rattle.plan_model.specs.plan_meaning.Compilation.{IsCompiled}
use Rattle.plan_model.specs.plan_meaning.Network.{Work, action, check, task, GroundMethod, IsPrimitive, network, child_of, IsGroundMethod}
use Rattle.plan_model.specs.plan_meaning.Solution.{top_work}
use Rattle.plan_model.proofs.task_networks.Different.{no_more}
use Rattle.plan_model.proofs.task_networks.Lists.{Contains-here, Contains-later, head_or_tail, not-in_empty, cut_at}
use Rattle.plan_model.proofs.task_networks.Nodes.{parent, child_below}
use Rattle.plan_model.proofs.task_networks.Parents.{split_at, child_label}
use Rattle.plan_model.proofs.task_networks.Unused.{is_in}
use Rattle.plan_model.proofs.plan_meaning.Pairs.{map_to}
use Rattle.hplan_text.specs.declared.values.HPlan.{HPlan}
use Rattle.hplan_text.specs.HPlanFaults.{Reaches, lists, leads}
use Rattle.hplan_text.specs.Printable.{IsSoundHPlan, task_ids}
use Rattle.schedules.specs.latest.PlanLines.{StepLine, SplitLine, PlanLines, step_ids, line_ids, IsId, renamed_step, renamed_split}
use Rattle.schedules.specs.latest.Shown.{PlanWords, children_shown, children_of_label, step_line, step_of_label, split_line, split_of_label, IsTreeOf, IsTreeFor}
use Rattle.schedules.specs.latest.Shown as Lines
use Rattle.schedules.proofs.latest.GrownTrees.{tree_there, ground_at, simple_at}
use Rattle.schedules.proofs.latest.LinesOfTrees.{split_children}
use Rattle.schedules.proofs.latest.LinesOfTrees as of_lines
use Rattle.schedules.proofs.latest.Rearranged.{in_map}
use Rattle.schedules.proofs.latest.Renumbered.{id_of_step, id_of_split}
use Rattle.plan_encoder.specs.Calls.{Call, Decomposed, split_of, lines_of, is_check, call, words, IsKnown, subtasks}
use Rattle.plan_encoder.specs.Laws.{TreesExactlyWhereFitting}
use Rattle.plan_encoder.specs.Records.{IsLineOf, AreLinesOf, Fits, FitsRoot, EachFits}
use Rattle.plan_encoder.proofs.CallsApart.{declared_is_known, same_task}
use Rattle.plan_encoder.proofs.CompiledMethods.{works_are}
use Rattle.plan_encoder.proofs.SameRecords.{head_task}
use Rattle.plan_encoder.proofs.ListedOnce.{id_at, AsMany, falses, id_listed, id_once, listed_at, images, passing, ids_are, different_lines, one_split, one_step, step_or_split, root_once, children_once, root_or_line, one_line}

-- where the method at each line's node is one that is chosen for the line
module _ (c : Compiled) (plan : HPlan) (Chosen : SplitLine ℕ Decomposed → GroundMethod → Type 0) where
  abbrev N : Net
  N = network c

  abbrev W : PlanWords N
  W = words c

  abbrev P : PlanLines ℕ Call Decomposed
  P = lines_of plan

  abbrev Split : Type 0
  Split = SplitLine ℕ Decomposed

  abbrev checks : List Work → List Bool
  checks ws = map is_check ws

  -- it fits the line and is chosen for it
  record IsFor (l : Split) (g : GroundMethod) : Type 0 where
    fits : Fits c P l g
    chosen : Chosen l g

  abbrev mutual
    -- the tree is that of the line with this id, whose work this is
    IsOf : Tree N → ℕ → Work → Type 0
    IsOf (open_leaf v) i w = ⊥
    IsOf (done v) i w = (v ≡ w) × IsPrimitive w × (is_check w ≡ false) × Contains P.steps (record { id = i; step = call c w })
    IsOf (split g ts) i w = (l : Split) × Contains P.splits l × (l.id ≡ i) × IsFor l g × (N.head g ≡ w) × AreOf ts l.children (N.works g)

    -- trees of these works, which are checks, or have these ids
    AreOf : Trees N → List ℕ → List Work → Type 0
    AreOf none ids [] = ids ≡ []
    AreOf none ids (w ∷ ws) = ⊥
    AreOf (more t ts) ids [] = ⊥
    AreOf (more t ts) ids (w ∷ ws) = ((is_check w ≡ true) × IsPrimitive w × (t ≡ done w) × AreOf ts ids ws)
        ⊎ ((i : ℕ) × (rest : List ℕ) × (ids ≡ i ∷ rest) × (is_check w ≡ false) × IsOf t i w × AreOf ts rest ws)

  mutual
    grown_of : (t : Tree N) (i : ℕ) (w : Work) → IsOf t i w → IsGrown N t × (work_of N t ≡ w)
    grown_of (open_leaf v) i w x = absurd x
    grown_of (done v) i w (e, s, n, d) = (subst IsPrimitive (sym e) s, e)
    grown_of (split g ts) i w (l, d, e, f, hd, a) = let r = all_grown ts l.children (N.works g) a in ((f.fits.ground, r.1, r.0), hd)

    all_grown : (ts : Trees N) (ids : List ℕ) (ws : List Work) → AreOf ts ids ws → AreGrown N ts × (works_of N ts ≡ ws)
    all_grown none ids [] a = (tt, refl)
    all_grown none ids (w ∷ ws) a = absurd a
    all_grown (more t ts) ids [] a = absurd a
    all_grown (more t ts) ids (w ∷ ws) (inl (n, s, e, a)) =
        let r = all_grown ts ids ws a in
        let k : work_of N t ≡ w = ap (work_of N) e in
        ((subst (IsGrown N) (sym e) s, r.0), λ i. k i ∷ r.1 i)
    all_grown (more t ts) ids (w ∷ ws) (inr (i, rest, e, n, x, a)) =
        let r = all_grown ts rest ws a in
        let h = grown_of t i w x in
        ((h.0, r.0), λ j. h.1 j ∷ r.1 j)

  as_many : (ts : Trees N) (ids : List ℕ) (ws : List Work) → AreOf ts ids ws → AsMany (checks ws) ids
  as_many none [] [] a = tt
  as_many none (i ∷ ids) [] a = absurd cc
  as_many none ids (w ∷ ws) a = absurd a
  as_many (more t ts) ids [] a = absurd a
  as_many (more t ts) ids (w ∷ ws) (inl (n, s, e, a)) = subst (λ b. AsMany (b ∷ checks ws) ids) (sym n) (as_many ts ids ws a)
  as_many (more t ts) ids (w ∷ ws) (inr (i, rest, e, n, x, a)) = subst (AsMany (is_check w ∷ checks ws)) (sym e) (subst (λ b. AsMany (b ∷ checks ws) (i ∷ rest)) (sym n) (as_many ts rest ws a))

  -- what a child is: a check, or of a line
  abbrev IsChild : Tree N → Option ℕ → Type 0
  IsChild t o = ((w : Work) × (is_check w ≡ true) × (t ≡ done w) × (o ≡ None)) ⊎ ((i : ℕ) × (w : Work) × (o ≡ Some i) × IsOf t i w)

  child_is : (ts : Trees N) (ids : List ℕ) (ws : List Work) → AreOf ts ids ws → (j : ℕ) (t : Tree N) → child_at N ts j ≡ Some t
      → IsChild t (id_at (checks ws) ids j)
  child_is none ids ws a j t e = absurd cc
  child_is (more u ts) ids [] a j t e = absurd a
  child_is (more u ts) ids (w ∷ ws) (inl (n, s, k, a)) zero t e =
      let f : u ≡ t = cc in
      inl (w, n, sym f ∙ k, ap (λ b. id_at (b ∷ checks ws) ids 0) n)
  child_is (more u ts) ids (w ∷ ws) (inl (n, s, k, a)) (suc j) t e = subst (IsChild t) (sym (ap (λ b. id_at (b ∷ checks ws) ids (suc j)) n)) (child_is ts ids ws a j t e)
  child_is (more u ts) ids (w ∷ ws) (inr (i, rest, k, n, x, a)) zero t e =
      let f : u ≡ t = cc in
      inr (i, w, ap (λ z. id_at (is_check w ∷ checks ws) z 0) k ∙ ap (λ b. id_at (b ∷ checks ws) (i ∷ rest) 0) n, subst (λ z. IsOf z i w) f x)
  child_is (more u ts) ids (w ∷ ws) (inr (i, rest, k, n, x, a)) (suc j) t e =
      subst (IsChild t) (sym (ap (λ z. id_at (is_check w ∷ checks ws) z (suc j)) k ∙ ap (λ b. id_at (b ∷ checks ws) (i ∷ rest) (suc j)) n)) (child_is ts rest ws a j t e)

  child_there : (ts : Trees N) (ids : List ℕ) (ws : List Work) → AreOf ts ids ws → (j i : ℕ) → id_at (checks ws) ids j ≡ Some i
      → (t : Tree N) × (child_at N ts j ≡ Some t)
  child_there none ids [] a j i e = absurd cc
  child_there none ids (w ∷ ws) a j i e = absurd a
  child_there (more u ts) ids [] a j i e = absurd a
  child_there (more u ts) ids (w ∷ ws) a zero i e = (u, refl)
  child_there (more u ts) ids (w ∷ ws) (inl (n, s, k, a)) (suc j) i e = child_there ts ids ws a j i (sym (ap (λ b. id_at (b ∷ checks ws) ids (suc j)) n) ∙ e)
  child_there (more u ts) ids (w ∷ ws) (inr (m, rest, k, n, x, a)) (suc j) i e =
      child_there ts rest ws a j i (sym (ap (λ z. id_at (is_check w ∷ checks ws) z (suc j)) k ∙ ap (λ b. id_at (b ∷ checks ws) (m ∷ rest) (suc j)) n) ∙ e)

  pub works_known : (g : GroundMethod) → IsGroundMethod c g → (w : Work) → Contains (N.works g) w → is_check w ≡ false → IsKnown c w
  works_known g ground w d n =
      let (x, a, e) = map_to (child_of g) ground.plan.schema.children w (subst (λ z. Contains z w) (works_are c g ground.plan ground.is) d) in
      subst (IsKnown c) e (declared_is_known c (child_of g x) (ap is_check e ∙ n) (ground.met.declared x a))

  module _ (h : Hddl) (mode : Checks) (sound : IsSoundProblem h) (is : IsCompiled h mode c) (s : IsSoundHPlan plan)
      (fits : EachFits c P) (chosen : (l : Split) (d : Contains P.splits l) → Chosen l (fits.splits l d).0) where
    -- the id stands below these, which are listed one by the next, and the last by the root
    abbrev Chain : ℕ → List ℕ → Type 0
    Chain i [] = Contains P.root i
    Chain i (a ∷ upper) = (l : Split) × Contains P.splits l × (l.id ≡ a) × Contains l.children i × Chain a upper

    one_chain : (i : ℕ) (upper bs : List ℕ) → Chain i upper → Chain i bs → upper ≡ bs
    one_chain i [] [] x y = refl
    one_chain i [] (b ∷ bs) x (k, d, e, m, y) = absurd (root_or_line plan s i k d x m)
    one_chain i (a ∷ upper) [] (l, d, e, m, x) y = absurd (root_or_line plan s i l d y m)
    one_chain i (a ∷ upper) (b ∷ bs) (l, d, e, m, x) (k, d', e', m', y) =
        let same = one_line plan s i l k d d' m m' in
        let f : a ≡ b = sym e ∙ ap (λ (z : Split). z.id) same ∙ e' in
        let r = one_chain a upper bs x (subst (λ z. Chain z bs) (sym f) y) in
        λ n. f n ∷ r n

    -- what stands above an id in a chain has its own
    rest_of_chain : (i : ℕ) (before : List ℕ) (a : ℕ) (after : List ℕ) → Chain i (before ++ a ∷ after) → Chain a after
    rest_of_chain i [] a after (l, d, e, m, x) = x
    rest_of_chain i (b ∷ before) a after (l, d, e, m, x) = rest_of_chain b before a after x

    no_loop : (i : ℕ) (upper : List ℕ) → Chain i upper → Contains upper i → ⊥
    no_loop i upper x d =
        let (before, after, e) = cut_at upper i d in
        let y = rest_of_chain i before i after (subst (Chain i) e x) in
        let f = one_chain i upper after x y in
        let k = ap length e ∙ length-append before (i ∷ after) in
        let l = ap length f in
        omega arith

    different_chain : (i : ℕ) (upper : List ℕ) → Chain i upper → AreDifferent (i ∷ upper)
    different_chain i [] x = (not-in_empty i, tt)
    different_chain i (a ∷ upper) (l, d, e, m, x) = (no_loop i (a ∷ upper) (l, d, e, m, x), different_chain a upper x)

    abbrev split_ids : List ℕ
    split_ids = map (λ (l : Split). l.id) P.splits

    above_are_splits : (i : ℕ) (upper : List ℕ) → Chain i upper → (a : ℕ) → Contains upper a → Contains split_ids a
    above_are_splits i [] x a d = absurd (not-in_empty a d)
    above_are_splits i (b ∷ upper) (l, d, e, m, x) a k = elim (head_or_tail b upper a k) [
      | inl f ↦ subst (Contains split_ids) (e ∙ f) (in_map (λ (l : Split). l.id) P.splits l d)
      | inr r ↦ above_are_splits b upper x a r
    ]

    abbrev Below : List ℕ → Type 0
    Below upper = (i : ℕ) (w : Work) → Chain i upper → is_check w ≡ false → IsKnown c w → IsLineOf c P i w → (t : Tree N) × IsOf t i w

    grow_all : (upper : List ℕ) → Below upper → (ids : List ℕ) (ws : List Work) → ((i : ℕ) → Contains ids i → Chain i upper)
        → ((w : Work) → Contains ws w → is_check w ≡ false → IsKnown c w) → AreLinesOf c P ids (filter (λ w. not (is_check w)) ws)
        → (ts : Trees N) × AreOf ts ids ws
    grow_all upper below [] [] ch known a = (none, refl)
    grow_all upper below (i ∷ ids) [] ch known a = absurd a
    grow_all upper below ids (check m v ∷ ws) ch known a =
        let r = grow_all upper below ids ws ch (λ w d. known w (Contains-later (check m v) ws w d)) a in
        (more (done (check m v)) r.0, inl (refl, tt, refl, r.1))
    grow_all upper below [] (action u v ∷ ws) ch known a = absurd a
    grow_all upper below [] (task u v ∷ ws) ch known a = absurd a
    grow_all upper below (i ∷ ids) (action u v ∷ ws) ch known a =
        let t = below i (action u v) (ch i (Contains-here i ids)) refl (known (action u v) (Contains-here (action u v) ws) refl) a.0 in
        let r = grow_all upper below ids ws (λ k d. ch k (Contains-later i ids k d)) (λ w d. known w (Contains-later (action u v) ws w d)) a.1 in
        (more t.0 r.0, inr (i, ids, refl, refl, t.1, r.1))
    grow_all upper below (i ∷ ids) (task u v ∷ ws) ch known a =
        let t = below i (task u v) (ch i (Contains-here i ids)) refl (known (task u v) (Contains-here (task u v) ws) refl) a.0 in
        let r = grow_all upper below ids ws (λ k d. ch k (Contains-later i ids k d)) (λ w d. known w (Contains-later (task u v) ws w d)) a.1 in
        (more t.0 r.0, inr (i, ids, refl, refl, t.1, r.1))

    -- the task of the method that fits a line is the one that the line stands for
    head_fits : (l : Split) (g : GroundMethod) (t : ℕ) (v : List ℕ) → Fits c P l g → IsKnown c (task t v) → l.split.task ≡ call c (task t v)
        → N.head g ≡ task t v
    head_fits l g t v f known e =
        let (u, x, k) = head_task c g in
        let says : call c (task t v) ≡ call c (task u x) = sym e ∙ sym (ap (λ (z : Decomposed). z.task) f.says) ∙ ap (call c) k in
        k ∙ sym (same_task c h mode sound is t u v x known says)

    grow : (k : ℕ) (upper : List ℕ) → length upper + k ≡ length P.splits → Below upper
    grow k upper e i (action a v) ch n known x = (done (action a v), (refl, tt, refl, x))
    grow k upper e i (check m v) ch n known x = absurd x
    grow zero upper e i (task t v) ch n known (l, d, f, x) =
        let few = no_more (i ∷ upper) split_ids (different_chain i upper ch) (λ a m. elim (head_or_tail i upper a m) [
          | inl y ↦ subst (Contains split_ids) (f ∙ y) (in_map (λ (l : Split). l.id) P.splits l d)
          | inr r ↦ above_are_splits i upper ch a r
        ]) in
        let many = length-map P.splits (λ (l : Split). l.id) in
        absurd (omega arith)
    grow (suc k) upper e i (task t v) ch n known (l, d, f, x) =
        let (g, fit) = fits.splits l d in
        let r = grow_all (i ∷ upper) (grow k (i ∷ upper) (omega arith)) l.children (N.works g) (λ j m. (l, d, f, m, ch)) (works_known g fit.ground) fit.children in
        (split g r.0, (l, d, f, record { fits = fit; chosen = chosen l d }, head_fits l g t v fit known x, r.1))

    abbrev top_method : GroundMethod
    top_method = fits.root.0

    top_fits : FitsRoot c P top_method
    top_fits = fits.root.1

    children : (ts : Trees N) × AreOf ts P.root (N.works top_method)
    children = grow_all [] (grow (length P.splits) [] (let x : 0 + length P.splits ≡ length P.splits = omega arith in x)) P.root (N.works top_method) (λ i d. d) (works_known top_method top_fits.ground) top_fits.children

    pub tree : Tree N
    tree = split top_method children.0

    root_at : at N tree [] ≡ Some (split top_method children.0)
    unfolding tree
    root_at = refl

    tree_grown : IsGrown N tree
    unfolding tree
    tree_grown = let r = all_grown children.0 P.root (N.works top_method) children.1 in (top_fits.ground, r.1, r.0)

    -- the ids of the children of the node q
    abbrev IsNode : Address → List ℕ → Type 0
    IsNode [] ids = ids ≡ P.root
    IsNode (j ∷ q) ids = (l : Split) × Contains P.splits l × (ids ≡ l.children) × (g : GroundMethod) × (label_at N tree q ≡ Some (used g)) × (up : List ℕ) × IsNode q up × (id_at (checks (N.works g)) up j ≡ Some l.id)

    -- the id stands at p
    abbrev IdAt : Address → ℕ → Type 0
    IdAt [] i = ⊥
    IdAt (j ∷ q) i = (g : GroundMethod) × (label_at N tree q ≡ Some (used g)) × (up : List ℕ) × IsNode q up × (id_at (checks (N.works g)) up j ≡ Some i)

    label_split : (q : Address) (g : GroundMethod) (ts : Trees N) → at N tree q ≡ Some (split g ts) → label_at N tree q ≡ Some (used g)
    label_split q g ts e = ap (option_map (label N)) e

    -- each decomposed node has the ids of its children, and each node below is one of those
    abbrev Inner : Address → GroundMethod → Trees N → Type 0
    Inner q g ts = (ids : List ℕ) × IsNode q ids × AreOf ts ids (N.works g)

    child_of_inner : (j : ℕ) (q : Address) (g : GroundMethod) (ts : Trees N) (t : Tree N) → at N tree q ≡ Some (split g ts) → Inner q g ts
        → child_at N ts j ≡ Some t
        → ((w : Work) × (is_check w ≡ true) × (t ≡ done w)) ⊎ ((i : ℕ) × (w : Work) × IdAt (j ∷ q) i × IsOf t i w)
    child_of_inner j q g ts t e (ids, n, a) f = elim (child_is ts ids (N.works g) a j t f) [
      | inl (w, k, x, o) ↦ inl (w, k, x)
      | inr (i, w, o, x) ↦ inr (i, w, (g, label_split q g ts e, ids, n, o), x)
    ]

    inner : (q : Address) (g : GroundMethod) (ts : Trees N) → at N tree q ≡ Some (split g ts) → Inner q g ts
    inner [] g ts e = at_root g ts (sym root_at ∙ e)
      where
        at_root : (g : GroundMethod) (ts : Trees N)
            → (let x : Option (Tree N) = Some (split top_method children.0) in x) ≡ Some (split g ts)
            → (ids : List ℕ) × (ids ≡ P.root) × AreOf ts ids (N.works g)
        at_root g ts e =
            let f : top_method ≡ g = cc in
            let k : children.0 ≡ ts = cc in
            (P.root, refl, subst (λ z. AreOf z P.root (N.works g)) k (subst (λ z. AreOf children.0 P.root (N.works z)) f children.1))
    inner (j ∷ q) g ts e =
        let (m, us, up, ch) = parent N tree j q (split g ts) e in
        go (child_of_inner j q m us (split g ts) up (inner q m us up) ch)
      where
        go : ((w : Work) × (is_check w ≡ true) × ((let x : Tree N = split g ts in x) ≡ done w))
            ⊎ ((i : ℕ) × (w : Work) × IdAt (j ∷ q) i × IsOf (split g ts) i w)
            → (ids : List ℕ) × IsNode (j ∷ q) ids × AreOf ts ids (N.works g)
        go (inl (w, k, x)) = absurd cc
        go (inr (i, w, (n, lab, ids, is_node, o), (l, d, f, fit, hd, a))) = (l.children, (l, d, refl, n, lab, ids, is_node, o ∙ ap Some (sym f)), a)

    -- each node is the root, a check, or of a line
    facts : (j : ℕ) (q : Address) (t : Tree N) → at N tree (j ∷ q) ≡ Some t
        → ((w : Work) × (is_check w ≡ true) × (t ≡ done w)) ⊎ ((i : ℕ) × (w : Work) × IdAt (j ∷ q) i × IsOf t i w)
    facts j q t e = let (m, us, up, ch) = parent N tree j q t e in child_of_inner j q m us t up (inner q m us up) ch

    same_method : (q : Address) (g k : GroundMethod) → label_at N tree q ≡ Some (used g) → label_at N tree q ≡ Some (used k) → g ≡ k
    same_method q g k e f = cc

    some_once : {A : Type 0} {x y : A} → Some x ≡ Some y → x ≡ y
    some_once e = cc

    -- a node has one list of ids, and one id
    one_node : (q : Address) (ids other : List ℕ) → IsNode q ids → IsNode q other → ids ≡ other
    one_node [] ids other x y = x ∙ sym y
    one_node (j ∷ q) ids other (l, d, r, g, e, up, n, o) (l', d', r', g', e', up', n', o') =
        let f = one_node q up up' n n' in
        let m = same_method q g g' e e' in
        let same : l.id ≡ l'.id = some_once (sym o ∙ ap (λ z. id_at (checks (N.works g)) z j) f ∙ ap (λ z. id_at (checks (N.works z)) up' j) m ∙ o') in
        r ∙ ap (λ (z : Split). z.children) (one_split plan s l l' d d' same) ∙ sym r'

    one_id : (p : Address) (i k : ℕ) → IdAt p i → IdAt p k → i ≡ k
    one_id [] i k x y = absurd x
    one_id (j ∷ q) i k (g, e, up, n, o) (g', e', up', n', o') =
        let f = one_node q up up' n n' in
        let m = same_method q g g' e e' in
        some_once (sym o ∙ ap (λ z. id_at (checks (N.works g)) z j) f ∙ ap (λ z. id_at (checks (N.works z)) up' j) m ∙ o')

    -- the tree of an id at its node
    tree_of_id : (p : Address) (i : ℕ) → IdAt p i → (t : Tree N) × (at N tree p ≡ Some t) × (w : Work) × IsOf t i w
    tree_of_id [] i x = absurd x
    tree_of_id (j ∷ q) i (g, e, up, n, o) =
        let (ts, a) = split_at N tree q g e in
        let (ids, n', of) = inner q g ts a in
        let f : up ≡ ids = one_node q up ids n n' in
        let o' : id_at (checks (N.works g)) ids j ≡ Some i = ap (λ z. id_at (checks (N.works g)) z j) (sym f) ∙ o in
        let (t, ch) = child_there ts ids (N.works g) of j i o' in
        go t (child_below N tree j q g ts a ∙ ch) (child_is ts ids (N.works g) of j t ch) o'
      where
        go : {x : Option ℕ} (t : Tree N) → at N tree (j ∷ q) ≡ Some t → IsChild t x → x ≡ Some i
            → (t : Tree N) × (at N tree (j ∷ q) ≡ Some t) × (w : Work) × IsOf t i w
        go t a (inl (w, k, y, z)) o = absurd (let r = sym z ∙ o in cc)
        go t a (inr (k, w, z, y)) o = let r : k ≡ i = some_once (sym z ∙ o) in (t, a, w, subst (λ z. IsOf t z w) r y)

    -- the id of a line's child is below the line's node
    listed_below : (q : Address) (l : Split) (i : ℕ) → Contains P.splits l → IdAt q l.id → Contains l.children i → (j : ℕ) × IdAt (j ∷ q) i
    listed_below [] l i d x m = absurd x
    listed_below (k ∷ r) l i d (g, e, up, n, o) m =
        let (t, a, w, x) = tree_of_id (k ∷ r) l.id (g, e, up, n, o) in
        go t a w x
      where
        go : (t : Tree N) → at N tree (k ∷ r) ≡ Some t → (w : Work) → IsOf t l.id w → (j : ℕ) × IdAt (j ∷ k ∷ r) i
        go (open_leaf v) a w x = absurd x
        go (done v) a w (f, pr, nc, y) = absurd (step_or_split plan s (record { id = l.id; step = call c w }) l y d refl)
        go (split m' ts) a w (l', d', f, fit, hd, of) =
            let same : l' ≡ l = one_split plan s l' l d' d f in
            let (j, y) = listed_at (checks (N.works m')) l'.children i (as_many ts l'.children (N.works m') of) (subst (λ (z : Split). Contains z.children i) (sym same) m) in
            (j, (m', label_split (k ∷ r) m' ts a, l'.children, (l, d, ap (λ (z : Split). z.children) same, g, e, up, n, o), y))

    -- what the root reaches has a node
    reached_there : (i : ℕ) → Reaches plan i → (p : Address) × IdAt p i
    reached_there i (lists d) =
        let (j, o) = listed_at (checks (N.works top_method)) P.root i (as_many children.0 P.root (N.works top_method) children.1) (has-contains plan.root i d) in
        (j ∷ [], (top_method, label_split [] top_method children.0 root_at, P.root, refl, o))
    reached_there i (leads x d r m) =
        let (q, y) = reached_there x.line.id r in
        let (j, z) = listed_below q (split_of x) i (in_map split_of plan.nodes x (has-contains plan.nodes x d)) y (has-contains x.ids i m) in
        (j ∷ q, z)

    line_there : (i : ℕ) → Contains (line_ids P) i → (p : Address) × IdAt p i
    line_there i d = reached_there i (s.reached i (contains-has (task_ids plan) i (subst (λ z. Contains z i) (ids_are plan s) d)))

    -- an id has one node
    one_place : (p q : Address) (i : ℕ) → IdAt p i → IdAt q i → p ≡ q
    one_place [] q i x y = absurd x
    one_place (j ∷ p) [] i x y = absurd y
    one_place (j ∷ []) (k ∷ []) i (g, e, up, n, o) (g', e', up', n', o') =
        let m = same_method [] g g' e e' in
        let f : up ≡ up' = n ∙ sym n' in
        let o2 : id_at (checks (N.works g)) up k ≡ Some i = ap (λ z. id_at (checks (N.works g)) z k) f ∙ ap (λ z. id_at (checks (N.works z)) up' k) m ∙ o' in
        let r = id_once (checks (N.works g)) up j k i (subst AreDifferent (sym n) (root_once plan s)) o o2 in
        λ z. r z ∷ []
    one_place (j ∷ []) (k ∷ b ∷ q) i (g, e, up, n, o) (g', e', up', (l, d, r, x1, x2, x3, x4, x5), o') =
        absurd (root_or_line plan s i l d (subst (λ z. Contains z i) n (id_listed (checks (N.works g)) up j i o)) (subst (λ z. Contains z i) r (id_listed (checks (N.works g')) up' k i o')))
    one_place (j ∷ a ∷ p) (k ∷ []) i (g, e, up, (l, d, r, x1, x2, x3, x4, x5), o) (g', e', up', n', o') =
        absurd (root_or_line plan s i l d (subst (λ z. Contains z i) n' (id_listed (checks (N.works g')) up' k i o')) (subst (λ z. Contains z i) r (id_listed (checks (N.works g)) up j i o)))
    one_place (j ∷ a ∷ p) (k ∷ b ∷ q) i (g, e, up, (l, d, r, x1, x2, x3, x4, x5), o) (g', e', up', (l', d', r', y1, y2, y3, y4, y5), o') =
        let same = one_line plan s i l l' d d' (subst (λ z. Contains z i) r (id_listed (checks (N.works g)) up j i o)) (subst (λ z. Contains z i) r' (id_listed (checks (N.works g')) up' k i o')) in
        let f : a ∷ p ≡ b ∷ q = one_place (a ∷ p) (b ∷ q) l.id (x1, x2, x3, x4, x5) (subst (λ (z : Split). IdAt (b ∷ q) z.id) (sym same) (y1, y2, y3, y4, y5)) in
        let m : g ≡ g' = same_method (b ∷ q) g g' (subst (λ z. label_at N tree z ≡ Some (used g)) f e) e' in
        let u : up ≡ up' = r ∙ ap (λ (z : Split). z.children) same ∙ sym r' in
        let o2 : id_at (checks (N.works g)) up k ≡ Some i = ap (λ z. id_at (checks (N.works g)) z k) u ∙ ap (λ z. id_at (checks (N.works z)) up' k) m ∙ o' in
        let t = id_once (checks (N.works g)) up j k i (subst AreDifferent (sym r) (children_once plan s l d)) o o2 in
        λ z. t z ∷ f z

    -- the node of an id
    node_by : (i : ℕ) → Dec (Contains (line_ids P) i) → Address
    node_by i (yes d) = (line_there i d).0
    node_by i (no n) = []

    pub node : ℕ → Address
    node i = node_by i (is_in (line_ids P) i)

    node_there : (i : ℕ) → Contains (line_ids P) i → IdAt (node i) i
    unfolding node node_by
    node_there i d = go (is_in (line_ids P) i)
      where
        go : (k : Dec (Contains (line_ids P) i)) → IdAt (node_by i k) i
        go (yes a) = (line_there i a).1
        go (no n) = absurd (n d)

    node_is : (p : Address) (i : ℕ) → Contains (line_ids P) i → IdAt p i → node i ≡ p
    node_is p i d x = one_place (node i) p i (node_there i d) x

    step_listed : (l : StepLine ℕ Call) → Contains P.steps l → Contains (line_ids P) l.id
    step_listed l d = Contains-append_left (step_ids P) (map (λ l. l.id) P.splits) l.id (in_map (λ l. l.id) P.steps l d)

    split_listed : (l : Split) → Contains P.splits l → Contains (line_ids P) l.id
    split_listed l d = Contains-append_right (step_ids P) (map (λ l. l.id) P.splits) l.id (in_map (λ l. l.id) P.splits l d)

    -- an id at a node is a line's
    id_is_line : (p : Address) (i : ℕ) → IdAt p i → Contains (line_ids P) i
    id_is_line p i x = let (t, a, w, y) = tree_of_id p i x in go t w y
      where
        go : (t : Tree N) (w : Work) → IsOf t i w → Contains (line_ids P) i
        go (open_leaf v) w y = absurd y
        go (done v) w (e, pr, nc, d) = step_listed (record { id = i; step = call c w }) d
        go (split g ts) w (l, d, e, f1, f2, f3) = subst (Contains (line_ids P)) e (split_listed l d)

    -- an id that is listed is a line's
    any_is_line : (i : ℕ) → IsId P i → Contains (line_ids P) i
    any_is_line i (inl d) = d
    any_is_line i (inr (inl d)) = let (p, x) = reached_there i (lists (contains-has plan.root i d)) in id_is_line p i x
    any_is_line i (inr (inr (l, d, m))) = let (j, x) = listed_below (node l.id) l i d (node_there l.id (split_listed l d)) m in id_is_line (j ∷ node l.id) i x

    -- the children that are shown are those with ids
    shown_are : (g : GroundMethod) → Lines.shown_children N W g ≡ falses 0 (checks (N.works g))
    shown_are g = passing (Lines.is_shown N W) is_check (λ w. refl) (N.works g) (N.works g) 0 (λ n. ap (slice_get (N.works g)) (let x : 0 + n ≡ n = omega arith in x))

    children_are : (q : Address) (g : GroundMethod) (ts : Trees N) → at N tree q ≡ Some (split g ts) → (ids : List ℕ) → IsNode q ids
        → AreOf ts ids (N.works g)
        → map node ids ≡ map (λ j. j ∷ q) (Lines.shown_children N W g)
    children_are q g ts e ids n a =
        images (checks (N.works g)) ids 0 node (λ j. j ∷ q) (as_many ts ids (N.works g) a)
        (λ j i o. (let x : IdAt (j ∷ q) i = (g, label_split q g ts e, ids, n, o) in
        node_is (j ∷ q) i (id_is_line (j ∷ q) i x) x ∙ ap (λ z. z ∷ q) (let y : j ≡ 0 + j = omega arith in y)))
        ∙ ap (map (λ j. j ∷ q)) (sym (shown_are g))

    -- what stands at the node of a line
    step_there : (l : StepLine ℕ Call) → Contains P.steps l → step_line N W tree (node l.id) ≡ Some (renamed_step node l)
    step_there l d = let (t, a, w, x) = tree_of_id (node l.id) l.id (node_there l.id (step_listed l d)) in go t a w x
      where
        go : (t : Tree N) → at N tree (node l.id) ≡ Some t → (w : Work) → IsOf t l.id w
            → step_line N W tree (node l.id) ≡ Some (renamed_step node l)
        go (open_leaf v) a w x = absurd x
        go (split g ts) a w (k, m, e, f1, f2, f3) = absurd (step_or_split plan s l k d m (sym e))
        go (done v) a w (e, pr, nc, m) =
            let same : (let r : StepLine ℕ Call = record { id = l.id; step = call c w } in r) ≡ l = one_step plan s (record { id = l.id; step = call c w }) l m d refl in
            at_work w pr nc (ap (option_map (label N)) a ∙ ap (λ z. Some (ran z)) e) (ap (λ (z : StepLine ℕ Call). z.step) same) m
          where
            at_work : (w : Work) → IsPrimitive w → is_check w ≡ false → label_at N tree (node l.id) ≡ Some (ran w) → call c w ≡ l.step
                → Contains P.steps (record { id = l.id; step = call c w }) → step_line N W tree (node l.id) ≡ Some (renamed_step node l)
            at_work (action u v) pr nc e f m = ap (λ o. step_of_label N W o (node l.id)) e ∙ (λ i. Some (record { id = node l.id; step = f i }))
            at_work (check u v) pr nc e f m = absurd cc
            at_work (task u v) pr nc e f m = absurd pr

    pub root_label : label_at N tree [] ≡ Some (used top_method)
    root_label = label_split [] top_method children.0 root_at

    -- the method at a line's node is chosen for the line
    pub chosen_there : (l : Split) → Contains P.splits l → (g : GroundMethod) × (label_at N tree (node l.id) ≡ Some (used g)) × Chosen l g
    chosen_there l d = let (t, a, w, x) = tree_of_id (node l.id) l.id (node_there l.id (split_listed l d)) in go t a w x
      where
        go : (t : Tree N) → at N tree (node l.id) ≡ Some t → (w : Work) → IsOf t l.id w
            → (g : GroundMethod) × (label_at N tree (node l.id) ≡ Some (used g)) × Chosen l g
        go (open_leaf v) a w x = absurd x
        go (done v) a w (e, pr, nc, m) = absurd (step_or_split plan s (record { id = l.id; step = call c w }) l m d refl)
        go (split g ts) a w (k, m, e, fit, hd, of) =
            (g, label_split (node l.id) g ts a, subst (λ (z : Split). Chosen z g) (one_split plan s k l m d e) fit.chosen)

    -- the line of a decomposed node that isn't the root
    has_line : (p : Address) (i : ℕ) (g : GroundMethod) → IdAt p i → label_at N tree p ≡ Some (used g)
        → split_line N W tree p ≡ Some (record { id = p; split = W.split g; children = map (λ k. k ∷ p) (Lines.shown_children N W g) })
    has_line [] i g x e = absurd x
    has_line (j ∷ q) i g x e = ap (λ o. split_of_label N W o (j ∷ q)) e

    node_of_line : (p : Address) (l : Split) → Contains P.splits l → IdAt p l.id → IsNode p l.children
    node_of_line [] l d x = absurd x
    node_of_line (j ∷ q) l d (g, e, up, n, o) = (l, d, refl, g, e, up, n, o)

    split_there : (l : Split) → Contains P.splits l → split_line N W tree (node l.id) ≡ Some (renamed_split node l)
    split_there l d = let (t, a, w, x) = tree_of_id (node l.id) l.id (node_there l.id (split_listed l d)) in go t a w x
      where
        go : (t : Tree N) → at N tree (node l.id) ≡ Some t → (w : Work) → IsOf t l.id w
            → split_line N W tree (node l.id) ≡ Some (renamed_split node l)
        go (open_leaf v) a w x = absurd x
        go (done v) a w (e, pr, nc, m) = absurd (step_or_split plan s (record { id = l.id; step = call c w }) l m d refl)
        go (split g ts) a w (k, m, e, fit, hd, of) =
            let same : k ≡ l = one_split plan s k l m d e in
            let there = node_there l.id (split_listed l d) in
            let says : W.split g ≡ l.split = fit.fits.says ∙ ap (λ (z : Split). z.split) same in
            let kids = children_are (node l.id) g ts a l.children (node_of_line (node l.id) l d there) (subst (λ (z : Split). AreOf ts z.children (N.works g)) same of) in
            has_line (node l.id) l.id g there (label_split (node l.id) g ts a)
            ∙ (λ i. Some (record { id = node l.id; split = says i; children = (sym kids) i }))

    no_root_leaf : (w : Work) → label_at N tree [] ≡ Some (ran w) → ⊥
    no_root_leaf w e = let f = label_split [] top_method children.0 root_at in cc

    -- each line is one of the plan's
    each_step : (p : Address) (l : StepLine Address Call) → step_line N W tree p ≡ Some l
        → (k : StepLine ℕ Call) × Contains P.steps k × (node k.id ≡ p)
    each_step p l e = let (w, f, n, y, z) = of_lines.step_of N W (label_at N tree p) p l e in at_work p w f n
      where
        at_work : (p : Address) (w : Work) → label_at N tree p ≡ Some (ran w) → is_check w ≡ false
            → (k : StepLine ℕ Call) × Contains P.steps k × (node k.id ≡ p)
        at_work [] w f n = absurd (no_root_leaf w f)
        at_work (j ∷ q) w f n = let (t, a, lab) = tree_there N tree (j ∷ q) (ran w, f) in go t (let x : label N t ≡ ran w = cc in x) (facts j q t a)
          where
            go : (t : Tree N) → label N t ≡ ran w
                → ((v : Work) × (is_check v ≡ true) × (t ≡ done v)) ⊎ ((i : ℕ) × (v : Work) × IdAt (j ∷ q) i × IsOf t i v)
                → (k : StepLine ℕ Call) × Contains P.steps k × (node k.id ≡ j ∷ q)
            go (open_leaf v) x y = absurd cc
            go (split g ts) x y = absurd cc
            go (done u) x (inl (v, k, r)) = absurd (let a : u ≡ w = cc in let b : u ≡ v = cc in let r1 = ap is_check a in let r2 = ap is_check b in cc)
            go (done u) x (inr (i, v, y, (r, pr, nc, m))) =
                (record { id = i; step = call c v }, m, node_is (j ∷ q) i (step_listed (record { id = i; step = call c v }) m) y)

    each_split : (p : Address) (l : SplitLine Address Decomposed) → split_line N W tree p ≡ Some l
        → (k : Split) × Contains P.splits k × (node k.id ≡ p)
    each_split [] l e = absurd (at_top (label_at N tree []) e)
      where
        at_top : (o : Option (Label N)) → split_of_label N W o [] ≡ Some l → ⊥
        at_top None e = cc
        at_top (Some (waits w)) e = cc
        at_top (Some (ran w)) e = cc
        at_top (Some (used g)) e = cc
    each_split (j ∷ q) l e =
        let (g, f, y, z) = of_lines.split_of N W (label_at N tree (j ∷ q)) (j ∷ q) l e in
        let (t, a, lab) = tree_there N tree (j ∷ q) (used g, f) in
        go g t (let x : label N t ≡ used g = cc in x) (facts j q t a)
      where
        go : (g : GroundMethod) (t : Tree N) → label N t ≡ used g
            → ((v : Work) × (is_check v ≡ true) × (t ≡ done v)) ⊎ ((i : ℕ) × (v : Work) × IdAt (j ∷ q) i × IsOf t i v)
            → (k : Split) × Contains P.splits k × (node k.id ≡ j ∷ q)
        go g (open_leaf v) x y = absurd cc
        go g (done v) x y = absurd cc
        go g (split m ts) x (inl (v, k, r)) = absurd cc
        go g (split m ts) x (inr (i, v, y, (k, d, r, z1, z2, z3))) = (k, d, node_is (j ∷ q) k.id (split_listed k d) (subst (IdAt (j ∷ q)) (sym r) y))

    no_open : (p : Address) → IsOpen N tree p → ⊥
    no_open [] (w, e) = let f = label_split [] top_method children.0 root_at in cc
    no_open (j ∷ q) (w, e) = let (t, a, lab) = tree_there N tree (j ∷ q) (waits w, e) in go t (let x : label N t ≡ waits w = cc in x) (facts j q t a)
      where
        go : (t : Tree N) → label N t ≡ waits w
            → ((v : Work) × (is_check v ≡ true) × (t ≡ done v)) ⊎ ((i : ℕ) × (v : Work) × IdAt (j ∷ q) i × IsOf t i v) → ⊥
        go (open_leaf v) x (inl (u, k, r)) = cc
        go (open_leaf v) x (inr (i, u, y, z)) = z
        go (done v) x y = cc
        go (split m ts) x y = cc

    root_work : work_of N tree ≡ top_work c
    unfolding tree
    root_work = top_fits.head

    pub tree_for : IsTreeFor N W (top_work c) P tree node
    tree_for = record {
      grown = tree_grown;
      root = root_work;
      no_leaves = no_open;
      of_plan = record {
        different = different_lines plan s;
        one_to_one = λ i j a b e. one_id (node j) i j (subst (λ z. IdAt z i) e (node_there i (any_is_line i a))) (node_there j (any_is_line j b));
        root = ap (λ o. children_of_label N W o []) (label_split [] top_method children.0 root_at) ∙ sym (children_are [] top_method children.0 root_at P.root refl children.1);
        steps = step_there;
        splits = split_there;
        all_steps = each_step;
        all_splits = each_split;
      };
    }

  -- the tree of a plan fits its lines
  module _ (tree : Tree N) (node : ℕ → Address) (t : IsTreeFor N W (top_work c) P tree node) where
    -- the children of a node are those of these ids
    lines_of_children : (q : Address) (g : GroundMethod) → label_at N tree q ≡ Some (used g) → (k : ℕ) (ids : List ℕ) (ws : List Work)
        → ((n : ℕ) → slice_get (N.works g) (k + n) ≡ slice_get ws n) → ((i : ℕ) → Contains ids i → IsId P i)
        → map node ids ≡ map (λ j. j ∷ q) (falses k (checks ws)) → AreLinesOf c P ids (filter (λ w. not (is_check w)) ws)
    lines_of_children q g e k [] [] h ids f = tt
    lines_of_children q g e k (i ∷ is) [] h ids f = absurd cc
    lines_of_children q g e k is (check m v ∷ ws) h ids f = lines_of_children q g e (suc k) is ws (λ n. ap (slice_get (N.works g)) (let x : suc k + n ≡ k + suc n = omega arith in x) ∙ h (suc n)) ids f
    lines_of_children q g e k [] (action a v ∷ ws) h ids f = absurd cc
    lines_of_children q g e k [] (task a v ∷ ws) h ids f = absurd cc
    lines_of_children q g e k (i ∷ is) (action a v ∷ ws) h ids f = (
      one_action (let x : node i ≡ k ∷ q = cc in x) (ap (slice_get (N.works g)) (let x : k ≡ k + 0 = omega arith in x) ∙ h 0) (ids i (Contains-here i is)),
      lines_of_children q g e (suc k) is ws (λ n. ap (slice_get (N.works g)) (let x : suc k + n ≡ k + suc n = omega arith in x) ∙ h (suc n))
          (λ j d. ids j (Contains-later i is j d)) (let x : map node is ≡ map (λ j. j ∷ q) (falses (suc k) (checks ws)) = cc in x),
    )
      where
        one_action : node i ≡ k ∷ q → slice_get (N.works g) k ≡ Some (action a v) → IsId P i
            → Contains P.steps (record { id = i; step = call c (action a v) })
        one_action x y z =
            let (u, lab, work) = child_label N tree t.grown q g k (action a v) e y in
            at_tree u lab work
          where
            at_tree : (u : Tree N) → label_at N tree (k ∷ q) ≡ Some (label N u) → work_of N u ≡ action a v
                → Contains P.steps (record { id = i; step = call c (action a v) })
            at_tree (open_leaf w) lab work = absurd (t.no_leaves (k ∷ q) (w, lab))
            at_tree (split m ts) lab work = absurd (let (u, w, r) = head_task c m in cc)
            at_tree (done w) lab work =
                let line : step_line N W tree (k ∷ q) ≡ Some (record { id = k ∷ q; step = call c (action a v) }) = ap (λ o. step_of_label N W o (k ∷ q)) (lab ∙ ap (λ z. Some (ran z)) work) in
                let (l, d, r) = t.of_plan.all_steps (k ∷ q) (record { id = k ∷ q; step = call c (action a v) }) line in
                let own = t.of_plan.steps l d in
                let id_is : l.id ≡ i = t.of_plan.one_to_one l.id i (inl (id_of_step P l d)) z (r ∙ sym x) in
                let same : (let o : StepLine Address Call = renamed_step node l in o) ≡ record { id = k ∷ q; step = call c (action a v) } = (let m = ap (step_line N W tree) r in cc) in
                let step_is = ap (λ (z : StepLine Address Call). z.step) same in
                subst (Contains P.steps) (λ n. record { id = id_is n; step = step_is n }) d
    lines_of_children q g e k (i ∷ is) (task a v ∷ ws) h ids f = (
      one_task (let x : node i ≡ k ∷ q = cc in x) (ap (slice_get (N.works g)) (let x : k ≡ k + 0 = omega arith in x) ∙ h 0) (ids i (Contains-here i is)),
      lines_of_children q g e (suc k) is ws (λ n. ap (slice_get (N.works g)) (let x : suc k + n ≡ k + suc n = omega arith in x) ∙ h (suc n))
          (λ j d. ids j (Contains-later i is j d)) (let x : map node is ≡ map (λ j. j ∷ q) (falses (suc k) (checks ws)) = cc in x),
    )
      where
        one_task : node i ≡ k ∷ q → slice_get (N.works g) k ≡ Some (task a v) → IsId P i → IsLineOf c P i (task a v)
        one_task x y z =
            let (u, lab, work) = child_label N tree t.grown q g k (task a v) e y in
            at_tree u lab work
          where
            at_tree : (u : Tree N) → label_at N tree (k ∷ q) ≡ Some (label N u) → work_of N u ≡ task a v → IsLineOf c P i (task a v)
            at_tree (open_leaf w) lab work = absurd (t.no_leaves (k ∷ q) (w, lab))
            at_tree (done w) lab work = absurd (subst IsPrimitive work (simple_at N tree t.grown (k ∷ q) w lab))
            at_tree (split m ts) lab work =
                let new : SplitLine Address Decomposed = record { id = k ∷ q; split = W.split m; children = map (λ j. j ∷ k ∷ q) (Lines.shown_children N W m) } in
                let (l, d, r) = t.of_plan.all_splits (k ∷ q) new (ap (λ o. split_of_label N W o (k ∷ q)) lab) in
                let own = t.of_plan.splits l d in
                let (m', f', y', z') = of_lines.split_of N W (label_at N tree (node l.id)) (node l.id) (renamed_split node l) own in
                let there = ap (label_at N tree) r in
                let same : m' ≡ m = cc in (
                  l,
                  d,
                  t.of_plan.one_to_one l.id i (inl (id_of_split P l d)) z (r ∙ sym x),
                  ap (λ (z : Decomposed). z.task) (z' ∙ ap W.split same) ∙ ap (call c) work,
                )

    children_fit : (q : Address) (g : GroundMethod) → label_at N tree q ≡ Some (used g) → (ids : List ℕ)
        → ((i : ℕ) → Contains ids i → IsId P i)
        → map node ids ≡ children_shown N W tree q → AreLinesOf c P ids (subtasks c g)
    children_fit q g e ids listed f =
        lines_of_children q g e 0 ids (N.works g) (λ n. ap (slice_get (N.works g)) (let x : 0 + n ≡ n = omega arith in x)) listed
        (f ∙ ap (λ o. children_of_label N W o q) e ∙ ap (map (λ j. j ∷ q)) (passing (Lines.is_shown N W) is_check (λ w. refl) (N.works g) (N.works g) 0 (λ n. ap (slice_get (N.works g)) (let x : 0 + n ≡ n = omega arith in x))))

    root_is : (u : Tree N) → IsGrown N u → work_of N u ≡ top_work c → ((p : Address) → IsOpen N u p → ⊥)
        → (g : GroundMethod) × (label_at N u [] ≡ Some (used g)) × (N.head g ≡ top_work c)
    root_is (open_leaf w) g e n = absurd (n [] (w, refl))
    root_is (done w) g e n = absurd (subst IsPrimitive e g)
    root_is (split m ts) g e n = (m, refl, e)

    pub each_fits : EachFits c P
    each_fits = record { root = root_fits; splits = line_fits }
      where
        root_fits : (g : GroundMethod) × FitsRoot c P g
        root_fits =
            let (g, e, f) = root_is tree t.grown t.root t.no_leaves in
            (g, record { ground = ground_at N tree t.grown [] g e; head = f; children = children_fit [] g e P.root (λ i d. inr (inl d)) (sym t.of_plan.root) })

        line_fits : (l : Split) → Contains P.splits l → (g : GroundMethod) × Fits c P l g
        line_fits l d =
            let own = t.of_plan.splits l d in
            let (g, e, f, z) = of_lines.split_of N W (label_at N tree (node l.id)) (node l.id) (renamed_split node l) own in (
              g,
              record {
                ground = ground_at N tree t.grown (node l.id) g e;
                says = sym z;
                children = children_fit (node l.id) g e l.children (λ i m. inr (inr (l, d, m))) (split_children N W tree t.grown t.no_leaves (node l.id) (renamed_split node l) own);
              },
            )

pub trees_exactly_where_fitting : (c : Compiled) → TreesExactlyWhereFitting c
trees_exactly_where_fitting c h mode of plan s = (
  λ (tree, node, t). each_fits c plan any tree node t,
  λ fits. (
    tree c plan any h mode of.sound of.compiled s fits (λ l d. tt),
    node c plan any h mode of.sound of.compiled s fits (λ l d. tt),
    tree_for c plan any h mode of.sound of.compiled s fits (λ l d. tt),
  ),
)
  where
    any : SplitLine ℕ Decomposed → GroundMethod → Type 0
    any l g = Unit {0}
