-- What is reached as a compiled problem of schemas without parameters: its schemas' network is the ground network with the reached
-- methods, but for names, so its strata, its named cycle and its bound are those of what is reached.
use Rattle.std.proofs.Common.{ℕ, suc, ◌≡◌, ◌↔◌, inl, inr, List, [], ◌∷◌, ◌++◌, map, length, Option, Some, None, slice_get, refl, ap, sym, subst, ◌∙◌, Contains, arith}
use Rattle.std.specs.Option.{option_map}
use Rattle.std.proofs.lemmas.List.{length-map}
use Rattle.std.proofs.lemmas.List.Elements.{Contains-append_left, Contains-append_right}
use Rattle.std.proofs.lemmas.Option.{slice_get-map, slice_get_within, same_Some}
use Rattle.std.proofs.lemmas.Slice.Zip.{AllZip-long}
use Rattle.htn_base.specs.Different.{AreDifferent}
use Rattle.htn_base.specs.Packed.{Row, row_of}
use Rattle.plan_model.specs.declared.networks.Head.{Head}
use Rattle.plan_model.specs.declared.networks.Head.TheVariants.{Task, Action, Check}
use Rattle.plan_model.specs.declared.networks.Child.{Child}
use Rattle.plan_model.specs.declared.schemas.MethodPlan.{MethodPlan}
use Rattle.plan_model.specs.declared.values.Compiled.{Compiled}
use Rattle.plan_model.specs.Pairs.{Pairs}
use Rattle.plan_model.specs.task_networks.Net.{Net, count}
use Rattle.plan_model.specs.task_networks.Order.{IsLine}
use Rattle.plan_model.specs.task_networks.Bound.{AreBlocks, IsReached}
use Rattle.plan_model.specs.task_networks.Strata as Walks
use Rattle.plan_model.specs.plan_meaning.Network.{Work, GroundMethod, IsPrimitive, child_of, top_task}
use Rattle.plan_model.specs.plan_meaning.Solution.{top_work}
use Rattle.plan_model.specs.plan_meaning.Schemas.{Schema, action, check, task, schemas, schema_of}
use Rattle.plan_model.specs.plan_meaning.Strata as Strata
use Rattle.plan_model.specs.plan_meaning.Bound.{group_of, IsBound}
use Rattle.plan_model.proofs.task_networks.Lists.{Contains-here, Contains-later}
use Rattle.plan_model.proofs.task_networks.ScheduleLaws.{line_is_the_only_one}
use Rattle.plan_model.proofs.plan_meaning.Pairs.{map_to}
use Rattle.plan_model.proofs.plan_meaning.CompiledNetworks.{plan_of}
use Rattle.plan_model.proofs.plan_meaning.MethodParts.{head_by, works_by, head_schema_by, schemas_by, IsPairBy}
use Rattle.plan_model.proofs.plan_meaning.BoundParts.{AreWhole, there_at}
use Rattle.plan_model.proofs.plan_meaning.BoundIsOne.{bound_is_one}
use Rattle.plan_texts.specs.SoundlyCompiled.{IsSoundlyCompiled}
use Rattle.slot_machine.proofs.bound_laws.SchemaNetwork.{decided}
use Rattle.slot_machine.specs.bound_laws.NetworkEdges as Edges
use Rattle.slot_machine.specs.bound_laws.NetworkEdges.{Edge}
use Rattle.slot_machine.specs.bound_laws.NetworkBound.{IsBoundOf}
use Rattle.slot_machine.specs.bound_laws.Finite.{IsFinite}
use Rattle.reached_parts.specs.Reached.{over}
use Rattle.reached_parts.specs.MethodOrder.{IsBefore}
use Rattle.ground_bound.specs.GroundBound.{IsGroundBound, IsGroundCycle}
use Rattle.reached_parts.specs.Search.{method_of, methods_of, task_of, action_of, AreTheReached}
use Rattle.ground_bound.specs.Grounded.{AreInOrder, method_at, ground_edge, place_of, StandsFor, StandsForChild, IsGroundedMethod, IsGroundedRow, IsGrounded}
use Rattle.slot_machine.proofs.OtherChildren.{Contains-map}
use Rattle.reached_parts.proofs.Searching.{place}
use Rattle.ground_bound.proofs.Places.{zip_at, map_get, one_place}
use Rattle.slot_machine.proofs.bound_laws.MappedWalks.{map_cut, same_group, tail_there, named_there}
use Rattle.ground_bound.proofs.AlikeNetworks.{AreAlike, child_there, child_back, reached_there, same_reached_head, same_last, its_bound}
use Rattle.slot_machine.proofs.bound_laws.FiniteEdges.{no_way, one_list}
use Rattle.slot_machine.proofs.bound_laws.FiniteBound.{at_contains, tail_recursive_has_bound}
use Rattle.reached_parts.proofs.GroundNetwork.{finite}

different_first : {A : Type 0} (xs ys : List A) → AreDifferent (xs ++ ys) → AreDifferent xs
different_first [] ys d = tt
different_first (x ∷ xs) ys d = (λ k. d.0 (Contains-append_left xs ys x k), different_first xs ys d.1)

abbrev work_at : Work → Option Row → Work
work_at w None = w
work_at w (Some r) = task_of r

-- the schema stands for the work
abbrev Same : List Row → Schema → Work → Type 0
Same tasks (action a) w = IsPrimitive w
Same tasks (check m) w = IsPrimitive w
Same tasks (task n) w = StandsFor tasks (Task n) w

same_head : (tasks : List Row) (m : ℕ) (head : Head) (w : Work) → StandsFor tasks head w → Same tasks (schema_of m head) w
same_head tasks m (Task t) w s = s
same_head tasks m (Action a) w s = s
same_head tasks m Check w s = s

module _ (c : Compiled) (soundly : IsSoundlyCompiled c) (tasks actions rows sorted : List Row) (p : Compiled) (the : AreTheReached c tasks actions rows)
    (first : slice_get tasks 0 ≡ Some (row_of (top_task c) [])) (order : AreInOrder rows sorted) (is : IsGrounded c tasks sorted p) where
  abbrev methods : List GroundMethod
  methods = methods_of rows

  abbrev N : Net
  N = over c methods

  abbrev M : Net
  M = schemas p

  abbrev top : Schema
  top = task (top_task p)

  abbrev method : ℕ → GroundMethod
  method k = method_at (slice_get sorted k)

  record Parts (m : ℕ) : Type 0 where
    it : MethodPlan
    it_is : slice_get p.methods m ≡ Some it
    row : Row
    row_is : slice_get sorted m ≡ Some row
    plan : MethodPlan
    plan_is : slice_get c.methods row.head ≡ Some plan
    grounded : IsGroundedMethod tasks (method_of row) plan it

  parts : (m : ℕ) → M.IsGround m → Parts m
  parts m (it, e) =
      let (r, f) = there_at sorted m (let l = slice_get_within p.methods m it e in let q = AllZip-long (IsGroundedRow c tasks) sorted p.methods is.plans in omega arith) in
      let (plan, h, g) = zip_at (IsGroundedRow c tasks) sorted p.methods is.plans m r it f e in
      record { it = it; it_is = e; row = r; row_is = f; plan = plan; plan_is = h; grounded = g }

  -- what is said of the parts is said of the networks
  at : (m : ℕ) (x : Parts m) (P : Option MethodPlan → GroundMethod → Option MethodPlan → Type 0) → P (Some x.it) (method_of x.row) (Some x.plan)
      → P (slice_get p.methods m) (method m) (slice_get c.methods (method m).number)
  at m x P h =
      subst (λ g. P (slice_get p.methods m) g (slice_get c.methods g.number)) (sym (ap method_at x.row_is))
      (subst (λ o. P o (method_of x.row) (slice_get c.methods x.row.head)) (sym x.it_is)
      (subst (λ o. P (Some x.it) (method_of x.row) o) (sym x.plan_is) h))

  tasks_different : AreDifferent (map task_of tasks)
  tasks_different = different_first (map task_of tasks) (map action_of actions) the.works_different

  mapped : (k : ℕ) (r : Row) (w : Work) → slice_get tasks k ≡ Some r → task_of r ≡ w → slice_get (map task_of tasks) k ≡ Some w
  mapped k r w e f = slice_get-map task_of tasks k ∙ ap (option_map task_of) e ∙ ap Some f

  same_simple : (v : Schema) (w : Work) → Same tasks v w → M.IsSimple v ↔ N.IsSimple w
  same_simple (action a) w s = (λ x. s, λ x. tt)
  same_simple (check m) w s = (λ x. s, λ x. tt)
  same_simple (task n) w (l, r, e, f) = (λ x. absurd x, λ x. subst IsPrimitive (sym f) x)

  one : (v x : Schema) (w y : Work) → (M.IsSimple v → ⊥) → (M.IsSimple x → ⊥) → Same tasks v w → Same tasks x y → (v ≡ x) ↔ (w ≡ y)
  one (action a) x w y i j s t = absurd (i tt)
  one (check a) x w y i j s t = absurd (i tt)
  one (task n) (action a) w y i j s t = absurd (j tt)
  one (task n) (check a) w y i j s t = absurd (j tt)
  one (task n) (task k) w y i j (l, r, e, f) (l', r', e', f') = (there, back)
    where
      there : task n ≡ task k → w ≡ y
      there g =
          let h : n ≡ k = cc in
          let q : slice_get tasks (place_of tasks n) ≡ Some r' = subst (λ z. slice_get tasks (place_of tasks z) ≡ Some r') (sym h) e' in
          same_Some w y (sym (mapped (place_of tasks n) r w e f) ∙ mapped (place_of tasks n) r' y q f')

      back : w ≡ y → task n ≡ task k
      back g =
          let h = one_place (map task_of tasks) (place_of tasks n) (place_of tasks k) w tasks_different (mapped (place_of tasks n) r w e f) (mapped (place_of tasks k) r' w e' (f' ∙ sym g)) in
          ap task (let a : n ≡ k = omega arith in a)

  alike : AreAlike M N top (top_work c) method (Same tasks)
  alike = record {
    tops = let l = is.count in (omega arith, row_of (top_task c) [], subst (λ k. slice_get tasks k ≡ Some (row_of (top_task c) [])) (let z : 0 ≡ place_of tasks (top_task p) = omega arith in z) first, refl);
    ground = λ m g. (let x = parts m g in subst (Contains methods) (sym (ap method_at x.row_is)) (Contains-map method_of rows x.row ((order.same x.row).0 (at_contains sorted m x.row x.row_is))));
    every = λ g k.
        let (r, i, e) = map_to method_of rows g k in
        let (m, f) = place sorted r ((order.same r).1 i) in
        let (it, h) = there_at p.methods m (let l = slice_get_within sorted m r f in let q = AllZip-long (IsGroundedRow c tasks) sorted p.methods is.plans in omega arith) in
        (m, (it, h), ap method_at f ∙ e);
    heads = λ m g. (let x = parts m g in at m x (λ o k q. Same tasks (head_schema_by o) (head_by k q)) x.grounded.task);
    count = λ m g.
        let x = parts m g in
        at m x (λ o k q. length (schemas_by m o) ≡ length (works_by k q))
        (length-map x.it.schema.children (λ (child : Child). schema_of m child.head) ∙ AllZip-long (StandsForChild tasks (method_of x.row)) x.plan.schema.children x.it.schema.children x.grounded.children ∙ sym (length-map x.plan.schema.children (child_of (method_of x.row))));
    works = λ m i v w g.
        let x = parts m g in
        at m x (λ o k q. slice_get (schemas_by m o) i ≡ Some v → slice_get (works_by k q) i ≡ Some w → Same tasks v w) (λ a b. each m x i v w a b);
    pairs = λ m i j g.
        let x = parts m g in
        at m x (λ o k q. IsPairBy o i j ↔ IsPairBy q i j) (
          subst (λ ps. Pairs ps i j) x.grounded.pairs,
          subst (λ ps. Pairs ps i j) (sym x.grounded.pairs),
        );
    simple = same_simple;
    one = one;
    head_is_task = (decided p).head_is_task;
    told = (decided p).simple;
  }
    where
      each : (m : ℕ) (x : Parts m) (i : ℕ) (v : Schema) (w : Work) → slice_get (schemas_by m (Some x.it)) i ≡ Some v → slice_get (works_by (method_of x.row) (Some x.plan)) i ≡ Some w → Same tasks v w
      each m x i v w a b =
          let (kid, e, f) = map_get (λ (child : Child). schema_of m child.head) x.it.schema.children i v a in
          let (child, h, k) = map_get (child_of (method_of x.row)) x.plan.schema.children i w b in
          subst (λ z. Same tasks z w) f (subst (Same tasks (schema_of m kid.head)) k (same_head tasks m kid.head (child_of (method_of x.row) child) (zip_at (StandsForChild tasks (method_of x.row)) x.plan.schema.children x.it.schema.children x.grounded.children i child kid h e)))

  abbrev edge : Strata.Edge → Edge GroundMethod
  edge = ground_edge sorted

  edge_there : (e : Strata.Edge) → Strata.IsEdge p e → Edges.IsEdge N IsBefore (top_work c) (edge e)
  edge_there e i =
      let (w, f, s) = child_there M N top (top_work c) method (Same tasks) alike e.method e.child (task i.subtask) i.ground i.is in
      record {
        ground = alike.ground e.method i.ground;
        reached = (same_reached_head M N top (top_work c) method (Same tasks) alike e.method i.ground).0 i.reached;
        subtask = w;
        is = f;
        task = λ x. (same_simple (task i.subtask) w s).1 x;
      }

  edge_back : (d : Edge GroundMethod) → Edges.IsEdge N IsBefore (top_work c) d → (e : Strata.Edge) × Strata.IsEdge p e × (edge e ≡ d)
  edge_back d i =
      let (m, g, h) = alike.every d.method i.ground in
      let (v, f, s) = child_back M N top (top_work c) method (Same tasks) alike m d.child i.subtask g (subst (λ z. slice_get (N.works z) d.child ≡ Some i.subtask) (sym h) i.is) in
      go m g h v f s
    where
      go : (m : ℕ) → M.IsGround m → method m ≡ d.method → (v : Schema) → slice_get (M.works m) d.child ≡ Some v → Same tasks v i.subtask
          → (e : Strata.Edge) × Strata.IsEdge p e × (edge e ≡ d)
      go m g h (action a) f s = absurd (i.task s)
      go m g h (check a) f s = absurd (i.task s)
      go m g h (task n) f s = (
        record { method = m; child = d.child },
        record {
          ground = g;
          reached = (same_reached_head M N top (top_work c) method (Same tasks) alike m g).1 (subst (λ z. IsReached N (top_work c) (N.head z)) (sym h) i.reached);
          subtask = n;
          is = f;
        },
        λ t. record { method = h t; child = d.child },
      )

  earlier : (e d : Strata.Edge) → M.IsGround e.method → M.IsGround d.method → Strata.IsEarlier e d → Edges.IsEarlier N IsBefore (top_work c) (edge e) (edge d)
  earlier e d g k (inl l) =
      let x = parts e.method g in
      let y = parts d.method k in
      inl (subst (λ z. IsBefore z (method d.method)) (sym (ap method_at x.row_is)) (subst (IsBefore (method_of x.row)) (sym (ap method_at y.row_is)) (order.rising e.method d.method x.row y.row l x.row_is y.row_is)))
  earlier e d g k (inr (h, l)) = inr (ap method h, l)

  module _ (edges : List Strata.Edge) (are : Strata.AreEdges p edges) where
    its_edges : Edges.AreEdges N IsBefore (top_work c) (map edge edges)
    its_edges = record {
      all = λ d. (
        λ k. (let (e, i, h) = map_to edge edges d k in subst (Edges.IsEdge N IsBefore (top_work c)) h (edge_there e ((are.all e).0 i))),
        λ i. (let (e, j, h) = edge_back d i in subst (Contains (map edge edges)) h (Contains-map edge edges e ((are.all e).1 j))),
      );
      in_order = λ before rest d f q. (let (front, rear, x, y, z) = map_cut edge edges before (d ∷ f ∷ rest) q in next front rear rest d f x z);
    }
      where
        ground : (front rear : List Strata.Edge) (e : Strata.Edge) → edges ≡ front ++ rear → Contains rear e → M.IsGround e.method
        ground front rear e x k = ((are.all e).0 (subst (λ l. Contains l e) (sym x) (Contains-append_right front rear e k))).ground

        next : (front rear : List Strata.Edge) (rest : List (Edge GroundMethod)) (d f : Edge GroundMethod) → edges ≡ front ++ rear → map edge rear ≡ d ∷ f ∷ rest → Edges.IsEarlier N IsBefore (top_work c) d f
        next front [] rest d f x z = absurd cc
        next front (a ∷ []) rest d f x z = absurd cc
        next front (a ∷ b ∷ rear) rest d f x z =
            let g : edge a ≡ d = cc in
            let h : edge b ≡ f = cc in
            let i = earlier a b (ground front (a ∷ b ∷ rear) a x (Contains-here a (b ∷ rear))) (ground front (a ∷ b ∷ rear) b x (Contains-later a (b ∷ rear) b (Contains-here b rear))) (are.in_order front rear a b x) in
            subst (λ u. Edges.IsEarlier N IsBefore (top_work c) u f) g (subst (Edges.IsEarlier N IsBefore (top_work c) (edge a)) h i)

    -- tasks that stand for each other
    abbrev SameTask : Schema → Work → Type 0
    SameTask v w = Same tasks v w × (M.IsSimple v → ⊥)

    one_task : (v x : Schema) (w y : Work) → SameTask v w → SameTask x y → (v ≡ x) ↔ (w ≡ y)
    one_task v x w y s t = one v x w y s.1 t.1 s.0 t.0

    sources : (e : Strata.Edge) → Contains edges e → SameTask (Strata.source p e) (Edges.source N (edge e))
    sources e k = (alike.heads e.method ((are.all e).0 k).ground, (decided p).head_is_task e.method)

    targets : (e : Strata.Edge) → Contains edges e → SameTask (Strata.target p e) (Edges.target N (edge e))
    targets e k =
        let i = (are.all e).0 k in
        let (w, f, s) = child_there M N top (top_work c) method (Same tasks) alike e.method e.child (task i.subtask) i.ground i.is in
        subst (λ z. SameTask z (Edges.target N (edge e))) (sym (ap (Strata.target_by p) i.is)) (subst (SameTask (task i.subtask)) (sym (ap (Edges.target_by N (Edges.source N (edge e))) f)) (s, λ x. x))

    bad : (e : Strata.Edge) → Contains edges e → Strata.IsBad p e ↔ Edges.IsBad N (edge e)
    bad e k =
        let l = same_last M N top (top_work c) method (Same tasks) alike e.method e.child ((are.all e).0 k).ground in
        (λ b x. b (l.1 x), λ b x. b (l.0 x))

    tail : Walks.IsTailRecursive (Strata.source p) (Strata.target p) edges (Strata.IsBad p) → Edges.IsTailRecursive N IsBefore (top_work c)
    tail t = (
      map edge edges,
      its_edges,
      tail_there (Strata.source p) (Strata.target p) (Edges.source N) (Edges.target N) edge edges SameTask sources targets one_task (Strata.IsBad p) (Edges.IsBad N) bad t,
    )

    named : (e : Strata.Edge) (walk : List Strata.Edge) → Walks.IsNamedCycle (Strata.source p) (Strata.target p) edges (Strata.IsBad p) e walk
        → Edges.IsNamedCycle N IsBefore (top_work c) (edge e) (map edge walk)
    named e walk h = (
      map edge edges,
      its_edges,
      named_there (Strata.source p) (Strata.target p) (Edges.source N) (Edges.target N) edge edges SameTask sources targets one_task (Strata.IsBad p) (Edges.IsBad N) bad e walk h,
    )

    group : (v x : Schema) (w y : Work) → SameTask v w → SameTask x y
        → Walks.IsOneGroup (Strata.source p) (Strata.target p) edges v x ↔ Walks.IsOneGroup (Edges.source N) (Edges.target N) (map edge edges) w y
    group = same_group (Strata.source p) (Strata.target p) (Edges.source N) (Edges.target N) edge edges SameTask sources targets one_task

  F : IsFinite N IsBefore
  F = finite soundly.problem soundly.checks c soundly.compiled methods the.reached.closed.ground

  abbrev work_of : ℕ → Work
  work_of n = work_at (top_work c) (slice_get tasks (place_of tasks n))

  work_is : (n : ℕ) (w : Work) → StandsFor tasks (Task n) w → work_of n ≡ w
  work_is n w (l, r, e, f) = ap (work_at (top_work c)) e ∙ f

  -- the lines of the methods are those of the ground methods
  line_of : (m : ℕ) (x : Parts m) → IsLine (N.Pair (method m)) (count N (method m)) x.plan.line
  line_of m x = at m x (λ o g q. IsLine (IsPairBy q) (length (works_by g q)) x.plan.line)
      (subst (λ z. IsLine (Pairs x.plan.schema.pairs) z x.plan.line) (sym (length-map x.plan.schema.children (child_of (method_of x.row)))) (has_line x.row.head x.plan x.plan_is))
    where
      has_line : (k : ℕ) (plan : MethodPlan) → slice_get c.methods k ≡ Some plan → IsLine (Pairs plan.schema.pairs) (length plan.schema.children) plan.line
      has_line k plan e = let (s, i, of) = plan_of soundly.problem soundly.checks (soundly.problem.top ∷ soundly.problem.methods) c.methods k plan soundly.compiled.methods e in of.line

  whole : AreWhole p
  whole m it e i l =
      let x = parts m (it, e) in
      let same : x.it ≡ it = same_Some x.it it (sym x.it_is ∙ e) in
      let n = ap (λ (z : MethodPlan). length z.schema.children) same in
      let k = AllZip-long (StandsForChild tasks (method_of x.row)) x.plan.schema.children x.it.schema.children x.grounded.children in
      let f = length-map x.plan.schema.children (child_of (method_of x.row)) in
      let w : count N (method m) ≡ length x.plan.schema.children = at m x (λ o g q. length (works_by g q) ≡ length x.plan.schema.children) f in
      subst (λ (z : MethodPlan). Contains z.line i) same (subst (λ z. Contains z i) (sym x.grounded.line) ((line_of m x).whole i (omega arith)))

  module _ (edges : List Strata.Edge) (are : Strata.AreEdges p edges) {n : ℕ} (B : IsBoundOf N IsBefore (top_work c) n) where
    number : Schema → ℕ
    number (action a) = 1
    number (check m) = 1
    number (task t) = B.number (work_of t)

    group_at : ℕ → ℕ
    group_at t = B.group (work_of t)

    block : ℕ → ℕ → ℕ
    block m = B.block (method m)

    blocks : (m : ℕ) (it : MethodPlan) → slice_get p.methods m ≡ Some it → AreBlocks (Pairs it.schema.pairs) it.line (block m)
    unfolding block
    blocks m it e =
        let x = parts m (it, e) in
        let same : x.it ≡ it = same_Some x.it it (sym x.it_is ∙ e) in
        let (line, also, cuts) = B.blocks (method m) in
        let l : line ≡ x.plan.line = line_is_the_only_one N (method m) line x.plan.line also (line_of m x) in
        let here : AreBlocks (Pairs x.plan.schema.pairs) x.plan.line (B.block (method m)) =
        at m x (λ o g q. AreBlocks (IsPairBy q) x.plan.line (B.block (method m)) → AreBlocks (Pairs x.plan.schema.pairs) x.plan.line (B.block (method m))) (λ h. h)
        (subst (λ z. AreBlocks (N.Pair (method m)) z (B.block (method m))) l cuts) in
        subst (λ (z : MethodPlan). AreBlocks (Pairs z.schema.pairs) z.line (B.block (method m))) same
        (subst (λ z. AreBlocks (Pairs z) x.it.line (B.block (method m))) (sym x.grounded.pairs)
        (subst (λ z. AreBlocks (Pairs x.plan.schema.pairs) z (B.block (method m))) (sym x.grounded.line) here))

    groups : (t u : ℕ) → Strata.IsReachedTask p t → Strata.IsReachedTask p u → (group_at t ≡ group_at u) ↔ Strata.IsOneGroup p (task t) (task u)
    unfolding group_at
    groups t u q r =
        let (w, s, a) = reached_there M N top (top_work c) method (Same tasks) alike (task t) q in
        let (y, z, b) = reached_there M N top (top_work c) method (Same tasks) alike (task u) r in
        let e = ap B.group (work_is t w s) in
        let f = ap B.group (work_is u y z) in (
          λ i.
              let (list, l, o) = (B.groups w y a b).0 (sym e ∙ i ∙ f) in
              let same = one_list N IsBefore (top_work c) F.decided list (map edge edges) l (its_edges edges are) in
              (edges, are, (group edges are (task t) (task u) w y (s, λ x. x) (z, λ x. x)).1 (subst (λ es. Walks.IsOneGroup (Edges.source N) (Edges.target N) es w y) same o)),
          λ i.
              let (list, l, o) = i in
              e ∙ (B.groups w y a b).1 (map edge list, its_edges list l, (group list l (task t) (task u) w y (s, λ x. x) (z, λ x. x)).0 o) ∙ sym f,
        )

    apart : (w : Work) (g : GroundMethod) → N.IsGround g → IsReached N (top_work c) (N.head g) → IsReached N (top_work c) w → N.IsSimple w → B.group w ≡ B.group (N.head g) → ⊥
    apart w g k h r s e =
        let (list, l, o) = (B.groups w (N.head g) r h).0 e in
        F.decided.head_is_task g (subst IsPrimitive (no_way N IsBefore (top_work c) F.decided list w (N.head g) s o.0) s)

    bound_is : IsBound p n
    unfolding number group_at block
    bound_is = record {
      block = block;
      blocks = blocks;
      group = group_at;
      groups = groups;
      number = number;
      numbers = its_bound M N top (top_work c) method (Same tasks) alike B.block B.number B.group number (group_of group_at) B.numbers simple_number simple_group task_number task_group apart;
      is = ap B.number (work_is (top_task p) (top_work c) alike.tops) ∙ B.is;
    }
      where
        simple_number : (v : Schema) → M.IsSimple v → number v ≡ 1
        simple_number (action a) s = refl
        simple_number (check m) s = refl
        simple_number (task t) s = absurd s

        simple_group : (v : Schema) → M.IsSimple v → group_of group_at v ≡ 0
        simple_group (action a) s = refl
        simple_group (check m) s = refl
        simple_group (task t) s = absurd s

        task_number : (v : Schema) (w : Work) → (M.IsSimple v → ⊥) → Same tasks v w → number v ≡ B.number w
        task_number (action a) w n s = absurd (n tt)
        task_number (check m) w n s = absurd (n tt)
        task_number (task t) w n s = ap B.number (work_is t w s)

        task_group : (v : Schema) (w : Work) → (M.IsSimple v → ⊥) → Same tasks v w → group_of group_at v ≡ suc (B.group w)
        task_group (action a) w n s = absurd (n tt)
        task_group (check m) w n s = absurd (n tt)
        task_group (task t) w n s = ap (λ z. suc (B.group z)) (work_is t w s)

  -- the bound of the problem without parameters is that of what is reached
  pub grounded_bound : (n : ℕ) → Strata.IsTailRecursive p → IsBound p n → IsGroundBound c n
  grounded_bound n (edges, are, t) A =
      let (m, B) = tail_recursive_has_bound N IsBefore (top_work c) F (tail edges are t) in
      let same = bound_is_one p whole m n (bound_is edges are B) A in
      record { methods = methods; atoms = the.atoms; reached = the.reached; bound = subst (IsBoundOf N IsBefore (top_work c)) same B }

  -- and so is its named cycle
  pub grounded_cycle : (e : Strata.Edge) (walk : List Strata.Edge) → Strata.IsNamedCycle p e walk → IsGroundCycle c (ground_edge sorted e) (map (ground_edge sorted) walk)
  grounded_cycle e walk (edges, are, h) = record { methods = methods; atoms = the.atoms; reached = the.reached; named = named edges are e walk h }
