-- The list of all edges: it grows by methods and children, has each edge, and is in order.
use Rattle.std.proofs.Common.{ℕ, zero, suc, ◌≡◌, ◌+◌, ◌<◌, ◌≤◌, ◌↔◌, inl, inr, List, [], ◌∷◌, ◌++◌, length, map, Bool, true, false, cond, get_or, take, All, Some, slice_get, Contains, refl, sym, subst, ap, ◌∙◌, arith, append_assoc}
use Rattle.std.proofs.lemmas.List.{append-nil, take_more, take_all}
use Rattle.std.proofs.lemmas.List.Elements.{Contains-append_left, Contains-append_right, Contains-append_cases}
use Rattle.plan_model.specs.declared.networks.Head.{Head}
use Rattle.plan_model.specs.declared.networks.Head.TheVariants.{Task, Action, Check}
use Rattle.plan_model.specs.declared.networks.Child.{Child}
use Rattle.plan_model.specs.declared.schemas.MethodPlan.{MethodPlan}
use Rattle.plan_model.specs.declared.values.Compiled.{Compiled}
use Rattle.plan_model.specs.Parts.{IsMarked}
use Rattle.plan_model.specs.task_networks.Bound.{IsReached}
use Rattle.plan_model.proofs.task_networks.Lists.{not-in_empty, head_or_tail, Contains-here}
use Rattle.plan_model.specs.plan_meaning.Network.{top_task}
use Rattle.plan_model.specs.plan_meaning.Schemas.{Schema, task, schemas, schema_of}
use Rattle.plan_model.specs.plan_meaning.Strata.{Edge, IsEdge, AreEdges, IsReachedTask}
use Rattle.plan_model.proofs.plan_meaning.MethodParts.{head_schema_by, schemas_by}
use Rattle.plan_model.proofs.plan_meaning.EdgesInOrder.{AreInOrder, one_after_another, both_in_order}
use Rattle.bound_calc.specs.declared.stratifier.edge.Edge as Declared
use Rattle.bound_calc.specs.stratifier.Conditions.{IsSmallCompiled}
use Rattle.bound_calc.specs.stratifier.Listed.{edge_of, edges_to, edges_from}

-- the edges of method m, where its task is marked
abbrev pub edges_of_method : List Bool → ℕ → MethodPlan → List Edge
edges_of_method marks m p = cond (get_or marks p.schema.task false) (edges_from m 0 p.schema.children) []

-- the edges of the methods of marked tasks, from place m on
abbrev pub edges_of : List Bool → ℕ → List MethodPlan → List Edge
edges_of marks m [] = []
edges_of marks m (p ∷ ps) = edges_of_method marks m p ++ edges_of marks (suc m) ps

take_length : {A : Type 0} (xs : List A) (k : ℕ) → k < length xs → length (take k xs) ≡ k
take_length [] k l = absurd (omega arith)
take_length (x ∷ xs) zero l = refl
take_length (x ∷ xs) (suc k) l = ap suc (take_length xs k (omega arith))

pub edges_from_more : (m i : ℕ) (xs : List Child) (x : Child) → edges_from m i (xs ++ x ∷ []) ≡ edges_from m i xs ++ edges_to m (i + length xs) x.head
edges_from_more m i [] x = append-nil (edges_to m i x.head) ∙ ap (λ n. edges_to m n x.head) (let e : i ≡ i + 0 = omega arith in e)
edges_from_more m i (y ∷ xs) x =
    let e : suc i + length xs ≡ i + length (y ∷ xs) = omega arith in
    ap (λ s. edges_to m i y.head ++ s) (edges_from_more m (suc i) xs x ∙ ap (λ n. edges_from m (suc i) xs ++ edges_to m n x.head) e) ∙ sym (append_assoc (edges_to m i y.head) (edges_from m (suc i) xs) (edges_to m (i + length (y ∷ xs)) x.head))

module _ (marks : List Bool) where
  pub edges_of_more : (m : ℕ) (ps : List MethodPlan) (p : MethodPlan) → edges_of marks m (ps ++ p ∷ []) ≡ edges_of marks m ps ++ edges_of_method marks (m + length ps) p
  edges_of_more m [] p = append-nil (edges_of_method marks m p) ∙ ap (λ n. edges_of_method marks n p) (let e : m ≡ m + 0 = omega arith in e)
  edges_of_more m (q ∷ ps) p =
      let e : suc m + length ps ≡ m + length (q ∷ ps) = omega arith in
      ap (λ s. edges_of_method marks m q ++ s) (edges_of_more (suc m) ps p ∙ ap (λ n. edges_of marks (suc m) ps ++ edges_of_method marks n p) e) ∙ sym (append_assoc (edges_of_method marks m q) (edges_of marks (suc m) ps) (edges_of_method marks (m + length (q ∷ ps)) p))

-- what the first children add
pub from_none : (old : List Edge) (m : ℕ) (children : List Child) → old ≡ old ++ edges_from m 0 (take 0 children)
from_none old m children = sym (append-nil old)

module _ (old now : List Edge) (m : ℕ) (children : List Child) (k : ℕ) (d : Child) (l : k < length children) where
  from_next : now ≡ old ++ edges_from m 0 (take k children) → now ++ edges_to m k (get_or children k d).head ≡ old ++ edges_from m 0 (take (k + 1) children)
  from_next h =
      let n : length (take k children) ≡ 0 + length (take k children) = omega arith in
      let e : edges_from m 0 (take (k + 1) children) ≡ edges_from m 0 (take k children) ++ edges_to m k (get_or children k d).head =
      ap (edges_from m 0) (take_more children k d l) ∙ (edges_from_more m 0 (take k children) (get_or children k d) ∙ ap (λ z. edges_from m 0 (take k children) ++ edges_to m z (get_or children k d).head) (sym n ∙ take_length children k l)) in
      ap (λ s. s ++ edges_to m k (get_or children k d).head) h ∙ (append_assoc old (edges_from m 0 (take k children)) (edges_to m k (get_or children k d).head) ∙ ap (λ s. old ++ s) (sym e))

  pub from_with_task : (t : ℕ) → (get_or children k d).head ≡ Task t → now ≡ old ++ edges_from m 0 (take k children) → now ++ record { method = m; child = k } ∷ [] ≡ old ++ edges_from m 0 (take (k + 1) children)
  from_with_task t is h = ap (λ z. now ++ edges_to m k z) (sym is) ∙ from_next h

  no_edges : (h : Head) → ((t : ℕ) → h ≡ Task t → ⊥) → edges_to m k h ≡ []
  no_edges (Task t) n = absurd (n t refl)
  no_edges (Action a) n = refl
  no_edges Check n = refl

  pub from_without_task : ((t : ℕ) → (get_or children k d).head ≡ Task t → ⊥) → now ≡ old ++ edges_from m 0 (take k children) → now ≡ old ++ edges_from m 0 (take (k + 1) children)
  from_without_task n h = sym (append-nil now) ∙ (ap (λ s. now ++ s) (sym (no_edges (get_or children k d).head n)) ∙ from_next h)

-- what the first methods add
module _ (marks : List Bool) (now : List Edge) where
  of_next : (methods : List MethodPlan) (k : ℕ) (d : MethodPlan) → k < length methods → d ≡ get_or methods k d → now ≡ edges_of marks 0 (take k methods) → now ++ edges_of_method marks k d ≡ edges_of marks 0 (take (k + 1) methods)
  of_next methods k d l is h =
      let n : 0 + length (take k methods) ≡ k = (let z = take_length methods k l in omega arith) in
      ap (λ s. s ++ edges_of_method marks k d) h
      ∙ (ap (λ z. edges_of marks 0 (take k methods) ++ edges_of_method marks z d) (sym n)
      ∙ (sym (edges_of_more marks 0 (take k methods) d)
      ∙ ap (edges_of marks 0) (ap (λ z. take k methods ++ z ∷ []) is ∙ sym (take_more methods k d l))))

  pub of_marked : (new : List Edge) (methods : List MethodPlan) (k : ℕ) (d : MethodPlan) → k < length methods → d ≡ get_or methods k d → get_or marks d.schema.task false ≡ true
      → now ≡ edges_of marks 0 (take k methods) → new ≡ now ++ edges_from k 0 d.schema.children → new ≡ edges_of marks 0 (take (k + 1) methods)
  of_marked new methods k d l is marked h e = e ∙ (ap (λ b. now ++ cond b (edges_from k 0 d.schema.children) []) (sym marked) ∙ of_next methods k d l is h)

  pub of_unmarked : (methods : List MethodPlan) (k : ℕ) (d : MethodPlan) → k < length methods → d ≡ get_or methods k d → get_or marks d.schema.task false ≡ false
      → now ≡ edges_of marks 0 (take k methods) → now ≡ edges_of marks 0 (take (k + 1) methods)
  of_unmarked methods k d l is marked h = sym (append-nil now) ∙ (ap (λ b. now ++ cond b (edges_from k 0 d.schema.children) []) (sym marked) ∙ of_next methods k d l is h)

-- what a child stands for
abbrev child_schemas : ℕ → List Child → List Schema
child_schemas m children = map (λ (child : Child). schema_of m child.head) children

-- the edges of a method lead to its children that are tasks
abbrev LeadsTo : ℕ → ℕ → List Child → Edge → Type 0
LeadsTo m i children e = (k : ℕ) × (t : ℕ) × (e.method ≡ m) × (e.child ≡ i + k) × (slice_get (child_schemas m children) k ≡ Some (task t))

to_child : (m i : ℕ) (h : Head) (e : Edge) → Contains (edges_to m i h) e → (t : ℕ) × (e.method ≡ m) × (e.child ≡ i) × (schema_of m h ≡ task t)
to_child m i (Task t) e c = elim (head_or_tail (record { method = m; child = i }) [] e c) [
  | inl f ↦ (t, sym (ap (λ (z : Edge). z.method) f), sym (ap (λ (z : Edge). z.child) f), refl)
  | inr k ↦ absurd (not-in_empty e k)
]
to_child m i (Action a) e c = absurd (not-in_empty e c)
to_child m i Check e c = absurd (not-in_empty e c)

from_to : (m i : ℕ) (children : List Child) (e : Edge) → Contains (edges_from m i children) e → LeadsTo m i children e
from_to m i [] e c = absurd (not-in_empty e c)
from_to m i (x ∷ xs) e c = elim (Contains-append_cases (edges_to m i x.head) (edges_from m (suc i) xs) e c) [
  | inl a ↦ (let (t, f, g, h) = to_child m i x.head e a in (0, t, f, omega arith, ap Some h))
  | inr b ↦ (let (k, t, f, g, h) = from_to m (suc i) xs e b in (suc k, t, f, omega arith, h))
]

task_here : (m i t : ℕ) (h : Head) → schema_of m h ≡ task t → Contains (edges_to m i h) (record { method = m; child = i })
task_here m i t (Task u) e = Contains-here (record { method = m; child = i }) []
task_here m i t (Action a) e = absurd cc
task_here m i t Check e = absurd cc

to_from : (m i : ℕ) (children : List Child) (k t : ℕ) → slice_get (child_schemas m children) k ≡ Some (task t) → Contains (edges_from m i children) (record { method = m; child = i + k })
to_from m i [] k t e = absurd cc
to_from m i (x ∷ xs) zero t e =
    let f : schema_of m x.head ≡ task t = cc in
    let g : i ≡ i + 0 = omega arith in
    Contains-append_left (edges_to m i x.head) (edges_from m (suc i) xs) _ (subst (λ n. Contains (edges_to m i x.head) (record { method = m; child = n })) g (task_here m i t x.head f))
to_from m i (x ∷ xs) (suc k) t e =
    let g : suc i + k ≡ i + suc k = omega arith in
    Contains-append_right (edges_to m i x.head) (edges_from m (suc i) xs) _ (subst (λ n. Contains (edges_from m (suc i) xs) (record { method = m; child = n })) g (to_from m (suc i) xs k t e))

from_in_order : (m i : ℕ) (children : List Child) → AreInOrder (edges_from m i children)
from_in_order m i [] = tt
from_in_order m i (x ∷ xs) = both_in_order (edges_to m i x.head) (edges_from m (suc i) xs) (one x.head) (from_in_order m (suc i) xs)
    (λ e f a b. (let (t, p, q, r) = to_child m i x.head e a in let (k, u, v, w, z) = from_to m (suc i) xs f b in inr (p ∙ sym v, omega arith)))
  where
    one : (h : Head) → AreInOrder (edges_to m i h)
    one (Task t) = (λ f c. absurd (not-in_empty f c), tt)
    one (Action a) = tt
    one Check = tt

module _ (marks : List Bool) where
  abbrev IsOf : ℕ → List MethodPlan → Edge → Type 0
  IsOf m ps e = (k : ℕ) × (plan : MethodPlan) × (e.method ≡ m + k) × (slice_get ps k ≡ Some plan) × IsMarked marks plan.schema.task × Contains (edges_from e.method 0 plan.schema.children) e

  of_method : (m : ℕ) (p : MethodPlan) (e : Edge) → Contains (edges_of_method marks m p) e → IsMarked marks p.schema.task × Contains (edges_from m 0 p.schema.children) e
  of_method m p e = go (get_or marks p.schema.task false) refl
    where
      go : (b : Bool) → get_or marks p.schema.task false ≡ b → Contains (cond b (edges_from m 0 p.schema.children) []) e → IsMarked marks p.schema.task × Contains (edges_from m 0 p.schema.children) e
      go true f c = (f, c)
      go false f c = absurd (not-in_empty e c)

  to_method : (m : ℕ) (p : MethodPlan) (e : Edge) → IsMarked marks p.schema.task → Contains (edges_from m 0 p.schema.children) e → Contains (edges_of_method marks m p) e
  to_method m p e i c = subst (λ b. Contains (cond b (edges_from m 0 p.schema.children) []) e) (sym i) c

  of_to : (m : ℕ) (ps : List MethodPlan) (e : Edge) → Contains (edges_of marks m ps) e → IsOf m ps e
  of_to m [] e c = absurd (not-in_empty e c)
  of_to m (p ∷ ps) e c = elim (Contains-append_cases (edges_of_method marks m p) (edges_of marks (suc m) ps) e c) [
    | inl a ↦ (let (i, d) = of_method m p e a in let (k, t, f, g, h) = from_to m 0 p.schema.children e d in (0, p, (let n : m ≡ m + 0 = omega arith in f ∙ n), refl, i, subst (λ n. Contains (edges_from n 0 p.schema.children) e) (sym f) d))
    | inr b ↦ (let (k, plan, f, g, i, d) = of_to (suc m) ps e b in (suc k, plan, omega arith, g, i, d))
  ]

  to_of : (m : ℕ) (ps : List MethodPlan) (k : ℕ) (plan : MethodPlan) (e : Edge) → slice_get ps k ≡ Some plan → IsMarked marks plan.schema.task → Contains (edges_from (m + k) 0 plan.schema.children) e → Contains (edges_of marks m ps) e
  to_of m [] k plan e s i c = absurd cc
  to_of m (p ∷ ps) zero plan e s i c =
      let f : p ≡ plan = cc in
      let n : m + 0 ≡ m = omega arith in
      Contains-append_left (edges_of_method marks m p) (edges_of marks (suc m) ps) e
      (subst (λ z. Contains (edges_of_method marks m z) e) (sym f) (to_method m plan e i (subst (λ z. Contains (edges_from z 0 plan.schema.children) e) n c)))
  to_of m (p ∷ ps) (suc k) plan e s i c =
      let n : m + suc k ≡ suc m + k = omega arith in
      Contains-append_right (edges_of_method marks m p) (edges_of marks (suc m) ps) e (to_of (suc m) ps k plan e s i (subst (λ z. Contains (edges_from z 0 plan.schema.children) e) n c))

  method_in_order : (m : ℕ) (p : MethodPlan) → AreInOrder (edges_of_method marks m p)
  method_in_order m p = go (get_or marks p.schema.task false)
    where
      go : (b : Bool) → AreInOrder (cond b (edges_from m 0 p.schema.children) [])
      go true = from_in_order m 0 p.schema.children
      go false = tt

  of_in_order : (m : ℕ) (ps : List MethodPlan) → AreInOrder (edges_of marks m ps)
  of_in_order m [] = tt
  of_in_order m (p ∷ ps) = both_in_order (edges_of_method marks m p) (edges_of marks (suc m) ps) (method_in_order m p) (of_in_order (suc m) ps)
      (λ e f a b. (let (i, d) = of_method m p e a in let (k, t, g, h, j) = from_to m 0 p.schema.children e d in let (n, plan, q, r, s, u) = of_to (suc m) ps f b in inl (omega arith)))

  pub all_edges : (c : Compiled) → ((t : ℕ) → IsMarked marks t ↔ IsReachedTask c t) → AreEdges c (edges_of marks 0 c.methods)
  all_edges c reached = record {
    all = λ e. (there e, back e);
    in_order = λ before rest e f s. one_after_another before rest e f (edges_of marks 0 c.methods) (of_in_order 0 c.methods) s;
  }
    where
      there : (e : Edge) → Contains (edges_of marks 0 c.methods) e → IsEdge c e
      there e k =
          let (n, plan, f, g, i, d) = of_to 0 c.methods e k in
          let (j, t, p, q, r) = from_to e.method 0 plan.schema.children e d in
          let is : slice_get c.methods e.method ≡ Some plan = ap (slice_get c.methods) (let x : e.method ≡ n = omega arith in x) ∙ g in
          let at : j ≡ e.child = omega arith in
          record {
            ground = (plan, is);
            reached = subst (IsReached (schemas c) (task (top_task c))) (sym (ap head_schema_by is)) ((reached plan.schema.task).0 i);
            subtask = t;
            is = subst (λ o. slice_get (schemas_by e.method o) e.child ≡ Some (task t)) (sym is) (ap (slice_get (child_schemas e.method plan.schema.children)) (sym at) ∙ r);
          }

      back : (e : Edge) → IsEdge c e → Contains (edges_of marks 0 c.methods) e
      back e h =
          let (plan, is) = h.ground in
          let r = (reached plan.schema.task).1 (subst (IsReached (schemas c) (task (top_task c))) (ap head_schema_by is) h.reached) in
          let s : slice_get (child_schemas e.method plan.schema.children) e.child ≡ Some (task h.subtask) = subst (λ o. slice_get (schemas_by e.method o) e.child ≡ Some (task h.subtask)) is h.is in
          let a : e.method ≡ 0 + e.method = omega arith in
          let b : 0 + e.child ≡ e.child = omega arith in
          to_of 0 c.methods e.method plan e is r
          (subst (λ n. Contains (edges_from n 0 plan.schema.children) e) a (subst (λ n. Contains (edges_from e.method 0 plan.schema.children) (record { method = e.method; child = n })) b (to_from e.method 0 plan.schema.children e.child h.subtask s)))

-- each method's task has a mark
pub tasks_marked : (c : Compiled) → IsSmallCompiled c → (methods : List MethodPlan) (marks : List Bool) → methods ≡ c.methods → length marks ≡ top_task c + 1 → All (λ (plan : MethodPlan). plan.schema.task < length marks) methods
tasks_marked c small methods marks e room k d l =
    let n = small.numbered k d (subst (λ ms. k < length ms) e l) in
    let t = subst (λ ms. (get_or ms k d).schema.task ≤ top_task c) (sym e) n.task in
    omega arith

pub edges_told : (c : Compiled) (edges : List Declared.Edge) (methods : List MethodPlan) (k : ℕ) (marks : List Bool) → methods ≡ c.methods → length methods ≤ k → ((t : ℕ) → IsMarked marks t ↔ IsReachedTask c t)
    → map edge_of edges ≡ edges_of marks 0 (take k methods) → AreEdges c (map edge_of edges)
edges_told c edges methods k marks e l reached h = subst (AreEdges c) (sym (h ∙ ap (edges_of marks 0) (take_all k methods l ∙ e))) (all_edges marks c reached)
