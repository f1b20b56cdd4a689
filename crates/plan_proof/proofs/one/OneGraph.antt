-- Compiled problems that are the same but for names have the same edges, cycles and bounds.
use Rattle.std.proofs.Common.{ℕ, zero, suc, ◌≡◌, ◌+◌, ◌<◌, ◌≤◌, ◌⊎◌, inl, inr, List, [], ◌∷◌, map, length, Option, Some, None, option_map, slice_get, refl, ap, sym, subst, ◌∙◌}
use Rattle.std.proofs.lemmas.Option.{slice_get-map}
use Rattle.plan_model.specs.declared.networks.Child.{Child}
use Rattle.plan_model.specs.declared.options.Checks.{Checks}
use Rattle.plan_model.specs.declared.schemas.TaskSchema.{TaskSchema}
use Rattle.plan_model.specs.declared.schemas.MethodPlan.{MethodPlan}
use Rattle.plan_model.specs.declared.values.Hddl.{Hddl}
use Rattle.plan_model.specs.declared.values.Compiled.{Compiled}
use Rattle.plan_model.specs.Pairs.{Pairs}
use Rattle.plan_texts.specs.Declared.{named}
use Rattle.plan_texts.specs.SpellsHddl.{hddl_words, task_words}
use Rattle.plan_texts.specs.FirstSeen.{IsHddlOf}
use Rattle.plan_texts.specs.SoundValue.{IsSoundHddl}
use Rattle.plan_texts.specs.Alike.{task_said, child_said}
use Rattle.plan_texts.specs.Together.{Together}
use Rattle.plan_texts.proofs.Together.{maps-length, together-maps}
use Rattle.plan_texts.proofs.Unique.{map-map}
use Rattle.plan_model.specs.task_networks.Net.{count}
use Rattle.plan_model.specs.task_networks.Order.{IsLast}
use Rattle.plan_model.specs.task_networks.Bound.{AreBlocks, IsReached, itself, as_child, weight, weights, block_number, IsAloneAtTheEnd, Counts, IsTheBound}
use Rattle.plan_model.specs.task_networks.Strata as Walks
use Rattle.plan_model.specs.plan_meaning.Compilation.{IsCompiled}
use Rattle.plan_model.specs.plan_meaning.Network.{top_task}
use Rattle.plan_model.specs.plan_meaning.Schemas.{Schema, task, schema_of, schemas}
use Rattle.plan_model.specs.plan_meaning.Strata.{Edge, source, target, target_by, IsEdge, AreEdges, IsBad, IsTailRecursive, IsNamedCycle, IsRanking, IsOneGroup}
use Rattle.plan_model.specs.plan_meaning.Bound.{group_of, IsBound}
use Rattle.plan_model.proofs.plan_meaning.MethodParts.{IsPairBy, head_schema_by, schemas_by}
use Rattle.plan_model.proofs.plan_meaning.BoundLaws.{bound_is_the_only_one}
use Rattle.slot_machine.proofs.bound_laws.OneCycle.{one_named_cycle}
use Rattle.plan_proof.specs.OneGraph.{plan_words, HaveOneGraph, HaveOneBound, HaveOneNamedCycle}
use Rattle.plan_proof.proofs.values.SamePlans.{ArePlansAlike}
use Rattle.plan_proof.proofs.values.SameSound.{task-words-same}
use Rattle.plan_proof.proofs.values.Headlines.{same_but_names, unions_apart, same_here, plans_here}

-- what stands at one place of two lists that go together
abbrev StandTogether : {X Y : Type 0} → (X → Y → Type 0) → Option X → Option Y → Type 0
StandTogether {X = X} {Y = Y} R o u = ((o ≡ None) × (u ≡ None)) ⊎ ((x : X) × (y : Y) × (o ≡ Some x) × (u ≡ Some y) × R x y)

together-at : {X Y : Type 0} (R : X → Y → Type 0) (xs : List X) (ys : List Y) → Together R xs ys → (k : ℕ) → StandTogether R (slice_get xs k) (slice_get ys k)
together-at R [] [] e k = inl (refl, refl)
together-at R [] (y ∷ ys) e k = absurd e
together-at R (x ∷ xs) [] e k = absurd e
together-at R (x ∷ xs) (y ∷ ys) e zero = inr (x, y, refl, refl, e.0)
together-at R (x ∷ xs) (y ∷ ys) e (suc k) = together-at R xs ys e.1 k

-- what bounds and edges see of a plan
pub record AreShapedAlike (p q : MethodPlan) : Type 0 where
  pub task : p.schema.task ≡ q.schema.task
  pub heads : map (λ (x : Child). x.head) p.schema.children ≡ map (λ (x : Child). x.head) q.schema.children
  pub pairs : p.schema.pairs ≡ q.schema.pairs
  pub line : p.line ≡ q.line

shaped_back : (p q : MethodPlan) → AreShapedAlike p q → AreShapedAlike q p
shaped_back p q s = record { task = sym s.task; heads = sym s.heads; pairs = sym s.pairs; line = sym s.line }

-- two compiled problems with methods of one shape, place by place
pub record HaveOneShape (c d : Compiled) : Type 0 where
  pub top : top_task c ≡ top_task d
  pub plans : Together AreShapedAlike c.methods d.methods

together-back : {X Y : Type 0} (R : X → Y → Type 0) (S : Y → X → Type 0) → ((x : X) (y : Y) → R x y → S y x) → (xs : List X) (ys : List Y) → Together R xs ys → Together S ys xs
together-back R S f [] [] e = tt
together-back R S f [] (y ∷ ys) e = absurd e
together-back R S f (x ∷ xs) [] e = absurd e
together-back R S f (x ∷ xs) (y ∷ ys) e = (f x y e.0, together-back R S f xs ys e.1)

shape_back : (c d : Compiled) → HaveOneShape c d → HaveOneShape d c
shape_back c d s = record { top = sym s.top; plans = together-back AreShapedAlike AreShapedAlike shaped_back c.methods d.methods s.plans }

module _ (c d : Compiled) (shape : HaveOneShape c d) where
  at : (m : ℕ) → StandTogether AreShapedAlike (slice_get c.methods m) (slice_get d.methods m)
  at = together-at AreShapedAlike c.methods d.methods shape.plans

  head-same : (m : ℕ) → (schemas c).head m ≡ (schemas d).head m
  head-same m = elim (at m) [
    | inl (e, f) ↦ ap head_schema_by e ∙ sym (ap head_schema_by f)
    | inr (p, q, e, f, r) ↦ ap head_schema_by e ∙ ap task r.task ∙ sym (ap head_schema_by f)
  ]

  works-same : (m : ℕ) → (schemas c).works m ≡ (schemas d).works m
  works-same m = elim (at m) [
    | inl (e, f) ↦ ap (schemas_by m) e ∙ sym (ap (schemas_by m) f)
    | inr (p, q, e, f, r) ↦ ap (schemas_by m) e ∙ map-map (λ (x : Child). x.head) (schema_of m) p.schema.children ∙ ap (map (schema_of m)) r.heads ∙ sym (map-map (λ (x : Child). x.head) (schema_of m) q.schema.children) ∙ sym (ap (schemas_by m) f)
  ]

  pair-same : (m i j : ℕ) → (schemas c).Pair m i j ≡ (schemas d).Pair m i j
  pair-same m i j = elim (at m) [
    | inl (e, f) ↦ ap (λ z. IsPairBy z i j) e ∙ sym (ap (λ z. IsPairBy z i j) f)
    | inr (p, q, e, f, r) ↦ ap (λ z. IsPairBy z i j) e ∙ ap (λ z. Pairs z i j) r.pairs ∙ sym (ap (λ z. IsPairBy z i j) f)
  ]

  ground_on : (m : ℕ) → (schemas c).IsGround m → (schemas d).IsGround m
  ground_on m (plan, g) = elim (at m) [
    | inl (e, f) ↦ absurd (let k : None ≡ Some plan = sym e ∙ g in cc)
    | inr (p, q, e, f, r) ↦ (q, f)
  ]

  reached_on : (t w : Schema) → IsReached (schemas c) t w → IsReached (schemas d) t w
  reached_on t w itself = itself
  reached_on t w (as_child m i g r k) = as_child m i (ground_on m g) (subst (IsReached (schemas d) t) (head-same m) (reached_on t ((schemas c).head m) r)) (ap (λ z. slice_get z i) (sym (works-same m)) ∙ k)

  -- from the top tasks
  from_top : (w : Schema) → IsReached (schemas c) (task (top_task c)) w → IsReached (schemas d) (task (top_task d)) w
  from_top w r = subst (λ z. IsReached (schemas d) (task z) w) shape.top (reached_on (task (top_task c)) w r)

  count-same : (m : ℕ) → count (schemas c) m ≡ count (schemas d) m
  count-same m = ap length (works-same m)

  edge_on : (e : Edge) → IsEdge c e → IsEdge d e
  edge_on e h = record {
    ground = ground_on e.method h.ground;
    reached = subst (IsReached (schemas d) (task (top_task d))) (head-same e.method) (from_top ((schemas c).head e.method) h.reached);
    subtask = h.subtask;
    is = ap (λ z. slice_get z e.child) (sym (works-same e.method)) ∙ h.is;
  }

  source-same : (e : Edge) → source c e ≡ source d e
  source-same e = head-same e.method

  target-same : (e : Edge) → target c e ≡ target d e
  target-same e = ap (λ z. target_by c (slice_get z e.child)) (works-same e.method) ∙ by_either (slice_get ((schemas d).works e.method) e.child)
    where
      by_either : (o : Option Schema) → target_by c o ≡ target_by d o
      by_either None = refl
      by_either (Some s) = refl

  bad-same : (e : Edge) → IsBad c e ≡ IsBad d e
  bad-same e = λ k. IsLast (λ i j. pair-same e.method i j k) (count-same e.method k) e.child → ⊥

  block_number-same : (block : ℕ → ℕ → ℕ) (number : Schema → ℕ) (m k : ℕ) → block_number (schemas c) block number m k ≡ block_number (schemas d) block number m k
  block_number-same block number m k = go 0 ((schemas c).works m) ∙ ap (weights (schemas d) block number m k 0) (works-same m)
    where
      go : (i : ℕ) (ws : List Schema) → weights (schemas c) block number m k i ws ≡ weights (schemas d) block number m k i ws
      go i [] = refl
      go i (w ∷ ws) = ap (λ z. weight k (block m i) (number w) + z) (go (suc i) ws)

  alone_on : (block : ℕ → ℕ → ℕ) (number : Schema → ℕ) (m k : ℕ) (w : Schema) → IsAloneAtTheEnd (schemas c) block number m k w → IsAloneAtTheEnd (schemas d) block number m k w
  alone_on block number m k w a = record {
    child = a.child;
    is = ap (λ z. slice_get z a.child) (sym (works-same m)) ∙ a.is;
    in_block = a.in_block;
    earlier = λ i l. a.earlier i (subst (λ z. i < z) (sym (count-same m)) l);
  }

module _ (c d : Compiled) (shape : HaveOneShape c d) where
  abbrev back : HaveOneShape d c
  back = shape_back c d shape

  edges_on : (es : List Edge) → AreEdges c es → AreEdges d es
  edges_on es a = record { all = λ e. ((λ h. edge_on c d shape e ((a.all e).0 h)), λ h. (a.all e).1 (edge_on d c back e h)); in_order = a.in_order }

  -- what is said of one list of all edges
  by_edges : (P : (Edge → Schema) → (Edge → Schema) → (Edge → Type 0) → List Edge → Type 0) → (es : List Edge) × AreEdges c es × P (source c) (target c) (IsBad c) es → (es : List Edge) × AreEdges d es × P (source d) (target d) (IsBad d) es
  by_edges P (es, a, h) = (es, edges_on es a, subst (λ (z : Type 0). z) (λ k. P (λ e. source-same c d shape e k) (λ e. target-same c d shape e k) (λ e. bad-same c d shape e k) es) h)

  tail_recursive_on : IsTailRecursive c → IsTailRecursive d
  tail_recursive_on = by_edges (λ s t bad es. Walks.IsTailRecursive s t es bad)

  named_cycle_on : (e : Edge) (walk : List Edge) → IsNamedCycle c e walk → IsNamedCycle d e walk
  named_cycle_on e walk = by_edges (λ s t bad es. Walks.IsNamedCycle s t es bad e walk)

  ranking_on : (rank : Schema → ℕ) → IsRanking c rank → IsRanking d rank
  ranking_on rank = by_edges (λ s t bad es. Walks.IsLawfulRanking s t es bad rank)

  group_on : (x y : Schema) → IsOneGroup c x y → IsOneGroup d x y
  group_on x y = by_edges (λ s t bad es. Walks.IsOneGroup s t es x y)

  module _ (block : ℕ → ℕ → ℕ) (number : Schema → ℕ) (group : Schema → ℕ) where
    counts_on : (m i : ℕ) → Counts (schemas c) block number group m i → Counts (schemas d) block number group m i
    counts_on m i k = (
      subst (λ z. i < z) (count-same c d shape m) k.0,
      λ w a e. k.1 w (alone_on d c back block number m (block m i) w a) (e ∙ ap group (sym (head-same c d shape m))),
    )

module _ (c d : Compiled) (shape : HaveOneShape c d) where
  abbrev home : HaveOneShape d c
  home = shape_back c d shape

  reached_back : (w : Schema) → IsReached (schemas d) (task (top_task d)) w → IsReached (schemas c) (task (top_task c)) w
  reached_back = from_top d c home

  head_back : (m : ℕ) → IsReached (schemas d) (task (top_task d)) ((schemas d).head m) → IsReached (schemas c) (task (top_task c)) ((schemas c).head m)
  head_back m r = subst (IsReached (schemas c) (task (top_task c))) (head-same d c home m) (reached_back ((schemas d).head m) r)

  the_bound_on : (block : ℕ → ℕ → ℕ) (number : Schema → ℕ) (group : Schema → ℕ) → IsTheBound (schemas c) block number group (task (top_task c)) → IsTheBound (schemas d) block number group (task (top_task d))
  the_bound_on block number group h = record {
    simple = λ w r s. h.simple w (reached_back w r) s;
    positive = λ w r. h.positive w (reached_back w r);
    above = λ w m i r g q e k. subst (λ z. z ≤ number w) (block_number-same c d shape block number m (block m i))
        (h.above w m i (reached_back w r) (ground_on d c home m g) (head_back m q) (e ∙ ap group (sym (head-same c d shape m))) (counts_on d c home block number group m i k));
    attained = λ w r. elim (h.attained w (reached_back w r)) [
      | inl e ↦ inl e
      | inr (m, i, g, q, e, k, f) ↦ inr (
        m,
        i,
        ground_on c d shape m g,
        subst (IsReached (schemas d) (task (top_task d))) (head-same c d shape m) (from_top c d shape ((schemas c).head m) q),
        e ∙ ap group (head-same c d shape m),
        counts_on c d shape block number group m i k,
        sym (block_number-same c d shape block number m (block m i)) ∙ f,
      )
    ];
  }

  bound_on : (n : ℕ) → IsBound c n → IsBound d n
  bound_on n b = record {
    block = b.block;
    blocks = λ m plan g. elim (at c d shape m) [
      | inl (e, f) ↦ absurd (let k : None ≡ Some plan = sym f ∙ g in cc)
      | inr (p, q, e, f, r) ↦ (
          let k : Some q ≡ Some plan = sym f ∙ g in let same : q ≡ plan = cc in
          subst (λ (z : MethodPlan). AreBlocks (Pairs z.schema.pairs) z.line (b.block m)) same (subst (λ (z : Type 0). z) (λ j. AreBlocks (Pairs (r.pairs j)) (r.line j) (b.block m)) (b.blocks m p e)))
    ];
    group = b.group;
    groups = λ t u r q. (let h = b.groups t u (reached_back (task t) r) (reached_back (task u) q) in ((λ e. group_on c d shape (task t) (task u) (h.0 e)), λ g. h.1 (group_on d c home (task t) (task u) g)));
    number = b.number;
    numbers = the_bound_on b.block b.number (group_of b.group) b.numbers;
    is = ap (λ z. b.number (task z)) (sym shape.top) ∙ b.is;
  }

pub graph_of_shape : (c d : Compiled) → HaveOneShape c d → task_words c.hddl ≡ task_words d.hddl → plan_words c ≡ plan_words d → HaveOneGraph c d
graph_of_shape c d shape tasks methods =
    let back = shape_back c d shape in
    record {
      tasks = tasks;
      methods = methods;
      sources = source-same c d shape;
      targets = target-same c d shape;
      edges = λ es. (edges_on c d shape es, edges_on d c back es);
      bad = λ e. ((λ h. subst (λ (z : Type 0). z) (bad-same c d shape e) h), λ h. subst (λ (z : Type 0). z) (sym (bad-same c d shape e)) h);
      tail_recursive = (tail_recursive_on c d shape, tail_recursive_on d c back);
      named_cycle = λ e walk. (named_cycle_on c d shape e walk, named_cycle_on d c back e walk);
      ranking = λ rank. (ranking_on c d shape rank, ranking_on d c back rank);
      bound = λ n. (bound_on c d shape n, bound_on d c back n);
    }

-- the words by place, as the line of a cycle tells them
module _ (c d : Compiled) (graph : HaveOneGraph c d) where
  pub task_word-same : (t : ℕ) → option_map (λ (s : TaskSchema). named c.hddl.names s.name) (slice_get c.hddl.tasks t) ≡ option_map (λ (s : TaskSchema). named d.hddl.names s.name) (slice_get d.hddl.tasks t)
  task_word-same t = sym (slice_get-map (λ (s : TaskSchema). named c.hddl.names s.name) c.hddl.tasks t) ∙ ap (λ z. slice_get z t) graph.tasks ∙ slice_get-map (λ (s : TaskSchema). named d.hddl.names s.name) d.hddl.tasks t

  pub method_word-same : (m : ℕ) → option_map (λ (plan : MethodPlan). named c.hddl.names plan.schema.name) (slice_get c.methods m) ≡ option_map (λ (plan : MethodPlan). named d.hddl.names plan.schema.name) (slice_get d.methods m)
  method_word-same m =
      sym (slice_get-map (λ (plan : MethodPlan). named c.hddl.names plan.schema.name) c.methods m) ∙ ap (λ z. slice_get z m) graph.methods
      ∙ slice_get-map (λ (plan : MethodPlan). named d.hddl.names plan.schema.name) d.methods m

-- what is compiled of two values of the same texts
module _ (domain problem : List ℕ) (h h' : Hddl) (mode : Checks) (c c' : Compiled) (spelled : IsHddlOf domain problem h) (spelled' : IsHddlOf domain problem h') (sound : IsSoundHddl h) (compiled : IsCompiled h mode c) (compiled' : IsCompiled h' mode c') where
  pub one_graph : HaveOneGraph c' c
  one_graph =
      let apart = unions_apart domain problem h' h spelled' spelled sound in
      let named_apart = same_but_names domain problem h' h spelled' spelled sound in
      let same = same_here h h' mode c c' named_apart apart sound compiled compiled' in
      let plans = plans_here h h' mode c c' named_apart apart sound compiled compiled' in
      graph_of_shape c' c
      (record {
        top = maps-length (task_said (hddl_words c'.hddl)) (task_said (hddl_words c.hddl)) c'.hddl.tasks c.hddl.tasks same.alike.tasks;
        plans = shaped _ c'.methods c.methods plans;
      })
      (task-words-same c'.hddl c.hddl same)
      (together-maps (λ (p : MethodPlan). named c'.hddl.names p.schema.name) (λ (p : MethodPlan). named c.hddl.names p.schema.name) _ (λ p q a. ap (λ z. z.0) a.0.schema) c'.methods c.methods plans)
    where
      shaped : (R : MethodPlan → MethodPlan → Type 0) (ps qs : List MethodPlan) → Together (λ p q. ArePlansAlike (hddl_words c'.hddl) (hddl_words c.hddl) p q × R p q) ps qs → Together AreShapedAlike ps qs
      shaped R [] [] e = tt
      shaped R [] (q ∷ qs) e = absurd e
      shaped R (p ∷ ps) [] e = absurd e
      shaped R (p ∷ ps) (q ∷ qs) e = (
        record {
          task = ap (λ z. z.1) e.0.0.schema;
          heads = map-map (child_said (hddl_words c'.hddl)) (λ z. z.1) p.schema.children ∙ ap (map (λ z. z.1)) (ap (λ z. z.4.1) e.0.0.schema) ∙ sym (map-map (child_said (hddl_words c.hddl)) (λ z. z.1) q.schema.children);
          pairs = ap (λ z. z.4.2) e.0.0.schema;
          line = e.0.0.line;
        },
        shaped R ps qs e.1,
      )

  pub one_bound : HaveOneBound c' c
  one_bound n m a b = bound_is_the_only_one h mode c compiled n m ((one_graph.bound n).0 a) b

  pub one_cycle : HaveOneNamedCycle c' c
  one_cycle e f walk back a b = one_named_cycle c e f walk back ((one_graph.named_cycle e walk).0 a) b
