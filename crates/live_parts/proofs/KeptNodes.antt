-- Up the tree of a solution each node is live, and down the tree each is reached.
use Rattle.std.proofs.Common.{ℕ, zero, suc, ◌≡◌, ◌+◌, ◌⊎◌, inl, inr, List, [], ◌∷◌, map, length, Option, Some, None, option_map, slice_get, refl, ap, sym, subst, ◌∙◌, Contains, arith}
use Rattle.std.specs.Prelude.{IsTrue}
use Rattle.std.proofs.lemmas.Option.{slice_get_within}
use Rattle.plan_model.specs.declared.options.Checks.{Checks}
use Rattle.plan_model.specs.declared.networks.Head.{Head}
use Rattle.plan_model.specs.declared.networks.Head.TheVariants.{Task, Action, Check}
use Rattle.plan_model.specs.declared.networks.Child.{Child}
use Rattle.plan_model.specs.declared.schemas.MethodSchema.{MethodSchema}
use Rattle.plan_model.specs.declared.schemas.MethodPlan.{MethodPlan}
use Rattle.plan_model.specs.declared.values.Hddl.{Hddl}
use Rattle.plan_model.specs.declared.values.Compiled.{Compiled}
use Rattle.plan_model.specs.task_networks.Net.{Net}
use Rattle.plan_model.specs.task_networks.Tree.{Tree, Trees, open_leaf, done, split, none, more, Label, waits, ran, used, Address, work_of, works_of, IsGrown, AreGrown, at, child_at, label, label_at, IsTaken}
use Rattle.plan_model.specs.plan_meaning.Network.{Work, action, check, task, GroundMethod, child_of, ground_work, IsDeclared, IsGroundMethod, network}
use Rattle.plan_model.specs.plan_meaning.Solution.{top_work, Allows, next, initial, IsSolution}
use Rattle.plan_model.specs.plan_meaning.Truth.{State, values_of}
use Rattle.plan_model.specs.task_networks.Executable.{IsExecutableOrder, last_state}
use Rattle.plan_model.specs.plan_meaning.Compilation.{AsksSomething, check_child, IsMethodPlan, AreMethodPlans, IsCompiled}
use Rattle.plan_model.proofs.task_networks.Nodes.{parent, child_below, grown_at}
use Rattle.plan_model.proofs.task_networks.Lists.{not-in_empty, head_or_tail, Contains-later}
use Rattle.plan_model.proofs.plan_meaning.MethodParts.{head_by, works_by}
use Rattle.plan_model.proofs.plan_meaning.Pairs.{map_to}
use Rattle.live_parts.specs.Live.{Parts, TypeOf, IsLiveHead, IsLiveMethod, AreClosed, MayBeSolved}
use Rattle.live_parts.specs.Kept.{IsReached, below_top, below, IsKeptMethod, IsNumbered}
use Rattle.live_parts.specs.Laws.{IsKeptPlace, IsKeptNode, NodesAreKept, SolvedMayBeSolved}
use Rattle.live_parts.proofs.MaySo.{unasked_may}
use Rattle.live_parts.proofs.Places.{written_at, to_map}
use Rattle.live_parts.proofs.Asked.{subtask_is_child, child_is_subtask, plan_children, plan_pre, plan_task, asked}
use Rattle.live_parts.proofs.LiveAlong.{May, Within, holds_may, Known, all_known, last_within}

child_work : (N : Net) (ts : Trees N) (i : ℕ) (t : Tree N) → child_at N ts i ≡ Some t → Contains (works_of N ts) (work_of N t)
child_work N none i t e = absurd cc
child_work N (more u ts) zero t e = let f : u ≡ t = cc in (0, omega arith, ap (work_of N) f)
child_work N (more u ts) (suc i) t e = Contains-later (work_of N u) (works_of N ts) (work_of N t) (child_work N ts i t e)

module _ (c : Compiled) (mode : Checks) (plans : AreMethodPlans c.hddl mode (c.hddl.top ∷ c.hddl.methods) c.methods) (numbered : IsNumbered c.hddl) (live : Parts) (closed : AreClosed c.hddl live) where
  abbrev N : Net
  N = network c

  abbrev h : Hddl
  h = c.hddl

  abbrev Live : Work → Type 0
  Live (action a args) = Contains live.actions a
  Live (check m values) = (plan : MethodPlan) → slice_get c.methods m ≡ Some plan → May c live closed plan.schema.pre
  Live (task t args) = (t ≡ length h.tasks) ⊎ Contains live.tasks t

  abbrev LivePlace : ℕ → Type 0
  LivePlace zero = IsLiveMethod h live h.top
  LivePlace (suc n) = Contains live.methods n

  -- a declared work whose head is live
  live_head : (g : GroundMethod) (head : Head) (args : List ℕ) → IsDeclared c (ground_work g head args) → Live (ground_work g head args) → IsLiveHead live head
  live_head g (Task t) args d (inl e) = (let (params, (s, f, r), a) = d in let l = slice_get_within h.tasks t s f in absurd (omega arith))
  live_head g (Task t) args d (inr k) = k
  live_head g (Action a) args d k = k
  live_head g Check args d k = tt

  module _ (tree : Tree N) (known : (p : Address) (l : Label N) → label_at N tree p ≡ Some l → Known c live closed l) where
    -- a method all of whose children are live
    module _ (p : Address) (g : GroundMethod) (ts : Trees N) (a : at N tree p ≡ Some (split g ts)) (grown : IsGrown N (split g ts)) (each : (w : Work) → Contains (works_of N ts) w → Live w) where
      ground : IsGroundMethod c g
      ground = grown.0

      plan : MethodPlan
      plan = ground.plan

      is_works : works_of N ts ≡ works_by g (Some plan)
      unfolding plan ground
      is_works = grown.1 ∙ ap (works_by g) ground.is

      live_method : (s : MethodSchema) → IsMethodPlan h mode s plan → IsLiveMethod h live s
      unfolding plan ground
      live_method s is = record { pre = pre (asked h mode s plan is g); heads = heads }
        where
          heads : (child : Child) → Contains s.children child → IsLiveHead live child.head
          heads child k =
              let d = subst (λ z. Contains z child) (sym (plan_children h mode s plan is)) (subtask_is_child plan.checked s child k) in
              live_head g child.head (values_of g.values child.args) (ground.met.declared child d) (each (child_of g child) (subst (λ z. Contains z (child_of g child)) (sym is_works) (to_map (child_of g) plan.schema.children child d)))

          pre_is : plan.schema.pre ≡ s.pre
          pre_is = plan_pre h mode s plan is

          pre : Contains (works_by g (Some plan)) (check g.number g.values) ⊎ (IsTrue plan.tested ⊎ (AsksSomething s.pre → ⊥)) → May c live closed s.pre
          pre (inl k) = subst (May c live closed) pre_is (each (check g.number g.values) (subst (λ z. Contains z (check g.number g.values)) (sym is_works) k) plan ground.is)
          pre (inr (inl t)) = subst (May c live closed) pre_is (known p (used g) (ap (option_map (label N)) a) plan ground.is t)
          pre (inr (inr n)) = unasked_may (TypeOf h) (Contains live.predicates) s.pre n

      -- the method is live, and so is its task
      live_used : (n : ℕ) → g.number ≡ n → LivePlace n × Live (N.head g)
      unfolding plan ground
      live_used zero e = (let w = written_at h mode (h.top ∷ h.methods) c.methods g.number plan plans ground.is in go w.0 (sym w.1 ∙ ap (slice_get (h.top ∷ h.methods)) e) w.2)
        where
          go : (s : MethodSchema) → Some s ≡ Some h.top → IsMethodPlan h mode s plan → LivePlace zero × Live (N.head g)
          go s f is = let x : s ≡ h.top = cc in (
            subst (IsLiveMethod h live) x (live_method s is),
            subst Live (ap (head_by g) (sym ground.is)) (inl (plan_task h mode s plan is ∙ ap (λ (z : MethodSchema). z.task) x ∙ numbered.top_task)),
          )
      live_used (suc n) e = (let w = written_at h mode (h.top ∷ h.methods) c.methods g.number plan plans ground.is in go w.0 (sym (ap (slice_get (h.top ∷ h.methods)) e) ∙ w.1) w.2)
        where
          go : (s : MethodSchema) → slice_get h.methods n ≡ Some s → IsMethodPlan h mode s plan → LivePlace (suc n) × Live (N.head g)
          go s f is = let x = closed.method n s f (live_method s is) in (
            x,
            subst Live (ap (head_by g) (sym ground.is)) (inr (subst (Contains live.tasks) (sym (plan_task h mode s plan is)) (closed.task n s f x))),
          )

    mutual
      live_tree : (t : Tree N) (p : Address) → at N tree p ≡ Some t → IsGrown N t → Live (work_of N t)
      live_tree (open_leaf w) p a g = absurd (known p (waits w) (ap (option_map (label N)) a))
      live_tree (done w) p a g = of_done w (known p (ran w) (ap (option_map (label N)) a))
        where
          of_done : (w : Work) → Known c live closed (ran w) → Live w
          of_done (action n args) k = k
          of_done (check m values) k = k
          of_done (task t args) k = absurd k
      live_tree (split m ts) p a g = (live_used p m ts a g (live_trees ts p 0 (λ j. subst (λ k. at N tree (k ∷ p) ≡ child_at N ts j) (let x : j ≡ 0 + j = omega arith in x) (child_below N tree j p m ts a)) g.2) m.number refl).1

      live_trees : (ts : Trees N) (p : Address) (i : ℕ) → ((j : ℕ) → at N tree ((i + j) ∷ p) ≡ child_at N ts j) → AreGrown N ts → (w : Work) → Contains (works_of N ts) w → Live w
      live_trees none p i a g w k = absurd (not-in_empty w k)
      live_trees (more t ts) p i a g w k = elim (head_or_tail (work_of N t) (works_of N ts) w k) [
        | inl e ↦ subst Live e (live_tree t ((i + 0) ∷ p) (a 0) g.0)
        | inr d ↦ live_trees ts p (suc i) (λ j. subst (λ k. at N tree (k ∷ p) ≡ child_at N ts j) (let x : i + suc j ≡ suc i + j = omega arith in x) (a (suc j))) g.1 w d
      ]

    module _ (grown : IsGrown N tree) (root : work_of N tree ≡ top_work c) where
      live_place : (p : Address) (m : GroundMethod) (ts : Trees N) → at N tree p ≡ Some (split m ts) → LivePlace m.number
      live_place p m ts a =
          let g = grown_at N tree p (split m ts) grown a in
          (live_used p m ts a g (live_trees ts p 0 (λ j. subst (λ k. at N tree (k ∷ p) ≡ child_at N ts j) (let x : j ≡ 0 + j = omega arith in x) (child_below N tree j p m ts a)) g.2) m.number refl).0

      abbrev Reached : Work → Type 0
      Reached (action a args) = IsReached h live (Action a)
      Reached (check m values) = IsKeptPlace h c live m
      Reached (task t args) = (t ≡ length h.tasks) ⊎ IsReached h live (Task t)

      -- the method of a reached task is kept
      kept_place : (p : Address) (m : GroundMethod) (ts : Trees N) → at N tree p ≡ Some (split m ts) → Reached (N.head m) → (n : ℕ) → m.number ≡ n → IsKeptPlace h c live n
      kept_place p m ts a r zero e = tt
      kept_place p m ts a r (suc n) e = (let w = written_at h mode (h.top ∷ h.methods) c.methods m.number g.plan plans g.is in go w.0 (sym (ap (slice_get (h.top ∷ h.methods)) e) ∙ w.1) w.2)
        where
          g : IsGroundMethod c m
          g = (grown_at N tree p (split m ts) grown a).0

          go : (s : MethodSchema) → slice_get h.methods n ≡ Some s → IsMethodPlan h mode s g.plan → IsKeptMethod h live n
          go s f is = (subst LivePlace e (live_place p m ts a), (s, f, of_task (subst Reached (ap (head_by m) g.is) r)))
            where
              of_task : (g.plan.schema.task ≡ length h.tasks) ⊎ IsReached h live (Task g.plan.schema.task) → IsReached h live (Task s.task)
              of_task (inl x) = (let l = (numbered.methods n s f).0 in let y : s.task ≡ length h.tasks = sym (plan_task h mode s g.plan is) ∙ x in absurd (omega arith))
              of_task (inr x) = subst (λ z. IsReached h live (Task z)) (plan_task h mode s g.plan is) x

      -- a child of a kept method is reached
      reached_child : (p : Address) (m : GroundMethod) (ts : Trees N) → at N tree p ≡ Some (split m ts) → (n : ℕ) → m.number ≡ n → IsKeptPlace h c live n → (w : Work) → Contains (works_of N ts) w → Reached w
      reached_child p m ts a n e kept w k =
          let b = map_to (child_of m) g.plan.schema.children w (subst (λ z. Contains z w) is_here k) in
          let q = written_at h mode (h.top ∷ h.methods) c.methods m.number g.plan plans g.is in
          subst Reached b.2 (of_child q.0 q.2 b.0 (below_it q.0 (ap (slice_get (h.top ∷ h.methods)) (sym e) ∙ q.1)) (child_is_subtask g.plan.checked q.0 b.0 (subst (λ z. Contains z b.0) (plan_children h mode q.0 g.plan q.2) b.1)))
        where
          gr : IsGrown N (split m ts)
          gr = grown_at N tree p (split m ts) grown a

          g : IsGroundMethod c m
          g = gr.0

          is_here : works_of N ts ≡ map (child_of m) g.plan.schema.children
          is_here = gr.1 ∙ ap (works_by m) g.is

          below_place : (n : ℕ) → IsKeptPlace h c live n → (s : MethodSchema) → slice_get (h.top ∷ h.methods) n ≡ Some s → (child : Child) → Contains s.children child → IsReached h live child.head
          below_place zero y s f child d = (let x : h.top ≡ s = cc in below_top (subst (λ (z : MethodSchema). Contains z.children child) (sym x) d))
          below_place (suc n) (l, (r, f, y)) s i child d = (let x : r ≡ s = cc in below i l (subst (λ (z : MethodSchema). IsReached h live (Task z.task)) x y) d)

          below_it : (s : MethodSchema) → slice_get (h.top ∷ h.methods) n ≡ Some s → (child : Child) → Contains s.children child → IsReached h live child.head
          below_it s f child d = below_place n kept s f child d

          of_head : (head : Head) (args : List ℕ) → IsReached h live head → Reached (ground_work m head args)
          of_head (Task t) args r = inr r
          of_head (Action a) args r = r
          of_head Check args r = subst (IsKeptPlace h c live) (sym e) kept

          of_child : (s : MethodSchema) → IsMethodPlan h mode s g.plan → (child : Child) → ((x : Child) → Contains s.children x → IsReached h live x.head) → (child ≡ check_child s) ⊎ Contains s.children child → Reached (child_of m child)
          of_child s is child f (inl x) = subst (λ z. Reached (child_of m z)) (sym x) (subst (IsKeptPlace h c live) (sym e) kept)
          of_child s is child f (inr d) = of_head child.head (values_of m.values child.args) (f child d)

      reached : (p : Address) (t : Tree N) → at N tree p ≡ Some t → Reached (work_of N t)
      reached [] t a = (let e : tree ≡ t = cc in subst Reached (sym root ∙ ap (work_of N) e) (inl refl))
      reached (i ∷ p) t a =
          let (m, ts, b, d) = parent N tree i p t a in
          reached_child p m ts b m.number refl (kept_place p m ts b (reached p (split m ts) b) m.number refl) (work_of N t) (child_work N ts i t d)

      pub kept_node : (p : Address) (l : Label N) → label_at N tree p ≡ Some l → IsKeptNode h c live l
      kept_node p l e = go (at N tree p) refl e
        where
          of_tree : (t : Tree N) → at N tree p ≡ Some t → IsKeptNode h c live (label N t)
          of_tree (open_leaf w) a = absurd (known p (waits w) (ap (option_map (label N)) a))
          of_tree (done w) a = of_done w (known p (ran w) (ap (option_map (label N)) a)) (reached p (done w) a)
            where
              of_done : (w : Work) → Known c live closed (ran w) → Reached w → IsKeptNode h c live (ran w)
              of_done (action n args) k r = (k, r)
              of_done (check m values) k r = r
              of_done (task t args) k r = absurd k
          of_tree (split m ts) a = kept_place p m ts a (reached p (split m ts) a) m.number refl

          go : (o : Option (Tree N)) → at N tree p ≡ o → option_map (label N) o ≡ Some l → IsKeptNode h c live l
          go None f g = absurd cc
          go (Some t) f g = (let x : label N t ≡ l = cc in subst (IsKeptNode h c live) x (of_tree t f))

      -- the top method stands at the root
      pub live_root : IsLiveMethod h live h.top
      live_root = go tree refl
        where
          root_is : (t : Tree N) → tree ≡ t → work_of N t ≡ top_work c
          root_is t e = sym (ap (work_of N) e) ∙ root

          of_method : (m : GroundMethod) (ts : Trees N) → at N tree [] ≡ Some (split m ts) → N.head m ≡ top_work c → (n : ℕ) → m.number ≡ n → IsLiveMethod h live h.top
          of_method m ts a f zero e = subst LivePlace e (live_place [] m ts a)
          of_method m ts a f (suc n) e = (let w = written_at h mode (h.top ∷ h.methods) c.methods m.number g.plan plans g.is in absurd (other w.0 (sym (ap (slice_get (h.top ∷ h.methods)) e) ∙ w.1) w.2))
            where
              g : IsGroundMethod c m
              g = (grown_at N tree [] (split m ts) grown a).0

              task_is : g.plan.schema.task ≡ length h.tasks
              task_is = let x : head_by m (Some g.plan) ≡ top_work c = sym (ap (head_by m) g.is) ∙ f in cc

              other : (s : MethodSchema) → slice_get h.methods n ≡ Some s → IsMethodPlan h mode s g.plan → ⊥
              other s i is = let l = (numbered.methods n s i).0 in let y : s.task ≡ length h.tasks = sym (plan_task h mode s g.plan is) ∙ task_is in omega arith

          go : (t : Tree N) → tree ≡ t → IsLiveMethod h live h.top
          go (open_leaf w) e = absurd (known [] (waits w) (ap (λ z. Some (label N z)) e))
          go (done w) e = absurd (subst N.IsSimple (root_is (done w) e) (subst (IsGrown N) e grown))
          go (split m ts) e = of_method m ts (ap Some e) (root_is (split m ts) e) m.number refl

  module _ (tree : Tree N) (order : List Address) (solution : IsSolution c tree order) where
    at_first : Within c live closed (initial c)
    at_first g k = closed.initial g k

    known : (p : Address) (l : Label N) → label_at N tree p ≡ Some l → Known c live closed l
    known p l e = all_known c live closed tree order x.labels (initial c) x.are_labels x.allowed at_first p l ((solution.finished.front.schedule.covers p).1 (l, e, taken l e)) e
      where
        x : IsExecutableOrder N State (Allows c) (next c) (initial c) tree order
        x = solution.executable

        taken : (l : Label N) → label_at N tree p ≡ Some l → IsTaken N l
        taken (waits w) e = absurd (solution.finished.no_leaves p (w, e))
        taken (ran w) e = tt
        taken (used g) e = tt

    pub solution_nodes : (p : Address) (l : Label N) → label_at N tree p ≡ Some l → IsKeptNode h c live l
    solution_nodes = kept_node tree known solution.finished.front.grown solution.finished.front.root

    pub solved : MayBeSolved h live
    solved = record {
      top = live_root tree known solution.finished.front.grown solution.finished.front.root;
      goal = holds_may c live closed (last_state N State (Allows c) (next c) (initial c) solution.executable.labels)
          (last_within c live closed tree order solution.executable.labels (initial c) solution.executable.are_labels solution.executable.allowed at_first) h.goal [] solution.goal;
    }

module _ (h : Hddl) (mode : Checks) (c : Compiled) (compiled : IsCompiled h mode c) (numbered : IsNumbered h) where
  plans : AreMethodPlans c.hddl mode (c.hddl.top ∷ c.hddl.methods) c.methods
  plans = (subst (λ (z : Hddl). IsCompiled z mode c) (sym compiled.hddl) compiled).methods

  pub nodes_are_kept : NodesAreKept h c
  nodes_are_kept = subst (λ (z : Hddl). NodesAreKept z c) compiled.hddl (λ live is tree order s. solution_nodes c mode plans (subst IsNumbered (sym compiled.hddl) numbered) live is.closed tree order s)

  pub solved_may_be_solved : SolvedMayBeSolved h c
  solved_may_be_solved = subst (λ (z : Hddl). SolvedMayBeSolved z c) compiled.hddl (λ live is tree order s. solved c mode plans (subst IsNumbered (sym compiled.hddl) numbered) live is.closed tree order s)
