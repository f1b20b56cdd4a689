-- The network of the pruned problem is that of the problem with what is kept, renamed.
use Rattle.std.proofs.Common.{ℕ, ◌≡◌, ◌<◌, ◌⊎◌, ◌↔◌, inl, inr, List, [], ◌∷◌, map, length, Some, slice_get, ap, sym, subst, ◌∙◌, Contains, arith}
use Rattle.htn_base.specs.Different.{AreDifferent}
use Rattle.plan_model.specs.declared.options.Checks.{Checks}
use Rattle.plan_model.specs.declared.networks.Head.{Head}
use Rattle.plan_model.specs.declared.networks.Head.TheVariants.{Task, Action, Check}
use Rattle.plan_model.specs.declared.networks.Child.{Child}
use Rattle.plan_model.specs.declared.terms.Param.{Param}
use Rattle.plan_model.specs.declared.schemas.MethodSchema.{MethodSchema}
use Rattle.plan_model.specs.declared.schemas.MethodPlan.{MethodPlan}
use Rattle.plan_model.specs.declared.values.Hddl.{Hddl}
use Rattle.plan_model.specs.declared.values.Compiled.{Compiled}
use Rattle.plan_model.specs.Pairs.{Pairs}
use Rattle.plan_model.specs.task_networks.Net.{Net}
use Rattle.plan_model.specs.plan_meaning.Truth.{values_of, AreTyped}
use Rattle.plan_model.specs.plan_meaning.Network.{Work, action, check, task, GroundMethod, ground_work, child_of, Meets, InTypeOf, AreParamsOf, objects_of, IsDeclared, IsPrimitive, IsGroundMethod, network}
use Rattle.plan_model.specs.plan_meaning.Compilation.{children, AreMethodPlans}
use Rattle.plan_model.proofs.task_networks.Lists.{Contains-here, Contains-later}
use Rattle.plan_model.proofs.plan_meaning.MethodParts.{head_by, works_by, heir_by, IsPairBy, IsCopierBy}
use Rattle.plan_model.proofs.plan_meaning.Pairs.{map_to}
use Rattle.live_parts.specs.Live.{Parts, TypeOf}
use Rattle.live_parts.specs.Kept.{Kept, IsReached, below_top, below, IsNumberOf, AreKept, IsNumbered}
use Rattle.live_parts.specs.Pruned.{renamed_head, renamed_child, pruned}
use Rattle.renamed_networks.specs.Renamed.{AreSame, IsRenaming}
use Rattle.live_parts.specs.SameSchemas.{StandsFor, all_tasks, all_methods, SameWork, SameMethod}
use Rattle.live_parts.proofs.Places.{to_map}
use Rattle.live_parts.proofs.Asked.{child_is_subtask}
use Rattle.live_parts.proofs.PrunedPlaces.{rising_differ, differ_push, differ_later, not-zero_later, one_place, place_found, place_found_or_last, only_at, only_at_or_last}
use Rattle.live_parts.proofs.PrunedMethods.{old_children, new_children, pairs_same, params_same, constraints_same, args_same, heir_same, copiers_same, Twins, twins}

-- a reached subtask has a number in range
pub reached_in : (h : Hddl) (live : Parts) → IsNumbered h → (head : Head) → IsReached h live head → IsNumberOf h head
reached_in h live numbered head (below_top {child} k) = numbered.top child k
reached_in h live numbered head (below {child} {n} {s} e l r k) = (numbered.methods n s e).1 child k

module _ (c new : Compiled) (mode : Checks) (live : Parts) (kept : Kept) (numbered : IsNumbered c.hddl) (are : AreKept c.hddl live kept) (is_new : new.hddl ≡ pruned kept c.hddl)
    (old_plans : AreMethodPlans c.hddl mode (c.hddl.top ∷ c.hddl.methods) c.methods)
    (new_plans : AreMethodPlans (pruned kept c.hddl) mode ((pruned kept c.hddl).top ∷ (pruned kept c.hddl).methods) new.methods) where
  abbrev h : Hddl
  h = c.hddl

  abbrev M : Net
  M = network new

  abbrev N : Net
  N = network c

  abbrev W : Work → Work → Type 0
  W = SameWork h kept

  abbrev G : GroundMethod → GroundMethod → Type 0
  G = SameMethod h kept

  pub types_same : InTypeOf new ≡ InTypeOf c
  types_same = ap (λ (z : Hddl). TypeOf z) is_new

  pub tasks_in : (t : ℕ) → Contains kept.tasks t → t < length h.tasks
  tasks_in t k = reached_in h live numbered (Task t) ((are.tasks t).0 k)

  pub actions_in : (a : ℕ) → Contains kept.actions a → a < length h.actions
  actions_in a k = reached_in h live numbered (Action a) ((are.actions a).0 k)

  -- the same schema stands at the new number and at the old one
  pub action_same : (i a : ℕ) → StandsFor kept.actions i a → slice_get new.hddl.actions i ≡ slice_get h.actions a
  action_same i a e = ap (λ (z : Hddl). slice_get z.actions i) is_new ∙ only_at h.actions kept.actions actions_in i a e

  task_same : (i t : ℕ) → StandsFor (all_tasks h kept) i t → slice_get new.hddl.tasks i ≡ slice_get h.tasks t
  task_same i t e = ap (λ (z : Hddl). slice_get z.tasks i) is_new ∙ only_at_or_last h.tasks kept.tasks tasks_in i t e

  pub twin : (i n : ℕ) → StandsFor (all_methods h kept) i n → Twins c new mode live kept i n
  twin = twins c new mode live kept numbered are old_plans new_plans

  differ_tasks : AreDifferent (all_tasks h kept)
  differ_tasks = differ_push kept.tasks (length h.tasks) (rising_differ kept.tasks are.tasks_in_order) (λ k. let l = tasks_in (length h.tasks) k in omega arith)

  differ_methods : AreDifferent (all_methods h kept)
  differ_methods = (not-zero_later kept.methods, differ_later kept.methods (rising_differ kept.methods are.methods_in_order))

  differ_actions : AreDifferent kept.actions
  differ_actions = rising_differ kept.actions are.actions_in_order

  one : (ns : List ℕ) (i a b : ℕ) → StandsFor ns i a → StandsFor ns i b → a ≡ b
  one ns i a b e f = let x : Some a ≡ Some b = sym e ∙ f in cc

  one_work : (v w x : Work) → W v w → W v x → w ≡ x
  one_work (action i as') (action a os) (action b ps) s t = let x = one kept.actions i a b s.0 t.0 in let y : os ≡ ps = sym s.1 ∙ t.1 in cc
  one_work (check i as') (check a os) (check b ps) s t = let x = one (all_methods h kept) i a b s.0 t.0 in let y : os ≡ ps = sym s.1 ∙ t.1 in cc
  one_work (task i as') (task a os) (task b ps) s t = let x = one (all_tasks h kept) i a b s.0 t.0 in let y : os ≡ ps = sym s.1 ∙ t.1 in cc
  one_work (action i as') (action a os) (check b ps) s t = absurd t
  one_work (action i as') (action a os) (task b ps) s t = absurd t
  one_work (check i as') (check a os) (action b ps) s t = absurd t
  one_work (check i as') (check a os) (task b ps) s t = absurd t
  one_work (task i as') (task a os) (action b ps) s t = absurd t
  one_work (task i as') (task a os) (check b ps) s t = absurd t
  one_work (action i as') (check a os) x s t = absurd s
  one_work (action i as') (task a os) x s t = absurd s
  one_work (check i as') (action a os) x s t = absurd s
  one_work (check i as') (task a os) x s t = absurd s
  one_work (task i as') (action a os) x s t = absurd s
  one_work (task i as') (check a os) x s t = absurd s

  one_back : (v u w : Work) → W v w → W u w → v ≡ u
  one_back (action i as') (action j bs) (action a os) s t = let x = one_place kept.actions differ_actions i j a s.0 t.0 in let y : as' ≡ bs = s.1 ∙ sym t.1 in cc
  one_back (check i as') (check j bs) (check a os) s t = let x = one_place (all_methods h kept) differ_methods i j a s.0 t.0 in let y : as' ≡ bs = s.1 ∙ sym t.1 in cc
  one_back (task i as') (task j bs) (task a os) s t = let x = one_place (all_tasks h kept) differ_tasks i j a s.0 t.0 in let y : as' ≡ bs = s.1 ∙ sym t.1 in cc
  one_back (action i as') (check j bs) (action a os) s t = absurd t
  one_back (action i as') (task j bs) (action a os) s t = absurd t
  one_back (check i as') (action j bs) (check a os) s t = absurd t
  one_back (check i as') (task j bs) (check a os) s t = absurd t
  one_back (task i as') (action j bs) (task a os) s t = absurd t
  one_back (task i as') (check j bs) (task a os) s t = absurd t
  one_back (action i as') u (check a os) s t = absurd s
  one_back (action i as') u (task a os) s t = absurd s
  one_back (check i as') u (action a os) s t = absurd s
  one_back (check i as') u (task a os) s t = absurd s
  one_back (task i as') u (action a os) s t = absurd s
  one_back (task i as') u (check a os) s t = absurd s

  one_method : (g : GroundMethod) (m n : GroundMethod) → G g m → G g n → m ≡ n
  one_method g m n s t = (let x = one (all_methods h kept) g.number m.number n.number s.0 t.0 in let y : m.values ≡ n.values = sym s.1 ∙ t.1 in λ i. record { number = x i; values = y i })

  one_method_back : (g f : GroundMethod) (m : GroundMethod) → G g m → G f m → g ≡ f
  one_method_back g f m s t = (let x = one_place (all_methods h kept) differ_methods g.number f.number m.number s.0 t.0 in let y : g.values ≡ f.values = s.1 ∙ sym t.1 in λ i. record { number = x i; values = y i })

  simple : (v w : Work) → W v w → IsPrimitive v ↔ IsPrimitive w
  simple (action i as') (action a os) s = (λ x. x, λ x. x)
  simple (check i as') (check a os) s = (λ x. x, λ x. x)
  simple (task i as') (task a os) s = (λ x. x, λ x. x)
  simple (action i as') (check a os) s = absurd s
  simple (action i as') (task a os) s = absurd s
  simple (check i as') (action a os) s = absurd s
  simple (check i as') (task a os) s = absurd s
  simple (task i as') (action a os) s = absurd s
  simple (task i as') (check a os) s = absurd s

  -- the same parameters are declared for what is the same, and so it is declared in both or in none
  abbrev Params : Compiled → Work → List Param → Type 0
  Params = AreParamsOf

  params_to : (v w : Work) → W v w → (ps : List Param) → Params new v ps ↔ Params c w ps
  params_to (action i as') (action a os) s ps = (λ (x, e, f). (x, sym (action_same i a s.0) ∙ e, f), λ (x, e, f). (x, action_same i a s.0 ∙ e, f))
  params_to (check i as') (check a os) s ps = (let t = twin i a s.0 in let same = params_same h mode kept t.s t.p t.q t.old t.fresh in (
    λ (x, e, f). (t.p, t.at_old, (let y : t.q ≡ x = cc in sym same ∙ ap (λ (z : MethodPlan). z.schema.params) y ∙ f)),
    λ (x, e, f). (t.q, t.at_new, (let y : t.p ≡ x = cc in same ∙ ap (λ (z : MethodPlan). z.schema.params) y ∙ f)),
  ))
  params_to (task i as') (task a os) s ps = (λ (x, e, f). (x, sym (task_same i a s.0) ∙ e, f), λ (x, e, f). (x, task_same i a s.0 ∙ e, f))
  params_to (action i as') (check a os) s ps = absurd s
  params_to (action i as') (task a os) s ps = absurd s
  params_to (check i as') (action a os) s ps = absurd s
  params_to (check i as') (task a os) s ps = absurd s
  params_to (task i as') (action a os) s ps = absurd s
  params_to (task i as') (check a os) s ps = absurd s

  pub objects_same : (v w : Work) → W v w → objects_of new v ≡ objects_of c w
  objects_same (action i as') (action a os) s = s.1
  objects_same (check i as') (check a os) s = s.1
  objects_same (task i as') (task a os) s = s.1
  objects_same (action i as') (check a os) s = absurd s
  objects_same (action i as') (task a os) s = absurd s
  objects_same (check i as') (action a os) s = absurd s
  objects_same (check i as') (task a os) s = absurd s
  objects_same (task i as') (action a os) s = absurd s
  objects_same (task i as') (check a os) s = absurd s

  typed_same : (ps : List Param) (os : List ℕ) → AreTyped (InTypeOf new) ps os ≡ AreTyped (InTypeOf c) ps os
  typed_same ps os = ap (λ (z : ℕ → ℕ → Type 0). AreTyped z ps os) types_same

  declared_to : (v w : Work) → W v w → IsDeclared new v → IsDeclared c w
  declared_to v w s (ps, x, y) = (ps, (params_to v w s ps).0 x, subst (λ os. AreTyped (InTypeOf c) ps os) (objects_same v w s) (subst (λ (z : Type 0). z) (typed_same ps (objects_of new v)) y))

  declared_back : (v w : Work) → W v w → IsDeclared c w → IsDeclared new v
  declared_back v w s (ps, x, y) = (ps, (params_to v w s ps).1 x, subst (λ os. AreTyped (InTypeOf new) ps os) (sym (objects_same v w s)) (subst (λ (z : Type 0). z) (sym (typed_same ps (objects_of c w))) y))

  module _ (g m : GroundMethod) (same : G g m) where
    -- a kept subtask
    child_same : (child : Child) → (child.head ≡ Check) ⊎ IsReached h live child.head → W (child_of g (renamed_child kept child)) (child_of m child)
    child_same child r = go child.head r
      where
        values : values_of g.values child.args ≡ values_of m.values child.args
        values = ap (λ vs. values_of vs child.args) same.1

        go : (head : Head) → (head ≡ Check) ⊎ IsReached h live head → W (ground_work g (renamed_head kept head) (values_of g.values child.args)) (ground_work m head (values_of m.values child.args))
        go (Task t) (inl e) = absurd cc
        go (Task t) (inr r) = (place_found_or_last kept.tasks (length h.tasks) t (inl ((are.tasks t).1 r)), values)
        go (Action a) (inl e) = absurd cc
        go (Action a) (inr r) = (place_found kept.actions a ((are.actions a).1 r), values)
        go Check r = same

    children_same : (cs : List Child) → ((child : Child) → Contains cs child → (child.head ≡ Check) ⊎ IsReached h live child.head) → AreSame W (map (child_of g) (map (renamed_child kept) cs)) (map (child_of m) cs)
    children_same [] f = tt
    children_same (child ∷ cs) f = (child_same child (f child (Contains-here child cs)), children_same cs (λ x k. f x (Contains-later child cs x k)))

    t : Twins c new mode live kept g.number m.number
    t = twin g.number m.number same.0

    new_is : t.q.schema.children ≡ map (renamed_child kept) (children t.p.checked t.s)
    new_is = new_children h mode kept t.s t.p t.q t.old t.fresh

    old_is : t.p.schema.children ≡ children t.p.checked t.s
    old_is = old_children h mode kept t.s t.p t.q t.old t.fresh

    reached : (child : Child) → Contains (children t.p.checked t.s) child → (child.head ≡ Check) ⊎ IsReached h live child.head
    reached child k = elim (child_is_subtask t.p.checked t.s child k) [ inl e ↦ inl (ap (λ (z : Child). z.head) e) | inr d ↦ inr (t.heads child d) ]

    works_same : AreSame W (M.works g) (N.works m)
    works_same = subst (λ z. AreSame W z (N.works m)) (sym (ap (works_by g) t.at_new ∙ ap (map (child_of g)) new_is)) (subst (λ z. AreSame W (map (child_of g) (map (renamed_child kept) (children t.p.checked t.s))) z) (sym (ap (works_by m) t.at_old ∙ ap (map (child_of m)) old_is)) (children_same (children t.p.checked t.s) reached))

    task_number : StandsFor (all_tasks h kept) t.q.schema.task t.p.schema.task
    task_number = ap (slice_get (all_tasks h kept)) (ap (λ (z : MethodSchema). z.task) t.fresh.schema) ∙ place_found_or_last kept.tasks (length h.tasks) t.s.task (kind t.task) ∙ ap Some (sym (ap (λ (z : MethodSchema). z.task) t.old.schema))
      where
        kind : (t.s.task ≡ length h.tasks) ⊎ IsReached h live (Task t.s.task) → Contains kept.tasks t.s.task ⊎ ((t.s.task ≡ length h.tasks) × (Contains kept.tasks t.s.task → ⊥))
        kind (inl e) = inr (e, λ k. (let l = tasks_in t.s.task k in omega arith))
        kind (inr r) = inl ((are.tasks t.s.task).1 r)

    head_same : W (M.head g) (N.head m)
    head_same = subst (λ z. W z (N.head m)) (sym (ap (head_by g) t.at_new)) (subst (λ z. W (head_by g (Some t.q)) z) (sym (ap (head_by m) t.at_old))
        (task_number, (let a = same.1 in let b = args_same h mode kept t.s t.p t.q t.old t.fresh in λ i. values_of (a i) (b i))))

    pair_same : (i j : ℕ) → M.Pair g i j ↔ N.Pair m i j
    pair_same i j =
        let e = pairs_same h mode kept t.s t.p t.q t.old t.fresh in (
          λ x. subst (λ z. IsPairBy z i j) (sym t.at_old) (subst (λ z. Pairs z i j) e (subst (λ z. IsPairBy z i j) t.at_new x)),
          λ x. subst (λ z. IsPairBy z i j) (sym t.at_new) (subst (λ z. Pairs z i j) (sym e) (subst (λ z. IsPairBy z i j) t.at_old x)),
        )

    heirs_same : M.heir g ≡ N.heir m
    heirs_same = ap heir_by t.at_new ∙ heir_same h mode kept t.s t.p t.q t.old t.fresh ∙ sym (ap heir_by t.at_old)

    copier_same : (i : ℕ) → M.IsCopier g i ↔ N.IsCopier m i
    copier_same i =
        let e = copiers_same h mode kept t.s t.p t.q t.old t.fresh i in (
          λ x. subst (λ z. IsCopierBy z i) (sym t.at_old) (e.0 (subst (λ z. IsCopierBy z i) t.at_new x)),
          λ x. subst (λ z. IsCopierBy z i) (sym t.at_new) (e.1 (subst (λ z. IsCopierBy z i) t.at_old x)),
        )

    ground_to : IsGroundMethod new g → IsGroundMethod c m
    ground_to is =
        let e : is.plan ≡ t.q = (let a = is.is in let b = t.at_new in cc) in
        record {
          plan = t.p;
          is = t.at_old;
          typed = subst (λ vs. AreTyped (InTypeOf c) t.p.schema.params vs) same.1 (subst (λ (z : Type 0). z) (typed_same t.p.schema.params g.values)
              (subst (λ ps. AreTyped (InTypeOf new) ps g.values) (ap (λ (z : MethodPlan). z.schema.params) e ∙ params_same h mode kept t.s t.p t.q t.old t.fresh) is.typed));
          met = record {
            constraints = λ con k. subst (λ vs. Meets vs con) same.1 (is.met.constraints con (subst (λ z. Contains z con) (sym (ap (λ (z : MethodPlan). z.schema.constraints) e ∙ constraints_same h mode kept t.s t.p t.q t.old t.fresh)) k));
            declared = λ child k. (let d = subst (λ z. Contains z child) old_is k in
                declared_to (child_of g (renamed_child kept child)) (child_of m child) (child_same child (reached child d))
                (is.met.declared (renamed_child kept child) (subst (λ z. Contains z (renamed_child kept child)) (sym (ap (λ (z : MethodPlan). z.schema.children) e ∙ new_is)) (to_map (renamed_child kept) (children t.p.checked t.s) child d))));
          };
        }

    ground_back : IsGroundMethod c m → IsGroundMethod new g
    ground_back is =
        let e : is.plan ≡ t.p = (let a = is.is in let b = t.at_old in cc) in
        record {
          plan = t.q;
          is = t.at_new;
          typed = subst (λ vs. AreTyped (InTypeOf new) t.q.schema.params vs) (sym same.1) (subst (λ (z : Type 0). z) (sym (typed_same t.q.schema.params m.values))
              (subst (λ ps. AreTyped (InTypeOf c) ps m.values) (ap (λ (z : MethodPlan). z.schema.params) e ∙ sym (params_same h mode kept t.s t.p t.q t.old t.fresh)) is.typed));
          met = record {
            constraints = λ con k. subst (λ vs. Meets vs con) (sym same.1) (is.met.constraints con (subst (λ z. Contains z con) (constraints_same h mode kept t.s t.p t.q t.old t.fresh ∙ sym (ap (λ (z : MethodPlan). z.schema.constraints) e)) k));
            declared = λ child k. (let (x, d, f) = map_to (renamed_child kept) (children t.p.checked t.s) child (subst (λ z. Contains z child) new_is k) in
                subst (λ z. IsDeclared new (child_of g z)) f
                (declared_back (child_of g (renamed_child kept x)) (child_of m x) (child_same x (reached x d))
                (is.met.declared x (subst (λ z. Contains z x) (sym (ap (λ (z : MethodPlan). z.schema.children) e ∙ old_is)) d))));
          };
        }

  pub renaming : IsRenaming M N W G
  renaming = record {
    simple = simple;
    head = head_same;
    works = works_same;
    ground = λ g m s. (ground_to g m s, ground_back g m s);
    pair = pair_same;
    heir = heirs_same;
    copier = copier_same;
    one_work = one_work;
    one_work_back = one_back;
    one_method = one_method;
    one_method_back = one_method_back;
  }
