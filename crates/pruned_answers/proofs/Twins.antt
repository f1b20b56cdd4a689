-- Two compiled problems that are the same but for the numbers of names and types have one network, and the same lists spell their solutions.
use Rattle.std.proofs.Common.{ℕ, zero, suc, ◌≡◌, ◌↔◌, IsTrue, MatchOption, List, [], ◌∷◌, ◌++◌, map, length, codes, Option, Some, None, slice_get, refl, ap, sym, subst, ◌∙◌, Contains}
use Rattle.std.specs.Option.{option_map_or, option_and_then}
use Rattle.htn_base.specs.Escapes.{slot_word}
use Rattle.plan_texts.proofs.Members.{contains-has, has-contains, has-to_map, has-of_map}
use Rattle.plan_texts.specs.Types.{Has}
use Rattle.plan_texts.proofs.Unique.{map-map}
use Rattle.plan_model.specs.Pairs.{Pairs}
use Rattle.plan_model.specs.declared.terms.Term.{Term}
use Rattle.plan_model.specs.declared.terms.Param.{Param}
use Rattle.plan_model.specs.declared.terms.GroundAtom.{GroundAtom}
use Rattle.plan_model.specs.declared.types.Object.{Object}
use Rattle.plan_model.specs.declared.formulas.Formula.{Formula}
use Rattle.plan_model.specs.declared.effects.Effect.{Effect}
use Rattle.plan_model.specs.declared.networks.Head.{Head}
use Rattle.plan_model.specs.declared.networks.Child.{Child}
use Rattle.plan_model.specs.declared.schemas.TaskSchema.{TaskSchema}
use Rattle.plan_model.specs.declared.schemas.ActionSchema.{ActionSchema}
use Rattle.plan_model.specs.declared.schemas.MethodPlan.{MethodPlan}
use Rattle.plan_model.specs.declared.steps.GroundAction.{GroundAction}
use Rattle.plan_model.specs.declared.values.Compiled.{Compiled}
use Rattle.plan_model.specs.task_networks.Tree.{Tree, Label, waits, ran, used, Address}
use Rattle.plan_model.specs.task_networks.Spelling.{Act, run, apply}
use Rattle.plan_model.specs.plan_meaning.Truth.{State, AreTyped, IsTrueIn, after, values_of}
use Rattle.plan_model.specs.plan_meaning.Network.{Work, action, check, task, GroundMethod, IsPrimitive, ground_work, child_of, decomposed, subtasks_of, InTypeOf, objects_of, IsDeclared, IsMet, IsGroundMethod, network}
use Rattle.plan_model.specs.plan_meaning.Solution.{top_work, AllowsAction, AllowsCheck, AllowsMethod, Allows, after_action, next, initial, IsGoal, IsSolution}
use Rattle.plan_model.specs.plan_meaning.SpelledPlan.{printed, object_by, object_word, action_by, method_by, work_name, method_name, step_of, IsSpelling}
use Rattle.renamed_networks.specs.Renamed.{AreSame, IsRenaming, SameLabel, SameTree}
use Rattle.renamed_networks.proofs.RenamedTrees.{flip, same_flip}
use Rattle.renamed_networks.proofs.RenamedRuns.{SameAct, other_tree, spells_to, solution_with}
use Rattle.decode_answers.proofs.AlikeValues.{HoldTheSame, StandTogether, at_some}
use Rattle.decode_answers.proofs.AlikeReaders.{Equal, same_list}

-- a subtask without its id
abbrev pub call : Child → Head × List Term
call x = (x.head, x.args)

module _ (c d : Compiled) where
  -- the same objects are of the types of these parameters
  abbrev pub SameTyped : List Param → List Param → Type 0
  SameTyped ps qs = (os : List ℕ) → AreTyped (InTypeOf c) ps os ↔ AreTyped (InTypeOf d) qs os

  abbrev pub SameTruth : Formula → Formula → Type 1
  SameTruth f g = (S S' : State) → HoldTheSame S S' → (values : List ℕ) → IsTrueIn (InTypeOf c) S f values ↔ IsTrueIn (InTypeOf d) S' g values

  abbrev pub SameEffect : Effect → Effect → Type 1
  SameEffect e f = (S S' : State) → HoldTheSame S S' → (values : List ℕ) (g : GroundAtom) → after (InTypeOf c) S e values g ↔ after (InTypeOf d) S' f values g

  -- all but the precondition, the ids of subtasks and the guards
  pub record SamePlan (p q : MethodPlan) : Type 0 where
    pub word : printed c p.schema.name.number ≡ printed d q.schema.name.number
    pub typed : SameTyped p.schema.params q.schema.params
    pub task : p.schema.task ≡ q.schema.task
    pub task_args : p.schema.task_args ≡ q.schema.task_args
    pub calls : map call p.schema.children ≡ map call q.schema.children
    pub pairs : p.schema.pairs ≡ q.schema.pairs
    pub constraints : p.schema.constraints ≡ q.schema.constraints
    pub tested : p.tested ≡ q.tested
    pub heir : p.heir ≡ q.heir
    pub copiers : p.copiers ≡ q.copiers

  pub record SameAction (s u : ActionSchema) : Type 0 where
    pub word : printed c s.name.number ≡ printed d u.name.number
    pub typed : SameTyped s.params u.params

  abbrev pub SameTask : TaskSchema → TaskSchema → Type 0
  SameTask s u = SameTyped s.params u.params

  abbrev pub SameObject : Object → Object → Type 0
  SameObject x y = printed c x.name.number ≡ printed d y.name.number

  pub record AreTwins : Type 1 where
    pub plan : (m : ℕ) → StandTogether SamePlan (slice_get c.methods m) (slice_get d.methods m)
    pub pre : (m : ℕ) (p q : MethodPlan) → slice_get c.methods m ≡ Some p → slice_get d.methods m ≡ Some q → SameTruth p.schema.pre q.schema.pre
    pub action : (a : ℕ) → StandTogether SameAction (slice_get c.hddl.actions a) (slice_get d.hddl.actions a)
    pub condition : (a : ℕ) (s u : ActionSchema) → slice_get c.hddl.actions a ≡ Some s → slice_get d.hddl.actions a ≡ Some u → SameTruth s.pre u.pre
    pub effect : (a : ℕ) (s u : ActionSchema) → slice_get c.hddl.actions a ≡ Some s → slice_get d.hddl.actions a ≡ Some u → SameEffect s.eff u.eff
    pub task : (k : ℕ) → StandTogether SameTask (slice_get c.hddl.tasks k) (slice_get d.hddl.tasks k)
    pub object : (o : ℕ) → StandTogether SameObject (slice_get c.hddl.objects o) (slice_get d.hddl.objects o)
    pub tasks : length c.hddl.tasks ≡ length d.hddl.tasks
    pub init : c.hddl.init ≡ d.hddl.init
    pub goal : SameTruth c.hddl.goal d.hddl.goal

pub turned : {S S' : State} → HoldTheSame S S' → HoldTheSame S' S
turned h = record { same = λ g. (let x = h.same g in (x.1, x.0)) }

pub turn : {A B : Type 0} → A ↔ B → B ↔ A
turn x = (x.1, x.0)

stand_back : {X Y : Type 0} (R : X → Y → Type 0) (Q : Y → X → Type 0) → ((x : X) (y : Y) → R x y → Q y x) → (o : Option X) (u : Option Y) → StandTogether R o u → StandTogether Q u o
stand_back R Q f None None r = tt
stand_back R Q f (Some x) (Some y) r = f x y r
stand_back R Q f None (Some y) r = absurd r
stand_back R Q f (Some x) None r = absurd r

pub twins_back : (c d : Compiled) → AreTwins c d → AreTwins d c
twins_back c d t = record {
  plan = λ m. stand_back (SamePlan c d) (SamePlan d c) plan_back (slice_get c.methods m) (slice_get d.methods m) (t.plan m);
  pre = λ m q p e f S' S h values. turn (t.pre m p q f e S S' (turned h) values);
  action = λ a. stand_back (SameAction c d) (SameAction d c) (λ s u r. record { word = sym r.word; typed = λ os. turn (r.typed os) }) (slice_get c.hddl.actions a) (slice_get d.hddl.actions a) (t.action a);
  condition = λ a u s e f S' S h values. turn (t.condition a s u f e S S' (turned h) values);
  effect = λ a u s e f S' S h values g. turn (t.effect a s u f e S S' (turned h) values g);
  task = λ k. stand_back (SameTask c d) (SameTask d c) (λ s u r os. turn (r os)) (slice_get c.hddl.tasks k) (slice_get d.hddl.tasks k) (t.task k);
  object = λ o. stand_back (SameObject c d) (SameObject d c) (λ x y r. sym r) (slice_get c.hddl.objects o) (slice_get d.hddl.objects o) (t.object o);
  tasks = sym t.tasks;
  init = sym t.init;
  goal = λ S' S h values. turn (t.goal S S' (turned h) values);
}
  where
    plan_back : (p q : MethodPlan) → SamePlan c d p q → SamePlan d c q p
    plan_back p q r = record { word = sym r.word; typed = λ os. turn (r.typed os); task = sym r.task; task_args = sym r.task_args; calls = sym r.calls; pairs = sym r.pairs; constraints = sym r.constraints; tested = sym r.tested; heir = sym r.heir; copiers = sym r.copiers }

-- the same act over the other network
abbrev twin : (c d : Compiled) → Act (network c) → Act (network d)
twin c d (run h w) = run h w
twin c d (apply h new g) = apply h new g

module _ (c d : Compiled) (t : AreTwins c d) where
  head_same : (g : GroundMethod) → (network c).head g ≡ (network d).head g
  head_same g = go (slice_get c.methods g.number) (slice_get d.methods g.number) (t.plan g.number)
    where
      go : (o u : Option MethodPlan) → StandTogether (SamePlan c d) o u → option_map_or (decomposed g) o (task 0 []) ≡ option_map_or (decomposed g) u (task 0 [])
      go None None r = refl
      go (Some p) (Some q) r = let e = r.task in let f = r.task_args in λ i. task (e i) (values_of g.values (f i))
      go None (Some q) r = absurd r
      go (Some p) None r = absurd r

  abbrev called : GroundMethod → Head × List Term → Work
  called g z = ground_work g z.0 (values_of g.values z.1)

  works_same : (g : GroundMethod) → (network c).works g ≡ (network d).works g
  works_same g = go (slice_get c.methods g.number) (slice_get d.methods g.number) (t.plan g.number)
    where
      go : (o u : Option MethodPlan) → StandTogether (SamePlan c d) o u → option_map_or (subtasks_of g) o [] ≡ option_map_or (subtasks_of g) u []
      go None None r = refl
      go (Some p) (Some q) r = map-map call (called g) p.schema.children ∙ ap (map (called g)) r.calls ∙ sym (map-map call (called g) q.schema.children)
      go None (Some q) r = absurd r
      go (Some p) None r = absurd r

  pair_same : (g : GroundMethod) (i j : ℕ) → (network c).Pair g i j ≡ (network d).Pair g i j
  pair_same g i j = go (slice_get c.methods g.number) (slice_get d.methods g.number) (t.plan g.number)
    where
      go : (o u : Option MethodPlan) → StandTogether (SamePlan c d) o u → MatchOption o ⊥ (λ plan. Pairs plan.schema.pairs i j) ≡ MatchOption u ⊥ (λ plan. Pairs plan.schema.pairs i j)
      go None None r = refl
      go (Some p) (Some q) r = ap (λ z. Pairs z i j) r.pairs
      go None (Some q) r = absurd r
      go (Some p) None r = absurd r

  heir_same : (g : GroundMethod) → (network c).heir g ≡ (network d).heir g
  heir_same g = go (slice_get c.methods g.number) (slice_get d.methods g.number) (t.plan g.number)
    where
      go : (o u : Option MethodPlan) → StandTogether (SamePlan c d) o u → option_and_then (λ (plan : MethodPlan). plan.heir) o ≡ option_and_then (λ (plan : MethodPlan). plan.heir) u
      go None None r = refl
      go (Some p) (Some q) r = r.heir
      go None (Some q) r = absurd r
      go (Some p) None r = absurd r

  copier_same : (g : GroundMethod) (i : ℕ) → (network c).IsCopier g i ≡ (network d).IsCopier g i
  copier_same g i = go (slice_get c.methods g.number) (slice_get d.methods g.number) (t.plan g.number)
    where
      go : (o u : Option MethodPlan) → StandTogether (SamePlan c d) o u → MatchOption o ⊥ (λ (plan : MethodPlan). Contains plan.copiers i) ≡ MatchOption u ⊥ (λ (plan : MethodPlan). Contains plan.copiers i)
      go None None r = refl
      go (Some p) (Some q) r = ap (λ z. Contains z i) r.copiers
      go None (Some q) r = absurd r
      go (Some p) None r = absurd r

  typed_to : (ps params qs : List Param) (os : List ℕ) → ps ≡ params → SameTyped c d ps qs → AreTyped (InTypeOf c) params os → AreTyped (InTypeOf d) qs os
  typed_to ps params qs os e r x = (r os).0 (subst (λ z. AreTyped (InTypeOf c) z os) (sym e) x)

  declared_to : (w : Work) → IsDeclared c w → IsDeclared d w
  declared_to (action a args) (params, (s, is, e), x) =
      let (u, there, r) = at_some (SameAction c d) (slice_get c.hddl.actions a) (slice_get d.hddl.actions a) (t.action a) s is in
      (u.params, (u, there, refl), typed_to s.params params u.params args e r.typed x)
  declared_to (check m values) (params, (p, is, e), x) =
      let (q, there, r) = at_some (SamePlan c d) (slice_get c.methods m) (slice_get d.methods m) (t.plan m) p is in
      (q.schema.params, (q, there, refl), typed_to p.schema.params params q.schema.params values e r.typed x)
  declared_to (task k args) (params, (s, is, e), x) =
      let (u, there, r) = at_some (SameTask c d) (slice_get c.hddl.tasks k) (slice_get d.hddl.tasks k) (t.task k) s is in
      (u.params, (u, there, refl), typed_to s.params params u.params args e r x)

  -- what is asked of the children of the one plan is asked of those of the other
  met_to : (g : GroundMethod) (p q : MethodPlan) → SamePlan c d p q → IsMet c g p → IsMet d g q
  met_to g p q r m = record {
    constraints = λ con k. m.constraints con (subst (λ z. Contains z con) (sym r.constraints) k);
    declared = λ child k. (
        let (x, h, e) = has-of_map call p.schema.children (call child) (subst (λ z. Has z (call child)) (sym r.calls) (has-to_map call q.schema.children child (contains-has q.schema.children child k))) in
        subst (IsDeclared d) (ap (called g) e) (declared_to (child_of g x) (m.declared x (has-contains p.schema.children x h))));
  }

  ground_to : (g : GroundMethod) → IsGroundMethod c g → IsGroundMethod d g
  ground_to g x =
      let (q, is, r) = at_some (SamePlan c d) (slice_get c.methods g.number) (slice_get d.methods g.number) (t.plan g.number) x.plan x.is in
      record { plan = q; is = is; typed = (r.typed g.values).0 x.typed; met = met_to g x.plan q r x.met }

  -- words
  object_same : (o : ℕ) → object_word c o ≡ object_word d o
  object_same o = go (slice_get c.hddl.objects o) (slice_get d.hddl.objects o) (t.object o)
    where
      go : (x y : Option Object) → StandTogether (SameObject c d) x y → object_by c x ≡ object_by d y
      go None None r = refl
      go (Some x) (Some y) r = r
      go None (Some y) r = absurd r
      go (Some x) None r = absurd r

  method_word_same : (m : ℕ) → method_by c (slice_get c.methods m) ≡ method_by d (slice_get d.methods m)
  method_word_same m = go (slice_get c.methods m) (slice_get d.methods m) (t.plan m)
    where
      go : (o u : Option MethodPlan) → StandTogether (SamePlan c d) o u → method_by c o ≡ method_by d u
      go None None r = refl
      go (Some p) (Some q) r = r.word
      go None (Some q) r = absurd r
      go (Some p) None r = absurd r

  method_name_same : (m : ℕ) → method_name c m ≡ method_name d m
  method_name_same zero = refl
  method_name_same (suc m) = ap (λ z. codes "htn_m_" ++ z) (method_word_same (suc m))

  work_name_same : (w : Work) → work_name c w ≡ work_name d w
  work_name_same (action a args) = go (slice_get c.hddl.actions a) (slice_get d.hddl.actions a) (t.action a)
    where
      go : (o u : Option ActionSchema) → StandTogether (SameAction c d) o u → action_by c o ≡ action_by d u
      go None None r = refl
      go (Some s) (Some u) r = r.word
      go None (Some u) r = absurd r
      go (Some s) None r = absurd r
  work_name_same (check m values) = ap (λ z. codes "htn_c_" ++ z) (method_word_same m)
  work_name_same (task k args) = refl

  objects_same : (w : Work) → objects_of c w ≡ objects_of d w
  objects_same (action a args) = refl
  objects_same (check m values) = refl
  objects_same (task k args) = refl

  step_same : (a : Act (network c)) → step_of c a ≡ step_of d (twin c d a)
  step_same (run h w) = let n = work_name_same w in let os = objects_same w in λ i. record { name = n i; args = slot_word h ∷ map (λ o. object_same o i) (os i) }
  step_same (apply h new g) = let n = method_name_same g.number in λ i. record { name = n i; args = slot_word h ∷ (map slot_word new ++ map (λ o. object_same o i) g.values) }

  -- conditions and steps
  module _ (S S' : State) (h : HoldTheSame S S') where
    action_to : (a : ℕ) (args : List ℕ) (o u : Option ActionSchema) → slice_get c.hddl.actions a ≡ o → slice_get d.hddl.actions a ≡ u → StandTogether (SameAction c d) o u → AllowsAction c S o args → AllowsAction d S' u args
    action_to a args None None e f r x = x
    action_to a args (Some s) (Some u) e f r x = (t.condition a s u e f S S' h args).0 x
    action_to a args None (Some u) e f r x = absurd r
    action_to a args (Some s) None e f r x = absurd r

    check_to : (m : ℕ) (values : List ℕ) (o u : Option MethodPlan) → slice_get c.methods m ≡ o → slice_get d.methods m ≡ u → StandTogether (SamePlan c d) o u → AllowsCheck c S o values → AllowsCheck d S' u values
    check_to m values None None e f r x = x
    check_to m values (Some p) (Some q) e f r x = (t.pre m p q e f S S' h values).0 x
    check_to m values None (Some q) e f r x = absurd r
    check_to m values (Some p) None e f r x = absurd r

    method_to : (m : ℕ) (values : List ℕ) (o u : Option MethodPlan) → slice_get c.methods m ≡ o → slice_get d.methods m ≡ u → StandTogether (SamePlan c d) o u → AllowsMethod c S o values → AllowsMethod d S' u values
    method_to m values None None e f r x = x
    method_to m values (Some p) (Some q) e f r x = λ k. (t.pre m p q e f S S' h values).0 (x (subst IsTrue (sym r.tested) k))
    method_to m values None (Some q) e f r x = absurd r
    method_to m values (Some p) None e f r x = absurd r

    run_to : (w : Work) → Allows c S (ran w) → Allows d S' (ran w)
    run_to (action a args) x = action_to a args (slice_get c.hddl.actions a) (slice_get d.hddl.actions a) refl refl (t.action a) x
    run_to (check m values) x = check_to m values (slice_get c.methods m) (slice_get d.methods m) refl refl (t.plan m) x
    run_to (task k args) x = x

    allows_to : (k : Label (network c)) (l : Label (network d)) → SameLabel (network c) (network d) Equal Equal k l → Allows c S k → Allows d S' l
    allows_to (waits v) (waits w) s x = x
    allows_to (ran v) (ran w) s x = subst (λ z. Allows d S' (ran z)) s (run_to v x)
    allows_to (used g) (used m) s x = subst (λ z. Allows d S' (used z)) s (method_to g.number g.values (slice_get c.methods g.number) (slice_get d.methods g.number) refl refl (t.plan g.number) x)
    allows_to (waits v) (ran w) s x = absurd s
    allows_to (waits v) (used m) s x = absurd s
    allows_to (ran v) (waits w) s x = absurd s
    allows_to (ran v) (used m) s x = absurd s
    allows_to (used g) (waits w) s x = absurd s
    allows_to (used g) (ran w) s x = absurd s

    after_to : (a : ℕ) (args : List ℕ) (o u : Option ActionSchema) → slice_get c.hddl.actions a ≡ o → slice_get d.hddl.actions a ≡ u → StandTogether (SameAction c d) o u → HoldTheSame (after_action c S o args) (after_action d S' u args)
    after_to a args None None e f r = h
    after_to a args (Some s) (Some u) e f r = record { same = λ g. t.effect a s u e f S S' h args g }
    after_to a args None (Some u) e f r = absurd r
    after_to a args (Some s) None e f r = absurd r

    ran_to : (w : Work) → HoldTheSame (next c S (ran w)) (next d S' (ran w))
    ran_to (action a args) = after_to a args (slice_get c.hddl.actions a) (slice_get d.hddl.actions a) refl refl (t.action a)
    ran_to (check m values) = h
    ran_to (task k args) = h

    next_to : (k : Label (network c)) (l : Label (network d)) → SameLabel (network c) (network d) Equal Equal k l → HoldTheSame (next c S k) (next d S' l)
    next_to (waits v) (waits w) s = h
    next_to (ran v) (ran w) s = subst (λ z. HoldTheSame (next c S (ran v)) (next d S' (ran z))) s (ran_to v)
    next_to (used g) (used m) s = h
    next_to (waits v) (ran w) s = absurd s
    next_to (waits v) (used m) s = absurd s
    next_to (ran v) (waits w) s = absurd s
    next_to (ran v) (used m) s = absurd s
    next_to (used g) (waits w) s = absurd s
    next_to (used g) (ran w) s = absurd s

module _ (c d : Compiled) (t : AreTwins c d) where
  abbrev u : AreTwins d c
  u = twins_back c d t

  iff : {A B : Type 0} → A ≡ B → A ↔ B
  iff e = (λ x. subst (λ (z : Type 0). z) e x, λ x. subst (λ (z : Type 0). z) (sym e) x)

  renaming : IsRenaming (network c) (network d) Equal Equal
  renaming = record {
    simple = λ v w s. (λ x. subst IsPrimitive s x, λ x. subst IsPrimitive (sym s) x);
    head = λ g m s. head_same c d t g ∙ ap (network d).head s;
    works = λ g m s. same_list ((network c).works g) ((network d).works m) (works_same c d t g ∙ ap (network d).works s);
    ground = λ g m s. (λ x. subst (IsGroundMethod d) s (ground_to c d t g x), λ x. subst (IsGroundMethod c) (sym s) (ground_to d c u m x));
    pair = λ g m s i j. iff (pair_same c d t g i j ∙ ap (λ z. (network d).Pair z i j) s);
    heir = λ g m s. heir_same c d t g ∙ ap (network d).heir s;
    copier = λ g m s i. iff (copier_same c d t g i ∙ ap (λ z. (network d).IsCopier z i) s);
    one_work = λ v w x s r. sym s ∙ r;
    one_work_back = λ v x w s r. s ∙ sym r;
    one_method = λ g m n s r. sym s ∙ r;
    one_method_back = λ g f m s r. s ∙ sym r;
  }

  act_twin : (a : Act (network c)) (e : Act (network d)) → SameAct (network c) (network d) Equal Equal a e → twin c d a ≡ e
  act_twin (run h v) (run i w) s = λ z. run (s.0 z) (s.1 z)
  act_twin (apply h new g) (apply i slots m) s = λ z. apply (s.0 z) (s.1 z) (s.2 z)
  act_twin (run h v) (apply i slots m) s = absurd s
  act_twin (apply h new g) (run i w) s = absurd s

  steps_same : (acts : List (Act (network c))) (others : List (Act (network d))) → AreSame (SameAct (network c) (network d) Equal Equal) acts others → map (step_of c) acts ≡ map (step_of d) others
  steps_same [] [] s = refl
  steps_same (a ∷ acts) (e ∷ others) s = let f = step_same c d t a ∙ ap (step_of d) (act_twin a e s.0) in let g = steps_same acts others s.1 in λ i. f i ∷ g i
  steps_same [] (e ∷ others) s = absurd s
  steps_same (a ∷ acts) [] s = absurd s

  top_same : top_work c ≡ top_work d
  top_same = ap (λ n. task n []) t.tasks

  first_same : HoldTheSame (initial c) (initial d)
  first_same = record { same = λ g. (subst (λ z. Contains z g) t.init, subst (λ z. Contains z g) (sym t.init)) }

  partner : (k : Label (network c)) → (l : Label (network d)) × SameLabel (network d) (network c) (flip Equal) (flip Equal) l k
  partner (waits v) = (waits v, refl)
  partner (ran v) = (ran v, refl)
  partner (used g) = (used g, refl)

  another_tree : (x : Tree (network c)) → (y : Tree (network d)) × SameTree (network c) (network d) Equal Equal x y
  another_tree x = (let (y, s) = other_tree (network d) (network c) (flip Equal) (flip Equal) x (λ p k e. partner k) in (y, same_flip (network d) (network c) (flip Equal) (flip Equal) y x s))

  pub solution_to : (tree : Tree (network c)) (order : List Address) → IsSolution c tree order → (other : Tree (network d)) × SameTree (network c) (network d) Equal Equal tree other × IsSolution d other order
  solution_to tree order x =
      let (y, s) = another_tree tree in (
        y,
        s,
        solution_with (network c) (network d) Equal Equal State HoldTheSame (Allows c) (next c) (Allows d) (next d) (allows_to c d t) (next_to c d t)
            tree y s order (initial c) (initial d) first_same renaming (top_work c) (top_work d) top_same (IsGoal c) (IsGoal d) (λ S S' h g. (t.goal S S' h []).0 g) x,
      )

  pub spelled_to : (b : ℕ) (steps : List GroundAction) (tree : Tree (network c)) (order : List Address) (slot : Address → ℕ) → IsSpelling c b steps tree order slot → IsSolution c tree order
      → (other : Tree (network d)) × IsSpelling d b steps other order slot × IsSolution d other order
  spelled_to b steps tree order slot (acts, spelled, e) x =
      let (y, s, z) = solution_to tree order x in
      let (others, there, same) = spells_to (network c) (network d) Equal Equal renaming tree y s slot b (top_work c) (top_work d) top_same acts order spelled in
      (y, (others, there, e ∙ steps_same acts others same), z)
