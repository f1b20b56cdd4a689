-- Two compiled values of the same texts have one network but for names, and steps are read and executed alike over both.
use Rattle.std.proofs.Common.{ℕ, zero, suc, ◌≡◌, ◌↔◌, IsTrue, MatchOption, List, [], ◌∷◌, ◌++◌, map, filter, length, not, codes, Option, Some, None, slice_get, refl, ap, sym, subst, ◌∙◌, Contains}
use Rattle.std.specs.Option.{option_map_or, option_and_then}
use Rattle.htn_base.specs.Escapes.{escaped, slot_word}
use Rattle.plan_texts.specs.SpellsHddl.{hddl_words}
use Rattle.plan_texts.specs.Alike.{child_said, task_said}
use Rattle.plan_texts.proofs.Members.{contains-has, has-contains, has-to_map, has-of_map}
use Rattle.plan_texts.specs.Types.{Has}
use Rattle.plan_texts.proofs.Together.{maps-length}
use Rattle.plan_texts.proofs.Unique.{map-map}
use Rattle.plan_model.specs.Pairs.{Pairs}
use Rattle.plan_model.specs.declared.terms.Param.{Param}
use Rattle.plan_model.specs.declared.types.Object.{Object}
use Rattle.plan_model.specs.declared.schemas.ActionSchema.{ActionSchema}
use Rattle.plan_model.specs.declared.schemas.MethodPlan.{MethodPlan}
use Rattle.plan_model.specs.declared.steps.GroundAction.{GroundAction}
use Rattle.plan_model.specs.declared.values.Compiled.{Compiled}
use Rattle.plan_model.specs.task_networks.Net.{count}
use Rattle.plan_model.specs.task_networks.Tree.{Label, waits, ran, used}
use Rattle.plan_model.specs.task_networks.Spelling.{Act, run, apply, numbers, is_heir, others}
use Rattle.plan_model.specs.plan_meaning.Truth.{State, AreTyped, values_of}
use Rattle.plan_model.specs.plan_meaning.Network.{Work, action, check, task, GroundMethod, IsPrimitive, ground_work, child_of, decomposed, subtasks_of, InTypeOf, objects_of, IsDeclared, IsMet, IsGroundMethod, network}
use Rattle.plan_model.specs.plan_meaning.Solution.{top_work, AllowsAction, AllowsCheck, AllowsMethod, Allows, after_action, next, initial, IsGoal}
use Rattle.plan_model.specs.plan_meaning.SpelledPlan.{object_by, object_word, action_by, method_by, work_name, method_name, step_of}
use Rattle.decoding.specs.FailingAct.{IsFormed}
use Rattle.decoding.specs.PrintedSteps.{HasParams, own_objects, IsNamed, IsReadAs}
use Rattle.renamed_networks.specs.Renamed.{AreSame, IsRenaming, SameLabel}
use Rattle.renamed_networks.proofs.RenamedRuns.{SameAct}
use Rattle.decode_answers.proofs.AlikeFailures.{Reader, AreAlike}
use Rattle.decode_answers.proofs.AlikeValues.{HoldTheSame, truth_same, after_same, StandTogether, at_some, SamePlan, SameAction, SameTask, SameObject, AreTwins, twins_back, types, plan_place, action_place, task_place, object_place, action_types, task_types, plan_types, typed_to}

abbrev pub Equal : {A : Type 0} → A → A → Type 0
Equal x y = x ≡ y

pub same_list : {A : Type 0} (xs ys : List A) → xs ≡ ys → AreSame Equal xs ys
same_list [] [] e = tt
same_list [] (y ∷ ys) e = absurd cc
same_list (x ∷ xs) [] e = absurd cc
same_list (x ∷ xs) (y ∷ ys) e = (cc, same_list xs ys cc)

-- the same act over the other network
abbrev pub twin : (c d : Compiled) → Act (network c) → Act (network d)
twin c d (run h w) = run h w
twin c d (apply h new g) = apply h new g

module _ (c d : Compiled) (t : AreTwins c d) where
  pub head_same : (g : GroundMethod) → (network c).head g ≡ (network d).head g
  head_same g = go (slice_get c.methods g.number) (slice_get d.methods g.number) (plan_place c d t g.number)
    where
      go : (o u : Option MethodPlan) → StandTogether (SamePlan c d) o u → option_map_or (decomposed g) o (task 0 []) ≡ option_map_or (decomposed g) u (task 0 [])
      go None None r = refl
      go (Some p) (Some q) r = let e = r.0.schema in λ i. task (e i).1 (values_of g.values (e i).2)
      go None (Some q) r = absurd r
      go (Some p) None r = absurd r

  pub works_same : (g : GroundMethod) → (network c).works g ≡ (network d).works g
  works_same g = go (slice_get c.methods g.number) (slice_get d.methods g.number) (plan_place c d t g.number)
    where
      go : (o u : Option MethodPlan) → StandTogether (SamePlan c d) o u → option_map_or (subtasks_of g) o [] ≡ option_map_or (subtasks_of g) u []
      go None None r = refl
      go (Some p) (Some q) r =
          map-map (child_said (hddl_words c.hddl)) (λ z. ground_work g z.1 (values_of g.values z.2)) p.schema.children
          ∙ ap (λ z. map (λ y. ground_work g y.1 (values_of g.values y.2)) z.4.1) r.0.schema
          ∙ sym (map-map (child_said (hddl_words d.hddl)) (λ z. ground_work g z.1 (values_of g.values z.2)) q.schema.children)
      go None (Some q) r = absurd r
      go (Some p) None r = absurd r

  pub count_same : (g : GroundMethod) → count (network c) g ≡ count (network d) g
  count_same g = ap length (works_same g)

  pair_same : (g : GroundMethod) (i j : ℕ) → (network c).Pair g i j ≡ (network d).Pair g i j
  pair_same g i j = go (slice_get c.methods g.number) (slice_get d.methods g.number) (plan_place c d t g.number)
    where
      go : (o u : Option MethodPlan) → StandTogether (SamePlan c d) o u → MatchOption o ⊥ (λ plan. Pairs plan.schema.pairs i j) ≡ MatchOption u ⊥ (λ plan. Pairs plan.schema.pairs i j)
      go None None r = refl
      go (Some p) (Some q) r = ap (λ z. Pairs z.4.2 i j) r.0.schema
      go None (Some q) r = absurd r
      go (Some p) None r = absurd r

  heir_same : (g : GroundMethod) → (network c).heir g ≡ (network d).heir g
  heir_same g = go (slice_get c.methods g.number) (slice_get d.methods g.number) (plan_place c d t g.number)
    where
      go : (o u : Option MethodPlan) → StandTogether (SamePlan c d) o u → option_and_then (λ (plan : MethodPlan). plan.heir) o ≡ option_and_then (λ (plan : MethodPlan). plan.heir) u
      go None None r = refl
      go (Some p) (Some q) r = r.0.heir
      go None (Some q) r = absurd r
      go (Some p) None r = absurd r

  copier_same : (g : GroundMethod) (i : ℕ) → (network c).IsCopier g i ≡ (network d).IsCopier g i
  copier_same g i = go (slice_get c.methods g.number) (slice_get d.methods g.number) (plan_place c d t g.number)
    where
      go : (o u : Option MethodPlan) → StandTogether (SamePlan c d) o u → MatchOption o ⊥ (λ (plan : MethodPlan). Contains plan.copiers i) ≡ MatchOption u ⊥ (λ (plan : MethodPlan). Contains plan.copiers i)
      go None None r = refl
      go (Some p) (Some q) r = ap (λ z. Contains z i) r.0.copiers
      go None (Some q) r = absurd r
      go (Some p) None r = absurd r

  declared_to : (w : Work) → IsDeclared c w → IsDeclared d w
  declared_to (action a args) (params, (s, is, e), x) =
      let (u, there, r) = at_some (SameAction c d) (slice_get c.hddl.actions a) (slice_get d.hddl.actions a) (action_place c d t a) s is in
      (u.params, (u, there, refl), typed_to c d t params u.params args (ap types (sym e) ∙ action_types c d t s u r) x)
  declared_to (check m values) (params, (p, is, e), x) =
      let (q, there, r) = at_some (SamePlan c d) (slice_get c.methods m) (slice_get d.methods m) (plan_place c d t m) p is in
      (q.schema.params, (q, there, refl), typed_to c d t params q.schema.params values (ap types (sym e) ∙ plan_types c d t p q r) x)
  declared_to (task k args) (params, (s, is, e), x) =
      let (u, there, r) = at_some (SameTask c d) (slice_get c.hddl.tasks k) (slice_get d.hddl.tasks k) (task_place c d t k) s is in
      (u.params, (u, there, refl), typed_to c d t params u.params args (ap types (sym e) ∙ task_types c d t s u r) x)

  -- what is asked of the children of the one plan is asked of those of the other
  met_to : (g : GroundMethod) (p q : MethodPlan) → SamePlan c d p q → IsMet c g p → IsMet d g q
  met_to g p q r m = record {
    constraints = λ con k. m.constraints con (subst (λ z. Contains z con) (sym (ap (λ z. z.4.3) r.0.schema)) k);
    declared = λ child k. (
        let (x, h, e) = has-of_map (child_said (hddl_words c.hddl)) p.schema.children (child_said (hddl_words d.hddl) child)
        (subst (λ z. Has z (child_said (hddl_words d.hddl) child)) (sym (ap (λ z. z.4.1) r.0.schema))
        (has-to_map (child_said (hddl_words d.hddl)) q.schema.children child (contains-has q.schema.children child k))) in
        subst (IsDeclared d) (ap (λ z. ground_work g z.1 (values_of g.values z.2)) e) (declared_to (child_of g x) (m.declared x (has-contains p.schema.children x h))));
  }

  pub ground_to : (g : GroundMethod) → IsGroundMethod c g → IsGroundMethod d g
  ground_to g x =
      let (q, is, r) = at_some (SamePlan c d) (slice_get c.methods g.number) (slice_get d.methods g.number) (plan_place c d t g.number) x.plan x.is in
      record { plan = q; is = is; typed = typed_to c d t x.plan.schema.params q.schema.params g.values (plan_types c d t x.plan q r) x.typed; met = met_to g x.plan q r x.met }

  -- words
  object_same : (o : ℕ) → object_word c o ≡ object_word d o
  object_same o = go (slice_get c.hddl.objects o) (slice_get d.hddl.objects o) (object_place c d t o)
    where
      go : (x y : Option Object) → StandTogether (SameObject c d) x y → object_by c x ≡ object_by d y
      go None None r = refl
      go (Some x) (Some y) r = ap (λ z. escaped z.0) r
      go None (Some y) r = absurd r
      go (Some x) None r = absurd r

  method_word_same : (m : ℕ) → method_by c (slice_get c.methods m) ≡ method_by d (slice_get d.methods m)
  method_word_same m = go (slice_get c.methods m) (slice_get d.methods m) (plan_place c d t m)
    where
      go : (o u : Option MethodPlan) → StandTogether (SamePlan c d) o u → method_by c o ≡ method_by d u
      go None None r = refl
      go (Some p) (Some q) r = ap (λ z. escaped z.0) r.0.schema
      go None (Some q) r = absurd r
      go (Some p) None r = absurd r

  method_name_same : (m : ℕ) → method_name c m ≡ method_name d m
  method_name_same zero = refl
  method_name_same (suc m) = ap (λ z. codes "htn_m_" ++ z) (method_word_same (suc m))

  work_name_same : (w : Work) → work_name c w ≡ work_name d w
  work_name_same (action a args) = go (slice_get c.hddl.actions a) (slice_get d.hddl.actions a) (action_place c d t a)
    where
      go : (o u : Option ActionSchema) → StandTogether (SameAction c d) o u → action_by c o ≡ action_by d u
      go None None r = refl
      go (Some s) (Some u) r = ap (λ z. escaped z.0) r.0
      go None (Some u) r = absurd r
      go (Some s) None r = absurd r
  work_name_same (check m values) = ap (λ z. codes "htn_c_" ++ z) (method_word_same m)
  work_name_same (task k args) = refl

  pub objects_same : (w : Work) → objects_of c w ≡ objects_of d w
  objects_same (action a args) = refl
  objects_same (check m values) = refl
  objects_same (task k args) = refl

  pub step_same : (a : Act (network c)) → step_of c a ≡ step_of d (twin c d a)
  step_same (run h w) = let n = work_name_same w in let os = objects_same w in λ i. record { name = n i; args = slot_word h ∷ map (λ o. object_same o i) (os i) }
  step_same (apply h new g) = let n = method_name_same g.number in λ i. record { name = n i; args = slot_word h ∷ (map slot_word new ++ map (λ o. object_same o i) g.values) }

  -- parameters of the same types, and the same number of them
  params_to : (a : Act (network c)) (params : List Param) → HasParams c a params → (others : List Param) × HasParams d (twin c d a) others × (types params ≡ types others)
  params_to (run h (action a args)) params (s, is, e) =
      let (u, there, r) = at_some (SameAction c d) (slice_get c.hddl.actions a) (slice_get d.hddl.actions a) (action_place c d t a) s is in
      (u.params, (u, there, refl), ap types (sym e) ∙ action_types c d t s u r)
  params_to (run h (check m values)) params (p, is, k, e) =
      let (q, there, r) = at_some (SamePlan c d) (slice_get c.methods m) (slice_get d.methods m) (plan_place c d t m) p is in
      (q.schema.params, (q, there, subst IsTrue r.0.checked k, refl), ap types (sym e) ∙ plan_types c d t p q r)
  params_to (run h (task k args)) params x = absurd x
  params_to (apply h new g) params (p, is, e) =
      let (q, there, r) = at_some (SamePlan c d) (slice_get c.methods g.number) (slice_get d.methods g.number) (plan_place c d t g.number) p is in
      (q.schema.params, (q, there, refl), ap types (sym e) ∙ plan_types c d t p q r)

  named_to : (step : GroundAction) → IsNamed c step → IsNamed d step
  named_to step (a, params, has, e) =
      let (others, there, f) = params_to a params has in (twin c d a, others, there, e ∙ ap (λ (z : GroundAction). z.name) (step_same a))

  others_same : (g : GroundMethod) → others (network c) g ≡ others (network d) g
  others_same g = let h = heir_same g in let n = ap length (works_same g) in λ i. filter (λ j. not (is_heir (h i) j)) (numbers 0 (n i))

  formed_to : (b : ℕ) (a : Act (network c)) → IsFormed (network c) b a → IsFormed (network d) b (twin c d a)
  formed_to b (run h w) f = record { slot = f.slot; new = f.new; form = f.form }
  formed_to b (apply h new g) f = record { slot = f.slot; new = f.new; form = f.form ∙ ap length (others_same g) }

  own_same : (a : Act (network c)) → own_objects c a ≡ own_objects d (twin c d a)
  own_same (run h w) = objects_same w
  own_same (apply h new g) = refl

  read_to : (b : ℕ) (step : GroundAction) (a : Act (network c)) → IsReadAs c b step a → IsReadAs d b step (twin c d a)
  read_to b step a r =
      let (others, there, f) = params_to a r.params r.has in
      record {
        formed = formed_to b a r.formed;
        params = others;
        has = there;
        typed = subst (AreTyped (InTypeOf d) others) (own_same a) (typed_to c d t r.params others (own_objects c a) f r.typed);
        is = r.is ∙ step_same a;
      }

  -- conditions and steps
  module _ (S S' : State) (h : HoldTheSame S S') where
    action_to : (args : List ℕ) (o u : Option ActionSchema) → StandTogether (SameAction c d) o u → AllowsAction c S o args → AllowsAction d S' u args
    action_to args None None r x = x
    action_to args (Some s) (Some u) r x =
        (truth_same c.hddl d.hddl t.same t.sound t.sound_other t.apart S S' h.same s.pre u.pre _ _ (ap (λ z. z.2) r.0) r.1.pre r.2.pre args).0 x
    action_to args None (Some u) r x = absurd r
    action_to args (Some s) None r x = absurd r

    check_to : (values : List ℕ) (o u : Option MethodPlan) → StandTogether (SamePlan c d) o u → AllowsCheck c S o values → AllowsCheck d S' u values
    check_to values None None r x = x
    check_to values (Some p) (Some q) r x =
        (truth_same c.hddl d.hddl t.same t.sound t.sound_other t.apart S S' h.same p.schema.pre q.schema.pre r.1.0.scope r.1.1.scope (ap (λ z. z.3) r.0.schema) r.1.0.pre r.1.1.pre values).0 x
    check_to values None (Some q) r x = absurd r
    check_to values (Some p) None r x = absurd r

    method_to : (values : List ℕ) (o u : Option MethodPlan) → StandTogether (SamePlan c d) o u → AllowsMethod c S o values → AllowsMethod d S' u values
    method_to values None None r x = x
    method_to values (Some p) (Some q) r x = λ k.
        (truth_same c.hddl d.hddl t.same t.sound t.sound_other t.apart S S' h.same p.schema.pre q.schema.pre r.1.0.scope r.1.1.scope (ap (λ z. z.3) r.0.schema) r.1.0.pre r.1.1.pre values).0
        (x (subst IsTrue (sym r.0.tested) k))
    method_to values None (Some q) r x = absurd r
    method_to values (Some p) None r x = absurd r

    run_to : (w : Work) → Allows c S (ran w) → Allows d S' (ran w)
    run_to (action a args) x = action_to args (slice_get c.hddl.actions a) (slice_get d.hddl.actions a) (action_place c d t a) x
    run_to (check m values) x = check_to values (slice_get c.methods m) (slice_get d.methods m) (plan_place c d t m) x
    run_to (task k args) x = x

    allows_to : (k : Label (network c)) (l : Label (network d)) → SameLabel (network c) (network d) Equal Equal k l → Allows c S k → Allows d S' l
    allows_to (waits v) (waits w) s x = x
    allows_to (ran v) (ran w) s x = subst (λ z. Allows d S' (ran z)) s (run_to v x)
    allows_to (used g) (used m) s x = subst (λ z. Allows d S' (used z)) s (method_to g.values (slice_get c.methods g.number) (slice_get d.methods g.number) (plan_place c d t g.number) x)
    allows_to (waits v) (ran w) s x = absurd s
    allows_to (waits v) (used m) s x = absurd s
    allows_to (ran v) (waits w) s x = absurd s
    allows_to (ran v) (used m) s x = absurd s
    allows_to (used g) (waits w) s x = absurd s
    allows_to (used g) (ran w) s x = absurd s

    after_to : (args : List ℕ) (o u : Option ActionSchema) → StandTogether (SameAction c d) o u → HoldTheSame (after_action c S o args) (after_action d S' u args)
    after_to args None None r = h
    after_to args (Some s) (Some u) r = record { same = λ g. after_same c.hddl d.hddl t.same t.sound t.sound_other t.apart S S' h.same s.eff u.eff _ _ (ap (λ z. z.3) r.0) r.1.eff r.2.eff args g }
    after_to args None (Some u) r = absurd r
    after_to args (Some s) None r = absurd r

    ran_to : (w : Work) → HoldTheSame (next c S (ran w)) (next d S' (ran w))
    ran_to (action a args) = after_to args (slice_get c.hddl.actions a) (slice_get d.hddl.actions a) (action_place c d t a)
    ran_to (check m values) = h
    ran_to (task k args) = h

    next_to : (k : Label (network c)) (l : Label (network d)) → SameLabel (network c) (network d) Equal Equal k l → HoldTheSame (next c S k) (next d S' l)
    next_to (waits v) (waits w) s = h
    next_to (ran v) (ran w) s = subst (λ z. HoldTheSame (next c S (ran v)) (next d S' (ran z))) s (ran_to v)
    next_to (used g) (used m) s = h
    next_to (waits v) (ran w) s = absurd s
    next_to (waits v) (used m) s = absurd s
    next_to (ran v) (waits w) s = absurd s
    next_to (ran v) (used m) s = absurd s
    next_to (used g) (waits w) s = absurd s
    next_to (used g) (ran w) s = absurd s

    goal_to : IsGoal c S → IsGoal d S'
    goal_to x = (truth_same c.hddl d.hddl t.same t.sound t.sound_other t.apart S S' h.same c.hddl.goal d.hddl.goal [] [] t.same.alike.goal t.sound.goal t.sound_other.goal []).0 x

-- the reader of a compiled value
abbrev pub reader : Compiled → Reader State GroundAction
reader c = record { net = network c; Allows = Allows c; next = next c; Named = IsNamed c; Reads = IsReadAs c; top = top_work c; first = initial c; Goal = IsGoal c }

pub label_back : (c d : Compiled) (k : Label (network c)) (l : Label (network d)) → SameLabel (network c) (network d) Equal Equal k l → SameLabel (network d) (network c) Equal Equal l k
label_back c d (waits v) (waits w) s = sym s
label_back c d (ran v) (ran w) s = sym s
label_back c d (used g) (used m) s = sym s
label_back c d (waits v) (ran w) s = absurd s
label_back c d (waits v) (used m) s = absurd s
label_back c d (ran v) (waits w) s = absurd s
label_back c d (ran v) (used m) s = absurd s
label_back c d (used g) (waits w) s = absurd s
label_back c d (used g) (ran w) s = absurd s

module _ (c d : Compiled) (t : AreTwins c d) where
  abbrev u : AreTwins d c
  u = twins_back c d t

  iff : {A B : Type 0} → A ≡ B → A ↔ B
  iff e = (λ x. subst (λ (z : Type 0). z) e x, λ x. subst (λ (z : Type 0). z) (sym e) x)

  pub renaming : IsRenaming (network c) (network d) Equal Equal
  renaming = record {
    simple = λ v w s. (λ x. subst IsPrimitive s x, λ x. subst IsPrimitive (sym s) x);
    head = λ g m s. head_same c d t g ∙ ap (network d).head s;
    works = λ g m s. same_list ((network c).works g) ((network d).works m) (works_same c d t g ∙ ap (network d).works s);
    ground = λ g m s. (λ x. subst (IsGroundMethod d) s (ground_to c d t g x), λ x. subst (IsGroundMethod c) (sym s) (ground_to d c u m x));
    pair = λ g m s i j. iff (pair_same c d t g i j ∙ ap (λ z. (network d).Pair z i j) s);
    heir = λ g m s. heir_same c d t g ∙ ap (network d).heir s;
    copier = λ g m s i. iff (copier_same c d t g i ∙ ap (λ z. (network d).IsCopier z i) s);
    one_work = λ v w x s r. sym s ∙ r;
    one_work_back = λ v x w s r. s ∙ sym r;
    one_method = λ g m n s r. sym s ∙ r;
    one_method_back = λ g f m s r. s ∙ sym r;
  }

  pub act_twin : (a : Act (network c)) (e : Act (network d)) → SameAct (network c) (network d) Equal Equal a e → twin c d a ≡ e
  act_twin (run h v) (run i w) s = λ z. run (s.0 z) (s.1 z)
  act_twin (apply h new g) (apply i slots m) s = λ z. apply (s.0 z) (s.1 z) (s.2 z)
  act_twin (run h v) (apply i slots m) s = absurd s
  act_twin (apply h new g) (run i w) s = absurd s

  twin_twin : (a : Act (network c)) → twin d c (twin c d a) ≡ a
  twin_twin (run h w) = refl
  twin_twin (apply h new g) = refl

  pub alike_readers : AreAlike State GroundAction (reader c) (reader d) Equal Equal HoldTheSame
  alike_readers = record {
    renaming = renaming;
    work = λ v. (v, refl);
    method = λ g. (g, refl);
    work_back = λ w. (w, refl);
    method_back = λ m. (m, refl);
    allows = λ S S' h k l s. (allows_to c d t S S' h k l s, allows_to d c u S' S (turned S S' h) l k (label_back c d k l s));
    next = λ S S' h k l s. next_to c d t S S' h k l s;
    named = λ s. (named_to c d t s, named_to d c u s);
    reads = λ b s a e x. (
        let f = act_twin a e x in
        (λ r. subst (IsReadAs d b s) f (read_to c d t b s a r), λ r. subst (IsReadAs c b s) (twin_twin a) (read_to d c u b s (twin c d a) (subst (IsReadAs d b s) (sym f) r))));
    top = ap (λ n. task n []) (maps-length (task_said (hddl_words c.hddl)) (task_said (hddl_words d.hddl)) c.hddl.tasks d.hddl.tasks t.same.alike.tasks);
    first = record { same = λ g. (subst (λ z. Contains z g) t.same.alike.init, subst (λ z. Contains z g) (sym t.same.alike.init)) };
    goal = λ S S' h. (goal_to c d t S S' h, goal_to d c u S' S (turned S S' h));
  }
    where
      turned : (S S' : State) → HoldTheSame S S' → HoldTheSame S' S
      turned S S' h = record { same = λ g. let x = h.same g in (x.1, x.0) }
