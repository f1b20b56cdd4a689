-- Two trees of one plan: their works are the same, but for the values of methods, and each method can have the values of the other.
use Rattle.std.proofs.Common.{ℕ, ◌≡◌, ◌∙◌, false, List, [], ◌∷◌, map, slice_get, Option, Some, None, option_map, refl, ap, sym, subst}
use Rattle.std.specs.Option.{option_map_or}
use Rattle.std.proofs.lemmas.Option.{slice_get-map}
use Rattle.plan_texts.specs.SoundProblem.{IsSoundProblem}
use Rattle.plan_model.specs.declared.options.Checks.{Checks}
use Rattle.plan_model.specs.declared.networks.Head.{Head}
use Rattle.plan_model.specs.declared.networks.Head.TheVariants.{Task, Action, Check}
use Rattle.plan_model.specs.declared.networks.Child.{Child}
use Rattle.plan_model.specs.declared.schemas.MethodPlan.{MethodPlan}
use Rattle.plan_model.specs.declared.values.Hddl.{Hddl}
use Rattle.plan_model.specs.declared.values.Compiled.{Compiled}
use Rattle.plan_model.specs.task_networks.Net.{Net}
use Rattle.plan_model.specs.task_networks.Tree.{Tree, open_leaf, done, split, Label, waits, ran, used, Address, label, label_at, work_of}
use Rattle.plan_model.specs.plan_meaning.Compilation.{IsCompiled}
use Rattle.plan_model.specs.plan_meaning.Network.{Work, action, check, task, GroundMethod, IsPrimitive, network, child_of, ground_work, IsGroundMethod, decomposed}
use Rattle.plan_model.specs.plan_meaning.Truth.{values_of}
use Rattle.plan_model.specs.plan_meaning.Solution.{top_work}
use Rattle.plan_model.proofs.task_networks.Parents.{parent_label, child_label}
use Rattle.tree_core.proofs.Gets.{at_place, get-map, mapped, same_gets}
use Rattle.schedules.specs.latest.PlanLines.{PlanLines}
use Rattle.schedules.specs.latest.Shown.{SaysTheSame, IsTreeFor}
use Rattle.schedules.specs.latest.ShownLaws.{AreToldAlike}
use Rattle.schedules.proofs.latest.GrownTrees.{tree_there, ground_at, simple_at, its_work}
use Rattle.schedules.proofs.latest.ShownTheorem.{alike_trees}
use Rattle.plan_encoder.specs.Calls.{Call, Decomposed, is_check, call, words, IsKnown}
use Rattle.plan_encoder.specs.ChosenValues.{with_values, rechecked, CanHave}
use Rattle.plan_encoder.proofs.CallsApart.{declared_is_known, same_action, same_task}
use Rattle.plan_encoder.proofs.CompiledMethods.{works_are, head_no_check}
use Rattle.plan_encoder.proofs.Telling.{number_told, words_tell}

module _ (c : Compiled) where
  abbrev N : Net
  N = network c

  -- the work of a node, by its label
  abbrev pub label_work : Label N → Work
  label_work (waits w) = w
  label_work (ran w) = w
  label_work (used g) = N.head g

  label_of_tree : (t : Tree N) → label_work (label N t) ≡ work_of N t
  label_of_tree (open_leaf w) = refl
  label_of_tree (done w) = refl
  label_of_tree (split g ts) = refl

  -- a method decomposes a task
  pub head_task : (g : GroundMethod) → (t : ℕ) × (v : List ℕ) × (N.head g ≡ task t v)
  head_task g = go (slice_get c.methods g.number)
    where
      go : (o : Option MethodPlan) → (t : ℕ) × (v : List ℕ) × (option_map_or (decomposed g) o (task 0 []) ≡ task t v)
      go None = (0, [], refl)
      go (Some p) = (p.schema.task, values_of g.values p.schema.task_args, refl)

  module _ (h : Hddl) (mode : Checks) (sound : IsSoundProblem h) (is : IsCompiled h mode c) where
    -- two works of one kind of which the same is said
    same_call : (w v : Work) → is_check v ≡ false → IsKnown c w → call c w ≡ call c v → (IsPrimitive w → IsPrimitive v)
        → (IsPrimitive v → IsPrimitive w) → w ≡ v
    same_call (check m old) v n k e to from = absurd k
    same_call (action a v) (check m old) n k e to from = absurd cc
    same_call (task t v) (check m old) n k e to from = absurd cc
    same_call (action a v) (task u w) n k e to from = absurd (to tt)
    same_call (task t v) (action d w) n k e to from = absurd (from tt)
    same_call (action a v) (action d w) n k e to from = same_action c h mode sound is a d v w k e
    same_call (task t v) (task u w) n k e to from = same_task c h mode sound is t u v w k e

    module _ (plan : PlanLines ℕ Call Decomposed) (tree other : Tree N) (node another : ℕ → Address)
        (t : IsTreeFor N (words c) (top_work c) plan tree node) (o : IsTreeFor N (words c) (top_work c) plan other another) where
      pub alike : AreToldAlike N (words c) (top_work c) plan tree other node another
      alike = alike_trees N (words c) (top_work c) (words_tell c h mode sound is) plan tree other node another t o

      -- a child that is no check is an action or a task of the problem
      pub child_known : (j : ℕ) (q : Address) (k : Label N) → label_at N tree (j ∷ q) ≡ Some k → is_check (label_work k) ≡ false
          → IsKnown c (label_work k)
      child_known j q k e n =
          let (g, up) = parent_label N tree j q (k, e) in
          let (u, there, lab) = tree_there N tree (j ∷ q) (k, e) in
          let ground = ground_at N tree t.grown q g up in
          let (child, at, same) = mapped (child_of g) ground.plan.schema.children j (work_of N u)
          (ap (λ z. slice_get z j) (sym (works_are c g ground.plan ground.is)) ∙ its_work N tree t.grown j q g up u there) in
          let k_is : label N u ≡ k = cc in
          let work : child_of g child ≡ label_work k = same ∙ sym (label_of_tree u) ∙ ap label_work k_is in
          subst (IsKnown c) work (declared_is_known c (child_of g child) (ap is_check work ∙ n) (ground.met.declared child (at_place ground.plan.schema.children j child at)))

      -- so the works of both trees are the same, but for checks
      pub same_work : (j : ℕ) (q : Address) (k l : Label N) → label_at N tree (j ∷ q) ≡ Some k → label_at N other (j ∷ q) ≡ Some l
          → is_check (label_work k) ≡ false → label_work k ≡ label_work l
      same_work j q k l e f n = go k l e f n (alike.said (j ∷ q) k l e f)
        where
          go : (k l : Label N) → label_at N tree (j ∷ q) ≡ Some k → label_at N other (j ∷ q) ≡ Some l → is_check (label_work k) ≡ false
              → SaysTheSame N (words c) k l → label_work k ≡ label_work l
          go (waits w) l e f n s = absurd s
          go (ran w) (waits v) e f n s = absurd s
          go (ran w) (used m) e f n s = absurd s
          go (used g) (waits v) e f n s = absurd s
          go (used g) (ran v) e f n s = absurd s
          go (ran w) (ran v) e f n s = same_call w v (sym s.0 ∙ n) (child_known j q (ran w) e n) (s.1 n)
              (λ x. simple_at N other o.grown (j ∷ q) v f) (λ x. simple_at N tree t.grown (j ∷ q) w e)
          go (used g) (used m) e f n s =
              let (a, v, x) = head_task g in
              let (b, w, y) = head_task m in
              let known = subst (IsKnown c) x (child_known j q (used g) e n) in
              let says : call c (task a v) ≡ call c (task b w) = ap (call c) (sym x) ∙ ap (λ (z : Decomposed). z.task) s ∙ ap (call c) y in
              x ∙ same_task c h mode sound is a b v w known says ∙ sym y

      root_head : (u : Tree N) → work_of N u ≡ top_work c → (g : GroundMethod) → label_at N u [] ≡ Some (used g) → N.head g ≡ top_work c
      root_head u r g e = sym (ap label_work (let f : label N u ≡ used g = cc in f)) ∙ label_of_tree u ∙ r

      -- methods at one node have one number, and each can have the other's values
      pub same_number : (q : Address) (g k : GroundMethod) → label_at N tree q ≡ Some (used g) → label_at N other q ≡ Some (used k)
          → k.number ≡ g.number
      same_number q g k e f = sym (number_told c h mode sound is g k (ground_at N tree t.grown q g e) (ground_at N other o.grown q k f) (alike.said q (used g) (used k) e f))

      pub can_have : (q : Address) (g k : GroundMethod) → label_at N tree q ≡ Some (used g) → label_at N other q ≡ Some (used k)
          → CanHave c g k.values
      can_have q g k e f = record { ground = subst (IsGroundMethod c) renumbered ground; head = ap N.head (sym renumbered) ∙ heads q e f; children = children }
        where
          renumbered : k ≡ with_values g k.values
          renumbered = λ i. record { number = (same_number q g k e f) i; values = k.values }

          ground : IsGroundMethod c k
          ground = ground_at N other o.grown q k f

          heads : (q : Address) → label_at N tree q ≡ Some (used g) → label_at N other q ≡ Some (used k) → N.head k ≡ N.head g
          heads [] e f = root_head other o.root k f ∙ sym (root_head tree t.root g e)
          heads (j ∷ r) e f = sym (same_work j r (used g) (used k) e f (head_no_check c g))

          plan_g : IsGroundMethod c g
          plan_g = ground_at N tree t.grown q g e

          -- one child
          child_same : (j : ℕ) (x : Child) → slice_get plan_g.plan.schema.children j ≡ Some x
              → child_of (with_values g k.values) x ≡ rechecked k.values (child_of g x)
          child_same j x at = go x.head refl
            where
              in_tree : slice_get (N.works g) j ≡ Some (child_of g x)
              in_tree = ap (λ z. slice_get z j) (works_are c g plan_g.plan plan_g.is) ∙ get-map (child_of g) plan_g.plan.schema.children j x at

              other_is : slice_get c.methods k.number ≡ Some plan_g.plan
              other_is = ap (slice_get c.methods) (same_number q g k e f) ∙ plan_g.is

              in_other : slice_get (N.works k) j ≡ Some (child_of k x)
              in_other = ap (λ z. slice_get z j) (works_are c k plan_g.plan other_is) ∙ get-map (child_of k) plan_g.plan.schema.children j x at

              stays : (w : Work) → is_check w ≡ false → rechecked k.values w ≡ w
              stays (action a v) n = refl
              stays (check m v) n = absurd cc
              stays (task u v) n = refl

              both : is_check (child_of g x) ≡ false → child_of k x ≡ child_of g x
              both n =
                  let (u, lab, work) = child_label N tree t.grown q g j (child_of g x) e in_tree in
                  let (u', lab', work') = child_label N other o.grown q k j (child_of k x) f in_other in
                  let here : label_work (label N u) ≡ child_of g x = label_of_tree u ∙ work in
                  let same = same_work j q (label N u) (label N u') lab lab' (ap is_check here ∙ n) in
                  sym (sym here ∙ same ∙ label_of_tree u' ∙ work')

              go : (head : Head) → x.head ≡ head → child_of (with_values g k.values) x ≡ rechecked k.values (child_of g x)
              go Check m = ap (λ z. ground_work (with_values g k.values) z (values_of k.values x.args)) m ∙ sym (ap (λ z. rechecked k.values (ground_work g z (values_of g.values x.args))) m)
              go (Task u) m = other_than (ap (λ z. is_check (ground_work g z (values_of g.values x.args))) m)
                where
                  other_than : is_check (child_of g x) ≡ false → child_of (with_values g k.values) x ≡ rechecked k.values (child_of g x)
                  other_than n = ap (λ z. child_of z x) (sym renumbered) ∙ both n ∙ sym (stays (child_of g x) n)
              go (Action u) m = other_than (ap (λ z. is_check (ground_work g z (values_of g.values x.args))) m)
                where
                  other_than : is_check (child_of g x) ≡ false → child_of (with_values g k.values) x ≡ rechecked k.values (child_of g x)
                  other_than n = ap (λ z. child_of z x) (sym renumbered) ∙ both n ∙ sym (stays (child_of g x) n)

          children : N.works (with_values g k.values) ≡ map (rechecked k.values) (N.works g)
          children =
              works_are c (with_values g k.values) plan_g.plan plan_g.is
              ∙ same_gets (map (child_of (with_values g k.values)) plan_g.plan.schema.children) (map (rechecked k.values) (map (child_of g) plan_g.plan.schema.children)) each
              ∙ ap (map (rechecked k.values)) (sym (works_are c g plan_g.plan plan_g.is))
            where
              each : (j : ℕ) → slice_get (map (child_of (with_values g k.values)) plan_g.plan.schema.children) j ≡ slice_get (map (rechecked k.values) (map (child_of g) plan_g.plan.schema.children)) j
              each j =
                  slice_get-map (child_of (with_values g k.values)) plan_g.plan.schema.children j
                  ∙ go (slice_get plan_g.plan.schema.children j) refl
                  ∙ sym (ap (option_map (rechecked k.values)) (slice_get-map (child_of g) plan_g.plan.schema.children j))
                  ∙ sym (slice_get-map (rechecked k.values) (map (child_of g) plan_g.plan.schema.children) j)
                where
                  go : (x : Option Child) → slice_get plan_g.plan.schema.children j ≡ x
                      → option_map (child_of (with_values g k.values)) x ≡ option_map (rechecked k.values) (option_map (child_of g) x)
                  go None e = refl
                  go (Some x) e = ap Some (child_same j x e)
