-- The values of two texts are decoded alike, where steps are those of a stack.
use Rattle.std.proofs.Common.{ℕ, suc, ◌≡◌, ◌≤◌, ◌+◌, ◌++◌, inl, inr, IsTrue, List, [], ◌∷◌, map, filter, length, not, slice_get, Option, Some, None, MatchOption, refl, ap, sym, subst, ◌∙◌, Contains}
use Rattle.htn_base.specs.Escapes.{slot_word}
use Rattle.plan_model.specs.Pairs.{Pairs}
use Rattle.plan_model.specs.declared.terms.Param.{Param}
use Rattle.plan_model.specs.declared.schemas.MethodPlan.{MethodPlan}
use Rattle.plan_model.specs.declared.steps.GroundAction.{GroundAction}
use Rattle.plan_model.specs.declared.values.Compiled.{Compiled}
use Rattle.plan_model.specs.task_networks.Net.{count}
use Rattle.plan_model.specs.task_networks.Order.{IsLine}
use Rattle.plan_model.specs.task_networks.Tree.{Tree, Label, waits, ran, used, Address, label_at, IsOpen}
use Rattle.plan_model.specs.task_networks.Executable.{last_state}
use Rattle.plan_model.specs.task_networks.Spelling.{Act, run, apply, label_of, numbers, is_heir, others}
use Rattle.plan_model.specs.plan_meaning.Truth.{State, AreTyped}
use Rattle.plan_model.specs.plan_meaning.Network.{Work, action, check, task, GroundMethod, InTypeOf, network}
use Rattle.plan_model.specs.plan_meaning.Solution.{top_work, Allows, next, initial}
use Rattle.plan_model.specs.plan_meaning.SpelledPlan.{object_word, step_of}
use Rattle.slot_machine.specs.Reached.{HasLeaf}
use Rattle.stack_machine.specs.Stack.{AreCells, behind}
use Rattle.stack_encoding.specs.StackSpelling.{cells_of, stack_step, IsStackSpelling}
use Rattle.decoding.specs.declared.causes.Why.{Why}
use Rattle.decoding.specs.declared.causes.Why.TheVariants.{UnknownAction, Arguments, SlotHolds, Waiting, SlotTaken, Constraint, Precondition, Unfinished, GoalFalse}
use Rattle.decoding.specs.FailingAct.{slot_in, work_in, IsUnmet}
use Rattle.decoding.specs.PrintedSteps.{HasParams, own_objects, IsNamed}
use Rattle.renamed_networks.specs.Renamed.{AreSame, SameLabel, SameTree}
use Rattle.renamed_networks.proofs.RenamedTrees.{flip, same_flip, to_label, open_back}
use Rattle.renamed_networks.proofs.RenamedRuns.{SameAct, spells_to, executable_to}
use Rattle.stack_decoding.specs.StackSteps.{children_of, named_cells, HasCells, HasArguments, IsStepOf, HoldsAtTip, Sentence, SpellsExecutable, StepFails, EndSentence, EndFails, FailsAt}
use Rattle.decode_answers.proofs.AlikeFailures.{another_tree}
use Rattle.decode_answers.proofs.AlikeValues.{HoldTheSame, StandTogether, at_some, SamePlan, SameAction, AreTwins, twins_back, types, plan_place, action_place, action_types, plan_types, typed_to}
use Rattle.decode_answers.proofs.AlikeReaders.{Equal, twin, head_same, count_same, step_same, act_twin, renaming, reader, alike_readers}

module _ (c d : Compiled) (t : AreTwins c d) where
  -- names, objects and cells
  params_to : (a : Act (network c)) (params : List Param) → HasParams c a params → (others : List Param) × HasParams d (twin c d a) others × (types params ≡ types others)
  params_to (run h (action a args)) params (s, is, e) =
      let (u, there, r) = at_some (SameAction c d) (slice_get c.hddl.actions a) (slice_get d.hddl.actions a) (action_place c d t a) s is in
      (u.params, (u, there, refl), ap types (sym e) ∙ action_types c d t s u r)
  params_to (run h (check m values)) params (p, is, k, e) =
      let (q, there, r) = at_some (SamePlan c d) (slice_get c.methods m) (slice_get d.methods m) (plan_place c d t m) p is in
      (q.schema.params, (q, there, subst IsTrue r.0.checked k, refl), ap types (sym e) ∙ plan_types c d t p q r)
  params_to (run h (task k args)) params x = absurd x
  params_to (apply h new g) params (p, is, e) =
      let (q, there, r) = at_some (SamePlan c d) (slice_get c.methods g.number) (slice_get d.methods g.number) (plan_place c d t g.number) p is in
      (q.schema.params, (q, there, refl), ap types (sym e) ∙ plan_types c d t p q r)

  own_same : (a : Act (network c)) → own_objects c a ≡ own_objects d (twin c d a)
  own_same (run h (action a args)) = refl
  own_same (run h (check m values)) = refl
  own_same (run h (task k args)) = refl
  own_same (apply h new g) = refl

  name_same : (a : Act (network c)) → (step_of c a).name ≡ (step_of d (twin c d a)).name
  name_same a = ap (λ (z : GroundAction). z.name) (step_same c d t a)

  objects_same : (a : Act (network c)) → map (object_word c) (own_objects c a) ≡ map (object_word d) (own_objects d (twin c d a))
  objects_same (run h w) = let e = ap (λ (z : GroundAction). z.args) (step_same c d t (run h w)) in cc
  objects_same (apply h new g) = let e = ap (λ (z : GroundAction). z.args) (step_same c d t (apply h [] g)) in cc

  children_same : (a : Act (network c)) → children_of c a ≡ children_of d (twin c d a)
  children_same (run h w) = refl
  children_same (apply h new g) = count_same c d t g

  named_same : (a : Act (network c)) → named_cells c a ≡ named_cells d (twin c d a)
  named_same (run h w) = refl
  named_same (apply h new g) = ap (cells_of h) (count_same c d t g)

  others_same : (g : GroundMethod) → others (network c) g ≡ others (network d) g
  others_same g = let h = (renaming c d t).heir g g refl in let n = count_same c d t g in λ i. filter (λ j. not (is_heir (h i) j)) (numbers 0 (n i))

  pair_same : (g : GroundMethod) (i j : ℕ) → (network c).Pair g i j ≡ (network d).Pair g i j
  pair_same g i j = go (slice_get c.methods g.number) (slice_get d.methods g.number) (plan_place c d t g.number)
    where
      go : (o u : Option MethodPlan) → StandTogether (SamePlan c d) o u → MatchOption o ⊥ (λ plan. Pairs plan.schema.pairs i j) ≡ MatchOption u ⊥ (λ plan. Pairs plan.schema.pairs i j)
      go None None r = refl
      go (Some p) (Some q) r = ap (λ z. Pairs z.4.2 i j) r.0.schema
      go None (Some q) r = absurd r
      go (Some p) None r = absurd r

  cells_to : (a : Act (network c)) → HasCells c a → HasCells d (twin c d a)
  cells_to (run h w) x = tt
  cells_to (apply h new g) x = subst (λ (z : Type 0). z) (λ k. (line : List ℕ) → IsLine (λ i j. pair_same g i j k) (count_same c d t g k) line → new ≡ map (λ i. h + behind line i) (others_same g k)) x

  stack_step_name : (e : Compiled) (a : Act (network e)) → (stack_step e a).name ≡ (step_of e a).name
  stack_step_name e (run h w) = refl
  stack_step_name e (apply h new g) = refl

  stack_step_same : (a : Act (network c)) → stack_step c a ≡ stack_step d (twin c d a)
  stack_step_same (run h w) = let n = name_same (run h w) in let os = objects_same (run h w) in λ i. record { name = n i; args = map slot_word (cells_of h 0) ++ os i }
  stack_step_same (apply h new g) = let n = name_same (apply h new g) in let os = objects_same (apply h new g) in let k = count_same c d t g in λ i. record { name = n i; args = map slot_word (cells_of h (k i)) ++ os i }

  -- steps
  named_to : (step : GroundAction) → IsNamed c step → IsNamed d step
  named_to step x = ((alike_readers c d t).named step).0 x

  arguments_to : (b : ℕ) (step : GroundAction) → HasArguments c b step → HasArguments d b step
  arguments_to b step x =
      let (params, has, same) = params_to x.act x.params x.has in
      record {
        act = twin c d x.act;
        params = params;
        has = has;
        typed = subst (AreTyped (InTypeOf d) params) (own_same x.act) (typed_to c d t x.params params (own_objects c x.act) same x.typed);
        cells = x.cells;
        many = x.many ∙ ap length (named_same x.act);
        within = x.within;
        name = x.name ∙ name_same x.act;
        args = x.args ∙ ap (λ os. map slot_word x.cells ++ os) (objects_same x.act);
      }

  slot_same : (a : Act (network c)) → slot_in (network c) a ≡ slot_in (network d) (twin c d a)
  slot_same (run h w) = refl
  slot_same (apply h new g) = refl

  work_same : (a : Act (network c)) → work_in (network c) a ≡ work_in (network d) (twin c d a)
  work_same (run h w) = refl
  work_same (apply h new g) = head_same c d t g

  step_to : (b : ℕ) (step : GroundAction) (a : Act (network c)) → IsStepOf c b step a → IsStepOf d b step (twin c d a)
  step_to b step a x =
      let (params, has, same) = params_to a x.params x.has in
      record {
        params = params;
        has = has;
        typed = subst (AreTyped (InTypeOf d) params) (own_same a) (typed_to c d t x.params params (own_objects c a) same x.typed);
        own = subst (λ h. 1 ≤ h) (slot_same a) x.own;
        within = λ y k. x.within y (subst (λ z. Contains z y) (sym (named_same a)) k);
        cells = cells_to a x.cells;
        is = x.is ∙ stack_step_same a;
      }

  unmet_to : (a : Act (network c)) → IsUnmet (network c) a → IsUnmet (network d) (twin c d a)
  unmet_to (run h w) x = x
  unmet_to (apply h new g) x = λ y. x (((renaming c d t).ground g g refl).1 y)

  label_same : (a : Act (network c)) → SameLabel (network c) (network d) Equal Equal (label_of (network c) a) (label_of (network d) (twin c d a))
  label_same (run h w) = refl
  label_same (apply h new g) = refl

  -- fronts
  module _ (tree : Tree (network c)) (other : Tree (network d)) (s : SameTree (network c) (network d) Equal Equal tree other) (cell : Address → ℕ) where
    leaf_to : (x : ℕ) (w : Work) → HasLeaf (network c) tree cell x w → HasLeaf (network d) other cell x w
    leaf_to x w (p, e, f) = (let k = to_label (network c) (network d) Equal Equal tree other s p (waits w) e in go k.0 k.1 k.2)
      where
        go : (l : Label (network d)) → label_at (network d) other p ≡ Some l → SameLabel (network c) (network d) Equal Equal (waits w) l → HasLeaf (network d) other cell x w
        go (waits y) g z = (p, g ∙ ap (λ q. Some (waits q)) (sym z), f)
        go (ran y) g z = absurd z
        go (used m) g z = absurd z

    back_open : (p : Address) → IsOpen (network d) other p → IsOpen (network c) tree p
    back_open = open_back (network c) (network d) Equal Equal (renaming c d t) tree other s

    tip_to : (b h : ℕ) (w : Work) → HoldsAtTip c b tree cell h w → HoldsAtTip d b other cell h w
    tip_to b h w x = record { holds = leaf_to h w x.holds; highest = λ p o. x.highest p (back_open p o) }

    leaf_back : (x : ℕ) (w : Work) → HasLeaf (network d) other cell x w → HasLeaf (network c) tree cell x w
    leaf_back x w (p, e, f) = (let k = to_label (network d) (network c) (flip Equal) (flip Equal) other tree (same_flip (network c) (network d) Equal Equal tree other s) p (waits w) e in go k.0 k.1 k.2)
      where
        go : (l : Label (network c)) → label_at (network c) tree p ≡ Some l → SameLabel (network d) (network c) (flip Equal) (flip Equal) (waits w) l → HasLeaf (network c) tree cell x w
        go (waits y) g z = (p, g ∙ ap (λ q. Some (waits q)) z, f)
        go (ran y) g z = absurd z
        go (used m) g z = absurd z

    open_to : (p : Address) → IsOpen (network c) tree p → IsOpen (network d) other p
    open_to p (w, e) = (let k = to_label (network c) (network d) Equal Equal tree other s p (waits w) e in go k.0 k.1 k.2)
      where
        go : (l : Label (network d)) → label_at (network d) other p ≡ Some l → SameLabel (network c) (network d) Equal Equal (waits w) l → IsOpen (network d) other p
        go (waits y) g z = (y, g)
        go (ran y) g z = absurd z
        go (used m) g z = absurd z

    tip_back : (b h : ℕ) (w : Work) → HoldsAtTip d b other cell h w → HoldsAtTip c b tree cell h w
    tip_back b h w x = record { holds = leaf_back h w x.holds; highest = λ p o. x.highest p (open_to p o) }

    used_back : (p : Address) (g : GroundMethod) → label_at (network d) other p ≡ Some (used g) → label_at (network c) tree p ≡ Some (used g)
    used_back p g e = (let k = to_label (network d) (network c) (flip Equal) (flip Equal) other tree (same_flip (network c) (network d) Equal Equal tree other s) p (used g) e in go k.0 k.1 k.2)
      where
        go : (l : Label (network c)) → label_at (network c) tree p ≡ Some l → SameLabel (network d) (network c) (flip Equal) (flip Equal) (used g) l → label_at (network c) tree p ≡ Some (used g)
        go (waits v) f x = absurd x
        go (ran v) f x = absurd x
        go (used m) f x = f ∙ ap (λ z. Some (used z)) x

    are_cells_to : AreCells (network c) tree cell → AreCells (network d) other cell
    are_cells_to x = record {
      root = x.root;
      children = λ p m i line e l r. (
          let line_is : IsLine ((network c).Pair m) (count (network c) m) line = subst (λ (z : Type 0). z) (λ k. IsLine (λ i j. sym (pair_same m i j) k) (sym (count_same c d t m) k) line) l in
          x.children p m i line (used_back p m e) line_is (subst (λ n. suc i ≤ n) (sym (count_same c d t m)) r));
    }

  steps_same : (acts : List (Act (network c))) (other : List (Act (network d))) → AreSame (SameAct (network c) (network d) Equal Equal) acts other → map (stack_step c) acts ≡ map (stack_step d) other
  steps_same [] [] s = refl
  steps_same (a ∷ acts) (e ∷ other) s = let f = stack_step_same a ∙ ap (stack_step d) (act_twin c d t a e s.0) in let g = steps_same acts other s.1 in λ i. f i ∷ g i
  steps_same [] (e ∷ other) s = absurd s
  steps_same (a ∷ acts) [] s = absurd s

  pub other_tree : (tree : Tree (network c)) → (other : Tree (network d)) × SameTree (network c) (network d) Equal Equal tree other
  other_tree tree = another_tree State GroundAction (reader c) (reader d) Equal Equal HoldTheSame (alike_readers c d t) tree

  -- the steps spell the other front
  pub spelled_to : (b : ℕ) (steps : List GroundAction) (tree : Tree (network c)) (other : Tree (network d)) → SameTree (network c) (network d) Equal Equal tree other → (order : List Address) (cell : Address → ℕ)
      → IsStackSpelling c b steps tree order cell → IsStackSpelling d b steps other order cell
  spelled_to b steps tree other s order cell (acts, sp, e) =
      let (acts', there, y) = spells_to (network c) (network d) Equal Equal (renaming c d t) tree other s cell b (top_work c) (top_work d) (alike_readers c d t).top acts order sp.spells in
      (acts', record { spells = there; cells = are_cells_to tree other s cell sp.cells }, e ∙ steps_same acts acts' y)

  abbrev behind_c : List (Label (network c)) → State
  behind_c = last_state (network c) State (Allows c) (next c) (initial c)

  abbrev behind_d : List (Label (network d)) → State
  behind_d = last_state (network d) State (Allows d) (next d) (initial d)

  reached_to : (b : ℕ) (steps : List GroundAction) (tree : Tree (network c)) (other : Tree (network d)) → SameTree (network c) (network d) Equal Equal tree other → (order : List Address) (cell : Address → ℕ)
      → (r : SpellsExecutable c b steps tree order cell) → (there : SpellsExecutable d b steps other order cell) × HoldTheSame (behind_c r.executable.labels) (behind_d there.executable.labels)
  reached_to b steps tree other s order cell r =
      let alike = alike_readers c d t in
      let (along, l) = executable_to (network c) (network d) Equal Equal State HoldTheSame (Allows c) (next c) (Allows d) (next d) (λ S S' h k l z. (alike.allows S S' h k l z).0) alike.next tree other s order (initial c) (initial d) alike.first r.executable in
      (record { spelled = spelled_to b steps tree other s order cell r.spelled; executable = along }, l)

turned : (S S' : State) → HoldTheSame S S' → HoldTheSame S' S
turned S S' h = record { same = λ g. let x = h.same g in (x.1, x.0) }

module _ (c d : Compiled) (t : AreTwins c d) (b : ℕ) (tree : Tree (network c)) (other : Tree (network d)) (cell : Address → ℕ) (back : (h : ℕ) (w : Work) → HoldsAtTip d b other cell h w → HoldsAtTip c b tree cell h w)
    (S S' : State) (h : HoldTheSame S S') (step : GroundAction) where
  abbrev back_twins : AreTwins d c
  back_twins = twins_back c d t

  sentence_to : (why : Why) → Sentence c b tree cell S step why → Sentence d b other cell S' step why
  sentence_to UnknownAction x = λ n. x (named_to d c back_twins step n)
  sentence_to Arguments x = λ n. x (arguments_to d c back_twins b step n)
  sentence_to SlotHolds x = λ e q y. x (twin d c e) (step_to d c back_twins b step e q)
      (subst (λ z. HoldsAtTip c b tree cell z (work_in (network c) (twin d c e))) (slot_same d c back_twins e)
      (subst (HoldsAtTip c b tree cell (slot_in (network d) e)) (work_same d c back_twins e) (back (slot_in (network d) e) (work_in (network d) e) y)))
  sentence_to Waiting x = x
  sentence_to SlotTaken x = x
  sentence_to Constraint (a, q, u) = (twin c d a, step_to c d t b step a q, unmet_to c d t a u)
  sentence_to Precondition (a, q, n) = (twin c d a, step_to c d t b step a q, λ y. n (((alike_readers c d t).allows S S' h (label_of (network c) a) (label_of (network d) (twin c d a)) (label_same c d t a)).1 y))
  sentence_to Unfinished x = x
  sentence_to GoalFalse x = x

module _ (c d : Compiled) (t : AreTwins c d) (b : ℕ) (steps : List GroundAction) (n : ℕ) (why : Why) where
  step_fails_to : StepFails c b steps n why → StepFails d b steps n why
  step_fails_to f =
      let (u, s) = other_tree c d t f.tree in
      let (there, l) = reached_to c d t b f.before f.tree u s f.order f.cell f.reached in
      record {
        before = f.before;
        step = f.step;
        rest = f.rest;
        parts = f.parts;
        place = f.place;
        tree = u;
        order = f.order;
        cell = f.cell;
        reached = there;
        fails = record {
          says = sentence_to c d t b f.tree u f.cell (tip_back c d t f.tree u s f.cell b) _ _ l f.step why f.fails.says;
          first = λ o less y. f.fails.first o less (sentence_to d c (twins_back c d t) b u f.tree f.cell (tip_to c d t f.tree u s f.cell b) _ _ (turned _ _ l) f.step o y);
        };
      }

  end_fails_to : EndFails c b steps n why → EndFails d b steps n why
  end_fails_to f = (
      let (u, s) = other_tree c d t f.tree in
      let (there, l) = reached_to c d t b steps f.tree u s f.order f.cell f.reached in
      record { place = f.place; tree = u; order = f.order; cell = f.cell; reached = there; fails = go u s _ _ l why f.fails })
    where
      go : (u : Tree (network d)) → SameTree (network c) (network d) Equal Equal f.tree u → (S S' : State) → HoldTheSame S S' → (o : Why) → EndSentence c b f.tree S o → EndSentence d b u S' o
      go u s S S' h Unfinished (p, o) = (p, open_to c d t f.tree u s f.cell p o)
      go u s S S' h GoalFalse (closed, unreached) = (λ p o. closed p (back_open c d t f.tree u s f.cell p o), λ g. unreached (((alike_readers c d t).goal S S' h).1 g))
      go u s S S' h UnknownAction y = y
      go u s S S' h Arguments y = y
      go u s S S' h SlotHolds y = y
      go u s S S' h Waiting y = y
      go u s S S' h SlotTaken y = y
      go u s S S' h Constraint y = y
      go u s S S' h Precondition y = y

  pub fails_to : FailsAt c b steps n why → FailsAt d b steps n why
  fails_to (inl f) = inl (step_fails_to f)
  fails_to (inr f) = inr (end_fails_to f)
