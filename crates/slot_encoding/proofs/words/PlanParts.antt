-- The parts of a compiled method of a sound problem: sound, with slots for its children, and guards of declared types.
use Rattle.std.proofs.Common.{ℕ, zero, suc, ◌≡◌, ◌≢◌, ◌+◌, ◌-◌, ◌<◌, ◌≤◌, ◌⊎◌, inl, inr, Bool, true, false, cond, List, [], ◌∷◌, ◌++◌, map, length, slice_get, Option, Some, refl, ap, sym, subst, ◌∙◌, Contains, arith}
use Rattle.std.proofs.lemmas.Bool.Decides.{eqb_tells}
use Rattle.std.proofs.lemmas.List.{length-append}
use Rattle.std.proofs.Math.Decide.{ℕ_discrete}
use Rattle.plan_model.specs.declared.options.Checks.{Checks}
use Rattle.plan_model.specs.declared.terms.Term.{Term}
use Rattle.plan_model.specs.declared.terms.Term.TheVariants.{Var}
use Rattle.plan_model.specs.declared.terms.Param.{Param}
use Rattle.plan_model.specs.declared.networks.Head.{Head}
use Rattle.plan_model.specs.declared.networks.Head.TheVariants.{Task, Action, Check}
use Rattle.plan_model.specs.declared.networks.Child.{Child}
use Rattle.plan_model.specs.declared.networks.Guard.{Guard}
use Rattle.plan_model.specs.declared.schemas.TaskSchema.{TaskSchema}
use Rattle.plan_model.specs.declared.schemas.ActionSchema.{ActionSchema}
use Rattle.plan_model.specs.declared.schemas.MethodSchema.{MethodSchema}
use Rattle.plan_model.specs.declared.schemas.MethodPlan.{MethodPlan}
use Rattle.plan_model.specs.declared.values.Compiled.{Compiled}
use Rattle.plan_model.specs.task_networks.Order.{IsLine}
use Rattle.plan_model.specs.task_networks.Spelling.{numbers}
use Rattle.plan_model.proofs.task_networks.Lists.{not-in_empty, last_cases}
use Rattle.plan_model.proofs.task_networks.Numbers.{length-numbers, numbers_to}
use Rattle.plan_texts.specs.Declared.{Declared, kinds, variable}
use Rattle.htn_base.specs.Different.{AreDifferent}
use Rattle.plan_texts.specs.Types.{Has, EachIs}
use Rattle.plan_texts.specs.SpellsHddl.{hddl_words}
use Rattle.plan_texts.specs.Printable.{IsInForce, IsSoundParam, AreSoundParams, IsSound}
use Rattle.plan_texts.specs.SoundValue.{IsSoundHddl, IsSoundMethod, IsSoundHead, IsSoundChild, IsSoundConstraint, arities, scope_of}
use Rattle.plan_texts.proofs.Members.{each-has, contains-has, has-contains, length-map}
use Rattle.plan_texts.proofs.Places.{each-join}
use Rattle.slot_encoding.proofs.places.Places.{each-at-some, each-from_has}
use Rattle.plan_model.specs.plan_meaning.Compilation.{children, pairs, last_of, params_of_task, params_of_action, params_of, placed, all_placed, IsGuard, same_guard, IsMethodPlan, AreMethodPlans, IsCompiled}
use Rattle.plan_model.specs.Pairs.{Pairs}
use Rattle.slot_encoding.specs.EncodedActions.{slot_vars}
use Rattle.plan_model.proofs.plan_meaning.Pairs.{once_to}
use Rattle.slot_encoding.proofs.places.KeptItems.{keeps_to}
use Rattle.slot_encoding.proofs.words.Lists.{each-map}
use Rattle.slot_encoding.proofs.words.Scopes.{last-different}

-- slot variables are below m
below_past : (k i new n m : ℕ) → k < i → new + n ≤ m → EachIs (λ x. x < m) (slot_vars (Some k) i new n)
below_past k i new zero m l r = tt
below_past k i new (suc n) m l r = elim (eqb_tells k i) [
  | inl h ↦ absurd (let e = h.1 in omega arith)
  | inr h ↦ subst (λ t. EachIs (λ x. x < m) (cond t (0 ∷ slot_vars (Some k) (suc i) new n) (new ∷ slot_vars (Some k) (suc i) (suc new) n))) (sym h.0) (omega arith, below_past k (suc i) (suc new) n m (omega arith) (omega arith))
]

below_heir : (k i new n m : ℕ) → i ≤ k → k < i + n → new + n ≤ suc m → 0 < m → EachIs (λ x. x < m) (slot_vars (Some k) i new n)
below_heir k i new zero m l f r p = tt
below_heir k i new (suc n) m l f r p = elim (eqb_tells k i) [
  | inl h ↦ subst (λ t. EachIs (λ x. x < m) (cond t (0 ∷ slot_vars (Some k) (suc i) new n) (new ∷ slot_vars (Some k) (suc i) (suc new) n))) (sym h.0) (let e = h.1 in (p, below_past k (suc i) new n m (omega arith) (omega arith)))
  | inr h ↦ (let g = over h.1 in subst (λ t. EachIs (λ x. x < m) (cond t (0 ∷ slot_vars (Some k) (suc i) new n) (new ∷ slot_vars (Some k) (suc i) (suc new) n))) (sym h.0) (omega arith, below_heir k (suc i) (suc new) n m (omega arith) (omega arith) (omega arith) p))
]
  where
    over : (k ≢ i) → suc i ≤ k
    over d = elim (ℕ_discrete k i) [ yes e ↦ absurd (d e) | no e ↦ (let f : (k ≡ i) → ⊥ = e in omega (arith, f)) ]

at_end : (ys : List ℕ) (y : ℕ) → slice_get (ys ++ y ∷ []) (length ys) ≡ Some y
at_end [] y = refl
at_end (x ∷ ys) y = at_end ys y

last_is : (ys : List ℕ) (y : ℕ) → last_of (ys ++ y ∷ []) ≡ Some y
last_is ys y =
    let k : length (ys ++ y ∷ []) - 1 ≡ length ys = omega (arith, length-append ys (y ∷ [])) in
    ap (slice_get (ys ++ y ∷ [])) k ∙ at_end ys y

-- a line of children ends with one
ends : (Pair : ℕ → ℕ → Type 0) (n : ℕ) (line : List ℕ) → IsLine Pair n line → 0 < n → (k : ℕ) × (last_of line ≡ Some k) × (k < n)
ends Pair n line is l = elim (last_cases line) [
  | inl e ↦ absurd (not-in_empty 0 (subst (λ z. Contains z 0) e (is.whole 0 l)))
  | inr (ys, y, e) ↦ (y, ap last_of e ∙ last_is ys y, (is.each ys [] y e).ready.child)
]

pub slots_below : (Pair : ℕ → ℕ → Type 0) (n : ℕ) (line : List ℕ) (heir : Option ℕ) → IsLine Pair n line → heir ≡ last_of line → EachIs (λ x. x < suc (n - 1)) (slot_vars heir 0 1 n)
slots_below Pair zero line heir is e = tt
slots_below Pair (suc n) line heir is e =
    let (k, f, l) = ends Pair (suc n) line is (omega arith) in
    subst (λ z. EachIs (λ x. x < suc (suc n - 1)) (slot_vars z 0 1 (suc n))) (sym (e ∙ f)) (below_heir k 0 1 (suc n) (suc (suc n - 1)) (omega arith) (omega arith) (omega arith) (omega arith))

module _ (c : Compiled) where
  abbrev v : Declared
  v = hddl_words c.hddl

  abbrev ar : List ℕ
  ar = arities c.hddl

  -- a head of a subtask, or the check of the method
  abbrev pub IsPlanHead : Bool → ℕ → Head → ℕ → Type 0
  IsPlanHead checked params (Task t) n = IsSoundHead c.hddl (Task t) n
  IsPlanHead checked params (Action a) n = IsSoundHead c.hddl (Action a) n
  IsPlanHead checked params Check n = (checked ≡ true) × (n ≡ params)

  abbrev pub IsPlanChild : Bool → List Param → Child → Type 0
  IsPlanChild checked params child = IsPlanHead checked (length params) child.head (length child.args) × EachIs (IsInForce v ar (scope_of c.hddl params)) child.args

  abbrev pub IsPlanGuard : List Param → Guard → Type 0
  IsPlanGuard params g = (g.ty < length (kinds v)) × IsInForce v ar (scope_of c.hddl params) g.term

  -- the task of a method, or the top task
  abbrev pub IsPlanTask : ℕ → ℕ → Type 0
  IsPlanTask t n = ((t ≡ length c.hddl.tasks) × (n ≡ 0)) ⊎ IsSoundHead c.hddl (Task t) n

  pub record ArePlanParts (checked : Bool) (s : MethodSchema) : Type 0 where
    pub params : AreSoundParams v ar s.params
    pub task : IsPlanTask s.task (length s.task_args)
    pub task_args : EachIs (IsInForce v ar (scope_of c.hddl s.params)) s.task_args
    pub pre : IsSound v ar s.pre (scope_of c.hddl s.params)
    pub children : EachIs (IsPlanChild checked s.params) s.children
    pub constraints : EachIs (IsSoundConstraint c.hddl (scope_of c.hddl s.params)) s.constraints

  pub record IsSoundPlan (plan : MethodPlan) : Type 0 where
    pub parts : ArePlanParts plan.checked plan.schema
    pub guards : EachIs (IsPlanGuard plan.schema.params) plan.guards
    pub slots : EachIs (λ x. x < suc (length plan.schema.children - 1)) (slot_vars plan.heir 0 1 (length plan.schema.children))

  -- arguments that are the parameters
  pub own_args : (params : List Param) → AreDifferent (scope_of c.hddl params) → EachIs (IsInForce v ar (scope_of c.hddl params)) (map Var (numbers 0 (length params)))
  own_args params d = each-map (IsInForce v ar (scope_of c.hddl params)) Var (numbers 0 (length params)) (λ k m. last-different (scope_of c.hddl params) k d (let e = length-map (variable v) params in let r = (numbers_to 0 (length params) k (has-contains (numbers 0 (length params)) k m)).1 in omega arith))

  module _ (sound : IsSoundHddl c.hddl) (checked : Bool) (s : MethodSchema) (is : IsSoundMethod c.hddl s) where
    of_child : (child : Child) → IsSoundChild c.hddl (scope_of c.hddl s.params) child → IsPlanChild checked s.params child
    of_child child k = (head child.head (length child.args) k.0, k.1)
      where
        head : (hd : Head) (n : ℕ) → IsSoundHead c.hddl hd n → IsPlanHead checked (length s.params) hd n
        head (Task t) n e = e
        head (Action a) n e = e
        head Check n e = absurd e

    each_child : (xs : List Child) → EachIs (IsSoundChild c.hddl (scope_of c.hddl s.params)) xs → EachIs (IsPlanChild checked s.params) xs
    each_child [] e = tt
    each_child (x ∷ xs) e = (of_child x e.0, each_child xs e.1)

    with_check : (t : Bool) → checked ≡ t → EachIs (IsPlanChild checked s.params) (children t s)
    with_check true e = (((e, length-map Var (numbers 0 (length s.params)) ∙ length-numbers 0 (length s.params)), own_args s.params is.params.1), each_child s.children is.children)
    with_check false e = each_child s.children is.children

    pub plan_parts : IsPlanTask s.task (length s.task_args) → ArePlanParts checked (record s { children = children checked s; pairs = pairs checked s })
    plan_parts task = record {
      params = is.params;
      task = task;
      task_args = is.task_args;
      pre = is.pre;
      children = with_check checked refl;
      constraints = is.constraints;
    }

    -- guards are of the types of parameters
    each_placed : (ps : List Param) (ts : List Term) → EachIs (IsSoundParam v ar) ps → EachIs (IsInForce v ar (scope_of c.hddl s.params)) ts → EachIs (IsPlanGuard s.params) (placed c.hddl ps ts)
    each_placed [] [] e f = tt
    each_placed [] (t ∷ ts) e f = tt
    each_placed (p ∷ ps) [] e f = tt
    each_placed (p ∷ ps) (t ∷ ts) e f = ((e.0.1, f.0), each_placed ps ts e.1 f.1)

    params_sound : (hd : Head) (n : ℕ) → IsSoundHead c.hddl hd n → EachIs (IsSoundParam v ar) (params_of c.hddl hd)
    params_sound (Task t) n (x, e, f) = subst (λ o. EachIs (IsSoundParam v ar) (params_of_task c.hddl o)) (sym e) (each-at-some (λ (x : TaskSchema). AreSoundParams v ar x.params) c.hddl.tasks t x sound.task_params e).0
    params_sound (Action a) n (x, e, f) = subst (λ o. EachIs (IsSoundParam v ar) (params_of_action c.hddl o)) (sym e) (each-at-some (λ (x : ActionSchema). AreSoundParams v ar x.params) c.hddl.actions a x sound.action_params e).0
    params_sound Check n e = absurd e

    all_guards : (xs : List Child) → EachIs (IsSoundChild c.hddl (scope_of c.hddl s.params)) xs → EachIs (IsPlanGuard s.params) (all_placed c.hddl xs)
    all_guards [] e = tt
    all_guards (x ∷ xs) e = each-join (IsPlanGuard s.params) (placed c.hddl (params_of c.hddl x.head) x.args) (all_placed c.hddl xs) (each_placed (params_of c.hddl x.head) x.args (params_sound x.head (length x.args) e.0.0) e.0.1) (all_guards xs e.1)

  module _ (mode : Checks) (compiled : IsCompiled c.hddl mode c) (sound : IsSoundHddl c.hddl) where
    sound_plan : (s : MethodSchema) (plan : MethodPlan) → IsSoundMethod c.hddl s → IsPlanTask s.task (length s.task_args) → IsMethodPlan c.hddl mode s plan → IsSoundPlan plan
    sound_plan s plan is task k =
        let (all, keeps, e) = k.guards in
        let one : (g : Guard) → Has plan.guards g → IsPlanGuard s.params g = λ g m. each-has (IsPlanGuard s.params) (all_placed c.hddl s.children) g (all_guards sound plan.checked s is s.children is.children)
        (contains-has (all_placed c.hddl s.children) g (keeps_to (IsGuard c.hddl s) (all_placed c.hddl s.children) all keeps g (once_to same_guard all g (subst (λ z. Contains z g) e (has-contains plan.guards g m)))).0) in
        let same : s.params ≡ plan.schema.params = ap (λ (z : MethodSchema). z.params) (sym k.schema) in
        record {
          parts = subst (ArePlanParts plan.checked) (sym k.schema) (plan_parts sound plan.checked s is task);
          guards = subst (λ ps. EachIs (IsPlanGuard ps) plan.guards) same (each-from_has (IsPlanGuard s.params) plan.guards one);
          slots = slots_below (Pairs plan.schema.pairs) (length plan.schema.children) plan.line plan.heir k.line k.heir;
        }

    pub sound_plans : EachIs IsSoundPlan c.methods
    sound_plans = go c.methods compiled.methods
      where
        rest : (ss : List MethodSchema) (ps : List MethodPlan) → EachIs (IsSoundMethod c.hddl) ss → EachIs (λ (s : MethodSchema). IsSoundHead c.hddl (Task s.task) (length s.task_args)) ss → AreMethodPlans c.hddl mode ss ps → EachIs IsSoundPlan ps
        rest [] [] e f a = tt
        rest [] (p ∷ ps) e f a = absurd a
        rest (s ∷ ss) [] e f a = absurd a
        rest (s ∷ ss) (p ∷ ps) e f a = (sound_plan s p e.0 (inr f.0) a.0, rest ss ps e.1 f.1 a.1)

        go : (ps : List MethodPlan) → AreMethodPlans c.hddl mode (c.hddl.top ∷ c.hddl.methods) ps → EachIs IsSoundPlan ps
        go [] a = absurd a
        go (p ∷ ps) a = (sound_plan c.hddl.top p sound.top (inl (sound.top_task, ap length sound.top_args)) a.0, rest c.hddl.methods ps sound.methods sound.method_tasks a.1)
