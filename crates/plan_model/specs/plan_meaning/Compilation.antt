-- The compiled value of a problem: checks, pairs, lines, heirs, copiers and guards of its methods.
-- Source: this project's; what a precondition of a method means, after Höller et al., "HDDL", AAAI 2020.
use Rattle.std.specs.Prelude.{ℕ, suc, ◌≡◌, ◌≢◌, ◌==◌, ◌&&◌, ◌-◌, ◌⊎◌, ◌↔◌, Bool, true, false, not, IsTrue, List, [], ◌∷◌, ◌++◌, map, filter, length, Option, Some, None, slice_get, Contains}
use Rattle.std.specs.List.Sorted.{IsStrictlyIncreasing}
use Rattle.plan_model.specs.declared.terms.Term.{Term}
use Rattle.plan_model.specs.declared.terms.Term.TheVariants.{Var, Obj}
use Rattle.plan_model.specs.declared.terms.Param.{Param}
use Rattle.plan_model.specs.declared.formulas.Formula.{Formula}
use Rattle.plan_model.specs.declared.formulas.Formula.TheVariants.{And}
use Rattle.plan_model.specs.declared.networks.Head.{Head}
use Rattle.plan_model.specs.declared.networks.Head.TheVariants.{Task, Action, Check}
use Rattle.plan_model.specs.declared.networks.Child.{Child}
use Rattle.plan_model.specs.declared.networks.Pair.{Pair}
use Rattle.plan_model.specs.declared.networks.Guard.{Guard}
use Rattle.plan_model.specs.declared.schemas.TaskSchema.{TaskSchema}
use Rattle.plan_model.specs.declared.schemas.ActionSchema.{ActionSchema}
use Rattle.plan_model.specs.declared.schemas.MethodSchema.{MethodSchema}
use Rattle.plan_model.specs.declared.schemas.MethodPlan.{MethodPlan}
use Rattle.plan_model.specs.declared.options.Checks.{Checks}
use Rattle.plan_model.specs.declared.options.Checks.TheVariants.{Leaf, AtOnce}
use Rattle.plan_model.specs.declared.values.Hddl.{Hddl}
use Rattle.plan_model.specs.declared.values.Compiled.{Compiled}
use Rattle.plan_model.specs.Typing.{InType, IsA}
use Rattle.plan_model.specs.Pairs.{pair, Pairs}
use Rattle.plan_model.specs.task_networks.Order.{IsLine, IsMaximal}
use Rattle.plan_model.specs.task_networks.Spelling.{numbers}

-- a missing condition is read as the empty conjunction, which asks nothing
abbrev pub AsksSomething : Formula → Type 0
AsksSomething pre = pre ≢ And []

abbrev pub same_pair : Pair → Pair → Bool
same_pair p q = (p.first == q.first) && (p.then == q.then)

abbrev pub same_term : Term → Term → Bool
same_term (Var i) (Var j) = i == j
same_term (Obj i) (Obj j) = i == j
same_term (Var i) (Obj j) = false
same_term (Obj i) (Var j) = false

abbrev pub same_guard : Guard → Guard → Bool
same_guard g k = (g.ty == k.ty) && same_term g.term k.term

-- each item at its first place alone
abbrev pub once : {A : Type 0} → (A → A → Bool) → List A → List A
once same [] = []
once same (x ∷ xs) = x ∷ filter (λ y. not (same x y)) (once same xs)

-- the check of a method: its arguments are all parameters
abbrev pub check_child : MethodSchema → Child
check_child s = record { id = None; head = Check; args = map Var (numbers 0 (length s.params)) }

-- the check, if there is one, and then the subtasks in written order
abbrev pub children : Bool → MethodSchema → List Child
children true s = check_child s ∷ s.children
children false s = s.children

-- the check before each subtask, and then the written pairs, each pair once
abbrev pub pairs : Bool → MethodSchema → List Pair
pairs true s = once same_pair (map (λ k. pair 0 (suc k)) (numbers 0 (length s.children)) ++ map (λ p. pair (suc p.first) (suc p.then)) s.pairs)
pairs false s = once same_pair s.pairs

-- the last of a list
abbrev pub last_of : List ℕ → Option ℕ
last_of line = slice_get line (length line - 1)

-- the list of those that are as P says, in their order
abbrev pub Keeps : {A : Type 0} → (A → Type 0) → List A → List A → Type 0
Keeps P [] kept = kept ≡ []
Keeps {A = A} P (x ∷ xs) kept = (P x × (rest : List A) × (kept ≡ x ∷ rest) × Keeps P xs rest) ⊎ ((P x → ⊥) × Keeps P xs kept)

module _ (h : Hddl) where
  abbrev pub params_of_task : Option TaskSchema → List Param
  params_of_task (Some s) = s.params
  params_of_task None = []

  abbrev pub params_of_action : Option ActionSchema → List Param
  params_of_action (Some s) = s.params
  params_of_action None = []

  -- the declared parameters of what a subtask names
  abbrev pub params_of : Head → List Param
  params_of (Task t) = params_of_task (slice_get h.tasks t)
  params_of (Action a) = params_of_action (slice_get h.actions a)
  params_of Check = []

  -- each argument with the type of its parameter
  abbrev pub placed : List Param → List Term → List Guard
  placed (p ∷ ps) (t ∷ ts) = record { ty = p.ty; term = t } ∷ placed ps ts
  placed [] ts = []
  placed (p ∷ ps) [] = []

  abbrev pub all_placed : List Child → List Guard
  all_placed [] = []
  all_placed (child ∷ rest) = placed (params_of child.head) child.args ++ all_placed rest

  module _ (s : MethodSchema) where
    abbrev pub IsParamIn : Option Param → ℕ → Type 0
    IsParamIn (Some p) ty = IsA h.types p.ty ty
    IsParamIn None ty = ⊥

    -- the term's declaration puts it into the type
    abbrev pub IsDeclaredIn : ℕ → Term → Type 0
    IsDeclaredIn ty (Var k) = IsParamIn (slice_get s.params k) ty
    IsDeclaredIn ty (Obj o) = InType h.types h.objects o ty

    abbrev pub IsGuard : Guard → Type 0
    IsGuard g = IsDeclaredIn g.ty g.term → ⊥

    -- the arguments that their declaration doesn't put into the parameter's type, in written order, each once
    abbrev pub AreGuards : List Guard → Type 0
    AreGuards guards = (all : List Guard) × Keeps IsGuard (all_placed s.children) all × (guards ≡ once same_guard all)

  -- the compiled form of the method s
  pub record IsMethodPlan (mode : Checks) (s : MethodSchema) (plan : MethodPlan) : Type 0 where
    pub checked : IsTrue plan.checked ↔ ((mode ≡ Leaf) × AsksSomething s.pre)
    pub tested : IsTrue plan.tested ↔ ((mode ≡ AtOnce) × AsksSomething s.pre)
    pub schema : plan.schema ≡ record s { children = children plan.checked s; pairs = pairs plan.checked s }
    pub line : IsLine (Pairs plan.schema.pairs) (length plan.schema.children) plan.line
    pub heir : plan.heir ≡ last_of plan.line
    pub copiers : (i : ℕ) → Contains plan.copiers i ↔ (IsMaximal (Pairs plan.schema.pairs) (length plan.schema.children) i × (plan.heir ≢ Some i))
    pub copiers_in_order : IsStrictlyIncreasing plan.copiers
    pub guards : AreGuards s plan.guards

  abbrev pub AreMethodPlans : Checks → List MethodSchema → List MethodPlan → Type 0
  AreMethodPlans mode [] [] = Unit {0}
  AreMethodPlans mode (s ∷ ss) (p ∷ ps) = IsMethodPlan mode s p × AreMethodPlans mode ss ps
  AreMethodPlans mode [] (p ∷ ps) = ⊥
  AreMethodPlans mode (s ∷ ss) [] = ⊥

-- the compiled value: the problem itself, and the plans of its methods, the top method first
pub record IsCompiled (h : Hddl) (mode : Checks) (c : Compiled) : Type 0 where
  pub hddl : c.hddl ≡ h
  pub methods : AreMethodPlans h mode (h.top ∷ h.methods) c.methods
