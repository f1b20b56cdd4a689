-- The live parts of a problem: predicates, actions, methods and tasks that may have a use, judged without objects and without deletions.
-- Source: this project's, after the delete relaxation of Bonet and Geffner, "Planning as heuristic search", AIJ 129, 2001,
-- and the task decomposition graph of HTN grounders (Behnke et al., "On succinct groundings of HTN planning problems", AAAI 2020).
use Rattle.std.specs.Prelude.{ℕ, ◌≡◌, ◌⊎◌, List, [], ◌∷◌, Some, slice_get, Contains}
use Rattle.plan_model.specs.declared.terms.Param.{Param}
use Rattle.plan_model.specs.declared.terms.GroundAtom.{GroundAtom}
use Rattle.plan_model.specs.declared.formulas.Formula.{Formula}
use Rattle.plan_model.specs.declared.formulas.Formula.TheFolds.{rec-Formula}
use Rattle.plan_model.specs.declared.formulas.Formula.TheOpen.{Formula-F}
use Rattle.plan_model.specs.declared.effects.Effect.{Effect}
use Rattle.plan_model.specs.declared.effects.Effect.TheFolds.{rec-Effect}
use Rattle.plan_model.specs.declared.effects.Effect.TheOpen.{Effect-F}
use Rattle.plan_model.specs.declared.networks.Head.{Head}
use Rattle.plan_model.specs.declared.networks.Head.TheVariants.{Task, Action, Check}
use Rattle.plan_model.specs.declared.networks.Child.{Child}
use Rattle.plan_model.specs.declared.schemas.ActionSchema.{ActionSchema}
use Rattle.plan_model.specs.declared.schemas.MethodSchema.{MethodSchema}
use Rattle.plan_model.specs.declared.values.Hddl.{Hddl}
use Rattle.plan_model.specs.Typing.{InType}

abbrev pub EachSo : {X : Type 0} → (X → Type 0) → List X → Type 0
EachSo k [] = Unit {0}
EachSo k (x ∷ xs) = k x × EachSo k xs

abbrev pub OneSo : {X : Type 0} → (X → Type 0) → List X → Type 0
OneSo k [] = ⊥
OneSo k (x ∷ xs) = k x ⊎ OneSo k xs

-- no object is in the type of one of the variables
abbrev pub HasEmptyType : (ℕ → ℕ → Type 0) → List Param → Type 0
HasEmptyType InType ps = (p : Param) × Contains ps p × ((o : ℕ) → InType o p.ty → ⊥)

-- InType o t: object o is in type t; IsLive p: predicate p may have a true atom
module _ (InType : ℕ → ℕ → Type 0) (IsLive : ℕ → Type 0) where
  -- one level of a formula, where k says of a part that it may be so
  abbrev pub so_step : {X : Type 0} → (X → Type 0) → Formula-F X → Type 0
  so_step k (Formula-F.Holds a) = IsLive a.predicate
  so_step k (Formula-F.Equal s t) = Unit {0}
  so_step k (Formula-F.Not f) = Unit {0}
  so_step k (Formula-F.And fs) = EachSo k fs
  so_step k (Formula-F.Or fs) = OneSo k fs
  so_step k (Formula-F.Imply f g) = Unit {0}
  so_step k (Formula-F.Forall ps f) = k f ⊎ HasEmptyType InType ps
  so_step k (Formula-F.Exists ps f) = k f

  -- the formula may be so
  abbrev pub MayBeSo : Formula → Type 0
  MayBeSo = rec-Formula (Type 0) (λ X v k layer. so_step k layer)

-- one level of an effect, where k says which predicates a part adds
abbrev pub adds_of_step : {X : Type 0} → (X → ℕ → Type 0) → Effect-F X → ℕ → Type 0
adds_of_step k (Effect-F.Add a) p = a.predicate ≡ p
adds_of_step k (Effect-F.Delete a) p = ⊥
adds_of_step k (Effect-F.And es) p = OneSo (λ e. k e p) es
adds_of_step k (Effect-F.Forall ps e) p = k e p
adds_of_step k (Effect-F.When f e) p = k e p

-- the effect adds an atom of the predicate, whatever the conditions and the objects
abbrev pub AddsOf : Effect → ℕ → Type 0
AddsOf = rec-Effect (ℕ → Type 0) (λ X v k layer. adds_of_step k layer)

-- numbers of predicates, actions, methods and tasks
pub record Parts : Type 0 where
  pub predicates : List ℕ
  pub actions : List ℕ
  pub methods : List ℕ
  pub tasks : List ℕ

-- what is of the one is of the other
pub record AreAmong (some others : Parts) : Type 0 where
  pub predicates : (p : ℕ) → Contains some.predicates p → Contains others.predicates p
  pub actions : (a : ℕ) → Contains some.actions a → Contains others.actions a
  pub methods : (m : ℕ) → Contains some.methods m → Contains others.methods m
  pub tasks : (t : ℕ) → Contains some.tasks t → Contains others.tasks t

-- a subtask that may be done; a check is no subtask of a written network
abbrev pub IsLiveHead : Parts → Head → Type 0
IsLiveHead parts (Task t) = Contains parts.tasks t
IsLiveHead parts (Action a) = Contains parts.actions a
IsLiveHead parts Check = Unit {0}

module _ (h : Hddl) where
  abbrev pub TypeOf : ℕ → ℕ → Type 0
  TypeOf = InType h.types h.objects

  abbrev pub MayHold : Parts → Formula → Type 0
  MayHold parts f = MayBeSo TypeOf (Contains parts.predicates) f

  -- its precondition may be so, and so may all its subtasks be done
  pub record IsLiveMethod (parts : Parts) (s : MethodSchema) : Type 0 where
    pub pre : MayHold parts s.pre
    pub heads : (child : Child) → Contains s.children child → IsLiveHead parts child.head

  -- parts to which nothing is to be added
  pub record AreClosed (parts : Parts) : Type 0 where
    pub initial : (a : GroundAtom) → Contains h.init a → Contains parts.predicates a.predicate
    pub added : (n : ℕ) (a : ActionSchema) → slice_get h.actions n ≡ Some a → Contains parts.actions n
        → (p : ℕ) → AddsOf a.eff p → Contains parts.predicates p
    pub action : (n : ℕ) (a : ActionSchema) → slice_get h.actions n ≡ Some a → MayHold parts a.pre → Contains parts.actions n
    pub method : (n : ℕ) (s : MethodSchema) → slice_get h.methods n ≡ Some s → IsLiveMethod parts s → Contains parts.methods n
    pub task : (n : ℕ) (s : MethodSchema) → slice_get h.methods n ≡ Some s → Contains parts.methods n → Contains parts.tasks s.task

  -- the least such parts
  pub record AreLive (parts : Parts) : Type 0 where
    pub closed : AreClosed parts
    pub least : (others : Parts) → AreClosed others → AreAmong parts others

  -- the top method is live, and the goal may be so
  pub record MayBeSolved (parts : Parts) : Type 0 where
    pub top : IsLiveMethod parts h.top
    pub goal : MayHold parts h.goal
