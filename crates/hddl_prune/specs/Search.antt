-- What a search for live parts, and one for what is kept, has found so far, and what one try of it does.
-- Source: this project's.
use Rattle.std.specs.Prelude.{ℕ, ◌≡◌, ◌+◌, ◌<◌, Bool, IsTrue, IsFalse, List, Some, slice_get, length, Contains, Any}
use Rattle.std.specs.List.Sorted.{IsStrictlyIncreasing}
use Rattle.plan_model.specs.Typing.{IsPart}
use Rattle.plan_model.specs.declared.types.Object.{Object}
use Rattle.plan_model.specs.declared.terms.GroundAtom.{GroundAtom}
use Rattle.plan_model.specs.declared.formulas.Formula.{Formula}
use Rattle.plan_model.specs.declared.networks.Head.{Head}
use Rattle.plan_model.specs.declared.networks.Head.TheVariants.{Task, Action, Check}
use Rattle.plan_model.specs.declared.networks.Child.{Child}
use Rattle.plan_model.specs.declared.schemas.ActionSchema.{ActionSchema}
use Rattle.plan_model.specs.declared.schemas.MethodSchema.{MethodSchema}
use Rattle.plan_model.specs.declared.values.Hddl.{Hddl}
use Rattle.live_parts.specs.Live.{Parts, TypeOf, MayBeSo, MayHold, AddsOf, IsLiveHead, IsLiveMethod, AreClosed, AreAmong}
use Rattle.live_parts.specs.Kept.{Kept, IsReached, IsKeptMethod}
use Rattle.hddl_prune.specs.Places.{HasAlso}
use Rattle.hddl_prune.specs.declared.live.Live.{Live}
use Rattle.hddl_prune.specs.declared.reach.Reach.{Reach}

abbrev pub parts_of : Live → Parts
parts_of live = record { predicates = live.predicates; actions = live.actions; methods = live.methods; tasks = live.tasks }

abbrev pub kept_of : Reach → Kept
kept_of reach = record { tasks = reach.tasks; actions = reach.actions; methods = reach.methods }

-- the atom at the place is of the predicate
abbrev pub IsPredicateAt : List GroundAtom → ℕ → ℕ → Type 0
IsPredicateAt atoms k p = (g : GroundAtom) × (slice_get atoms k ≡ Some g) × (g.predicate ≡ p)

-- all subtasks are live
abbrev pub AreLiveHeads : Parts → List Child → Type 0
AreLiveHeads parts children = (child : Child) → Contains children child → IsLiveHead parts child.head

-- what one try does: where it finds something, more is found; else nothing is changed, and what it looked for is settled
module _ {S : Type 0} (IsSound : S → Type 0) (size : S → ℕ) where
  pub record IsTried (IsSettled : S → Type 0) (old new : S) (found : Bool) : Type 0 where
    pub sound : IsSound old → IsSound new
    pub more : IsTrue found → IsSound old → size old < size new
    pub same : IsFalse found → (new ≡ old) × IsSettled new

module _ (h : Hddl) where
  -- an object is in the type
  abbrev pub HasObject : ℕ → Type 0
  HasObject ty = Any (λ (x : Object). IsPart h.types x.ty ty) h.objects

  -- the formula may be so where these predicates are live
  abbrev pub MayBeSoOver : List ℕ → Formula → Type 0
  MayBeSoOver predicates f = MayBeSo (TypeOf h) (Contains predicates) f

  -- parts that are among all closed ones, with what they ask for but further actions and methods
  pub record AreFound (parts : Parts) : Type 0 where
    pub least : (others : Parts) → AreClosed h others → AreAmong parts others
    pub initial : (a : GroundAtom) → Contains h.init a → Contains parts.predicates a.predicate
    pub added : (n : ℕ) (a : ActionSchema) → slice_get h.actions n ≡ Some a → Contains parts.actions n
        → (p : ℕ) → AddsOf a.eff p → Contains parts.predicates p
    pub task : (n : ℕ) (s : MethodSchema) → slice_get h.methods n ≡ Some s → Contains parts.methods n → Contains parts.tasks s.task
    pub actions : (n : ℕ) → Contains parts.actions n → n < length h.actions
    pub methods : (n : ℕ) → Contains parts.methods n → n < length h.methods
    pub actions_rise : IsStrictlyIncreasing parts.actions
    pub methods_rise : IsStrictlyIncreasing parts.methods

  -- how many actions and methods are found
  abbrev pub many : Parts → ℕ
  many parts = length parts.actions + length parts.methods

  -- the action is found if it is to be found
  abbrev pub IsActionSettled : ℕ → Parts → Type 0
  IsActionSettled n parts = (a : ActionSchema) → slice_get h.actions n ≡ Some a → MayHold h parts a.pre → Contains parts.actions n

  abbrev pub IsMethodSettled : ℕ → Parts → Type 0
  IsMethodSettled n parts = (s : MethodSchema) → slice_get h.methods n ≡ Some s → IsLiveMethod h parts s → Contains parts.methods n

  abbrev pub AreActionsSettled : Parts → Type 0
  AreActionsSettled parts = (n : ℕ) → IsActionSettled n parts

  abbrev pub AreMethodsSettled : Parts → Type 0
  AreMethodsSettled parts = (n : ℕ) → IsMethodSettled n parts

  abbrev pub AreSettled : Parts → Type 0
  AreSettled parts = AreActionsSettled parts × AreMethodsSettled parts

  abbrev pub IsTriedLive : (Parts → Type 0) → Live → Live → Bool → Type 0
  IsTriedLive IsSettled old new found = IsTried AreFound many IsSettled (parts_of old) (parts_of new) found

  -- what is found stays sound
  abbrev pub StaysFound : Live → Live → Type 0
  StaysFound old new = AreFound (parts_of old) → AreFound (parts_of new)

-- the head is marked as kept; a check is no subtask of a written network
abbrev pub IsMarkedHead : Kept → Head → Type 0
IsMarkedHead kept (Task t) = Contains kept.tasks t
IsMarkedHead kept (Action a) = Contains kept.actions a
IsMarkedHead kept Check = Unit {0}

abbrev pub AreMarkedHeads : Kept → List Child → Type 0
AreMarkedHeads kept children = (child : Child) → Contains children child → IsMarkedHead kept child.head

-- the heads that are so are marked too
pub record MarksHeads (IsHead : Head → Type 0) (old new : Kept) : Type 0 where
  pub tasks : HasAlso old.tasks (λ t. IsHead (Task t)) new.tasks
  pub actions : HasAlso old.actions (λ a. IsHead (Action a)) new.actions
  pub methods : new.methods ≡ old.methods

abbrev pub IsHeadOf : List Child → Head → Type 0
IsHeadOf children head = (child : Child) × Contains children child × (child.head ≡ head)

module _ (h : Hddl) (live : Parts) where
  -- marks of what the top method reaches, with the heads of all methods that were opened
  pub record AreOpened (kept : Kept) : Type 0 where
    pub top : AreMarkedHeads kept h.top.children
    pub opened : (n : ℕ) (s : MethodSchema) → slice_get h.methods n ≡ Some s → Contains kept.methods n → AreMarkedHeads kept s.children
    pub tasks : (t : ℕ) → Contains kept.tasks t → IsReached h live (Task t)
    pub actions : (a : ℕ) → Contains kept.actions a → IsReached h live (Action a)
    pub methods : (n : ℕ) → Contains kept.methods n → IsKeptMethod h live n
    pub methods_rise : IsStrictlyIncreasing kept.methods

  abbrev pub opened : Kept → ℕ
  opened kept = length kept.methods

  -- the method is opened if it is to be opened
  abbrev pub IsOpeningSettled : ℕ → Kept → Type 0
  IsOpeningSettled n kept = (s : MethodSchema) → slice_get h.methods n ≡ Some s → Contains live.methods n → Contains kept.tasks s.task
      → Contains kept.methods n

  abbrev pub AreOpeningsSettled : Kept → Type 0
  AreOpeningsSettled kept = (n : ℕ) → IsOpeningSettled n kept

  abbrev pub IsTriedReach : (Kept → Type 0) → Reach → Reach → Bool → Type 0
  IsTriedReach IsSettled old new found = IsTried AreOpened opened IsSettled (kept_of old) (kept_of new) found

  -- what is marked stays sound
  abbrev pub StaysOpened : Reach → Reach → Type 0
  StaysOpened old new = AreOpened (kept_of old) → AreOpened (kept_of new)
