-- The faults of the schemas of a domain, and of the parts of a problem, by numbers and in words.
-- Source: this project's.
use Rattle.std.specs.Prelude.{ℕ, ◌≡◌, ◌⊎◌, ◌↔◌, List, [], Option}
use Rattle.text_forms.specs.Words.{Word}
use Rattle.gd_reader.specs.Terms.{Names}
use Rattle.hddl_reader.specs.declared.networks.RawNet.{RawNet}
use Rattle.hddl_reader.specs.declared.sections.RawAction.{RawAction}
use Rattle.hddl_reader.specs.declared.sections.RawDomain.{RawDomain}
use Rattle.hddl_reader.specs.declared.sections.RawHead.{RawHead}
use Rattle.hddl_reader.specs.declared.sections.RawMethod.{RawMethod}
use Rattle.hddl_reader.specs.declared.sections.RawProblem.{RawProblem}
use Rattle.plan_texts.specs.Together.{Together}
use Rattle.plan_texts.specs.Types.{EachIs}
use Rattle.text_values.specs.form_spellings.EachPart.{OfHead, OfAction, OfMethod}
use Rattle.text_values.specs.form_spellings.InTable.{IsNameIn}
use Rattle.htn_base.specs.Lists.{One, Has}
use Rattle.hddl_reader.specs.names.Networks.{ids, UnknownSubtaskId, CyclicOrder, TooManySubtasks}
use Rattle.hddl_reader.specs.names.Standing.{InAction, InMethod, InDomain, InProblem}
use Rattle.hddl_reader.specs.names.Uses.{IsDeclared}
use Rattle.hddl_reader.specs.names.Words.{IsSecond}
use Rattle.name_binding.specs.Spots.{spot}
use Rattle.name_binding.specs.declared.known.Known.{Known}
use Rattle.hddl_bind.specs.Callables.{Declared}
use Rattle.hddl_bind.specs.Cycle.{IsCycle}
use Rattle.hddl_bind.specs.Actions.{actions_faults}
use Rattle.hddl_bind.specs.DomainSchemas.{schemas_faults}
use Rattle.hddl_bind.specs.Methods.{IsCycleOf, methods_faults}
use Rattle.hddl_bind.specs.ProblemParts.{parts_faults}
use Rattle.hddl_bind.specs.Schemas.{heads_faults}
use Rattle.text_values.specs.form_spellings.binding_laws.Calls.{AreCallablesOf}
use Rattle.text_values.specs.form_spellings.binding_laws.InOrder.{Anywhere, IsMethodInOrder, IsDomainInOrder, IsProblemInOrder}
use Rattle.text_values.specs.form_spellings.binding_laws.Known.{IsKnownOf}
use Rattle.text_values.specs.form_spellings.binding_laws.Uses.{HasFaultIn}

module _ (names : Names) where
  -- 10 and 19 to 21 of the ids and the ordering of a network
  abbrev pub IsOrderFault : RawNet → (code at : ℕ) → Type 0
  IsOrderFault n code at = ((code ≡ 10) × IsSecond [] (ids names n.subs) at)
      ⊎ (((code ≡ 19) × UnknownSubtaskId names n at)
      ⊎ (((code ≡ 20) × CyclicOrder names n at)
      ⊎ ((code ≡ 21) × TooManySubtasks n at)))

  -- of one of the methods
  abbrev pub IsOrderFaultIn : List RawMethod → (code at : ℕ) → Type 0
  IsOrderFaultIn ms code at = One (λ (m : RawMethod). IsOrderFault m.net code at) ms

module _ (names : Names) (d : RawDomain) (objects : List Word) (known : Known) (callables : Declared) where
  -- the faults of predicates, or of tasks, are those of the types of their parameters
  abbrev pub HasHeadFaults : Type 0
  HasHeadFaults = (hs : List RawHead) (code at : ℕ) → IsKnownOf names d objects known → EachIs (OfHead (IsNameIn names) Anywhere) hs
      → Has (heads_faults known.types hs) (spot at code) ↔ HasFaultIn names d objects (λ here u. One (λ (h : RawHead). IsDeclared h.params u) hs) code at

  -- those of actions are those of their declarations and uses
  abbrev pub HasActionFaults : Type 0
  HasActionFaults = (actions : List RawAction) (code at : ℕ) → IsKnownOf names d objects known → EachIs (OfAction (IsNameIn names) Anywhere) actions
      → Has (actions_faults known actions) (spot at code) ↔ HasFaultIn names d objects (λ here u. One (λ a. InAction names a here u) actions) code at

  -- those of methods are of their declarations and uses, or of their networks
  abbrev pub HasMethodFaults : Type 0
  HasMethodFaults = (methods : List RawMethod) (cycles : List (Option ℕ)) (code at : ℕ) → IsKnownOf names d objects known → AreCallablesOf names d callables
      → EachIs (OfMethod (IsNameIn names) Anywhere) methods → EachIs (IsMethodInOrder names) methods → Together IsCycleOf methods cycles
      → Has (methods_faults known callables methods cycles) (spot at code)
      ↔ (HasFaultIn names d objects (λ here u. One (λ m. InMethod names m here u) methods) code at ⊎ IsOrderFaultIn names methods code at)

  -- all that a domain declares but its types
  abbrev pub HasSchemaFaults : Type 0
  HasSchemaFaults = (cycles : List (Option ℕ)) (code at : ℕ) → IsKnownOf names d objects known → AreCallablesOf names d callables
      → IsDomainInOrder names d → Together IsCycleOf d.methods cycles
      → Has (schemas_faults known callables d cycles) (spot at code) ↔ (HasFaultIn names d objects (InDomain names d) code at ⊎ IsOrderFaultIn names d.methods code at)

  -- what a problem says beyond its domain
  abbrev pub HasPartFaults : Type 0
  HasPartFaults = (p : RawProblem) (cycle : Option ℕ) (code at : ℕ) → IsKnownOf names d objects known → AreCallablesOf names d callables
      → IsProblemInOrder names p → IsCycle p.net cycle
      → Has (parts_faults known callables p cycle) (spot at code) ↔ (HasFaultIn names d objects (InProblem names p) code at ⊎ IsOrderFault names p.net code at)

abbrev pub OfAllLookups : (Names → RawDomain → List Word → Known → Declared → Type 0) → Type 0
OfAllLookups P = (names : Names) (d : RawDomain) (objects : List Word) (known : Known) (callables : Declared) → P names d objects known callables
