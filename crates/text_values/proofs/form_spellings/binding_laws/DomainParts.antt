-- The faults of all that a domain declares but its types, by numbers and in words.
use Rattle.std.proofs.Common.{ℕ, inl, inr, List, ◌++◌, Option}
use Rattle.std.specs.Prelude.{◌⊎◌, ◌↔◌}
use Rattle.text_forms.specs.Words.{Word}
use Rattle.gd_reader.specs.Terms.{Names}
use Rattle.hddl_reader.specs.declared.sections.RawDomain.{RawDomain}
use Rattle.hddl_reader.specs.declared.sections.RawHead.{RawHead}
use Rattle.plan_texts.specs.Together.{Together}
use Rattle.htn_base.specs.Lists.{One, Has}
use Rattle.hddl_reader.specs.names.Standing.{InAction, InMethod, InDomain}
use Rattle.hddl_reader.specs.names.Uses.{Scope, Use, IsDeclared}
use Rattle.name_binding.specs.declared.faults.Spot.{Spot}
use Rattle.name_binding.specs.Typed.{params_faults}
use Rattle.name_binding.specs.declared.known.Known.{Known}
use Rattle.hddl_bind.specs.Callables.{Declared}
use Rattle.hddl_bind.specs.Actions.{actions_faults}
use Rattle.hddl_bind.specs.DomainSchemas.{typed_faults, schemas_faults}
use Rattle.hddl_bind.specs.Methods.{IsCycleOf, methods_faults}
use Rattle.hddl_bind.specs.Schemas.{heads_faults}
use Rattle.text_values.specs.form_spellings.binding_laws.Calls.{AreCallablesOf}
use Rattle.text_values.specs.form_spellings.binding_laws.InOrder.{IsDomainInOrder}
use Rattle.text_values.specs.form_spellings.binding_laws.Known.{IsKnownOf}
use Rattle.text_values.specs.form_spellings.binding_laws.Schemas.{IsOrderFaultIn, HasSchemaFaults, OfAllLookups}
use Rattle.text_values.proofs.form_spellings.binding_laws.FormulaFaults.{params_there, params_back}
use Rattle.text_values.proofs.form_spellings.binding_laws.Lists.{append_there, append_left, append_right}
use Rattle.text_values.proofs.form_spellings.binding_laws.MethodFaults.{methods_there, methods_back}
use Rattle.text_values.proofs.form_spellings.binding_laws.SchemaFaults.{Q, here_is, wider, heads_there, heads_back, actions_there, actions_back}
use Rattle.text_values.proofs.form_spellings.binding_laws.Somewhere.{Somewhere}

module _ (names : Names) (d : RawDomain) (objects : List Word) (known : Known) (of : IsKnownOf names d objects known) (callables : Declared) (ofc : AreCallablesOf names d callables) (is : IsDomainInOrder names d) (cycles : List (Option ℕ)) (right : Together IsCycleOf d.methods cycles) (code at : ℕ) where
  abbrev Uses : Scope → Use → Type 0
  Uses = Q names d objects known of code at

  abbrev place : Spot
  place = here_is names d objects known of code at

  abbrev constants : List Spot
  constants = params_faults known.types d.constants

  abbrev predicates : List Spot
  predicates = heads_faults known.types d.predicates

  abbrev tasks : List Spot
  tasks = heads_faults known.types d.tasks

  abbrev actions : List Spot
  actions = actions_faults known d.actions

  abbrev methods : List Spot
  methods = methods_faults known callables d.methods cycles

  abbrev OfHeads : List RawHead → Scope → Use → Type 0
  OfHeads hs here u = One (λ (h : RawHead). IsDeclared h.params u) hs

  to_domain : (P : Scope → Use → Type 0) → ((here : Scope) (u : Use) → P here u → InDomain names d here u) → Somewhere Uses P → Somewhere Uses (InDomain names d)
  to_domain P f s = wider names d objects known of code at P (InDomain names d) f s

  typed_there : Has (typed_faults known.types d) place → Somewhere Uses (InDomain names d)
  typed_there h = elim (append_there constants (predicates ++ tasks) place h) [
    | inl i ↦ to_domain (λ here u. IsDeclared d.constants u) (λ here u p. InDomain.constant p) (params_there names d objects known of code at d.constants is.words.constants i)
    | inr i ↦ elim (append_there predicates tasks place i) [
      | inl j ↦ to_domain (OfHeads d.predicates) (λ here u p. InDomain.of_predicate p) (heads_there names d objects known of code at d.predicates is.words.predicates j)
      | inr j ↦ to_domain (OfHeads d.tasks) (λ here u p. InDomain.of_task p) (heads_there names d objects known of code at d.tasks is.words.tasks j)
    ]
  ]

  abbrev Fault : Type 0
  Fault = Somewhere Uses (InDomain names d) ⊎ IsOrderFaultIn names d.methods code at

  there : Has (schemas_faults known callables d cycles) place → Fault
  there h = elim (append_there (typed_faults known.types d) (actions ++ methods) place h) [
    | inl i ↦ inl (typed_there i)
    | inr i ↦ elim (append_there actions methods place i) [
      | inl j ↦ inl (to_domain (λ here u. One (λ a. InAction names a here u) d.actions) (λ here u p. InDomain.action p) (actions_there names d objects known of code at d.actions is.words.actions j))
      | inr j ↦ elim (methods_there names d objects known of callables ofc code at d.methods cycles is.words.methods is.methods right j) [
        | inl s ↦ inl (to_domain (λ here u. One (λ m. InMethod names m here u) d.methods) (λ here u p. InDomain.method p) s)
        | inr f ↦ inr f
      ]
    ]
  ]

  of_typed : Has (typed_faults known.types d) place → Has (schemas_faults known callables d cycles) place
  of_typed h = append_left (typed_faults known.types d) (actions ++ methods) place h

  of_methods : Somewhere Uses (λ here u. One (λ m. InMethod names m here u) d.methods) ⊎ IsOrderFaultIn names d.methods code at → Has (schemas_faults known callables d cycles) place
  of_methods s = append_right (typed_faults known.types d) (actions ++ methods) place (append_right actions methods place (methods_back names d objects known of callables ofc code at d.methods cycles is.words.methods is.methods right s))

  back : Fault → Has (schemas_faults known callables d cycles) place
  back (inr f) = of_methods (inr f)
  back (inl (here, u, InDomain.constant p, q)) = of_typed (append_left constants (predicates ++ tasks) place (params_back names d objects known of code at d.constants is.words.constants (here, u, p, q)))
  back (inl (here, u, InDomain.of_predicate p, q)) = of_typed (append_right constants (predicates ++ tasks) place (append_left predicates tasks place (heads_back names d objects known of code at d.predicates is.words.predicates (here, u, p, q))))
  back (inl (here, u, InDomain.of_task p, q)) = of_typed (append_right constants (predicates ++ tasks) place (append_right predicates tasks place (heads_back names d objects known of code at d.tasks is.words.tasks (here, u, p, q))))
  back (inl (here, u, InDomain.method p, q)) = of_methods (inl (here, u, p, q))
  back (inl (here, u, InDomain.action p, q)) = append_right (typed_faults known.types d) (actions ++ methods) place (append_left actions methods place (actions_back names d objects known of code at d.actions is.words.actions (here, u, p, q)))

  pub domain_has : Has (schemas_faults known callables d cycles) place ↔ Fault
  domain_has = (there, back)

pub has_schema_faults : OfAllLookups HasSchemaFaults
has_schema_faults names d objects known callables cycles code at of ofc is right = domain_has names d objects known of callables ofc is cycles right code at
