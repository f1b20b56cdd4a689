-- The faults of methods by numbers and in words.
use Rattle.std.proofs.Common.{ℕ, ◌≡◌, inl, inr, List, [], ◌∷◌, ◌++◌, Option, refl, sym, subst}
use Rattle.std.specs.Prelude.{◌⊎◌, ◌↔◌}
use Rattle.text_forms.specs.Words.{Word}
use Rattle.gd_reader.specs.Terms.{Names}
use Rattle.hddl_reader.specs.declared.sections.RawDomain.{RawDomain}
use Rattle.hddl_reader.specs.declared.sections.RawMethod.{RawMethod}
use Rattle.plan_texts.specs.Together.{Together}
use Rattle.plan_texts.specs.Types.{EachIs}
use Rattle.text_values.specs.form_spellings.EachPart.{OfMethod}
use Rattle.text_values.specs.form_spellings.InTable.{IsNameIn}
use Rattle.htn_base.specs.Lists.{One, Has}
use Rattle.hddl_reader.specs.names.Standing.{IsOfNetwork, InMethod}
use Rattle.hddl_reader.specs.names.Uses.{Scope, Use, applies, task, IsDeclared, IsOfAtom, variables, InFormula}
use Rattle.name_binding.specs.declared.faults.Spot.{Spot}
use Rattle.name_binding.specs.Terms.{term_faults, terms_faults}
use Rattle.name_binding.specs.Typed.{params_faults}
use Rattle.name_binding.specs.declared.known.Known.{Known}
use Rattle.name_binding.specs.Formulas.{formula_faults}
use Rattle.hddl_bind.specs.Callables.{Declared}
use Rattle.hddl_bind.specs.Calls.{method_task, call_faults}
use Rattle.hddl_bind.specs.Networks.{network_faults}
use Rattle.hddl_bind.specs.Actions.{scope_of}
use Rattle.hddl_bind.specs.Methods.{IsCycleOf, front_faults, method_faults, methods_faults}
use Rattle.text_values.specs.form_spellings.binding_laws.Calls.{AreCallablesOf}
use Rattle.text_values.specs.form_spellings.binding_laws.InOrder.{Anywhere, IsMethodInOrder}
use Rattle.text_values.specs.form_spellings.binding_laws.Known.{IsKnownOf}
use Rattle.text_values.specs.form_spellings.binding_laws.Numbers.{words_of, AreKnown}
use Rattle.text_values.specs.form_spellings.binding_laws.Schemas.{IsOrderFault, IsOrderFaultIn, HasHeadFaults, HasActionFaults, HasMethodFaults, OfAllLookups}
use Rattle.text_values.proofs.form_spellings.binding_laws.Atoms.{TermsAt, args_there, args_back}
use Rattle.text_values.proofs.form_spellings.binding_laws.CallWords.{has_task_faults}
use Rattle.text_values.proofs.form_spellings.binding_laws.FormulaFaults.{has_formula_faults, params_there, params_back}
use Rattle.text_values.proofs.form_spellings.binding_laws.FromOrder.{network_in}
use Rattle.text_values.proofs.form_spellings.binding_laws.Layers.{declared_words, declared_in}
use Rattle.text_values.proofs.form_spellings.binding_laws.Lists.{append_there, append_left, append_right, flat_there, flat_back}
use Rattle.text_values.proofs.form_spellings.binding_laws.SchemaFaults.{Q, here_is, wider, heads_there, heads_back, actions_there, actions_back, net_there, net_back}
use Rattle.text_values.proofs.form_spellings.binding_laws.Somewhere.{Somewhere, at_use}

module _ (names : Names) (d : RawDomain) (objects : List Word) (known : Known) (of : IsKnownOf names d objects known) (callables : Declared) (ofc : AreCallablesOf names d callables) (code at : ℕ) where
  abbrev Uses : Scope → Use → Type 0
  Uses = Q names d objects known of code at

  abbrev place : Spot
  place = here_is names d objects known of code at

  module _ (m : RawMethod) (is : OfMethod (IsNameIn names) Anywhere m) (order : IsMethodInOrder names m) (cycle : Option ℕ) (right : IsCycleOf m cycle) where
    abbrev scope : List ℕ
    scope = scope_of m.head

    abbrev outer : List Word
    outer = variables names m.head.params

    abbrev params : List Spot
    params = params_faults known.types m.head.params

    abbrev call : List Spot
    call = call_faults (method_task callables m.task) m.task

    abbrev args : List Spot
    args = terms_faults known.objects scope m.task.args

    abbrev pre : List Spot
    pre = formula_faults known scope m.pre

    abbrev net : List Spot
    net = network_faults callables known.objects scope m.net cycle

    in_force : AreKnown names scope
    in_force = declared_in names m.head.params is.0.1

    same : words_of names scope ≡ outer
    same = declared_words names m.head.params

    abbrev InTask : Scope → Use → Type 0
    InTask here u = (here ≡ outer) × IsOfAtom task m.task u

    pre_has : Has pre place ↔ Somewhere Uses (InFormula names m.pre outer)
    pre_has = subst (λ ws. Has pre place ↔ Somewhere Uses (InFormula names m.pre ws)) same (has_formula_faults names d objects known scope m.pre code at of in_force is.2)

    args_at : Has args place → Somewhere Uses (TermsAt names d objects known of outer m.task.args)
    args_at h = subst (λ ws. Somewhere Uses (TermsAt names d objects known of ws m.task.args)) same (args_there names d objects known of scope m.task.args code at in_force is.1.1 (flat_there (term_faults known.objects scope) m.task.args place h))

    at_args : Somewhere Uses (TermsAt names d objects known of outer m.task.args) → Has args place
    at_args s = flat_back (term_faults known.objects scope) m.task.args place (args_back names d objects known of scope m.task.args code at in_force is.1.1 (subst (λ ws. Somewhere Uses (TermsAt names d objects known of ws m.task.args)) (sym same) s))

    abbrev Fault : Type 0
    Fault = Somewhere Uses (InMethod names m) ⊎ IsOrderFault names m.net code at

    front_there : Has (front_faults known callables m) place → Somewhere Uses (InMethod names m)
    front_there h = elim (append_there params (call ++ (args ++ pre)) place h) [
      | inl i ↦ wider names d objects known of code at (λ here u. IsDeclared m.head.params u) (InMethod names m) (λ here u p. InMethod.parameter p) (params_there names d objects known of code at m.head.params is.0.1 i)
      | inr i ↦ elim (append_there call (args ++ pre) place i) [
        | inl j ↦ (outer, applies task m.task, InMethod.of_task refl (inl refl), (has_task_faults names d callables objects outer m.task code at ofc is.1.0).0 j)
        | inr j ↦ elim (append_there args pre place j) [
          | inl k ↦ wider names d objects known of code at (TermsAt names d objects known of outer m.task.args) (InMethod names m) (λ here u p. InMethod.of_task p.0 (inr p.1)) (args_at k)
          | inr k ↦ wider names d objects known of code at (InFormula names m.pre outer) (InMethod names m) (λ here u p. InMethod.precondition p) (pre_has.0 k)
        ]
      ]
    ]

    method_there : Has (method_faults known callables m cycle) place → Fault
    method_there h = elim (append_there (front_faults known callables m) net place h) [
      | inl i ↦ inl (front_there i)
      | inr i ↦ elim (net_there names d objects known of code at callables ofc scope in_force outer same m.net (network_in names ofc.differ m.net is.3 order.net.ids_in_order) cycle right i) [
        | inl s ↦ inl (wider names d objects known of code at (λ here u. (here ≡ outer) × IsOfNetwork m.net u) (InMethod names m) (λ here u p. InMethod.network p.0 p.1) s)
        | inr f ↦ inr f
      ]
    ]

    in_net : Somewhere Uses (λ here u. (here ≡ outer) × IsOfNetwork m.net u) ⊎ IsOrderFault names m.net code at → Has (method_faults known callables m cycle) place
    in_net s = append_right (front_faults known callables m) net place (net_back names d objects known of code at callables ofc scope in_force outer same m.net (network_in names ofc.differ m.net is.3 order.net.ids_in_order) cycle right s)

    in_front : Has (front_faults known callables m) place → Has (method_faults known callables m cycle) place
    in_front h = append_left (front_faults known callables m) net place h

    method_back : Fault → Has (method_faults known callables m cycle) place
    method_back (inr f) = in_net (inr f)
    method_back (inl (here, u, InMethod.parameter p, q)) = in_front (append_left params (call ++ (args ++ pre)) place (params_back names d objects known of code at m.head.params is.0.1 (here, u, p, q)))
    method_back (inl (here, u, InMethod.of_task e (inl p), q)) =
        in_front (append_right params (call ++ (args ++ pre)) place (append_left call (args ++ pre) place
        ((has_task_faults names d callables objects outer m.task code at ofc is.1.0).1 (at_use Uses outer here u (applies task m.task) e p q))))
    method_back (inl (here, u, InMethod.of_task e (inr p), q)) = in_front (append_right params (call ++ (args ++ pre)) place (append_right call (args ++ pre) place (append_left args pre place (at_args (here, u, (e, p), q)))))
    method_back (inl (here, u, InMethod.precondition p, q)) = in_front (append_right params (call ++ (args ++ pre)) place (append_right call (args ++ pre) place (append_right args pre place (pre_has.1 (here, u, p, q)))))
    method_back (inl (here, u, InMethod.network e p, q)) = in_net (inl (here, u, (e, p), q))

  abbrev InOne : List RawMethod → Scope → Use → Type 0
  InOne ms here u = One (λ m. InMethod names m here u) ms

  pub methods_there : (ms : List RawMethod) (cycles : List (Option ℕ)) → EachIs (OfMethod (IsNameIn names) Anywhere) ms → EachIs (IsMethodInOrder names) ms → Together IsCycleOf ms cycles
      → Has (methods_faults known callables ms cycles) place → Somewhere Uses (InOne ms) ⊎ IsOrderFaultIn names ms code at
  methods_there [] cs is order right h = absurd h
  methods_there (m ∷ ms) [] is order right h = absurd right
  methods_there (m ∷ ms) (c ∷ cs) is order right h = elim (append_there (method_faults known callables m c) (methods_faults known callables ms cs) place h) [
    | inl i ↦ elim (method_there m is.0 order.0 c right.0 i) [
      | inl s ↦ inl (wider names d objects known of code at (InMethod names m) (InOne (m ∷ ms)) (λ here u p. inl p) s)
      | inr f ↦ inr (inl f)
    ]
    | inr i ↦ elim (methods_there ms cs is.1 order.1 right.1 i) [
      | inl s ↦ inl (wider names d objects known of code at (InOne ms) (InOne (m ∷ ms)) (λ here u p. inr p) s)
      | inr f ↦ inr (inr f)
    ]
  ]

  pub methods_back : (ms : List RawMethod) (cycles : List (Option ℕ)) → EachIs (OfMethod (IsNameIn names) Anywhere) ms → EachIs (IsMethodInOrder names) ms → Together IsCycleOf ms cycles
      → Somewhere Uses (InOne ms) ⊎ IsOrderFaultIn names ms code at → Has (methods_faults known callables ms cycles) place
  methods_back [] cs is order right (inl (here, u, p, q)) = absurd p
  methods_back [] cs is order right (inr f) = absurd f
  methods_back (m ∷ ms) [] is order right s = absurd right
  methods_back (m ∷ ms) (c ∷ cs) is order right (inl (here, u, inl p, q)) = append_left (method_faults known callables m c) (methods_faults known callables ms cs) place (method_back m is.0 order.0 c right.0 (inl (here, u, p, q)))
  methods_back (m ∷ ms) (c ∷ cs) is order right (inl (here, u, inr p, q)) = append_right (method_faults known callables m c) (methods_faults known callables ms cs) place (methods_back ms cs is.1 order.1 right.1 (inl (here, u, p, q)))
  methods_back (m ∷ ms) (c ∷ cs) is order right (inr (inl f)) = append_left (method_faults known callables m c) (methods_faults known callables ms cs) place (method_back m is.0 order.0 c right.0 (inr f))
  methods_back (m ∷ ms) (c ∷ cs) is order right (inr (inr f)) = append_right (method_faults known callables m c) (methods_faults known callables ms cs) place (methods_back ms cs is.1 order.1 right.1 (inr f))

pub has_head_faults : OfAllLookups HasHeadFaults
has_head_faults names d objects known callables hs code at of is = (heads_there names d objects known of code at hs is, heads_back names d objects known of code at hs is)

pub has_action_faults : OfAllLookups HasActionFaults
has_action_faults names d objects known callables actions code at of is = (actions_there names d objects known of code at actions is, actions_back names d objects known of code at actions is)

pub has_method_faults : OfAllLookups HasMethodFaults
has_method_faults names d objects known callables ms cycles code at of ofc is order right = (methods_there names d objects known of callables ofc code at ms cycles is order right, methods_back names d objects known of callables ofc code at ms cycles is order right)
