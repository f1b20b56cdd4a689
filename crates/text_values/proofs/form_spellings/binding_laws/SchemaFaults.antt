-- The faults of predicates, tasks, actions and methods by numbers and in words.
use Rattle.std.proofs.Common.{ℕ, ◌≡◌, inl, inr, List, [], ◌∷◌, ◌++◌, Option, sym, subst}
use Rattle.std.specs.Prelude.{◌⊎◌, ◌↔◌, flat_map}
use Rattle.text_forms.specs.Words.{Word}
use Rattle.gd_reader.specs.Terms.{Names}
use Rattle.hddl_reader.specs.declared.networks.RawNet.{RawNet}
use Rattle.hddl_reader.specs.declared.sections.RawAction.{RawAction}
use Rattle.hddl_reader.specs.declared.sections.RawDomain.{RawDomain}
use Rattle.hddl_reader.specs.declared.sections.RawHead.{RawHead}
use Rattle.plan_texts.specs.Types.{EachIs}
use Rattle.text_values.specs.form_spellings.EachPart.{OfHead, OfAction}
use Rattle.text_values.specs.form_spellings.InTable.{IsNameIn}
use Rattle.htn_base.specs.Lists.{One, Has}
use Rattle.hddl_reader.specs.names.Standing.{IsOfNetwork, InAction}
use Rattle.hddl_reader.specs.names.Uses.{Scope, Use, IsDeclared, variables, InFormula, InEffect}
use Rattle.name_binding.specs.declared.faults.Spot.{Spot}
use Rattle.name_binding.specs.Spots.{spot}
use Rattle.name_binding.specs.Typed.{params_faults}
use Rattle.name_binding.specs.declared.known.Known.{Known}
use Rattle.name_binding.specs.Effects.{effect_faults}
use Rattle.name_binding.specs.Formulas.{formula_faults}
use Rattle.hddl_bind.specs.Callables.{Declared}
use Rattle.hddl_bind.specs.Cycle.{IsCycle}
use Rattle.hddl_bind.specs.Networks.{network_faults}
use Rattle.hddl_bind.specs.Actions.{scope_of, action_faults, actions_faults}
use Rattle.hddl_bind.specs.Schemas.{head_faults, heads_faults}
use Rattle.text_values.specs.form_spellings.binding_laws.Calls.{AreCallablesOf}
use Rattle.text_values.specs.form_spellings.binding_laws.InOrder.{Anywhere}
use Rattle.text_values.specs.form_spellings.binding_laws.Known.{IsKnownOf}
use Rattle.text_values.specs.form_spellings.binding_laws.Numbers.{words_of, AreKnown}
use Rattle.text_values.specs.form_spellings.binding_laws.Schemas.{IsOrderFault}
use Rattle.text_values.specs.form_spellings.binding_laws.Uses.{HasFaultIn}
use Rattle.text_values.specs.form_spellings.binding_laws.WholeNetworks.{IsNetworkIn, IsNetworkFault}
use Rattle.text_values.proofs.form_spellings.binding_laws.Atoms.{of_table, Here}
use Rattle.text_values.proofs.form_spellings.binding_laws.EffectFaults.{has_effect_faults}
use Rattle.text_values.proofs.form_spellings.binding_laws.FormulaFaults.{has_formula_faults, params_there, params_back}
use Rattle.text_values.proofs.form_spellings.binding_laws.Layers.{declared_words, declared_in}
use Rattle.text_values.proofs.form_spellings.binding_laws.Lists.{append_there, append_left, append_right, flat_there, flat_back}
use Rattle.text_values.proofs.form_spellings.binding_laws.NetworkWords.{has_network_faults}
use Rattle.text_values.proofs.form_spellings.binding_laws.Ones.{each_wider}
use Rattle.text_values.proofs.form_spellings.binding_laws.Somewhere.{Somewhere, one_there, one_back}

module _ (names : Names) (d : RawDomain) (objects : List Word) (known : Known) (of : IsKnownOf names d objects known) (code at : ℕ) where
  abbrev pub Q : Scope → Use → Type 0
  Q = Here names d objects known of code at

  abbrev pub here_is : Spot
  here_is = spot at code

  pub wider : (P R : Scope → Use → Type 0) → ((here : Scope) (u : Use) → P here u → R here u) → Somewhere Q P → Somewhere Q R
  wider P R f (here, u, p, q) = (here, u, f here u p, q)

  -- of a list, item by item
  module _ {X : Type 0} (f : X → List Spot) (P : X → Scope → Use → Type 0) where
    each_there : (xs : List X) → EachIs (λ x. Has (f x) here_is → Somewhere Q (P x)) xs → One (λ x. Has (f x) here_is) xs → One (λ x. Somewhere Q (P x)) xs
    each_there [] e o = absurd o
    each_there (x ∷ xs) e (inl o) = inl (e.0 o)
    each_there (x ∷ xs) e (inr o) = inr (each_there xs e.1 o)

    each_back : (xs : List X) → EachIs (λ x. Somewhere Q (P x) → Has (f x) here_is) xs → One (λ x. Somewhere Q (P x)) xs → One (λ x. Has (f x) here_is) xs
    each_back [] e o = absurd o
    each_back (x ∷ xs) e (inl o) = inl (e.0 o)
    each_back (x ∷ xs) e (inr o) = inr (each_back xs e.1 o)

    pub all_there : (xs : List X) → EachIs (λ x. Has (f x) here_is → Somewhere Q (P x)) xs → Has (flat_map f xs) here_is → Somewhere Q (λ here u. One (λ x. P x here u) xs)
    all_there xs e h = one_back Q P xs (each_there xs e (flat_there f xs here_is h))

    pub all_back : (xs : List X) → EachIs (λ x. Somewhere Q (P x) → Has (f x) here_is) xs → Somewhere Q (λ here u. One (λ x. P x here u) xs) → Has (flat_map f xs) here_is
    all_back xs e s = flat_back f xs here_is (each_back xs e (one_there Q P xs s))

  abbrev InHead : RawHead → Scope → Use → Type 0
  InHead h here u = IsDeclared h.params u

  pub heads_there : (hs : List RawHead) → EachIs (OfHead (IsNameIn names) Anywhere) hs → Has (heads_faults known.types hs) here_is → Somewhere Q (λ here u. One (λ h. InHead h here u) hs)
  heads_there hs is h = all_there (head_faults known.types) InHead hs (each_wider (OfHead (IsNameIn names) Anywhere) (λ h. Has (head_faults known.types h) here_is → Somewhere Q (InHead h)) hs (λ h i. params_there names d objects known of code at h.params i.1) is) h

  pub heads_back : (hs : List RawHead) → EachIs (OfHead (IsNameIn names) Anywhere) hs → Somewhere Q (λ here u. One (λ h. InHead h here u) hs) → Has (heads_faults known.types hs) here_is
  heads_back hs is s = all_back (head_faults known.types) InHead hs (each_wider (OfHead (IsNameIn names) Anywhere) (λ h. Somewhere Q (InHead h) → Has (head_faults known.types h) here_is) hs (λ h i. params_back names d objects known of code at h.params i.1) is) s

  -- what stands in an action
  module _ (a : RawAction) (is : OfAction (IsNameIn names) Anywhere a) where
    abbrev scope : List ℕ
    scope = scope_of a.head

    abbrev params : List Spot
    params = params_faults known.types a.head.params

    abbrev pre : List Spot
    pre = formula_faults known scope a.pre

    abbrev eff : List Spot
    eff = effect_faults known scope a.eff

    in_force : AreKnown names scope
    in_force = declared_in names a.head.params is.0.1

    pre_has : Has pre here_is ↔ Somewhere Q (InFormula names a.pre (variables names a.head.params))
    pre_has = subst (λ ws. Has pre here_is ↔ Somewhere Q (InFormula names a.pre ws)) (declared_words names a.head.params) (has_formula_faults names d objects known scope a.pre code at of in_force is.1)

    eff_has : Has eff here_is ↔ Somewhere Q (InEffect names a.eff (variables names a.head.params))
    eff_has = subst (λ ws. Has eff here_is ↔ Somewhere Q (InEffect names a.eff ws)) (declared_words names a.head.params) (has_effect_faults names d objects known scope a.eff code at of in_force is.2)

    action_there : Has (action_faults known a) here_is → Somewhere Q (InAction names a)
    action_there h = elim (append_there params (pre ++ eff) here_is h) [
      | inl i ↦ wider (λ here u. IsDeclared a.head.params u) (InAction names a) (λ here u p. InAction.parameter p) (params_there names d objects known of code at a.head.params is.0.1 i)
      | inr i ↦ elim (append_there pre eff here_is i) [
        | inl j ↦ wider (InFormula names a.pre (variables names a.head.params)) (InAction names a) (λ here u p. InAction.precondition p) (pre_has.0 j)
        | inr j ↦ wider (InEffect names a.eff (variables names a.head.params)) (InAction names a) (λ here u p. InAction.effect p) (eff_has.0 j)
      ]
    ]

    action_back : Somewhere Q (InAction names a) → Has (action_faults known a) here_is
    action_back (here, u, InAction.parameter p, q) = append_left params (pre ++ eff) here_is (params_back names d objects known of code at a.head.params is.0.1 (here, u, p, q))
    action_back (here, u, InAction.precondition p, q) = append_right params (pre ++ eff) here_is (append_left pre eff here_is (pre_has.1 (here, u, p, q)))
    action_back (here, u, InAction.effect p, q) = append_right params (pre ++ eff) here_is (append_right pre eff here_is (eff_has.1 (here, u, p, q)))

  pub actions_there : (actions : List RawAction) → EachIs (OfAction (IsNameIn names) Anywhere) actions → Has (actions_faults known actions) here_is → Somewhere Q (λ here u. One (λ a. InAction names a here u) actions)
  actions_there actions is h = all_there (action_faults known) (InAction names) actions (each_wider (OfAction (IsNameIn names) Anywhere) (λ a. Has (action_faults known a) here_is → Somewhere Q (InAction names a)) actions action_there is) h

  pub actions_back : (actions : List RawAction) → EachIs (OfAction (IsNameIn names) Anywhere) actions → Somewhere Q (λ here u. One (λ a. InAction names a here u) actions) → Has (actions_faults known actions) here_is
  actions_back actions is s = all_back (action_faults known) (InAction names) actions (each_wider (OfAction (IsNameIn names) Anywhere) (λ a. Somewhere Q (InAction names a) → Has (action_faults known a) here_is) actions action_back is) s

  -- what stands in a network, where the variables in force have these words
  module _ (callables : Declared) (ofc : AreCallablesOf names d callables) (scope : List ℕ) (k : AreKnown names scope) (outer : List Word) (same : words_of names scope ≡ outer) (n : RawNet) (isn : IsNetworkIn names n) (cycle : Option ℕ) (right : IsCycle n cycle) where
    abbrev InNet : Scope → Use → Type 0
    InNet here u = (here ≡ outer) × IsOfNetwork n u

    abbrev net : List Spot
    net = network_faults callables known.objects scope n cycle

    abbrev Said : Type 0
    Said = Somewhere Q InNet ⊎ IsOrderFault names n code at

    abbrev Found : List Word → List Word → Type 0
    Found objects ws = HasFaultIn names d objects (λ here u. (here ≡ ws) × IsOfNetwork n u) code at

    found_there : Found (words_of names known.objects) (words_of names scope) → Somewhere Q InNet
    found_there s = subst (λ ws. Found objects ws) same (subst (λ os. Found os (words_of names scope)) of.object_words s)

    found_back : Somewhere Q InNet → Found (words_of names known.objects) (words_of names scope)
    found_back s = subst (λ os. Found os (words_of names scope)) (sym of.object_words) (subst (λ ws. Found objects ws) (sym same) s)

    said_there : IsNetworkFault names d callables known.objects scope n code at → Said
    said_there (inl f) = inr (inl f)
    said_there (inr (inl f)) = inr (inr (inl f))
    said_there (inr (inr (inl f))) = inr (inr (inr (inl f)))
    said_there (inr (inr (inr (inl f)))) = inr (inr (inr (inr f)))
    said_there (inr (inr (inr (inr s)))) = inl (found_there s)

    said_back : Said → IsNetworkFault names d callables known.objects scope n code at
    said_back (inl s) = inr (inr (inr (inr (found_back s))))
    said_back (inr (inl f)) = inl f
    said_back (inr (inr (inl f))) = inr (inl f)
    said_back (inr (inr (inr (inl f)))) = inr (inr (inl f))
    said_back (inr (inr (inr (inr f)))) = inr (inr (inr (inl f)))

    pub net_there : Has net here_is → Said
    net_there h = said_there ((has_network_faults names d callables known.objects scope n cycle code at ofc (of_table names d objects known of scope k) isn right).0 h)

    pub net_back : Said → Has net here_is
    net_back s = (has_network_faults names d callables known.objects scope n cycle code at ofc (of_table names d objects known of scope k) isn right).1 (said_back s)
