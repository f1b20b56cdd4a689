-- Methods without faults are bound to ones whose terms are in force.
use Rattle.std.proofs.Common.{ℕ, ◌≡◌, inl, inr, List, [], ◌∷◌, ◌++◌, map, length, Option, sym, subst}
use Rattle.std.specs.Prelude.{◌≤◌}
use Rattle.text_forms.specs.Words.{Word}
use Rattle.gd_reader.specs.Terms.{Names}
use Rattle.hddl_reader.specs.declared.networks.RawCon.{RawCon}
use Rattle.hddl_reader.specs.declared.networks.RawSub.{RawSub}
use Rattle.hddl_reader.specs.declared.sections.RawDomain.{RawDomain}
use Rattle.hddl_reader.specs.declared.sections.RawMethod.{RawMethod}
use Rattle.plan_model.specs.declared.networks.Child.{Child}
use Rattle.plan_model.specs.declared.networks.Constraint.{Constraint}
use Rattle.plan_texts.specs.Declared.{Declared, variable}
use Rattle.plan_texts.specs.Printable.{IsInForce, IsSound}
use Rattle.plan_texts.specs.Together.{Together}
use Rattle.plan_texts.specs.Types.{EachIs}
use Rattle.text_values.specs.form_spellings.BoundNetworks.{IsBoundSubtask, IsBoundConstraint}
use Rattle.text_values.specs.form_spellings.BoundSchemas.{IsBoundMethod}
use Rattle.text_values.specs.form_spellings.EachPart.{OfMethod}
use Rattle.text_values.specs.form_spellings.InTable.{IsNameIn}
use Rattle.htn_base.specs.Lists.{One}
use Rattle.hddl_reader.specs.names.Standing.{InMethod}
use Rattle.hddl_reader.specs.names.Uses.{InFormula}
use Rattle.name_binding.specs.Terms.{terms_faults}
use Rattle.name_binding.specs.Typed.{params_bound, params_faults}
use Rattle.name_binding.specs.declared.known.Known.{Known}
use Rattle.name_binding.specs.Formulas.{formula_bound, formula_faults}
use Rattle.hddl_bind.specs.Callables as calls
use Rattle.hddl_bind.specs.Calls.{method_task, call_faults}
use Rattle.hddl_bind.specs.Networks.{network_faults}
use Rattle.hddl_bind.specs.Actions.{scope_of}
use Rattle.hddl_bind.specs.Methods.{IsCycleOf, front_faults, method_faults, method_bound, methods_bound, methods_faults}
use Rattle.text_values.specs.form_spellings.binding_laws.Formulas.{AreNumberedIn}
use Rattle.text_values.specs.form_spellings.binding_laws.InOrder.{Anywhere, IsMethodInOrder}
use Rattle.text_values.specs.form_spellings.binding_laws.Known.{IsKnownOf, HasKnown}
use Rattle.text_values.specs.form_spellings.binding_laws.SoundSchemas.{with_objects, IsSoundBody}
use Rattle.text_values.proofs.form_spellings.binding_laws.FormulaSound.{arities_of, term_in_force, terms_in_force, params_sound, formula_sound}
use Rattle.text_values.proofs.form_spellings.binding_laws.Layers.{declared_words, declared_in}
use Rattle.text_values.proofs.form_spellings.binding_laws.SchemaValues.{in_force}
use Rattle.text_values.proofs.form_spellings.binding_laws.Written.{none_left, none_right}

module _ (names : Names) (d : RawDomain) (objects : List Word) (known : Known) (of : IsKnownOf names d objects known) (v : Declared) (has : HasKnown v names known) (arities : List ℕ) (are : arities ≡ arities_of known.predicates) (others : List Word) (enough : length v.objects ≤ length others) where
  abbrev w : Declared
  w = with_objects v others

  module _ (tasks actions scope : List Word) where
    pub children_in_force : (ss : List RawSub) (cs : List Child) → Together (IsBoundSubtask v names tasks actions scope) ss cs → EachIs (λ (c : Child). EachIs (IsInForce w arities scope) c.args) cs
    children_in_force [] [] b = tt
    children_in_force [] (c ∷ cs) b = absurd b
    children_in_force (s ∷ ss) [] b = absurd b
    children_in_force (s ∷ ss) (c ∷ cs) b = (terms_in_force names d objects known of v has arities are others enough scope s.atom.args c.args b.0.1.1, children_in_force ss cs b.1)

    pub limits_in_force : (rs : List RawCon) (cs : List Constraint) → Together (IsBoundConstraint v names scope) rs cs → EachIs (λ (c : Constraint). IsInForce w arities scope c.left × IsInForce w arities scope c.right) cs
    limits_in_force [] [] b = tt
    limits_in_force [] (c ∷ cs) b = absurd b
    limits_in_force (r ∷ rs) [] b = absurd b
    limits_in_force (r ∷ rs) (c ∷ cs) b = (
      (term_in_force names d objects known of v has arities are others enough scope r.left c.left b.0.1, term_in_force names d objects known of v has arities are others enough scope r.right c.right b.0.2),
      limits_in_force rs cs b.1,
    )

  module _ (callables : calls.Declared) (tasks actions : List Word) where
    method_sound : (m : RawMethod) (cycle : Option ℕ) → OfMethod (IsNameIn names) Anywhere m → IsMethodInOrder names m → AreNumberedIn names known.types (InMethod names m) → method_faults known callables m cycle ≡ []
        → IsBoundMethod v names tasks actions m (method_bound known callables m) → IsSoundBody w arities (method_bound known callables m)
    method_sound m cycle is o n e b =
        let scope = scope_of m.head in
        let params = params_faults known.types m.head.params in
        let call = call_faults (method_task callables m.task) m.task in
        let args = terms_faults known.objects scope m.task.args in
        let pre = formula_faults known scope m.pre in
        let front = none_left (front_faults known callables m) (network_faults callables known.objects scope m.net cycle) e in
        let outer = map (variable v) (params_bound known.types m.head.params) in
        let numbered = subst (λ ws. AreNumberedIn names known.types (InFormula names m.pre ws)) (sym (declared_words names m.head.params)) (λ here x s. n here x (InMethod.precondition s)) in
        let none = none_right args pre (none_right call (args ++ pre) (none_right params (call ++ (args ++ pre)) front)) in
        record {
          params = params_sound names d objects known of v has arities are others enough m.head.params is.0.1 o.head.params (λ x s. n [] x (InMethod.parameter s)) (none_left params (call ++ (args ++ pre)) front);
          task_args = terms_in_force names d objects known of v has arities are others enough outer m.task.args (method_bound known callables m).task_args b.head.1;
          pre = subst (λ ws. IsSound w arities (formula_bound known scope m.pre) ws) (in_force names d objects known of v has m.head)
              (formula_sound names d objects known of v has arities are others enough m.pre scope (declared_in names m.head.params is.0.1) is.2 o.pre numbered none);
          child_args = children_in_force tasks actions outer m.net.subs (method_bound known callables m).children b.network.subtasks;
          constraints = limits_in_force tasks actions outer m.net.constraints (method_bound known callables m).constraints b.network.limits;
        }

    pub methods_sound : (ms : List RawMethod) (cycles : List (Option ℕ)) → EachIs (OfMethod (IsNameIn names) Anywhere) ms → EachIs (IsMethodInOrder names) ms → AreNumberedIn names known.types (λ here u. One (λ m. InMethod names m here u) ms)
        → Together IsCycleOf ms cycles → methods_faults known callables ms cycles ≡ [] → Together (IsBoundMethod v names tasks actions) ms (methods_bound known callables ms) → EachIs (IsSoundBody w arities) (methods_bound known callables ms)
    methods_sound [] cs is o n right e b = tt
    methods_sound (m ∷ ms) [] is o n right e b = absurd right
    methods_sound (m ∷ ms) (c ∷ cs) is o n right e b = (
      method_sound m c is.0 o.0 (λ here x s. n here x (inl s)) (none_left (method_faults known callables m c) (methods_faults known callables ms cs) e) b.0,
      methods_sound ms cs is.1 o.1 (λ here x s. n here x (inr s)) right.1 (none_right (method_faults known callables m c) (methods_faults known callables ms cs) e) b.1,
    )
