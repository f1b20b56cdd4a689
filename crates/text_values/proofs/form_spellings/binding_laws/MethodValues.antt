-- What methods without faults are bound to.
use Rattle.std.proofs.Common.{ℕ, ◌≡◌, inl, inr, List, [], ◌∷◌, ◌++◌, map, Option, Some, None, refl, sym, ap, subst, ◌∙◌}
use Rattle.text_forms.specs.Words.{Word, first_place}
use Rattle.gd_reader.specs.Terms.{Names}
use Rattle.gd_reader.specs.declared.term.RawAtom.{RawAtom}
use Rattle.hddl_reader.specs.declared.sections.RawDomain.{RawDomain}
use Rattle.hddl_reader.specs.declared.sections.RawMethod.{RawMethod}
use Rattle.plan_model.specs.declared.networks.Head.{Head}
use Rattle.plan_model.specs.declared.networks.Head.TheVariants.{Task, Action, Check}
use Rattle.plan_texts.specs.Declared as words
use Rattle.plan_texts.specs.Declared.{named, variable}
use Rattle.plan_texts.specs.Networks.{head_of}
use Rattle.plan_texts.specs.Together.{Together}
use Rattle.plan_texts.specs.Types.{EachIs}
use Rattle.text_values.specs.form_spellings.Bound.{IsBoundTerm, IsBoundFormula}
use Rattle.text_values.specs.form_spellings.BoundNetworks.{IsBoundNetwork}
use Rattle.text_values.specs.form_spellings.BoundSchemas.{IsBoundMethod}
use Rattle.text_values.specs.form_spellings.EachPart.{OfMethod}
use Rattle.text_values.specs.form_spellings.InTable.{IsIn, IsNameIn}
use Rattle.htn_base.specs.Lists.{One}
use Rattle.hddl_reader.specs.names.Standing.{InMethod}
use Rattle.hddl_reader.specs.names.Uses.{InFormula}
use Rattle.hddl_reader.specs.names.Words.{term_word}
use Rattle.name_binding.specs.declared.faults.Spot.{Spot}
use Rattle.name_binding.specs.Terms.{terms_bound, terms_faults}
use Rattle.name_binding.specs.Typed.{params_bound, params_faults}
use Rattle.name_binding.specs.declared.known.Known.{Known}
use Rattle.name_binding.specs.Formulas.{formula_bound, formula_faults}
use Rattle.hddl_bind.specs.declared.callables.Callable.{Callable}
use Rattle.hddl_bind.specs.Callables.{Declared}
use Rattle.hddl_bind.specs.Calls.{called, method_task, if_task, only_task, head_called, task_number, call_faults}
use Rattle.hddl_bind.specs.Networks.{network_bound, network_faults}
use Rattle.hddl_bind.specs.Actions.{scope_of}
use Rattle.hddl_bind.specs.Methods.{IsCycleOf, front_faults, method_faults, method_bound, methods_bound, methods_faults}
use Rattle.text_values.specs.form_spellings.binding_laws.Formulas.{AreNumberedIn}
use Rattle.text_values.specs.form_spellings.binding_laws.InOrder.{Anywhere, IsMethodInOrder}
use Rattle.text_values.specs.form_spellings.binding_laws.NetworkValues.{HasObjects, IsBoundNet}
use Rattle.text_values.specs.form_spellings.binding_laws.Numbers.{words_of, AreKnown}
use Rattle.text_values.specs.form_spellings.binding_laws.SchemaValues.{AreLookedUp, task_words, action_words}
use Rattle.text_values.proofs.form_spellings.binding_laws.Atoms.{of_table, args_are}
use Rattle.text_values.proofs.form_spellings.binding_laws.CallValues.{is_call_bound}
use Rattle.text_values.proofs.form_spellings.binding_laws.FormulaValues.{is_formula_bound, params_are}
use Rattle.text_values.proofs.form_spellings.binding_laws.FromOrder.{network_in}
use Rattle.text_values.proofs.form_spellings.binding_laws.Layers.{declared_words, declared_in}
use Rattle.text_values.proofs.form_spellings.binding_laws.NetworkValues.{is_network_bound}
use Rattle.text_values.proofs.form_spellings.binding_laws.SchemaValues.{in_force}
use Rattle.text_values.proofs.form_spellings.binding_laws.Written.{none_left, none_right}

-- the task that stands for a head which is one
only_place : (o p : Option ℕ) (k : ℕ) → head_of o p ≡ Some (Task k) → o ≡ Some k
only_place (Some t) p k e = let same : t ≡ k = cc in ap Some same
only_place None None k e = absurd (cc)
only_place None (Some i) k e = absurd (cc)

module _ (names : Names) (d : RawDomain) (objects : List Word) (known : Known) (callables : Declared) (v : words.Declared) (up : AreLookedUp names d objects known callables v) where
  abbrev tasks : List Word
  tasks = task_words names d objects known callables v

  abbrev actions : List Word
  actions = action_words names d objects known callables v

  -- the task of a method is the first of its word
  task_is : (a : RawAtom) → IsIn names a.head.name → call_faults (method_task callables a) a ≡ [] → first_place (term_word names a.head) tasks ≡ Some (task_number (head_called (method_task callables a)))
  task_is a is e = go (called callables a) refl e
    where
      by_head : (x : Callable) (h : Head) → x.head ≡ h → called callables a ≡ Some x → call_faults (only_task h x) a ≡ [] → first_place (term_word names a.head) tasks ≡ Some (task_number (head_called (only_task h x)))
      by_head x (Task k) f g e =
          only_place (first_place (term_word names a.head) tasks) (first_place (term_word names a.head) actions) k
          (is_call_bound names d callables a up.callables_are is up.apart (ap (λ o. call_faults o a) g ∙ e) ∙ ap (λ o. Some (head_called o)) g ∙ ap Some f)
          ∙ ap (λ h. Some (task_number h)) (sym f)
      by_head x (Action k) f g e = absurd (cc)
      by_head x Check f g e = absurd (cc)

      go : (o : Option Callable) → called callables a ≡ o → call_faults (if_task o) a ≡ [] → first_place (term_word names a.head) tasks ≡ Some (task_number (head_called (if_task o)))
      go None g e = absurd (cc)
      go (Some x) g e = by_head x x.head refl g e

  module _ (m : RawMethod) (is : OfMethod (IsNameIn names) Anywhere m) (order : IsMethodInOrder names m) (n : AreNumberedIn names known.types (InMethod names m)) (cycle : Option ℕ) (none : method_faults known callables m cycle ≡ []) where
    abbrev scope : List ℕ
    scope = scope_of m.head

    abbrev params : List Spot
    params = params_faults known.types m.head.params

    abbrev call : List Spot
    call = call_faults (method_task callables m.task) m.task

    abbrev args : List Spot
    args = terms_faults known.objects scope m.task.args

    abbrev pre : List Spot
    pre = formula_faults known scope m.pre

    abbrev net : List Spot
    net = network_faults callables known.objects scope m.net cycle

    abbrev words_here : List Word
    words_here = map (variable v) (params_bound known.types m.head.params)

    known_scope : AreKnown names scope
    known_scope = declared_in names m.head.params is.0.1

    same : words_of names scope ≡ words_here
    same = in_force names d objects known up.known_is v up.words m.head

    pre_numbered : AreNumberedIn names known.types (InFormula names m.pre (words_of names scope))
    pre_numbered = subst (λ ws. AreNumberedIn names known.types (InFormula names m.pre ws)) (sym (declared_words names m.head.params)) (λ here x s. n here x (InMethod.precondition s))

    front : front_faults known callables m ≡ []
    front = none_left (front_faults known callables m) net none

    behind_params : call ++ (args ++ pre) ≡ []
    behind_params = none_right params (call ++ (args ++ pre)) front

    behind_call : args ++ pre ≡ []
    behind_call = none_right call (args ++ pre) behind_params

    args_bound : Together (IsBoundTerm v names words_here) m.task.args (terms_bound known.objects scope m.task.args)
    args_bound = subst (λ ws. Together (IsBoundTerm v names ws) m.task.args (terms_bound known.objects scope m.task.args)) same (args_are names d objects known up.known_is v up.words scope m.task.args known_scope is.1.1 (none_left args pre behind_call))

    pre_bound : IsBoundFormula v names m.pre words_here (formula_bound known scope m.pre)
    pre_bound = subst (λ ws. IsBoundFormula v names m.pre ws (formula_bound known scope m.pre)) same (is_formula_bound names d objects known v scope m.pre up.known_is known_scope is.2 up.words pre_numbered (none_right args pre behind_call))

    has_objects : HasObjects v names known.objects
    has_objects = record { table = up.words.kinds.table; objects_are = up.words.objects }

    net_bound : IsBoundNet names d callables known.objects scope v m.net (network_bound callables known.objects scope m.net)
    net_bound =
        is_network_bound names d callables known.objects scope v m.net cycle up.callables_are (of_table names d objects known up.known_is scope known_scope) has_objects
        (network_in names up.callables_are.differ m.net is.3 order.net.ids_in_order) up.apart order.net.ids_plain (none_right (front_faults known callables m) net none)

    method_is : IsBoundMethod v names tasks actions m (method_bound known callables m)
    method_is = record {
      name = ap (λ ws. named ws m.head.name.name) up.words.kinds.table;
      params = params_are names d objects known up.known_is v up.words m.head.params is.0.1 (λ x s. n [] x (InMethod.parameter s)) (none_left params (call ++ (args ++ pre)) front);
      head = (task_is m.task is.1.0 (none_left call (args ++ pre) behind_params), args_bound);
      pre = pre_bound;
      network = subst (λ ws. IsBoundNetwork v names tasks actions ws m.net (method_bound known callables m).children (method_bound known callables m).pairs (method_bound known callables m).constraints) same net_bound;
    }

  pub methods_are : (ms : List RawMethod) (cycles : List (Option ℕ)) → EachIs (OfMethod (IsNameIn names) Anywhere) ms → EachIs (IsMethodInOrder names) ms → AreNumberedIn names known.types (λ here u. One (λ m. InMethod names m here u) ms)
      → Together IsCycleOf ms cycles → methods_faults known callables ms cycles ≡ [] → Together (IsBoundMethod v names tasks actions) ms (methods_bound known callables ms)
  methods_are [] cs is order n right e = tt
  methods_are (m ∷ ms) [] is order n right e = absurd right
  methods_are (m ∷ ms) (c ∷ cs) is order n right e = (
    method_is m is.0 order.0 (λ here x s. n here x (inl s)) c (none_left (method_faults known callables m c) (methods_faults known callables ms cs) e),
    methods_are ms cs is.1 order.1 (λ here x s. n here x (inr s)) right.1 (none_right (method_faults known callables m c) (methods_faults known callables ms cs) e),
  )
