-- What subtasks and methods without faults call: declared tasks and actions, with as many terms as parameters.
use Rattle.std.proofs.Common.{ℕ, zero, suc, ◌≡◌, ◌+◌, inl, inr, List, [], ◌∷◌, ◌++◌, map, length, Option, Some, None, refl, sym, ap, subst, ◌∙◌, arith}
use Rattle.std.specs.Prelude.{slice_get, flat_map}
use Rattle.std.proofs.lemmas.List.{length-map}
use Rattle.gd_reader.specs.declared.term.RawAtom.{RawAtom}
use Rattle.hddl_reader.specs.declared.networks.RawSub.{RawSub}
use Rattle.hddl_reader.specs.declared.sections.RawAction.{RawAction}
use Rattle.hddl_reader.specs.declared.sections.RawDomain.{RawDomain}
use Rattle.hddl_reader.specs.declared.sections.RawHead.{RawHead}
use Rattle.hddl_reader.specs.declared.sections.RawMethod.{RawMethod}
use Rattle.plan_model.specs.declared.networks.Child.{Child}
use Rattle.plan_model.specs.declared.networks.Head.{Head}
use Rattle.plan_model.specs.declared.networks.Head.TheVariants.{Task, Action, Check}
use Rattle.plan_model.specs.declared.schemas.MethodSchema.{MethodSchema}
use Rattle.plan_model.specs.declared.values.Hddl.{Hddl}
use Rattle.plan_texts.specs.SoundValue.{IsSoundHead}
use Rattle.plan_texts.specs.Together.{Together}
use Rattle.plan_texts.specs.Types.{EachIs}
use Rattle.name_binding.specs.Terms.{term_bound, terms_bound, terms_faults}
use Rattle.name_binding.specs.Typed.{param_bound, params_faults}
use Rattle.name_binding.specs.declared.known.Known.{Known}
use Rattle.name_binding.specs.Formulas.{formula_faults}
use Rattle.hddl_bind.specs.declared.callables.Callable.{Callable}
use Rattle.hddl_bind.specs.Callables.{Declared, declared, heads, stands_for}
use Rattle.hddl_bind.specs.Calls.{called, method_task, if_task, only_task, task_number, head_called, call_faults}
use Rattle.hddl_bind.specs.Cycle.{order_faults}
use Rattle.hddl_bind.specs.Networks.{child_bound, child_faults, constraint_faults, network_faults}
use Rattle.hddl_bind.specs.Actions.{scope_of, action_bound, actions_bound}
use Rattle.hddl_bind.specs.Methods.{IsCycleOf, front_faults, method_bound, methods_bound, method_faults, methods_faults}
use Rattle.hddl_bind.specs.Schemas.{task_bound, tasks_bound}
use Rattle.text_values.proofs.form_spellings.binding_laws.CallSound.{IsDeclaredAt, declared_at, stands_at, call_found}
use Rattle.text_values.proofs.form_spellings.binding_laws.Written.{none_left, none_right}

some_map : {X Y : Type 0} (f : X → Y) (xs : List X) (i : ℕ) (x : X) → slice_get xs i ≡ Some x → slice_get (map f xs) i ≡ Some (f x)
some_map f [] i x e = absurd (cc)
some_map f (y ∷ xs) zero x e = let same : y ≡ x = cc in ap (λ z. Some (f z)) same
some_map f (y ∷ xs) (suc i) x e = some_map f xs i x e

-- the action whose head stands at a place
of_head : (actions : List RawAction) (i : ℕ) (h : RawHead) → slice_get (heads actions) i ≡ Some h → (a : RawAction) × (slice_get actions i ≡ Some a) × (a.head ≡ h)
of_head [] i h e = absurd (cc)
of_head (a ∷ actions) zero h e = let same : a.head ≡ h = cc in (a, refl, same)
of_head (a ∷ actions) (suc i) h e = of_head actions i h e

-- where a value has the tasks and actions of a domain
module _ (h : Hddl) (d : RawDomain) (known : Known) (tasks_are : h.tasks ≡ tasks_bound known.types d.tasks) (actions_are : h.actions ≡ actions_bound known d.actions) where
  abbrev callables : Declared
  callables = declared d.tasks d.actions

  task_sound : (x : Callable) (n : ℕ) → IsDeclaredAt Task 0 d.tasks x → x.arity ≡ n → IsSoundHead h x.head n
  task_sound x n (i, r, at, is, count) e =
      let start : 0 + i ≡ i = omega arith in
      subst (λ y. IsSoundHead h y n) (sym (is ∙ ap Task start)) (task_bound known.types r, subst (λ ts. slice_get ts i ≡ Some (task_bound known.types r)) (sym tasks_are) (some_map (task_bound known.types) d.tasks i r at), sym e ∙ count ∙ sym (length-map r.params (param_bound known.types)))

  action_sound : (x : Callable) (n : ℕ) → IsDeclaredAt Action 0 (heads d.actions) x → x.arity ≡ n → IsSoundHead h x.head n
  action_sound x n (i, r, at, is, count) e =
      let a = of_head d.actions i r at in
      let start : 0 + i ≡ i = omega arith in
      subst (λ y. IsSoundHead h y n) (sym (is ∙ ap Action start)) (action_bound known a.0, subst (λ zs. slice_get zs i ≡ Some (action_bound known a.0)) (sym actions_are) (some_map (action_bound known) d.actions i a.0 a.1), sym e ∙ count ∙ ap (λ (r : RawHead). length r.params) (sym a.2) ∙ sym (length-map a.0.head.params (param_bound known.types)))

  called_sound : (n : ℕ) (x : Callable) (m : ℕ) → stands_for callables n ≡ Some x → x.arity ≡ m → IsSoundHead h x.head m
  called_sound n x m e count = elim (stands_at callables n x e) [
    | inl f ↦ task_sound x m (declared_at n Task 0 d.tasks x f) count
    | inr f ↦ action_sound x m (declared_at n Action 0 (heads d.actions) x f) count
  ]

  -- a subtask
  pub child_sound : (objects scope : List ℕ) (s : RawSub) → child_faults callables objects scope s ≡ [] → IsSoundHead h (child_bound callables objects scope s).head (length (child_bound callables objects scope s).args)
  child_sound objects scope s e =
      let c = call_found (called callables s.atom) s.atom (none_left (call_faults (called callables s.atom) s.atom) (terms_faults objects scope s.atom.args) e) in
      subst (λ o. IsSoundHead h (head_called o) (length (terms_bound objects scope s.atom.args))) (sym c.1)
      (called_sound s.atom.head.name.number c.0 (length (terms_bound objects scope s.atom.args)) c.1 (c.2 ∙ sym (length-map s.atom.args (term_bound objects scope))))

  pub children_sound : (objects scope : List ℕ) (ss : List RawSub) → flat_map (child_faults callables objects scope) ss ≡ [] → EachIs (λ (c : Child). IsSoundHead h c.head (length c.args)) (map (child_bound callables objects scope) ss)
  children_sound objects scope [] e = tt
  children_sound objects scope (s ∷ ss) e = (
    child_sound objects scope s (none_left (child_faults callables objects scope s) (flat_map (child_faults callables objects scope) ss) e),
    children_sound objects scope ss (none_right (child_faults callables objects scope s) (flat_map (child_faults callables objects scope) ss) e),
  )

  -- what a method decomposes
  only_is : (y : Head) (x z : Callable) → x.head ≡ y → only_task y x ≡ Some z → (z ≡ x) × (Task (task_number z.head) ≡ z.head)
  only_is (Task k) x z f e = let same : x ≡ z = cc in (sym same, subst (λ (z : Callable). Task (task_number z.head) ≡ z.head) same (ap (λ y. Task (task_number y)) f ∙ sym f))
  only_is (Action k) x z f e = absurd (cc)
  only_is Check x z f e = absurd (cc)

  task_is : (o : Option Callable) (z : Callable) → if_task o ≡ Some z → (o ≡ Some z) × (Task (task_number z.head) ≡ z.head)
  task_is None z e = absurd (cc)
  task_is (Some x) z e = let r = only_is x.head x z refl e in (ap Some (sym r.0), r.1)

  pub decomposed_sound : (a : RawAtom) → call_faults (method_task callables a) a ≡ [] → (n : ℕ) → n ≡ length a.args → IsSoundHead h (Task (task_number (head_called (method_task callables a)))) n
  decomposed_sound a e n same =
      let c = call_found (method_task callables a) a e in
      let t = task_is (called callables a) c.0 c.1 in
      subst (λ o. IsSoundHead h (Task (task_number (head_called o))) n) (sym c.1)
      (subst (λ y. IsSoundHead h y n) (sym t.1) (called_sound a.head.name.number c.0 n t.0 (c.2 ∙ sym same)))

  abbrev pub CallsSound : MethodSchema → Type 0
  CallsSound m = IsSoundHead h (Task m.task) (length m.task_args) × EachIs (λ (c : Child). IsSoundHead h c.head (length c.args)) m.children

  method_calls : (m : RawMethod) (cycle : Option ℕ) → method_faults known callables m cycle ≡ [] → CallsSound (method_bound known callables m)
  method_calls m cycle e =
      let scope = scope_of m.head in
      let front = none_left (front_faults known callables m) (network_faults callables known.objects scope m.net cycle) e in
      let net = none_right (front_faults known callables m) (network_faults callables known.objects scope m.net cycle) e in
      let behind = none_right (params_faults known.types m.head.params) (call_faults (method_task callables m.task) m.task ++ (terms_faults known.objects scope m.task.args ++ formula_faults known scope m.pre)) front in
      let uses = none_right (order_faults m.net cycle) (flat_map (child_faults callables known.objects scope) m.net.subs ++ flat_map (constraint_faults known.objects scope) m.net.constraints) net in (
        decomposed_sound m.task (none_left (call_faults (method_task callables m.task) m.task) (terms_faults known.objects scope m.task.args ++ formula_faults known scope m.pre) behind)
            (length (terms_bound known.objects scope m.task.args)) (length-map m.task.args (term_bound known.objects scope)),
        children_sound known.objects scope m.net.subs (none_left (flat_map (child_faults callables known.objects scope) m.net.subs) (flat_map (constraint_faults known.objects scope) m.net.constraints) uses),
      )

  pub methods_calls : (ms : List RawMethod) (cycles : List (Option ℕ)) → methods_faults known callables ms cycles ≡ [] → Together IsCycleOf ms cycles → EachIs CallsSound (methods_bound known callables ms)
  methods_calls [] cs e l = tt
  methods_calls (m ∷ ms) [] e l = absurd l
  methods_calls (m ∷ ms) (c ∷ cs) e l = (
    method_calls m c (none_left (method_faults known callables m c) (methods_faults known callables ms cs) e),
    methods_calls ms cs (none_right (method_faults known callables m c) (methods_faults known callables ms cs) e) l.1,
  )
