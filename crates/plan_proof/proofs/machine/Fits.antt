-- The numbers and parts of a sound problem fit together after it is compiled.
use Rattle.std.proofs.Common.{ℕ, ◌≡◌, ◌≤◌, inl, inr, Bool, true, false, List, [], ◌∷◌, map, length, slice_get, Some, refl, ap, sym, subst, ◌∙◌, Contains, arith}
use Rattle.std.specs.Prelude.{IsTrue}
use Rattle.std.proofs.lemmas.Option.{slice_get_within}
use Rattle.std.proofs.lemmas.List.{length-map}
use Rattle.plan_model.specs.declared.terms.Term.TheVariants.{Var}
use Rattle.plan_model.specs.declared.networks.Head.TheVariants.{Task, Check}
use Rattle.plan_model.specs.declared.networks.Child.{Child}
use Rattle.plan_model.specs.declared.options.Checks.{Checks}
use Rattle.plan_model.specs.declared.schemas.ActionSchema.{ActionSchema}
use Rattle.plan_model.specs.declared.schemas.MethodSchema.{MethodSchema}
use Rattle.plan_model.specs.declared.schemas.MethodPlan.{MethodPlan}
use Rattle.plan_model.specs.declared.schemas.Predicate.{Predicate}
use Rattle.plan_model.specs.declared.values.Hddl.{Hddl}
use Rattle.plan_model.specs.declared.values.Compiled.{Compiled}
use Rattle.plan_model.specs.task_networks.Spelling.{numbers}
use Rattle.plan_model.proofs.task_networks.Lists.{head_or_tail}
use Rattle.plan_texts.specs.Types.{EachIs}
use Rattle.plan_texts.specs.SpellsHddl.{hddl_words}
use Rattle.plan_texts.specs.Printable.{IsSound, IsSoundEffect}
use Rattle.plan_texts.specs.SoundValue.{IsSoundHddl, IsSoundMethod, IsSoundHead, IsSoundChild, scope_of, arities}
use Rattle.plan_texts.proofs.Members.{each-has, contains-has}
use Rattle.plan_model.specs.plan_meaning.Compilation.{IsCompiled, IsMethodPlan, children, check_child}
use Rattle.plan_model.proofs.plan_meaning.CompiledNetworks.{plan_of}
use Rattle.slot_encoding.proofs.places.ListPlaces.{get_contains}
use Rattle.plan_proof.proofs.machine.Facts.{FitsTogether}
use Rattle.plan_texts.specs.Declared.{named}

each_of : {A : Type 0} (P : A → Type 0) (xs : List A) (x : A) → EachIs P xs → Contains xs x → P x
each_of P xs x e k = each-has P xs x e (contains-has xs x k)

module _ (h : Hddl) (mode : Checks) (c : Compiled) (sound : IsSoundHddl h) (compiled : IsCompiled h mode c) where
  -- a written method's parts are sound, and its task is one of the declared ones or the top task
  method_sound : (s : MethodSchema) → Contains (h.top ∷ h.methods) s → IsSoundMethod h s × (s.task ≤ length h.tasks)
  method_sound s k = elim (head_or_tail h.top h.methods s k) [
    | inl e ↦ (subst (IsSoundMethod h) e sound.top, (let f = sound.top_task in let g = ap (λ (z : MethodSchema). z.task) e in omega arith))
    | inr d ↦ (each_of (IsSoundMethod h) h.methods s sound.methods d, (let (x, e, f) = each_of (λ (s : MethodSchema). IsSoundHead h (Task s.task) (length s.task_args)) h.methods s sound.method_tasks d in let l = slice_get_within h.tasks s.task x e in omega arith))
  ]

  written : (m : ℕ) (plan : MethodPlan) → slice_get c.methods m ≡ Some plan → (s : MethodSchema) × Contains (h.top ∷ h.methods) s × IsMethodPlan h mode s plan
  written m plan e = plan_of h mode (h.top ∷ h.methods) c.methods m plan compiled.methods e

  -- no written child is a check
  not_check : (s : MethodSchema) → IsSoundMethod h s → (child : Child) → Contains s.children child → child.head ≡ Check → ⊥
  not_check s sm child k e = let x = each_of (IsSoundChild h (scope_of h s.params)) s.children child sm.children k in subst (λ z. IsSoundHead h z (length child.args)) e x.0

  -- a check is a child of a checked method, with all its parameters
  check_child_is : (s : MethodSchema) (plan : MethodPlan) → IsSoundMethod h s → IsMethodPlan h mode s plan → (child : Child) → Contains plan.schema.children child → child.head ≡ Check → IsTrue plan.checked × (child.args ≡ map Var (numbers 0 (length plan.schema.params)))
  check_child_is s plan sm is child k e = go plan.checked refl (subst (λ (z : MethodSchema). Contains z.children child) is.schema k)
    where
      params : plan.schema.params ≡ s.params
      params = ap (λ (z : MethodSchema). z.params) is.schema

      go : (q : Bool) → plan.checked ≡ q → Contains (children plan.checked s) child → IsTrue plan.checked × (child.args ≡ map Var (numbers 0 (length plan.schema.params)))
      go false f d = absurd (not_check s sm child (subst (λ z. Contains (children z s) child) f d) e)
      go true f d = (
        f,
        elim (head_or_tail (check_child s) s.children child (subst (λ z. Contains (children z s) child) f d)) [
          | inl g ↦ ap (λ (z : Child). z.args) (sym g) ∙ ap (λ z. map Var (numbers 0 (length z))) (sym params)
          | inr g ↦ absurd (not_check s sm child g e)
        ],
      )

  same : h ≡ c.hddl
  same = sym compiled.hddl

  pub fits : FitsTogether c
  fits = record {
    tasks = λ m plan e. (let (s, k, is) = written m plan e in let l = (method_sound s k).1 in let f = ap (λ (z : MethodSchema). z.task) is.schema in let g = ap (λ (z : Hddl). length z.tasks) same in omega arith);
    checks = λ m plan child e k f. (let (s, d, is) = written m plan e in (check_child_is s plan (method_sound s d).0 is child k f).0);
    check_args = λ m plan child e k f. (let (s, d, is) = written m plan e in (check_child_is s plan (method_sound s d).0 is child k f).1);
    method_pre = λ m plan e. (let (s, d, is) = written m plan e in
        (scope_of h s.params, subst (λ (z : Hddl). IsSound (hddl_words z) (arities z) plan.schema.pre (scope_of h s.params)) same (subst (λ (z : MethodSchema). IsSound (hddl_words h) (arities h) z.pre (scope_of h s.params)) (sym is.schema) (method_sound s d).0.pre)));
    action_pre = λ n s e. (
      scope_of h s.params,
      subst (λ (z : Hddl). IsSound (hddl_words z) (arities z) s.pre (scope_of h s.params)) same
          (each_of (λ (a : ActionSchema). IsSound (hddl_words h) (arities h) a.pre (scope_of h a.params)) h.actions s sound.pre (get_contains h.actions n s (ap (λ (z : Hddl). slice_get z.actions n) same ∙ e))),
    );
    action_eff = λ n s e. (
      scope_of h s.params,
      subst (λ (z : Hddl). IsSoundEffect (hddl_words z) (arities z) s.eff (scope_of h s.params)) same
          (each_of (λ (a : ActionSchema). IsSoundEffect (hddl_words h) (arities h) a.eff (scope_of h a.params)) h.actions s sound.eff (get_contains h.actions n s (ap (λ (z : Hddl). slice_get z.actions n) same ∙ e))),
    );
    goal = ([], subst (λ (z : Hddl). IsSound (hddl_words z) (arities z) z.goal []) same sound.goal);
    init = λ g k. (let x = (each_of _ h.init g sound.init (subst (λ (z : Hddl). Contains z.init g) (sym same) k)).0 in let l = length-map h.predicates (λ (d : Predicate). named h.names d.name) in let f = ap (λ (z : Hddl). length z.predicates) same in omega arith);
  }
