-- The methods of a problem that is compiled of a sound one, by their numbers: their tasks, and where their checks stand.
use Rattle.std.proofs.Common.{ℕ, zero, suc, ◌≡◌, Bool, true, false, List, [], ◌∷◌, map, length, Option, Some, None, slice_get, refl, ap, sym, subst, ◌∙◌, arith}
use Rattle.std.specs.Option.{option_map_or}
use Rattle.std.proofs.lemmas.Option.{slice_get_within}
use Rattle.plan_texts.specs.SoundValue.{IsSoundHead, IsSoundChild, IsSoundMethod, scope_of}
use Rattle.plan_texts.specs.SoundProblem.{IsSoundProblem}
use Rattle.plan_model.specs.declared.options.Checks.{Checks}
use Rattle.plan_model.specs.declared.options.Checks.TheVariants.{Leaf, AtOnce}
use Rattle.plan_model.specs.declared.networks.Head.TheVariants.{Task, Check}
use Rattle.plan_model.specs.declared.networks.Child.{Child}
use Rattle.plan_model.specs.declared.schemas.TaskSchema.{TaskSchema}
use Rattle.plan_model.specs.declared.schemas.MethodSchema.{MethodSchema}
use Rattle.plan_model.specs.declared.schemas.MethodPlan.{MethodPlan}
use Rattle.plan_model.specs.declared.values.Hddl.{Hddl}
use Rattle.plan_model.specs.declared.values.Compiled.{Compiled}
use Rattle.plan_model.specs.plan_meaning.Compilation.{children, check_child, IsMethodPlan, AreMethodPlans, IsCompiled}
use Rattle.plan_model.specs.plan_meaning.Truth.{values_of}
use Rattle.plan_model.specs.plan_meaning.Network.{Work, action, check, task, GroundMethod, network, child_of, decomposed, subtasks_of, top_task}
use Rattle.plan_model.specs.plan_meaning.Solution.{top_work}
use Rattle.plan_encoder.specs.Calls.{is_check}
use Rattle.plan_encoder.proofs.CallsApart.{each_at}

-- the plan at a place is that of the method there
plan_at : (h : Hddl) (mode : Checks) (ss : List MethodSchema) (ps : List MethodPlan) (k : ℕ) (p : MethodPlan) → AreMethodPlans h mode ss ps
    → slice_get ps k ≡ Some p → (s : MethodSchema) × (slice_get ss k ≡ Some s) × IsMethodPlan h mode s p
plan_at h mode [] [] k p a e = absurd cc
plan_at h mode [] (q ∷ ps) k p a e = absurd a
plan_at h mode (s ∷ ss) [] k p a e = absurd a
plan_at h mode (s ∷ ss) (q ∷ ps) zero p a e = (s, refl, subst (IsMethodPlan h mode s) (let f : q ≡ p = cc in f) a.0)
plan_at h mode (s ∷ ss) (q ∷ ps) (suc k) p a e = plan_at h mode ss ps k p a.1 e

module _ (c : Compiled) where
  -- a ground method by its plan
  pub head_is : (g : GroundMethod) (p : MethodPlan) → slice_get c.methods g.number ≡ Some p → (network c).head g ≡ decomposed g p
  head_is g p e = ap (λ o. option_map_or (decomposed g) o (task 0 [])) e

  pub works_are : (g : GroundMethod) (p : MethodPlan) → slice_get c.methods g.number ≡ Some p
      → (network c).works g ≡ map (child_of g) p.schema.children
  works_are g p e = ap (λ o. option_map_or (subtasks_of g) o []) e

  pub head_no_check : (g : GroundMethod) → is_check ((network c).head g) ≡ false
  head_no_check g = go (slice_get c.methods g.number)
    where
      go : (o : Option MethodPlan) → is_check (option_map_or (decomposed g) o (task 0 [])) ≡ false
      go None = refl
      go (Some p) = refl

  module _ (h : Hddl) (mode : Checks) (sound : IsSoundProblem h) (is : IsCompiled h mode c) where
    pub written_at : (k : ℕ) (p : MethodPlan) → slice_get c.methods k ≡ Some p
        → (s : MethodSchema) × (slice_get (h.top ∷ h.methods) k ≡ Some s) × IsMethodPlan h mode s p
    written_at k p e = plan_at h mode (h.top ∷ h.methods) c.methods k p is.methods e

    pub sound_at : (k : ℕ) (s : MethodSchema) → slice_get (h.top ∷ h.methods) k ≡ Some s → IsSoundMethod h s
    sound_at zero s e = subst (IsSoundMethod h) (let f : h.top ≡ s = cc in f) sound.value.top
    sound_at (suc k) s e = each_at (IsSoundMethod h) h.methods k s sound.value.methods e

    top_is : top_task c ≡ length h.tasks
    top_is = ap (λ (z : Hddl). length z.tasks) is.hddl

    -- the top method decomposes the top task, and each other method one that is declared
    pub top_method : (p : MethodPlan) → slice_get c.methods 0 ≡ Some p → (p.schema.task ≡ top_task c) × (p.schema.task_args ≡ [])
    top_method p e =
        let (s, on, plan) = written_at 0 p e in
        let f : h.top ≡ s = cc in (
          ap (λ (z : MethodSchema). z.task) plan.schema ∙ ap (λ (z : MethodSchema). z.task) (sym f) ∙ sound.value.top_task ∙ sym top_is,
          ap (λ (z : MethodSchema). z.task_args) plan.schema ∙ ap (λ (z : MethodSchema). z.task_args) (sym f) ∙ sound.value.top_args,
        )

    pub other_method : (k : ℕ) (p : MethodPlan) → slice_get c.methods (suc k) ≡ Some p
        → (r : TaskSchema) × (slice_get c.hddl.tasks p.schema.task ≡ Some r)
    other_method k p e =
        let (s, on, plan) = written_at (suc k) p e in
        let (r, there, many) = each_at (λ (s : MethodSchema). IsSoundHead h (Task s.task) (length s.task_args)) h.methods k s sound.value.method_tasks on in
        let same : p.schema.task ≡ s.task = ap (λ (z : MethodSchema). z.task) plan.schema in
        (r, ap (slice_get c.hddl.tasks) same ∙ subst (λ (z : Hddl). slice_get z.tasks s.task ≡ Some r) (sym is.hddl) there)

    -- so the methods of the top task have number 0
    pub top_number : (g : GroundMethod) (p : MethodPlan) → slice_get c.methods g.number ≡ Some p → (network c).head g ≡ top_work c
        → g.number ≡ 0
    top_number g p e f = go g.number e (let x : task p.schema.task (values_of g.values p.schema.task_args) ≡ task (top_task c) [] = sym (head_is g p e) ∙ f in ap number_of x)
      where
        number_of : Work → ℕ
        number_of (action a args) = a
        number_of (check m values) = m
        number_of (task t args) = t

        go : (k : ℕ) → slice_get c.methods k ≡ Some p → p.schema.task ≡ top_task c → k ≡ 0
        go zero e f = refl
        go (suc k) e f = let (r, there) = other_method k p e in let l = slice_get_within c.hddl.tasks p.schema.task r there in absurd (omega arith)

    -- subtasks are no checks
    no_check : (s : MethodSchema) → IsSoundMethod h s → (j : ℕ) (child : Child) → slice_get s.children j ≡ Some child → child.head ≡ Check
        → ⊥
    no_check s m j child at e =
        let x = (each_at (IsSoundChild h (scope_of h s.params)) s.children j child m.children at).0 in
        subst (λ z. IsSoundHead h z (length child.args)) e x

    -- a check is the first child of a checked method
    pub check_first : (k : ℕ) (p : MethodPlan) → slice_get c.methods k ≡ Some p → (j : ℕ) (child : Child)
        → slice_get p.schema.children j ≡ Some child
        → child.head ≡ Check → (j ≡ 0) × (p.checked ≡ true)
    check_first k p e j child at check_head =
        let (s, on, plan) = written_at k p e in
        let m = sound_at k s on in
        let same : p.schema.children ≡ children p.checked s = ap (λ (z : MethodSchema). z.children) plan.schema in
        go s m p.checked refl j (subst (λ z. slice_get z j ≡ Some child) same at)
      where
        go : (s : MethodSchema) → IsSoundMethod h s → (b : Bool) → p.checked ≡ b → (j : ℕ) → slice_get (children b s) j ≡ Some child
            → (j ≡ 0) × (p.checked ≡ true)
        go s m true f zero at = (refl, f)
        go s m true f (suc j) at = absurd (no_check s m j child at check_head)
        go s m false f j at = absurd (no_check s m j child at check_head)

    -- and a checked method has one
    pub first_is_check : (k : ℕ) (p : MethodPlan) → slice_get c.methods k ≡ Some p → p.checked ≡ true
        → (child : Child) × (slice_get p.schema.children 0 ≡ Some child) × (child.head ≡ Check)
    first_is_check k p e f =
        let (s, on, plan) = written_at k p e in
        let same : p.schema.children ≡ children p.checked s = ap (λ (z : MethodSchema). z.children) plan.schema in
        (check_child s, ap (λ z. slice_get z 0) (same ∙ ap (λ b. children b s) f), refl)

    -- a checked method isn't tested where it is applied
    pub checked_or_tested : (k : ℕ) (p : MethodPlan) → slice_get c.methods k ≡ Some p → p.checked ≡ true → p.tested ≡ true → ⊥
    checked_or_tested k p e f g =
        let (s, on, plan) = written_at k p e in
        let x = (plan.checked.0 f).0 in
        let y = (plan.tested.0 g).0 in
        let z : Leaf ≡ AtOnce = sym x ∙ y in
        cc
