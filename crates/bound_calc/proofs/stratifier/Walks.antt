-- A walk over the tasks from the top, as far as it went.
use Rattle.std.proofs.Common.{ℕ, zero, suc, ◌≡◌, ◌+◌, ◌<◌, ◌≤◌, ◌⊎◌, ◌↔◌, inl, inr, List, [], ◌∷◌, ◌++◌, length, Bool, false, get_or, map, Some, slice_get, Contains, refl, sym, subst, ap, ◌∙◌, arith}
use Rattle.std.proofs.lemmas.Bool.{false≢true}
use Rattle.std.proofs.lemmas.Option.{same_Some, slice_get_within, get_or_from_slice_get}
use Rattle.std.proofs.lemmas.List.Elements.{Contains-append_left, Contains-push, Contains-push_cases}
use Rattle.plan_model.specs.declared.networks.Head.{Head}
use Rattle.plan_model.specs.declared.networks.Head.TheVariants.{Task, Action, Check}
use Rattle.plan_model.specs.declared.networks.Child.{Child}
use Rattle.plan_model.specs.declared.schemas.MethodPlan.{MethodPlan}
use Rattle.plan_model.specs.declared.values.Compiled.{Compiled}
use Rattle.plan_model.specs.Parts.{IsMarked}
use Rattle.plan_model.proofs.Marks.{marked_within}
use Rattle.bound_calc.specs.stratifier.Conditions.{IsSmallCompiled, IsNumbered}
use Rattle.plan_model.specs.task_networks.Bound.{IsReached, itself, as_child}
use Rattle.plan_model.proofs.task_networks.Lists.{not-in_empty}
use Rattle.plan_model.specs.plan_meaning.Network.{top_task}
use Rattle.plan_model.specs.plan_meaning.Schemas.{Schema, task, schemas, schema_of}
use Rattle.plan_model.specs.plan_meaning.Strata.{IsReachedTask}
use Rattle.plan_model.proofs.plan_meaning.MethodParts.{head_schema_by, schemas_by}
use Rattle.bound_calc.specs.declared.stratifier.reach.Walk.{Walk}
use Rattle.bound_calc.specs.stratifier.Links.{IsMethodOf, IsSubtask, IsSubtaskOf}
use Rattle.bound_calc.specs.stratifier.Entered.{AreEntered}

-- the child of a method at a place
pub child_at : (m : ℕ) (children : List Child) (i t : ℕ) → slice_get (map (λ (child : Child). schema_of m child.head) children) i ≡ Some (task t) → IsSubtask children t
child_at m children i t e = go children i e
  where
    is_task : (h : Head) → schema_of m h ≡ task t → h ≡ Task t
    is_task (Task u) e = let f : u ≡ t = cc in ap Task f
    is_task (Action a) e = absurd cc
    is_task Check e = absurd cc

    go : (children : List Child) (i : ℕ) → slice_get (map (λ (child : Child). schema_of m child.head) children) i ≡ Some (task t) → IsSubtask children t
    go [] i e = absurd cc
    go (x ∷ xs) zero e = (x, (0, omega arith, refl), is_task x.head (let f : schema_of m x.head ≡ task t = cc in f))
    go (x ∷ xs) (suc i) e = let (child, (k, l, f), g) = go xs i e in (child, (suc k, omega arith, f), g)

pub place_of : (m : ℕ) (children : List Child) (t : ℕ) → IsSubtask children t → (i : ℕ) × (slice_get (map (λ (child : Child). schema_of m child.head) children) i ≡ Some (task t))
place_of m children t (child, (k, l, e), is) = (k, go children k l e)
  where
    go : (children : List Child) (k : ℕ) → k < length children → get_or children k child ≡ child → slice_get (map (λ (child : Child). schema_of m child.head) children) k ≡ Some (task t)
    go [] k l e = absurd (omega arith)
    go (x ∷ xs) zero l e = let f : schema_of m x.head ≡ task t = ap (λ (z : Child). schema_of m z.head) e ∙ ap (schema_of m) is in ap Some f
    go (x ∷ xs) (suc k) l e = go xs k (omega arith) e

module _ (c : Compiled) where
  abbrev top : Schema
  top = task (top_task c)

  -- a subtask of a method of a reached task is reached
  pub reached_next : (m : ℕ) (plan : MethodPlan) (t : ℕ) → slice_get c.methods m ≡ Some plan → IsReachedTask c plan.schema.task → IsSubtask plan.schema.children t → IsReachedTask c t
  reached_next m plan t e r s =
      let (i, f) = place_of m plan.schema.children t s in
      as_child m i (plan, e) (subst (IsReached (schemas c) top) (sym (ap head_schema_by e)) r) (subst (λ o. slice_get (schemas_by m o) i ≡ Some (task t)) (sym e) f)

  abbrev pub IsNext : ℕ → ℕ → Type 0
  IsNext t u = (m : ℕ) × (plan : MethodPlan) × (slice_get c.methods m ≡ Some plan) × (plan.schema.task ≡ t) × IsSubtask plan.schema.children u

  -- each marked task is reached; it is still to be done, or the next ones are marked too
  pub record IsWalked (marks : List Bool) (work : List ℕ) : Type 0 where
    pub room : length marks ≡ top_task c + 1
    pub top_marked : IsMarked marks (top_task c)
    pub reached : (t : ℕ) → IsMarked marks t → IsReachedTask c t
    pub to_do : (t : ℕ) → Contains work t → IsMarked marks t
    pub done : (t : ℕ) → IsMarked marks t → Contains work t ⊎ ((u : ℕ) → IsNext t u → IsMarked marks u)

  pub walked_first : (old new : Walk) → length old.marks.items ≡ top_task c + 1 → ((t : ℕ) → get_or old.marks.items t false ≡ false) → old.work.items ≡ []
      → AreEntered (λ t. t ≡ top_task c) old new → IsWalked new.marks.items new.work.items
  walked_first old new room none empty h = record {
    room = h.room ∙ room;
    top_marked = (h.marks (top_task c)).1 (inr refl);
    reached = λ t m. elim ((h.marks t).0 m) [ inl o ↦ absurd (not_old t o) | inr e ↦ subst (IsReachedTask c) (sym e) itself ];
    to_do = λ t k. elim (h.added t k) [ inl o ↦ absurd (not-in_empty t (subst (λ s. Contains s t) empty o)) | inr m ↦ m.0 ];
    done = λ t m. elim (h.to_do t m) [ inl o ↦ absurd (not_old t o) | inr k ↦ inl k ];
  }
    where
      not_old : (t : ℕ) → IsMarked old.marks.items t → ⊥
      not_old t o = false≢true (sym (none t) ∙ o)

  pub walked_on : (marks : List Bool) (work : List ℕ) (t : ℕ) (old new : Walk) (places : List ℕ) → IsWalked marks work → work ≡ old.work.items ++ t ∷ [] → old.marks.items ≡ marks
      → ((m : ℕ) → Contains places m ↔ IsMethodOf c.methods t m) → AreEntered (IsSubtaskOf c.methods places) old new → IsWalked new.marks.items new.work.items
  walked_on marks work t old new places w e same methods h = record {
    room = h.room ∙ (ap length same ∙ w.room);
    top_marked = kept (top_task c) w.top_marked;
    reached = λ u m. elim ((h.marks u).0 m) [ inl o ↦ w.reached u (subst (λ s. IsMarked s u) same o) | inr n ↦ next_reached u n ];
    to_do = λ u k. elim (h.added u k) [ inl o ↦ kept u (w.to_do u (subst (λ s. Contains s u) (sym e) (Contains-append_left old.work.items (t ∷ []) u o))) | inr m ↦ m.0 ];
    done = λ u m. elim (h.to_do u m) [
      | inl o ↦ elim (w.done u (subst (λ s. IsMarked s u) same o)) [
        | inl k ↦ elim (Contains-push_cases old.work.items t u (subst (λ s. Contains s u) e k)) [
          | inl r ↦ inl (h.kept u r)
          | inr f ↦ inr (λ v n. next_marked v (subst (λ z. IsNext z v) (sym f) n))
        ]
        | inr f ↦ inr (λ v n. kept v (f v n))
      ]
      | inr k ↦ inl k
    ];
  }
    where
      kept : (u : ℕ) → IsMarked marks u → IsMarked new.marks.items u
      kept u m = (h.marks u).1 (inl (subst (λ s. IsMarked s u) (sym same) m))

      t_reached : IsReachedTask c t
      t_reached = w.reached t (w.to_do t (subst (λ s. Contains s t) (sym e) (Contains-push old.work.items t)))

      next_reached : (u : ℕ) → IsSubtaskOf c.methods places u → IsReachedTask c u
      next_reached u (m, k, plan, f, s) =
          let (other, g, i) = (methods m).0 k in
          let p : other ≡ plan = same_Some other plan (sym g ∙ f) in
          reached_next m plan u f (subst (IsReachedTask c) (sym i ∙ ap (λ (z : MethodPlan). z.schema.task) p) t_reached) s

      next_marked : (u : ℕ) → IsNext t u → IsMarked new.marks.items u
      next_marked u (m, plan, f, g, s) = (h.marks u).1 (inr (m, (methods m).1 (plan, f, g), plan, f, s))

  -- at the end all that are reached are marked
  pub walked_all : (marks : List Bool) (work : List ℕ) → work ≡ [] → IsWalked marks work → (t : ℕ) → IsMarked marks t ↔ IsReachedTask c t
  walked_all marks work e w t = (w.reached t, λ r. all (task t) r t refl)
    where
      on : (t u : ℕ) → IsMarked marks t → IsNext t u → IsMarked marks u
      on t u m n = elim (w.done t m) [ inl k ↦ absurd (not-in_empty t (subst (λ s. Contains s t) e k)) | inr f ↦ f u n ]

      all : (s : Schema) → IsReached (schemas c) top s → (t : ℕ) → s ≡ task t → IsMarked marks t
      all s itself t f = let g : top_task c ≡ t = cc in subst (IsMarked marks) g w.top_marked
      all s (as_child m i (plan, p) r k) t f =
          on plan.schema.task t (all ((schemas c).head m) r plan.schema.task (ap head_schema_by p))
          (m, plan, p, refl, child_at m plan.schema.children i t (subst (λ o. slice_get (schemas_by m o) i ≡ Some (task t)) p (k ∙ ap Some f)))

  -- a task that is still to be done is up to the top
  pub work_within : (marks : List Bool) (work rest : List ℕ) (t : ℕ) → IsWalked marks work → work ≡ rest ++ t ∷ [] → t < top_task c + 1
  work_within marks work rest t w e =
      let l = marked_within marks t (w.to_do t (subst (λ s. Contains s t) (sym e) (Contains-push rest t))) in
      let r = w.room in
      omega arith

  pub next_within : IsSmallCompiled c → (methods : List MethodPlan) (places : List ℕ) → methods ≡ c.methods → (t : ℕ) → IsSubtaskOf methods places t → t ≤ top_task c
  next_within small methods places e t (m, k, plan, f, s) =
      let g = ap (λ ms. slice_get ms m) (sym e) ∙ f in
      let n = small.numbered m plan (slice_get_within c.methods m plan g) in
      let is = get_or_from_slice_get c.methods m plan plan g in
      (subst (IsNumbered (top_task c)) is n).subtasks t s

pub place_within : (methods : List MethodPlan) (t m : ℕ) → IsMethodOf methods t m → m < length methods
place_within methods t m (plan, e, f) = slice_get_within methods m plan e
