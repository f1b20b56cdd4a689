-- Where a method's guards hold, the arguments of its children are of the declared types, and the other way round.
use Rattle.std.proofs.Common.{ℕ, zero, suc, ◌≡◌, ◌≢◌, ◌==◌, ◌&&◌, ◌↔◌, ◌⊎◌, inl, inr, nat_eq, Bool, true, false, List, [], ◌∷◌, map, length, slice_get, slice_index, Option, Some, None, refl, ap, sym, subst, ◌∙◌, Contains, arith}
use Rattle.std.proofs.lemmas.Bool.Decides.{eqb_tells}
use Rattle.std.proofs.lemmas.List.Elements.{Contains-append_left, Contains-append_right}
use Rattle.plan_model.specs.declared.options.Checks.{Checks}
use Rattle.plan_model.specs.declared.terms.Term.{Term}
use Rattle.plan_model.specs.declared.terms.Term.TheVariants.{Var, Obj}
use Rattle.plan_model.specs.declared.terms.Param.{Param}
use Rattle.plan_model.specs.declared.networks.Head.{Head}
use Rattle.plan_model.specs.declared.networks.Head.TheVariants.{Task, Action, Check}
use Rattle.plan_model.specs.declared.networks.Child.{Child}
use Rattle.plan_model.specs.declared.networks.Guard.{Guard}
use Rattle.plan_model.specs.declared.schemas.MethodSchema.{MethodSchema}
use Rattle.plan_model.specs.declared.schemas.MethodPlan.{MethodPlan}
use Rattle.plan_model.specs.declared.values.Hddl.{Hddl}
use Rattle.plan_model.specs.declared.values.Compiled.{Compiled}
use Rattle.plan_model.proofs.task_networks.Lists.{not-in_empty, head_or_tail, Contains-here, Contains-later}
use Rattle.plan_texts.specs.SoundValue.{IsSoundHead, IsSoundChild, IsSoundMethod, IsSoundHddl, scope_of}
use Rattle.plan_texts.proofs.Members.{each-has, contains-has}
use Rattle.plan_model.specs.plan_meaning.Truth.{value_of, values_of, AreTyped}
use Rattle.plan_model.specs.plan_meaning.Network.{GroundMethod, ground_work, child_of, InTypeOf, IsDeclared}
use Rattle.plan_model.specs.plan_meaning.Compilation.{same_term, same_guard, check_child, children, params_of_task, params_of_action, params_of, placed, all_placed, IsParamIn, IsDeclaredIn, IsGuard, IsMethodPlan, IsCompiled}
use Rattle.slot_encoding.specs.EncodedNames.{joined, guard_types}
use Rattle.plan_model.proofs.plan_meaning.Pairs.{once_to, to_once, append_to}
use Rattle.plan_model.proofs.plan_meaning.CompiledNetworks.{plan_of}
use Rattle.slot_encoding.proofs.places.WellWorded.{IsWellWorded}
use Rattle.slot_encoding.proofs.Pieces.{GuardsDeclare}
use Rattle.slot_encoding.proofs.places.ObjectTypes.{sound_here}
use Rattle.plan_model.specs.declared.options.Style.{Style}
use Rattle.plan_model.specs.declared.values.Pddl.{Pddl}
use Rattle.slot_encoding.proofs.places.ListPlaces.{get_contains}
use Rattle.slot_encoding.proofs.places.KeptItems.{keeps_to, kept_cases}
use Rattle.slot_encoding.proofs.places.SoundTypes.{in_larger, is_a_decided, in_type_decided}

tells_term : (s t : Term) → (same_term s t ≡ false) ⊎ (s ≡ t)
tells_term (Var i) (Var j) = elim (eqb_tells i j) [ inl h ↦ inr (ap Var h.1) | inr h ↦ inl h.0 ]
tells_term (Obj i) (Obj j) = elim (eqb_tells i j) [ inl h ↦ inr (ap Obj h.1) | inr h ↦ inl h.0 ]
tells_term (Var i) (Obj j) = inl refl
tells_term (Obj i) (Var j) = inl refl

tells_guard : (g k : Guard) → (same_guard g k ≡ false) ⊎ (g ≡ k)
tells_guard g k = go (eqb_tells g.ty k.ty) (tells_term g.term k.term)
  where
    go : (((g.ty == k.ty) ≡ true) × (g.ty ≡ k.ty)) ⊎ (((g.ty == k.ty) ≡ false) × (g.ty ≢ k.ty)) → (same_term g.term k.term ≡ false) ⊎ (g.term ≡ k.term) → (same_guard g k ≡ false) ⊎ (g ≡ k)
    go (inl a) (inl b) = inl (ap (λ x. x && same_term g.term k.term) a.0 ∙ b)
    go (inl a) (inr b) = inr (λ i. record { ty = a.1 i; term = b i })
    go (inr a) b = inl (ap (λ x. x && same_term g.term k.term) a.0)

module _ (mode : Checks) (c : Compiled) (compiled : IsCompiled c.hddl mode c) (sound : IsSoundHddl c.hddl) where
  -- a compiled method is that of a sound one
  pub method_of : (m : ℕ) (plan : MethodPlan) → slice_get c.methods m ≡ Some plan → (s : MethodSchema) × IsMethodPlan c.hddl mode s plan × IsSoundMethod c.hddl s
  method_of m plan e =
      let (s, k, i) = plan_of c.hddl mode (c.hddl.top ∷ c.hddl.methods) c.methods m plan compiled.methods e in
      (s, i, each-has (IsSoundMethod c.hddl) (c.hddl.top ∷ c.hddl.methods) s (sound.top, sound.methods) (contains-has (c.hddl.top ∷ c.hddl.methods) s k))

  declared_decided : (s : MethodSchema) (ty : ℕ) (t : Term) → Dec (IsDeclaredIn c.hddl s ty t)
  declared_decided s ty (Var k) = go (slice_get s.params k)
    where
      go : (o : Option Param) → Dec (IsParamIn c.hddl s o ty)
      go None = no (λ x. x)
      go (Some x) = is_a_decided c.hddl sound x.ty ty
  declared_decided s ty (Obj o) = in_type_decided c.hddl sound o ty

  typed_at : (params : List Param) (values : List ℕ) (k : ℕ) (x : Param) → AreTyped (InTypeOf c) params values → slice_get params k ≡ Some x → InTypeOf c (slice_index values k) x.ty
  typed_at [] values k x t e = absurd cc
  typed_at (y ∷ params) [] k x t e = absurd t
  typed_at (y ∷ params) (o ∷ values) zero x t e = subst (λ (z : Param). InTypeOf c o z.ty) (let f : y ≡ x = cc in f) t.0
  typed_at (y ∷ params) (o ∷ values) (suc k) x t e = typed_at params values k x t.1 e

  module _ (values : List ℕ) where
    -- a term whose declaration puts it into a type is of it
    declared_value : (s : MethodSchema) (ty : ℕ) (t : Term) → AreTyped (InTypeOf c) s.params values → IsDeclaredIn c.hddl s ty t → InTypeOf c (value_of values t) ty
    declared_value s ty (Var k) typed d = go (slice_get s.params k) refl d
      where
        go : (o : Option Param) → slice_get s.params k ≡ o → IsParamIn c.hddl s o ty → InTypeOf c (slice_index values k) ty
        go None e i = absurd i
        go (Some x) e i = in_larger c.hddl sound (slice_index values k) x.ty ty (typed_at s.params values k x typed e) i
    declared_value s ty (Obj o) typed d = d

    -- each placed term is of its type where the list is typed
    typed_from : (params : List Param) (args : List Term) → length args ≡ length params → ((k : Guard) → Contains (placed c.hddl params args) k → InTypeOf c (value_of values k.term) k.ty) → AreTyped (InTypeOf c) params (values_of values args)
    typed_from [] [] l f = tt
    typed_from [] (t ∷ args) l f = absurd (omega arith)
    typed_from (x ∷ params) [] l f = absurd (omega arith)
    typed_from (x ∷ params) (t ∷ args) l f =
        let here : Guard = record { ty = x.ty; term = t } in
        (f here (Contains-here here (placed c.hddl params args)), typed_from params args (omega arith) (λ k m. f k (Contains-later here (placed c.hddl params args) k m)))

    typed_to : (params : List Param) (args : List Term) → AreTyped (InTypeOf c) params (values_of values args) → (k : Guard) → Contains (placed c.hddl params args) k → InTypeOf c (value_of values k.term) k.ty
    typed_to [] args t k m = absurd (not-in_empty k m)
    typed_to (x ∷ params) [] t k m = absurd t
    typed_to (x ∷ params) (a ∷ args) t k m = elim (head_or_tail (record { ty = x.ty; term = a }) (placed c.hddl params args) k m) [
      | inl e ↦ subst (λ (z : Guard). InTypeOf c (value_of values z.term) z.ty) e t.0
      | inr d ↦ typed_to params args t.1 k d
    ]

  placed_in : (all : List Child) (child : Child) (k : Guard) → Contains all child → Contains (placed c.hddl (params_of c.hddl child.head) child.args) k → Contains (all_placed c.hddl all) k
  placed_in [] child k m n = absurd (not-in_empty child m)
  placed_in (x ∷ all) child k m n = elim (head_or_tail x all child m) [
    | inl e ↦ Contains-append_left (placed c.hddl (params_of c.hddl x.head) x.args) (all_placed c.hddl all) k (subst (λ (z : Child). Contains (placed c.hddl (params_of c.hddl z.head) z.args) k) (sym e) n)
    | inr d ↦ Contains-append_right (placed c.hddl (params_of c.hddl x.head) x.args) (all_placed c.hddl all) k (placed_in all child k d n)
  ]

  placed_by : (all : List Child) (k : Guard) → Contains (all_placed c.hddl all) k → (child : Child) × Contains all child × Contains (placed c.hddl (params_of c.hddl child.head) child.args) k
  placed_by [] k m = absurd (not-in_empty k m)
  placed_by (x ∷ all) k m = elim (append_to (placed c.hddl (params_of c.hddl x.head) x.args) (all_placed c.hddl all) k m) [
    | inl n ↦ (x, Contains-here x all, n)
    | inr d ↦ (let (child, n, i) = placed_by all k d in (child, Contains-later x all child n, i))
  ]

  module _ (g : GroundMethod) where
    declared_from : (head : Head) (n : ℕ) (os : List ℕ) → IsSoundHead c.hddl head n → AreTyped (InTypeOf c) (params_of c.hddl head) os → IsDeclared c (ground_work g head os)
    declared_from (Task t) n os (s, e, l) typed = (s.params, (s, e, refl), subst (λ z. AreTyped (InTypeOf c) (params_of_task c.hddl z) os) e typed)
    declared_from (Action a) n os (s, e, l) typed = (s.params, (s, e, refl), subst (λ z. AreTyped (InTypeOf c) (params_of_action c.hddl z) os) e typed)
    declared_from Check n os h typed = absurd h

    declared_to : (head : Head) (n : ℕ) (os : List ℕ) → IsSoundHead c.hddl head n → IsDeclared c (ground_work g head os) → AreTyped (InTypeOf c) (params_of c.hddl head) os
    declared_to (Task t) n os h (params, (s, e, f), typed) = subst (λ z. AreTyped (InTypeOf c) (params_of_task c.hddl z) os) (sym e) (subst (λ z. AreTyped (InTypeOf c) z os) (sym f) typed)
    declared_to (Action a) n os h (params, (s, e, f), typed) = subst (λ z. AreTyped (InTypeOf c) (params_of_action c.hddl z) os) (sym e) (subst (λ z. AreTyped (InTypeOf c) z os) (sym f) typed)
    declared_to Check n os h d = absurd h

    -- a sound subtask has as many arguments as parameters
    as_many : (head : Head) (n : ℕ) → IsSoundHead c.hddl head n → n ≡ length (params_of c.hddl head)
    as_many (Task t) n (s, e, l) = l ∙ ap (λ z. length (params_of_task c.hddl z)) (sym e)
    as_many (Action a) n (s, e, l) = l ∙ ap (λ z. length (params_of_action c.hddl z)) (sym e)
    as_many Check n h = absurd h

    module _ (plan : MethodPlan) (e : slice_get c.methods g.number ≡ Some plan) (typed : AreTyped (InTypeOf c) plan.schema.params g.values) where
      abbrev Hold : Type 0
      Hold = (k : Guard) → Contains plan.guards k → InTypeOf c (value_of g.values k.term) k.ty

      abbrev Declared : Child → Type 0
      Declared child = IsDeclared c (child_of g child)

      module _ (s : MethodSchema) (is : IsMethodPlan c.hddl mode s plan) (whole : IsSoundMethod c.hddl s) where
        typed_source : AreTyped (InTypeOf c) s.params g.values
        typed_source = subst (λ (z : MethodSchema). AreTyped (InTypeOf c) z.params g.values) is.schema typed

        sound_child : (child : Child) → Contains s.children child → IsSoundHead c.hddl child.head (length child.args)
        sound_child child m = (each-has (IsSoundChild c.hddl (scope_of c.hddl s.params)) s.children child whole.children (contains-has s.children child m)).0

        -- each argument is of its type: by its guard, or by its declaration
        placed_typed : Hold → (k : Guard) → Contains (all_placed c.hddl s.children) k → InTypeOf c (value_of g.values k.term) k.ty
        placed_typed hold k m =
            let (all, keeps, f) = is.guards in
            elim (kept_cases (IsGuard c.hddl s) (all_placed c.hddl s.children) all keeps k m) [
              | inl n ↦ hold k (subst (λ z. Contains z k) (sym f) (to_once same_guard tells_guard all k n))
              | inr n ↦ by (declared_decided s k.ty k.term) n
            ]
          where
            by : Dec (IsDeclaredIn c.hddl s k.ty k.term) → (IsGuard c.hddl s k → ⊥) → InTypeOf c (value_of g.values k.term) k.ty
            by (yes d) n = declared_value g.values s k.ty k.term typed_source d
            by (no d) n = absurd (n d)

        subtask_declared : Hold → (child : Child) → Contains s.children child → Declared child
        subtask_declared hold child m =
            let h = sound_child child m in
            declared_from child.head (length child.args) (values_of g.values child.args) h (typed_from g.values (params_of c.hddl child.head) child.args (as_many child.head (length child.args) h) (λ k n. placed_typed hold k (placed_in s.children child k m n)))

        all_declared : Hold → (b : Bool) (child : Child) → Contains (children b s) child → Declared child
        all_declared hold true child m = elim (head_or_tail (check_child s) s.children child m) [
          | inl f ↦ subst Declared f (plan.schema.params, (plan, e, refl), typed)
          | inr d ↦ subtask_declared hold child d
        ]
        all_declared hold false child m = subtask_declared hold child m

        to_children : (b : Bool) (child : Child) → Contains s.children child → Contains (children b s) child
        to_children true child m = Contains-later (check_child s) s.children child m
        to_children false child m = m

        guard_holds : ((child : Child) → Contains (children plan.checked s) child → Declared child) → Hold
        guard_holds declared k m =
            let (all, keeps, f) = is.guards in
            let n = (keeps_to (IsGuard c.hddl s) (all_placed c.hddl s.children) all keeps k (once_to same_guard all k (subst (λ z. Contains z k) f m))).0 in
            let (child, i, j) = placed_by s.children k n in
            typed_to g.values (params_of c.hddl child.head) child.args (declared_to child.head (length child.args) (values_of g.values child.args) (sound_child child i) (declared child (to_children plan.checked child i))) k j

        same_children : plan.schema.children ≡ children plan.checked s
        same_children = ap (λ (z : MethodSchema). z.children) is.schema

        both : Hold ↔ ((child : Child) → Contains plan.schema.children child → Declared child)
        both = (λ hold child m. all_declared hold plan.checked child (subst (λ z. Contains z child) same_children m), λ declared. guard_holds (λ child m. declared child (subst (λ z. Contains z child) (sym same_children) m)))

  pub guards_declare : GuardsDeclare c
  guards_declare = λ g plan e typed. (let (s, is, whole) = method_of g.number plan e in both g plan e typed s is whole)

-- the type of a method's guard is one of the types of guards
pub guard_type : (c : Compiled) (m : ℕ) (plan : MethodPlan) (k : Guard) → slice_get c.methods m ≡ Some plan → Contains plan.guards k → Contains (guard_types c) k.ty
guard_type c m plan k e n = to_once nat_eq tells (joined (map (λ (p : MethodPlan). map (λ (g : Guard). g.ty) p.guards) c.methods)) k.ty (among c.methods (get_contains c.methods m plan e))
  where
    tells : (s t : ℕ) → (nat_eq s t ≡ false) ⊎ (s ≡ t)
    tells s t = elim (eqb_tells s t) [ inl h ↦ inr h.1 | inr h ↦ inl h.0 ]

    in_map : (gs : List Guard) → Contains gs k → Contains (map (λ (g : Guard). g.ty) gs) k.ty
    in_map [] d = absurd (not-in_empty k d)
    in_map (g ∷ gs) (zero, l, f) = (0, omega arith, ap (λ (z : Guard). z.ty) f)
    in_map (g ∷ gs) (suc j, l, f) = Contains-later g.ty (map (λ (g : Guard). g.ty) gs) k.ty (in_map gs (j, omega arith, f))

    among : (plans : List MethodPlan) → Contains plans plan → Contains (joined (map (λ (p : MethodPlan). map (λ (g : Guard). g.ty) p.guards) plans)) k.ty
    among [] d = absurd (not-in_empty plan d)
    among (p ∷ plans) d = elim (head_or_tail p plans plan d) [
      | inl f ↦ Contains-append_left (map (λ (g : Guard). g.ty) p.guards) (joined (map (λ (p : MethodPlan). map (λ (g : Guard). g.ty) p.guards) plans)) k.ty (in_map p.guards (subst (λ (z : MethodPlan). Contains z.guards k) (sym f) n))
      | inr i ↦ Contains-append_right (map (λ (g : Guard). g.ty) p.guards) (joined (map (λ (p : MethodPlan). map (λ (g : Guard). g.ty) p.guards) plans)) k.ty (among plans i)
    ]

pub compiled_here : (h : Hddl) (mode : Checks) (c : Compiled) (b : ℕ) (style : Style) (p : Pddl) → IsWellWorded h mode c b style p → IsCompiled c.hddl mode c
compiled_here h mode c b style p is = subst (λ z. IsCompiled z mode c) (sym is.compiled.hddl) is.compiled

pub guards_agree : (h : Hddl) (mode : Checks) (c : Compiled) (b : ℕ) (style : Style) (p : Pddl) → IsWellWorded h mode c b style p → GuardsDeclare c
guards_agree h mode c b style p is = guards_declare mode c (compiled_here h mode c b style p is) (sound_here h mode c b style p is)
