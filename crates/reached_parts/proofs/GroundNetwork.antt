-- The network of a compiled problem with listed ground methods alone is finite.
use Rattle.std.proofs.Common.{ℕ, ◌≡◌, ◌<◌, ◌⊎◌, inl, inr, List, [], ◌∷◌, ◌++◌, length, Option, Some, None, slice_get, refl, ap, sym, subst, ◌∙◌, Contains, arith}
use Rattle.std.proofs.lemmas.List.{length-map}
use Rattle.plan_model.specs.declared.terms.Param.{Param}
use Rattle.plan_model.specs.declared.options.Checks.{Checks}
use Rattle.plan_model.specs.declared.schemas.MethodPlan.{MethodPlan}
use Rattle.plan_model.specs.declared.values.Hddl.{Hddl}
use Rattle.plan_model.specs.declared.values.Compiled.{Compiled}
use Rattle.plan_model.specs.task_networks.Net.{count}
use Rattle.plan_model.specs.task_networks.Order.{IsLine}
use Rattle.plan_model.proofs.task_networks.BoundLaws.{by_size}
use Rattle.plan_model.specs.plan_meaning.Truth.{AreTyped}
use Rattle.plan_model.specs.plan_meaning.Network.{Work, action, check, task, IsPrimitive, GroundMethod, child_of, InTypeOf, IsGroundMethod, network}
use Rattle.plan_model.specs.plan_meaning.Compilation.{IsCompiled}
use Rattle.plan_model.proofs.plan_meaning.CompiledNetworks.{plan_of}
use Rattle.plan_model.proofs.plan_meaning.MethodParts.{head_by, works_by, IsPairBy}
use Rattle.slot_machine.proofs.bound_laws.Decided.{Or_not, AreTold, same_or_not}
use Rattle.slot_machine.proofs.bound_laws.ProblemEdges.{plan_told}
use Rattle.slot_machine.specs.bound_laws.Finite.{IsDecided, IsFinite}
use Rattle.reached_parts.specs.Reached.{over}
use Rattle.reached_parts.specs.MethodOrder.{AreBefore, IsBefore}

pub lists_told : AreTold (List ℕ)
lists_told [] [] = inl refl
lists_told [] (y ∷ ys) = inr (λ e. cc)
lists_told (x ∷ xs) [] = inr (λ e. cc)
lists_told (x ∷ xs) (y ∷ ys) = go (same_or_not x y) (lists_told xs ys)
  where
    go : Or_not (x ≡ y) → Or_not (xs ≡ ys) → Or_not (x ∷ xs ≡ y ∷ ys)
    go (inl e) (inl f) = inl cc
    go (inr n) d = inr (λ e. n cc)
    go (inl e) (inr n) = inr (λ f. n cc)

abbrev kind : Work → ℕ
kind (action a args) = 0
kind (check m values) = 1
kind (task t args) = 2

abbrev number_in : Work → ℕ
number_in (action a args) = a
number_in (check m values) = m
number_in (task t args) = t

abbrev objects_in : Work → List ℕ
objects_in (action a args) = args
objects_in (check m values) = values
objects_in (task t args) = args

made_of : (v w : Work) → kind v ≡ kind w → number_in v ≡ number_in w → objects_in v ≡ objects_in w → v ≡ w
made_of (action a xs) (action b ys) k e f = cc
made_of (action a xs) (check b ys) k e f = absurd (omega arith)
made_of (action a xs) (task b ys) k e f = absurd (omega arith)
made_of (check a xs) (action b ys) k e f = absurd (omega arith)
made_of (check a xs) (check b ys) k e f = cc
made_of (check a xs) (task b ys) k e f = absurd (omega arith)
made_of (task a xs) (action b ys) k e f = absurd (omega arith)
made_of (task a xs) (check b ys) k e f = absurd (omega arith)
made_of (task a xs) (task b ys) k e f = cc

pub works_told : AreTold Work
works_told v w = go (same_or_not (kind v) (kind w)) (same_or_not (number_in v) (number_in w)) (lists_told (objects_in v) (objects_in w))
  where
    go : Or_not (kind v ≡ kind w) → Or_not (number_in v ≡ number_in w) → Or_not (objects_in v ≡ objects_in w) → Or_not (v ≡ w)
    go (inl k) (inl e) (inl f) = inl (made_of v w k e f)
    go (inr n) d f = inr (λ e. n (ap kind e))
    go (inl k) (inr n) f = inr (λ e. n (ap number_in e))
    go (inl k) (inl e) (inr n) = inr (λ e. n (ap objects_in e))

simple_told : (w : Work) → Or_not (IsPrimitive w)
simple_told (action a xs) = inl tt
simple_told (check a xs) = inl tt
simple_told (task a xs) = inr (λ e. e)

before_lists : (xs ys zs : List ℕ) → AreBefore xs ys → AreBefore ys zs → AreBefore xs zs
before_lists [] ys zs a b = a
before_lists (x ∷ xs) [] zs a b = absurd a
before_lists (x ∷ xs) (y ∷ ys) [] a b = absurd b
before_lists (x ∷ xs) (y ∷ ys) (z ∷ zs) (inl a) (inl b) = inl (omega arith)
before_lists (x ∷ xs) (y ∷ ys) (z ∷ zs) (inl a) (inr (b, l)) = inl (omega arith)
before_lists (x ∷ xs) (y ∷ ys) (z ∷ zs) (inr (a, k)) (inl b) = inl (omega arith)
before_lists (x ∷ xs) (y ∷ ys) (z ∷ zs) (inr (a, k)) (inr (b, l)) = inr (a ∙ b, before_lists xs ys zs k l)

not_before : (xs : List ℕ) → AreBefore xs xs → ⊥
not_before [] a = a
not_before (x ∷ xs) (inl a) = absurd (omega arith)
not_before (x ∷ xs) (inr (a, k)) = not_before xs k

before_then : (g h k : GroundMethod) → IsBefore g h → IsBefore h k → IsBefore g k
before_then g h k (inl a) (inl b) = inl (omega arith)
before_then g h k (inl a) (inr (b, l)) = inl (omega arith)
before_then g h k (inr (a, j)) (inl b) = inl (omega arith)
before_then g h k (inr (a, j)) (inr (b, l)) = inr (a ∙ b, before_lists g.values h.values k.values j l)

not_itself : (g : GroundMethod) → IsBefore g g → ⊥
not_itself g (inl a) = absurd (omega arith)
not_itself g (inr (a, k)) = not_before g.values k

-- objects for the same parameters are in an order
either_lists : (T : ℕ → ℕ → Type 0) (ps : List Param) (xs ys : List ℕ) → AreTyped T ps xs → AreTyped T ps ys → AreBefore xs ys ⊎ ((xs ≡ ys) ⊎ AreBefore ys xs)
either_lists T [] [] [] a b = inr (inl refl)
either_lists T [] [] (y ∷ ys) a b = absurd b
either_lists T [] (x ∷ xs) ys a b = absurd a
either_lists T (p ∷ ps) [] ys a b = absurd a
either_lists T (p ∷ ps) (x ∷ xs) [] a b = absurd b
either_lists T (p ∷ ps) (x ∷ xs) (y ∷ ys) a b = go (by_size x y) (either_lists T ps xs ys a.1 b.1)
  where
    go : (x < y) ⊎ ((x ≡ y) ⊎ (y < x)) → AreBefore xs ys ⊎ ((xs ≡ ys) ⊎ AreBefore ys xs) → AreBefore (x ∷ xs) (y ∷ ys) ⊎ ((x ∷ xs ≡ y ∷ ys) ⊎ AreBefore (y ∷ ys) (x ∷ xs))
    go (inl l) r = inl (inl l)
    go (inr (inr l)) r = inr (inr (inl l))
    go (inr (inl e)) (inl r) = inl (inr (e, r))
    go (inr (inl e)) (inr (inl f)) = inr (inl cc)
    go (inr (inl e)) (inr (inr r)) = inr (inr (inr (sym e, r)))

module _ (h : Hddl) (mode : Checks) (c : Compiled) (compiled : IsCompiled h mode c) where
  either : (g k : GroundMethod) → IsGroundMethod c g → IsGroundMethod c k → IsBefore g k ⊎ ((g ≡ k) ⊎ IsBefore k g)
  either g k i j = go (by_size g.number k.number)
    where
      go : (g.number < k.number) ⊎ ((g.number ≡ k.number) ⊎ (k.number < g.number)) → IsBefore g k ⊎ ((g ≡ k) ⊎ IsBefore k g)
      go (inl l) = inl (inl l)
      go (inr (inr l)) = inr (inr (inl l))
      go (inr (inl e)) =
          let a = i.is in
          let b = j.is in
          let s = ap (slice_get c.methods) e in
          let f : j.plan ≡ i.plan = cc in
          elim (either_lists (InTypeOf c) i.plan.schema.params g.values k.values i.typed (subst (λ (z : MethodPlan). AreTyped (InTypeOf c) z.schema.params k.values) f j.typed)) [
            | inl r ↦ inl (inr (e, r))
            | inr (inl r) ↦ inr (inl (λ t. record { number = e t; values = r t }))
            | inr (inr r) ↦ inr (inr (inr (sym e, r)))
          ]

  no_cut : (before rest : List ℕ) (i : ℕ) → [] ≡ before ++ i ∷ rest → ⊥
  no_cut [] rest i e = cc
  no_cut (x ∷ before) rest i e = cc

  lines : (g : GroundMethod) → (line : List ℕ) × IsLine ((network c).Pair g) (count (network c) g) line
  lines g = go (slice_get c.methods g.number) refl
    where
      go : (o : Option MethodPlan) → slice_get c.methods g.number ≡ o → (line : List ℕ) × IsLine (IsPairBy o) (length (works_by g o)) line
      go None e = ([], record { whole = λ i l. absurd (let x : i < 0 = l in omega arith); each = λ before rest i f. absurd (no_cut before rest i f) })
      go (Some plan) e =
          let (s, k, is) = plan_of h mode (h.top ∷ h.methods) c.methods g.number plan compiled.methods e in
          (plan.line, subst (λ z. IsLine (IsPairBy (Some plan)) z plan.line) (sym (length-map plan.schema.children (child_of g))) is.line)

  head_is_task : (g : GroundMethod) → IsPrimitive ((network c).head g) → ⊥
  head_is_task g s = go (slice_get c.methods g.number) s
    where
      go : (o : Option MethodPlan) → IsPrimitive (head_by g o) → ⊥
      go None x = x
      go (Some plan) x = x

  pub decided : (methods : List GroundMethod) → ((g : GroundMethod) → Contains methods g → IsGroundMethod c g) → IsDecided (over c methods) IsBefore
  decided methods ground = record {
    methods = methods;
    listed = λ g. (λ k. k, λ k. k);
    head_is_task = head_is_task;
    same = works_told;
    simple = simple_told;
    precedes = λ g i j. plan_told (slice_get c.methods g.number) i j;
    either = λ g k a b. either g k (ground g a) (ground k b);
    before_then = before_then;
    not_itself = not_itself;
  }

  pub finite : (methods : List GroundMethod) → ((g : GroundMethod) → Contains methods g → IsGroundMethod c g) → IsFinite (over c methods) IsBefore
  finite methods ground = record { decided = decided methods ground; lines = lines }
