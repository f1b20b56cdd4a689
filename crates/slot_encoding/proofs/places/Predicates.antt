-- The numbers of predicates: the kinds are apart, and works are held by different ones.
use Rattle.std.proofs.Common.{ℕ, zero, suc, ◌≡◌, ◌≢◌, ◌+◌, ◌<◌, ◌≤◌, ◌⊎◌, inl, inr, Bool, true, false, cond, List, [], ◌∷◌, filter, take, length, slice_get, Some, refl, ap, sym, ◌∙◌, arith}
use Rattle.std.proofs.lemmas.Bool.Decides.{eqb_tells}
use Rattle.std.proofs.str.Laws.{order}
use Rattle.plan_model.specs.declared.terms.GroundAtom.{GroundAtom}
use Rattle.plan_model.specs.declared.schemas.MethodPlan.{MethodPlan}
use Rattle.plan_model.specs.declared.values.Compiled.{Compiled}
use Rattle.plan_model.specs.plan_meaning.Network.{Work, action, check, task}
use Rattle.slot_encoding.specs.EncodedNames.{first_task, first_action, first_check, first_guard, top_predicate, free_predicate, before_predicate, task_predicate, action_predicate, check_predicate}
use Rattle.slot_encoding.proofs.Pieces.{IsNumbered, work_predicate, work_args, held_atom, PredicatesDiffer}

abbrev one_if : Bool → ℕ
one_if true = 1
one_if false = 0

module _ {A : Type 0} (test : A → Bool) where
  -- how many of the first m pass the test
  abbrev pub passed : ℕ → List A → ℕ
  passed m xs = length (filter test (take m xs))

  passed_on : (x : A) (m : ℕ) (xs : List A) → passed (suc m) (x ∷ xs) ≡ one_if (test x) + passed m xs
  passed_on x m xs = go (test x)
    where
      go : (t : Bool) → length (cond t (x ∷ filter test (take m xs)) (filter test (take m xs))) ≡ one_if t + passed m xs
      go true = omega arith
      go false = omega arith

  all_on : (x : A) (xs : List A) → length (filter test (x ∷ xs)) ≡ one_if (test x) + length (filter test xs)
  all_on x xs = go (test x)
    where
      go : (t : Bool) → length (cond t (x ∷ filter test xs) (filter test xs)) ≡ one_if t + length (filter test xs)
      go true = omega arith
      go false = omega arith

  counted : (x : A) → test x ≡ true → one_if (test x) ≡ 1
  counted x e = ap one_if e

  -- one that passes is counted behind itself
  passed_less : (xs : List A) (m n : ℕ) (x : A) → slice_get xs m ≡ Some x → test x ≡ true → m < n → passed m xs < passed n xs
  passed_less [] m n x e t l = absurd cc
  passed_less (y ∷ xs) m zero x e t l = absurd (omega arith)
  passed_less (y ∷ xs) zero (suc n) x e t l =
      let a = passed_on y n xs in
      let b = counted x t in
      let c = ap (λ z. one_if (test z)) (let f : y ≡ x = cc in f) in
      omega arith
  passed_less (y ∷ xs) (suc m) (suc n) x e t l =
      let h = passed_less xs m n x e t (omega arith) in
      let a = passed_on y m xs in
      let b = passed_on y n xs in
      omega arith

  pub passed_within : (xs : List A) (m : ℕ) (x : A) → slice_get xs m ≡ Some x → test x ≡ true → passed m xs < length (filter test xs)
  passed_within [] m x e t = absurd cc
  passed_within (y ∷ xs) zero x e t =
      let a = all_on y xs in
      let b = counted x t in
      let c = ap (λ z. one_if (test z)) (let f : y ≡ x = cc in f) in
      omega arith
  passed_within (y ∷ xs) (suc m) x e t =
      let h = passed_within xs m x e t in
      let a = passed_on y m xs in
      let b = all_on y xs in
      omega arith

  -- those that pass have different counts
  pub passed_once : (xs : List A) (m n : ℕ) (x y : A) → slice_get xs m ≡ Some x → test x ≡ true → slice_get xs n ≡ Some y → test y ≡ true → passed m xs ≡ passed n xs → m ≡ n
  passed_once xs m n x y e s f t g = elim (order m n) [
    | inl l ↦ absurd (let h = passed_less xs m n x e s l in omega arith)
    | inr l ↦ elim (eqb_tells n m) [ inl h ↦ sym h.1 | inr h ↦ absurd (let k = passed_less xs n m y f t (let d = h.1 in less n m l d) in omega arith) ]
  ]
    where
      less : (n m : ℕ) → n ≤ m → n ≢ m → n < m
      less zero zero l d = absurd (d refl)
      less zero (suc m) l d = omega arith
      less (suc n) zero l d = absurd (omega arith)
      less (suc n) (suc m) l d = let h = less n m (omega arith) (λ e. d (ap suc e)) in omega arith

abbrev pub is_checked : MethodPlan → Bool
is_checked plan = plan.checked

module _ (c : Compiled) where
  -- where the predicate of a task stands
  task_cases : (t : ℕ) → ((t ≡ length c.hddl.tasks) × (task_predicate c t ≡ top_predicate c)) ⊎ ((t ≢ length c.hddl.tasks) × (task_predicate c t ≡ first_task c + t))
  task_cases t = elim (eqb_tells t (length c.hddl.tasks)) [
    | inl h ↦ inl (h.1, ap (λ z. cond z (top_predicate c) (first_task c + t)) h.0)
    | inr h ↦ inr (h.1, ap (λ z. cond z (top_predicate c) (first_task c + t)) h.0)
  ]

  less_than : (t n : ℕ) → t ≤ n → t ≢ n → t < n
  less_than t n l d = elim (order t n) [ inl m ↦ m | inr m ↦ absurd (d (omega arith)) ]

  -- the ranges of the kinds
  abbrev InRange : Work → Type 0
  InRange (action a args) = (first_action c ≤ action_predicate c a) × (action_predicate c a < first_check c)
  InRange (check m values) = (first_check c ≤ check_predicate c m) × (check_predicate c m < first_guard c)
  InRange (task t args) = ((t ≡ length c.hddl.tasks) × (task_predicate c t ≡ length c.hddl.predicates)) ⊎ ((first_task c ≤ task_predicate c t) × (task_predicate c t < first_action c) × (task_predicate c t ≡ first_task c + t))

  in_range : (w : Work) → IsNumbered c w → InRange w
  in_range (action a args) n = (omega arith, omega arith)
  in_range (check m values) n = let h = passed_within is_checked c.methods m n.0 n.1 n.2 in (omega arith, omega arith)
  in_range (task t args) n = elim (task_cases t) [
    | inl h ↦ inl (h.0, h.1)
    | inr h ↦ inr (let l = less_than t (length c.hddl.tasks) n h.0 in let e = h.1 in (omega arith, omega arith, e))
  ]

  from_source : (w : Work) → InRange w → length c.hddl.predicates ≤ work_predicate c w
  from_source (action a args) r = omega arith
  from_source (check m values) r = omega arith
  from_source (task t args) (inl h) = let e = h.1 in omega arith
  from_source (task t args) (inr h) = let l = h.0 in omega arith

  -- a predicate between the top task's and the first declared task's
  from_middle : (w : Work) (k : ℕ) → InRange w → length c.hddl.predicates < k → k < first_task c → work_predicate c w ≢ k
  from_middle (action a args) k r l m e = omega arith
  from_middle (check m values) k r l n e = omega arith
  from_middle (task t args) k (inl h) l m e = let f = h.1 in omega arith
  from_middle (task t args) k (inr h) l m e = let f = h.0 in omega arith

  from_guard : (w : Work) → InRange w → work_predicate c w < first_guard c
  from_guard (action a args) r = omega arith
  from_guard (check m values) r = r.1
  from_guard (task t args) (inl h) = let e = h.1 in omega arith
  from_guard (task t args) (inr h) = let l = h.1 in omega arith

  same_task : (t u : ℕ) (us vs : List ℕ) → InRange (task t us) → InRange (task u vs) → task_predicate c t ≡ task_predicate c u → t ≡ u
  same_task t u us vs (inl h) (inl k) e = h.0 ∙ sym k.0
  same_task t u us vs (inl h) (inr k) e = absurd (let a = h.1 in let b = k.0 in omega arith)
  same_task t u us vs (inr h) (inl k) e = absurd (let a = h.0 in let b = k.1 in omega arith)
  same_task t u us vs (inr h) (inr k) e = let a = h.2 in let b = k.2 in omega arith

  same_work : (w v : Work) → IsNumbered c w → IsNumbered c v → work_predicate c w ≡ work_predicate c v → work_args c w ≡ work_args c v → w ≡ v
  same_work (action a us) (action b vs) n m e f = let g : a ≡ b = omega arith in λ i. action (g i) (f i)
  same_work (action a us) (check m vs) n o e f = absurd (let r = in_range (check m vs) o in let s = in_range (action a us) n in omega arith)
  same_work (action a us) (task t vs) n o e f = absurd (apart (in_range (task t vs) o))
    where
      apart : InRange (task t vs) → ⊥
      apart (inl h) = let g = h.1 in omega arith
      apart (inr h) = let g = h.1 in omega arith
  same_work (check k us) (action b vs) n o e f = absurd (let r = in_range (check k us) n in let s = in_range (action b vs) o in omega arith)
  same_work (check k us) (check m vs) n o e f =
      let g : k ≡ m = passed_once is_checked c.methods k m n.0 o.0 n.1 n.2 o.1 o.2 (omega arith) in
      λ i. check (g i) (f i)
  same_work (check k us) (task t vs) n o e f = absurd (apart (in_range (task t vs) o))
    where
      apart : InRange (task t vs) → ⊥
      apart (inl h) = let g = h.1 in omega arith
      apart (inr h) = let g = h.1 in omega arith
  same_work (task t us) (action b vs) n o e f = absurd (apart (in_range (task t us) n))
    where
      apart : InRange (task t us) → ⊥
      apart (inl h) = let g = h.1 in omega arith
      apart (inr h) = let g = h.1 in omega arith
  same_work (task t us) (check m vs) n o e f = absurd (apart (in_range (task t us) n))
    where
      apart : InRange (task t us) → ⊥
      apart (inl h) = let g = h.1 in omega arith
      apart (inr h) = let g = h.1 in omega arith
  same_work (task t us) (task u vs) n o e f = let g = same_task t u us vs (in_range (task t us) n) (in_range (task u vs) o) e in λ i. task (g i) (f i)

  held_once : (x y : ℕ) (w v : Work) → IsNumbered c w → IsNumbered c v → held_atom c x w ≡ held_atom c y v → (x ≡ y) × (w ≡ v)
  held_once x y w v n m e =
      let f = ap (λ (g : GroundAtom). g.predicate) e in
      let h : x ∷ work_args c w ≡ y ∷ work_args c v = ap (λ (g : GroundAtom). g.args) e in
      (cc, same_work w v n m f (let k : work_args c w ≡ work_args c v = cc in k))

  pub predicates_differ : PredicatesDiffer c
  predicates_differ = record {
    top = refl;
    free = omega arith;
    before = omega arith;
    work_from_source = λ w n. from_source w (in_range w n);
    work_from_free = λ w n. from_middle w (free_predicate c) (in_range w n) (omega arith) (omega arith);
    work_from_before = λ w n. from_middle w (before_predicate c) (in_range w n) (omega arith) (omega arith);
    guard_from_before = λ ty. omega arith;
    guard_from_work = λ ty w n. (let h = from_guard w (in_range w n) in omega arith);
    work_below_guards = λ w n. from_guard w (in_range w n);
    held_once = held_once;
  }
