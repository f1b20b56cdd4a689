-- What is named in the order in which it stands has different names, and so its problem can be run.
use Rattle.std.proofs.Common.{ℕ, zero, suc, ◌≡◌, ◌+◌, ◌++◌, List, [], ◌∷◌, length, Some, None, slice_get, ap, sym, subst, ◌∙◌, Contains, length-append, arith}
use Rattle.std.proofs.lemmas.Option.{slice_get-get_or}
use Rattle.plan_model.specs.declared.types.Object.{Object}
use Rattle.plan_model.specs.declared.schemas.ActionSchema.{ActionSchema}
use Rattle.plan_model.specs.declared.steps.GroundAction.{GroundAction}
use Rattle.plan_model.specs.declared.values.Pddl.{Pddl}
use Rattle.plan_model.specs.plan_meaning.ClassicalPlan.{HasWord}
use Rattle.plan_model.specs.plan_meaning.FailingStep.{IsNamed}
use Rattle.ground_state.specs.Runs.{IsRunnable}
use Rattle.problem_index.proofs.PlaceLaws.{one_place}
use Rattle.public_program.specs.Numbered.{AreNumbered, IsNumbered}

-- one more item, with the next number
numbered_more : {X : Type 0} (number : X → ℕ) (n : ℕ) (xs : List X) (x : X) → AreNumbered number n xs → number x ≡ n + length xs → AreNumbered number n (xs ++ x ∷ [])
numbered_more number n [] x h e = (omega (arith, e), _)
numbered_more number n (y ∷ xs) x h e = (h.0, numbered_more number (n + 1) xs x h.1 (omega (arith, e)))

-- the item at the end of a list of n has number n
pub one_more : {X : Type 0} (number : X → ℕ) (old new : List X) (n : ℕ) {x : X} → new ≡ old ++ x ∷ [] → length old ≡ n → number x ≡ n → AreNumbered number 0 old → (length new ≡ n + 1) × AreNumbered number 0 new
one_more number old new n {x} e l m h =
    let k = length-append old (x ∷ []) in (
      ap length e ∙ omega (arith, k, l),
      subst (AreNumbered number 0) (sym e) (numbered_more number 0 old x h (omega (arith, l, m))),
    )

some_same : {X : Type 0} (x y : X) → Some x ≡ Some y → x ≡ y
some_same x y e = cc

-- the number of an item says where it stands
number_at : {X : Type 0} (number : X → ℕ) (n : ℕ) (xs : List X) (k : ℕ) (x : X) → AreNumbered number n xs → slice_get xs k ≡ Some x → number x ≡ n + k
number_at number n [] k x h e = (let f : None ≡ Some x = e in absurd cc)
number_at number n (y ∷ xs) zero x h e = let s = some_same y x e in let f = ap number s in let g = h.0 in omega (arith, f, g)
number_at number n (y ∷ xs) (suc k) x h e = let r = number_at number (n + 1) xs k x h.1 e in omega (arith, r)

contains_at : {X : Type 0} (xs : List X) (x : X) → Contains xs x → (k : ℕ) × (slice_get xs k ≡ Some x)
contains_at xs x (k, l, e) = (k, slice_get-get_or xs k x l ∙ ap (λ z. Some z) e)

module _ (n : ℕ) (p : Pddl) (h : IsNumbered n p) where
  one_object : (x y : ℕ) (word : List ℕ) → HasWord p x word → HasWord p y word → x ≡ y
  one_object x y word (a, e, v) (b, f, w) =
      let j = number_at (λ (o : Object). o.name.number) 0 p.objects x a h.objects.numbered e in
      let k = number_at (λ (o : Object). o.name.number) 0 p.objects y b h.objects.numbered f in
      let s = one_place p.names word a.name.number b.name.number h.names.differ v w in
      omega (arith, j, k, s)

  one_action : (a b : ActionSchema) (step : GroundAction) → IsNamed p step a → IsNamed p step b → a ≡ b
  one_action a b step f g =
      let at = contains_at p.actions a f.action in
      let au = contains_at p.actions b g.action in
      let j = number_at (λ (c : ActionSchema). c.name.number) n p.actions at.0 a h.actions.numbered at.1 in
      let k = number_at (λ (c : ActionSchema). c.name.number) n p.actions au.0 b h.actions.numbered au.1 in
      let s = one_place p.names step.name a.name.number b.name.number h.names.differ f.name g.name in
      let t : at.0 ≡ au.0 = omega (arith, j, k, s) in
      some_same a b (sym at.1 ∙ ap (slice_get p.actions) t ∙ au.1)

  pub runnable : IsRunnable p
  runnable = record {
    listed = h.types;
    objects = let l = h.objects.count in omega (arith, l);
    actions = let l = h.actions.count in omega (arith, l);
    apart = record { actions = one_action; objects = one_object };
  }
