-- What a search for live parts has found stays sound with one action or method more, and at the end it is what is live.
use Rattle.std.proofs.Common.{ℕ, ◌≡◌, ◌+◌, ◌-◌, ◌<◌, ◌≤◌, ◌↔◌, inl, inr, Bool, true, false, IsTrue, List, [], length, Some, slice_get, refl, ap, sym, subst, ◌∙◌, Contains, arith}
use Rattle.std.specs.List.Sorted.{IsStrictlyIncreasing}
use Rattle.std.proofs.lemmas.Option.{slice_get_within}
use Rattle.std.proofs.lemmas.Bool.{cases_lt}
use Rattle.plan_model.specs.declared.terms.GroundAtom.{GroundAtom}
use Rattle.plan_model.specs.declared.networks.Child.{Child}
use Rattle.plan_model.specs.declared.networks.Head.{Head}
use Rattle.plan_model.specs.declared.networks.Head.TheVariants.{Task, Action, Check}
use Rattle.plan_model.specs.declared.schemas.ActionSchema.{ActionSchema}
use Rattle.plan_model.specs.declared.schemas.MethodSchema.{MethodSchema}
use Rattle.plan_model.specs.declared.values.Hddl.{Hddl}
use Rattle.plan_model.proofs.task_networks.Lists.{not-in_empty}
use Rattle.live_parts.specs.Live.{Parts, TypeOf, MayHold, AddsOf, IsLiveHead, IsLiveMethod, AreAmong, AreLive}
use Rattle.live_parts.proofs.MayMore.{more_may}
use Rattle.hddl_prune.specs.Places.{HasAlso}
use Rattle.live_parts.proofs.Places.{at_place, place_in}
use Rattle.hddl_prune.specs.Search.{AreFound, many, AreSettled, AreLiveHeads, IsPredicateAt}
use Rattle.hddl_prune.proofs.PlaceLemmas.{longer, few}

module _ (h : Hddl) where
  may_grow : (old others : Parts) → AreAmong old others → (a : ActionSchema) → MayHold h old a.pre → MayHold h others a.pre
  may_grow old others low a may = more_may (TypeOf h) (Contains old.predicates) (Contains others.predicates) low.predicates a.pre may

  live_grows : (old others : Parts) → AreAmong old others → (s : MethodSchema) → IsLiveMethod h old s → IsLiveMethod h others s
  live_grows old others low s is = record {
    pre = more_may (TypeOf h) (Contains old.predicates) (Contains others.predicates) low.predicates s.pre is.pre;
    heads = λ child c. head_grows child.head (is.heads child c);
  }
    where
      head_grows : (x : Head) → IsLiveHead old x → IsLiveHead others x
      head_grows (Task t) k = low.tasks t k
      head_grows (Action a) k = low.actions a k
      head_grows Check k = tt

  same_action : (n k : ℕ) (a b : ActionSchema) → k ≡ n → slice_get h.actions n ≡ Some a → slice_get h.actions k ≡ Some b → b ≡ a
  same_action n k a b x e f = let y : Some b ≡ Some a = sym f ∙ ap (slice_get h.actions) x ∙ e in cc

  same_method : (n k : ℕ) (s r : MethodSchema) → k ≡ n → slice_get h.methods n ≡ Some s → slice_get h.methods k ≡ Some r → r ≡ s
  same_method n k s r x e f = let y : Some r ≡ Some s = sym f ∙ ap (slice_get h.methods) x ∙ e in cc

  module _ (old new : Parts) (n : ℕ) where
    -- one action more
    module _ (a : ActionSchema) (e : slice_get h.actions n ≡ Some a) (may : MayHold h old a.pre) (ps : HasAlso old.predicates (AddsOf a.eff) new.predicates) (acts : HasAlso old.actions (λ k. k ≡ n) new.actions)
        (rise : IsStrictlyIncreasing new.actions) (ms : new.methods ≡ old.methods) (ts : new.tasks ≡ old.tasks) where
      pub action_sound : AreFound h old → AreFound h new
      action_sound f = record {
        least = λ others cl. (let low = f.least others cl in let mine = cl.action n a e (may_grow old others low a may) in record {
          predicates = λ p c. elim ((ps p).0 c) [ inl k ↦ low.predicates p k | inr k ↦ cl.added n a e mine p k ];
          actions = λ k c. elim ((acts k).0 c) [ inl x ↦ low.actions k x | inr x ↦ subst (Contains others.actions) (sym x) mine ];
          methods = λ m c. low.methods m (subst (λ z. Contains z m) ms c);
          tasks = λ t c. low.tasks t (subst (λ z. Contains z t) ts c);
        });
        initial = λ g c. (ps g.predicate).1 (inl (f.initial g c));
        added = λ k b eb kb p q. elim ((acts k).0 kb) [
          | inl x ↦ (ps p).1 (inl (f.added k b eb x p q))
          | inr x ↦ (ps p).1 (inr (subst (λ (z : ActionSchema). AddsOf z.eff p) (same_action n k a b x e eb) q))
        ];
        task = λ k s es ks. subst (λ z. Contains z s.task) (sym ts) (f.task k s es (subst (λ z. Contains z k) ms ks));
        actions = λ k c. elim ((acts k).0 c) [ inl x ↦ f.actions k x | inr x ↦ (let l = slice_get_within h.actions n a e in omega arith) ];
        methods = λ k c. f.methods k (subst (λ z. Contains z k) ms c);
        actions_rise = rise;
        methods_rise = subst IsStrictlyIncreasing (sym ms) f.methods_rise;
      }

      pub action_more : (Contains old.actions n → ⊥) → AreFound h old → many h old < many h new
      action_more out f =
          let l = longer old.actions new.actions n f.actions_rise acts out in
          let k = ap length ms in
          omega arith

    -- one method more
    module _ (s : MethodSchema) (e : slice_get h.methods n ≡ Some s) (is : IsLiveMethod h old s) (ms : HasAlso old.methods (λ k. k ≡ n) new.methods) (ts : HasAlso old.tasks (λ t. t ≡ s.task) new.tasks)
        (rise : IsStrictlyIncreasing new.methods) (ps : new.predicates ≡ old.predicates) (acts : new.actions ≡ old.actions) where
      pub method_sound : AreFound h old → AreFound h new
      method_sound f = record {
        least = λ others cl. (let low = f.least others cl in let mine = cl.method n s e (live_grows old others low s is) in record {
          predicates = λ p c. low.predicates p (subst (λ z. Contains z p) ps c);
          actions = λ k c. low.actions k (subst (λ z. Contains z k) acts c);
          methods = λ k c. elim ((ms k).0 c) [ inl x ↦ low.methods k x | inr x ↦ subst (Contains others.methods) (sym x) mine ];
          tasks = λ t c. elim ((ts t).0 c) [ inl x ↦ low.tasks t x | inr x ↦ subst (Contains others.tasks) (sym x) (cl.task n s e mine) ];
        });
        initial = λ g c. subst (λ z. Contains z g.predicate) (sym ps) (f.initial g c);
        added = λ k b eb kb p q. subst (λ z. Contains z p) (sym ps) (f.added k b eb (subst (λ z. Contains z k) acts kb) p q);
        task = λ k r er kr. elim ((ms k).0 kr) [
          | inl x ↦ (ts r.task).1 (inl (f.task k r er x))
          | inr x ↦ (ts r.task).1 (inr (ap (λ (z : MethodSchema). z.task) (same_method n k s r x e er)))
        ];
        actions = λ k c. f.actions k (subst (λ z. Contains z k) acts c);
        methods = λ k c. elim ((ms k).0 c) [ inl x ↦ f.methods k x | inr x ↦ (let l = slice_get_within h.methods n s e in omega arith) ];
        actions_rise = subst IsStrictlyIncreasing (sym acts) f.actions_rise;
        methods_rise = rise;
      }

      pub method_more : (Contains old.methods n → ⊥) → AreFound h old → many h old < many h new
      method_more out f =
          let l = longer old.methods new.methods n f.methods_rise ms out in
          let k = ap length acts in
          omega arith

  -- no more are found than there are
  pub many_few : (parts : Parts) → AreFound h parts → many h parts ≤ length h.actions + length h.methods
  many_few parts f =
      let a = few parts.actions (length h.actions) f.actions_rise f.actions in
      let b = few parts.methods (length h.methods) f.methods_rise f.methods in
      omega arith

  -- the predicates of the first atoms
  pub first_found : (parts : Parts) (i : ℕ) → length h.init ≤ i → HasAlso [] (λ p. (k : ℕ) × (k < i) × IsPredicateAt h.init k p) parts.predicates
      → parts.actions ≡ [] → parts.methods ≡ [] → parts.tasks ≡ [] → AreFound h parts
  first_found parts i all is ea em et = record {
    least = λ others cl. record {
      predicates = λ p c. elim ((is p).0 c) [
        | inl k ↦ absurd (not-in_empty p k)
        | inr k ↦ (let (n, l, at) = k in let (g, e, f) = at in subst (Contains others.predicates) f (cl.initial g (at_place h.init n g e)))
      ];
      actions = λ k c. absurd (not-in_empty k (subst (λ z. Contains z k) ea c));
      methods = λ k c. absurd (not-in_empty k (subst (λ z. Contains z k) em c));
      tasks = λ k c. absurd (not-in_empty k (subst (λ z. Contains z k) et c));
    };
    initial = λ g c. (let (k, e) = place_in h.init g c in let l = slice_get_within h.init k g e in (is g.predicate).1 (inr (k, omega arith, (g, e, refl))));
    added = λ k b eb kb p q. absurd (not-in_empty k (subst (λ z. Contains z k) ea kb));
    task = λ k s es ks. absurd (not-in_empty k (subst (λ z. Contains z k) em ks));
    actions = λ k c. absurd (not-in_empty k (subst (λ z. Contains z k) ea c));
    methods = λ k c. absurd (not-in_empty k (subst (λ z. Contains z k) em c));
    actions_rise = subst IsStrictlyIncreasing (sym ea) (λ i l. absurd (omega arith));
    methods_rise = subst IsStrictlyIncreasing (sym em) (λ i l. absurd (omega arith));
  }

  -- the method is live where its subtasks are and its precondition may be so
  pub live_then : (parts : Parts) (s : MethodSchema) (xs : List Child) (a b : Bool) → xs ≡ s.children → IsTrue a ↔ AreLiveHeads parts xs → a ≡ true → IsTrue b ↔ MayHold h parts s.pre
      → IsTrue b ↔ IsLiveMethod h parts s
  live_then parts s xs a b e heads is may = (
    λ t. record { pre = may.0 t; heads = λ child c. heads.0 is child (subst (λ z. Contains z child) (sym e) c) },
    λ m. may.1 m.pre,
  )

  pub live_else : (parts : Parts) (s : MethodSchema) (xs : List Child) (a : Bool) → xs ≡ s.children → IsTrue a ↔ AreLiveHeads parts xs → a ≡ false → IsTrue a ↔ IsLiveMethod h parts s
  live_else parts s xs a e heads not = (
    λ t. absurd (let z : true ≡ false = sym t ∙ not in cc),
    λ m. heads.1 (λ child c. m.heads child (subst (λ z. Contains z child) e c)),
  )

  -- where nothing more is to be found, it is what is live
  pub settled_live : (parts : Parts) → AreFound h parts → AreSettled h parts → AreLive h parts
  settled_live parts f s = record {
    closed = record {
      initial = f.initial;
      added = f.added;
      action = λ n a e may. s.0 n a e may;
      method = λ n m e is. s.1 n m e is;
      task = f.task;
    };
    least = f.least;
  }

-- the predicate of one fact, and of one fact more
pub fact_marked : (atoms : List GroundAtom) (i q : ℕ) (g : GroundAtom) (old new : List ℕ) → slice_get atoms i ≡ Some g → q ≡ g.predicate → HasAlso old (λ k. k ≡ q) new → HasAlso old (IsPredicateAt atoms i) new
fact_marked atoms i q g old new e d h = λ k. (
  λ c. elim ((h k).0 c) [ inl x ↦ inl x | inr x ↦ inr (g, e, sym (x ∙ d)) ],
  λ c. (h k).1 (elim c [ inl x ↦ inl x | inr x ↦ inr (same x.0 x.1 k x.2) ]),
)
  where
    same : (f : GroundAtom) → slice_get atoms i ≡ Some f → (k : ℕ) → f.predicate ≡ k → k ≡ q
    same f x k y =
        let z : Some f ≡ Some g = sym x ∙ e in
        let v : f ≡ g = cc in
        sym y ∙ ap (λ (z : GroundAtom). z.predicate) v ∙ sym d

pub facts_next : (atoms : List GroundAtom) (i : ℕ) (middle new : List ℕ) → HasAlso [] (λ p. (k : ℕ) × (k < i) × IsPredicateAt atoms k p) middle → HasAlso middle (IsPredicateAt atoms i) new
    → HasAlso [] (λ p. (k : ℕ) × (k < i + 1) × IsPredicateAt atoms k p) new
facts_next atoms i middle new h g = λ p. (
  λ c. elim ((g p).0 c) [
    | inl b ↦ elim ((h p).0 b) [ inl a ↦ inl a | inr x ↦ (let (k, l, at) = x in inr (k, omega arith, at)) ]
    | inr at ↦ inr (i, omega arith, at)
  ],
  λ c. elim c [
    | inl a ↦ absurd (not-in_empty p a)
    | inr x ↦ (let (k, l, at) = x in elim (cases_lt k i) [
      | inl m ↦ (g p).1 (inl ((h p).1 (inr (k, m, at))))
      | inr m ↦ (g p).1 (inr (subst (λ z. IsPredicateAt atoms z p) (let e : k ≡ i = omega arith in e) at))
    ])
  ],
)

-- what is left falls
pub shrinks : (n a b : ℕ) → a < b → b ≤ n → n - b < n - a
shrinks n a b l m = omega arith
