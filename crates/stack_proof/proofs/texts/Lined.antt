-- Compiled values whose methods have the same lines and pairs, place by place, are ordered alike.
use Rattle.std.proofs.Common.{ℕ, zero, suc, ◌≡◌, ◌<◌, List, [], ◌∷◌, length, slice_get, Some, refl, ap, sym, subst}
use Rattle.plan_model.specs.declared.schemas.MethodPlan.{MethodPlan}
use Rattle.plan_model.specs.declared.options.Checks.{Checks}
use Rattle.plan_model.specs.declared.values.Compiled.{Compiled}
use Rattle.plan_model.specs.declared.values.Hddl.{Hddl}
use Rattle.plan_model.specs.Pairs.{Pairs}
use Rattle.plan_model.specs.plan_meaning.Compilation.{IsCompiled}
use Rattle.plan_model.specs.task_networks.Order.{IsCut}
use Rattle.plan_texts.specs.FirstSeen.{IsHddlOf}
use Rattle.plan_texts.specs.SoundValue.{IsSoundHddl}
use Rattle.plan_texts.specs.SpellsHddl.{hddl_words}
use Rattle.plan_texts.specs.Together.{Together}
use Rattle.plan_proof.specs.Same.{AreSameButNames}
use Rattle.plan_proof.proofs.one.OneGraph.{one_graph}
use Rattle.plan_proof.proofs.values.Headlines.{same_but_names, unions_apart, same_here, sound_here, sound_there, apart_here, plans_here}
use Rattle.plan_proof.proofs.values.SameActions.{Alike}
use Rattle.plan_proof.proofs.values.TypeNumbers.{AreApart}
use Rattle.slot_encoding.proofs.places.ListPlaces.{get_contains, contains_get}
use Rattle.stack_encoding.specs.TotalOrder.{IsOneAfterAnother, IsTotallyOrdered, IsFirstUnordered}
use Rattle.stack_proof.specs.OrderedAlike.{AreOrderedAlike}

-- two methods with one line and the same pairs
abbrev pub IsLined : MethodPlan → MethodPlan → Type 0
IsLined p q = (p.line ≡ q.line) × (p.schema.pairs ≡ q.schema.pairs)

lined-back : (ps qs : List MethodPlan) → Together IsLined ps qs → Together IsLined qs ps
lined-back [] [] t = tt
lined-back [] (q ∷ qs) t = absurd t
lined-back (p ∷ ps) [] t = absurd t
lined-back (p ∷ ps) (q ∷ qs) t = ((sym t.0.0, sym t.0.1), lined-back ps qs t.1)

-- at one place
lined-at : (ps qs : List MethodPlan) → Together IsLined ps qs → (k : ℕ) (q : MethodPlan) → slice_get qs k ≡ Some q → (p : MethodPlan) × (slice_get ps k ≡ Some p) × IsLined p q
lined-at [] [] t k q e = absurd cc
lined-at [] (x ∷ qs) t k q e = absurd t
lined-at (p ∷ ps) [] t k q e = absurd t
lined-at (p ∷ ps) (x ∷ qs) t zero q e = let f : x ≡ q = cc in (p, refl, subst (IsLined p) f t.0)
lined-at (p ∷ ps) (x ∷ qs) t (suc k) q e = lined-at ps qs t.1 k q e

one_after-same : (p q : MethodPlan) → IsLined p q → IsOneAfterAnother p ≡ IsOneAfterAnother q
one_after-same p q (l, e) = λ i. (k : ℕ) → k < length (l i) → IsCut (Pairs (e i)) (l i) k

module _ (c d : Compiled) (lined : Together IsLined c.methods d.methods) where
  back : (p q : MethodPlan) → IsLined p q → IsOneAfterAnother q → IsOneAfterAnother p
  back p q l h = subst (λ (z : Type 0). z) (sym (one_after-same p q l)) h

  on : (p q : MethodPlan) → IsLined p q → IsOneAfterAnother p → IsOneAfterAnother q
  on p q l h = subst (λ (z : Type 0). z) (one_after-same p q l) h

  pub total_too : IsTotallyOrdered c → IsTotallyOrdered d
  total_too h q k =
      let (m, e) = contains_get d.methods q k in
      let (p, f, l) = lined-at c.methods d.methods lined m q e in
      on p q l (h p (get_contains c.methods m p f))

  first_too : (m : ℕ) → IsFirstUnordered d m → IsFirstUnordered c m
  first_too m a =
      let (p, f, l) = lined-at c.methods d.methods lined m a.plan a.is in
      record { plan = p; is = f; unordered = λ h. a.unordered (on p a.plan l h); first = before }
    where
      before : (k : ℕ) (other : MethodPlan) → k < m → slice_get c.methods k ≡ Some other → IsOneAfterAnother other
      before k other l e =
          let (q, f, s) = lined-at d.methods c.methods (lined-back c.methods d.methods lined) k other e in
          back other q (sym s.0, sym s.1) (a.first k q l f)

-- what is compiled of values that are the same but for names
module _ (h h' : Hddl) (mode : Checks) (c c' : Compiled) (same : AreSameButNames h' h) (apart : AreApart (hddl_words h).unions) (sound : IsSoundHddl h) (compiled : IsCompiled h mode c) (compiled' : IsCompiled h' mode c') where
  abbrev IsAlike : MethodPlan → MethodPlan → Type 0
  IsAlike = Alike c' c (same_here h h' mode c c' same apart sound compiled compiled') (sound_there h h' mode c c' same apart sound compiled compiled') (sound_here h h' mode c c' same apart sound compiled compiled') (apart_here h h' mode c c' same apart sound compiled compiled')

  pub lined_here : Together IsLined c'.methods c.methods
  lined_here = go c'.methods c.methods (plans_here h h' mode c c' same apart sound compiled compiled')
    where
      go : (ps qs : List MethodPlan) → Together IsAlike ps qs → Together IsLined ps qs
      go [] [] t = tt
      go [] (q ∷ qs) t = absurd t
      go (p ∷ ps) [] t = absurd t
      go (p ∷ ps) (q ∷ qs) t = ((t.0.0.line, ap (λ z. z.4.2) t.0.0.schema), go ps qs t.1)

  pub total_there : IsTotallyOrdered c → IsTotallyOrdered c'
  total_there = total_too c c' (lined-back c'.methods c.methods lined_here)

-- and of two values of the same texts
module _ (domain problem : List ℕ) (h h' : Hddl) (mode : Checks) (c c' : Compiled) (spelled : IsHddlOf domain problem h) (spelled' : IsHddlOf domain problem h') (sound : IsSoundHddl h) (compiled : IsCompiled h mode c) (compiled' : IsCompiled h' mode c') where
  pub ordered_alike : AreOrderedAlike c' c
  ordered_alike =
      let lined = lined_here h h' mode c c' (same_but_names domain problem h' h spelled' spelled sound) (unions_apart domain problem h' h spelled' spelled sound) sound compiled compiled' in
      let other = lined-back c'.methods c.methods lined in
      record {
        ordered = (total_too c' c lined, total_too c c' other);
        first = λ m. (first_too c c' other m, first_too c' c lined m);
        words = (one_graph domain problem h h' mode c c' spelled spelled' sound compiled compiled').methods;
      }
