-- The network of a compiled problem is prepared: its heirs and copiers are those of its orders.
use Rattle.std.proofs.Common.{ℕ, zero, suc, ◌≡◌, ◌≢◌, ◌-◌, ◌<◌, ◌⊎◌, ◌↔◌, inl, inr, List, [], ◌∷◌, ◌++◌, length, Option, Some, None, slice_get, refl, sym, subst, ◌∙◌, Contains, arith}
use Rattle.std.proofs.lemmas.List.{length-map, length-append}
use Rattle.plan_model.specs.task_networks.Order.{Precedes, direct, through, ArePairsOf, IsAcyclic, IsLine, IsHeir, IsMaximal}
use Rattle.plan_model.specs.task_networks.Prepared.{IsPrepared}
use Rattle.plan_model.proofs.task_networks.Lists.{not-in_empty, Contains-here, Contains-later, last_cases}
use Rattle.plan_model.proofs.task_networks.Orders.{next_among}
use Rattle.plan_model.specs.declared.networks.Pair.{Pair}
use Rattle.plan_model.specs.declared.options.Checks.{Checks}
use Rattle.plan_model.specs.declared.schemas.MethodSchema.{MethodSchema}
use Rattle.plan_model.specs.declared.schemas.MethodPlan.{MethodPlan}
use Rattle.plan_model.specs.declared.values.Hddl.{Hddl}
use Rattle.plan_model.specs.declared.values.Compiled.{Compiled}
use Rattle.plan_model.specs.plan_meaning.Network.{GroundMethod, network, child_of}
use Rattle.plan_model.proofs.plan_meaning.MethodParts.{works_by, heir_by, IsPairBy, IsCopierBy}
use Rattle.plan_model.specs.plan_meaning.Compilation.{last_of, IsMethodPlan, AreMethodPlans, IsCompiled}
use Rattle.plan_model.specs.Pairs.{pair, Pairs}
use Rattle.plan_model.specs.plan_meaning.Laws.{AreOrdered}
use Rattle.plan_model.proofs.plan_meaning.Pairs.{pairs_within, pairs_acyclic}

-- a compiled method is that of a written one
pub plan_of : (h : Hddl) (mode : Checks) (ss : List MethodSchema) (ps : List MethodPlan) (n : ℕ) (p : MethodPlan) → AreMethodPlans h mode ss ps → slice_get ps n ≡ Some p
    → (s : MethodSchema) × Contains ss s × IsMethodPlan h mode s p
plan_of h mode [] [] n p a e = absurd cc
plan_of h mode [] (q ∷ ps) n p a e = absurd a
plan_of h mode (s ∷ ss) [] n p a e = absurd a
plan_of h mode (s ∷ ss) (q ∷ ps) zero p a e = let f : q ≡ p = cc in (s, Contains-here s ss, subst (λ z. IsMethodPlan h mode s z) f a.0)
plan_of h mode (s ∷ ss) (q ∷ ps) (suc n) p a e = let (t, c, i) = plan_of h mode ss ps n p a.1 e in (t, Contains-later s ss t c, i)

-- the last of a list
last_is : (line : List ℕ) (i : ℕ) → last_of line ≡ Some i → (others : List ℕ) × (line ≡ others ++ i ∷ [])
last_is line i e = go (last_cases line)
  where
    at_end : (ys : List ℕ) (y : ℕ) → slice_get (ys ++ y ∷ []) (length ys) ≡ Some y
    at_end [] y = refl
    at_end (x ∷ ys) y = at_end ys y

    go : (line ≡ []) ⊎ ((ys : List ℕ) × (y : ℕ) × (line ≡ ys ++ y ∷ [])) → (others : List ℕ) × (line ≡ others ++ i ∷ [])
    go (inl f) = let g : last_of [] ≡ Some i = subst (λ z. last_of z ≡ Some i) f e in absurd cc
    go (inr (ys, y, f)) =
        let g : last_of (ys ++ y ∷ []) ≡ Some i = subst (λ z. last_of z ≡ Some i) f e in
        let k : length (ys ++ y ∷ []) - 1 ≡ length ys = omega (arith, length-append ys (y ∷ [])) in
        let l : slice_get (ys ++ y ∷ []) (length ys) ≡ Some i = subst (λ z. slice_get (ys ++ y ∷ []) z ≡ Some i) k g in
        let m = at_end ys y in
        let same : y ≡ i = cc in
        (ys, subst (λ z. line ≡ ys ++ z ∷ []) same f)

last_there : (line : List ℕ) (i : ℕ) → Contains line i → (k : ℕ) × (last_of line ≡ Some k)
last_there [] i c = absurd (not-in_empty i c)
last_there (x ∷ line) i c = let (k, e) = go x line in let n : length line ≡ length (x ∷ line) - 1 = omega arith in (k, subst (λ m. slice_get (x ∷ line) m ≡ Some k) n e)
  where
    go : (x : ℕ) (line : List ℕ) → (k : ℕ) × (slice_get (x ∷ line) (length line) ≡ Some k)
    go x [] = (x, refl)
    go x (y ∷ line) = go y line

-- what is known of a method's plan
record Knows (p : MethodPlan) : Type 0 where
  within : ArePairsOf (Pairs p.schema.pairs) (length p.schema.children)
  acyclic : IsAcyclic (Pairs p.schema.pairs)
  line : IsLine (Pairs p.schema.pairs) (length p.schema.children) p.line
  heir : p.heir ≡ last_of p.line
  copiers : (i : ℕ) → Contains p.copiers i ↔ (IsMaximal (Pairs p.schema.pairs) (length p.schema.children) i × (p.heir ≢ Some i))

of_written : (h : Hddl) (mode : Checks) (s : MethodSchema) (p : MethodPlan) → ArePairsOf (Pairs s.pairs) (length s.children) → IsAcyclic (Pairs s.pairs) → IsMethodPlan h mode s p → Knows p
of_written h mode s p w a is = record {
  within = subst (λ (z : MethodSchema). ArePairsOf (Pairs z.pairs) (length z.children)) (sym is.schema) (pairs_within p.checked s w);
  acyclic = subst (λ (z : MethodSchema). IsAcyclic (Pairs z.pairs)) (sym is.schema) (pairs_acyclic p.checked s a);
  line = is.line;
  heir = is.heir;
  copiers = is.copiers;
}

-- what a network asks of a method, by its plan
record Owes (g : GroundMethod) (o : Option MethodPlan) : Type 0 where
  pairs : ArePairsOf (IsPairBy o) (length (works_by g o))
  acyclic : IsAcyclic (IsPairBy o)
  next : (i : ℕ) → ((j : ℕ) × IsPairBy o i j) ⊎ ((j : ℕ) → IsPairBy o i j → ⊥)
  has_heir : 0 < length (works_by g o) → (i : ℕ) × (heir_by o ≡ Some i)
  heir_is : (i : ℕ) → heir_by o ≡ Some i → IsHeir (IsPairBy o) (length (works_by g o)) i
  copiers : (i : ℕ) → IsCopierBy o i ↔ (IsMaximal (IsPairBy o) (length (works_by g o)) i × (heir_by o ≡ Some i → ⊥))

no_chain : (i j : ℕ) → Precedes (IsPairBy None) i j → ⊥
no_chain i j (direct x) = x
no_chain i j (through x y) = y

owes_none : (g : GroundMethod) → Owes g None
owes_none g = record {
  pairs = λ i j x. absurd x;
  acyclic = λ i x. no_chain i i x;
  next = λ i. inr (λ j x. x);
  has_heir = λ l. absurd (omega arith);
  heir_is = λ i e. absurd (none i e);
  copiers = λ i. (λ x. absurd x, λ x. absurd (let l = x.0.0 in omega arith));
}
  where
    none : (i : ℕ) → heir_by None ≡ Some i → ⊥
    none i e = cc

owes_some : (g : GroundMethod) (p : MethodPlan) → Knows p → Owes g (Some p)
owes_some g p k = record {
  pairs = subst (λ n. ArePairsOf (IsPairBy (Some p)) n) (sym many) k.within;
  acyclic = k.acyclic;
  next = λ i. next_among pair (λ (q : Pair). q.first) (λ (q : Pair). q.then) (λ q. refl) (λ i j. refl) p.schema.pairs i;
  has_heir = λ l. (let x = last_there p.line 0 (k.line.whole 0 (omega (arith, many))) in (x.0, k.heir ∙ x.1));
  heir_is = λ i e. subst (λ n. IsHeir (IsPairBy (Some p)) n i) (sym many) (heir i (sym k.heir ∙ e));
  copiers = λ i. subst (λ n. Contains p.copiers i ↔ (IsMaximal (IsPairBy (Some p)) n i × (p.heir ≡ Some i → ⊥))) (sym many) (k.copiers i);
}
  where
    many : length (works_by g (Some p)) ≡ length p.schema.children
    many = length-map p.schema.children (child_of g)

    heir : (i : ℕ) → last_of p.line ≡ Some i → IsHeir (IsPairBy (Some p)) (length p.schema.children) i
    heir i e = let (others, f) = last_is p.line i e in (others, subst (λ z. IsLine (Pairs p.schema.pairs) (length p.schema.children) z) f k.line)

module _ (h : Hddl) (mode : Checks) (c : Compiled) (ordered : AreOrdered h) (compiled : IsCompiled h mode c) where
  knows : (n : ℕ) (p : MethodPlan) → slice_get c.methods n ≡ Some p → Knows p
  knows n p e = let (s, k, is) = plan_of h mode (h.top ∷ h.methods) c.methods n p compiled.methods e in let w = ordered s k in of_written h mode s p w.0 w.1 is

  owes : (g : GroundMethod) → Owes g (slice_get c.methods g.number)
  owes g = go (slice_get c.methods g.number) (knows g.number)
    where
      go : (o : Option MethodPlan) → ((p : MethodPlan) → o ≡ Some p → Knows p) → Owes g o
      go None f = owes_none g
      go (Some p) f = owes_some g p (f p refl)

  pub prepared : IsPrepared (network c)
  prepared = record {
    pairs = λ g. (owes g).pairs;
    acyclic = λ g. (owes g).acyclic;
    next = λ g. (owes g).next;
    has_heir = λ g. (owes g).has_heir;
    heir_is = λ g. (owes g).heir_is;
    copiers = λ g. (owes g).copiers;
  }
