-- A problem whose networks have no cycle has a compiled value in each mode.
use Rattle.std.proofs.Common.{ℕ, zero, suc, ◌≡◌, ◌+◌, ◌⊎◌, ◌↔◌, inl, inr, Bool, true, false, IsTrue, List, [], ◌∷◌, ◌++◌, length, Option, Some, None, slice_get, refl, ap, sym, subst, ◌∙◌, Contains, arith}
use Rattle.std.specs.Prelude.{All, MatchOption}
use Rattle.plan_model.specs.Typing.{union_at, IsPart, InType, IsA}
use Rattle.plan_model.specs.Pairs.{pair, Pairs}
use Rattle.plan_model.specs.declared.terms.Term.{Term}
use Rattle.plan_model.specs.declared.terms.Term.TheVariants.{Var, Obj}
use Rattle.plan_model.specs.declared.terms.Param.{Param}
use Rattle.plan_model.specs.declared.types.Object.{Object}
use Rattle.plan_model.specs.declared.types.Types.{Types}
use Rattle.plan_model.specs.declared.formulas.Formula.{Formula}
use Rattle.plan_model.specs.declared.networks.Pair.{Pair}
use Rattle.plan_model.specs.declared.options.Checks.{Checks}
use Rattle.plan_model.specs.declared.options.Checks.TheVariants.{Leaf, AtOnce}
use Rattle.plan_model.specs.declared.schemas.MethodSchema.{MethodSchema}
use Rattle.plan_model.specs.declared.schemas.MethodPlan.{MethodPlan}
use Rattle.plan_model.specs.declared.values.Hddl.{Hddl}
use Rattle.plan_model.specs.declared.values.Compiled.{Compiled}
use Rattle.plan_model.proofs.Numbers.{AreFound, found_none, found_more, found_less}
use Rattle.plan_texts.specs.SpellsHddl.{hddl_words}
use Rattle.plan_texts.specs.Said.{said}
use Rattle.plan_model.specs.task_networks.Order.{Precedes, direct, through, ArePairsOf, IsAcyclic, IsMaximal}
use Rattle.plan_model.proofs.task_networks.Orders.{next_among, is_some}
use Rattle.plan_model.proofs.task_networks.Lists.{Contains-here, Contains-later}
use Rattle.slot_machine.proofs.bound_laws.Decided.{Or_not, same_or_not, less_or_not, not_or, both, some_or_not}
use Rattle.slot_machine.proofs.bound_laws.Blocks.{precedes_or_not}
use Rattle.plan_model.specs.plan_meaning.Compilation.{AsksSomething, once, same_guard, children, pairs, last_of, Keeps, all_placed, IsParamIn, IsDeclaredIn, IsGuard, IsMethodPlan, AreMethodPlans, IsCompiled}
use Rattle.plan_model.specs.plan_meaning.Laws.{AreOrdered}
use Rattle.plan_model.proofs.plan_meaning.Pairs.{pairs_within, pairs_acyclic}
use Rattle.slot_encoding.specs.EncodedActions.{is_empty}
use Rattle.slot_encoding.proofs.existence.InTypes.{in_type_decided}
use Rattle.plan_proof.specs.OneText.{HasOneCompiled}
use Rattle.plan_proof.proofs.values.SaidFormulas.{says_nothing, empty-said, said-empty}
use Rattle.plan_proof.proofs.one.OneCompiled.{one_compiled}
use Rattle.plan_proof.proofs.one.SomeLine.{some_line}

-- the answer to a question that is decided
told : {P : Type 0} → Or_not P → (b : Bool) × (IsTrue b ↔ P)
told (inl p) = (true, ((λ t. p), (λ q. refl)))
told (inr n) = (false, ((λ t. absurd (let e = t in cc)), (λ q. absurd (n q))))

dec_or_not : {P : Type 0} → Dec P → Or_not P
dec_or_not (yes p) = inl p
dec_or_not (no n) = inr n

is_mode : (m mode : Checks) → Or_not (mode ≡ m)
is_mode Leaf Leaf = inl refl
is_mode Leaf AtOnce = inr (λ e. cc)
is_mode AtOnce Leaf = inr (λ e. cc)
is_mode AtOnce AtOnce = inl refl

-- the list of those that are as P says
keeps_some : {A : Type 0} (P : A → Type 0) → ((x : A) → Or_not (P x)) → (xs : List A) → (kept : List A) × Keeps P xs kept
keeps_some P decide [] = ([], refl)
keeps_some {A = A} P decide (x ∷ xs) = go (decide x) (keeps_some P decide xs)
  where
    go : Or_not (P x) → (kept : List A) × Keeps P xs kept → (kept : List A) × Keeps P (x ∷ xs) kept
    go (inl p) (rest, k) = (x ∷ rest, inl (p, rest, refl, k))
    go (inr n) (rest, k) = (rest, inr (n, k))

found : (P : ℕ → Type 0) → ((x : ℕ) → Or_not (P x)) → (n : ℕ) → (xs : List ℕ) × AreFound P n xs
found P decide zero = ([], found_none P)
found P decide (suc n) = go (decide n) (found P decide n)
  where
    more : n + 1 ≡ suc n
    more = omega arith

    go : Or_not (P n) → (xs : List ℕ) × AreFound P n xs → (xs : List ℕ) × AreFound P (suc n) xs
    go (inl p) (xs, h) = (xs ++ n ∷ [], subst (λ z. AreFound P z (xs ++ n ∷ [])) more (found_more P n xs h p))
    go (inr d) (xs, h) = (xs, subst (λ z. AreFound P z xs) more (found_less P n xs h d))

-- types, over any pairs and unions
module _ (types : Types) where
  part_or_not : (a t : ℕ) → Or_not (IsPart types a t)
  part_or_not a t = go (in_type_decided types (thing ∷ []) 0 t)
    where
      thing : Object
      thing = record { name = record { number = 0 }; ty = a; constant = true }

      go : Dec (InType types (thing ∷ []) 0 t) → Or_not (IsPart types a t)
      go (yes (x, e, p)) = let f : thing ≡ x = cc in inl (subst (λ (z : Object). IsPart types z.ty t) (sym f) p)
      go (no n) = inr (λ p. n (thing, refl, p))

  all_or_not : {A : Type 0} (P : A → Type 0) → ((x : A) → Or_not (P x)) → (xs : List A) → Or_not (All P xs)
  all_or_not P decide [] = inl (λ k d l. absurd (omega arith))
  all_or_not {A = A} P decide (x ∷ xs) = go (decide x) (all_or_not P decide xs)
    where
      go : Or_not (P x) → Or_not (All P xs) → Or_not (All P (x ∷ xs))
      go (inl p) (inl f) = inl each
        where
          each : All P (x ∷ xs)
          each zero d l = p
          each (suc k) d l = f k d (omega arith)
      go (inl p) (inr n) = inr (λ f. n (λ k d l. f (suc k) d (omega arith)))
      go (inr n) d = inr (λ f. n (f 0 x (omega arith)))

  is_a_or_not : (a t : ℕ) → Or_not (IsA types a t)
  is_a_or_not a t = go (union_at types a)
    where
      go : (o : Option (List ℕ)) → Or_not (MatchOption o (IsPart types a t) (λ members. All (λ member. IsPart types member t) members))
      go None = part_or_not a t
      go (Some ms) = all_or_not (λ member. IsPart types member t) (λ m. part_or_not m t) ms

-- pairs of a list
module _ (ps : List Pair) where
  pair_or_not : (i j : ℕ) → Or_not (Pairs ps i j)
  pair_or_not i j = elim (some_or_not (λ (p : Pair). (p.first ≡ i) × (p.then ≡ j)) (λ p. both (same_or_not p.first i) (same_or_not p.then j)) ps) [
    | inl (p, c, (e, f)) ↦ inl (subst (Contains ps) (λ k. record { first = e k; then = f k }) c)
    | inr n ↦ inr (λ c. n (pair i j, c, (refl, refl)))
  ]

  chain_or_not : (i j : ℕ) → Or_not (Precedes (Pairs ps) i j)
  chain_or_not = precedes_or_not (λ i j. record { first = i; then = j }) (λ (p : Pair). p.first) (λ (p : Pair). p.then) (λ p. refl) (λ i j. refl) (λ i j. refl) ps

  maximal_or_not : (count i : ℕ) → Or_not (IsMaximal (Pairs ps) count i)
  maximal_or_not count i = both (less_or_not i count) (ends (next_among (λ i j. record { first = i; then = j }) (λ (p : Pair). p.first) (λ (p : Pair). p.then) (λ p. refl) (λ i j. refl) ps i))
    where
      first_pair : (j : ℕ) → Precedes (Pairs ps) i j → (k : ℕ) × Pairs ps i k
      first_pair j (direct h) = (j, h)
      first_pair j (through {j = k} c h) = first_pair k c

      ends : ((j : ℕ) × Pairs ps i j) ⊎ ((j : ℕ) → Pairs ps i j → ⊥) → Or_not ((j : ℕ) → Precedes (Pairs ps) i j → ⊥)
      ends (inl (j, h)) = inr (λ f. f j (direct h))
      ends (inr n) = inl (λ j c. (let (k, h) = first_pair j c in n k h))

module _ (h : Hddl) (mode : Checks) where
  asks_or_not : (f : Formula) → Or_not (AsksSomething f)
  asks_or_not f = go (is_empty f) refl
    where
      go : (b : Bool) → is_empty f ≡ b → Or_not (AsksSomething f)
      go true e = inr (λ n. n ((empty-said (hddl_words h) f).1 e))
      go false e = inl (λ g. (let k = sym e ∙ (empty-said (hddl_words h) f).0 ∙ ap (λ z. says_nothing (said (hddl_words h) z)) g ∙ said-empty (hddl_words h) in cc))

  module _ (s : MethodSchema) where
    param_or_not : (o : Option Param) (ty : ℕ) → Or_not (IsParamIn h s o ty)
    param_or_not (Some p) ty = is_a_or_not h.types p.ty ty
    param_or_not None ty = inr (λ e. e)

    declared_or_not : (ty : ℕ) (t : Term) → Or_not (IsDeclaredIn h s ty t)
    declared_or_not ty (Var k) = param_or_not (slice_get s.params k) ty
    declared_or_not ty (Obj o) = dec_or_not (in_type_decided h.types h.objects o ty)

    some_plan : ArePairsOf (Pairs s.pairs) (length s.children) × IsAcyclic (Pairs s.pairs) → (plan : MethodPlan) × IsMethodPlan h mode s plan
    some_plan (w, a) =
        let (checked, is_checked) = told (both (is_mode Leaf mode) (asks_or_not s.pre)) in
        let (tested, is_tested) = told (both (is_mode AtOnce mode) (asks_or_not s.pre)) in
        let ps = pairs checked s in
        let count = length (children checked s) in
        let (line, is_line) = some_line (Pairs ps) count (pairs_within checked s w) (pairs_acyclic checked s a) (pair_or_not ps) (chain_or_not ps) in
        let heir = last_of line in
        let (copiers, are_copiers) = found (λ i. IsMaximal (Pairs ps) count i × (heir ≡ Some i → ⊥)) (λ i. both (maximal_or_not ps count i) (not_or (dec_or_not (is_some heir i)))) count in
        let (all, are_guards) = keeps_some (IsGuard h s) (λ g. not_or (declared_or_not g.ty g.term)) (all_placed h s.children) in (
          record { schema = record s { children = children checked s; pairs = ps }; checked = checked; tested = tested; line = line; heir = heir; copiers = copiers; guards = once same_guard all },
          record {
            checked = is_checked;
            tested = is_tested;
            schema = refl;
            line = is_line;
            heir = refl;
            copiers = λ i. ((λ c. ((are_copiers.each i).0 c).1), (λ m. (are_copiers.each i).1 (m.0.0, m)));
            copiers_in_order = are_copiers.rising;
            guards = (all, are_guards, refl);
          },
        )

  some_list : (ss : List MethodSchema) → ((s : MethodSchema) → Contains ss s → ArePairsOf (Pairs s.pairs) (length s.children) × IsAcyclic (Pairs s.pairs)) → (ps : List MethodPlan) × AreMethodPlans h mode ss ps
  some_list [] o = ([], tt)
  some_list (s ∷ ss) o =
      let (p, is) = some_plan s (o s (Contains-here s ss)) in
      let (ps, are) = some_list ss (λ t c. o t (Contains-later s ss t c)) in
      (p ∷ ps, (is, are))

  pub has_one_compiled : AreOrdered h → HasOneCompiled h mode
  has_one_compiled ordered =
      let (ps, are) = some_list (h.top ∷ h.methods) ordered in
      let c : Compiled = record { hddl = h; methods = ps } in
      let is : IsCompiled h mode c = record { hddl = refl; methods = are } in
      (c, is, λ d e. one_compiled h mode d c e is)
