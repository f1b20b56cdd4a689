-- Methods that are written alike, whatever ids and types are numbered, are compiled alike.
use Rattle.std.proofs.Common.{ℕ, suc, ◌≡◌, ◌≢◌, ◌↔◌, Bool, true, false, List, [], ◌∷◌, ◌++◌, map, length, Some, ap, sym, subst, ◌∙◌}
use Rattle.plan_texts.specs.Together.{Together}
use Rattle.plan_texts.proofs.Together.{maps-length}
use Rattle.plan_model.specs.Pairs.{pair, Pairs}
use Rattle.plan_model.specs.declared.terms.Term.TheVariants.{Var}
use Rattle.plan_model.specs.declared.networks.Head.TheVariants.{Check}
use Rattle.plan_model.specs.declared.networks.Pair.{Pair}
use Rattle.plan_model.specs.declared.options.Checks.{Checks}
use Rattle.plan_model.specs.declared.schemas.MethodSchema.{MethodSchema}
use Rattle.plan_model.specs.declared.schemas.MethodPlan.{MethodPlan}
use Rattle.plan_model.specs.declared.values.Hddl.{Hddl}
use Rattle.plan_model.specs.task_networks.Order.{IsLine, IsMaximal}
use Rattle.plan_model.specs.task_networks.Spelling.{numbers}
use Rattle.plan_model.specs.plan_meaning.Compilation.{AsksSomething, once, same_pair, children, pairs, last_of, IsMethodPlan, AreMethodPlans}
use Rattle.plan_proof.proofs.values.Pairing.{increasing-same}
use Rattle.plan_proof.proofs.values.SamePlans.{bool_same, line-same}
use Rattle.pruned_answers.proofs.Twins.{call}

pub record AreWrittenAlike (s t : MethodSchema) : Type 0 where
  pub task : s.task ≡ t.task
  pub task_args : s.task_args ≡ t.task_args
  pub calls : map call s.children ≡ map call t.children
  pub pairs : s.pairs ≡ t.pairs
  pub constraints : s.constraints ≡ t.constraints
  pub params : length s.params ≡ length t.params
  pub asks : AsksSomething s.pre ↔ AsksSomething t.pre

pub record AreCompiledAlike (p q : MethodPlan) : Type 0 where
  pub task : p.schema.task ≡ q.schema.task
  pub task_args : p.schema.task_args ≡ q.schema.task_args
  pub calls : map call p.schema.children ≡ map call q.schema.children
  pub pairs : p.schema.pairs ≡ q.schema.pairs
  pub constraints : p.schema.constraints ≡ q.schema.constraints
  pub tested : p.tested ≡ q.tested
  pub heir : p.heir ≡ q.heir
  pub copiers : p.copiers ≡ q.copiers

module _ (c d : Hddl) (mode : Checks) (s t : MethodSchema) (e : AreWrittenAlike s t) (p q : MethodPlan) (hp : IsMethodPlan c mode s p) (hq : IsMethodPlan d mode t q) where
  same_checked : p.checked ≡ q.checked
  same_checked = bool_same p.checked q.checked (λ x. (let y = hp.checked.0 x in hq.checked.1 (y.0, e.asks.0 y.1))) (λ x. (let y = hq.checked.0 x in hp.checked.1 (y.0, e.asks.1 y.1)))

  same_tested : p.tested ≡ q.tested
  same_tested = bool_same p.tested q.tested (λ x. (let y = hp.tested.0 x in hq.tested.1 (y.0, e.asks.0 y.1))) (λ x. (let y = hq.tested.0 x in hp.tested.1 (y.0, e.asks.1 y.1)))

  calls_by : (b : Bool) → map call (children b s) ≡ map call (children b t)
  calls_by false = e.calls
  calls_by true = let l = e.params in let f = e.calls in λ i. (Check, map Var (numbers 0 (l i))) ∷ f i

  pairs_by : (b : Bool) → pairs b s ≡ pairs b t
  pairs_by false = ap (once same_pair) e.pairs
  pairs_by true =
      let l = maps-length call call s.children t.children e.calls in let f = e.pairs in
      λ i. once same_pair (map (λ k. pair 0 (suc k)) (numbers 0 (l i)) ++ map (λ (p : Pair). pair (suc p.first) (suc p.then)) (f i))

  same_calls : map call p.schema.children ≡ map call q.schema.children
  same_calls = ap (λ (z : MethodSchema). map call z.children) hp.schema ∙ calls_by p.checked ∙ ap (λ b. map call (children b t)) same_checked ∙ sym (ap (λ (z : MethodSchema). map call z.children) hq.schema)

  same_pairs : p.schema.pairs ≡ q.schema.pairs
  same_pairs = ap (λ (z : MethodSchema). z.pairs) hp.schema ∙ pairs_by p.checked ∙ ap (λ b. pairs b t) same_checked ∙ sym (ap (λ (z : MethodSchema). z.pairs) hq.schema)

  same_count : length p.schema.children ≡ length q.schema.children
  same_count = maps-length call call p.schema.children q.schema.children same_calls

  same_line : p.line ≡ q.line
  same_line = line-same (Pairs q.schema.pairs) q.schema.children p.line q.line (subst (λ (z : Type 0). z) (λ i. IsLine (Pairs (same_pairs i)) (same_count i) p.line) hp.line) hq.line

  same_heir : p.heir ≡ q.heir
  same_heir = hp.heir ∙ ap last_of same_line ∙ sym hq.heir

  copier : (i : ℕ) → (IsMaximal (Pairs p.schema.pairs) (length p.schema.children) i × (p.heir ≢ Some i)) ≡ (IsMaximal (Pairs q.schema.pairs) (length q.schema.children) i × (q.heir ≢ Some i))
  copier i = λ j. IsMaximal (Pairs (same_pairs j)) (same_count j) i × (same_heir j ≢ Some i)

  same_copiers : p.copiers ≡ q.copiers
  same_copiers =
      increasing-same p.copiers q.copiers hp.copiers_in_order hq.copiers_in_order
      (λ i x. (hq.copiers i).1 (subst (λ (z : Type 0). z) (copier i) ((hp.copiers i).0 x)))
      (λ i x. (hp.copiers i).1 (subst (λ (z : Type 0). z) (sym (copier i)) ((hq.copiers i).0 x)))

  pub compiled_alike : AreCompiledAlike p q
  compiled_alike = record {
    task = ap (λ (z : MethodSchema). z.task) hp.schema ∙ e.task ∙ sym (ap (λ (z : MethodSchema). z.task) hq.schema);
    task_args = ap (λ (z : MethodSchema). z.task_args) hp.schema ∙ e.task_args ∙ sym (ap (λ (z : MethodSchema). z.task_args) hq.schema);
    calls = same_calls;
    pairs = same_pairs;
    constraints = ap (λ (z : MethodSchema). z.constraints) hp.schema ∙ e.constraints ∙ sym (ap (λ (z : MethodSchema). z.constraints) hq.schema);
    tested = same_tested;
    heir = same_heir;
    copiers = same_copiers;
  }

-- plans of two methods that go together
pub record ArePlansOf (c d : Hddl) (mode : Checks) (R : MethodSchema → MethodSchema → Type 0) (p q : MethodPlan) : Type 0 where
  pub one : MethodSchema
  pub other : MethodSchema
  pub together : R one other
  pub plan : IsMethodPlan c mode one p
  pub other_plan : IsMethodPlan d mode other q

pub plans_together : (c d : Hddl) (mode : Checks) (R : MethodSchema → MethodSchema → Type 0) (ss ts : List MethodSchema) (ps qs : List MethodPlan) → Together R ss ts → AreMethodPlans c mode ss ps → AreMethodPlans d mode ts qs
    → Together (ArePlansOf c d mode R) ps qs
plans_together c d mode R [] [] [] [] e h k = tt
plans_together c d mode R [] [] [] (q ∷ qs) e h k = absurd k
plans_together c d mode R [] [] (p ∷ ps) qs e h k = absurd h
plans_together c d mode R [] (t ∷ ts) ps qs e h k = absurd e
plans_together c d mode R (s ∷ ss) [] ps qs e h k = absurd e
plans_together c d mode R (s ∷ ss) (t ∷ ts) [] qs e h k = absurd h
plans_together c d mode R (s ∷ ss) (t ∷ ts) (p ∷ ps) [] e h k = absurd k
plans_together c d mode R (s ∷ ss) (t ∷ ts) (p ∷ ps) (q ∷ qs) e h k = (record { one = s; other = t; together = e.0; plan = h.0; other_plan = k.0 }, plans_together c d mode R ss ts ps qs e.1 h.1 k.1)
