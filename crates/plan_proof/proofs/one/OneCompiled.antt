-- A problem has one compiled value at most in each mode.
use Rattle.std.proofs.Common.{ℕ, ◌≡◌, List, [], ◌∷◌, Some, length, refl, ap, sym, subst, ◌∙◌}
use Rattle.plan_model.specs.declared.options.Checks.{Checks}
use Rattle.plan_model.specs.declared.schemas.MethodSchema.{MethodSchema}
use Rattle.plan_model.specs.declared.schemas.MethodPlan.{MethodPlan}
use Rattle.plan_model.specs.declared.values.Hddl.{Hddl}
use Rattle.plan_model.specs.declared.values.Compiled.{Compiled}
use Rattle.plan_model.specs.Pairs.{Pairs}
use Rattle.plan_model.specs.task_networks.Order.{IsLine, IsMaximal}
use Rattle.plan_model.specs.plan_meaning.Compilation.{once, same_guard, children, pairs, last_of, all_placed, IsGuard, IsMethodPlan, AreMethodPlans, IsCompiled}
use Rattle.slot_encoding.proofs.encoded_texts.KeptSame.{keeps-same}
use Rattle.plan_proof.proofs.values.Pairing.{increasing-same}
use Rattle.plan_proof.proofs.values.SamePlans.{bool_same, line-same}

module _ (h : Hddl) (mode : Checks) where
  module _ (s : MethodSchema) (p q : MethodPlan) (hp : IsMethodPlan h mode s p) (hq : IsMethodPlan h mode s q) where
    checked : p.checked ≡ q.checked
    checked = bool_same p.checked q.checked (λ x. hq.checked.1 (hp.checked.0 x)) (λ x. hp.checked.1 (hq.checked.0 x))

    tested : p.tested ≡ q.tested
    tested = bool_same p.tested q.tested (λ x. hq.tested.1 (hp.tested.0 x)) (λ x. hp.tested.1 (hq.tested.0 x))

    schema : p.schema ≡ q.schema
    schema = hp.schema ∙ (λ i. record s { children = children (checked i) s; pairs = pairs (checked i) s }) ∙ sym hq.schema

    line : p.line ≡ q.line
    line = line-same (Pairs q.schema.pairs) q.schema.children p.line q.line (subst (λ (z : MethodSchema). IsLine (Pairs z.pairs) (length z.children) p.line) schema hp.line) hq.line

    heir : p.heir ≡ q.heir
    heir = hp.heir ∙ ap last_of line ∙ sym hq.heir

    copier : (i : ℕ) → (IsMaximal (Pairs p.schema.pairs) (length p.schema.children) i × (p.heir ≡ Some i → ⊥)) ≡ (IsMaximal (Pairs q.schema.pairs) (length q.schema.children) i × (q.heir ≡ Some i → ⊥))
    copier i = let f = schema in let g = heir in λ j. IsMaximal (Pairs (f j).pairs) (length (f j).children) i × (g j ≡ Some i → ⊥)

    copiers : p.copiers ≡ q.copiers
    copiers =
        increasing-same p.copiers q.copiers hp.copiers_in_order hq.copiers_in_order
        (λ i x. (hq.copiers i).1 (subst (λ (z : Type 0). z) (copier i) ((hp.copiers i).0 x)))
        (λ i x. (hp.copiers i).1 (subst (λ (z : Type 0). z) (sym (copier i)) ((hq.copiers i).0 x)))

    guards : p.guards ≡ q.guards
    guards =
        let (xs, k, e) = hp.guards in let (ys, l, f) = hq.guards in
        e ∙ ap (once same_guard) (keeps-same (IsGuard h s) (IsGuard h s) (λ x n. n) (λ x n. n) (all_placed h s.children) xs ys k l) ∙ sym f

    one_plan : p ≡ q
    one_plan =
        let a = checked in let b = tested in let c = schema in let d = line in let e = heir in let f = copiers in let g = guards in
        λ i. record { schema = c i; checked = a i; tested = b i; line = d i; heir = e i; copiers = f i; guards = g i }

  one_list : (ss : List MethodSchema) (ps qs : List MethodPlan) → AreMethodPlans h mode ss ps → AreMethodPlans h mode ss qs → ps ≡ qs
  one_list [] [] [] a b = refl
  one_list [] [] (q ∷ qs) a b = absurd b
  one_list [] (p ∷ ps) qs a b = absurd a
  one_list (s ∷ ss) [] qs a b = absurd a
  one_list (s ∷ ss) (p ∷ ps) [] a b = absurd b
  one_list (s ∷ ss) (p ∷ ps) (q ∷ qs) a b = let e = one_plan s p q a.0 b.0 in let r = one_list ss ps qs a.1 b.1 in λ i. e i ∷ r i

  pub one_compiled : (c d : Compiled) → IsCompiled h mode c → IsCompiled h mode d → c ≡ d
  one_compiled c d a b =
      let e = a.hddl ∙ sym b.hddl in let f = one_list (h.top ∷ h.methods) c.methods d.methods a.methods b.methods in
      λ i. record { hddl = e i; methods = f i }
