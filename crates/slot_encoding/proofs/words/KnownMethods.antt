-- A table with all words of the printed problem has those of each method.
use Rattle.std.proofs.Common.{ℕ, zero, suc, ◌≡◌, ◌+◌, ◌-◌, List, [], ◌∷◌, ◌++◌, length, slice_get, Some, codes, subst, arith}
use Rattle.text_forms.specs.Words.{Word}
use Rattle.plan_model.specs.declared.schemas.MethodPlan.{MethodPlan}
use Rattle.plan_model.specs.declared.values.Compiled.{Compiled}
use Rattle.plan_texts.specs.Types.{Has, EachIs}
use Rattle.slot_encoding.specs.EncodedWords.{param_words, formula_words, numbered, method_word, method_words}
use Rattle.slot_encoding.proofs.words.Lists.{each-left, each-right}

module _ (c : Compiled) (names : List Word) where
  pub record IsKnownMethod (k : ℕ) (plan : MethodPlan) : Type 0 where
    pub word : Has names (method_word c k plan.schema.name)
    pub slots : EachIs (Has names) (numbered (codes "htn_h") (length plan.schema.children - 1))
    pub params : EachIs (Has names) (param_words c.hddl.names plan.schema.params)
    pub pre : EachIs (Has names) (formula_words c.hddl.names plan.schema.pre)

  pub of_first : (k : ℕ) (plan : MethodPlan) (rest : List Word)
      → EachIs (Has names) (method_word c k plan.schema.name ∷ numbered (codes "htn_h") (length plan.schema.children - 1) ++ param_words c.hddl.names plan.schema.params ++ formula_words c.hddl.names plan.schema.pre ++ rest) → IsKnownMethod k plan
  of_first k plan rest e =
      let front = method_word c k plan.schema.name ∷ numbered (codes "htn_h") (length plan.schema.children - 1) in
      let params = param_words c.hddl.names plan.schema.params in
      let pre = formula_words c.hddl.names plan.schema.pre in
      let a = each-left (Has names) (front ++ params ++ pre) rest e in
      let d = each-left (Has names) (front ++ params) pre a in
      let f = each-left (Has names) front params d in
      record { word = f.0; slots = f.1; params = each-right (Has names) front params d; pre = each-right (Has names) (front ++ params) pre a }

  pub known_method : (k : ℕ) (plans : List MethodPlan) (m : ℕ) (plan : MethodPlan) → EachIs (Has names) (method_words c k plans) → slice_get plans m ≡ Some plan → IsKnownMethod (k + m) plan
  known_method k [] m plan e f = absurd cc
  known_method k (x ∷ plans) zero plan e f =
      let g : x ≡ plan = cc in let n : k ≡ k + 0 = omega arith in
      subst (λ z. IsKnownMethod z plan) n (subst (IsKnownMethod k) g (of_first k x (method_words c (suc k) plans) e))
  known_method k (x ∷ plans) (suc m) plan e f =
      let n : suc k + m ≡ k + suc m = omega arith in
      let front = method_word c k x.schema.name ∷ numbered (codes "htn_h") (length x.schema.children - 1) ++ param_words c.hddl.names x.schema.params ++ formula_words c.hddl.names x.schema.pre in
      subst (λ z. IsKnownMethod z plan) n (known_method (suc k) plans m plan (each-right (Has names) front (method_words c (suc k) plans) e) f)
