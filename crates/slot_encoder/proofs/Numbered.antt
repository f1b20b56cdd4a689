-- Lists that are made along numbers, or along a list and numbers at once.
use Rattle.std.proofs.Common.{ℕ, suc, ◌≡◌, ◌+◌, ◌-◌, ◌<◌, Bool, true, false, cond, List, [], ◌∷◌, ◌++◌, map, ap, sym, ◌∙◌, arith, append_assoc, Option}
use Rattle.plan_model.specs.task_networks.Spelling.{numbers, is_heir}
use Rattle.plan_model.specs.declared.formulas.Formula.{Formula}
use Rattle.slot_encoding.specs.EncodedActions.{slot_vars, differ}
use Rattle.slot_encoder.specs.Pieces.{unequal_to}

-- the slots of the children from number i on, k of them
slots_step : (heir : Option ℕ) (i new k : ℕ) → slot_vars heir i new (suc k) ≡ cond (is_heir heir i) 0 new ∷ slot_vars heir (i + 1) (cond (is_heir heir i) new (new + 1)) k
slots_step heir i new k = go (is_heir heir i)
  where
    go : (b : Bool) → cond b (0 ∷ slot_vars heir (suc i) new k) (new ∷ slot_vars heir (suc i) (suc new) k) ≡ cond b 0 new ∷ slot_vars heir (i + 1) (cond b new (new + 1)) k
    go true = ap (λ j. 0 ∷ slot_vars heir j new k) (let e : suc i ≡ i + 1 = omega arith in e)
    go false = ap (λ j. new ∷ slot_vars heir j (suc new) k) (let e : suc i ≡ i + 1 = omega arith in e) ∙ ap (λ j. new ∷ slot_vars heir (i + 1) j k) (let e : suc new ≡ new + 1 = omega arith in e)

pub slots_next : (heir : Option ℕ) (i new n : ℕ) (old now next : List ℕ) (then : ℕ) → i < n → now ++ slot_vars heir i new (n - i) ≡ old
    → next ≡ now ++ cond (is_heir heir i) 0 new ∷ [] → then ≡ cond (is_heir heir i) new (new + 1) → next ++ slot_vars heir (i + 1) then (n - (i + 1)) ≡ old
slots_next heir i new n old now next then l e g h =
    ap (λ z. z ++ slot_vars heir (i + 1) then (n - (i + 1))) g
    ∙ append_assoc now (cond (is_heir heir i) 0 new ∷ []) (slot_vars heir (i + 1) then (n - (i + 1)))
    ∙ ap (λ t. now ++ (cond (is_heir heir i) 0 new ∷ slot_vars heir (i + 1) t (n - (i + 1)))) h
    ∙ ap (λ z. now ++ z) (sym (slots_step heir i new (n - (i + 1))))
    ∙ ap (λ k. now ++ slot_vars heir i new k) (let k : suc (n - (i + 1)) ≡ n - i = omega arith in k)
    ∙ e

-- a slot differs from those after it
pub differ_next : (i n : ℕ) (old now next : List Formula) → i < n → now ++ differ (numbers (1 + i) (n - i)) ≡ old
    → next ≡ now ++ map (unequal_to (1 + i)) (numbers (i + 2) (n - 1 - i)) → next ++ differ (numbers (1 + (i + 1)) (n - (i + 1))) ≡ old
differ_next i n old now next l e g =
    let m = n - 1 - i in
    ap (λ z. z ++ differ (numbers (1 + (i + 1)) (n - (i + 1)))) g
    ∙ append_assoc now (map (unequal_to (1 + i)) (numbers (i + 2) m)) (differ (numbers (1 + (i + 1)) (n - (i + 1))))
    ∙ ap (λ k. now ++ (map (unequal_to (1 + i)) (numbers k m) ++ differ (numbers (1 + (i + 1)) (n - (i + 1))))) (let k : i + 2 ≡ suc (1 + i) = omega arith in k)
    ∙ ap (λ k. now ++ (map (unequal_to (1 + i)) (numbers (suc (1 + i)) m) ++ differ (numbers k (n - (i + 1))))) (let k : 1 + (i + 1) ≡ suc (1 + i) = omega arith in k)
    ∙ ap (λ k. now ++ (map (unequal_to (1 + i)) (numbers (suc (1 + i)) m) ++ differ (numbers (suc (1 + i)) k))) (let k : n - (i + 1) ≡ n - 1 - i = omega arith in k)
    ∙ ap (λ k. now ++ differ (numbers (1 + i) k)) (let k : suc (n - 1 - i) ≡ n - i = omega arith in k)
    ∙ e
