-- The words of ground actions in worked rows.
use Rattle.std.proofs.Common.{ℕ, ◌≡◌, List, ◌++◌, ap, lit<}
use Rattle.std.proofs.lemmas.Fmt.{decimal-digits_of}
use Rattle.std.specs.Prelude.{codes}
use Rattle.htn_base.specs.Escapes.{slot_word}
use Rattle.plan_model.specs.declared.steps.GroundAction.{GroundAction}

abbrev pub step : List ℕ → List (List ℕ) → GroundAction
step name args = record { name = name; args = args }

pub slot_1 : slot_word 1 ≡ codes "htn_s1"
slot_1 = ap (λ d. codes "htn_s" ++ d) (decimal-digits_of 1 (lit< tt) (lit< tt))

pub slot_2 : slot_word 2 ≡ codes "htn_s2"
slot_2 = ap (λ d. codes "htn_s" ++ d) (decimal-digits_of 2 (lit< tt) (lit< tt))

pub slot_3 : slot_word 3 ≡ codes "htn_s3"
slot_3 = ap (λ d. codes "htn_s" ++ d) (decimal-digits_of 3 (lit< tt) (lit< tt))

pub slot_4 : slot_word 4 ≡ codes "htn_s4"
slot_4 = ap (λ d. codes "htn_s" ++ d) (decimal-digits_of 4 (lit< tt) (lit< tt))

pub slot_5 : slot_word 5 ≡ codes "htn_s5"
slot_5 = ap (λ d. codes "htn_s" ++ d) (decimal-digits_of 5 (lit< tt) (lit< tt))

pub slot_6 : slot_word 6 ≡ codes "htn_s6"
slot_6 = ap (λ d. codes "htn_s" ++ d) (decimal-digits_of 6 (lit< tt) (lit< tt))

pub slot_7 : slot_word 7 ≡ codes "htn_s7"
slot_7 = ap (λ d. codes "htn_s" ++ d) (decimal-digits_of 7 (lit< tt) (lit< tt))
