-- Two printed names have two words.
use Rattle.std.proofs.Common.{ℕ, zero, suc, ◌≡◌, false, true≢false, List, ◌++◌, get_or, Some, slice_get, refl, ap, sym, ◌∙◌, arith}
use Rattle.std.specs.Prelude.{codes, nat_eq}
use Rattle.std.specs.List.{starts_with}
use Rattle.htn_base.proofs.EscapeLemmas.{names_apart}
use Rattle.plan_model.specs.declared.schemas.MethodPlan.{MethodPlan}
use Rattle.plan_model.specs.declared.values.Compiled.{Compiled}
use Rattle.plan_model.specs.plan_meaning.SpelledPlan.{action_by, method_by}
use Rattle.problem_index.specs.declared.printed_index.PrintedName.{PrintedName}
use Rattle.problem_index.specs.declared.printed_index.PrintedName.TheVariants.{Action, Check, Method}
use Rattle.problem_index.specs.Printed.{HasPrintedNames, IsThere, word_of, source_word}
use Rattle.decoding.specs.PrintedSteps.{AreNamedApart}

abbrev fifth : List ℕ → ℕ
fifth word = get_or word 4 0

same_rest : (u v : List ℕ) → codes "htn_m_" ++ u ≡ codes "htn_m_" ++ v → u ≡ v
same_rest u v e = cc

same_rest_of_check : (u v : List ℕ) → codes "htn_c_" ++ u ≡ codes "htn_c_" ++ v → u ≡ v
same_rest_of_check u v e = cc

module _ (c : Compiled) (names : HasPrintedNames c) (apart : AreNamedApart c) where
  abbrev method_word : ℕ → List ℕ
  method_word m = method_by c (slice_get c.methods m)

  -- an action's word is no generated one
  no_action : (a : ℕ) (q : PrintedName) (rest : List ℕ) → IsThere c (Action a) → word_of c (Action a) ≡ word_of c q
      → word_of c q ≡ codes "htn_" ++ rest → starts_with nat_eq rest (codes "u_") ≡ false → ⊥
  no_action a q rest (s, at) e w f =
      true≢false (sym (names_apart.no_generated (source_word c s.name) rest (sym (ap (action_by c) at) ∙ e ∙ w)) ∙ f)

  same_method : (m n : ℕ) (p q : MethodPlan) → slice_get c.methods (suc m) ≡ Some p → slice_get c.methods (suc n) ≡ Some q
      → method_word (suc m) ≡ method_word (suc n) → suc m ≡ suc n
  same_method m n p q f g e =
      let words = sym (ap (method_by c) f) ∙ e ∙ ap (method_by c) g in
      ap suc (apart.methods m n p q f g (names_apart.one_to_one (source_word c p.schema.name) (source_word c q.schema.name) words))

  pub one_name : (p q : PrintedName) → IsThere c p → IsThere c q → word_of c p ≡ word_of c q → p ≡ q
  one_name (Action a) (Action d) (s, at) (t, on) e =
      let words = sym (ap (action_by c) at) ∙ e ∙ ap (action_by c) on in
      ap Action (apart.actions a d s t at on (names_apart.one_to_one (source_word c s.name) (source_word c t.name) words))
  one_name (Check zero) q (plan, at, checked) t e = absurd (names.unchecked plan at checked)
  one_name (Check (suc m)) (Check zero) s (plan, at, checked) e = absurd (names.unchecked plan at checked)
  one_name (Check (suc m)) (Check (suc n)) (p, at, k) (q, on, l) e =
      ap Check (same_method m n p q at on (same_rest_of_check (method_word (suc m)) (method_word (suc n)) e))
  one_name (Method zero) (Method zero) s t e = refl
  one_name (Method zero) (Method (suc n)) s t e = let f : 115 ≡ 109 = ap fifth e in absurd (omega (arith, f))
  one_name (Method (suc m)) (Method zero) s t e = let f : 109 ≡ 115 = ap fifth e in absurd (omega (arith, f))
  one_name (Method (suc m)) (Method (suc n)) (p, at) (q, on) e =
      ap Method (same_method m n p q at on (same_rest (method_word (suc m)) (method_word (suc n)) e))
  one_name (Action a) (Check m) s t e = absurd (no_action a (Check m) (codes "c_" ++ method_word m) s e refl refl)
  one_name (Action a) (Method zero) s t e = absurd (no_action a (Method zero) (codes "start") s e refl refl)
  one_name (Action a) (Method (suc m)) s t e = absurd (no_action a (Method (suc m)) (codes "m_" ++ method_word (suc m)) s e refl refl)
  one_name (Check (suc m)) (Action a) s t e = absurd (no_action a (Check (suc m)) (codes "c_" ++ method_word (suc m)) t (sym e) refl refl)
  one_name (Method zero) (Action a) s t e = absurd (no_action a (Method zero) (codes "start") t (sym e) refl refl)
  one_name (Method (suc m)) (Action a) s t e =
      absurd (no_action a (Method (suc m)) (codes "m_" ++ method_word (suc m)) t (sym e) refl refl)
  one_name (Check (suc m)) (Method zero) s t e = let f : 99 ≡ 115 = ap fifth e in absurd (omega (arith, f))
  one_name (Check (suc m)) (Method (suc n)) s t e = let f : 99 ≡ 109 = ap fifth e in absurd (omega (arith, f))
  one_name (Method zero) (Check n) s t e = let f : 115 ≡ 99 = ap fifth e in absurd (omega (arith, f))
  one_name (Method (suc m)) (Check n) s t e = let f : 109 ≡ 99 = ap fifth e in absurd (omega (arith, f))
