-- That objects are lower than later ones: the bytes of one fact, and the rows of all.
use Rattle.std.proofs.Common.{ℕ, suc, ◌≡◌, ◌+◌, ◌-◌, ◌<◌, Option, None, Some, List, [], ◌∷◌, ◌++◌, map, refl, ap, sym, ◌∙◌, append_assoc, arith}
use Rattle.std.proofs.lemmas.List.{append-nil}
use Rattle.text_forms.specs.Words.{word_at}
use Rattle.plan_model.specs.task_networks.Spelling.{numbers}
use Rattle.plan_model.specs.declared.terms.GroundAtom.{GroundAtom}
use Rattle.plan_model.specs.declared.values.Pddl.{Pddl}
use Rattle.plan_texts.specs.SpellsPddl.{pddl_words}
use Rattle.pddl_printer.specs.declared.lower.Lower.{Lower}
use Rattle.pddl_printer.specs.Behind.{of_each}
use Rattle.pddl_printer.specs.LowerFacts.{is_lower, row, rows, facts_of, lower_with, with_facts, with_lower}
use Rattle.pddl_printer.specs.Texts.{fact_text}
use Rattle.pddl_printer.proofs.Each.{of_each-append}

fact-bytes : (k a b : List ℕ) → lower_with k a b ≡ 32 ∷ 40 ∷ (k ++ (((32 ∷ a) ++ ((32 ∷ b) ++ [])) ++ 41 ∷ []))
fact-bytes k a b =
    let e : lower_with k a b ≡ 32 ∷ 40 ∷ (k ++ (((32 ∷ a) ++ (32 ∷ b)) ++ 41 ∷ [])) = simp append_assoc in
    e ∙ ap (λ z. 32 ∷ 40 ∷ (k ++ (((32 ∷ a) ++ z) ++ 41 ∷ []))) (sym (append-nil (32 ∷ b)))

pub fact-is : (p : Pddl) (predicate o u : ℕ)
    → lower_with (word_at (pddl_words p).predicates predicate) (word_at (pddl_words p).objects o) (word_at (pddl_words p).objects u) ≡ fact_text p (is_lower predicate o u)
fact-is p predicate o u = fact-bytes (word_at (pddl_words p).predicates predicate) (word_at (pddl_words p).objects o) (word_at (pddl_words p).objects u)

each-made : {X Y : Type 0} (f : Y → List ℕ) (g : X → Y) (xs : List X) → of_each (λ x. f (g x)) xs ≡ of_each f (map g xs)
each-made f g [] = refl
each-made f g (x ∷ xs) = ap (λ z. f (g x) ++ z) (each-made f g xs)

module _ (f : GroundAtom → List ℕ) (predicate : ℕ) where
  pub row-done : (o j n : ℕ) → j ≡ n → of_each (λ u. f (is_lower predicate o u)) (numbers (o + 1) j) ≡ of_each f (row predicate o n)
  row-done o j n e =
      let next : o + 1 ≡ suc o = omega arith in
      (λ i. of_each (λ u. f (is_lower predicate o u)) (numbers (next i) (e i))) ∙ each-made f (is_lower predicate o) (numbers (suc o) n)

  -- one row more
  pub rows-next : (first k count : ℕ) → k < count
      → of_each f (row predicate (first + k) (count - (k + 1))) ++ of_each f (rows predicate (first + (k + 1)) (count - (k + 1))) ≡ of_each f (rows predicate (first + k) (count - k))
  rows-next first k count l =
      let m = count - (k + 1) in
      let one_more : suc m ≡ count - k = omega (arith, l) in
      let next : first + (k + 1) ≡ suc (first + k) = omega arith in
      ap (λ o. of_each f (row predicate (first + k) m) ++ of_each f (rows predicate o m)) next
      ∙ sym (of_each-append f (row predicate (first + k) m) (rows predicate (suc (first + k)) m))
      ∙ ap (λ n. of_each f (rows predicate (first + k) n)) one_more

pub with_lower-is : (lower : Option Lower) (p : Pddl) → with_facts p (facts_of lower) ≡ with_lower lower p
with_lower-is None p = λ i. with_lower None (record {
  names = p.names;
  domain = p.domain;
  problem = p.problem;
  types = p.types;
  objects = p.objects;
  predicates = p.predicates;
  actions = p.actions;
  init = append-nil p.init i;
  goal = p.goal;
})
with_lower-is (Some lower) p = refl
