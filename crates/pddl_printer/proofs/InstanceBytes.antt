-- The text of a literal with an object in place of its variable is the text with the object's word there.
use Rattle.std.proofs.Common.{ℕ, ◌≡◌, Bool, true, false, cond, List, [], ◌∷◌, ◌++◌, map, codes, refl, ap, ◌∙◌}
use Rattle.std.specs.Prelude.{◌==◌}
use Rattle.text_forms.specs.Words.{word_at}
use Rattle.text_forms.specs.Printing.{bytes_behind}
use Rattle.plan_texts.specs.SpellsPddl.{pddl_words}
use Rattle.plan_texts.specs.Printed.{all_parts, term_part}
use Rattle.plan_model.specs.declared.terms.Term.{Term}
use Rattle.plan_model.specs.declared.terms.Term.TheVariants.{Var, Obj}
use Rattle.plan_model.specs.declared.terms.Atom.{Atom}
use Rattle.plan_model.specs.declared.values.Pddl.{Pddl}
use Rattle.plan_model.specs.declared.scope.Scope.{Scope}
use Rattle.pddl_printer.specs.declared.instances.Literal.{Literal}
use Rattle.pddl_printer.specs.declared.instances.Literal.TheVariants.{Held, Denied, Conditional}
use Rattle.pddl_printer.specs.WrittenOut.{placed, placed_atom}
use Rattle.pddl_printer.specs.Behind.{behind}
use Rattle.pddl_printer.specs.Literals.{inside, literal_part}
use Rattle.pddl_printer.specs.Scopes.{words_in_force}
use Rattle.pddl_printer.specs.InstanceTexts.{term_with, terms_with, inside_with, literal_with}
use Rattle.pddl_printer.proofs.LiteralBytes.{held-bytes, denied-bytes, conditional-bytes}

module _ (p : Pddl) (scope : Scope) (depth o : ℕ) where
  abbrev word : List ℕ
  word = word_at (pddl_words p).objects o

  in-place : (b : Bool) (k : ℕ) → cond b (32 ∷ word) (behind (term_part (pddl_words p) (words_in_force p scope) (Var k))) ≡ behind (term_part (pddl_words p) (words_in_force p scope) (cond b (Obj o) (Var k)))
  in-place true k = refl
  in-place false k = refl

  term : (t : Term) → term_with p scope depth word t ≡ behind (term_part (pddl_words p) (words_in_force p scope) (placed depth o t))
  term (Var k) = in-place (k == depth) k
  term (Obj x) = refl

  terms : (ts : List Term) → terms_with p scope depth word ts ≡ bytes_behind (all_parts (map (term_part (pddl_words p) (words_in_force p scope)) (map (placed depth o) ts)))
  terms [] = refl
  terms (t ∷ ts) = λ i. term t i ++ terms ts i

  within : (a : Atom) → inside_with p scope depth word a ≡ inside (pddl_words p) (words_in_force p scope) (placed_atom depth o a)
  within a = ap (λ z. word_at (pddl_words p).predicates a.predicate ++ z) (terms a.args)

  pub instance-is : (l : Literal) → literal_with p scope depth word l ≡ behind (literal_part (pddl_words p) (words_in_force p scope) depth l o)
  instance-is (Held a) = ap (λ z. codes " (" ++ (z ++ codes ")")) (within a.now) ∙ held-bytes (pddl_words p) (words_in_force p scope) (placed_atom depth o a.now)
  instance-is (Denied a) = ap (λ z. codes " (not (" ++ (z ++ codes "))")) (within a.now) ∙ denied-bytes (pddl_words p) (words_in_force p scope) (placed_atom depth o a.now)
  instance-is (Conditional a k) =
      (λ i. codes " (when (" ++ (within a.now i ++ (codes ") (" ++ (within k.now i ++ codes "))"))))
      ∙ conditional-bytes (pddl_words p) (words_in_force p scope) (placed_atom depth o a.now) (placed_atom depth o k.now)
