-- The text of a literal, and of its parts, with a word in place of the quantified variable; scope: the variables in force.
-- Source: this project's.
use Rattle.std.specs.Prelude.{ℕ, ◌==◌, cond, List, ◌∷◌, ◌++◌, codes}
use Rattle.text_forms.specs.Words.{Word, word_at}
use Rattle.text_forms.specs.Printing.{bytes_behind}
use Rattle.plan_texts.specs.SpellsPddl.{pddl_words}
use Rattle.plan_texts.specs.Printed.{all_parts}
use Rattle.plan_model.specs.declared.terms.Term.{Term}
use Rattle.plan_model.specs.declared.terms.Term.TheVariants.{Var, Obj}
use Rattle.plan_model.specs.declared.terms.Atom.{Atom}
use Rattle.plan_model.specs.declared.values.Pddl.{Pddl}
use Rattle.plan_model.specs.declared.scope.Scope.{Scope}
use Rattle.pddl_printer.specs.declared.instances.Literal.{Literal}
use Rattle.pddl_printer.specs.declared.instances.Literal.TheVariants.{Held, Denied, Conditional}
use Rattle.pddl_printer.specs.declared.each_object.Instances.{Instances}
use Rattle.pddl_printer.specs.WrittenOut.{each}
use Rattle.pddl_printer.specs.Behind.{of_each}
use Rattle.pddl_printer.specs.Literals.{literal_part}
use Rattle.pddl_printer.specs.Scopes.{words_in_force}
use Rattle.pddl_printer.specs.Texts.{term_text}

-- the word of an object between two texts
abbrev pub word_between : Pddl → List ℕ → List ℕ → ℕ → List ℕ
word_between p before behind o = before ++ (word_at (pddl_words p).objects o ++ behind)

module _ (p : Pddl) (scope : Scope) where
  -- depth: the number of the variable; w: the word
  module _ (depth : ℕ) (w : Word) where
    abbrev pub variable_with : ℕ → List ℕ
    variable_with k = cond (k == depth) (32 ∷ w) (term_text p scope (Var k))

    abbrev pub term_with : Term → List ℕ
    term_with (Var k) = variable_with k
    term_with (Obj o) = term_text p scope (Obj o)

    abbrev pub terms_with : List Term → List ℕ
    terms_with ts = of_each term_with ts

    -- without the parentheses around it
    abbrev pub inside_with : Atom → List ℕ
    inside_with a = word_at (pddl_words p).predicates a.predicate ++ terms_with a.args

    abbrev pub literal_with : Literal → List ℕ
    literal_with (Held a) = codes " (" ++ (inside_with a.now ++ codes ")")
    literal_with (Denied a) = codes " (not (" ++ (inside_with a.now ++ codes "))")
    literal_with (Conditional a k) = codes " (when (" ++ (inside_with a.now ++ (codes ") (" ++ (inside_with k.now ++ codes "))")))

  -- the literal for each object
  abbrev pub literals_text : Instances → Literal → List ℕ
  literals_text of l = bytes_behind (all_parts (each of.written.range of.depth (literal_part (pddl_words p) (words_in_force p scope) of.depth l)))
