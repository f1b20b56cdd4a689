-- What is printed for conditions and effects that are written out, with these words of variables in force.
-- Source: appendix A (grammar) of Fox and Long, "PDDL2.1", JAIR 20, 2003, level 1; the layout is this project's.
use Rattle.std.specs.Prelude.{ℕ, ◌==◌, Bool, false, List, [], ◌∷◌, ◌++◌, map, codes}
use Rattle.text_forms.specs.Lists.{Part, nothing, part}
use Rattle.text_forms.specs.Words.{Word, word_at}
use Rattle.text_forms.specs.Printing.{bytes_behind, headed}
use Rattle.plan_texts.specs.Declared.{Declared}
use Rattle.plan_texts.specs.Printed.{all_parts, term_part, applied_part, formula_part, effect_part}
use Rattle.plan_model.specs.declared.terms.Atom.{Atom}
use Rattle.plan_model.specs.declared.terms.Param.{Param}
use Rattle.plan_model.specs.declared.formulas.Formula.{Formula}
use Rattle.plan_model.specs.declared.effects.Effect.{Effect}
use Rattle.pddl_printer.specs.declared.object_range.Range.{Range}
use Rattle.pddl_printer.specs.declared.instances.Literal.{Literal}
use Rattle.pddl_printer.specs.declared.instances.Literal.TheVariants.{Held, Denied, Conditional}
use Rattle.pddl_printer.specs.WrittenOut.{placed_atom}

module _ (v : Declared) (scope : List Word) where
  abbrev pub atom_part : Atom → Part
  atom_part a = applied_part v scope a.predicate a.args

  -- an atom without the parentheses around it
  abbrev pub inside : Atom → List ℕ
  inside a = word_at v.predicates a.predicate ++ bytes_behind (all_parts (map (term_part v scope) a.args))

  abbrev pub denied_part : Atom → Part
  denied_part a = headed (codes "not") (part (atom_part a) nothing)

  abbrev pub conditional_part : Atom → Atom → Part
  conditional_part a k = headed (codes "when") (part (atom_part a) (part (atom_part k) nothing))

  -- a literal with this object in place of the variable of this number
  abbrev pub literal_part : ℕ → Literal → ℕ → Part
  literal_part depth (Held a) = λ o. atom_part (placed_atom depth o a.now)
  literal_part depth (Denied a) = λ o. denied_part (placed_atom depth o a.now)
  literal_part depth (Conditional a k) = λ o. conditional_part (placed_atom depth o a.now) (placed_atom depth o k.now)

  -- each behind a space
  abbrev pub conditions_behind : List Formula → List ℕ
  conditions_behind fs = bytes_behind (all_parts (map (λ f. formula_part v f scope) fs))

  abbrev pub effects_behind : List Effect → List ℕ
  effects_behind es = bytes_behind (all_parts (map (λ e. effect_part v e scope) es))

-- one variable, and it is of the type whose objects are written out
abbrev pub is_over : Range → List Param → Bool
is_over r [] = false
is_over r (x ∷ []) = x.ty == r.ty
is_over r (x ∷ y ∷ xs) = false
