-- What is printed of the parts of an encoded value, in bytes; beside it a row has what was written by hand, by this table:
--
--   a method asks   its task in ?htn_h; that no slot comes before it; each new slot free, and different from the later ones; constraints; guards;
--                   the precondition where it is tested
--   and does        its task goes, the new slots aren't free; the children come into their slots, the line's last one into ?htn_h, the others into
--                   the new ones; pairs of slots; copied pairs, of which there are none here. Without children ?htn_h is free, and no pair leaves it
--   an action,      asks itself in ?htn_h, that no slot comes before it, and its condition; it goes, ?htn_h is free, no pair leaves it, and then
--   a check         its effect
use Rattle.std.proofs.Common.{ℕ, ◌≡◌, List, [], ◌∷◌, ◌++◌, map, codes, true, false, true≢false, lit<, sym, ap, ◌∙◌}
use Rattle.std.proofs.lemmas.Fmt.{decimal-digits_of}
use Rattle.std.specs.Prelude.{Bool, decimal}
use Rattle.text_forms.specs.Printing.{bytes}
use Rattle.text_forms.specs.Lists.{Part, Parts, name, group, nothing, part}
use Rattle.plan_model.specs.declared.terms.GroundAtom.{GroundAtom}
use Rattle.plan_model.specs.declared.schemas.Predicate.{Predicate}
use Rattle.plan_model.specs.declared.schemas.ActionSchema.{ActionSchema}
use Rattle.plan_model.specs.declared.values.Compiled.{Compiled}
use Rattle.plan_texts.specs.Declared.{Declared, named, variable, words_with}
use Rattle.plan_texts.specs.Printed.{params_parts, formula_part, effect_part}
use Rattle.plan_texts.specs.PrintedTexts.{predicate_part, fact_part}
use Rattle.plan_texts.proofs.Equations.{part-Holds, part-Equal, part-Not, part-And, part-Imply, part-Forall, effect-Add, effect-Delete, effect-And, effect-Forall}
use Rattle.plan_model.specs.declared.formulas.Formula.TheFolds.{fold-roll-Formula, map-Formula}
use Rattle.plan_model.specs.declared.formulas.Formula.TheOpen.{Formula-F}
use Rattle.plan_model.specs.declared.formulas.Formula.TheVariants.{Holds, Equal, Not, And, Imply, rolls-Holds, rolls-Equal, rolls-Not, rolls-And, rolls-Imply}
use Rattle.plan_model.specs.declared.formulas.Formula.{Formula, roll-Formula}
use Rattle.plan_model.specs.declared.terms.Atom.{Atom}
use Rattle.plan_model.specs.declared.terms.Term.{Term}
use Rattle.plan_model.specs.plan_meaning.Compilation.{AsksSomething}
use Rattle.slot_encoding.specs.SourceParts.{moved, source_atom, formula_layer, source_formula}
use Rattle.plan_model.specs.declared.effects.Effect.TheFolds.{fold-roll-Effect}
use Rattle.plan_model.specs.declared.effects.Effect.TheOpen.{Effect-F}
use Rattle.plan_model.specs.declared.effects.Effect.TheVariants as E
use Rattle.slot_encoding.specs.EncodedNames.{encoded_types, encoded_objects, encoded_predicates}
use Rattle.slot_encoding.specs.EncodedActions.{no_part, is_empty, no_effect, is_empty_effect}

-- numerals
pub digit_1 : decimal 1 ≡ codes "1"
digit_1 = decimal-digits_of 1 (lit< tt) (lit< tt)

pub digit_2 : decimal 2 ≡ codes "2"
digit_2 = decimal-digits_of 2 (lit< tt) (lit< tt)

pub digit_3 : decimal 3 ≡ codes "3"
digit_3 = decimal-digits_of 3 (lit< tt) (lit< tt)

pub digit_4 : decimal 4 ≡ codes "4"
digit_4 = decimal-digits_of 4 (lit< tt) (lit< tt)

-- which conditions and effects are empty, and so aren't printed
pub empty_condition : is_empty (And []) ≡ true
empty_condition = ap is_empty (sym (rolls-And [])) ∙ fold-roll-Formula Bool no_part (Formula-F.And [])

pub is_atom : (a : Atom) → is_empty (Holds a) ≡ false
is_atom a = ap is_empty (sym (rolls-Holds a)) ∙ fold-roll-Formula Bool no_part (Formula-F.Holds a)

pub is_imply : (f g : Formula) → is_empty (Imply f g) ≡ false
is_imply f g = ap is_empty (sym (rolls-Imply f g)) ∙ fold-roll-Formula Bool no_part (Formula-F.Imply f g)

-- what isn't empty makes a check, or is tested
pub asks : (f : Formula) → is_empty f ≡ false → AsksSomething f
asks f some e = true≢false (sym empty_condition ∙ sym (ap is_empty e) ∙ some)

pub empty_effect : is_empty_effect (E.And []) ≡ true
empty_effect = ap is_empty_effect (sym (E.rolls-And [])) ∙ fold-roll-Effect Bool no_effect (Effect-F.And [])

-- a source formula behind further variables
module _ (names source : List (List ℕ)) (front : ℕ) where
  abbrev behind : Formula → Formula
  behind = source_formula names source front

  behind_roll : (x : Formula-F Formula)
      → behind (roll-Formula x) ≡ roll-Formula (formula_layer names source front (map-Formula Formula Formula behind x))
  behind_roll x = fold-roll-Formula Formula (λ layer. roll-Formula (formula_layer names source front layer)) x

  pub source-Holds : (a : Atom) → behind (Holds a) ≡ Holds (source_atom names source front a)
  source-Holds a = ap behind (sym (rolls-Holds a)) ∙ behind_roll (Formula-F.Holds a) ∙ rolls-Holds (source_atom names source front a)

  pub source-Equal : (s t : Term) → behind (Equal s t) ≡ Equal (moved names source front s) (moved names source front t)
  source-Equal s t =
      ap behind (sym (rolls-Equal s t)) ∙ behind_roll (Formula-F.Equal s t) ∙ rolls-Equal (moved names source front s) (moved names source front t)

  pub source-Not : (f : Formula) → behind (Not f) ≡ Not (behind f)
  source-Not f = ap behind (sym (rolls-Not f)) ∙ behind_roll (Formula-F.Not f) ∙ rolls-Not (behind f)

  pub source-Imply : (f g : Formula) → behind (Imply f g) ≡ Imply (behind f) (behind g)
  source-Imply f g = ap behind (sym (rolls-Imply f g)) ∙ behind_roll (Formula-F.Imply f g) ∙ rolls-Imply (behind f) (behind g)

-- the words in use in an encoded value over this table, with b slots
abbrev pub declared : Compiled → List (List ℕ) → ℕ → Declared
declared c words b = words_with words (encoded_types c words b) (encoded_predicates c words b) (encoded_objects c words b)

abbrev pub texts_of : Parts → List (List ℕ)
texts_of nothing = []
texts_of (part p ps) = bytes p ∷ texts_of ps

-- what stands in a nested list, part by part
abbrev pub inside : Part → List (List ℕ)
inside (name w) = w ∷ []
inside (group ps) = texts_of ps

module _ (v : Declared) where
  -- the name of an action, its parameters, and what stands in its condition and in its effect
  abbrev pub action_texts : ActionSchema → List (List ℕ)
  action_texts a =
      named v.names a.name ∷ bytes (group (params_parts v a.params))
      ∷ inside (formula_part v a.pre (map (variable v) a.params)) ++ inside (effect_part v a.eff (map (variable v) a.params))

  abbrev pub predicate_texts : List Predicate → List (List ℕ)
  predicate_texts ps = map (λ d. bytes (predicate_part v d)) ps

  abbrev pub fact_texts : List GroundAtom → List (List ℕ)
  fact_texts atoms = map (λ g. bytes (fact_part v g)) atoms

-- what is printed of a formula and of an effect, by its kind
pub ruleset printing = (
  part-Holds,
  part-Equal,
  part-Not,
  part-And,
  part-Imply,
  part-Forall,
  effect-Add,
  effect-Delete,
  effect-And,
  effect-Forall,
)

-- no slot comes before that of the action, and the pairs that leave it go
abbrev pub waits : List ℕ
waits = codes "(forall (?htn_x - htn_slot) (not (htn_before ?htn_x ?htn_h)))"

abbrev pub clears : List ℕ
clears = codes "(forall (?htn_x - htn_slot) (not (htn_before ?htn_h ?htn_x)))"
