-- Parts of values of stacks, written out by hand, and what is empty in them.
use Rattle.std.proofs.Common.{ℕ, ◌≡◌, true, cond, List, [], ◌∷◌, codes, refl, ap, sym, ◌∙◌}
use Rattle.std.specs.Fmt.{digits}
use Rattle.htn_base.specs.Escapes.{slot_word}
use Rattle.text_forms.specs.Words.{Word}
use Rattle.plan_model.specs.declared.terms.Term.TheVariants.{Var, Obj}
use Rattle.plan_model.specs.declared.terms.Atom.{Atom}
use Rattle.plan_model.specs.declared.terms.Param.{Param}
use Rattle.plan_model.specs.declared.types.Object.{Object}
use Rattle.plan_model.specs.declared.terms.GroundAtom.{GroundAtom}
use Rattle.plan_model.specs.declared.values.Pddl.{Pddl}
use Rattle.plan_model.specs.declared.formulas.Formula.{Formula}
use Rattle.plan_model.specs.declared.formulas.Formula.TheFolds.{fold-roll-Formula}
use Rattle.plan_model.specs.declared.formulas.Formula.TheOpen.{Formula-F}
use Rattle.plan_model.specs.declared.formulas.Formula.TheVariants.{Holds, And, rolls-And}
use Rattle.plan_model.specs.declared.effects.Effect.{Effect}
use Rattle.plan_model.specs.declared.effects.Effect.TheFolds.{fold-roll-Effect}
use Rattle.plan_model.specs.declared.effects.Effect.TheOpen.{Effect-F}
use Rattle.plan_model.specs.declared.effects.Effect.TheVariants as E
use Rattle.plan_model.specs.declared.schemas.Predicate.{Predicate}
use Rattle.plan_model.specs.declared.schemas.ActionSchema.{ActionSchema}
use Rattle.plan_model.specs.declared.values.Compiled.{Compiled}
use Rattle.plan_model.proofs.plan_meaning.examples.RowValues.{always, nothing}
use Rattle.slot_encoding.specs.SourceParts.{source_formula, source_effect}
use Rattle.slot_encoding.specs.MethodParts.{condition_part, change_part}
use Rattle.slot_encoding.specs.EncodedWords.{formula_words_step, formula_words, effect_words_step, effect_words}
use Rattle.slot_encoding.proofs.examples.RowTexts.{empty_condition, empty_effect}

pub slot_0 : slot_word 0 ≡ codes "htn_s0"
unfolding digits
slot_0 = refl

-- by the numbers of words: a variable of a cell, a cell, a predicate
abbrev pub variable : ℕ → Param
variable word = record { name = record { number = word }; ty = 1 }

abbrev pub cell : ℕ → Object
cell word = record { name = record { number = word }; ty = 1; constant = true }

abbrev pub predicate : ℕ → List Param → Predicate
predicate word params = record { name = record { number = word }; params = params }

-- a value whose first words are those of the domain, the problem and the generated types, and where only the cells and the given predicates are
abbrev pub value : List Word → List Object → List Predicate → List ActionSchema → List GroundAtom → Pddl
value words objects predicates actions init = record {
  names = words;
  domain = record { number = 0 };
  problem = record { number = 1 };
  types = record {
    names = record { number = 2 } ∷ record { number = 3 } ∷ record { number = 4 } ∷ [];
    parents = record { child = 1; parent = 0 } ∷ record { child = 2; parent = 0 } ∷ [];
    unions = [];
  };
  objects = objects;
  predicates = predicates;
  actions = actions;
  init = init;
  goal = And (Holds (record { predicate = 1; args = Obj 0 ∷ [] }) ∷ []);
}

-- a fact on cells, and what is so at the beginning: the top task in cell 1, which is the tip
abbrev pub fact : ℕ → List ℕ → GroundAtom
fact number cells = record { predicate = number; args = cells }

abbrev pub first_facts : List GroundAtom → List GroundAtom
first_facts ups = fact 0 (1 ∷ []) ∷ fact 1 (1 ∷ []) ∷ ups

-- a predicate of variable v; where there are no source predicates, htn_top, htn_tip and htn_up are predicates 0 to 2
abbrev pub of : (number v : ℕ) → Atom
of number v = record { predicate = number; args = Var v ∷ [] }

abbrev pub up : (v u : ℕ) → Atom
up v u = record { predicate = 2; args = Var v ∷ Var u ∷ [] }

abbrev pub action : ℕ → List Param → List Formula → List Effect → ActionSchema
action word params pre eff = record { name = record { number = word }; params = params; pre = And pre; eff = E.And eff }

-- what has ?htn_d and ?htn_h is held by ?htn_h and is gone then; what a source action asks and does itself comes last
abbrev pub falls : ℕ → List Param → (number : ℕ) → List Formula → List Effect → ActionSchema
falls word params number pre eff = action word params (Holds (of number 1) ∷ Holds (of 1 1) ∷ Holds (up 0 1) ∷ pre) (E.Delete (of number 1) ∷ E.Delete (of 1 1) ∷ E.Add (of 1 0) ∷ eff)

-- an empty conjunction is no part of a condition, nor of an effect
pub no_condition : (c : Compiled) (names : List Word) (front : ℕ) → condition_part c names front always ≡ []
no_condition c names front = ap (λ b. cond b [] (source_formula names c.hddl.names front always ∷ [])) empty_condition

pub no_change : (c : Compiled) (names : List Word) (front : ℕ) → change_part c names front nothing ≡ []
no_change c names front = ap (λ b. cond b [] (source_effect names c.hddl.names front nothing ∷ [])) empty_effect

-- and has no words
pub no_words : (source : List Word) → formula_words source always ≡ []
no_words source = ap (formula_words source) (sym (rolls-And [])) ∙ fold-roll-Formula (List Word) (formula_words_step source) (Formula-F.And [])

pub no_effect_words : (source : List Word) → effect_words source nothing ≡ []
no_effect_words source = ap (effect_words source) (sym (E.rolls-And [])) ∙ fold-roll-Effect (List Word) (effect_words_step source) (Effect-F.And [])
