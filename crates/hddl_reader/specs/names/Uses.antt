-- What a formula and an effect declare and use, with the variables in force there.
-- Source: scopes as in PDDL 2.1 (Fox and Long, JAIR 20, 2003, level 1): a quantifier's variables are in force in its part.
use Rattle.std.specs.Prelude.{◌≡◌, ◌⊎◌, ◌++◌, List, map}
use Rattle.text_forms.specs.Words.{Word}
use Rattle.gd_reader.specs.declared.term.RawTerm.{RawTerm}
use Rattle.gd_reader.specs.declared.term.RawAtom.{RawAtom}
use Rattle.gd_reader.specs.declared.typed_lists.RawParam.{RawParam}
use Rattle.gd_reader.specs.declared.formulas.RawFormula.{RawFormula}
use Rattle.gd_reader.specs.declared.formulas.RawFormula.TheFolds.{rec-RawFormula}
use Rattle.gd_reader.specs.declared.formulas.RawFormula.TheOpen.{RawFormula-F}
use Rattle.gd_reader.specs.declared.effects.RawEffect.{RawEffect}
use Rattle.gd_reader.specs.declared.effects.RawEffect.TheFolds.{rec-RawEffect}
use Rattle.gd_reader.specs.declared.effects.RawEffect.TheOpen.{RawEffect-F}
use Rattle.gd_reader.specs.Terms.{Names}
use Rattle.htn_base.specs.Lists.{One}
use Rattle.hddl_reader.specs.names.Words.{param_word}

-- the words of the variables in force, from outside in
abbrev pub Scope : Type 0
Scope = List Word

-- what a name is that is applied to terms: a predicate, a subtask's task or action, or the task of a method
pub data Kind : Type 0 where
  predicate : Kind
  subtask : Kind
  task : Kind

pub data Use : Type 0 where
  -- a word is declared, with its types
  declares : RawParam → Use
  -- a name is applied to terms
  applies : Kind → RawAtom → Use
  -- a variable or an object stands as a term
  refers : RawTerm → Use

abbrev pub IsDeclared : List RawParam → Use → Type 0
IsDeclared xs u = One (λ x. u ≡ declares x) xs

-- the name at the front, or one of the terms behind it
abbrev pub IsOfAtom : Kind → RawAtom → Use → Type 0
IsOfAtom kind a u = (u ≡ applies kind a) ⊎ One (λ t. u ≡ refers t) a.args

abbrev pub IsOneOf : RawTerm → RawTerm → Use → Type 0
IsOneOf s t u = (u ≡ refers s) ⊎ (u ≡ refers t)

module _ (names : Names) where
  abbrev pub variables : List RawParam → Scope
  variables xs = map (param_word names) xs

  -- one level of a formula: the variables in force in front of it, those in force at the use, the use; k says it of a part
  abbrev pub formula_step : {X : Type 0} → (X → Scope → Scope → Use → Type 0) → RawFormula-F X → Scope → Scope → Use → Type 0
  formula_step k (RawFormula-F.Holds a) outer here u = (here ≡ outer) × IsOfAtom predicate a u
  formula_step k (RawFormula-F.Equal s t) outer here u = (here ≡ outer) × IsOneOf s t u
  formula_step k (RawFormula-F.Not f) outer here u = k f outer here u
  formula_step k (RawFormula-F.And fs) outer here u = One (λ f. k f outer here u) fs
  formula_step k (RawFormula-F.Or fs) outer here u = One (λ f. k f outer here u) fs
  formula_step k (RawFormula-F.Imply f g) outer here u = k f outer here u ⊎ k g outer here u
  formula_step k (RawFormula-F.Forall xs f) outer here u = IsDeclared xs u ⊎ k f (outer ++ variables xs) here u
  formula_step k (RawFormula-F.Exists xs f) outer here u = IsDeclared xs u ⊎ k f (outer ++ variables xs) here u

  abbrev pub InFormula : RawFormula → Scope → Scope → Use → Type 0
  InFormula = rec-RawFormula (Scope → Scope → Use → Type 0) (λ X u k layer. formula_step k layer)

  -- one level of an effect
  abbrev pub effect_step : {X : Type 0} → (X → Scope → Scope → Use → Type 0) → RawEffect-F X → Scope → Scope → Use → Type 0
  effect_step k (RawEffect-F.Add a) outer here u = (here ≡ outer) × IsOfAtom predicate a u
  effect_step k (RawEffect-F.Delete a) outer here u = (here ≡ outer) × IsOfAtom predicate a u
  effect_step k (RawEffect-F.And es) outer here u = One (λ e. k e outer here u) es
  effect_step k (RawEffect-F.Forall xs e) outer here u = IsDeclared xs u ⊎ k e (outer ++ variables xs) here u
  effect_step k (RawEffect-F.When f e) outer here u = InFormula f outer here u ⊎ k e outer here u

  abbrev pub InEffect : RawEffect → Scope → Scope → Use → Type 0
  InEffect = rec-RawEffect (Scope → Scope → Use → Type 0) (λ X u k layer. effect_step k layer)
