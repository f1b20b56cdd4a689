-- What holds of each name in what was read, where it is said by whether the name is a variable's, its place, and the name.
-- Source: this project's.
use Rattle.std.specs.Prelude.{ℕ, Bool, true, List}
use Rattle.htn_base.specs.declared.name.Name.{Name as Numbered}
use Rattle.plan_texts.specs.Types.{EachIs}
use Rattle.gd_reader.specs.declared.term.RawTerm.{RawTerm}
use Rattle.gd_reader.specs.declared.term.RawAtom.{RawAtom}
use Rattle.gd_reader.specs.declared.typed_lists.RawParam.{RawParam}
use Rattle.gd_reader.specs.declared.formulas.RawFormula.{RawFormula}
use Rattle.gd_reader.specs.declared.formulas.RawFormula.TheFolds.{rec-RawFormula}
use Rattle.gd_reader.specs.declared.formulas.RawFormula.TheOpen.{RawFormula-F}
use Rattle.gd_reader.specs.declared.effects.RawEffect.{RawEffect}
use Rattle.gd_reader.specs.declared.effects.RawEffect.TheFolds.{rec-RawEffect}
use Rattle.gd_reader.specs.declared.effects.RawEffect.TheOpen.{RawEffect-F}

module _ (Is : Bool → ℕ → Numbered → Type 0) where
  abbrev pub OfTerm : RawTerm → Type 0
  OfTerm t = Is t.variable t.at t.name

  abbrev pub OfAtom : RawAtom → Type 0
  OfAtom a = OfTerm a.head × EachIs OfTerm a.args

  -- a declared word, where it is a variable or not, and the words of its type
  abbrev pub OfParam : Bool → RawParam → Type 0
  OfParam variable x = Is variable x.at x.name × EachIs OfTerm x.ty

  abbrev pub OfParams : Bool → List RawParam → Type 0
  OfParams variable xs = EachIs (OfParam variable) xs

  -- one level of a formula, where k says it of a part
  abbrev pub of_step : {X : Type 0} → (X → Type 0) → RawFormula-F X → Type 0
  of_step k (RawFormula-F.Holds a) = OfAtom a
  of_step k (RawFormula-F.Equal s t) = OfTerm s × OfTerm t
  of_step k (RawFormula-F.Not f) = k f
  of_step k (RawFormula-F.And fs) = EachIs k fs
  of_step k (RawFormula-F.Or fs) = EachIs k fs
  of_step k (RawFormula-F.Imply f g) = k f × k g
  of_step k (RawFormula-F.Forall xs f) = OfParams true xs × k f
  of_step k (RawFormula-F.Exists xs f) = OfParams true xs × k f

  abbrev pub OfFormula : RawFormula → Type 0
  OfFormula = rec-RawFormula (Type 0) (λ X u k layer. of_step k layer)

  -- one level of an effect
  abbrev pub effect_of_step : {X : Type 0} → (X → Type 0) → RawEffect-F X → Type 0
  effect_of_step k (RawEffect-F.Add a) = OfAtom a
  effect_of_step k (RawEffect-F.Delete a) = OfAtom a
  effect_of_step k (RawEffect-F.And es) = EachIs k es
  effect_of_step k (RawEffect-F.Forall xs e) = OfParams true xs × k e
  effect_of_step k (RawEffect-F.When f e) = OfFormula f × k e

  abbrev pub OfEffect : RawEffect → Type 0
  OfEffect = rec-RawEffect (Type 0) (λ X u k layer. effect_of_step k layer)
