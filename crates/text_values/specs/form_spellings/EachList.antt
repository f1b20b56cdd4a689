-- What holds of each list of variables that a formula or an effect declares, outer and inner ones.
-- Source: this project's.
use Rattle.std.specs.Prelude.{List}
use Rattle.plan_texts.specs.Types.{EachIs}
use Rattle.gd_reader.specs.declared.typed_lists.RawParam.{RawParam}
use Rattle.gd_reader.specs.declared.formulas.RawFormula.{RawFormula}
use Rattle.gd_reader.specs.declared.formulas.RawFormula.TheFolds.{rec-RawFormula}
use Rattle.gd_reader.specs.declared.formulas.RawFormula.TheOpen.{RawFormula-F}
use Rattle.gd_reader.specs.declared.effects.RawEffect.{RawEffect}
use Rattle.gd_reader.specs.declared.effects.RawEffect.TheFolds.{rec-RawEffect}
use Rattle.gd_reader.specs.declared.effects.RawEffect.TheOpen.{RawEffect-F}

module _ (P : List RawParam → Type 0) where
  -- one level of a formula, where k says it of a part
  abbrev pub listed_step : {X : Type 0} → (X → Type 0) → RawFormula-F X → Type 0
  listed_step k (RawFormula-F.Holds a) = Unit {0}
  listed_step k (RawFormula-F.Equal s t) = Unit {0}
  listed_step k (RawFormula-F.Not f) = k f
  listed_step k (RawFormula-F.And fs) = EachIs k fs
  listed_step k (RawFormula-F.Or fs) = EachIs k fs
  listed_step k (RawFormula-F.Imply f g) = k f × k g
  listed_step k (RawFormula-F.Forall xs f) = P xs × k f
  listed_step k (RawFormula-F.Exists xs f) = P xs × k f

  abbrev pub OfEachList : RawFormula → Type 0
  OfEachList = rec-RawFormula (Type 0) (λ X u k layer. listed_step k layer)

  -- one level of an effect
  abbrev pub effect_listed_step : {X : Type 0} → (X → Type 0) → RawEffect-F X → Type 0
  effect_listed_step k (RawEffect-F.Add a) = Unit {0}
  effect_listed_step k (RawEffect-F.Delete a) = Unit {0}
  effect_listed_step k (RawEffect-F.And es) = EachIs k es
  effect_listed_step k (RawEffect-F.Forall xs e) = P xs × k e
  effect_listed_step k (RawEffect-F.When f e) = OfEachList f × k e

  abbrev pub OfEachListOfEffect : RawEffect → Type 0
  OfEachListOfEffect = rec-RawEffect (Type 0) (λ X u k layer. effect_listed_step k layer)
