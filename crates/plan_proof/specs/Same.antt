-- Two HDDL values that are the same but for the numbers of names.
-- Source: this project's.
use Rattle.std.specs.Prelude.{◌≡◌}
use Rattle.plan_texts.specs.SpellsHddl.{hddl_types}
use Rattle.plan_texts.specs.Alike.{AreAlikeHddl}
use Rattle.plan_model.specs.declared.values.Hddl.{Hddl}

-- They are alike, and their types, pairs and unions have the same numbers. Names alone may have other numbers, in other tables.
pub record AreSameButNames (c d : Hddl) : Type 0 where
  pub alike : AreAlikeHddl c d
  pub types : hddl_types c ≡ hddl_types d
  pub parents : c.types.parents ≡ d.types.parents
  pub unions : c.types.unions ≡ d.types.unions
