-- What a compiled problem and the table of its printed words have besides, so that all these words differ.
-- Source: this project's; the top method of a text has no precondition (Höller et al., "HDDL", AAAI 2020, the full syntax definition: :htn).
use Rattle.std.specs.Prelude.{ℕ, ◌≡◌, ◌<◌, ◌≤◌, ◌^◌, List, [], length}
use Rattle.text_forms.specs.Words.{Word}
use Rattle.plan_model.specs.declared.formulas.Formula.TheVariants.{And}
use Rattle.plan_model.specs.declared.values.Compiled.{Compiled}

-- with b slots
pub record IsNumberable (c : Compiled) (b : ℕ) (names : List Word) : Type 0 where
  -- else a check is named after the top method, and another one may have this name
  pub top : c.hddl.top.pre ≡ And []
  pub some_slot : 1 ≤ b
  -- no name table has more words; so slots have numbers whose numerals differ
  pub short : length names < 2 ^ 32
  pub unions : length c.hddl.types.unions < 2 ^ 64
