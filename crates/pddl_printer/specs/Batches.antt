-- Bytes that wait to be put on a sheet, behind those that stand on it.
-- Source: this project's.
use Rattle.std.specs.Prelude.{ℕ, ◌≡◌, List, ◌++◌}
use Rattle.text_forms.specs.sheets.Sheets.{Wrote}
use Rattle.text_forms.specs.declared.sheets.sheet.Sheet.{Sheet}
use Rattle.pddl_printer.specs.declared.batch.Batch.{Batch}

-- Of the bytes that waited and these behind them, the first were put on the sheet, and the rest waits.
pub record Added (bytes : List ℕ) (waited waits : Batch) (old new : Sheet) : Type 0 where
  pub first : List ℕ
  pub rest : waited.bytes.items ++ bytes ≡ first ++ waits.bytes.items
  pub wrote : Wrote first old new
