use Rattle.std.proofs.Common.{rules}
use Rattle.text_forms.proofs.sheets.sheet.Sheet.put.Goals as goal

pub returns-else-is_err : goal.returns-else-is_err
returns-else-is_err c = search rules

pub returns-then-is_err : goal.returns-then-is_err
returns-then-is_err c = search rules
