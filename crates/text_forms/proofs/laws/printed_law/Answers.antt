use Rattle.text_forms.proofs.Printed.{symbols-bytes, symbols-rows, clean-rows, clean-page, symbols-page}
use Rattle.text_forms.proofs.laws.printed_law.Goals as goal

pub returns : goal.returns
returns c = record { list = symbols-bytes; rows = symbols-rows; clean_rows = clean-rows; clean = clean-page; page = symbols-page }
