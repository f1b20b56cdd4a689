use Rattle.std.proofs.Common.{◌∙◌}
use Rattle.text_forms.proofs.sheets.Written.{wrote-as, wrote-then}
use Rattle.stack_speller.proofs.words.put_cell.Goals as goal

pub returns : goal.returns
returns c = wrote-then c.put.ensures.wrote (wrote-as (c.as_bytes.ensures.value ∙ c.format.ensures.text) c.put-2.ensures.wrote)
