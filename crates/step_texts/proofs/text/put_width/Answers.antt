use Rattle.std.proofs.Common.{◌∙◌}
use Rattle.text_forms.proofs.sheets.Written.{wrote-as, wrote-then}
use Rattle.step_texts.proofs.text.put_width.Goals as goal

pub returns : goal.returns
returns c =
    wrote-then c.put.ensures.wrote
    (wrote-then (wrote-as (c.as_bytes.ensures.value ∙ c.format.ensures.text) c.put-2.ensures.wrote) c.put-3.ensures.wrote)
