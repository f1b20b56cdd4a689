use Rattle.std.proofs.Common.{ap, map}
use Rattle.std.specs.Fmt.{decimal}
use Rattle.std.proofs.lemmas.List.{take_all}
use Rattle.text_forms.proofs.sheets.Written.{wrote-as, wrote-then}
use Rattle.hplan_text.specs.HPlanText.{words_behind}
use Rattle.hplan_text.proofs.PrintedParts.{words-next}
use Rattle.hplan_text.proofs.printing.put_ids.Goals as goal

pub loop-id-preserved : goal.loop-id-preserved
loop-id-preserved c = words-next decimal c.args.ids.now c.loop-id.id-index 0 c.loop-id-test.true c.loop-id.invariant c.put.ensures.wrote c.put_id.ensures

pub returns : goal.returns
returns c = wrote-then (wrote-as (ap (λ z. words_behind (map decimal z)) (take_all c.loop-id.id-index c.args.ids.now c.loop-id-test.false)) c.loop-id.invariant) c.put-2.ensures.wrote
