use Rattle.std.proofs.Common.{◌<◌, ◌^◌, length, subst, sym}
use Rattle.slot_encoding.specs.FirstFree.{HasWordsBy}
use Rattle.slot_encoder.proofs.WholeValues.{head-encoded}
use Rattle.slot_encoder.proofs.encoding.Encoding.new.Goals as goal

pub returns-in-Ok-clause-encoding : goal.returns-in-Ok-clause-encoding
returns-in-Ok-clause-encoding c = record {
  encoded = head-encoded c.args.c.now (record { head = c.in-Ok.head; slots = c.args.slots; style = c.args.style.now; rule = c.args.rule.now; names = c.in_ok-names.names; basis = c.in_ok-basis.basis }) c.args.rule.now c.in-Ok.ensures;
  no_actions = c.in-Ok.ensures.no_actions;
  words = subst (HasWordsBy c.args.rule.now c.args.c.now c.args.slots) (sym c.in-Ok.ensures.words) c.in_ok-names.ensures.words;
  short = subst (λ words. length words < 2 ^ 32) (sym c.in-Ok.ensures.words) c.in_ok-names.ensures.source.short;
  table = sym c.in-Ok.ensures.words;
  basis = c.in_ok-basis.ensures;
}
