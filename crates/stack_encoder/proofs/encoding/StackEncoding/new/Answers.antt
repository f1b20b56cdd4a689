use Rattle.std.proofs.Common.{◌<◌, ◌^◌, length, subst, sym}
use Rattle.stack_encoding.specs.StackWords.{HasStackWords}
use Rattle.stack_encoder.proofs.Heads.{head-encoded}
use Rattle.stack_encoder.proofs.encoding.StackEncoding.new.Goals as goal

pub returns-in-Ok-clause-encoding : goal.returns-in-Ok-clause-encoding
returns-in-Ok-clause-encoding c = record {
  encoded = head-encoded c.args.c.now c.in_ok-names.names c.args.cells c.in-Ok.head c.in-Ok.ensures;
  no_actions = c.in-Ok.ensures.no_actions;
  words = subst (HasStackWords c.args.c.now c.args.cells) (sym c.in-Ok.ensures.words) c.in_ok-names.ensures.words;
  short = subst (λ words. length words < 2 ^ 32) (sym c.in-Ok.ensures.words) c.in_ok-names.ensures.source.short;
  table = sym c.in-Ok.ensures.words;
  basis = c.in_ok-basis.ensures;
}
