use Rattle.text_forms.proofs.Fronts.{parts_before}
use Rattle.text_forms.proofs.Levels.{says_as_placed}
use Rattle.text_forms.proofs.Lists.{in_order, few_tokens, closes_its_lists}
use Rattle.text_forms.proofs.Shown.{shown}
use Rattle.text_forms.proofs.laws.tokens_law.Goals as goal

pub returns : goal.returns
returns c = record {
  order = in_order c.args.text.now;
  few = few_tokens c.args.text.now;
  closed = closes_its_lists c.args.text.now;
  shown = shown c.args.text.now;
  fronts = parts_before c.args.text.now;
  lists = says_as_placed c.args.text.now;
}
