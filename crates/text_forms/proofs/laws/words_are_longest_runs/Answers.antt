use Rattle.text_forms.proofs.EachToken.{each_made}
use Rattle.text_forms.proofs.InComments.{classed}
use Rattle.text_forms.proofs.OneToken.{in_one_word, in_one_start, in_one_stop}
use Rattle.text_forms.proofs.laws.words_are_longest_runs.Goals as goal

pub returns : goal.returns
returns c = record {
  tokens = each_made c.args.text.now;
  letters = in_one_word c.args.text.now;
  opens = in_one_start c.args.text.now;
  closes = in_one_stop c.args.text.now;
  comments = classed c.args.text.now;
}
