use Rattle.text_forms.specs.form_grammar.Rows.{form, list_form}
use Rattle.text_forms.proofs.form_grammar.RowLaws.{form_cuttable}
use Rattle.text_forms.proofs.form_grammar.TextLaws.{list_cuttable, prefix_laws}
use Rattle.text_forms.proofs.form_grammar.laws.prefixes_begin.Goals as goal

pub returns : goal.returns
returns g c = record {
  lists = λ due i. prefix_laws (form g.G.Grammar.rows due) (form_cuttable g.G.Grammar.rows due) c.args.text.now i;
  one = λ code due i. prefix_laws (list_form g.G.Grammar.rows code due) (list_cuttable g.G.Grammar.rows code due) c.args.text.now i;
}
