use Rattle.text_forms.specs.form_grammar.Texts.{text_form}
use Rattle.text_forms.proofs.form_grammar.TextLaws.{text_cuttable, prefix_laws}
use Rattle.text_forms.proofs.form_grammar.laws.prefixes_begin_texts.Goals as goal

pub returns : goal.returns
returns g c = record {
  texts = λ due i. prefix_laws (text_form g.G.TextGrammar.rows g.G.TextGrammar.texts due) (text_cuttable g.G.TextGrammar.rows g.G.TextGrammar.texts due) c.args.text.now i;
}
