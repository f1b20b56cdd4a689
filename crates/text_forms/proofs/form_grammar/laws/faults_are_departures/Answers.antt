use Rattle.text_forms.proofs.form_grammar.Faults.{define_told, plan_told}
use Rattle.text_forms.proofs.form_grammar.laws.faults_are_departures.Goals as goal

pub returns : goal.returns
returns g c = record {
  define = define_told g.G.Grammar.rows g.G.Grammar.inside c.args.text.now;
  plan = λ n is_mark. plan_told g.G.Grammar.rows g.G.Grammar.inside is_mark c.args.text.now n;
}
