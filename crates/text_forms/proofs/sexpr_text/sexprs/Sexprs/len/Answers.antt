use Rattle.std.proofs.Common.{ap, subst, length, arith}
use Rattle.text_forms.proofs.Lists.{few_tokens}
use Rattle.text_forms.specs.sexpr_text.Index.{KeepsTokens}
use Rattle.text_forms.proofs.sexpr_text.sexprs.Sexprs.len.Goals as goal

pub overflow_cast-result : goal.overflow_cast-result
overflow_cast-result c =
    let text = c.self.inside.source.now in
    let index = subst (KeepsTokens text) c.in-Index.is c.self.invariant.tokens in
    let count = index.count in let same = c.len.ensures in let short = c.self.invariant.short in omega (arith, few_tokens text)

pub returns-in-Marks-clause-few : goal.returns-in-Marks-clause-few
returns-in-Marks-clause-few c =
    let text = c.self.inside.source.now in
    let marks = subst (KeepsTokens text) c.in-Marks.is c.self.invariant.tokens in
    let count = marks.count in omega (arith, few_tokens text, ap length c.self.view_is)

pub returns-in-Index-clause-few : goal.returns-in-Index-clause-few
returns-in-Index-clause-few c =
    let text = c.self.inside.source.now in
    let index = subst (KeepsTokens text) c.in-Index.is c.self.invariant.tokens in
    let count = index.count in let same = c.len.ensures in omega (arith, few_tokens text, ap length c.self.view_is)
