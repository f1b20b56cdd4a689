use Rattle.std.proofs.Common.{arith}
use Rattle.text_forms.proofs.Lists.{few_tokens}
use Rattle.gd_reader.proofs.Counted.{at_most_one}
use Rattle.text_values.proofs.reading.problem_of.Goals as goal

pub returns-clause-few : goal.returns-clause-few
returns-clause-few c =
    let added = at_most_one c.args.s.now c.args.names.now c.problem-problem.new.names c.differ.ensures c.problem-problem.ensures.adds in
    omega (arith, added, few_tokens c.args.s.now)
