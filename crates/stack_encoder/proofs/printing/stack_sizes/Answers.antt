use Rattle.plan_texts.specs.PrintedTexts.{domain_text, problem_text}
use Rattle.stack_encoder.specs.Heads.{value_of}
use Rattle.stack_encoder.proofs.StackOf.{are-sizes}
use Rattle.stack_encoder.proofs.printing.stack_sizes.Goals as goal

pub returns : goal.returns
returns c =
    let e = c.in_ok-encoding.encoding in
    let p = value_of c.args.c.now e in
    record {
      sized = are-sizes c.args.c.now e c.args.cells c.in_ok-encoding.ensures.encoding c.in_ok-encoding.ensures.cells _ (c.length_of.ensures (domain_text p) _ _ c.in_ok-domain.ensures, c.length_of-2.ensures (problem_text p) _ _ c.in_ok-problem.ensures);
    }
