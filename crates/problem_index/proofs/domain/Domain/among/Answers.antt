use Rattle.problem_index.proofs.KindLaws.{among_at, of_parts}
use Rattle.problem_index.proofs.domain.Domain.among.Goals as goal

pub returns : goal.returns
returns c types ty p x =
    let objects = c.args.objects.now in
    let one = among_at objects c.args.parts.now x c.requires.few in
    let two = of_parts types objects ty c.args.parts.now p x in
    (λ t. two.0 (one.0 t), λ t. one.1 (two.1 t))
