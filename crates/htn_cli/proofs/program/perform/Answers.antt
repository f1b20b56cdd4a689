use Rattle.std.proofs.lemmas.Result.{IfErr-weaker}
use Rattle.command_words.specs.Words.{request_of}
use Rattle.htn_cli.specs.Made.{output_of}
use Rattle.htn_cli.proofs.Leavings.{leaves_delivery, output_within}
use Rattle.htn_cli.proofs.program.perform.Goals as goal

pub returns-clause-refused : goal.returns-clause-refused
returns-clause-refused g c =
    let request = request_of c.args.asked.now in
    let old = g.F.Files.state c.args.files.now in
    let given = c.in_ok-output.ensures.given in
    IfErr-weaker c.deliver-delivered.result _ _
    (λ refusal stops. leaves_delivery request old (g.O.Sink.state c.args.out.now) (g.F.Files.state c.output_for.new.files) c.in_ok-output.output given
    (output_within request old (output_of c.in_ok-output.output) given.answer) (g.F.Files.state c.deliver-delivered.new.files) (g.O.Sink.state c.deliver-delivered.new.out) refusal stops)
    c.deliver-delivered.ensures.refused
