use Rattle.decoding.proofs.SoundCompiled.{compiled_are_read_in_one_way}
use Rattle.decoding.proofs.printed_steps.compiled_are_read_in_one_way.Goals as goal

pub returns : goal.returns
returns c = compiled_are_read_in_one_way c.args.compiled.now
