use Rattle.hplan_text.proofs.SpelledSound.{read-sound}
use Rattle.hplan_text.proofs.SpelledWords.{spelled-printable}
use Rattle.htn_cli.proofs.encode.told_of.Goals as goal

pub text_for-told-requires-clause-printable : goal.text_for-told-requires-clause-printable
text_for-told-requires-clause-printable c = spelled-printable c.args.hplan.now c.in-Ok.plan c.in-Ok.ensures.read.spelled

pub text_for-told-requires-clause-sound : goal.text_for-told-requires-clause-sound
text_for-told-requires-clause-sound c = read-sound c.args.hplan.now c.in-Ok.plan c.in-Ok.ensures.read
