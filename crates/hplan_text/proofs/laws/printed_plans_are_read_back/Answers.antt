use Rattle.hplan_text.proofs.ReadBack.{read-back}
use Rattle.hplan_text.proofs.SpelledSound.{read-sound}
use Rattle.hplan_text.proofs.SpelledWords.{spelled-printable}
use Rattle.hplan_text.proofs.laws.printed_plans_are_read_back.Goals as goal

pub returns : goal.returns
returns c = record { back = read-back; printable = spelled-printable; sound = read-sound }
