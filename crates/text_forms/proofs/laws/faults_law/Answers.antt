use Rattle.text_forms.proofs.LeastFault.{least_or_none}
use Rattle.text_forms.proofs.MatchedFaults.{matched_are_faultless}
use Rattle.text_forms.proofs.laws.faults_law.Goals as goal

pub returns : goal.returns
returns c = record { least = least_or_none c.args.text.now; matched = matched_are_faultless c.args.text.now }
