use Rattle.std.proofs.Common.{◌≡◌, take}
use Rattle.htn_base.specs.Words.{folded}
use Rattle.hplan_text.proofs.words.in_lower_case.Given as goal

abbrev pub invariant-loop-byte : goal.invariant-loop-byte
invariant-loop-byte l = l.text ≡ folded (take l.byte-index l.word)
