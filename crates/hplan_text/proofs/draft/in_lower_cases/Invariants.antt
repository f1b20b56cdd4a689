use Rattle.std.proofs.Common.{◌≡◌, take}
use Rattle.hplan_text.specs.Scanning.{names_of}
use Rattle.hplan_text.proofs.draft.in_lower_cases.Given as goal

abbrev pub invariant-loop-word : goal.invariant-loop-word
invariant-loop-word l = l.texts ≡ names_of (take l.word-index l.words)
