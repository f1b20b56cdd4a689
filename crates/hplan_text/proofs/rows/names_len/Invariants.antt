use Rattle.std.proofs.Common.{◌≡◌, ◌+◌, drop}
use Rattle.hplan_text.specs.Scanning.{lead}
use Rattle.hplan_text.proofs.rows.names_len.Given as goal

abbrev pub invariant-loop-i : goal.invariant-loop-i
invariant-loop-i l = lead l.words ≡ l.i + lead (drop l.i l.words)
