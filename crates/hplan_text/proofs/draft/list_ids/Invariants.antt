use Rattle.std.proofs.Common.{◌≡◌, ◌++◌, map, take}
use Rattle.hplan_text.specs.Rows.{number}
use Rattle.hplan_text.specs.Scanning.{mentions_of}
use Rattle.hplan_text.proofs.draft.list_ids.Given as goal

abbrev pub invariant-loop-word : goal.invariant-loop-word
invariant-loop-word l = record {
  ids : l.ids ≡ map number (mentions_of (take l.word-index l.words));
  listed : l.listed.items ≡ l.initial.listed.items ++ mentions_of (take l.word-index l.words);
}
