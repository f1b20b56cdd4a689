use Rattle.std.proofs.Common.{◌-◌, length}
use Rattle.text_forms.specs.sexpr_text.Index.{IsEnteredTo}
use Rattle.text_forms.specs.sexpr_text.Seen.{opened}
use Rattle.text_forms.proofs.sexpr_text.index.index_of.Given as goal

abbrev pub invariant-loop-at : goal.invariant-loop-at
invariant-loop-at l = IsEnteredTo l.source l.index.entries.items (opened l.open_lists) l.at

abbrev pub decreases-loop-at : goal.decreases-loop-at
decreases-loop-at l = length l.source - l.at
