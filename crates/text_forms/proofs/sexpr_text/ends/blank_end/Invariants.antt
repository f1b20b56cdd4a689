use Rattle.std.proofs.Common.{◌≡◌, ◌+◌, ℕ, true, None, List, drop}
use Rattle.text_forms.specs.Bytes.{classes_from}
use Rattle.text_forms.specs.Least.{least}
use Rattle.text_forms.specs.Tokens.{tokens_from}
use Rattle.text_forms.proofs.sexpr_text.ends.blank_end.Given as goal

abbrev pub invariant-loop-i : goal.invariant-loop-i
invariant-loop-i l = record {
  tokens : tokens_from None (l.at + 1) (classes_from true (drop (l.at + 1) l.source)) ≡ tokens_from None l.i (classes_from true (drop l.i l.source));
  faults : (opens : List ℕ) → least opens (l.at + 1) (classes_from true (drop (l.at + 1) l.source)) ≡ least opens l.i (classes_from true (drop l.i l.source));
}
