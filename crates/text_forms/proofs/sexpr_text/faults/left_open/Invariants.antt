use Rattle.std.proofs.Common.{◌≡◌, ◌≤◌, reverse, drop}
use Rattle.text_forms.specs.Bytes.{classes_from}
use Rattle.text_forms.specs.Least.{left_open}
use Rattle.text_forms.proofs.sexpr_text.faults.left_open.Given as goal

abbrev pub invariant-loop-byte : goal.invariant-loop-byte
invariant-loop-byte l = record {
  few : l.newer ≤ l.byte-index;
  rest : left_open l.newer (reverse l.open_lists.items) (classes_from l.inside (drop l.byte-index l.source)) ≡ left_open 0 (reverse l.initial.open_lists.items) (classes_from l.initial.comment l.source);
}
