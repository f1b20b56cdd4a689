use Rattle.std.proofs.Common.{◌≡◌, ℕ, Some, List}
use Rattle.text_forms.specs.Least.{least}
use Rattle.text_forms.specs.Tokens.{tokens_from}
use Rattle.text_forms.specs.sexpr_text.Places.{classes_at}
use Rattle.text_forms.proofs.sexpr_text.ends.word_end.Given as goal

abbrev pub invariant-loop-i : goal.invariant-loop-i
invariant-loop-i l = record {
  tokens : (first : ℕ) → tokens_from (Some first) l.from (classes_at l.source l.from) ≡ tokens_from (Some first) l.i (classes_at l.source l.i);
  faults : (opens : List ℕ) → least opens l.from (classes_at l.source l.from) ≡ least opens l.i (classes_at l.source l.i);
}
