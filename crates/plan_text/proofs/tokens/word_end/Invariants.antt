use Rattle.std.proofs.Common.{◌≡◌, ℕ, Some}
use Rattle.text_forms.specs.Tokens.{tokens_from}
use Rattle.text_forms.specs.sexpr_text.Places.{classes_at}
use Rattle.plan_text.specs.Coming.{is_clean_at}
use Rattle.plan_text.proofs.tokens.word_end.Given as goal

abbrev pub invariant-loop-i : goal.invariant-loop-i
invariant-loop-i l = record {
  tokens : (first : ℕ) → tokens_from (Some first) l.from (classes_at l.text l.from) ≡ tokens_from (Some first) l.i (classes_at l.text l.i);
  clean : is_clean_at l.text l.from ≡ is_clean_at l.text l.i;
}
