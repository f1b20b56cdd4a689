use Rattle.std.proofs.Common.{◌≡◌}
use Rattle.plan_text.specs.Coming.{comment_tokens_at, is_comment_clean_at}
use Rattle.plan_text.proofs.tokens.line_end.Given as goal

abbrev pub invariant-loop-i : goal.invariant-loop-i
invariant-loop-i l = record {
  tokens : comment_tokens_at l.text l.from ≡ comment_tokens_at l.text l.i;
  clean : is_comment_clean_at l.text l.from ≡ is_comment_clean_at l.text l.i;
}
