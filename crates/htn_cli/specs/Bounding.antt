-- A bound, from the texts of a domain and of a problem: when it is refused, and what it gives.
-- Source: this project's.
use Rattle.std.specs.Prelude.{ℕ, ◌≡◌, ◌<◌, ◌≤◌, ◌^◌, List}
use Rattle.command_words.specs.Words.{BoundRequest}
use Rattle.htn_cli.specs.Answer.{Output, told_alone}
use Rattle.htn_cli.specs.Lines.{bound_line}
use Rattle.htn_cli.specs.Problem.{HaveBound, HaveCycle, HaveTooMuch}
use Rattle.htn_cli.specs.declared.refusal.Finding.TheVariants as finding
use Rattle.htn_cli.specs.declared.refusal.Limit.TheVariants as limit
use Rattle.htn_cli.specs.declared.refusal.Refusal.{Refusal}
use Rattle.htn_cli.specs.declared.refusal.Refusal.TheVariants as refused

module _ (request : BoundRequest) (domain problem : List ℕ) where
  -- the refusals of texts without a fault
  abbrev pub RefusesBound : Refusal → Type 0
  RefusesBound (refused.Finding (finding.NotTailRecursive words)) = HaveCycle domain problem request.checks request.level words
  RefusesBound (refused.Limit limit.Bound) = (n : ℕ) × HaveBound domain problem request.checks request.level n × (2 ^ 128 ≤ n)
  RefusesBound (refused.Limit limit.Ground) = HaveTooMuch domain problem request.checks request.level
  RefusesBound _ = ⊥

  -- and what is given
  abbrev pub GivesBound : Output → Type 0
  GivesBound output = (n : ℕ) × HaveBound domain problem request.checks request.level n × (n < 2 ^ 128) × (output ≡ told_alone (bound_line n))
