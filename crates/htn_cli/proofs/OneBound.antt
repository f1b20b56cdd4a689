-- What a bound gives, or is declined for, is one thing.
use Rattle.std.proofs.Common.{ℕ, ◌≡◌, ◌<◌, ◌≤◌, ◌^◌, List, Some, refl, sym, ap, ◌∙◌, arith}
use Rattle.plan_model.specs.declared.values.Compiled.{Compiled}
use Rattle.ground_answers.specs.GroundLaws.{ValuesHaveOneGroundBound}
use Rattle.command_words.specs.Words.{BoundRequest}
use Rattle.htn_cli.specs.Answer.{Output, Answer, refuses, gives, told_alone}
use Rattle.htn_cli.specs.Bounding.{RefusesBound, GivesBound}
use Rattle.htn_cli.specs.Levels.{IsBoundAt, NamesCycleAt, IsPastCount}
use Rattle.htn_cli.specs.Lines.{bound_line}
use Rattle.htn_cli.specs.OneAnswer.{TellTheSame}
use Rattle.htn_cli.specs.Problem.{SpellProblem}
use Rattle.htn_cli.specs.declared.refusal.Finding.TheVariants as finding
use Rattle.htn_cli.specs.declared.refusal.Limit.TheVariants as limit
use Rattle.htn_cli.specs.declared.refusal.Refusal.{Refusal}
use Rattle.htn_cli.specs.declared.refusal.Refusal.TheVariants as refused
use Rattle.htn_cli.proofs.OneProblem.{bound_same, cycle_words_same, cycle_or_bound, past_or_bound, past_or_cycle}
use Rattle.htn_cli.proofs.OneSlots.{one_cycle}

-- what follows from two texts without a fault
abbrev pub BoundComes : BoundRequest → List ℕ → List ℕ → Answer → Type 0
BoundComes request d p (refuses refusal) = RefusesBound request d p refusal
BoundComes request d p (gives output) = GivesBound request d p output

module _ (alike : ValuesHaveOneGroundBound) (request : BoundRequest) (d p : List ℕ) where
  abbrev Source : Type 0
  Source = (c : Compiled) × SpellProblem d p request.checks c

  data Follows (x : Source) : Answer → Type 0 where
    many : IsPastCount request.level x.0 → Follows x (refuses (refused.Limit limit.Ground))
    cycle : (words : List ℕ) → NamesCycleAt request.level x.0 words → Follows x (refuses (refused.Finding (finding.NotTailRecursive words)))
    past : (n : ℕ) → IsBoundAt request.level x.0 n → 2 ^ 128 ≤ n → Follows x (refuses (refused.Limit limit.Bound))
    number : (n : ℕ) (output : Output) → IsBoundAt request.level x.0 n → n < 2 ^ 128 → output ≡ told_alone (bound_line n) → Follows x (gives output)

  one_number : (x y : Source) (n m : ℕ) → IsBoundAt request.level x.0 n → IsBoundAt request.level y.0 m → n ≡ m
  one_number x y n m e f = bound_same alike request.level d p request.checks x.0 y.0 x.1 y.1 n m e f

  cycle_not : (x y : Source) (words : List ℕ) (n : ℕ) → NamesCycleAt request.level x.0 words → IsBoundAt request.level y.0 n → ⊥
  cycle_not x y words n k e = cycle_or_bound alike request.level d p request.checks x.0 y.0 x.1 y.1 words n k e

  many_not : (x y : Source) (n : ℕ) → IsPastCount request.level x.0 → IsBoundAt request.level y.0 n → ⊥
  many_not x y n m e = past_or_bound alike request.level d p request.checks x.0 y.0 x.1 y.1 n m e

  many_no_cycle : (x y : Source) (words : List ℕ) → IsPastCount request.level x.0 → NamesCycleAt request.level y.0 words → ⊥
  many_no_cycle x y words m k = past_or_cycle alike request.level d p request.checks x.0 y.0 x.1 y.1 words m k

  follows : (x y : Source) (a b : Answer) → Follows x a → Follows y b → TellTheSame a b
  follows x y a b (many m) (many o) = record { status = refl; line = refl; output = refl }
  follows x y a b (many m) (cycle words k) = absurd (many_no_cycle x y words m k)
  follows x y a b (many m) (past n e l) = absurd (many_not x y n m e)
  follows x y a b (many m) (number n o e few t) = absurd (many_not x y n m e)
  follows x y a b (cycle words k) (many m) = absurd (many_no_cycle y x words m k)
  follows x y a b (past n e l) (many m) = absurd (many_not y x n m e)
  follows x y a b (number n o e few t) (many m) = absurd (many_not y x n m e)
  follows x y a b (cycle words k) (cycle more j) = one_cycle words more (cycle_words_same alike request.level d p request.checks x.0 y.0 x.1 y.1 words more k j)
  follows x y a b (cycle words k) (past n e l) = absurd (cycle_not x y words n k e)
  follows x y a b (cycle words k) (number n o e few t) = absurd (cycle_not x y words n k e)
  follows x y a b (past n e l) (cycle words k) = absurd (cycle_not y x words n k e)
  follows x y a b (past n e l) (past m f k) = record { status = refl; line = refl; output = refl }
  follows x y a b (past n e l) (number m o f few t) = let same = one_number x y n m e f in absurd (omega (arith, same, l, few))
  follows x y a b (number n o e few t) (cycle words k) = absurd (cycle_not y x words n k e)
  follows x y a b (number n o e few t) (past m f l) = let same = one_number x y n m e f in absurd (omega (arith, same, l, few))
  follows x y a b (number n o e few t) (number m q f less u) = record { status = refl; line = refl; output = ap Some (t ∙ ap (λ z. told_alone (bound_line z)) (one_number x y n m e f) ∙ sym u) }

  declines : (refusal : Refusal) → RefusesBound request d p refusal → (x : Source) × Follows x (refuses refusal)
  declines (refused.Finding (finding.NotTailRecursive words)) (c, source, named) = ((c, source), cycle words named)
  declines (refused.Limit limit.Ground) (c, source, much) = ((c, source), many much)
  declines (refused.Limit limit.Bound) (n, (c, source, bound), l) = ((c, source), past n bound l)
  declines _ x = absurd x

  comes : (a : Answer) → BoundComes request d p a → (x : Source) × Follows x a
  comes (refuses refusal) is = declines refusal is
  comes (gives output) (n, (c, source, bound), small, e) = ((c, source), number n output bound small e)

  pub one_bounded : (a b : Answer) → BoundComes request d p a → BoundComes request d p b → TellTheSame a b
  one_bounded a b is also = let x = comes a is in let y = comes b also in follows x.0 y.0 a b x.1 y.1
