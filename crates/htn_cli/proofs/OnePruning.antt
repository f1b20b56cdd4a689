-- What a pruning gives, or is declined for, is one thing.
use Rattle.std.proofs.Common.{ℕ, ◌≡◌, List, length, Some, refl, sym, ap, ◌∙◌, subst}
use Rattle.plan_model.specs.declared.values.Hddl.{Hddl}
use Rattle.text_values.specs.Values.{IsValueOf}
use Rattle.hddl_prune.specs.Pruning.{IsPruned, CannotBeSolved}
use Rattle.hddl_texts.specs.PrintedHddl.{hddl_domain_text, hddl_problem_text}
use Rattle.pruned_answers.specs.PruneLaws.{HaveOneOutcome}
use Rattle.pruned_answers.specs.PruneLaws as laws
use Rattle.pruned_answers.proofs.OneOutcome.{values_have_one_outcome}
use Rattle.command_words.specs.Words.{PruneRequest}
use Rattle.htn_cli.specs.Answer.{Output, Answer, refuses, gives}
use Rattle.htn_cli.specs.Lines.{kept_line}
use Rattle.htn_cli.specs.OneAnswer.{TellTheSame}
use Rattle.htn_cli.specs.Pruning.{AreShortTexts, pruned_output, RefusesPrune, GivesPrune}
use Rattle.htn_cli.specs.Refusal.{line_of}
use Rattle.htn_cli.specs.Texts.{IsFirstTooLong}
use Rattle.htn_cli.specs.Translation.{texts_for}
use Rattle.htn_cli.specs.declared.refusal.Finding.TheVariants as finding
use Rattle.htn_cli.specs.declared.refusal.Limit.TheVariants as limit
use Rattle.htn_cli.specs.declared.refusal.Refusal.{Refusal}
use Rattle.htn_cli.specs.declared.refusal.Refusal.TheVariants as refused
use Rattle.htn_cli.proofs.OneTranslation.{one_long, not_long}

-- what follows from two texts without a fault
abbrev pub PruneComes : PruneRequest → List ℕ → List ℕ → Answer → Type 0
PruneComes request d p (refuses refusal) = RefusesPrune d p refusal
PruneComes request d p (gives output) = GivesPrune request d p output

module _ (request : PruneRequest) (d p : List ℕ) where
  abbrev Source : Type 0
  Source = (h : Hddl) × IsValueOf d p h

  data Follows (x : Source) : Answer → Type 0 where
    unsolved : CannotBeSolved x.0 → Follows x (refuses (refused.Finding finding.NoSolution))
    long : (n : ℕ) (value : Hddl) → IsPruned x.0 value → IsFirstTooLong (hddl_domain_text value) (hddl_problem_text value) n
        → Follows x (refuses (refused.Limit (limit.Output n)))
    written : (output : Output) (value : Hddl) → IsPruned x.0 value → AreShortTexts value → output ≡ pruned_output request.names value
        → Follows x (gives output)

  outcome : (x y : Source) → HaveOneOutcome x.0 y.0
  outcome x y = values_have_one_outcome d p x.0 y.0 x.1.spelled y.1.spelled x.1.sound

  same_value : (x y : Source) (value other : Hddl) → IsPruned x.0 value → IsPruned y.0 other → laws.TellTheSame value other
  same_value x y value other is also = (outcome x y).pruned value other is also

  unsolved_not : (x y : Source) (value : Hddl) → CannotBeSolved x.0 → IsPruned y.0 value → ⊥
  unsolved_not x y value cannot is = (outcome y x).not_both value is cannot

  -- texts that are too long are not short enough too
  long_not : (x y : Source) (n : ℕ) (value other : Hddl) → IsPruned x.0 value → IsFirstTooLong (hddl_domain_text value) (hddl_problem_text value) n
      → IsPruned y.0 other → AreShortTexts other → ⊥
  long_not x y n value other is l also short =
      let e = same_value x y value other is also in
      not_long (hddl_domain_text other) (hddl_problem_text other) n
      (subst (λ z. IsFirstTooLong z (hddl_problem_text other) n) e.domain (subst (λ z. IsFirstTooLong (hddl_domain_text value) z n) e.problem l))
      short.domain_fits short.problem_fits

  follows : (x y : Source) (a b : Answer) → Follows x a → Follows y b → TellTheSame a b
  follows x y a b (unsolved c) (unsolved e) = record { status = refl; line = refl; output = refl }
  follows x y a b (unsolved c) (long n value is l) = absurd (unsolved_not x y value c is)
  follows x y a b (unsolved c) (written o value is short e) = absurd (unsolved_not x y value c is)
  follows x y a b (long n value is l) (unsolved c) = absurd (unsolved_not y x value c is)
  follows x y a b (long n value is l) (long m other also k) =
      let e = same_value x y value other is also in
      let there = subst (λ z. IsFirstTooLong z (hddl_problem_text other) n) e.domain (subst (λ z. IsFirstTooLong (hddl_domain_text value) z n) e.problem l) in
      let same = one_long (hddl_domain_text other) (hddl_problem_text other) n m there k in
      record { status = refl; line = ap (λ z. line_of (refused.Limit (limit.Output z))) same; output = refl }
  follows x y a b (long n value is l) (written o other also short e) = absurd (long_not x y n value other is l also short)
  follows x y a b (written o value is short e) (unsolved c) = absurd (unsolved_not y x value c is)
  follows x y a b (written o value is short e) (long n other also l) = absurd (long_not y x n other value also l is short)
  follows x y a b (written o value is short e) (written q other also brief f) =
      let t = same_value x y value other is also in
      let same : o ≡ q = e ∙ (λ i. record { texts = texts_for request.names (record { domain = t.domain i; problem = t.problem i }); told = kept_line (t.tasks i) (t.methods i) (t.actions i) }) ∙ sym f in
      record { status = refl; line = refl; output = ap Some same }

  declines : (refusal : Refusal) → RefusesPrune d p refusal → (x : Source) × Follows x (refuses refusal)
  declines (refused.Finding finding.NoSolution) (source, read, cannot) = ((source, read), unsolved cannot)
  declines (refused.Limit (limit.Output n)) (value, spell, l) = ((spell.source, spell.read), long n value spell.pruned l)
  declines _ x = absurd x

  comes : (a : Answer) → PruneComes request d p a → (x : Source) × Follows x a
  comes (refuses refusal) is = declines refusal is
  comes (gives output) (value, spell, short, e) = ((spell.source, spell.read), written output value spell.pruned short e)

  pub one_pruned : (a b : Answer) → PruneComes request d p a → PruneComes request d p b → TellTheSame a b
  one_pruned a b is also = let x = comes a is in let y = comes b also in follows x.0 y.0 a b x.1 y.1
