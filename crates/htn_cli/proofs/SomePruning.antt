-- Of two texts that are pruned something follows.
use Rattle.std.proofs.Common.{ℕ, ◌<◌, ◌≤◌, ◌⊎◌, inl, inr, List, [], ◌∷◌, length, refl}
use Rattle.std.proofs.lemmas.Bool.{cases_lt}
use Rattle.htn_base.specs.Limits.{longest_input, longest_output}
use Rattle.text_forms.specs.sheets.Sheets.{capped}
use Rattle.hddl_reader.specs.declared.sections.Language.TheVariants as language
use Rattle.plan_model.specs.declared.options.Checks.TheVariants.{Leaf}
use Rattle.plan_model.specs.declared.values.Hddl.{Hddl}
use Rattle.text_values.specs.TextFaults.{IsLeastFault, in_domain, in_problem}
use Rattle.text_values.specs.Values.{IsValueOf}
use Rattle.text_answers.specs.Existence.{FaultlessHddlHasAValue}
use Rattle.hddl_prune.specs.Pruning.{IsPruned, CannotBeSolved}
use Rattle.hddl_texts.specs.PrintedHddl.{hddl_domain_text, hddl_problem_text}
use Rattle.pruned_answers.proofs.OneOutcome.{pruned_somehow}
use Rattle.command_words.specs.Words.{PruneRequest, to_prune}
use Rattle.htn_cli.specs.Pruning.{pruned_output, SpellPruned, GivesPrune}
use Rattle.htn_cli.specs.Texts.{IsFirstTooLong}
use Rattle.htn_cli.specs.declared.refusal.Finding.TheVariants as finding
use Rattle.htn_cli.specs.declared.refusal.Limit.TheVariants as limit
use Rattle.htn_cli.specs.declared.refusal.Refusal.TheVariants as refused
use Rattle.htn_cli.proofs.Prunings.{prune_fits}
use Rattle.htn_cli.proofs.SomeInputs.{Finished, declined_texts, given_output, by_fault}
use Rattle.htn_cli.proofs.SomeProblem.{Fault, Problem, fault_or_problem}

module _ (value : FaultlessHddlHasAValue) (r : PruneRequest) (d p : List ℕ) (domain_short : length d ≤ longest_input) (problem_short : length p ≤ longest_input) where
  abbrev Has : Type 0
  Has = Finished (to_prune r) (d ∷ p ∷ [])

  module _ (kept : Hddl) (spell : SpellPruned d p kept) where
    long : (n : ℕ) → IsFirstTooLong (hddl_domain_text kept) (hddl_problem_text kept) n → Has
    long n l = declined_texts (refused.Limit (limit.Output n)) (kept, spell, l)

    by_lengths : (longest_output < length (hddl_domain_text kept)) ⊎ (length (hddl_domain_text kept) ≤ longest_output)
        → (longest_output < length (hddl_problem_text kept)) ⊎ (length (hddl_problem_text kept) ≤ longest_output) → Has
    by_lengths (inl past) other = long (capped (length (hddl_domain_text kept))) (inl (past, refl))
    by_lengths (inr fits) (inl past) = long (capped (length (hddl_problem_text kept))) (inr (fits, past, refl))
    by_lengths (inr fits) (inr also) =
        let output = pruned_output r.names kept in
        let is : GivesPrune r d p output = (kept, spell, record { domain_fits = fits; problem_fits = also }, refl) in
        given_output output is (prune_fits r d p output is)

    written : Has
    written = by_lengths (cases_lt longest_output (length (hddl_domain_text kept))) (cases_lt longest_output (length (hddl_problem_text kept)))

  by_outcome : (source : Hddl) → IsValueOf d p source → ((kept : Hddl) × IsPruned source kept) ⊎ CannotBeSolved source → Has
  by_outcome source read (inl (kept, is)) = written kept (record { source = source; read = read; pruned = is })
  by_outcome source read (inr cannot) = declined_texts (refused.Finding finding.NoSolution) (source, read, cannot)

  by_file : (file code at : ℕ) → IsLeastFault language.Hddl d p file code at → Has
  by_file file code at (in_domain x) = by_fault (to_prune r) (d ∷ p ∷ []) 0 r.names.domain at code refl (in_domain x)
  by_file file code at (in_problem t raw good x) = by_fault (to_prune r) (d ∷ p ∷ []) 1 r.names.problem at code refl (in_problem t raw good x)

  by_meaning : Fault value d p domain_short problem_short Leaf ⊎ Problem value d p domain_short problem_short Leaf → Has
  by_meaning (inl (file, code, at, x)) = by_file file code at x
  by_meaning (inr (c, is)) = by_outcome is.value is.read (pruned_somehow is.value is.read.sound)

  pub pruning_finished : Has
  pruning_finished = by_meaning (fault_or_problem value d p domain_short problem_short Leaf)
