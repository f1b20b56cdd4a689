-- A pruning, from the texts of a domain and of a problem: when it is refused, and what it gives.
-- Source: this project's.
use Rattle.std.specs.Prelude.{ℕ, ◌≡◌, ◌≤◌, List, length}
use Rattle.htn_base.specs.Limits.{longest_output}
use Rattle.plan_model.specs.declared.values.Hddl.{Hddl}
use Rattle.text_values.specs.Values.{IsValueOf}
use Rattle.hddl_prune.specs.Pruning.{IsPruned, CannotBeSolved}
use Rattle.hddl_texts.specs.PrintedHddl.{hddl_domain_text, hddl_problem_text}
use Rattle.command_words.specs.Names.{Names}
use Rattle.command_words.specs.Words.{PruneRequest}
use Rattle.htn_cli.specs.Answer.{Output}
use Rattle.htn_cli.specs.Lines.{kept_line}
use Rattle.htn_cli.specs.Texts.{Texts, IsFirstTooLong}
use Rattle.htn_cli.specs.Translation.{texts_for}
use Rattle.htn_cli.specs.declared.refusal.Finding.TheVariants as finding
use Rattle.htn_cli.specs.declared.refusal.Limit.TheVariants as limit
use Rattle.htn_cli.specs.declared.refusal.Refusal.{Refusal}
use Rattle.htn_cli.specs.declared.refusal.Refusal.TheVariants as refused

-- the two texts that are printed for a value
abbrev pub hddl_texts_of : Hddl → Texts
hddl_texts_of value = record { domain = hddl_domain_text value; problem = hddl_problem_text value }

-- neither is too long
pub record AreShortTexts (value : Hddl) : Type 0 where
  pub domain_fits : length (hddl_domain_text value) ≤ longest_output
  pub problem_fits : length (hddl_problem_text value) ≤ longest_output

-- the line of how many tasks, methods and actions it has
abbrev pub kept_line_of : Hddl → List ℕ
kept_line_of value = kept_line (length value.tasks) (length value.methods) (length value.actions)

-- what is given where this is kept: its texts for the files of these names, and this line
abbrev pub pruned_output : Names → Hddl → Output
pruned_output names value = record { texts = texts_for names (hddl_texts_of value); told = kept_line_of value }

module _ (domain problem : List ℕ) where
  -- the texts have no fault, and spell a problem: this is it without what no solution uses
  pub record SpellPruned (value : Hddl) : Type 0 where
    pub source : Hddl
    pub read : IsValueOf domain problem source
    pub pruned : IsPruned source value

  -- the refusals of texts without a fault
  abbrev pub RefusesPrune : Refusal → Type 0
  RefusesPrune (refused.Finding finding.NoSolution) = (source : Hddl) × IsValueOf domain problem source × CannotBeSolved source
  RefusesPrune (refused.Limit (limit.Output n)) =
      (value : Hddl) × SpellPruned value × IsFirstTooLong (hddl_domain_text value) (hddl_problem_text value) n
  RefusesPrune _ = ⊥

-- and what is given
abbrev pub GivesPrune : PruneRequest → (domain problem : List ℕ) → Output → Type 0
GivesPrune request domain problem output =
    (value : Hddl) × SpellPruned domain problem value × AreShortTexts value × (output ≡ pruned_output request.names value)
