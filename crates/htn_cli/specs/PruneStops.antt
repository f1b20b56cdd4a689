-- How one step of a pruning is refused, and what it gives.
use Rattle.std.specs.Prelude.{◌≡◌, ◌⊎◌, Option, Some, None}
use Rattle.plan_model.specs.declared.values.Hddl.{Hddl}
use Rattle.hddl_prune.specs.Pruning.{IsPruned, CannotBeSolved}
use Rattle.hddl_texts.specs.PrintedHddl.{hddl_domain_text, hddl_problem_text}
use Rattle.command_words.specs.Names.{Names}
use Rattle.htn_cli.specs.Pruning.{hddl_texts_of, kept_line_of, AreShortTexts}
use Rattle.htn_cli.specs.Texts.{Texts, IsFirstTooLong, texts_of}
use Rattle.htn_cli.specs.declared.output.Output.{Output as Made}
use Rattle.htn_cli.specs.declared.output.Written.{Written}
use Rattle.htn_cli.specs.declared.refusal.Failure.TheVariants as failure
use Rattle.htn_cli.specs.declared.refusal.Finding.TheVariants as finding
use Rattle.htn_cli.specs.declared.refusal.Limit.TheVariants as limit
use Rattle.htn_cli.specs.declared.refusal.Refusal.{Refusal}
use Rattle.htn_cli.specs.declared.refusal.Refusal.TheVariants as refused

-- a problem of which nothing is kept, since it has no solution; or memory ran out
abbrev pub StopsKeeping : Hddl → Refusal → Type 0
StopsKeeping source (refused.Finding finding.NoSolution) = CannotBeSolved source
StopsKeeping source (refused.Failure failure.Memory) = Unit {0}
StopsKeeping source _ = ⊥

-- the texts of a value, neither of which is too long
abbrev pub AreTextsOf : Hddl → Texts → Type 0
AreTextsOf value texts = AreShortTexts value × (texts ≡ hddl_texts_of value)

-- one of them is; or memory ran out
abbrev pub StopsText : Hddl → Refusal → Type 0
StopsText value (refused.Limit (limit.Output n)) = IsFirstTooLong (hddl_domain_text value) (hddl_problem_text value) n
StopsText value (refused.Failure failure.Memory) = Unit {0}
StopsText value _ = ⊥

-- the texts of a value for files of these names
abbrev pub AreWrittenOf : Names → Hddl → Option Written → Type 0
AreWrittenOf names value (Some written) =
    (written.od.now ≡ names.printed_domain) × (written.op.now ≡ names.printed_problem) × AreTextsOf value (texts_of written.texts)
AreWrittenOf names value None = ⊥

-- what is given for them where this is kept
abbrev pub IsMadeOf : Names → Hddl → Made → Type 0
IsMadeOf names value made = AreWrittenOf names value made.written × (made.told ≡ kept_line_of value)

-- and of a problem that may be solved
abbrev pub IsMadePruned : Names → Hddl → Made → Type 0
IsMadePruned names source made = (value : Hddl) × IsPruned source value × IsMadeOf names value made

abbrev pub StopsMadePruned : Hddl → Refusal → Type 0
StopsMadePruned source refusal = StopsKeeping source refusal ⊎ ((value : Hddl) × IsPruned source value × StopsText value refusal)
