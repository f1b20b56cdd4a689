-- The status of a refusal, and its one line on standard error.
-- Source: this project's.
use Rattle.std.specs.Prelude.{ℕ, List, [], ◌++◌, Some, None, codes, decimal}
use Rattle.htn_cli.specs.declared.status.Status.{Status}
use Rattle.htn_cli.specs.declared.status.Status.TheVariants as status
use Rattle.plan_model.specs.declared.causes.FailWhy.{FailWhy}
use Rattle.plan_model.specs.declared.causes.FailWhy.TheVariants as why
use Rattle.decoding.specs.declared.causes.Why.{Why}
use Rattle.decoding.specs.declared.causes.Why.TheVariants as reason
use Rattle.htn_cli.specs.Faults.{place_text, fault_text}
use Rattle.htn_cli.specs.declared.faults.Counted.{Counted}
use Rattle.htn_cli.specs.declared.faults.Counted.TheVariants.{Depth, Subtasks, Types}
use Rattle.htn_cli.specs.declared.refusal.Refusal.{Refusal}
use Rattle.htn_cli.specs.declared.refusal.Refusal.TheVariants as refused
use Rattle.htn_cli.specs.declared.refusal.Limit.{Limit}
use Rattle.htn_cli.specs.declared.refusal.Limit.TheVariants as limit
use Rattle.htn_cli.specs.declared.refusal.Finding.{Finding}
use Rattle.htn_cli.specs.declared.refusal.Finding.TheVariants as finding
use Rattle.htn_cli.specs.declared.refusal.Failure.{Failure}
use Rattle.htn_cli.specs.declared.refusal.Failure.TheVariants as failure

-- the number with which the program ends
abbrev pub code_of : Status → ℕ
code_of status.Done = 0
code_of status.TextFault = 1
code_of status.Words = 2
code_of status.ReadFault = 3
code_of status.WriteFault = 4
code_of status.NoMemory = 5
code_of status.Finding = 6
code_of status.Limit = 7

-- the status of a run that ends with this refusal
abbrev pub failure_status : Failure → Status
failure_status (failure.Reading name) = status.ReadFault
failure_status (failure.Writing name) = status.WriteFault
failure_status failure.Telling = status.WriteFault
failure_status failure.Memory = status.NoMemory

abbrev pub status_of : Refusal → Status
status_of refused.Words = status.Words
status_of (refused.Fault place code) = status.TextFault
status_of (refused.Limit l) = status.Limit
status_of (refused.Finding f) = status.Finding
status_of (refused.Failure f) = failure_status f

-- what is counted, by its word
abbrev pub counted_word : Counted → List ℕ
counted_word Depth = codes "depth"
counted_word Subtasks = codes "subtasks"
counted_word Types = codes "types"

abbrev pub limit_word : Limit → List ℕ
limit_word limit.Bound = codes "bound"
limit_word limit.Ground = codes "ground"
limit_word (limit.Slots n) = codes "slots"
limit_word (limit.Bytes name) = codes "bytes"
limit_word (limit.Text counted place) = counted_word counted
limit_word (limit.Steps n) = codes "steps"
limit_word (limit.Lines n) = codes "lines"
limit_word (limit.Output n) = codes "output"

-- and what is told of it: how much there is, or in which file, or where
abbrev pub limit_extent : Limit → List ℕ
limit_extent limit.Bound = []
limit_extent limit.Ground = []
limit_extent (limit.Slots n) = codes " " ++ decimal n
limit_extent (limit.Bytes name) = codes " " ++ name.now
limit_extent (limit.Text counted place) = codes " " ++ place_text place
limit_extent (limit.Steps n) = codes " " ++ decimal n
limit_extent (limit.Lines n) = codes " " ++ decimal n
limit_extent (limit.Output n) = codes " " ++ decimal n

-- the word of why a step of a plan fails
abbrev pub cause_word : FailWhy → List ℕ
cause_word why.UnknownAction = codes "UnknownAction"
cause_word why.Arguments = codes "Arguments"
cause_word why.Condition = codes "Condition"
cause_word why.GoalFalse = codes "GoalFalse"

-- the word of why a list spells no solution
abbrev pub why_word : Why → List ℕ
why_word reason.UnknownAction = codes "UnknownAction"
why_word reason.Arguments = codes "Arguments"
why_word reason.SlotHolds = codes "SlotHolds"
why_word reason.Waiting = codes "Waiting"
why_word reason.SlotTaken = codes "SlotTaken"
why_word reason.Constraint = codes "Constraint"
why_word reason.Precondition = codes "Precondition"
why_word reason.Unfinished = codes "Unfinished"
why_word reason.GoalFalse = codes "GoalFalse"

abbrev pub finding_text : Finding → List ℕ
finding_text (finding.NotTailRecursive words) = codes "not tail-recursive:" ++ words
finding_text (finding.NotTotallyOrdered word) = codes "not totally ordered: " ++ word
finding_text (finding.NotAPlan step why) = codes "not a plan: step " ++ decimal step ++ codes " " ++ cause_word why
finding_text (finding.SpellsNoSolution step why) = codes "not a plan: step " ++ decimal step ++ codes " " ++ why_word why
finding_text (finding.NoMatch None) = codes "no match: root"
finding_text (finding.NoMatch (Some id)) = codes "no match: line " ++ decimal id
finding_text (finding.NotExecutable id) = codes "not executable: line " ++ decimal id
finding_text finding.GoalFalse = codes "goal false"
finding_text finding.NoPlacement = codes "no placement"
finding_text (finding.NeedsBound width) = codes "needs bound " ++ decimal width
finding_text finding.NoSolution = codes "no solution"

abbrev pub failure_text : Failure → List ℕ
failure_text (failure.Reading name) = codes "cannot read " ++ name.now
failure_text (failure.Writing name) = codes "cannot write " ++ name.now
failure_text failure.Telling = codes "cannot write standard output"
failure_text failure.Memory = codes "out of memory"

abbrev pub refusal_text : Refusal → List ℕ
refusal_text refused.Words = codes "words refused"
refusal_text (refused.Fault place code) = fault_text place code
refusal_text (refused.Limit l) = codes "limit " ++ limit_word l ++ limit_extent l
refusal_text (refused.Finding f) = finding_text f
refusal_text (refused.Failure f) = failure_text f

abbrev pub line_of : Refusal → List ℕ
line_of refusal = refusal_text refusal ++ codes "\n"
