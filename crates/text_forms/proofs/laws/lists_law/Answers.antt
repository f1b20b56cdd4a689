use Rattle.text_forms.proofs.Matched.{matched_are_lists}
use Rattle.text_forms.proofs.OneNesting.{one_nesting}
use Rattle.text_forms.proofs.laws.lists_law.Goals as goal

pub returns : goal.returns
returns c = record { matched = matched_are_lists; one = one_nesting }
