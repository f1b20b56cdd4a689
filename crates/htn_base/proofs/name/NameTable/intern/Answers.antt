use Rattle.std.proofs.Common.{sym, subst, ◌∙◌}
use Rattle.htn_base.specs.Words.{IsFolded}
use Rattle.htn_base.proofs.TableLemmas.{IsFolded-folded}
use Rattle.htn_base.proofs.name.NameTable.intern.Goals as goal

pub named-name-requires : goal.named-name-requires
named-name-requires c = subst IsFolded (sym (c.as_slice.ensures.value ∙ c.in_ok-lower.ensures.ok)) (IsFolded-folded c.args.word.now)
