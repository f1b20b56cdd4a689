use Rattle.plan_texts.proofs.PrintedSpells.{printed_spells}
use Rattle.plan_texts.proofs.printed.printed_spells.Goals as goal

pub returns : goal.returns
returns c = printed_spells c.args.value.now c.requires
