use Rattle.hplan_text.specs.declared.mention.Mention.{Mention}
use Rattle.hplan_text.specs.Marks.{chosen}
use Rattle.hplan_text.proofs.Numbered.{looked-first, look-next, look-at-last}
use Rattle.hplan_text.proofs.ids.least_other.Goals as goal

abbrev nothing : Mention
nothing = record { id = 0; at = 0 }

pub loop-mention-init : goal.loop-mention-init
loop-mention-init c = looked-first (chosen c.args.ids.now c.args.marks.now) c.args.mentions.now c.args.code

pub loop-mention-preserved : goal.loop-mention-preserved
loop-mention-preserved c = look-next (chosen c.args.ids.now c.args.marks.now) c.args.mentions.now c.loop-mention.mention-index c.args.code c.loop-mention.found c.least_unless-found.result nothing c.is_marked.result
    c.loop-mention-test.true c.is_marked.ensures c.least_unless-found.ensures c.loop-mention.invariant

pub returns : goal.returns
returns c = record { least = look-at-last (chosen c.args.ids.now c.args.marks.now) c.args.mentions.now c.loop-mention.mention-index c.args.code c.loop-mention.found c.loop-mention-test.false c.loop-mention.invariant }
