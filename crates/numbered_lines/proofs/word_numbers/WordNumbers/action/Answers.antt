use Rattle.std.proofs.Common.{List, Option}
use Rattle.std.proofs.lemmas.Result.{IfOk-weaker}
use Rattle.htn_base.specs.declared.name.Name.{Name}
use Rattle.plan_model.specs.declared.values.Compiled.{Compiled}
use Rattle.plan_model.specs.plan_meaning.Network.{action}
use Rattle.numbered_lines.specs.Numbered.{AreSaid}
use Rattle.numbered_lines.specs.WordNumbers.{AreNumbersOf, StandAt, IsTheThing, action_names}
use Rattle.numbered_lines.specs.declared.lines.Said.{Said}
use Rattle.numbered_lines.proofs.Worded.{action_said}
use Rattle.numbered_lines.proofs.word_numbers.WordNumbers.action.Goals as goal

pub returns : goal.returns
returns c =
    let line = c.args.line.now in
    record {
      action = IfOk-weaker c.thing.result
          (λ (found : Option Said). (p : Compiled) (names : List Name) → AreNumbersOf p c.args.self.now
          → StandAt p names c.args.self.now.actions → IsTheThing p names line found)
          (λ (found : Option Said). (p : Compiled) → AreNumbersOf p c.args.self.now → AreSaid p action line found)
          (λ found h p are. action_said p line found c.requires.printable (h p (action_names p) are are.actions)) c.thing.ensures;
    }
