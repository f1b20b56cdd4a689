-- The text of the plan that a run shows, and of the one that steps show.
use Rattle.std.proofs.Common.{ℕ, List, Result, Ok, Err, IfOk, refl}
use Rattle.htn_base.specs.declared.memory.Memory.{Memory}
use Rattle.plan_model.specs.declared.steps.GroundAction.{GroundAction}
use Rattle.plan_model.specs.declared.values.Compiled.{Compiled}
use Rattle.hplan_text.specs.declared.values.HPlan.{HPlan}
use Rattle.hplan_text.specs.HPlanText.{hplan_text}
use Rattle.hplan_text.specs.ShownLaws.{IsShown}
use Rattle.hplan_text.specs.ShownSolutions.{SpellShown}
use Rattle.tree_decoder.specs.declared.decoded.Decoded.{Decoded}
use Rattle.stack_decoding.specs.StackShown.{StackShown}
use Rattle.tree_decoder.specs.Decoded.{IsDecoded}
use Rattle.tree_decoder.specs.AtTip.{IsStackDecoded}
use Rattle.tree_texts.specs.TreeTexts.{IsTreeText, IsStackText, IsTextOf}
use Rattle.tree_texts.specs.declared.text.TreeText.{TreeText}
use Rattle.tree_texts.specs.declared.text.TreeText.TheVariants.{Whole, TooLong, Fails}

-- the run that the steps are decoded to shows the plan that they show
module _ (c : Compiled) (b : ℕ) (steps : List GroundAction) (decoded : Decoded) (d : IsDecoded c b steps decoded) where
  pub spell-shown : (shown : HPlan) → IsShown c decoded.run shown → SpellShown c b steps shown
  spell-shown shown is = record {
    tree = d.tree;
    order = d.order;
    slot = d.slot;
    spelled = d.spelled;
    solution = d.solution;
    shows = is d.tree d.order d.solution.finished d.stands;
  }

  pub is-tree-text : (most : ℕ) (r : Result TreeText Memory) → IfOk r (IsTextOf c decoded.run most) → IfOk r (IsTreeText c b steps most)
  is-tree-text most (Ok (Whole text)) (shown, is, e, l) = ((shown, spell-shown shown is, e), l)
  is-tree-text most (Ok (TooLong n)) (shown, is, e, l) = (hplan_text shown, (shown, spell-shown shown is, refl), e, l)
  is-tree-text most (Ok (Fails step why)) h = absurd h
  is-tree-text most (Err m) h = h

-- and so does the run that the steps of a stack are decoded to
module _ (c : Compiled) (b : ℕ) (steps : List GroundAction) (decoded : Decoded) (d : IsStackDecoded c b steps decoded) where
  pub stack-shown : (shown : HPlan) → IsShown c decoded.run shown → StackShown c b steps shown
  stack-shown shown is = record {
    tree = d.tree;
    order = d.order;
    cell = d.cell;
    spelled = d.spelled;
    solution = d.solution;
    shows = is d.tree d.order d.solution.finished d.stands;
  }

  pub is-stack-text : (most : ℕ) (r : Result TreeText Memory) → IfOk r (IsTextOf c decoded.run most) → IfOk r (IsStackText c b steps most)
  is-stack-text most (Ok (Whole text)) (shown, is, e, l) = ((shown, stack-shown shown is, e), l)
  is-stack-text most (Ok (TooLong n)) (shown, is, e, l) = (hplan_text shown, (shown, stack-shown shown is, refl), e, l)
  is-stack-text most (Ok (Fails step why)) h = absurd h
  is-stack-text most (Err m) h = h
