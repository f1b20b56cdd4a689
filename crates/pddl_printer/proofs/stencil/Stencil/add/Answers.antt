use Rattle.std.proofs.Common.{◌≡◌, [], ◌++◌, ap, sym, ◌∙◌, rules}
use Rattle.std.proofs.lemmas.List.{append-nil, nil_from_length}
use Rattle.pddl_printer.specs.Behind.{of_each}
use Rattle.pddl_printer.proofs.Batches.{added-as, added-then, each-added, each-added-all}
use Rattle.pddl_printer.proofs.stencil.Stencil.add.Goals as goal

pub loop-piece-preserved : goal.loop-piece-preserved
loop-piece-preserved c =
    each-added (λ piece. piece.items ++ c.args.word.now) c.as_slice-piece-items.result.now c.loop-piece.piece-index c.piece-item.result c.loop-piece-test.true c.piece-item.is c.loop-piece.invariant
    (added-then (added-as c.as_slice.ensures.value c.add.ensures) c.add-in-loop-piece.ensures)

pub returns-then-not-is_empty : goal.returns-then-not-is_empty
returns-then-not-is_empty c =
    added-then
    (each-added-all (λ piece. piece.items ++ c.args.word.now) c.as_slice-piece-items.result.now c.loop-piece.piece-index c.loop-piece-test.false c.as_slice-piece-items.ensures.value c.loop-piece.invariant)
    (added-as c.as_slice-then-not-is_empty.ensures.value c.add-then-not-is_empty.ensures)

pub returns-else-not-is_empty : goal.returns-else-not-is_empty
returns-else-not-is_empty c =
    let pieces = of_each (λ piece. piece.items ++ c.args.word.now) c.args.self.now.before.items in
    let none : c.args.self.now.behind.items ≡ [] = nil_from_length c.args.self.now.behind.items (let e = c.is_empty.ensures in let f = c.if-not-is_empty.false in search rules) in
    added-as (sym (ap (λ z. pieces ++ z) none ∙ append-nil pieces))
    (each-added-all (λ piece. piece.items ++ c.args.word.now) c.as_slice-piece-items.result.now c.loop-piece.piece-index c.loop-piece-test.false c.as_slice-piece-items.ensures.value c.loop-piece.invariant)
