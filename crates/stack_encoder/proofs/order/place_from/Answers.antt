use Rattle.std.proofs.Common.{ap, sym, ◌∙◌}
use Rattle.std.specs.List.{position}
use Rattle.std.proofs.lemmas.List.{take_rest}
use Rattle.plan_model.specs.plan_meaning.Compilation.{same_pair}
use Rattle.stack_encoder.proofs.PairPlaces.{found_from, found_before}
use Rattle.stack_encoder.proofs.order.place_from.Goals as goal

pub returns-in-Some : goal.returns-in-Some
returns-in-Some c =
    let w = c.args.wanted.now in
    found_from w c.args.pairs.now c.args.start c.in-Some.k (ap (position (λ p. same_pair p w)) (sym (take_rest c.args.pairs.now c.args.start)) ∙ sym c.in-Some.ensures)

pub returns-in-None : goal.returns-in-None
returns-in-None c =
    let w = c.args.wanted.now in
    found_before w c.args.pairs.now c.args.start c.place_of-in-None.result (ap (position (λ p. same_pair p w)) (sym (take_rest c.args.pairs.now c.args.start)) ∙ sym c.in-None.ensures) c.place_of-in-None.ensures
