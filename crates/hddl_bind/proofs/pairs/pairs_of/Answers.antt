use Rattle.std.proofs.Common.{◌++◌, [], false, length, get_or, refl, ap, ◌∙◌}
use Rattle.plan_texts.specs.Networks.{chain_if}
use Rattle.gd_reader.specs.declared.term.RawTerm.{RawTerm}
use Rattle.hddl_reader.specs.declared.networks.RawPair.{RawPair}
use Rattle.name_binding.specs.Spots.{noted}
use Rattle.hddl_bind.specs.Pairs.{if_both, if_pair, written, written_at, pair_faults, unknown_ids}
use Rattle.hddl_bind.proofs.Steps.{noted_step, flat_behind}
use Rattle.hddl_bind.proofs.pairs.pairs_of.Goals as goal

abbrev nothing : RawTerm
nothing = record { name = record { number = 0 }; variable = false; at = 0 }

abbrev none : RawPair
none = record { first = nothing; then = nothing; at = 0 }

pub loop-pair-preserved : goal.loop-pair-preserved
loop-pair-preserved c =
    let subs = c.args.net.now.subs in
    let xs = c.as_slice-pair-items.result.now in
    let i = c.loop-pair.pair-index in
    let l = c.loop-pair-test.true in
    let kept = c.loop-pair.invariant in
    let same = c.requires.ids in
    let now = c.loop-pair.ordering in
    let x : RawPair = get_or xs i none in
    let bound = c.pair_of-bound.ensures.pair ∙ (λ t. if_both (same x.first.name.number t) (same x.then.name.number t)) in
    record {
      pairs = flat_behind xs i x none l refl (written subs) (chain_if c.args.net.now.ordered (length subs)) now.pairs _ kept.pairs (c.in_ok-put.ensures.pairs ∙ ap (λ b. now.pairs ++ if_pair (λ p. p) b) bound);
      offsets = flat_behind xs i x none l refl (written_at subs) [] now.offsets _ kept.offsets (c.in_ok-put.ensures.offsets ∙ ap (λ b. now.offsets ++ if_pair (λ _. x.at) b) bound);
      faults = noted_step xs i x none l refl (pair_faults subs) _ _ _ kept.faults (c.pair_of-bound.ensures.faults ∙ (λ t. noted c.loop-pair.faults.least (unknown_ids (λ n. same n t) x)));
    }
