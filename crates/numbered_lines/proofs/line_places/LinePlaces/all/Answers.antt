use Rattle.std.proofs.Common.{ℕ, List, slice_index, subst, sym}
use Rattle.std.proofs.lemmas.Option.{slice_get-get_or}
use Rattle.plan_texts.specs.Types.{Has, EachIs}
use Rattle.plan_texts.specs.Together.{Together}
use Rattle.plan_encoder.proofs.CallsApart.{each_at}
use Rattle.numbered_lines.specs.Numbered.{IsAtPlace}
use Rattle.numbered_lines.proofs.Listed.{made_next, made_all, together_back}
use Rattle.numbered_lines.proofs.line_places.LinePlaces.all.Goals as goal

pub find-requires : goal.find-requires
find-requires c =
    let ids = c.as_slice-id-items.result.now in
    let i = c.loop-id.id-index in
    let known = subst (EachIs (Has c.args.self.now.ids)) (sym c.as_slice-id-items.ensures.items) c.requires.known in
    record {
      places = c.requires.places;
      few = c.requires.few;
      known = each_at (Has c.args.self.now.ids) ids i (slice_index ids i) known (slice_get-get_or ids i 0 c.loop-id-test.true);
    }

pub loop-id-preserved : goal.loop-id-preserved
loop-id-preserved c =
    let ids = c.as_slice-id-items.result.now in
    let i = c.loop-id.id-index in
    made_next (λ (id place : ℕ). IsAtPlace c.args.self.now.ids place id) ids i (slice_index ids i) c.loop-id.places c.push.new.self
    c.find.result (slice_get-get_or ids i 0 c.loop-id-test.true) c.in_ok-push.ensures.pushed c.find.ensures.place c.loop-id.invariant

pub returns : goal.returns
returns c =
    let ids = c.as_slice-id-items.result.now in
    let places = c.loop-id.places in
    let Stands = λ (id place : ℕ). IsAtPlace c.args.self.now.ids place id in
    record {
      places = subst (λ (z : List ℕ). Together (IsAtPlace c.args.self.now.ids) places z) c.as_slice-id-items.ensures.items
          (together_back Stands ids places (made_all Stands ids c.loop-id.id-index places c.loop-id-test.false c.loop-id.invariant));
    }
