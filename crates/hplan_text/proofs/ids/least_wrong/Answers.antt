use Rattle.std.proofs.Common.{◌≡◌, ◌∙◌, ◌+◌, get_or, false, length, replicate, ap, sym, subst}
use Rattle.std.proofs.lemmas.List.{length-replicate}
use Rattle.hplan_text.specs.declared.mention.Mention.{Mention}
use Rattle.hplan_text.proofs.Marked.{none-marked, written}
use Rattle.hplan_text.proofs.Numbered.{IsSeenTo, seen-first, seen-next, seen-last, least-wrong}
use Rattle.hplan_text.specs.Marks.{has, Takes}
use Rattle.hplan_text.proofs.ids.least_wrong.Goals as goal

abbrev nothing : Mention
nothing = record { id = 0; at = 0 }

pub loop-mention-init : goal.loop-mention-init
loop-mention-init c =
    let ids = c.args.ids.now in
    let marks = c.in_ok-marks.marks.items in
    let e : marks ≡ replicate (length ids) false = c.in_ok-marks.ensures.items_if_clones_equal (λ y h. h) in
    record {
      sized = ap length e ∙ length-replicate (length ids) false;
      seen = seen-first c.args.unknown c.args.again ids c.args.mentions.now marks (λ n. ap (λ z. has ids z n) e ∙ none-marked ids n (length ids));
    }

pub loop-mention-preserved : goal.loop-mention-preserved
loop-mention-preserved c =
    let ids = c.args.ids.now in
    let old = c.loop-mention.marks.items in
    let lent : c.deref_mut.result.now ≡ old = c.deref_mut.ensures.value in
    let size : length c.take-taken.new.marks ≡ length c.deref_mut.result.now = c.take-taken.auto.marks in
    let whole : c.loop-mention.marks.len ≡ length old = c.loop-mention.marks.ok.0 in
    let new = written c.loop-mention.marks.len c.take-taken.new.marks old (size ∙ ap length lent) whole in
    record {
      sized = ap length new ∙ size ∙ ap length lent ∙ c.loop-mention.invariant.sized;
      seen = subst (λ z. IsSeenTo c.args.unknown c.args.again ids c.args.mentions.now (c.loop-mention.mention-index + 1) z c.least-found.result) (sym new)
          (seen-next c.args.unknown c.args.again ids c.args.mentions.now c.loop-mention.mention-index old c.take-taken.new.marks c.loop-mention.found c.least-found.result c.take-taken.result nothing c.loop-mention-test.true c.loop-mention.invariant.sized
          (subst (λ z. Takes ids (get_or c.args.mentions.now c.loop-mention.mention-index nothing).id z c.take-taken.new.marks c.take-taken.result) lent c.take-taken.ensures.taken)
          (λ fs known seen t h. c.least-found.ensures fs _ h (c.fault_of.ensures known seen t)) c.loop-mention.invariant.seen);
    }

pub returns : goal.returns
returns c =
    let ids = c.args.ids.now in
    record {
      least = least-wrong c.args.unknown c.args.again ids c.requires.codes c.loop-mention.found c.args.mentions.now
          (seen-last c.args.unknown c.args.again ids c.args.mentions.now c.loop-mention.mention-index c.loop-mention.marks.items c.loop-mention.found c.loop-mention-test.false c.loop-mention.invariant.seen);
    }
