use Rattle.std.proofs.Common.{ℕ, Result, ap, sym, ◌∙◌, subst}
use Rattle.std.proofs.lemmas.Result.{err_from_is_err_and}
use Rattle.text_forms.specs.Placed.{parts_at}
use Rattle.gd_reader.specs.declared.stop.Stop.{Stop}
use Rattle.gd_reader.specs.Answers.{◌>>=◌, Fails, word_due}
use Rattle.gd_reader.specs.Terms.{Names}
use Rattle.gd_reader.proofs.Keeping.{keeps_then}
use Rattle.gd_reader.proofs.Steps.{Met, fails_bind}
use Rattle.hddl_reader.specs.Networks.{Headed, all_of}
use Rattle.hddl_reader.proofs.NetworkSteps.{all_of_end, all_of_stop, all_of_next}
use Rattle.hddl_reader.proofs.items.all_of.Goals as goal

-- what a word at the front of an item's list begins
abbrev headed_by : {X : Type 0} → Headed X → Names → ℕ → Met → Result (X × Names) Stop
headed_by headed names place v = headed names place v.0 v.1 v.2

pub returns-in-Close-clause-gives : goal.returns-in-Close-clause-gives
returns-in-Close-clause-gives g c =
    all_of_end g.T.Item.headed c.loop-items.items c.loop-items.names (parts_at c.args.s.now c.loop-items.i) (all_of g.T.Item.headed c.args.names.now (parts_at c.args.s.now c.args.i)) c.loop-items.invariant.rest c.in-Close.field-0 c.in-Close.ensures.shows

pub returns-in_err-at-in-List-clause-gives : goal.returns-in_err-at-in-List-clause-gives
returns-in_err-at-in-List-clause-gives g c =
    let p = err_from_is_err_and c.from_residual.result c.from_residual.ensures.1 in
    let text = c.args.s.now in
    let failure = c.in_err-at-in-List.field-0.0 in
    rw (p.1, p.2) (all_of_stop g.T.Item.headed c.loop-items.items c.loop-items.names (parts_at text c.loop-items.i) (all_of g.T.Item.headed c.args.names.now (parts_at text c.args.i)) c.loop-items.invariant.rest
    c.in-List.place (parts_at text c.in-List.inside) (parts_at text c.in-List.behind) c.in-List.ensures.shows.parts failure
    (fails_bind failure (word_due (parts_at text c.in-List.inside)) (headed_by g.T.Item.headed c.loop-items.names c.in-List.place) c.in_err-at-in-List.ensures.gives))

pub returns-in_err-item-in-List-clause-gives : goal.returns-in_err-item-in-List-clause-gives
returns-in_err-item-in-List-clause-gives g c =
    let p = err_from_is_err_and c.from_residual-in_err-item-in-List.result c.from_residual-in_err-item-in-List.ensures.1 in
    let text = c.args.s.now in
    let failure = c.in_err-item-in-List.field-0.0 in
    rw (p.1, p.2) (all_of_stop g.T.Item.headed c.loop-items.items c.loop-items.names (parts_at text c.loop-items.i) (all_of g.T.Item.headed c.args.names.now (parts_at text c.args.i)) c.loop-items.invariant.rest
    c.in-List.place (parts_at text c.in-List.inside) (parts_at text c.in-List.behind) c.in-List.ensures.shows.parts failure
    (subst (λ r. Fails failure (r >>= headed_by g.T.Item.headed c.loop-items.names c.in-List.place)) (sym c.in_ok-at-in-List.ensures.gives) c.in_err-item-in-List.ensures.gives))

pub loop-items-preserved : goal.loop-items-preserved
loop-items-preserved g c =
    let text = c.args.s.now in
    let pushed = c.in_ok-push-in-List.ensures.pushed in
    let said = c.in_ok-at-in-List.ensures.said in
    let item = c.in_ok-item-in-List.ensures in
    record {
      adds = λ all h old. item.adds all (said all h) h (c.loop-items.invariant.adds all h old);
      keeps = keeps_then c.args.names.now c.loop-items.names c.headed_of.new.names c.loop-items.invariant.keeps item.keeps;
      rest = rw pushed (all_of_next g.T.Item.headed c.loop-items.items c.loop-items.names (parts_at text c.loop-items.i) (all_of g.T.Item.headed c.args.names.now (parts_at text c.args.i)) c.loop-items.invariant.rest
          c.in-List.place (parts_at text c.in-List.inside) (parts_at text c.in-List.behind) c.in-List.ensures.shows.parts c.in_ok-item-in-List.item c.headed_of.new.names
          (ap (λ r. r >>= headed_by g.T.Item.headed c.loop-items.names c.in-List.place) c.in_ok-at-in-List.ensures.gives ∙ item.gives));
    }

pub returns-in_err-item-in-List-clause-keeps : goal.returns-in_err-item-in-List-clause-keeps
returns-in_err-item-in-List-clause-keeps g c = keeps_then c.args.names.now c.loop-items.names c.headed_of.new.names c.loop-items.invariant.keeps c.in_err-item-in-List.ensures.keeps

pub returns-in_err-push-in-List-clause-keeps : goal.returns-in_err-push-in-List-clause-keeps
returns-in_err-push-in-List-clause-keeps g c = keeps_then c.args.names.now c.loop-items.names c.headed_of.new.names c.loop-items.invariant.keeps c.in_ok-item-in-List.ensures.keeps
