use Rattle.std.proofs.Common.{refl}
use Rattle.std.proofs.lemmas.Result.{err_from_is_err_and}
use Rattle.text_forms.specs.Placed.{parts_at}
use Rattle.gd_reader.proofs.Keeping.{keeps_same, keeps_then}
use Rattle.gd_reader.proofs.Steps.{is_none}
use Rattle.hddl_reader.specs.Parts.{parts}
use Rattle.hddl_reader.proofs.FoldSteps.{fold_end, fold_stuck, fold_stop, fold_next}
use Rattle.hddl_reader.proofs.PartSteps.{part_next, part_met, parts_all, due_behind, parts_is}
use Rattle.hddl_reader.proofs.parts.RawParts.read.Goals as goal

pub returns-in_err-part-clause-gives : goal.returns-in_err-part-clause-gives
returns-in_err-part-clause-gives c =
    let p = err_from_is_err_and c.from_residual.result c.from_residual.ensures.1 in
    rw (p.1, p.2) (fold_stuck (part_next c.args.kind) due_behind (part_met c.args.kind) (parts_all c.args.kind) (parts_is c.args.kind) (c.loop-part.self, c.loop-part.names) (parts_at c.args.s.now c.loop-part.i) (parts c.args.kind c.args.self.now c.args.names.now (parts_at c.args.s.now c.args.i)) c.loop-part.invariant.rest c.in_err-part.field-0.0 c.in_err-part.ensures.gives)

pub returns-in_err-read_part-clause-gives : goal.returns-in_err-read_part-clause-gives
returns-in_err-read_part-clause-gives c =
    let p = err_from_is_err_and c.from_residual-in_err-read_part.result c.from_residual-in_err-read_part.ensures.1 in
    let is = c.in-Some.is in
    let gives = c.in_ok-part.ensures.gives in
    rw (p.1, p.2) (fold_stop (part_next c.args.kind) due_behind (part_met c.args.kind) (parts_all c.args.kind) (parts_is c.args.kind) (c.loop-part.self, c.loop-part.names) (parts_at c.args.s.now c.loop-part.i) (parts c.args.kind c.args.self.now c.args.names.now (parts_at c.args.s.now c.args.i)) c.loop-part.invariant.rest c.in_err-read_part.field-0.0 (c.in-Some.part, c.in-Some.place, parts_at c.args.s.now c.in-Some.inside, parts_at c.args.s.now c.in-Some.behind) (rw is at gives) c.in_err-read_part.ensures.gives)

pub loop-part-preserved : goal.loop-part-preserved
loop-part-preserved c =
    let is = c.in-Some.is in
    let gives = c.in_ok-part.ensures.gives in
    record {
      adds = λ all h old. c.in_ok-read_part.ensures.adds all h (c.loop-part.invariant.adds all h old);
      keeps = keeps_then c.args.names.now c.loop-part.names c.read_part.new.names c.loop-part.invariant.keeps c.in_ok-read_part.ensures.keeps;
      rest = fold_next (part_next c.args.kind) due_behind (part_met c.args.kind) (parts_all c.args.kind) (parts_is c.args.kind) (c.loop-part.self, c.loop-part.names) (parts_at c.args.s.now c.loop-part.i) (parts c.args.kind c.args.self.now c.args.names.now (parts_at c.args.s.now c.args.i)) c.loop-part.invariant.rest (c.in-Some.part, c.in-Some.place, parts_at c.args.s.now c.in-Some.inside, parts_at c.args.s.now c.in-Some.behind) (c.read_part.new.self, c.read_part.new.names) (rw is at gives) c.in_ok-read_part.ensures.gives;
    }

pub returns-clause-gives : goal.returns-clause-gives
returns-clause-gives c =
    let gives = c.in_ok-part.ensures.gives in
    let never = c.in_default.not-Some in
    fold_end (part_next c.args.kind) due_behind (part_met c.args.kind) (parts_all c.args.kind) (parts_is c.args.kind) (c.loop-part.self, c.loop-part.names) (parts_at c.args.s.now c.loop-part.i) (parts c.args.kind c.args.self.now c.args.names.now (parts_at c.args.s.now c.args.i)) c.loop-part.invariant.rest (rw (is_none c.in_ok-part.field-0 never) at gives)

pub returns-in_err-read_part-clause-keeps : goal.returns-in_err-read_part-clause-keeps
returns-in_err-read_part-clause-keeps c =
    keeps_then c.args.names.now c.loop-part.names c.read_part.new.names c.loop-part.invariant.keeps c.in_err-read_part.ensures.keeps

pub loop-part-init : goal.loop-part-init
loop-part-init c = record { adds = λ all h old. old; keeps = keeps_same c.args.names.now; rest = refl }
