use Rattle.std.proofs.Common.{refl}
use Rattle.std.proofs.lemmas.Result.{err_from_is_err_and}
use Rattle.text_forms.specs.Placed.{parts_at}
use Rattle.gd_reader.proofs.Keeping.{keeps_same, keeps_then}
use Rattle.hddl_reader.specs.Sections.{sections}
use Rattle.hddl_reader.proofs.SectionSteps.{sections_stop, sections_next}
use Rattle.hddl_reader.proofs.raw_sections.RawSections.read.Goals as goal

pub loop-self-init : goal.loop-self-init
loop-self-init c = record { adds = λ all h old. old; keeps = keeps_same c.args.names.now; rest = refl }

pub loop-self-preserved : goal.loop-self-preserved
loop-self-preserved c =
    let text = c.args.s.now in
    record {
      adds = λ all h old. c.in_ok-read_inside-in-List.ensures.adds all h (c.loop-self.invariant.adds all h old);
      keeps = keeps_then c.args.names.now c.loop-self.names c.read_inside.new.names c.loop-self.invariant.keeps c.in_ok-read_inside-in-List.ensures.keeps;
      rest = sections_next c.args.language c.args.definition c.loop-self.self c.loop-self.names (parts_at text c.loop-self.i) (sections c.args.language c.args.definition c.args.self.now c.args.names.now (parts_at text c.args.i)) c.loop-self.invariant.rest
          _ (parts_at text c.in-List.inside) (parts_at text c.in-List.behind) (c.read_inside.new.self, c.read_inside.new.names) c.in-List.ensures.shows.parts c.in_ok-read_inside-in-List.ensures.gives;
    }

pub returns-in_err-read_inside-in-List-clause-gives : goal.returns-in_err-read_inside-in-List-clause-gives
returns-in_err-read_inside-in-List-clause-gives c =
    let p = err_from_is_err_and c.from_residual.result c.from_residual.ensures.1 in
    let text = c.args.s.now in
    rw (p.1, p.2) (sections_stop c.args.language c.args.definition c.loop-self.self c.loop-self.names (parts_at text c.loop-self.i) (sections c.args.language c.args.definition c.args.self.now c.args.names.now (parts_at text c.args.i)) c.loop-self.invariant.rest
    c.in_err-read_inside-in-List.field-0.0 _ (parts_at text c.in-List.inside) (parts_at text c.in-List.behind) c.in-List.ensures.shows.parts c.in_err-read_inside-in-List.ensures.gives)

pub returns-in_err-read_inside-in-List-clause-keeps : goal.returns-in_err-read_inside-in-List-clause-keeps
returns-in_err-read_inside-in-List-clause-keeps c =
    keeps_then c.args.names.now c.loop-self.names c.read_inside.new.names c.loop-self.invariant.keeps c.in_err-read_inside-in-List.ensures.keeps
