use Rattle.line_fits.proofs.WantedFits.{wanted_is}
use Rattle.line_fits.proofs.fitting.split_fit.Goals as goal

pub returns : goal.returns
returns c = record {
  fit = wanted_is c.args.lines.now c.args.c.now c.args.split.now c.in-Some.method c.in-Some.is c.in-Some-task.task c.in-Some-task.is
      c.as_slice.result.now c.as_slice-2.result.now c.as_slice.ensures.items c.as_slice-2.ensures.items c.fit.result c.fit.ensures.fit;
}
