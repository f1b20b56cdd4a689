use Rattle.std.proofs.Common.{Result, Ok, Err}
use Rattle.std.specs.Prelude.{IfOk}
use Rattle.hddl_reader.specs.declared.sections.Language.TheVariants.{Hddl as language}
use Rattle.plan_model.specs.declared.values.Hddl.{Hddl}
use Rattle.text_forms.specs.declared.sexpr_text.read_error.ReadError.{ReadError}
use Rattle.text_values.specs.ReadAs.{AreReadAs}
use Rattle.text_values.specs.Values.{IsValueOf}
use Rattle.text_values.proofs.HddlTexts.{value_of}
use Rattle.text_values.proofs.values.hddl_of.Goals as goal

pub returns-clause-value : goal.returns-clause-value
returns-clause-value c = go c.read_as.result c.read_as.ensures.read
  where
    go : (r : Result Hddl ReadError) → IfOk r (AreReadAs c.args.domain.now c.args.problem.now language) → IfOk r (IsValueOf c.args.domain.now c.args.problem.now)
    go (Ok h) is = value_of c.args.domain.now c.args.problem.now h is c.read_values_are_sound.ensures
    go (Err e) is = tt
