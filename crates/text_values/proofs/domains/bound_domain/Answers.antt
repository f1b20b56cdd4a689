use Rattle.std.proofs.Common.{◌≤◌, ◌+◌, length, Result, Ok, Err, arith, ap}
use Rattle.std.specs.Prelude.{OnOk}
use Rattle.htn_base.specs.Limits.{longest_input}
use Rattle.gd_reader.proofs.Keeping.{keeps_same}
use Rattle.text_values.proofs.DomainTexts.{section_is, names_refused_of, bound_of}
use Rattle.text_values.proofs.domains.bound_domain.Goals as goal

pub bound_names-requires : goal.bound_names-requires
bound_names-requires c =
    let read = c.read_domain.new.names in
    record { section = section_is c.args.language c.args.text.now c.args.names.now read read c.in-Ok.domain c.in-Ok.ensures.read (keeps_same read) c.in-Ok.ensures.differ }

pub returns-in-Ok-clause-refused : goal.returns-in-Ok-clause-refused
returns-in-Ok-clause-refused c =
    names_refused_of c.args.language c.args.text.now c.args.names.now c.read_domain.new.names c.bound_names.new.names c.in-Ok.domain c.in-Ok.ensures.read
    c.bound_names.ensures.keeps c.bound_names.ensures.differ c.bound_names.result c.bound_names.ensures.refused

pub returns-in-Ok-clause-bound : goal.returns-in-Ok-clause-bound
returns-in-Ok-clause-bound c =
    bound_of c.args.language c.args.text.now c.args.names.now c.read_domain.new.names c.bound_names.new.names c.in-Ok.domain c.in-Ok.ensures.read
    c.bound_names.ensures.keeps c.bound_names.ensures.differ c.requires.short c.bound_names.result (few c.bound_names.result c.bound_names.ensures.few) c.bound_names.ensures.bound
  where
    few : {A B : Type 0} (r : Result A B) → OnOk r (length c.bound_names.new.names ≤ length c.read_domain.new.names + 1) → OnOk r (length c.bound_names.new.names ≤ longest_input + 1)
    few (Ok x) l = let more = c.in-Ok.ensures.few in let short = c.requires.short in let none = ap length c.requires.empty in omega arith
    few (Err e) l = tt
