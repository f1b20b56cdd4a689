use Rattle.std.proofs.Common.{◌≡◌, ◌-◌}
use Rattle.text_forms.specs.Placed.{parts_at}
use Rattle.text_forms.specs.Tokens.{token_count}
use Rattle.gd_reader.specs.Added.{AddsOf}
use Rattle.gd_reader.specs.Terms.{Keeps}
use Rattle.hddl_reader.specs.Parts.{parts}
use Rattle.hddl_reader.proofs.parts.RawParts.read.Given as goal

abbrev pub invariant-loop-part : goal.invariant-loop-part
invariant-loop-part l = record {
  keeps : Keeps l.initial.names l.names;
  adds : AddsOf l.s l.initial.names l.names;
  rest : parts l.kind l.self l.names (parts_at l.s l.i) ≡ parts l.initial.kind l.initial.self l.initial.names (parts_at l.s l.initial.i);
}

abbrev pub decreases-loop-part : goal.decreases-loop-part
decreases-loop-part l = token_count l.s - l.i
