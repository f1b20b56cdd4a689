use Rattle.std.proofs.Common.{◌≡◌, ◌-◌}
use Rattle.text_forms.specs.Placed.{parts_at}
use Rattle.text_forms.specs.Tokens.{token_count}
use Rattle.gd_reader.specs.Added.{AddsOf}
use Rattle.gd_reader.specs.Answers.{with_front}
use Rattle.gd_reader.specs.Terms.{Keeps}
use Rattle.gd_reader.specs.TypedLists.{more_names}
use Rattle.gd_reader.proofs.kind.some_names_of.Given as goal

abbrev pub invariant-loop-seen : goal.invariant-loop-seen
invariant-loop-seen l = record {
  keeps : Keeps l.initial.names l.names;
  adds : AddsOf l.s l.initial.names l.names;
  rest : with_front l.types (more_names (l.names, l.seen) (parts_at l.s l.i)) ≡ with_front l.initial.types (more_names (l.initial.names, l.initial.seen) (parts_at l.s l.initial.i));
}

abbrev pub decreases-loop-seen : goal.decreases-loop-seen
decreases-loop-seen l = token_count l.s - l.i
