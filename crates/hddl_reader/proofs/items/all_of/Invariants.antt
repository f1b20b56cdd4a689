use Rattle.std.proofs.Common.{◌≡◌, ◌-◌}
use Rattle.text_forms.specs.Placed.{parts_at}
use Rattle.text_forms.specs.Tokens.{token_count}
use Rattle.gd_reader.specs.Added.{AddsOf}
use Rattle.gd_reader.specs.Answers.{with_front}
use Rattle.gd_reader.specs.Terms.{Keeps}
use Rattle.hddl_reader.specs.Networks.{all_of}
use Rattle.hddl_reader.proofs.items.all_of.Given as goal

abbrev pub invariant-loop-items : goal.invariant-loop-items
invariant-loop-items g l = record {
  keeps : Keeps l.initial.names l.names;
  adds : AddsOf l.s l.initial.names l.names;
  rest : with_front l.items (all_of g.T.Item.headed l.names (parts_at l.s l.i)) ≡ all_of g.T.Item.headed l.initial.names (parts_at l.s l.initial.i);
}

abbrev pub decreases-loop-items : goal.decreases-loop-items
decreases-loop-items g l = token_count l.s - l.i
