use Rattle.std.proofs.Common.{◌≡◌, ◌-◌}
use Rattle.text_forms.specs.Placed.{parts_at}
use Rattle.text_forms.specs.Tokens.{token_count}
use Rattle.text_forms.specs.sexpr_text.Positions.{IsPosition}
use Rattle.gd_reader.specs.Added.{AddsOf}
use Rattle.gd_reader.specs.Ends.{end_of}
use Rattle.gd_reader.specs.Terms.{Keeps}
use Rattle.gd_reader.specs.TypedLists.{listed}
use Rattle.gd_reader.proofs.Listing.{continued}
use Rattle.gd_reader.proofs.typed_lists.params_of.Given as goal

abbrev pub invariant-loop-pending : goal.invariant-loop-pending
invariant-loop-pending l = record {
  here : IsPosition l.s l.p;
  keeps : Keeps l.initial.names l.names;
  adds : AddsOf l.s l.initial.names l.names;
  closed : end_of (parts_at l.s l.p.token) ≡ end_of (parts_at l.s l.fn.i);
  rest : continued l.kind (record { seen = l.seen; done = l.done; pending = l.pending }, l.names) (parts_at l.s l.p.token) ≡ listed l.kind l.initial.names (parts_at l.s l.fn.i);
}

abbrev pub decreases-loop-pending : goal.decreases-loop-pending
decreases-loop-pending l = token_count l.s - l.p.token
