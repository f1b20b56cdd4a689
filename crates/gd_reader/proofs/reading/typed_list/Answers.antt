use Rattle.std.proofs.Common.{[], sym, subst}
use Rattle.text_forms.specs.Placed.{parts_at}
use Rattle.gd_reader.specs.ListGrammar.{params_form}
use Rattle.gd_reader.specs.Reading.{Refuses}
use Rattle.gd_reader.specs.TypedLists.{listed}
use Rattle.gd_reader.proofs.FirstToken.{is_read, refuses, not_ended}
use Rattle.gd_reader.proofs.ListExact.{listed_exact}
use Rattle.gd_reader.proofs.reading.typed_list.Goals as goal

pub returns-in-Ok-clause-read : goal.returns-in-Ok-clause-read
returns-in-Ok-clause-read c = is_read (params_form c.args.kind []) (listed c.args.kind c.args.names.now) (λ p. listed_exact p c.args.kind c.args.names.now) c.args.s.now c.args.at (c.in-Ok.value, c.params_of.new.names) c.in-Ok.ensures.gives

pub returns-in-Err-clause-refused : goal.returns-in-Err-clause-refused
returns-in-Err-clause-refused c =
    let on = not_ended (listed c.args.kind c.args.names.now (parts_at c.args.s.now c.args.at)) c.in-Err.failure c.in-Err.ensures.gives ((listed_exact (parts_at c.args.s.now c.args.at) c.args.kind c.args.names.now).goes_on c.requires.stands) in
    subst (Refuses (params_form c.args.kind []) (listed c.args.kind c.args.names.now) c.args.s.now c.args.at c.args.file) (sym c.refusal.ensures.refusal)
    (refuses (params_form c.args.kind []) (listed c.args.kind c.args.names.now) (λ p. listed_exact p c.args.kind c.args.names.now) c.args.s.now c.args.at c.args.file c.text_len.result c.in-Err.failure c.in-Err.ensures.gives on)
