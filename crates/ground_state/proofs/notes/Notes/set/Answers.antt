use Rattle.std.proofs.Common.{Bool, Option, Some, ap, refl, sym, subst, ◌∙◌, arith}
use Rattle.std.specs.Option.{IsSome, option_map}
use Rattle.ground_state.specs.declared.notes.Notes.{Notes}
use Rattle.ground_state.specs.Notes.{noted_at, IsNoted}
use Rattle.ground_state.proofs.Lists.{far-noted, set-at}
use Rattle.ground_state.proofs.notes.Notes.set.Goals as goal

pub returns-in-Some-get_mut : goal.returns-in-Some-get_mut
returns-in-Some-get_mut c =
    let old = c.args.self.now in
    let far = c.get_mut.follows.lender c.args.truth in
    let new : Notes = record { numbers = old.numbers; near = old.near; far = far } in
    let writes = c.get_mut.follows.holds c.args.truth in
    let found = subst IsSome c.in-Some-get_mut.ensures.value refl in
    let is = ap (noted_at old c.args.args.now) (sym c.in_default.ensures.number) ∙ sym c.in-Some-get_mut.ensures.value in
    subst (λ (w : Option Bool). IsNoted old c.args.args.now w new) (sym (ap (option_map (λ _. c.args.truth)) is))
    (far-noted old far c.args.args.now (Some c.args.truth) (sym c.in_default.ensures.number) (writes.3 found))

pub returns-then-is_some : goal.returns-then-is_some
returns-then-is_some c =
    set-at c.args.self.now c.args.args.now c.in-Some.number c.args.truth c.index.result.now (sym c.in-Some.ensures.number) (let l = c.if-number-len.true in let e = c.len.ensures in let k = c.args.self.now.near.ok.0 in omega (arith, l, e, k)) c.index.ensures (sym c.is_some.ensures ∙ c.if-is_some.true)
