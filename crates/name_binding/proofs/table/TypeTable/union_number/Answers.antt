use Rattle.std.proofs.Common.{◌≡◌, ◌+◌, Some, None, ap, ◌∙◌, sym, length, nat_eq, position, arith}
use Rattle.std.specs.Prelude.{option_map, unwrap_or}
use Rattle.std.specs.Cmp.Lexicographic.{pointwise}
use Rattle.name_binding.specs.Kinds.{union_number}
use Rattle.name_binding.proofs.table.TypeTable.union_number.Goals as goal

pub returns-in_ok-past_types-in-Some : goal.returns-in_ok-past_types-in-Some
returns-in_ok-past_types-in-Some c =
    let kinds = c.args.self.now in
    let members = c.args.members.now in
    let place : position (pointwise nat_eq members) kinds.unions ≡ Some c.in-Some.place =
    ap (λ seen. position (pointwise nat_eq members) seen.unions) (sym c.self.view_is) ∙ sym c.in-Some.ensures.place in
    let value : union_number kinds members ≡ length kinds.types + c.in-Some.place =
    ap (λ p. unwrap_or (option_map (λ k. length kinds.types + k) p) 0) place in
    let len : c.len.result ≡ length kinds.types = c.len.ensures.length ∙ ap (λ seen. length seen.types) c.self.view_is in
    record { number = omega (arith, value, len, c.in_ok-past_types-in-Some.ensures.same, c.saturating_add.ensures) }

pub returns-in-None : goal.returns-in-None
returns-in-None c =
    let kinds = c.args.self.now in
    let members = c.args.members.now in
    let place : position (pointwise nat_eq members) kinds.unions ≡ None =
    ap (λ seen. position (pointwise nat_eq members) seen.unions) (sym c.self.view_is) ∙ sym c.in-None.ensures.place in
    record { number = ap (λ p. unwrap_or (option_map (λ k. length kinds.types + k) p) 0) (sym place) }
