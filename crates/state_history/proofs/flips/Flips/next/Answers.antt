use Rattle.std.proofs.Common.{rules, ◌≡◌, ◌+◌, arith}
use Rattle.state_history.proofs.FlipLaws.{later-within}
use Rattle.state_history.proofs.flips.Flips.next.Goals as goal

pub invariant_of-self : goal.invariant_of-self
invariant_of-self c =
    let old = c.args.self.now in
    let more : c.in_ok-self.field-0 ≡ c.args.self.now.last + 1 = search rules in
    record { sound = later-within old.last c.in_ok-self.field-0 old.gaps (omega (arith, more)) old.sound }
