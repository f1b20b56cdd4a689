use Rattle.std.proofs.Common.{◌≡◌, ◌≤◌, ◌+◌, ◌-◌, ◌*◌, sym, subst, get_or, MatchOption, arith}
use Rattle.std.specs.Str.Parse.{digits_value}
use Rattle.hplan_text.proofs.Digits.{past, past-tens, digit-at}
use Rattle.hplan_text.proofs.words.number_of.Goals as goal

pub returns-in_err-checked_mul : goal.returns-in_err-checked_mul
returns-in_err-checked_mul c =
    let too = c.in_err-checked_mul.ensures in
    let most : 18446744073709551616 ≤ c.loop-digit.number * 10 = omega (arith, too) in
    let value = digits_value 10 c.args.digits.now in
    subst (λ o. MatchOption o (18446744073709551616 ≤ value) (λ n. n ≡ value)) (sym c.from_residual.ensures)
    (past-tens c.loop-digit.number c.loop-digit.digit-index 18446744073709551616 c.args.digits.now value c.loop-digit-test.true c.loop-digit.invariant most)

pub returns-in_err-number : goal.returns-in_err-number
returns-in_err-number c =
    let too = c.in_err-number.ensures in
    let tens = c.in_ok-checked_mul.ensures in
    let digit = digit-at c.args.digits.now c.loop-digit.digit-index c.loop-digit-test.true c.requires in
    let most : 18446744073709551616 ≤ c.loop-digit.number * 10 + (get_or c.args.digits.now c.loop-digit.digit-index 0 - 48) = omega (arith, too, tens) in
    let value = digits_value 10 c.args.digits.now in
    let all = subst (λ v. 18446744073709551616 ≤ c.loop-digit.number * 10 + v) (sym digit) most in
    subst (λ o. MatchOption o (18446744073709551616 ≤ value) (λ n. n ≡ value)) (sym c.from_residual-in_err-number.ensures)
    (past c.loop-digit.number c.loop-digit.digit-index 18446744073709551616 c.args.digits.now value c.loop-digit-test.true c.loop-digit.invariant all)
