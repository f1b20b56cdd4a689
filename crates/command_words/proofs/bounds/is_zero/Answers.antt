use Rattle.std.proofs.Common.{◌≤◌, ◌^◌, arith}
use Rattle.std.specs.Str.Parse.{digits_value}
use Rattle.command_words.proofs.Numerals.{past_all}
use Rattle.command_words.proofs.bounds.is_zero.Goals as goal

pub returns-in_default-2 : goal.returns-in_default-2
returns-in_default-2 c =
    let past : 2 ^ 128 ≤ digits_value 10 c.args.word.now = past_all c.args.word.now c.in_default.ensures.value.0 c.requires.digits c.requires.some in
    (λ h. cc, λ e. absurd (omega (arith, past, e)))
