use Rattle.std.proofs.Common.{arith, ◌≡◌, ◌∷◌, ◌++◌, length}
use Rattle.std.proofs.lemmas.Grind.{common_steps}
use Rattle.command_words.specs.Names.{words_of}
use Rattle.command_words.specs.Forms.{row_of}
use Rattle.command_words.proofs.Requests.{no_parts}
use Rattle.command_words.proofs.forms.parts_of.Goals as goal

pub returns-then-not-are_options-clause-other : goal.returns-then-not-are_options-clause-other
returns-then-not-are_options-clause-other c =
    let form = row_of c.args.form.now in
    let front = words_of c.split_at.result.0.now in
    let back = words_of c.split_at.result.1.now in
    let spelled : words_of c.args.words.now ≡ form.command ∷ front ++ back = grind (arith, common_steps) in
    let counted : length front ≡ form.names = grind (arith, common_steps) in
    no_parts form (words_of c.args.words.now) front back spelled counted (λ a. let e = c.if-not-are_options.ensures.1 a in cc)
