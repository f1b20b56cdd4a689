use Rattle.std.proofs.Common.{◌≡◌, ◌+◌, false, ◌++◌, ◌∷◌, [], get_or, take, ap, ◌∙◌, arith, length-append}
use Rattle.std.proofs.lemmas.List.{take_more}
use Rattle.gd_reader.specs.declared.term.RawTerm.{RawTerm}
use Rattle.gd_reader.proofs.Coding.{atom_push}
use Rattle.gd_reader.proofs.raw_facts.encode.Goals as goal

abbrev none : RawTerm
none = record { name = record { number = 0 }; variable = false; at = 0 }

pub loop-term-preserved : goal.loop-term-preserved
loop-term-preserved c =
    let old = c.loop-term.into.items in
    let k = c.loop-term.term-index in
    let terms = c.args.args.now in
    let term : RawTerm = get_or terms k none in
    let away = c.away.result in
    let code = c.in_ok-code_of-2.field-0 in
    let two = c.in_ok-push-3.ensures.items ∙ ap (λ xs. xs ++ code ∷ []) c.in_ok-push-2.ensures.items in
    let long = length-append old (away ∷ []) in
    let longer = length-append (old ++ away ∷ []) (code ∷ []) in
    let odd = c.loop-term.invariant.odd in
    let more : take (k + 1) terms ≡ take k terms ++ term ∷ [] = take_more terms k none c.loop-term-test.true in
    rw (two, more) (record {
      odd = omega (arith, long, longer, odd);
      atom = atom_push c.args.head.at old k away code c.args.head term (take k terms) odd c.loop-term.invariant.atom
          c.away.ensures c.in_ok-code_of-2.ensures;
    })
