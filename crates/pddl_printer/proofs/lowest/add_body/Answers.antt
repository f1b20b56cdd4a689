use Rattle.std.proofs.Common.{suc, ◌≡◌, ◌+◌, ◌-◌, List, map, codes, ap, sym, ◌∙◌, arith}
use Rattle.text_forms.specs.Lists.{nothing, part}
use Rattle.text_forms.specs.Words.{Word}
use Rattle.plan_model.specs.task_networks.Spelling.{numbers}
use Rattle.plan_model.specs.declared.terms.Term.TheVariants.{Var}
use Rattle.plan_model.specs.declared.formulas.Formula.{Formula}
use Rattle.plan_model.specs.declared.formulas.Formula.TheVariants.{Or}
use Rattle.plan_texts.specs.SpellsPddl.{pddl_words}
use Rattle.plan_texts.specs.Printed.{all_parts, formula_part}
use Rattle.plan_texts.proofs.Equations.{part-Not, part-Or, part-Imply, part-Equal}
use Rattle.pddl_printer.specs.Behind.{behind, of_each}
use Rattle.pddl_printer.specs.LowestFree.{below, taken, lowest_body}
use Rattle.pddl_printer.specs.Scopes.{words_in_force}
use Rattle.pddl_printer.specs.Texts.{formula_text}
use Rattle.pddl_printer.proofs.Batches.{added-as, added-of, added-one, added-two, added-headed, range-added}
use Rattle.pddl_printer.proofs.Each.{behind-each-made}
use Rattle.pddl_printer.proofs.lowest.add_body.Goals as goal

pub loop-j-preserved : goal.loop-j-preserved
loop-j-preserved c =
    let p = c.args.p.now in
    let scope = c.args.scope.now in
    let l = c.args.lowest in
    let j = c.loop-j.j in
    let equal = added-of behind (sym (part-Equal (pddl_words p) (Var l.x) (Var (1 + j)) (words_in_force p scope))) c.add_applied.ensures in
    range-added (λ i. formula_text p scope (taken l i)) 1 j c.loop-j.invariant equal

pub returns-then-k-eq1 : goal.returns-then-k-eq1
returns-then-k-eq1 c =
    let p = c.args.p.now in
    let scope = c.args.scope.now in
    let l = c.args.lowest in
    let v = pddl_words p in
    let s : List Word = words_in_force p scope in
    let one : c.args.k ≡ 1 = omega (arith, c.if-k-eq1.true) in
    let q = formula_part v (below l 1) s in
    added-of (λ k. formula_text p scope (lowest_body l k)) (sym one)
    (added-of behind (sym (part-Not v (below l 1) s)) (added-headed (codes "not") (part q nothing) c.add.ensures (added-one q (added-of (λ k. formula_text p scope (below l k)) one c.add_below.ensures)) c.add-then-k-eq1.ensures))

pub returns-after-loop-j : goal.returns-after-loop-j
returns-after-loop-j c =
    let p = c.args.p.now in
    let scope = c.args.scope.now in
    let l = c.args.lowest in
    let v = pddl_words p in
    let s : List Word = words_in_force p scope in
    let m = c.args.k - 2 in
    let two : suc (suc m) ≡ c.args.k = omega (arith, c.if-k-eq1.false, c.requires.some) in
    let all : c.loop-j.j ≡ suc m = let t = c.loop-j-test.false in let h = c.loop-j.auto.j-end in omega (arith, t, h, two) in
    let fs : List Formula = map (taken l) (numbers 1 (suc m)) in
    let q = formula_part v (below l (suc (suc m))) s in
    let r = formula_part v (Or fs) s in
    let taken_text = ap (λ n. of_each (λ j. formula_text p scope (taken l j)) (numbers 1 n)) all ∙ behind-each-made (λ f. formula_part v f s) (taken l) (numbers 1 (suc m)) in
    added-of (λ k. formula_text p scope (lowest_body l k)) two
    (added-of behind (sym (part-Imply v (below l (suc (suc m))) (Or fs) s))
    (added-headed (codes "imply") (part q (part r nothing)) c.add-else-k-eq1.ensures
    (added-two q r (added-of (λ k. formula_text p scope (below l k)) (sym two) c.add_below-else-k-eq1.ensures)
    (added-of behind (sym (part-Or v fs s)) (added-headed (codes "or") (all_parts (map (λ f. formula_part v f s) fs)) c.add-else-k-eq1-2.ensures (added-as taken_text c.loop-j.invariant) c.add-else-k-eq1-3.ensures)))
    c.add-else-k-eq1-4.ensures))
