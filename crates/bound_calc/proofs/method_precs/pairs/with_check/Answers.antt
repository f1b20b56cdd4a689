use Rattle.std.proofs.Common.{suc, ◌≡◌, ◌+◌, ◌++◌, ◌∷◌, [], map, take, get_or, sym, ap, ◌∙◌, append_assoc, arith}
use Rattle.std.proofs.lemmas.List.{append-nil}
use Rattle.plan_model.specs.task_networks.Spelling.{numbers}
use Rattle.plan_model.specs.declared.networks.Pair.{Pair}
use Rattle.plan_model.specs.Pairs.{pair}
use Rattle.bound_calc.specs.method_precs.Pairs.{shifted}
use Rattle.bound_calc.proofs.method_precs.Growing.{map-numbers-push, map-take-more}
use Rattle.bound_calc.proofs.method_precs.pairs.with_check.Goals as goal

abbrev none : Pair
none = record { first = 0; then = 0 }

suc_is : (p : Pair) → pair (p.first + 1) (p.then + 1) ≡ shifted p
suc_is p =
    let a : p.first + 1 ≡ suc p.first = omega arith in
    let b : p.then + 1 ≡ suc p.then = omega arith in
    λ i. pair (a i) (b i)

pub loop-k-preserved : goal.loop-k-preserved
loop-k-preserved c =
    let e : c.loop-k.k + 1 ≡ suc c.loop-k.k = omega arith in
    c.in_ok-push.ensures.pushed
    ∙ (ap (λ m. c.loop-k.all ++ pair 0 m ∷ []) e
    ∙ (ap (λ ps. ps ++ pair 0 (suc c.loop-k.k) ∷ []) c.loop-k.invariant ∙ sym (map-numbers-push (λ k. pair 0 (suc k)) c.loop-k.k)))

pub loop-pair-init : goal.loop-pair-init
loop-pair-init c =
    let end : c.loop-k.k ≡ c.args.count = let a = c.loop-k.auto.k-end in let b = c.loop-k-test.false in omega arith in
    let front = map (λ n. pair 0 (suc n)) (numbers 0 c.args.count) in
    c.loop-k.invariant ∙ (ap (λ n. map (λ k. pair 0 (suc k)) (numbers 0 n)) end ∙ sym (append-nil front))

pub loop-pair-preserved : goal.loop-pair-preserved
loop-pair-preserved c =
    let k = c.loop-pair.pair-index in
    let ps = c.args.pairs.now in
    let front = map (λ n. pair 0 (suc n)) (numbers 0 c.args.count) in
    c.in_ok-push-2.ensures.pushed
    ∙ (ap (λ p. c.loop-pair.all ++ p ∷ []) (suc_is (get_or ps k none))
    ∙ (ap (λ zs. zs ++ shifted (get_or ps k none) ∷ []) c.loop-pair.invariant
    ∙ (append_assoc front (map shifted (take k ps)) (shifted (get_or ps k none) ∷ [])
    ∙ ap (λ zs. front ++ zs) (sym (map-take-more shifted ps k none c.loop-pair-test.true)))))
