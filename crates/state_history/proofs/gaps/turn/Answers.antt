use Rattle.std.proofs.Common.{ℕ, List, get_or, ◌≡◌, ◌-◌, ◌++◌, ◌∷◌, [], ◌<◌, length, ap, sym, subst, ◌∙◌, arith}
use Rattle.std.specs.Option.{option_to_list}
use Rattle.state_history.proofs.GapLaws.{is_odd, same-truth, not-same-truth, turned-not, turned-push, turned-pop}
use Rattle.state_history.proofs.gaps.turn.Goals as goal

pub returns-then-len-truth-clause-turned : goal.returns-then-len-truth-clause-turned
returns-then-len-truth-clause-turned c =
    let len = c.len.ensures ∙ c.args.flips.now.ok.0 in
    turned-not c.args.gap c.args.truth c.args.flips.now.items c.requires (ap is_odd (sym len) ∙ same-truth (is_odd c.len.result) c.args.truth c.if-len-truth.true)

pub returns-then-last-gap-clause-turned : goal.returns-then-last-gap-clause-turned
returns-then-last-gap-clause-turned c =
    let xs = c.args.flips.now.items in
    let ys = c.pop.new.self.items in
    let len : c.len.result ≡ length c.args.flips.now.items = c.len.ensures ∙ c.args.flips.now.ok.0 in
    let slice = c.as_slice.ensures.value in
    let some = c.in-Some.ensures.item.3 in
    let x : ℕ = get_or c.args.flips.now.items (c.args.flips.now.len - 1) 0 in
    let has : 0 < c.args.flips.now.len = (let m = some.0 in let e = ap length slice in let k = c.args.flips.now.ok.0 in omega (arith, m, e, k)) in
    let popped : c.args.flips.now.items ≡ c.pop.new.self.items ++ x ∷ [] = c.pop.ensures.items ∙ ap (λ o. c.pop.new.self.items ++ option_to_list o) (c.pop.ensures.value 0 has) in
    let is : x ≡ c.args.gap = ap (λ n. get_or c.args.flips.now.items (n - 1) 0) c.args.flips.now.ok.0 ∙ sym (subst (λ (s : List ℕ). c.in-Some.last.now ≡ get_or s (length s - 1) 0) slice (some.1 0)) ∙ c.if-last-gap.true in
    turned-pop c.args.gap x c.args.truth xs ys popped is c.requires (λ e. not-same-truth (is_odd c.len.result) c.args.truth c.if-len-truth.false (ap is_odd len ∙ e))

pub returns-clause-turned : goal.returns-clause-turned
returns-clause-turned c =
    let len : c.len.result ≡ length c.args.flips.now.items = c.len.ensures ∙ c.args.flips.now.ok.0 in
    turned-push c.args.gap c.args.truth c.args.flips.now.items c.push.new.self.items c.in_ok-push.ensures.items c.requires (λ e. not-same-truth (is_odd c.len.result) c.args.truth c.if-len-truth.false (ap is_odd len ∙ e))
