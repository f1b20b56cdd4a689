use Rattle.std.proofs.Common.{ℕ, ◌≡◌, ◌<◌, ◌+◌, ◌-◌, ◌*◌, ◌/◌, ◌^◌, inl, inr, List, Bool, length, IsTrue, get_or, bit_and, w64, sym, subst, ap, ◌∙◌, arith}
use Rattle.std.specs.Int.{trailing_zeros}
use Rattle.std.proofs.lemmas.List.{get_or_read}
use Rattle.std.proofs.lemmas.Bool.{cases_lt, false≢true}
use Rattle.plan_model.specs.net_order.Marks.{has, IsLeastOutside}
use Rattle.plan_model.specs.net_order.Words.{is_set}
use Rattle.plan_model.proofs.net_order.Bits.{count_of, same_room, reads, past_words, rest, set_within, least_outside, positive}
use Rattle.plan_model.proofs.net_order.child_set.ChildSet.first_outside.Goals as goal

pub loop-k-init : goal.loop-k-init
loop-k-init c i l t =
    let mine = reads c.self.inside.count c.self.inside.words.items c.args.self.now c.self.view_is c.self.invariant in
    let theirs = reads c.other.inside.count c.other.inside.words.items c.args.other.now c.other.view_is c.other.invariant in
    sym (theirs i) ∙ c.requires.low i (omega arith) (mine i ∙ t)

found : (xs ys : List ℕ) (a b : List Bool) → ((i : ℕ) → has a i ≡ is_set xs i) → ((i : ℕ) → has b i ≡ is_set ys i) → (k : ℕ) → k < length xs → k < length ys
    → ((i : ℕ) → i / 64 < k → IsTrue (is_set xs i) → IsTrue (is_set ys i)) → (x y : ℕ) → x < 2 ^ 64 → y < 2 ^ 64 → x ≡ get_or xs k x → y ≡ get_or ys k y
    → (bit_and x (18446744073709551615 - y) ≡ 0 → ⊥) → IsLeastOutside a b (64 * k + trailing_zeros w64 (bit_and x (18446744073709551615 - y)))
found xs ys a b mine theirs k l m within x y f g c d some =
    let p = get_or_read xs k x l c 0 in
    let q = get_or_read ys k y m d 0 in
    let e : rest xs ys k ≡ bit_and x (18446744073709551615 - y) = sym (ap (λ z. bit_and z (18446744073709551615 - y)) p ∙ ap (λ z. bit_and (get_or xs k 0) (18446744073709551615 - z)) q) in
    subst (λ n. IsLeastOutside a b (64 * k + trailing_zeros w64 n)) e
    (least_outside xs ys a b mine theirs k within (subst (λ z. z < 2 ^ 64) p f) (subst (λ z. z < 2 ^ 64) q g) (positive (rest xs ys k) (λ z. some (sym e ∙ z))))

pub index-requires : goal.index-requires
index-requires c =
    let a = c.self.inside.words.ok.0 in
    let r = c.self.invariant.room in
    omega (arith, c.loop-k-test.true)

pub index-requires-in-loop-k : goal.index-requires-in-loop-k
index-requires-in-loop-k c =
    let a = c.other.inside.words.ok.0 in
    let b = c.self.inside.words.ok.0 in
    let d = c.self.invariant.room in
    let r = same_room c.self.inside.count c.self.inside.words.items c.args.self.now c.other.inside.count c.other.inside.words.items c.args.other.now c.self.view_is c.other.view_is c.self.invariant c.other.invariant c.requires.room in
    omega (arith, c.loop-k-test.true)

pub overflow_mul-result : goal.overflow_mul-result
overflow_mul-result c = omega (arith, c.loop-k-test.true)

pub overflow_add-result : goal.overflow_add-result
overflow_add-result c =
    let mine = reads c.self.inside.count c.self.inside.words.items c.args.self.now c.self.view_is c.self.invariant in
    let theirs = reads c.other.inside.count c.other.inside.words.items c.args.other.now c.other.view_is c.other.invariant in
    let r = same_room c.self.inside.count c.self.inside.words.items c.args.self.now c.other.inside.count c.other.inside.words.items c.args.other.now c.self.view_is c.other.view_is c.self.invariant c.other.invariant c.requires.room in
    let d = c.self.invariant.room in
    let n = count_of c.self.inside.count c.self.inside.words.items c.args.self.now c.self.view_is in
    let l : c.loop-k.k < length c.self.inside.words.items = omega (arith, c.loop-k-test.true) in
    let is = (found c.self.inside.words.items c.other.inside.words.items c.args.self.now c.args.other.now mine theirs c.loop-k.k l (omega (arith, r)) c.loop-k.invariant c.index.result.now c.index-in-loop-k.result.now (omega arith) (omega arith) c.index.ensures c.index-in-loop-k.ensures c.if-rest-ne0.true).child in
    omega arith

pub returns-then-rest-ne0 : goal.returns-then-rest-ne0
returns-then-rest-ne0 c =
    let mine = reads c.self.inside.count c.self.inside.words.items c.args.self.now c.self.view_is c.self.invariant in
    let theirs = reads c.other.inside.count c.other.inside.words.items c.args.other.now c.other.view_is c.other.invariant in
    let r = same_room c.self.inside.count c.self.inside.words.items c.args.self.now c.other.inside.count c.other.inside.words.items c.args.other.now c.self.view_is c.other.view_is c.self.invariant c.other.invariant c.requires.room in
    let d = c.self.invariant.room in
    let l : c.loop-k.k < length c.self.inside.words.items = omega (arith, c.loop-k-test.true) in
    record { least = found c.self.inside.words.items c.other.inside.words.items c.args.self.now c.args.other.now mine theirs c.loop-k.k l (omega (arith, r)) c.loop-k.invariant c.index.result.now c.index-in-loop-k.result.now (omega arith) (omega arith) c.index.ensures c.index-in-loop-k.ensures c.if-rest-ne0.true }

pub loop-k-preserved : goal.loop-k-preserved
loop-k-preserved c i l t =
    let xs = c.self.inside.words.items in
    let ys = c.other.inside.words.items in
    let k = c.loop-k.k in
    let theirs : c.index-in-loop-k.result.now < 2 ^ 64 = omega arith in
    let d = c.self.invariant.room in
    let r = same_room c.self.inside.count c.self.inside.words.items c.args.self.now c.other.inside.count c.other.inside.words.items c.args.other.now c.self.view_is c.other.view_is c.self.invariant c.other.invariant c.requires.room in
    let m : c.loop-k.k < length c.self.inside.words.items = omega (arith, c.loop-k-test.true) in
    let x = get_or_read xs k c.index.result.now m c.index.ensures 0 in
    let y = get_or_read ys k c.index-in-loop-k.result.now (omega (arith, r)) c.index-in-loop-k.ensures 0 in
    let none : rest xs ys k ≡ 0 = ap (λ z. bit_and z (18446744073709551615 - get_or ys k 0)) (sym x) ∙ (ap (λ z. bit_and c.index.result.now (18446744073709551615 - z)) (sym y) ∙ c.if-rest-ne0.false) in
    elim (cases_lt (i / 64) c.loop-k.k) [
      | inl n ↦ c.loop-k.invariant i n t
      | inr n ↦ (
          let e : c.loop-k.k ≡ i / 64 = omega arith in
          set_within xs ys i (subst (λ q. get_or ys q 0 < 2 ^ 64) e (subst (λ z. z < 2 ^ 64) y theirs)) (subst (λ q. rest xs ys q ≡ 0) e none) t
          )
    ]

pub returns : goal.returns
returns c =
    let mine = reads c.self.inside.count c.self.inside.words.items c.args.self.now c.self.view_is c.self.invariant in
    let theirs = reads c.other.inside.count c.other.inside.words.items c.args.other.now c.other.view_is c.other.invariant in
    let d = c.self.invariant.room in
    record {
      least = λ i t. elim (cases_lt (i / 64) c.loop-k.k) [
        | inl l ↦ theirs i ∙ c.loop-k.invariant i l (sym (mine i) ∙ t)
        | inr l ↦ absurd (false≢true (sym (past_words c.self.inside.words.items i (let e = c.loop-k-test.false in omega arith)) ∙ (sym (mine i) ∙ t)))
      ];
    }
