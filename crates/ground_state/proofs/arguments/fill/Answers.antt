use Rattle.std.proofs.Common.{List, [], ◌∷◌, ℕ, ◌+◌, ◌<◌, ◌≤◌, ◌≡◌, length, get_or, take, ◌∙◌, ap, sym, subst, arith}
use Rattle.std.proofs.lemmas.List.{length-map, length-append, get_or-map, take_all}
use Rattle.std.specs.Borrow.{Bor}
use Rattle.plan_model.specs.declared.terms.Param.{Param}
use Rattle.ground_state.specs.Frames.{Frame}
use Rattle.problem_index.specs.Index.{IsArgument}
use Rattle.ground_state.specs.Runs.{texts, AreArguments}
use Rattle.ground_state.proofs.ArgumentLaws.{arguments_length, arguments_next, argument_at}
use Rattle.ground_state.proofs.arguments.fill.Goals as goal

abbrev none : Param
none = record { name = record { number = 0 }; ty = 0 }

abbrev text : Bor (List ℕ) → List ℕ
text w = w.now

abbrev empty : Bor (List ℕ)
empty = record { ref_ptr = (0, 0); now = [] }

-- the word at the place
at_place : (words : List (Bor (List ℕ))) (i : ℕ) → i < length words → (get_or words i empty).now ≡ get_or (texts words) i (get_or words i empty).now
at_place words i l = sym (get_or-map text words i empty (get_or words i empty).now l)

pub returns-then-params-words-clause-filled : goal.returns-then-params-words-clause-filled
returns-then-params-words-clause-filled c p are os a =
    let l = arguments_length p c.args.params.now (texts c.args.words.now) os a in
    c.if-params-words.true (l ∙ length-map c.args.words.now text)

pub push-requires : goal.push-requires
push-requires c =
    let n = c.loop-i.invariant.1 in
    let r = c.requires.room in
    let same = c.loop-i.invariant.0.0 in
    let l = c.loop-i-test.true in
    omega arith

pub returns-in-None-clause-filled : goal.returns-in-None-clause-filled
returns-in-None-clause-filled c p are os a =
    let i = c.loop-i.i in
    let w = get_or c.args.words.now c.loop-i.i empty in
    let l : c.loop-i.i < length c.args.words.now = (let k = c.loop-i-test.true in let same = c.if-params-words.false in omega arith) in
    let t = argument_at p c.args.params.now (texts c.args.words.now) os i none w.now c.loop-i-test.true a in
    c.in-None.ensures p are t.0 (subst (λ v. IsArgument p v (get_or c.args.params.now c.loop-i.i none).ty t.0) (sym (at_place c.args.words.now i l)) t.1)

pub loop-i-preserved : goal.loop-i-preserved
loop-i-preserved c =
    let i = c.loop-i.i in
    let o = c.in-Some.object in
    let w = get_or c.args.words.now c.loop-i.i empty in
    let words = texts c.args.words.now in
    let l : c.loop-i.i < length c.args.words.now = (let k = c.loop-i-test.true in let same = c.if-params-words.false in omega arith) in
    let m : c.loop-i.i < length (texts c.args.words.now) = (let same = length-map c.args.words.now text in omega arith) in
    let objects = ap (λ (f : Frame). f.objects) c.push.ensures in (
      (ap (λ (f : Frame). f.room) c.push.ensures ∙ c.loop-i.invariant.0.0, ap (λ (f : Frame). f.arity) c.push.ensures ∙ c.loop-i.invariant.0.1),
      (let n = ap (λ (xs : List ℕ). length xs) objects in let k = length-append c.loop-i.env.values.items (o ∷ []) in let same = c.loop-i.invariant.1 in omega (arith, n, k, same)),
      λ p are.
          let t = subst (λ v. IsArgument p v (get_or c.args.params.now c.loop-i.i none).ty c.in-Some.object) (at_place c.args.words.now i l) (c.in-Some.ensures p are) in
          subst (AreArguments p (take (i + 1) c.args.params.now) (take (i + 1) words)) (sym objects)
          (arguments_next p c.args.params.now words c.loop-i.env.values.items i none w.now o c.loop-i-test.true m (c.loop-i.invariant.2 p are) t),
    )

pub returns-clause-filled : goal.returns-clause-filled
returns-clause-filled c p are =
    let i = c.loop-i.i in
    let params = c.args.params.now in
    let words = texts c.args.words.now in
    let few : length (texts c.args.words.now) ≤ c.loop-i.i = (let l = c.loop-i-test.false in let same = c.if-params-words.false in let n = length-map c.args.words.now text in omega (arith, l, same, n)) in
    subst (λ ws. AreArguments p params ws c.loop-i.env.values.items) (take_all i words few)
    (subst (λ (ps : List Param). AreArguments p ps (take i words) c.loop-i.env.values.items) (take_all i params c.loop-i-test.false) (c.loop-i.invariant.2 p are))
