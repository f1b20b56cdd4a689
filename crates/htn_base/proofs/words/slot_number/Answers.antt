use Rattle.std.proofs.Common.{rules, ℕ, List, ◌≡◌, ◌<◌, ◌^◌, Result, Ok, Err, Option, Some, None, drop, decimal, sym, subst, ap, ◌∙◌, arith}
use Rattle.std.specs.Str.Parse.{ParsesUnsigned}
use Rattle.std.specs.Str.{IsUtf8}
use Rattle.std.specs.Result.{result_ok, MatchResult}
use Rattle.std.proofs.lemmas.Fmt.{parse-decimal, IsAscii-decimal}
use Rattle.std.proofs.lemmas.Str.{IsUtf8-from_ascii}
use Rattle.htn_base.specs.Escapes.{IsWordOfSlot}
use Rattle.htn_base.proofs.words.slot_number.Goals as goal

-- what an answer says, where its error is left out
said : {T E : Type 0} (P : T → Type 0) (Q : E → Type 0) (answer : Result T E) (x : T) → MatchResult answer P Q → result_ok answer ≡ Some x → P x
said P Q (Ok y) x p e = let same : y ≡ x = cc e in subst P same p
said P Q (Err error) x q e = absurd (cc e)

refused : {T E : Type 0} (P : T → Type 0) (Q : E → Type 0) (answer : Result T E) → MatchResult answer P Q → result_ok answer ≡ None → (error : E) × Q error
refused P Q (Ok y) p e = absurd (cc e)
refused P Q (Err error) q e = (error, q)

-- what stands behind the beginning of a slot's word are the digits of its number
digits_of : (k : ℕ) (word digits : List ℕ) → digits ≡ drop 5 word → IsWordOfSlot k word → digits ≡ decimal k
digits_of k word digits behind slot = behind ∙ ap (drop 5) slot.2

-- what digits are read as, where they are those of a number of 32 bits
number_of : {E : Type 0} (text digits : List ℕ) (answer : Result ℕ E) (found : Option ℕ) → text ≡ digits → ParsesUnsigned 32 10 text answer → found ≡ result_ok answer
    → (k : ℕ) → k < 2 ^ 32 → digits ≡ decimal k → found ≡ Some k
number_of text digits answer found is parses same k small decimal_is = same ∙ ap result_ok (parse-decimal 32 k text answer small (omega arith) (is ∙ decimal_is) parses)

pub returns-in_err-ok : goal.returns-in_err-ok
returns-in_err-ok c = rw c.from_residual-in_err-ok.ensures (record {
  number = λ k. (
    λ e. absurd (cc e),
    λ slot.
        let same = digits_of k c.args.word.now _ c.in_ok-digits.ensures.cases.1 slot in
        let no_text = (refused _ _ _ c.from_utf8.ensures.cases (sym c.ok.ensures.value ∙ c.in_err-ok.was)).1.0 in
        absurd (no_text (subst IsUtf8 (sym same) (IsUtf8-from_ascii _ (IsAscii-decimal k (let small = slot.1 in omega arith))))),
  );
})

pub returns-in_err-k : goal.returns-in_err-k
returns-in_err-k c = rw c.from_residual-in_err-k.ensures (record {
  number = λ k. (
    λ e. absurd (cc e),
    λ slot.
        let text = (said _ _ _ _ c.from_utf8.ensures.cases (sym c.ok.ensures.value ∙ c.in_ok-ok.was)).0 in
        let same = digits_of k c.args.word.now _ c.in_ok-digits.ensures.cases.1 slot in
        absurd (cc (number_of _ _ _ None text c.parse.ensures.value.0 (sym c.in_err-k.was ∙ c.ok-2.ensures.value) k slot.1 same)),
  );
})

pub returns-then-eq : goal.returns-then-eq
returns-then-eq c =
    let text = (said _ _ _ _ c.from_utf8.ensures.cases (sym c.ok.ensures.value ∙ c.in_ok-ok.was)).0 in
    let number = number_of _ _ _ (Some c.in_ok-k.k) text c.parse.ensures.value.0 (sym c.in_ok-k.was ∙ c.ok-2.ensures.value) in
    search rules

pub returns-else-k-gt0 : goal.returns-else-k-gt0
returns-else-k-gt0 c =
    let text = (said _ _ _ _ c.from_utf8.ensures.cases (sym c.ok.ensures.value ∙ c.in_ok-ok.was)).0 in
    let number = number_of _ _ _ (Some c.in_ok-k.k) text c.parse.ensures.value.0 (sym c.in_ok-k.was ∙ c.ok-2.ensures.value) in
    search rules
