use Rattle.std.proofs.Common.{◌≡◌, ℕ, ◌+◌, List, ◌++◌, length, take, drop, MatchOption, Option, Some, None, true, false, sym, ap, ◌∙◌, true≢false, take-append-drop}
use Rattle.std.specs.Borrow.{Bor}
use Rattle.std.specs.Str.{bytes_eq}
use Rattle.std.proofs.lemmas.Slice.Eq.{bytes_eq-Decides}
use Rattle.std.proofs.Math.Seq.{take-append_seam}
use Rattle.problem_index.proofs.printed_index.behind.Goals as goal

-- what is told of the beginning of a word, as an equation of the word
split : (word beginning : List ℕ) (found : Option (Bor (List ℕ)))
    → MatchOption found (bytes_eq (take (length beginning) word) beginning ≡ false) (λ x. (bytes_eq (take (length beginning) word) beginning ≡ true) × (x.now ≡ drop (length beginning) word) × (length x.now + length beginning ≡ length word))
    → MatchOption found ((rest : List ℕ) → word ≡ beginning ++ rest → ⊥) (λ rest. word ≡ beginning ++ rest.now)
split word beginning None other = λ rest e.
    true≢false (sym ((bytes_eq-Decides (take (length beginning) word) beginning).1 (ap (take (length beginning)) e ∙ take-append_seam beginning rest)) ∙ other)
split word beginning (Some x) (same, is, _) =
    sym (take-append-drop (length beginning) word) ∙ (ap (λ w. w ++ drop (length beginning) word) ((bytes_eq-Decides (take (length beginning) word) beginning).0 same) ∙ ap (λ w. beginning ++ w) (sym is))

pub returns : goal.returns
returns c = split c.args.word.now c.args.beginning.now c.strip_prefix.result c.strip_prefix.ensures.cases
