-- Items that are read one behind another, each from one place on up to the next.
use Rattle.std.proofs.Common.{◌≡◌, ℕ, suc, ◌≤◌, ◌<◌, Bool, true, false, if◌then◌else◌, codes, Ok, List, [], ◌∷◌, arith}
use Rattle.text_forms.specs.Placed.{Placed, cut, close, word, list}
use Rattle.text_forms.specs.Printing.{are_folded}
use Rattle.text_forms.specs.Words.{Word}
use Rattle.plan_texts.specs.Types.{EachIs}
use Rattle.gd_reader.specs.Answers.{◌>>=◌, word_due}
use Rattle.gd_reader.specs.Terms.{Names}
use Rattle.gd_reader.proofs.Keeping.{keeps_same}
use Rattle.hddl_reader.specs.Networks.{is_word, Headed, one_of, all_of, some_of}
use Rattle.text_values.proofs.form_spellings.KeptWords.{Reads, reads_then, reads_map, reads_weaken}
use Rattle.text_values.proofs.form_spellings.TermsIn.{same}
use Rattle.text_values.proofs.form_spellings.order.Climbs.{Climbs, climbs_from}
use Rattle.text_values.proofs.form_spellings.order.Spans.{Span}

-- what is read from one place on up to another
abbrev pub Placing : Type 0 → Type 1
Placing X = ℕ → ℕ → X → Names → Type 0

module _ {X : Type 0} (P : Placing X) where
  abbrev pub Chain : ℕ → ℕ → List X → Names → Type 0
  Chain from to [] table = from ≤ to
  Chain from to (x ∷ xs) table = (middle : ℕ) × P from middle x table × Chain middle to xs table

  -- what is read by the word at its front, behind the parenthesis at a place
  abbrev pub HeadedAt : Headed X → Type 0
  HeadedAt headed = (names : Names) (place at : ℕ) (w : Word) (p : Placed) (from to : ℕ) → are_folded w ≡ true → from ≤ place → place < at → Span (suc at) p to → Reads names (headed names place at w p) (P from to)

  pub chain_each : (E : X → Type 0) (table : Names) → ((from to : ℕ) (x : X) → P from to x table → E x) → (from to : ℕ) (xs : List X) → Chain from to xs table → EachIs E xs
  chain_each E table h from to [] c = tt
  chain_each E table h from to (x ∷ xs) c = (h from c.0 x c.1, chain_each E table h c.0 to xs c.2)

  pub chain_climbs : (at : X → ℕ) (table : Names) → ((from to : ℕ) (x : X) → P from to x table → (from ≤ at x) × (at x < to)) → (from to : ℕ) (xs : List X) → Chain from to xs table → Climbs at from xs to
  chain_climbs at table h from to [] c = c
  chain_climbs at table h from to (x ∷ xs) c = let b = h from c.0 x c.1 in let k = b.1 in (b.0, climbs_from at xs (suc (at x)) c.0 to (omega arith) (chain_climbs at table h c.0 to xs c.2))

  -- it holds from an earlier place on too
  abbrev pub IsWide : Type 0
  IsWide = (before from to : ℕ) (x : X) (table : Names) → before ≤ from → P from to x table → P before to x table

  module _ (wide : IsWide) (headed : Headed X) (each : HeadedAt headed) where
    pub one_of_at : (p : Placed) (names : Names) (place from to : ℕ) → from ≤ place → Span (suc place) p to → Reads names (one_of headed names place p) (P from to)
    unfolding word_due
    one_of_at cut names place from to l s = tt
    one_of_at (close at) names place from to l s = tt
    one_of_at (list at p q) names place from to l s = tt
    one_of_at (word at w p) names place from to l s = let a = s.0 in each names place at w p from to s.2 l (omega arith) s.1

    pub all_of_chain : (p : Placed) (names : Names) (from to : ℕ) → Span from p to → Reads names (all_of headed names p) (Chain from to)
    all_of_chain cut names from to s = tt
    all_of_chain (close at) names from to s = let a = s.0 in let b = s.1 in (keeps_same names, λ table k. omega arith)
    all_of_chain (word at w p) names from to s = tt
    all_of_chain (list at p q) names from to s =
        reads_then same (P from s.1) (Chain from to) names (one_of headed names at p) (λ x. all_of headed x.1 q >>= (λ xs. Ok (x.0 ∷ xs.0, xs.1))) (one_of_at p names at from s.1 s.0 s.2)
        (λ x. reads_map (Chain s.1 to) (λ xs table. P from s.1 x.0 table → Chain from to xs table) x.1 (all_of headed x.1 q) (λ xs. x.0 ∷ xs) (all_of_chain q x.1 s.1 to s.3) (λ xs table is one. (s.1, one, is)))

    pub some_of_chain : (p : Placed) (names : Names) (place from to : ℕ) → from ≤ place → Span (suc place) p to → Reads names (some_of headed names place p) (Chain from to)
    unfolding some_of
    some_of_chain cut names place from to l s = tt
    some_of_chain (close at) names place from to l s = let a = s.0 in let b = s.1 in (keeps_same names, λ table k. omega arith)
    some_of_chain (list at p q) names place from to l s = tt
    some_of_chain (word at w p) names place from to l s = go (is_word (codes "and") w)
      where
        behind : (xs : List X) (table : Names) → Chain (suc at) to xs table → Chain from to xs table
        behind [] table c = let a = s.0 in omega arith
        behind (x ∷ xs) table c = (c.0, wide from (suc at) c.0 x table (let a = s.0 in omega arith) c.1, c.2)

        go : (b : Bool) → Reads names (if b then all_of headed names p else headed names place at w p >>= (λ x. Ok (x.0 ∷ [], x.1))) (Chain from to)
        go true = reads_weaken (Chain (suc at) to) (Chain from to) names (all_of headed names p) (all_of_chain p names (suc at) to s.1) (λ xs table c. behind xs table c)
        go false = let a = s.0 in reads_map (P from to) (Chain from to) names (headed names place at w p) (λ x. x ∷ []) (each names place at w p from to s.2 l (omega arith) s.1) (λ x table is. (to, is, omega arith))
