-- The printed words of the source's names, put into a table one after another, have the numbers of the names.
use Rattle.std.proofs.Common.{ℕ, zero, suc, ◌≡◌, ◌+◌, ◌<◌, ◌≤◌, ◌||◌, unwrap_or, Bool, true, false, not, cond, nat_lt, List, [], ◌∷◌, ◌++◌, map, take, length, codes, Some, None, Contains, ap, sym, subst, refl, ◌∙◌, arith}
use Rattle.std.specs.List.{list_any, position_or_len}
use Rattle.std.specs.Str.{bytes_eq}
use Rattle.std.proofs.lemmas.Bool.{lt-ltb, ltb-true, ltb-false}
use Rattle.std.proofs.lemmas.List.{get_or_default, get_or_past, length-map, map_more, take_all}
use Rattle.htn_base.specs.Different.{AreDifferent}
use Rattle.htn_base.specs.Table.{number_of, with_word, IsTable}
use Rattle.htn_base.specs.Escapes.{escaped}
use Rattle.htn_base.specs.declared.name.Name.{Name}
use Rattle.htn_base.proofs.EscapeLemmas.{names_apart}
use Rattle.text_forms.specs.Words.{Word, word_at}
use Rattle.plan_texts.specs.Types.{Has}
use Rattle.plan_texts.proofs.Basics.{bytes_eq-refl, bytes_eq-other}
use Rattle.plan_texts.proofs.Members.{has-at, has-to_map}
use Rattle.slot_encoding.specs.SourceParts.{name, renamed, source_word}
use Rattle.slot_encoding.specs.slot_declarations.Frames.{HasSourceWords}
use Rattle.slot_encoding.specs.slot_declarations.Vocabulary.{Gains}

apart : (ws : List Word) (x : Word) (k : ℕ) → (Contains ws x → ⊥) → k < length ws → bytes_eq (escaped (word_at ws k)) (escaped x) ≡ false
apart ws x k new l = bytes_eq-other (escaped (word_at ws k)) (escaped x) (λ e. new (k, l, get_or_default ws k x [] l ∙ names_apart.one_to_one (word_at ws k) x e))

-- a word's escape is not among those of the words before it, and so it stands at the word's place
absent : (ws : List Word) (i : ℕ) → AreDifferent ws → i < length ws → list_any (bytes_eq (escaped (word_at ws i))) (map escaped (take i ws)) ≡ false
absent [] i d l = absurd (omega arith)
absent (w ∷ ws) zero d l = refl
absent (w ∷ ws) (suc i) d l = let here = apart ws w i d.0 (omega arith) in let rest = absent ws i d.1 (omega arith) in λ j. here j || rest j

place : (ws : List Word) (k : ℕ) → AreDifferent ws → k < length ws → position_or_len (bytes_eq (escaped (word_at ws k))) (map escaped ws) ≡ k
place [] k d l = absurd (omega arith)
place (w ∷ ws) zero d l = ap (λ t. cond (not t) (1 + position_or_len (bytes_eq (escaped w)) (map escaped ws)) 0) (bytes_eq-refl (escaped w))
place (w ∷ ws) (suc k) d l =
    let e : 1 + k ≡ suc k = omega arith in
    ap (λ t. cond (not t) (1 + position_or_len (bytes_eq (escaped (word_at ws k))) (map escaped ws)) 0) (apart ws w k d.0 (omega arith)) ∙ ap (λ j. 1 + j) (place ws k d.1 (omega arith)) ∙ e

number : (ws : List Word) (k : ℕ) → AreDifferent ws → k < length ws → number_of (map escaped ws) (escaped (word_at ws k)) ≡ Some k
number ws k d l =
    let n = length-map ws escaped in
    ap (λ j. cond (nat_lt j (length (map escaped ws))) (Some j) None) (place ws k d l) ∙ ap (λ t. cond t (Some k) None) (lt-ltb k (length (map escaped ws)) (omega (arith, l, n)))

module _ (source : List Word) (table : IsTable source) where
  -- the first i words are there, and then the next one too
  pub source-next : (i : ℕ) (now next : List Word) → i < length source → now ≡ map escaped (take i source) → next ≡ with_word now (source_word source (record { number = i }))
      → next ≡ map escaped (take (i + 1) source)
  source-next i now next l e f =
      let old = map escaped (take i source) in
      let w = escaped (word_at source i) in
      f ∙ ap (λ ws. with_word ws w) e ∙ ap (λ t. cond t old (old ++ w ∷ [])) (absent source i table.differ l) ∙ sym (map_more escaped source i [] l)

  -- all are there, and then the word of any other name
  pub source-all : (i : ℕ) (now new : List Word) → i ≡ length source → now ≡ map escaped (take i source) → Gains (codes "htn_u_" ∷ []) now new → HasSourceWords source new
  source-all i now new l e g = record {
    numbers = λ n k. g.numbers (source_word source n) n.number (subst (λ ws. number_of ws (source_word source n) ≡ Some n.number) (sym all) (number source n.number table.differ k));
    words = λ n. word n (nat_lt n.number (length source)) refl;
    short = g.short (let s = table.short in let n = ap length all in let m = length-map source escaped in omega (arith, s, n, m));
  }
    where
      all : now ≡ map escaped source
      all = e ∙ ap (map escaped) (take_all i source (omega (arith, l)))

      word : (n : Name) (t : Bool) → nat_lt n.number (length source) ≡ t → Has new (source_word source n)
      word n true h = g.kept (source_word source n) (subst (λ ws. Has ws (source_word source n)) (sym all) (has-to_map escaped source (word_at source n.number) (has-at source n.number (ltb-true n.number (length source) h))))
      word n false h = subst (λ w. Has new (escaped w)) (sym (get_or_past source n.number [] (ltb-false n.number (length source) h))) g.gained.0

pub source-kept : {words old new : List Word} (source : List Word) → Gains words old new → HasSourceWords source old → HasSourceWords source new
source-kept source g h = record {
  numbers = λ n l. g.numbers (source_word source n) n.number (h.numbers n l);
  words = λ n. g.kept (source_word source n) (h.words n);
  short = g.short h.short;
}

-- so a name of the source keeps its number, and any other is that of the empty word
pub renamed-source : (source names : List Word) → HasSourceWords source names → (n : Name) → n.number < length source → n ≡ renamed names source n
renamed-source source names h n l = λ i. record { number = unwrap_or (sym (h.numbers n l) i) (length names) }

pub renamed-other : (source names : List Word) (n : Name) → length source ≤ n.number → name names (codes "htn_u_") ≡ renamed names source n
renamed-other source names n l = ap (λ w. name names (escaped w)) (sym (get_or_past source n.number [] l))
