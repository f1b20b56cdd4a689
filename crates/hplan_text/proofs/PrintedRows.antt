-- What each printed line says.
use Rattle.std.proofs.Common.{ℕ, suc, ◌≡◌, ◌∙◌, ◌+◌, ◌^◌, ◌≤◌, ◌==◌, ◌&&◌, nat_lt, Bool, true, false, not, List, [], ◌∷◌, ◌++◌, map, length, codes, refl, sym, ap, ap₂, arith}
use Rattle.std.specs.Char.{is_ascii_digit, to_ascii_lowercase}
use Rattle.std.specs.Fmt.{decimal}
use Rattle.std.specs.List.{list_all}
use Rattle.std.specs.Str.{bytes_eq}
use Rattle.std.specs.Str.Parse.{digits_value, AllDigits}
use Rattle.std.proofs.lemmas.Bool.{ne_eqb, lt-ltb, le-leb}
use Rattle.std.proofs.lemmas.Bool.Decides.{nat_tests}
use Rattle.std.proofs.lemmas.Fmt.{decimal_is_IsNumeral, length-decimal-le}
use Rattle.std.proofs.lemmas.List.{append-nil}
use Rattle.std.proofs.lemmas.Str.Ascii.{lowercase_is}
use Rattle.std.proofs.lemmas.Str.Parse.{tells_digits}
use Rattle.htn_base.specs.Words.{folded}
use Rattle.plan_texts.specs.Types.{EachIs}
use Rattle.hplan_text.specs.declared.mention.Mention.{Mention}
use Rattle.hplan_text.specs.declared.values.HLine.{HLine}
use Rattle.hplan_text.specs.declared.values.HNode.{HNode}
use Rattle.hplan_text.specs.Lines.{Said, Line}
use Rattle.hplan_text.specs.Rows.{top, primitive, decomposed, is_id, mention, are_ids, is_word_byte, is_arrow, Named, with_name, named, top_row, node_row, task_row, row_by, is_root, row, number}
use Rattle.hplan_text.specs.HPlanText.{line_words, root_words, node_words}
use Rattle.hplan_text.specs.Printable.{IsPrintableWord, IsSmall, IsPrintableLine, IsPrintableNode}
use Rattle.hplan_text.proofs.PrintedWords.{IsPlain, placed, each-append}

both : {a b : Bool} → a ≡ true → b ≡ true → (a && b) ≡ true
both e f = ap₂ (λ a b. a && b) e f

pub first-of : (a b : Bool) → (a && b) ≡ true → a ≡ true
first-of true b e = refl
first-of false b e = e

pub second-of : (a b : Bool) → (a && b) ≡ true → b ≡ true
second-of true b e = e
second-of false b e = absurd cc

-- words of digits

digit-is : (c : ℕ) (cs : List ℕ) → AllDigits 10 (c ∷ cs) → is_ascii_digit c ≡ true
digit-is c cs d = let r = (tells_digits.parts c cs d).0 in both (le-leb 48 c r.0) (le-leb c 57 r.1)

digits-are : (w : List ℕ) → AllDigits 10 w → list_all is_ascii_digit w ≡ true
digits-are [] d = refl
digits-are (c ∷ cs) d = both (digit-is c cs d) (digits-are cs d.1)

word-digit : (c : ℕ) → is_ascii_digit c ≡ true → is_word_byte c ≡ true
word-digit c e = grind (arith, nat_tests)

word-digits : (w : List ℕ) → AllDigits 10 w → EachIs (λ b. is_word_byte b ≡ true) w
word-digits [] d = tt
word-digits (c ∷ cs) d = (word-digit c (digit-is c cs d), word-digits cs d.1)

digits-no-root : (w : List ℕ) → AllDigits 10 w → is_root w ≡ false
digits-no-root [] d = refl
digits-no-root (c ∷ cs) d =
    let r = (tells_digits.parts c cs d).0 in
    let h = r.1 in
    let e : to_ascii_lowercase c ≡ c = (lowercase_is c).1 (omega (arith, h)) in
    let f : (to_ascii_lowercase c == 114) ≡ false = ne_eqb (to_ascii_lowercase c) 114 (λ q. omega (arith, h, e, q)) in
    ap (λ t. t && bytes_eq (folded cs) (codes "oot")) f

-- an id
module _ (n : ℕ) (l : IsSmall n) where
  short : length (decimal n) ≤ 20
  short = length-decimal-le 20 n (omega arith) (omega (arith, l)) l

  pub id-value : digits_value 10 (decimal n) ≡ n
  id-value = (decimal_is_IsNumeral n l).1

  pub id-is : is_id (decimal n) ≡ true
  id-is =
      let d = decimal_is_IsNumeral n l in
      both (lt-ltb 0 (length (decimal n)) d.0.0)
      (both (le-leb (length (decimal n)) 20 short) (both (digits-are (decimal n) d.0.1) (ap (λ v. nat_lt v (2 ^ 64)) d.1 ∙ lt-ltb n (2 ^ 64) l)))

  pub id-plain : IsPlain (decimal n)
  id-plain = let d = decimal_is_IsNumeral n l in (d.0.0, word-digits (decimal n) d.0.1)

  pub id-no-root : is_root (decimal n) ≡ false
  id-no-root = digits-no-root (decimal n) (decimal_is_IsNumeral n l).0.1

pub ids-plain : (ids : List ℕ) → EachIs IsSmall ids → EachIs IsPlain (map decimal ids)
ids-plain [] p = tt
ids-plain (n ∷ ns) p = (id-plain n p.0, ids-plain ns p.1)

-- ids where they stand
abbrev pub mentions : ℕ → List ℕ → List Mention
mentions at ids = map mention (placed at (map decimal ids))

ids-are : (at : ℕ) (ids : List ℕ) → EachIs IsSmall ids → are_ids (placed at (map decimal ids)) ≡ true
ids-are at [] p = refl
ids-are at (n ∷ ns) p = both (id-is n p.0) (ids-are (at + suc (length (decimal n))) ns p.1)

pub numbers-are : (at : ℕ) (ids : List ℕ) → EachIs IsSmall ids → map number (mentions at ids) ≡ ids
numbers-are at [] p = refl
numbers-are at (n ∷ ns) p = ap₂ (λ k ks. k ∷ ks) (id-value n p.0) (numbers-are (at + suc (length (decimal n))) ns p.1)

-- names

word-bytes : (w : List ℕ) → list_all is_word_byte w ≡ true → EachIs (λ b. is_word_byte b ≡ true) w
word-bytes [] e = tt
word-bytes (b ∷ bs) e = (first-of (is_word_byte b) (list_all is_word_byte bs) e, word-bytes bs (second-of (is_word_byte b) (list_all is_word_byte bs) e))

pub name-plain : (w : List ℕ) → IsPrintableWord w → IsPlain w
name-plain w p = (p.some, word-bytes w (first-of (list_all is_word_byte w) (not (is_arrow w)) p.name))

pub names-plain : (ws : List (List ℕ)) → EachIs IsPrintableWord ws → EachIs IsPlain ws
names-plain [] p = tt
names-plain (w ∷ ws) p = (name-plain w p.0, names-plain ws p.1)

abbrev cut : List (List ℕ) → List Said → Named
cut names behind = record { names = names; behind = behind }

-- names in front of words of which the first is none
named-words : (at : ℕ) (ws vs : List (List ℕ)) → EachIs IsPrintableWord ws → ((k : ℕ) → named (placed k vs) ≡ cut [] (placed k vs)) → (k : ℕ) × (named (placed at (ws ++ vs)) ≡ cut ws (placed k vs))
named-words at [] vs p none = (at, none at)
named-words at (w ∷ ws) vs p none =
    let r = named-words (at + suc (length w)) ws vs p.1 none in
    let s : Said = record { at = at; word = w } in (
      r.0,
      ap₂ (λ t n. with_name t s (placed (at + suc (length w)) (ws ++ vs)) n) p.0.name r.1 ∙ ap (λ u. cut (u ∷ ws) (placed r.0 vs)) p.0.lower,
    )

abbrev pub line_at : ℕ → List ℕ → List (List ℕ) → Line
line_at at w ws = record { first = record { at = at; word = w }; more = placed (at + suc (length w)) ws }

abbrev pub id_at : ℕ → ℕ → Mention
id_at at n = mention (record { at = at; word = decimal n })

-- a task and what is behind its names
task-is : (at n : ℕ) (ws vs : List (List ℕ)) → IsSmall n → EachIs IsPrintableWord ws → ((k : ℕ) → named (placed k vs) ≡ cut [] (placed k vs))
    → (k : ℕ) × (row (line_at at (decimal n) (ws ++ vs)) ≡ task_row (id_at at n) ws (placed k vs))
task-is at n ws vs l p none =
    let r = named-words (at + suc (length (decimal n))) ws vs p none in (
      r.0,
      ap₂ (λ t u. row_by t u (line_at at (decimal n) (ws ++ vs))) (id-no-root n l) (id-is n l) ∙ ap (λ (x : Named). task_row (id_at at n) x.names x.behind) r.1,
    )

pub primitive-row : (at : ℕ) (x : HLine) → IsPrintableLine x → row (line_at at (decimal x.id) (x.name ∷ x.args)) ≡ primitive (id_at at x.id) x.name x.args
primitive-row at x p =
    ap (λ ws. row (line_at at (decimal x.id) ws)) (sym (append-nil (x.name ∷ x.args))) ∙ (task-is at x.id (x.name ∷ x.args) [] p.id (p.name, p.args) (λ k. refl)).1

abbrev pub behind_name : HNode → List (List ℕ)
behind_name x = x.line.args ++ codes "->" ∷ x.method ∷ map decimal x.ids

pub node-row : (at : ℕ) (x : HNode) → IsPrintableNode x
    → (k : ℕ) × (row (line_at at (decimal x.line.id) (x.line.name ∷ behind_name x)) ≡ decomposed (id_at at x.line.id) x.line.name x.line.args x.method (mentions k x.ids))
node-row at x p =
    let m = id_at at x.line.id in
    let r = task-is at x.line.id (x.line.name ∷ x.line.args) (codes "->" ∷ x.method ∷ map decimal x.ids) p.line.id (p.line.name, p.line.args) (λ k. refl) in
    let j : ℕ = r.0 + suc (length (codes "->")) in
    let k : ℕ = j + suc (length x.method) in
    let s : Said = record { at = j; word = x.method } in
    let ids : List Said = placed k (map decimal x.ids) in (
      k,
      r.1 ∙ ap (λ t. node_row t m x.line.name x.line.args s ids) (both p.method.name (ids-are k x.ids p.ids))
          ∙ ap (λ w. decomposed m x.line.name x.line.args w (map mention ids)) p.method.lower,
    )

pub root-row : (at : ℕ) (ids : List ℕ) → EachIs IsSmall ids → row (line_at at (codes "root") (map decimal ids)) ≡ top (mentions (at + suc (length (codes "root"))) ids)
root-row at ids p =
    let more : List Said = placed (at + suc (length (codes "root"))) (map decimal ids) in
    ap (λ t. top_row t more) (ids-are (at + suc (length (codes "root"))) ids p)

-- the words of each line are plain
pub line-plain : (x : HLine) → IsPrintableLine x → EachIs IsPlain (line_words x)
line-plain x p = (id-plain x.id p.id, (name-plain x.name p.name, names-plain x.args p.args))

pub root-plain : (ids : List ℕ) → EachIs IsSmall ids → EachIs IsPlain (root_words ids)
root-plain ids p = ((omega arith, (refl, (refl, (refl, (refl, tt))))), ids-plain ids p)

pub node-plain : (x : HNode) → IsPrintableNode x → EachIs IsPlain (node_words x)
node-plain x p =
    each-append IsPlain (line_words x.line) (codes "->" ∷ x.method ∷ map decimal x.ids) (line-plain x.line p.line)
    ((omega arith, (refl, (refl, tt))), (name-plain x.method p.method, ids-plain x.ids p.ids))
