-- The words and ids of a plan that a text spells can be printed.
use Rattle.std.proofs.Common.{ℕ, ◌≡◌, ◌∙◌, ◌^◌, ◌<◌, ◌==◌, ◌&&◌, nat_lt, nat_le, Bool, true, false, not, Option, Some, None, List, [], ◌∷◌, map, length, codes, refl, sym, ap₂, subst, arith}
use Rattle.std.specs.Char.{is_ascii_digit, to_ascii_lowercase}
use Rattle.std.specs.List.{filter_map, cons_option, list_all}
use Rattle.std.specs.Str.{bytes_eq}
use Rattle.std.specs.Str.Lines.{strip_carriage_return}
use Rattle.std.specs.Str.Parse.{digits_value}
use Rattle.std.proofs.lemmas.Bool.{ltb-true}
use Rattle.std.proofs.lemmas.Bool.Decides.{nat_tests}
use Rattle.std.proofs.lemmas.Str.Ascii.{lowercase-lowercase}
use Rattle.htn_base.specs.Words.{folded}
use Rattle.plan_texts.specs.Types.{EachIs}
use Rattle.plan_texts.proofs.Members.{length-map}
use Rattle.hplan_text.specs.declared.mention.Mention.{Mention}
use Rattle.hplan_text.specs.Lines.{Piece, pieces, is_blank, is_line_end, Said, said_by, said, Line, some_line, line_words, line_of, lines_from, Marked, ends_plan, end_or, up_to_end, begins_plan, begin_or, behind_begin}
use Rattle.hplan_text.specs.Rows.{Row, bad, top, primitive, decomposed, is_id, mention, are_ids, is_word_byte, is_arrow, is_name, Named, with_name, named, top_row, node_row, task_row, row_by, is_root, row, number, primitive_line, node}
use Rattle.hplan_text.specs.SpellsHPlan.{rows, tops, first_top, plan_of}
use Rattle.hplan_text.specs.Printable.{IsPrintableWord, IsSmall, IsPrintableLine, IsPrintableNode, IsPrintableHPlan, SpelledHPlansArePrintable}
use Rattle.hplan_text.proofs.PrintedRows.{first-of, second-of}

-- words in lower case

lower-byte : (b : ℕ) → is_word_byte b ≡ true → is_word_byte (to_ascii_lowercase b) ≡ true
lower-byte b e = grind (arith, nat_tests)

lower-bytes : (w : List ℕ) → list_all is_word_byte w ≡ true → list_all is_word_byte (folded w) ≡ true
lower-bytes [] e = refl
lower-bytes (b ∷ bs) e =
    ap₂ (λ s t. s && t) (lower-byte b (first-of (is_word_byte b) (list_all is_word_byte bs) e)) (lower-bytes bs (second-of (is_word_byte b) (list_all is_word_byte bs) e))

same-byte : (b k : ℕ) → k < 65 → (to_ascii_lowercase b == k) ≡ (b == k)
same-byte b k l = grind (arith, nat_tests)

same-bytes : (w ks : List ℕ) → EachIs (λ k. k < 65) ks → bytes_eq (folded w) ks ≡ bytes_eq w ks
same-bytes [] [] l = refl
same-bytes [] (k ∷ ks) l = refl
same-bytes (b ∷ bs) [] l = refl
same-bytes (b ∷ bs) (k ∷ ks) l = ap₂ (λ s t. s && t) (same-byte b k l.0) (same-bytes bs ks l.1)

lower-twice : (w : List ℕ) → folded (folded w) ≡ folded w
lower-twice [] = refl
lower-twice (b ∷ bs) = ap₂ (λ c cs. c ∷ cs) (lowercase-lowercase b) (lower-twice bs)

name-printable : (w : List ℕ) → 0 < length w → is_name w ≡ true → IsPrintableWord (folded w)
name-printable w l e =
    let n = length-map to_ascii_lowercase w in
    record {
      some = omega (arith, l, n);
      name = ap₂ (λ s t. s && not t) (lower-bytes w (first-of (list_all is_word_byte w) (not (is_arrow w)) e)) (same-bytes w (codes "->") (omega arith, (omega arith, tt)))
          ∙ second-of (list_all is_word_byte w) (not (is_arrow w)) e;
      lower = lower-twice w;
    }

-- each word of a text has a byte

abbrev HasByte : Said → Type 0
HasByte s = 0 < length s.word

abbrev HasWords : Line → Type 0
HasWords l = HasByte l.first × EachIs HasByte l.more

some-bytes : (ps : List Piece) → EachIs HasByte (filter_map said ps)
some-bytes [] = tt
some-bytes (p ∷ ps) = by p.bytes (some-bytes ps)
  where
    by : (bs : List ℕ) → EachIs HasByte (filter_map said ps) → EachIs HasByte (cons_option (said_by p.at bs) (filter_map said ps))
    by [] h = h
    by (b ∷ bs) h = (omega arith, h)

some-words : (ps : List Piece) → EachIs HasWords (filter_map line_of ps)
some-words [] = tt
some-words (p ∷ ps) = by (line_words p) (some-bytes (pieces is_blank p.at (strip_carriage_return p.bytes))) (some-words ps)
  where
    by : (ss : List Said) → EachIs HasByte ss → EachIs HasWords (filter_map line_of ps) → EachIs HasWords (cons_option (some_line ss) (filter_map line_of ps))
    by [] e h = h
    by (s ∷ ss) e h = (e, h)

abbrev HaveWords : Option Marked → Type 0
HaveWords None = Unit {0}
HaveWords (Some m) = EachIs HasWords m.lines

up-to : (ls : List Line) → EachIs HasWords ls → HaveWords (up_to_end ls)
up-to [] e = tt
up-to (l ∷ ls) e = by (ends_plan l) (up_to_end ls) (up-to ls e.1)
  where
    by : (t : Bool) (o : Option Marked) → HaveWords o → HaveWords (end_or t l o)
    by true o h = tt
    by false None h = tt
    by false (Some m) h = (e.0, h)

behind : (ls : List Line) → EachIs HasWords ls → HaveWords (behind_begin ls)
behind [] e = tt
behind (l ∷ ls) e = by (begins_plan l) (up_to_end ls) (behind_begin ls) (up-to ls e.1) (behind ls e.1)
  where
    by : (t : Bool) (here later : Option Marked) → HaveWords here → HaveWords later → HaveWords (begin_or t here later)
    by true here later h k = h
    by false here later h k = k

-- what a line says

abbrev IsGood : Row → Type 0
IsGood bad = Unit {0}
IsGood (top ms) = EachIs (λ m. IsSmall m.id) ms
IsGood (primitive m name args) = IsSmall m.id × IsPrintableWord name × EachIs IsPrintableWord args
IsGood (decomposed m name args method ms) = IsSmall m.id × IsPrintableWord name × EachIs IsPrintableWord args × IsPrintableWord method × EachIs (λ m. IsSmall m.id) ms

small : (w : List ℕ) → is_id w ≡ true → IsSmall (digits_value 10 w)
small w e =
    let more : Bool = list_all is_ascii_digit w && nat_lt (digits_value 10 w) (2 ^ 64) in
    let a = second-of (nat_lt 0 (length w)) (nat_le (length w) 20 && more) e in
    let b = second-of (nat_le (length w) 20) more a in
    ltb-true (digits_value 10 w) (2 ^ 64) (second-of (list_all is_ascii_digit w) (nat_lt (digits_value 10 w) (2 ^ 64)) b)

smalls : (ss : List Said) → are_ids ss ≡ true → EachIs (λ m. IsSmall m.id) (map mention ss)
smalls [] e = tt
smalls (s ∷ ss) e = (small s.word (first-of (is_id s.word) (are_ids ss) e), smalls ss (second-of (is_id s.word) (are_ids ss) e))

abbrev AreNamed : Named → Type 0
AreNamed n = EachIs IsPrintableWord n.names × EachIs HasByte n.behind

names-good : (ss : List Said) → EachIs HasByte ss → AreNamed (named ss)
names-good [] e = (tt, tt)
names-good (s ∷ ss) e = by (is_name s.word) refl (named ss) (names-good ss e.1)
  where
    by : (t : Bool) → is_name s.word ≡ t → (n : Named) → AreNamed n → AreNamed (with_name t s ss n)
    by true q n h = ((name-printable s.word e.0 q, h.0), h.1)
    by false q n h = (tt, e)

task-good : (m : Mention) (names : List (List ℕ)) (behind : List Said) → IsSmall m.id → EachIs IsPrintableWord names → EachIs HasByte behind → IsGood (task_row m names behind)
task-good m [] behind l p e = tt
task-good m (name ∷ args) [] l p e = (l, p.0, p.1)
task-good m (name ∷ args) (arrow ∷ []) l p e = tt
task-good m (name ∷ args) (arrow ∷ method ∷ ids) l p e = by (is_arrow arrow.word && (is_name method.word && are_ids ids)) refl
  where
    by : (t : Bool) → (is_arrow arrow.word && (is_name method.word && are_ids ids)) ≡ t → IsGood (node_row t m name args method ids)
    by true q =
        let r = second-of (is_arrow arrow.word) (is_name method.word && are_ids ids) q in
        (l, p.0, p.1, name-printable method.word e.1.0 (first-of (is_name method.word) (are_ids ids) r), smalls ids (second-of (is_name method.word) (are_ids ids) r))
    by false q = tt

row-good : (l : Line) → HasWords l → IsGood (row l)
row-good l e = by (is_root l.first.word) (is_id l.first.word) refl
  where
    top-good : (t : Bool) → are_ids l.more ≡ t → IsGood (top_row t l.more)
    top-good true q = smalls l.more q
    top-good false q = tt

    by : (t u : Bool) → is_id l.first.word ≡ u → IsGood (row_by t u l)
    by true u q = top-good (are_ids l.more) refl
    by false true q = let n = names-good l.more e.1 in task-good (mention l.first) (named l.more).names (named l.more).behind (small l.first.word q) n.0 n.1
    by false false q = tt

rows-good : (ls : List Line) → EachIs HasWords ls → EachIs IsGood (map row ls)
rows-good [] e = tt
rows-good (l ∷ ls) e = (row-good l e.0, rows-good ls e.1)

-- the plan of what lines say

numbers-small : (ms : List Mention) → EachIs (λ m. IsSmall m.id) ms → EachIs IsSmall (map number ms)
numbers-small [] e = tt
numbers-small (m ∷ ms) e = (e.0, numbers-small ms e.1)

lines-good : (rs : List Row) → EachIs IsGood rs → EachIs IsPrintableLine (filter_map primitive_line rs)
lines-good [] e = tt
lines-good (bad ∷ rs) e = lines-good rs e.1
lines-good (top ms ∷ rs) e = lines-good rs e.1
lines-good (primitive m name args ∷ rs) e = let g = e.0 in (record { id = g.0; name = g.1; args = g.2 }, lines-good rs e.1)
lines-good (decomposed m name args method ms ∷ rs) e = lines-good rs e.1

nodes-good : (rs : List Row) → EachIs IsGood rs → EachIs IsPrintableNode (filter_map node rs)
nodes-good [] e = tt
nodes-good (bad ∷ rs) e = nodes-good rs e.1
nodes-good (top ms ∷ rs) e = nodes-good rs e.1
nodes-good (primitive m name args ∷ rs) e = nodes-good rs e.1
nodes-good (decomposed m name args method ms ∷ rs) e =
    let g = e.0 in (record { line = record { id = g.0; name = g.1; args = g.2 }; method = g.3; ids = numbers-small ms g.4 }, nodes-good rs e.1)

root-good : (rs : List Row) → EachIs IsGood rs → EachIs IsSmall (map number (first_top (tops rs)))
root-good [] e = tt
root-good (bad ∷ rs) e = root-good rs e.1
root-good (top ms ∷ rs) e = numbers-small ms e.0
root-good (primitive m name args ∷ rs) e = root-good rs e.1
root-good (decomposed m name args method ms ∷ rs) e = root-good rs e.1

plan-good : (rs : List Row) → EachIs IsGood rs → IsPrintableHPlan (plan_of rs)
plan-good rs e = record { primitives = lines-good rs e; root = root-good rs e; nodes = nodes-good rs e }

pub spelled-printable : SpelledHPlansArePrintable
spelled-printable text plan s =
    let h : EachIs HasWords s.between.lines = subst HaveWords s.is_between (behind (lines_from 0 text) (some-words (pieces is_line_end 0 text))) in
    subst IsPrintableHPlan (sym s.plan_is) (plan-good (rows s.between) (rows-good s.between.lines h))
