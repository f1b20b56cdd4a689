-- What the entry of a token tells.
use Rattle.std.proofs.Common.{◌≡◌, ℕ, zero, suc, ◌+◌, ◌<◌, ◌≤◌, true, false, Bool, length, drop, get_or, Option, Some, None, List, [], ◌∷◌, refl, sym, ap, ◌∙◌, subst, arith}
use Rattle.std.proofs.lemmas.Option.{get_or_from_slice_get, slice_get_within}
use Rattle.std.proofs.lemmas.Bool.{false≢true}
use Rattle.std.specs.Prelude.{slice_get, IsSome}
use Rattle.text_forms.specs.Bytes.{Class, blank, opening, closing, letter, class_of, classes_from, comment_after}
use Rattle.text_forms.specs.Laws.{StandInOrder}
use Rattle.text_forms.specs.LongestRuns.{IsMade, IsMadeBy}
use Rattle.text_forms.specs.Tokens.{Kind, start, stop, word, Token, token, tokens}
use Rattle.text_forms.proofs.EachToken.{each_made}
use Rattle.text_forms.proofs.Lists.{in_order, closes_its_lists}
use Rattle.text_forms.proofs.Shown.{closes_get}
use Rattle.text_forms.specs.Closing.{close_of, close_at, OpensBy}
use Rattle.text_forms.specs.Faults.{IsFaultless}
use Rattle.text_forms.specs.declared.sexpr_text.classes.Class.{Class as Classes}
use Rattle.text_forms.specs.declared.sexpr_text.classes.Class.TheVariants.{Blank, Opening, Closing, Letter, Bad}
use Rattle.text_forms.specs.declared.sexpr_text.index.Entry.{Entry}
use Rattle.text_forms.specs.declared.sexpr_text.tokens.Kind.{Kind as Kinds}
use Rattle.text_forms.specs.declared.sexpr_text.tokens.Piece.{Piece}
use Rattle.text_forms.specs.sexpr_text.Index.{IsEntry, cut}
use Rattle.text_forms.specs.sexpr_text.Seen.{class_seen, kind_seen, piece_seen}

-- a byte that is not blank stands in no comment
class_here : (text : List ℕ) (comment : Bool) (k : ℕ) (c : Class) → slice_get (classes_from comment text) k ≡ Some c → (c ≡ blank → ⊥) → class_of (get_or text k 0) ≡ c
class_here [] comment k c e n = cc
class_here (b ∷ text) false zero c e n = cc
class_here (b ∷ text) true zero c e n = absurd (n cc)
class_here (b ∷ text) comment (suc k) c e n = class_here text (comment_after comment b) k c e n

made : (text : List ℕ) (i : ℕ) (t : Token) → slice_get (tokens text) i ≡ Some t → IsMade text t
made text i t e = subst (IsMade text) (get_or_from_slice_get (tokens text) i t t e) (each_made text i t (slice_get_within (tokens text) i t e))

-- a token is what its first byte tells, up to where a word ends
cut_by : (text : List ℕ) (k : Kind) (first behind : ℕ) (e : Entry) → IsMadeBy text first behind k → e.at ≡ first → (k ≡ word → e.end ≡ behind) → cut (class_of (get_or text e.at 0)) e ≡ token k first behind
cut_by text start first behind e m at end =
    let class : class_of (get_or text e.at 0) ≡ opening = ap (λ a. class_of (get_or text a 0)) at ∙ class_here text false first opening m.0 (λ b. cc) in
    let last : e.at + 1 ≡ behind = let b = m.1 in omega arith in
    ap (λ c. cut c e) class ∙ (λ k. token start (at k) (last k))
cut_by text stop first behind e m at end =
    let class : class_of (get_or text e.at 0) ≡ closing = ap (λ a. class_of (get_or text a 0)) at ∙ class_here text false first closing m.0 (λ b. cc) in
    let last : e.at + 1 ≡ behind = let b = m.1 in omega arith in
    ap (λ c. cut c e) class ∙ (λ k. token stop (at k) (last k))
cut_by text word first behind e m at end =
    let some = m.some in
    let class : class_of (get_or text e.at 0) ≡ letter = ap (λ a. class_of (get_or text a 0)) at ∙ class_here text false first letter (m.letters first (omega arith) some) (λ b. cc) in
    let last = end refl in
    ap (λ c. cut c e) class ∙ (λ k. token word (at k) (last k))

pub cut_of : (text : List ℕ) (i : ℕ) (e : Entry) (h : IsEntry text i e) → cut (class_of (get_or text e.at 0)) e ≡ h.token
cut_of text i e h = cut_by text h.token.kind h.token.first h.token.behind e (made text i h.token h.stands) h.begins h.word_ends

pub kept : (text : List ℕ) (i : ℕ) (e : Entry) → IsEntry text i e → slice_get (tokens text) i ≡ Some (cut (class_of (get_or text e.at 0)) e)
kept text i e h = h.stands ∙ ap Some (sym (cut_of text i e h))

-- a token stands within the text
later : (low high : ℕ) (ts : List Token) → StandInOrder low ts high → low ≤ high
later low high [] o = o
later low high (t ∷ ts) o = let a = o.0 in let b = o.1 in let r = later t.behind high ts o.2 in omega arith

stands_within : (low high : ℕ) (ts : List Token) (i : ℕ) (t : Token) → StandInOrder low ts high → slice_get ts i ≡ Some t → (t.first < t.behind) × (t.behind ≤ high)
stands_within low high [] i t o e = cc
stands_within low high (a ∷ ts) zero t o e = let same : a ≡ t = cc in subst (λ b. (b.first < b.behind) × (b.behind ≤ high)) same (o.1, later a.behind high ts o.2)
stands_within low high (a ∷ ts) (suc i) t o e = stands_within a.behind high ts i t o.2 e

pub within : (text : List ℕ) (i : ℕ) (t : Token) → slice_get (tokens text) i ≡ Some t → (t.first < t.behind) × (t.behind ≤ length text)
within text i t e = stands_within 0 (length text) (tokens text) i t (in_order text) e

pub entry_within : (text : List ℕ) (i : ℕ) (e : Entry) → IsEntry text i e → e.at < length text
entry_within text i e h = let w = within text i h.token h.stands in let a = w.0 in let b = w.1 in let at = h.begins in omega arith

-- what stands where an entry tells
pub cut_within : (text : List ℕ) (i : ℕ) (e : Entry) (p : Piece) → IsEntry text i e → piece_seen p ≡ cut (class_of (get_or text e.at 0)) e → (p.span.start < p.span.end) × (p.span.end ≤ length text)
cut_within text i e p h is = subst (λ t. (t.first < t.behind) × (t.behind ≤ length text)) (sym (is ∙ cut_of text i e h)) (within text i h.token h.stands)

-- a piece is the token that it was made for
pub piece_made : (p : Piece) (kind : Kinds) {start end : ℕ} → p.kind ≡ kind → p.span.start ≡ start → p.span.end ≡ end → piece_seen p ≡ token (kind_seen kind) start end
piece_made p kind k a b = (λ i. token (kind_seen (k i)) (a i) (b i))

-- an entry that begins with neither parenthesis keeps a word
pub cut_word : (e : Entry) (k : Classes) → (k ≡ Opening → ⊥) → (k ≡ Closing → ⊥) → token word e.at e.end ≡ cut (class_seen k) e
cut_word e Blank f g = refl
cut_word e Opening f g = absurd (f refl)
cut_word e Closing f g = absurd (g refl)
cut_word e Letter f g = refl
cut_word e Bad f g = refl

pub get_none : {A : Type 0} (xs : List A) (i : ℕ) → slice_get xs i ≡ None → length xs ≤ i
get_none [] i e = omega arith
get_none (x ∷ xs) zero e = cc
get_none (x ∷ xs) (suc i) e = let r = get_none xs i e in omega (arith, r)

-- a list's end
closed_by : (text : List ℕ) (i : ℕ) (e : Entry) → IsEntry text i e → (o : Option ℕ) → close_at text i ≡ o → IsSome o → Some e.end ≡ o
closed_by text i e h None c s = absurd (false≢true s)
closed_by text i e h (Some j) c s = ap Some (h.list_ends j c)

pub opening_ends : (text : List ℕ) (i : ℕ) (e : Entry) → IsFaultless text → IsEntry text i e → class_of (get_or text e.at 0) ≡ opening → Some e.end ≡ close_at text i
opening_ends text i e clean h class =
    let is : h.token.kind ≡ start = ap (λ t. t.kind) (sym (cut_of text i e h) ∙ ap (λ c. cut c e) class) in
    closed_by text i e h (close_at text i) refl ((closes_its_lists text clean i).1 (subst OpensBy (sym h.stands) is))

-- what opens no list
pub closes_none : (text : List ℕ) (i : ℕ) (e : Entry) (c : Classes) → IsEntry text i e → class_seen c ≡ class_of (get_or text e.at 0) → (c ≡ Opening → ⊥) → None ≡ close_at text i
closes_none text i e c h is not = sym (closes_get (tokens text) 0 i h.token h.stands ∙ by c not (ap (λ t. t.kind) (ap (λ k. cut k e) is ∙ cut_of text i e h)))
  where
    by : (c : Classes) → (c ≡ Opening → ⊥) → (cut (class_seen c) e).kind ≡ h.token.kind → close_of h.token.kind (0 + i) (drop (suc i) (tokens text)) ≡ None
    by Opening n k = absurd (n refl)
    by Closing n k = ap (λ q. close_of q (0 + i) (drop (suc i) (tokens text))) (sym k)
    by Letter n k = ap (λ q. close_of q (0 + i) (drop (suc i) (tokens text))) (sym k)
    by Blank n k = ap (λ q. close_of q (0 + i) (drop (suc i) (tokens text))) (sym k)
    by Bad n k = ap (λ q. close_of q (0 + i) (drop (suc i) (tokens text))) (sym k)
