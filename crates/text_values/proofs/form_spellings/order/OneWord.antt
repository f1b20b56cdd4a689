-- At one offset of a text stands one word, so what is read there is one name.
use Rattle.std.proofs.Common.{◌≡◌, ◌∙◌, ℕ, zero, suc, ◌≤◌, ◌<◌, Bool, true, false, List, [], ◌∷◌, drop, length, Some, slice_get, Contains, refl, sym, ap, subst, arith}
use Rattle.std.proofs.lemmas.Option.{slice_get-get_or}
use Rattle.htn_base.specs.declared.name.Name.{Name as Numbered}
use Rattle.htn_base.specs.Different.{AreDifferent}
use Rattle.text_forms.specs.Tokens.{Lexeme, spells, lexemes}
use Rattle.text_forms.specs.Words.{Word, word_at, first_place}
use Rattle.plan_texts.specs.Declared.{named}
use Rattle.plan_texts.specs.Types.{EachIs}
use Rattle.plan_texts.proofs.Members.{each-has, contains-has}
use Rattle.plan_texts.proofs.Places.{each-join, first-different}
use Rattle.gd_reader.specs.declared.term.RawTerm.{RawTerm}
use Rattle.gd_reader.specs.declared.typed_lists.RawParam.{RawParam}
use Rattle.gd_reader.specs.Terms.{Names}
use Rattle.text_values.specs.form_spellings.EachName.{OfTerm, OfParams}
use Rattle.text_values.specs.form_spellings.Places.{as_written, IsWordAt, IsNameAt}
use Rattle.text_values.specs.form_spellings.Rising.{HaveOneWordAPlace, mentioned}
use Rattle.text_values.proofs.form_spellings.order.Lists.{HasTypes}
use Rattle.text_values.proofs.form_spellings.order.Types.{IsTypeName}
use Rattle.text_values.proofs.form_spellings.order.Spans.{AreRising, place, text_rises}

lies : (from : ℕ) (ts : List Lexeme) (to : ℕ) → AreRising from ts to → (i : ℕ) (t : Lexeme) → slice_get ts i ≡ Some t → from ≤ place t
lies from [] to r i t e = cc
lies from (x ∷ ts) to r zero t e = let s : x ≡ t = cc in subst (λ (z : Lexeme). from ≤ place z) s r.0
lies from (x ∷ ts) to r (suc i) t e = let l = lies (suc (place x)) ts to r.1 i t e in let f = r.0 in omega arith

-- tokens at one offset are one token
one_token : (from : ℕ) (ts : List Lexeme) (to : ℕ) → AreRising from ts to → (i j : ℕ) (t u : Lexeme) → slice_get ts i ≡ Some t → slice_get ts j ≡ Some u → place t ≡ place u → t ≡ u
one_token from [] to r i j t u e f h = cc
one_token from (x ∷ ts) to r zero zero t u e f h = cc
one_token from (x ∷ ts) to r (suc i) (suc j) t u e f h = one_token (suc (place x)) ts to r.1 i j t u e f h
one_token from (x ∷ ts) to r zero (suc j) t u e f h = let s : x ≡ t = cc in let l = lies (suc (place x)) ts to r.1 j u f in let m = ap place s in absurd (omega arith)
one_token from (x ∷ ts) to r (suc i) zero t u e f h = let s : x ≡ u = cc in let l = lies (suc (place x)) ts to r.1 i t e in let m = ap place s in absurd (omega arith)

stands_at : (ts : List Lexeme) (t : Lexeme) → (c : Contains ts t) → slice_get ts c.0 ≡ Some t
stands_at ts t c = slice_get-get_or ts c.0 t c.1 ∙ ap Some c.2

pub one_word : (text : List ℕ) (at : ℕ) (v w : Word) → IsWordAt text at v → IsWordAt text at w → v ≡ w
one_word text at v w a b =
    let e = one_token 0 (lexemes text) (length text) (text_rises text) a.0 b.0 (spells at v) (spells at w) (stands_at (lexemes text) (spells at v) a) (stands_at (lexemes text) (spells at w) b) refl in
    cc

-- two numbers of one word are one
same_number : (names : Names) (i j : ℕ) → AreDifferent names → i < length names → j < length names → word_at names i ≡ word_at names j → i ≡ j
same_number names i j d l m e =
    let f : Some i ≡ Some j = sym (first-different names i d l) ∙ ap (λ w. first_place w names) e ∙ first-different names j d m in
    cc

pub one_name : (text : List ℕ) (table : Names) → AreDifferent table → (variable : Bool) (at : ℕ) (m n : Numbered) → IsNameAt text table variable at m → IsNameAt text table variable at n → m.number ≡ n.number
one_name text table d variable at m n a b =
    same_number table m.number n.number d a.0 b.0 (unwritten variable (named table m) (named table n) (one_word text at (as_written variable (named table m)) (as_written variable (named table n)) a.1 b.1))
  where
    unwritten : (b : Bool) (v w : Word) → as_written b v ≡ as_written b w → v ≡ w
    unwritten true v w e = ap (drop 1) e
    unwritten false v w e = e

-- the words of a section of types
abbrev Said : List ℕ → Names → RawTerm → Type 0
Said text table t = IsNameAt text table false t.at t.name

types_said : (text : List ℕ) (table : Names) (ts : List RawTerm) → EachIs (IsTypeName table) ts → EachIs (OfTerm (IsNameAt text table)) ts → EachIs (Said text table) ts
types_said text table [] n o = tt
types_said text table (t ∷ ts) n o = (subst (λ b. IsNameAt text table b t.at t.name) n.0.0 o.0, types_said text table ts n.1 o.1)

mentions_said : (text : List ℕ) (table : Names) (xs : List RawParam) → EachIs (HasTypes table) xs → OfParams (IsNameAt text table) false xs → EachIs (Said text table) (mentioned xs)
mentions_said text table [] n o = tt
mentions_said text table (x ∷ xs) n o = (o.0.0, each-join (Said text table) x.ty (mentioned xs) (types_said text table x.ty n.0.names o.0.1) (mentions_said text table xs n.1 o.1))

pub types_at_places : (text : List ℕ) (table : Names) → AreDifferent table → (xs : List RawParam) → EachIs (HasTypes table) xs → OfParams (IsNameAt text table) false xs → HaveOneWordAPlace (mentioned xs)
types_at_places text table d xs n o v w a b e =
    let said = mentions_said text table xs n o in
    let p = each-has (Said text table) (mentioned xs) v said (contains-has (mentioned xs) v a) in
    let q = each-has (Said text table) (mentioned xs) w said (contains-has (mentioned xs) w b) in
    one_name text table d false w.at v.name w.name (subst (λ n. IsNameAt text table false n v.name) e p) q
