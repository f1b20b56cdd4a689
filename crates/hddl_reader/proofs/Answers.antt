-- Answers one after another, and what they say of the tokens.
use Rattle.std.proofs.Common.{◌≡◌, ℕ, Bool, true, false, not, ◌&&◌, ◌==◌, if◌then◌else◌, Result, Ok, Err, [], ◌∷◌, refl, ◌∙◌, ap}
use Rattle.std.proofs.lemmas.Bool.{eqb-true}
use Rattle.htn_base.specs.Words.{is_reserved}
use Rattle.text_forms.specs.Placed.{Placed, cut, close, word, list}
use Rattle.text_forms.specs.Words.{Word}
use Rattle.text_forms.specs.form_grammar.Codes.{Form, unfinished, wrong, ◌followed_by◌}
use Rattle.text_forms.specs.form_grammar.Rows.{Next, go, stop, if_allowed, Row, Rows, form, closed, front}
use Rattle.text_forms.specs.form_grammar.Words as words
use Rattle.gd_reader.specs.declared.stop.Stop.{Stop}
use Rattle.gd_reader.specs.declared.stop.Stop.TheVariants.{Ends, Departs}
use Rattle.gd_reader.specs.declared.term.RawTerm.{RawTerm}
use Rattle.gd_reader.specs.declared.words.Sort.{Sort}
use Rattle.gd_reader.specs.declared.words.Sort.TheVariants.{Variable, Name, Other}
use Rattle.gd_reader.specs.Answers.{◌>>=◌}
use Rattle.gd_reader.specs.Terms.{Names, raw_term}
use Rattle.gd_reader.specs.Words.{sort_of}
use Rattle.hddl_reader.specs.Said.{said}
use Rattle.hddl_reader.proofs.TermsSaid.{at_next}
use Rattle.hddl_reader.specs.Networks.{declared, declared_by, undeclared}

-- the same as said_then, where what comes next may use the first answer
pub said_behind : {A B : Type 0} (a : Result A Stop) (k : A → Result B Stop) (f h : Form) → said a ≡ f → ((x : A) → a ≡ Ok x → said (k x) ≡ h) → said (a >>= k) ≡ f followed_by h
said_behind (Ok x) k f h s t = t x refl ∙ ap (λ f. f followed_by h) s
said_behind (Err Ends) k f h s t = ap (λ f. f followed_by h) s
said_behind (Err (Departs code at)) k f h s t = ap (λ f. f followed_by h) s

pub bound : {A B C : Type 0} (a : Result A Stop) (f : A → Result B Stop) (g : B → Result C Stop) → (a >>= f) >>= g ≡ a >>= (λ x. f x >>= g)
bound (Ok x) f g = refl
bound (Err e) f g = refl

-- what a row says of the tokens
abbrev pub by_row : {X : Type 0} → Rows X → Row X → Placed → Form
by_row rows r cut = unfinished
by_row rows r (close at) = closed r.at_close at
by_row rows r (word at w p) = at_next rows (r.at_word w) at p
by_row rows r (list at p q) = elim r.at_list [ go i ↦ form rows i.inside p followed_by form rows (i.behind (front p)) q | stop code ↦ wrong code at ]

pub row_form : {X : Type 0} (rows : Rows X) (due : X) (r : Row X) → rows due ≡ r → (p : Placed) → form rows due p ≡ by_row rows r p
row_form rows due r e cut = refl
row_form rows due r e (close at) = ap (λ r. closed r.at_close at) e
row_form rows due r e (word at w p) = ap (λ r. by_row rows r (word at w p)) e
row_form rows due r e (list at p q) = ap (λ r. by_row rows r (list at p q)) e

-- a name that is or may be declared, by the word's sort
abbrev next_by : {X : Type 0} → Sort → ℕ → ℕ → X → Next X
next_by Variable other code x = stop code
next_by Name other code x = go x
next_by Other other code x = stop other

reserved_none : (c : ℕ) (w : Word) → is_reserved (63 ∷ c ∷ w) ≡ false
reserved_none c w = refl

next_is : {X : Type 0} (w : Word) (code : ℕ) (x : X) → next_by (sort_of w) (undeclared code w) code x ≡ words.declared code x w
unfolding sort_of
next_is [] code x = refl
next_is {X} (b ∷ []) code x = one (is_reserved (b ∷ [])) (b == 63) (b == 58)
  where
    one : (r u v : Bool) → ◌≡◌ {A = Next X} (next_by (if not u && (not v && not r) then Name else Other) (if r then 9 else code) code x) (if r then stop 9 else if_allowed (not u && (not v && not r)) code x)
    one true true v = refl
    one true false true = refl
    one true false false = refl
    one false true v = refl
    one false false true = refl
    one false false false = refl
next_is {X} (b ∷ c ∷ w) code x = two (is_reserved (b ∷ c ∷ w)) (b == 63) (b == 58) (λ e. ap (λ b. is_reserved (b ∷ c ∷ w)) (eqb-true b 63 e) ∙ reserved_none c w)
  where
    two : (r u v : Bool) → (u ≡ true → r ≡ false) → ◌≡◌ {A = Next X} (next_by (if u then Variable else (if not u && (not v && not r) then Name else Other)) (if r then 9 else code) code x)
        (if r then stop 9 else if_allowed (not u && (not v && not r)) code x)
    two true true v h = let g = h refl in cc
    two true false true h = refl
    two true false false h = refl
    two false true v h = refl
    two false false true h = refl
    two false false false h = refl

by_sort : {B X : Type 0} (rows : Rows X) (s : Sort) (code : ℕ) (names : Names) (at : ℕ) (w : Word) (k : RawTerm × Names → Result B Stop) (next : X) (q : Placed) → ((x : RawTerm × Names) → said (k x) ≡ form rows next q)
    → said (declared_by s code names at w >>= k) ≡ at_next rows (next_by s (undeclared code w) code next) at q
by_sort rows Variable code names at w k next q h = refl
by_sort rows Name code names at w k next q h = h (raw_term names false at w)
by_sort rows Other code names at w k next q h = refl

-- a declared name, and what is due behind it
pub declared_then : {B X : Type 0} (rows : Rows X) (code : ℕ) (names : Names) (at : ℕ) (w : Word) (k : RawTerm × Names → Result B Stop) (next : X) (q : Placed) → ((x : RawTerm × Names) → said (k x) ≡ form rows next q)
    → said (declared code names at w >>= k) ≡ at_next rows (words.declared code next w) at q
unfolding declared
declared_then rows code names at w k next q h = by_sort rows (sort_of w) code names at w k next q h ∙ ap (λ n. at_next rows n at q) (next_is w code next)
