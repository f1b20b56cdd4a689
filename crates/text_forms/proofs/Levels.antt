-- The lists of tokens with places, and those without, are the same.
use Rattle.std.proofs.Common.{◌≡◌, ℕ, zero, suc, ◌<◌, ◌≤◌, length, map, List, [], ◌∷◌, ◌++◌, refl, sym, ◌∙◌, ap, subst, arith, append_assoc}
use Rattle.text_forms.specs.Tokens.{Lexeme, opens, closes, spells, lexemes, Symbol, left, right, said, symbol}
use Rattle.text_forms.specs.Lists.{Part, Parts, name, group, nothing, part, written, written_all, joined}
use Rattle.text_forms.specs.Placed.{cut, level, IsWhole, parts_of, IsOneList}
use Rattle.text_forms.specs.Laws.{SaysAsPlaced}

-- tokens that stand behind the parts which other tokens show
pub record AreBehind (ts : List Lexeme) (ps : Parts) (ss : List Symbol) : Type 0 where
  pub rest : List Lexeme
  pub says : map symbol rest ≡ ss
  pub around : (k : ℕ) → level (suc k) ts ≡ level (suc k) rest
  pub parts : parts_of (level 0 ts) ≡ joined ps (parts_of (level 0 rest))
  pub whole : IsWhole (level 0 rest) → IsWhole (level 0 ts)

abbrev second : List Symbol → List Symbol
second [] = []
second (s ∷ ss) = ss

joined-nothing : (ps : Parts) → joined ps nothing ≡ ps
joined-nothing nothing = refl
joined-nothing (part p ps) = ap (part p) (joined-nothing ps)

-- a list behind its opening parenthesis
closed : (at : ℕ) (ps : Parts) (ts : List Lexeme) (ss : List Symbol) (b : AreBehind ts ps (right ∷ ss)) (rest : List Lexeme) → b.rest ≡ rest → map symbol rest ≡ right ∷ ss → AreBehind (opens at ∷ ts) (part (group ps) nothing) ss
closed at ps ts ss b [] r e = absurd (cc)
closed at ps ts ss b (opens at' ∷ rest) r e = absurd (cc)
closed at ps ts ss b (spells at' u ∷ rest) r e = absurd (cc)
closed at ps ts ss b (closes at' ∷ rest) r e = record {
  rest = rest;
  says = ap second e;
  around = λ k. b.around (suc k) ∙ ap (level (suc (suc k))) r;
  parts =
      let inside : parts_of (level 0 ts) ≡ ps = b.parts ∙ ap (λ t. joined ps (parts_of (level 0 t))) r ∙ joined-nothing ps in
      let outside : level 1 ts ≡ level 0 rest = b.around 0 ∙ ap (level 1) r in
      λ i. part (group (inside i)) (parts_of (outside i));
  whole = λ h. (b.whole (subst (λ t. IsWhole (level 0 t)) (sym r) tt), subst IsWhole (sym (b.around 0 ∙ ap (level 1) r)) h);
}

mutual
  -- a part in front
  behind_part : (p : Part) (ts : List Lexeme) (ss : List Symbol) → map symbol ts ≡ written p ++ ss → AreBehind ts (part p nothing) ss
  behind_part (name w) [] ss e = absurd (cc)
  behind_part (name w) (opens at ∷ ts) ss e = absurd (cc)
  behind_part (name w) (closes at ∷ ts) ss e = absurd (cc)
  behind_part (name w) (spells at u ∷ ts) ss e =
      let same : u ≡ w = cc in
      record { rest = ts; says = ap second e; around = λ k. refl; parts = ap (λ u. part (name u) (parts_of (level 0 ts))) same; whole = λ h. h }
  behind_part (group ps) [] ss e = absurd (cc)
  behind_part (group ps) (closes at ∷ ts) ss e = absurd (cc)
  behind_part (group ps) (spells at u ∷ ts) ss e = absurd (cc)
  behind_part (group ps) (opens at ∷ ts) ss e =
      let b = behind_all ps ts (right ∷ ss) (ap second e ∙ append_assoc (written_all ps) (right ∷ []) ss) in
      closed at ps ts ss b b.rest refl b.says

  behind_all : (ps : Parts) (ts : List Lexeme) (ss : List Symbol) → map symbol ts ≡ written_all ps ++ ss → AreBehind ts ps ss
  behind_all nothing ts ss e = record { rest = ts; says = e; around = λ k. refl; parts = refl; whole = λ h. h }
  behind_all (part p ps) ts ss e =
      let b = behind_part p ts (written_all ps ++ ss) (e ∙ append_assoc (written p) (written_all ps) ss) in
      let c = behind_all ps b.rest ss b.says in
      record { rest = c.rest; says = c.says; around = λ k. b.around k ∙ c.around k; parts = b.parts ∙ ap (part p) c.parts; whole = λ h. b.whole (c.whole h) }

-- what stands behind the parenthesis that closes these tokens' list
record IsClosed (ts : List Lexeme) : Type 0 where
  rest : List Lexeme
  shorter : length rest < length ts
  says : map symbol ts ≡ written_all (parts_of (level 0 ts)) ++ right ∷ map symbol rest
  around : (k : ℕ) → level (suc k) ts ≡ level k rest

closed_within : (n : ℕ) (ts : List Lexeme) → length ts ≤ n → IsWhole (level 0 ts) → IsClosed ts
closed_within n [] l h = absurd h
closed_within zero (t ∷ ts) l h = absurd (omega arith)
closed_within (suc n) (closes at ∷ ts) l h = record { rest = ts; shorter = omega arith; says = refl; around = λ k. refl }
closed_within (suc n) (spells at w ∷ ts) l h =
    let c = closed_within n ts (omega arith) h in
    let s = c.shorter in
    record { rest = c.rest; shorter = omega arith; says = ap (λ t. said w ∷ t) c.says; around = c.around }
closed_within (suc n) (opens at ∷ ts) l h =
    let c = closed_within n ts (omega arith) h.0 in
    let s = c.shorter in
    let d = closed_within n c.rest (omega arith) (subst IsWhole (c.around 0) h.1) in
    let u = d.shorter in
    record {
      rest = d.rest;
      shorter = omega arith;
      says =
          ap (λ t. left ∷ t) (c.says ∙ ap (λ t. written_all (parts_of (level 0 ts)) ++ right ∷ t) d.says
          ∙ sym (append_assoc (written_all (parts_of (level 0 ts))) (right ∷ []) (written_all (parts_of (level 0 c.rest)) ++ right ∷ map symbol d.rest)))
          ∙ sym (append_assoc (written (group (parts_of (level 0 ts)))) (written_all (parts_of (level 0 c.rest))) (right ∷ map symbol d.rest))
          ∙ ap (λ p. (written (group (parts_of (level 0 ts))) ++ written_all (parts_of p)) ++ right ∷ map symbol d.rest) (sym (c.around 0));
      around = λ k. c.around (suc k) ∙ d.around k;
    }

-- nothing is left where the tokens end
none_left : (ts : List Lexeme) → level 0 ts ≡ cut → ts ≡ []
none_left [] e = refl
none_left (opens at ∷ ts) e = absurd (cc)
none_left (closes at ∷ ts) e = absurd (cc)
none_left (spells at w ∷ ts) e = absurd (cc)

one_list : (ts : List Lexeme) (ps : Parts) → map symbol ts ≡ written (group ps) → IsOneList (level 0 ts) ps
one_list [] ps e = absurd (cc)
one_list (closes at ∷ ts) ps e = absurd (cc)
one_list (spells at w ∷ ts) ps e = absurd (cc)
one_list (opens at ∷ ts) ps e =
    let b = behind_all ps ts (right ∷ []) (ap second e) in
    go b b.rest refl b.says
  where
    go : (b : AreBehind ts ps (right ∷ [])) (rest : List Lexeme) → b.rest ≡ rest → map symbol rest ≡ right ∷ [] → IsWhole (level 0 ts) × (parts_of (level 0 ts) ≡ ps) × (level 1 ts ≡ cut)
    go b [] r e = absurd (cc)
    go b (opens at' ∷ rest) r e = absurd (cc)
    go b (spells at' w ∷ rest) r e = absurd (cc)
    go b (closes at' ∷ t ∷ rest) r e = absurd (cc)
    go b (closes at' ∷ []) r e = (
      b.whole (subst (λ t. IsWhole (level 0 t)) (sym r) tt),
      b.parts ∙ ap (λ t. joined ps (parts_of (level 0 t))) r ∙ joined-nothing ps,
      b.around 0 ∙ ap (level 1) r,
    )

says_list : (ts : List Lexeme) (ps : Parts) → IsOneList (level 0 ts) ps → map symbol ts ≡ written (group ps)
says_list [] ps h = absurd h
says_list (closes at ∷ ts) ps h = absurd h
says_list (spells at w ∷ ts) ps h = absurd h
says_list (opens at ∷ ts) ps h =
    let c = closed_within (length ts) ts (omega arith) h.0 in
    let none = none_left c.rest (sym (c.around 0) ∙ h.2) in
    ap (λ t. left ∷ t) (c.says ∙ (λ i. written_all (h.1 i) ++ right ∷ map symbol (none i)))

pub says_as_placed : (text : List ℕ) → SaysAsPlaced text
says_as_placed text ps = (one_list (lexemes text) ps, says_list (lexemes text) ps)
