-- The parts of a task, a method, an action or a network, under their keywords: one grammar with those that spell something.
use Rattle.std.proofs.Common.{◌≡◌, ℕ, Bool, true, false, not, if◌then◌else◌, ◌||◌, Option, Some, None, List, [], ◌∷◌, codes, refl, sym, ap, subst, ◌∙◌}
use Rattle.std.proofs.lemmas.Bool.{and_from, and_parts}
use Rattle.std.specs.Option.{option_map}
use Rattle.std.specs.Str.{bytes_eq}
use Rattle.text_forms.specs.Lists.{Parts, name, group, nothing}
use Rattle.text_forms.specs.Placed.{Placed, cut, close, word, list, parts_of, IsWhole}
use Rattle.text_forms.specs.Words.{Word, is_among}
use Rattle.text_forms.specs.form_grammar.Codes.{Whole}
use Rattle.text_forms.specs.form_grammar.Rows.{if_allowed, form, closed}
use Rattle.text_forms.specs.form_grammar.Sections.{SectionDue, section_rows, Parted, task, method, action, network, parts, part_table, has_parts}
use Rattle.text_forms.specs.form_grammar.Sections as due
use Rattle.text_forms.specs.form_grammar.Words.{Table, entry, counts_as, unknown, is_keyword, by_keyword}
use Rattle.text_forms.proofs.form_grammar.Meaning.{whole_then, then_whole}
use Rattle.hddl_reader.proofs.TermsSaid.{at_next}
use Rattle.plan_texts.specs.Sections.{is_in_one, are_entries}
use Rattle.plan_texts.specs.Types.{EachIs}
use Rattle.text_values.proofs.form_spellings.PartTables as tables
use Rattle.text_values.proofs.form_spellings.Pieces.{Piece, params, formula, effect, empty, head, children, pairs, limits, due_of, Spells, piece_to, piece_from, piece_no_word}
use Rattle.text_values.proofs.form_spellings.WordTests.{false_true}

abbrev pub Group : Type 0
Group = tables.Group Piece due_of

abbrev pub pick : List Group → Word → Option Piece
pick gs w = tables.pick Piece due_of gs w

abbrev pub drop_group : Word → List Group → List Group
drop_group w gs = tables.drop_group Piece due_of w gs

abbrev pub groups_of : List Group → List (List Word)
groups_of gs = tables.groups_of Piece due_of gs

abbrev pub words_of : Group → List Word
words_of g = tables.words_of Piece due_of g

abbrev pub AllFound : List Group → Parts → Type 0
AllFound gs ps = tables.AllFound Piece due_of Spells gs ps

abbrev net_pieces : List Group
net_pieces =
    (codes ":subtasks", codes ":tasks" ∷ codes ":ordered-subtasks" ∷ codes ":ordered-tasks" ∷ [], children) ∷
    (codes ":ordering", codes ":order" ∷ [], pairs) ∷
    (codes ":constraints", [], limits) ∷
    []

abbrev pub pieces : Parted → List Group
pieces task = (codes ":parameters", [], params) ∷ (codes ":precondition", [], empty) ∷ (codes ":effect", [], empty) ∷ []
pieces action = (codes ":parameters", [], params) ∷ (codes ":precondition", [], formula) ∷ (codes ":effect", [], effect) ∷ []
pieces method = (codes ":parameters", [], params) ∷ (codes ":task", [], head) ∷ (codes ":precondition", [], formula) ∷ net_pieces
pieces network = (codes ":parameters", [], params) ∷ net_pieces

abbrev is_head : Piece → Bool
is_head params = false
is_head formula = false
is_head effect = false
is_head empty = false
is_head head = true
is_head children = false
is_head pairs = false
is_head limits = false

-- what a keyword leaves due, where these are seen
abbrev unless : Bool → SectionDue → Option SectionDue
unless true x = None
unless false x = Some x

abbrev look_by : Option SectionDue → Bool → Option SectionDue
look_by None b = None
look_by (Some x) b = unless b x

abbrev look : Parted → List Word → Word → Option SectionDue
look p seen w = look_by (entry (part_table p) w) (is_among (counts_as w) seen)

key_to : (p : Parted) (seen : List Word) (leaves : SectionDue → SectionDue) (w : Word) (at : ℕ) (q : Placed) → Whole (at_next section_rows (by_keyword (part_table p) seen leaves w) at q)
    → (x : SectionDue) × (look p seen w ≡ Some x) × Whole (form section_rows (leaves x) q)
key_to p seen leaves w at q h = by (entry (part_table p) w) (is_among (counts_as w) seen) h
  where
    none : (b : Bool) → Whole (at_next section_rows (unknown {X = SectionDue} b) at q) → ⊥
    none true h = h
    none false h = h

    by : (o : Option SectionDue) (b : Bool) → Whole (at_next section_rows (elim o [ None ↦ unknown (is_keyword w) | Some x ↦ if_allowed (not b) 7 (leaves x) ]) at q)
        → (x : SectionDue) × (look_by o b ≡ Some x) × Whole (form section_rows (leaves x) q)
    by None b h = absurd (none (is_keyword w) h)
    by (Some x) true h = absurd h
    by (Some x) false h = (x, refl, h)

key_from : (p : Parted) (seen : List Word) (leaves : SectionDue → SectionDue) (w : Word) (at : ℕ) (q : Placed) (x : SectionDue) → look p seen w ≡ Some x → Whole (form section_rows (leaves x) q)
    → Whole (at_next section_rows (by_keyword (part_table p) seen leaves w) at q)
key_from p seen leaves w at q x e h = by (entry (part_table p) w) (is_among (counts_as w) seen) e
  where
    abbrev_due : Option SectionDue → SectionDue
    abbrev_due None = x
    abbrev_due (Some y) = y

    by : (o : Option SectionDue) (b : Bool) → look_by o b ≡ Some x → Whole (at_next section_rows (elim o [ None ↦ unknown (is_keyword w) | Some x ↦ if_allowed (not b) 7 (leaves x) ]) at q)
    by None b e = absurd (cc)
    by (Some y) true e = absurd (cc)
    by (Some y) false e = subst (λ y. Whole (form section_rows (leaves y) q)) (sym (ap abbrev_due e)) h

-- a keyword is seen
look_more : (p : Parted) (seen : List Word) (w u : Word) → look p (counts_as w ∷ seen) u ≡ (if bytes_eq (counts_as u) (counts_as w) then None else look p seen u)
look_more p seen w u = by (entry (part_table p) u) (bytes_eq (counts_as u) (counts_as w)) (is_among (counts_as u) seen)
  where
    by : (o : Option SectionDue) (t b : Bool) → look_by o (t || b) ≡ (if t then None else look_by o b)
    by None true b = refl
    by None false b = refl
    by (Some x) true b = refl
    by (Some x) false b = refl

-- what is left to come, where these are seen
pub record Left (p : Parted) (seen : List Word) (gs : List Group) : Type 0 where
  pub looks : (w : Word) → look p seen w ≡ option_map due_of (pick gs w)
  pub counts : tables.Counts Piece due_of gs
  pub differ : tables.Differ Piece due_of gs
  pub heads : EachIs (λ (g : Group). is_among (codes ":task") (words_of g) ≡ is_head g.2) gs

left_behind : (p : Parted) (seen : List Word) (gs : List Group) (w : Word) (x : Piece) → Left p seen gs → pick gs w ≡ Some x → Left p (counts_as w ∷ seen) (drop_group w gs)
left_behind p seen gs w x l e = record {
  looks = λ u. look_more p seen w u ∙ (ap (λ (o : Option SectionDue). if bytes_eq (counts_as u) (counts_as w) then None else o) (l.looks u)
      ∙ (inside (bytes_eq (counts_as u) (counts_as w)) (pick gs u) ∙ ap (option_map due_of) (sym (tables.left_over Piece due_of gs w u x l.counts l.differ e))));
  counts = tables.each_left Piece due_of _ gs w l.counts;
  differ = tables.differ_left Piece due_of gs w l.differ;
  heads = tables.each_left Piece due_of _ gs w l.heads;
}
  where
    inside : (b : Bool) (o : Option Piece) → ◌≡◌ {A = Option SectionDue} (if b then None else option_map due_of o) (option_map due_of (if b then None else o))
    inside true o = refl
    inside false o = refl

pub all_left : (p : Parted) → Left p [] (pieces p)
all_left p = record {
  looks = λ w. plain (entry (part_table p) w) ∙ (ap (λ (t : Table SectionDue). entry t w) (flat p) ∙ tables.entry_flat Piece due_of (pieces p) w);
  counts = counts p;
  differ = differ p;
  heads = heads p;
}
  where
    plain : (o : Option SectionDue) → look_by o false ≡ o
    plain None = refl
    plain (Some x) = refl

    flat : (p : Parted) → part_table p ≡ tables.flatten Piece due_of (pieces p)
    flat task = refl
    flat action = refl
    flat method = refl
    flat network = refl

    counts : (p : Parted) → tables.Counts Piece due_of (pieces p)
    counts task = ((refl, tt), ((refl, tt), ((refl, tt), tt)))
    counts action = ((refl, tt), ((refl, tt), ((refl, tt), tt)))
    counts method = ((refl, tt), ((refl, tt), ((refl, tt), ((refl, (refl, (refl, (refl, tt)))), ((refl, (refl, tt)), ((refl, tt), tt))))))
    counts network = ((refl, tt), ((refl, (refl, (refl, (refl, tt)))), ((refl, (refl, tt)), ((refl, tt), tt))))

    differ : (p : Parted) → tables.Differ Piece due_of (pieces p)
    differ task = ((refl, (refl, tt)), ((refl, tt), (tt, tt)))
    differ action = ((refl, (refl, tt)), ((refl, tt), (tt, tt)))
    differ method = ((refl, (refl, (refl, (refl, (refl, tt))))), ((refl, (refl, (refl, (refl, tt)))), ((refl, (refl, (refl, tt))), ((refl, (refl, tt)), ((refl, tt), (tt, tt))))))
    differ network = ((refl, (refl, (refl, tt))), ((refl, (refl, tt)), ((refl, tt), (tt, tt))))

    heads : (p : Parted) → EachIs (λ (g : Group). is_among (codes ":task") (words_of g) ≡ is_head g.2) (pieces p)
    heads task = (refl, (refl, (refl, tt)))
    heads action = (refl, (refl, (refl, tt)))
    heads method = (refl, (refl, (refl, (refl, (refl, (refl, tt))))))
    heads network = (refl, (refl, (refl, (refl, tt))))

-- Nothing need come but the task of a method.
empty_spells : (x : Piece) → is_head x ≡ false → Spells x (group nothing)
empty_spells params e = piece_to params (close 0) tt
empty_spells formula e = piece_to formula (close 0) tt
empty_spells effect e = piece_to effect (close 0) tt
empty_spells empty e = refl
empty_spells head e = false_true (sym e)
empty_spells children e = piece_to children (close 0) tt
empty_spells pairs e = piece_to pairs (close 0) tt
empty_spells limits e = piece_to limits (close 0) tt

no_head : (x : Piece) → is_head x ≡ true → Spells x (group nothing) → ⊥
no_head params e s = false_true e
no_head formula e s = false_true e
no_head effect e s = false_true e
no_head empty e s = false_true e
no_head head e s = piece_from head (close 0) tt s
no_head children e s = false_true e
no_head pairs e s = false_true e
no_head limits e s = false_true e

none_due : (gs : List Group) → EachIs (λ (g : Group). is_among (codes ":task") (words_of g) ≡ is_head g.2) gs → pick gs (codes ":task") ≡ None → AllFound gs nothing
none_due [] h e = tt
none_due (g ∷ gs) h e = by (is_among (codes ":task") (words_of g)) refl e (none_due gs h.1)
  where
    by : (b : Bool) → is_among (codes ":task") (words_of g) ≡ b → (if b then Some g.2 else pick gs (codes ":task")) ≡ None → (pick gs (codes ":task") ≡ None → AllFound gs nothing) → Spells g.2 (group nothing) × AllFound gs nothing
    by true f e more = absurd (cc)
    by false f e more = (empty_spells g.2 (sym h.0 ∙ f), more e)

due_none : (gs : List Group) → EachIs (λ (g : Group). is_among (codes ":task") (words_of g) ≡ is_head g.2) gs → AllFound gs nothing → pick gs (codes ":task") ≡ None
due_none [] h a = refl
due_none (g ∷ gs) h a = by (is_among (codes ":task") (words_of g)) refl (due_none gs h.1 a.1)
  where
    by : (b : Bool) → is_among (codes ":task") (words_of g) ≡ b → pick gs (codes ":task") ≡ None → (if b then Some g.2 else pick gs (codes ":task")) ≡ None
    by true f more = absurd (no_head g.2 (sym h.0 ∙ f) a.0)
    by false f more = more

unmapped : (o : Option Piece) → None ≡ option_map due_of o → o ≡ None
unmapped None e = refl
unmapped (Some x) e = absurd (cc)

may_end : (p : Parted) (seen : List Word) (gs : List Group) → Left p seen gs → has_parts p seen ≡ true → AllFound gs nothing
may_end p seen gs l e = none_due gs l.heads (unmapped (pick gs (codes ":task")) (sym (gone p e) ∙ l.looks (codes ":task")))
  where
    gone : (p : Parted) → has_parts p seen ≡ true → look p seen (codes ":task") ≡ None
    gone task e = refl
    gone action e = refl
    gone network e = refl
    gone method e = ap (λ b. look_by (Some (due_of head)) b) e

ends : (p : Parted) (seen : List Word) (gs : List Group) → Left p seen gs → AllFound gs nothing → has_parts p seen ≡ true
ends p seen gs l a = there p (l.looks (codes ":task") ∙ ap (option_map due_of) (due_none gs l.heads a))
  where
    there : (p : Parted) → look p seen (codes ":task") ≡ None → has_parts p seen ≡ true
    there task e = refl
    there action e = refl
    there network e = refl
    there method e = by (is_among (codes ":task") seen) e
      where
        by : (b : Bool) → look_by (Some (due_of head)) b ≡ None → b ≡ true
        by true e = refl
        by false e = absurd (cc)

closed_if : (b : Bool) (at : ℕ) → Whole (closed (if_allowed b 8 tt) at) → b ≡ true
closed_if true at h = refl
closed_if false at h = absurd h

if_closed : (b : Bool) (at : ℕ) → b ≡ true → Whole (closed (if_allowed b 8 tt) at)
if_closed true at e = tt
if_closed false at e = false_true e

-- the piece that was picked
picked : (o : Option Piece) (x : SectionDue) → option_map due_of o ≡ Some x → (y : Piece) × (o ≡ Some y) × (due_of y ≡ x)
picked None x e = absurd (cc)
picked (Some y) x e = (y, refl, ap (λ (o : Option SectionDue). elim o [ None ↦ due_of y | Some z ↦ z ]) e)

abbrev pub Listed : List Group → Parts → Type 0
Listed gs ps = (are_entries (groups_of gs) ps ≡ true) × AllFound gs ps

pub listed_to : (q : Placed) (p : Parted) (seen : List Word) (gs : List Group) → Left p seen gs → Whole (form section_rows (parts p seen) q) → Listed gs (parts_of q)
listed_to cut p seen gs l h = absurd h
listed_to (close at) p seen gs l h = (refl, may_end p seen gs l (closed_if (has_parts p seen) at h))
listed_to (list at S T) p seen gs l h = absurd h
listed_to (word at w cut) p seen gs l h = absurd (key_to p seen (λ x. due.group x (parts p (counts_as w ∷ seen))) w at cut h).2
listed_to (word at w (close b)) p seen gs l h = absurd (key_to p seen (λ x. due.group x (parts p (counts_as w ∷ seen))) w at (close b) h).2
listed_to (word at w (word b u r)) p seen gs l h = absurd (key_to p seen (λ x. due.group x (parts p (counts_as w ∷ seen))) w at (word b u r) h).2
listed_to (word at w (list b S T)) p seen gs l h =
    let k = key_to p seen (λ x. due.group x (parts p (counts_as w ∷ seen))) w at (list b S T) h in
    let y = picked (pick gs w) k.0 (sym (l.looks w) ∙ k.1) in
    let c = whole_then (form section_rows k.0 S) (form section_rows (parts p (counts_as w ∷ seen)) T) k.2 in
    let s = piece_to y.0 S (subst (λ x. Whole (form section_rows x S)) (sym y.2) c.0) in
    let m = listed_to T p (counts_as w ∷ seen) (drop_group w gs) (left_behind p seen gs w y.0 l y.1) c.1 in (
      and_from (is_in_one w (groups_of gs)) _ (tables.is_in Piece due_of gs w y.0 y.1) (ap (λ kss. are_entries kss (parts_of T)) (tables.without_is Piece due_of gs w) ∙ m.0),
      tables.found_to Piece due_of Spells gs w (group (parts_of S)) (parts_of T) y.0 l.counts l.differ y.1 s m.1,
    )

-- a keyword that may come
which : (gs : List Group) (w : Word) → is_in_one w (groups_of gs) ≡ true → (y : Piece) × (pick gs w ≡ Some y)
which gs w e = by (pick gs w) refl
  where
    by : (o : Option Piece) → pick gs w ≡ o → (y : Piece) × (pick gs w ≡ Some y)
    by (Some y) f = (y, f)
    by None f = false_true (sym (tables.not_in Piece due_of gs w f) ∙ e)

pub listed_from : (q : Placed) (p : Parted) (seen : List Word) (gs : List Group) → Left p seen gs → IsWhole q → Listed gs (parts_of q) → Whole (form section_rows (parts p seen) q)
listed_from cut p seen gs l w i = w
listed_from (close at) p seen gs l w i = if_closed (has_parts p seen) at (ends p seen gs l i.1)
listed_from (list at S cut) p seen gs l w i = absurd w.1
listed_from (list at S (close b)) p seen gs l w i = false_true i.0
listed_from (list at S (word b u r)) p seen gs l w i = false_true i.0
listed_from (list at S (list b T U)) p seen gs l w i = false_true i.0
listed_from (word at k cut) p seen gs l w i = absurd w
listed_from (word at k (close b)) p seen gs l w i = false_true i.0
listed_from (word at k (word b u r)) p seen gs l w i =
    let a = and_parts (is_in_one k (groups_of gs)) _ i.0 in
    let y = which gs k a.0 in
    absurd (piece_no_word y.0 u (tables.found_from Piece due_of Spells gs k (name u) (parts_of r) y.0 l.counts l.differ y.1 i.1).0)
listed_from (word at k (list b S T)) p seen gs l w i =
    let a = and_parts (is_in_one k (groups_of gs)) _ i.0 in
    let y = which gs k a.0 in
    let f = tables.found_from Piece due_of Spells gs k (group (parts_of S)) (parts_of T) y.0 l.counts l.differ y.1 i.1 in
    let m = listed_from T p (counts_as k ∷ seen) (drop_group k gs) (left_behind p seen gs k y.0 l y.1) w.1 (sym (ap (λ kss. are_entries kss (parts_of T)) (tables.without_is Piece due_of gs k)) ∙ a.1, f.1) in
    key_from p seen (λ x. due.group x (parts p (counts_as k ∷ seen))) k at (list b S T) (due_of y.0) (l.looks k ∙ ap (option_map due_of) y.1)
    (then_whole (form section_rows (due_of y.0) S) (form section_rows (parts p (counts_as k ∷ seen)) T) (piece_from y.0 S w.0 f.0) m)
