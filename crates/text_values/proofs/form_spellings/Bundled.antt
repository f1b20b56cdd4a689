-- () | item | ( and item* ) in the grammar, and the list of its items.
use Rattle.std.proofs.Common.{◌≡◌, ℕ, inl, inr, Bool, true, false, List, [], ◌∷◌, codes, refl, sym, ap, subst, ◌∙◌}
use Rattle.std.specs.Str.{bytes_eq}
use Rattle.text_forms.specs.Lists.{Part, Parts, name, group, nothing, part}
use Rattle.text_forms.specs.Placed.{Placed, cut, close, word, list, parts_of, IsWhole}
use Rattle.text_forms.specs.Words.{Word}
use Rattle.text_forms.specs.form_grammar.Codes.{Form, wrong, Whole, ◌followed_by◌}
use Rattle.text_forms.specs.form_grammar.Networks.{NetworkDue, network_rows}
use Rattle.text_forms.specs.form_grammar.Rows.{Next, go, stop, Row, form, closed, front, word_due, word_or_end, list_or_end}
use Rattle.text_forms.specs.form_grammar.Words.{by_word}
use Rattle.text_forms.proofs.form_grammar.Meaning.{whole_then, then_whole}
use Rattle.hddl_reader.proofs.TermsSaid.{at_next}
use Rattle.plan_texts.specs.Sections.{bundle, bundle_by}
use Rattle.plan_texts.specs.TypedLists.{Each}
use Rattle.plan_texts.proofs.Basics.{bytes_eq-true}
use Rattle.text_values.proofs.form_spellings.RowTests.{by_cons, by_here, by_later}
use Rattle.text_values.proofs.form_spellings.Unions.{flip}

pub bundle_and : (w : Word) (ps : Parts) → w ≡ codes "and" → bundle (group (part (name w) ps)) ≡ ps
bundle_and w ps e = ap (λ b. bundle_by b ps (part (group (part (name w) ps)) nothing)) (ap (bytes_eq (codes "and")) e)

pub bundle_one : (w : Word) (ps : Parts) → bytes_eq w (codes "and") ≡ false → bundle (group (part (name w) ps)) ≡ part (group (part (name w) ps)) nothing
bundle_one w ps e = ap (λ b. bundle_by b ps (part (group (part (name w) ps)) nothing)) (flip (codes "and") w ∙ e)

close_is : (d : NetworkDue) (r : Row NetworkDue) (at : ℕ) → network_rows d ≡ r → form network_rows d (close at) ≡ closed r.at_close at
close_is d r at e = ap (λ (r : Row NetworkDue). closed r.at_close at) e

word_is : (d : NetworkDue) (r : Row NetworkDue) (at : ℕ) (w : Word) (p : Placed) → network_rows d ≡ r → form network_rows d (word at w p) ≡ at_next network_rows (r.at_word w) at p
word_is d r at w p e = ap (λ (r : Row NetworkDue). at_next network_rows (r.at_word w) at p) e

abbrev list_by : Row NetworkDue → ℕ → Placed → Placed → Form
list_by r at p q = elim (r.at_list) [
  | go i ↦ form network_rows i.inside p followed_by form network_rows (i.behind (front p)) q
  | stop code ↦ wrong code at
]

list_is : (d : NetworkDue) (r : Row NetworkDue) (at : ℕ) (p q : Placed) → network_rows d ≡ r → form network_rows d (list at p q) ≡ list_by r at p q
list_is d r at p q e = ap (λ (r : Row NetworkDue). list_by r at p q) e

module _ (start more item : NetworkDue) (item_word : Word → Next NetworkDue) (start_row : network_rows start ≡ word_or_end 8 (by_word ((codes "and", more) ∷ []) item_word))
    (more_row : network_rows more ≡ list_or_end 8 item more) (item_row : network_rows item ≡ word_due 8 item_word) {X : Type 0} (Is : X → Part → Type 0) where
  -- what is whole spells values, where an item does
  module _ (Known : Placed → Type 0) (inside : (at : ℕ) (p q : Placed) → Known (list at p q) → Known p × Known q) (behind : (at : ℕ) (w : Word) (p : Placed) → Known (word at w p) → Known p)
      (item_to : (p : Placed) → Known p → Whole (form network_rows item p) → IsWhole p × ((x : X) × Is x (group (parts_of p)))) where
    more_to : (p : Placed) → Known p → Whole (form network_rows more p) → IsWhole p × ((xs : List X) × Each Is xs (parts_of p))
    more_to cut k h = absurd h
    more_to (close at) k h = (tt, ([], tt))
    more_to (word at w p) k h = absurd (subst Whole (word_is more _ at w p more_row) h)
    more_to (list at p q) k h =
        let b = whole_then (form network_rows item p) (form network_rows more q) (subst Whole (list_is more _ at p q more_row) h) in
        let ks = inside at p q k in
        let x = item_to p ks.0 b.0 in
        let xs = more_to q ks.1 b.1 in
        ((x.0, xs.0), (x.1.0 ∷ xs.1.0, (x.1.1, xs.1.1)))

    pub bundle_to : (p : Placed) → Known p → Whole (form network_rows start p) → IsWhole p × ((xs : List X) × Each Is xs (bundle (group (parts_of p))))
    bundle_to cut k h = absurd h
    bundle_to (close at) k h = (tt, ([], tt))
    bundle_to (list at p q) k h = absurd (subst Whole (list_is start _ at p q start_row) h)
    bundle_to (word at w p) k h = elim (by_cons network_rows (codes "and") w more [] item_word at p (subst Whole (word_is start _ at w p start_row) h)) [
      | inl e ↦ (let g = more_to p (behind at w p k) e.1 in (g.0, (g.1.0, subst (Each Is g.1.0) (sym (bundle_and w (parts_of p) e.0)) g.1.1)))
      | inr e ↦
          (let g = item_to (word at w p) k (subst Whole (sym (word_is item _ at w p item_row)) e.1) in
          (g.0, (g.1.0 ∷ [], subst (Each Is (g.1.0 ∷ [])) (sym (bundle_one w (parts_of p) e.0)) (g.1.1, tt))))
    ]

  -- what spells values is whole
  module _ (item_from : (p : Placed) (x : X) → IsWhole p → Is x (group (parts_of p)) → Whole (form network_rows item p)) (no_word : (x : X) (w : Word) → Is x (name w) → ⊥) where
    more_from : (p : Placed) (xs : List X) → IsWhole p → Each Is xs (parts_of p) → Whole (form network_rows more p)
    more_from cut xs w e = w
    more_from (close at) xs w e = subst Whole (sym (close_is more _ at more_row)) tt
    more_from (word at u p) [] w e = absurd e
    more_from (word at u p) (x ∷ xs) w e = absurd (no_word x u e.0)
    more_from (list at p q) [] w e = absurd e
    more_from (list at p q) (x ∷ xs) w e =
        subst Whole (sym (list_is more _ at p q more_row)) (then_whole (form network_rows item p) (form network_rows more q) (item_from p x w.0 e.0) (more_from q xs w.1 e.1))

    one : (q : Part) (xs : List X) → Each Is xs (part q nothing) → (x : X) × Is x q
    one q [] e = absurd e
    one q (x ∷ xs) e = (x, e.0)

    pub bundle_from : (p : Placed) (xs : List X) → IsWhole p → Each Is xs (bundle (group (parts_of p))) → Whole (form network_rows start p)
    bundle_from cut xs w e = w
    bundle_from (close at) xs w e = subst Whole (sym (close_is start _ at start_row)) tt
    bundle_from (list at p q) xs w e = let x = one (group (part (group (parts_of p)) (parts_of q))) xs e in absurd (subst Whole (list_is item _ at p q item_row) (item_from (list at p q) x.0 w x.1))
    bundle_from (word at u p) xs w e = subst Whole (sym (word_is start _ at u p start_row)) (by (bytes_eq u (codes "and")) refl)
      where
        by : (b : Bool) → bytes_eq u (codes "and") ≡ b → Whole (at_next network_rows (by_word ((codes "and", more) ∷ []) item_word u) at p)
        by true f = let g = bytes_eq-true u (codes "and") f in by_here network_rows (codes "and") u more [] item_word at p g (more_from p xs w (subst (Each Is xs) (bundle_and u (parts_of p) g) e))
        by false f =
            let x = one (group (part (name u) (parts_of p))) xs (subst (Each Is xs) (bundle_one u (parts_of p) f) e) in
            by_later network_rows (codes "and") u more [] item_word at p f (subst Whole (word_is item _ at u p item_row) (item_from (word at u p) x.0 w x.1))
