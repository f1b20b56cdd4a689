-- What is printed for a plan is read back as the plan.
use Rattle.std.proofs.Common.{ℕ, suc, ◌≡◌, ◌∙◌, ◌+◌, ◌==◌, ◌||◌, inl, inr, Bool, true, false, Option, Some, List, [], ◌∷◌, ◌++◌, map, drop, length, codes, refl, sym, ap, ap₂, subst, append_assoc, arith}
use Rattle.std.specs.Fmt.{decimal}
use Rattle.std.specs.List.{filter_map, cons_option}
use Rattle.std.proofs.lemmas.Bool.{eq-eqb, ne_eqb}
use Rattle.std.proofs.lemmas.List.{append-nil, map-append}
use Rattle.htn_base.specs.Different.{AreDifferent}
use Rattle.plan_texts.specs.Types.{Has, EachIs}
use Rattle.plan_texts.proofs.Members.{has-contains, has-to_map}
use Rattle.text_forms.specs.Faults.{Fault, fault}
use Rattle.hplan_text.specs.declared.mention.Mention.{Mention}
use Rattle.hplan_text.specs.declared.values.HLine.{HLine}
use Rattle.hplan_text.specs.declared.values.HNode.{HNode}
use Rattle.hplan_text.specs.declared.values.HPlan.{HPlan}
use Rattle.hplan_text.specs.Lines.{Line, Marked, with_line, end_or, ends_plan, up_to_end, behind_begin, marked}
use Rattle.hplan_text.specs.Rows.{Row, bad, top, primitive, decomposed, row, number, primitive_line, top_ids, node, own_id, listed_ids, is_bad}
use Rattle.hplan_text.specs.SpellsHPlan.{rows, own_ids, all_listed, tops, first_top, plan_of, SpellsHPlan}
use Rattle.hplan_text.specs.HPlanText.{words_text, row_text, rows_text, line_words, root_words, node_words, line_rows, node_rows, hplan_text}
use Rattle.hplan_text.specs.HPlanFaults.{bad_place, top_place, bad_places, top_places, no_root, line_faults, faults_of_lines, is_among, put_if, repeats_behind, repeats, others, faults_at, id_faults, faults_of_ids, Reaches, IsUnreached, IsTreeFault}
use Rattle.hplan_text.specs.Printable.{IsPrintableLine, IsPrintableNode, IsPrintableHPlan, line_id, node_id, task_ids, listed_by, all_ids, IsSoundHPlan, PrintableHPlansAreReadBack}
use Rattle.hplan_text.proofs.PhaseFaults.{faultless}
use Rattle.hplan_text.proofs.PrintedWords.{IsPlain, each-append, lines_of, rows-lines}
use Rattle.hplan_text.proofs.PrintedRows.{id-value, numbers-are, mentions, line_at, id_at, primitive-row, behind_name, node-row, root-row, line-plain, root-plain, node-plain}

abbrev first_of : List (List ℕ) → List ℕ
first_of [] = []
first_of (x ∷ xs) = x

-- lines up to an end say these tasks, the ids of these root lines, and these decompositions
record IsUpTo (o : Option Marked) (lines : List HLine) (roots : List (List ℕ)) (nodes : List HNode) : Type 0 where
  m : Marked
  is : o ≡ Some m
  formed : EachIs (λ r. is_bad r ≡ false) (rows m)
  lines_are : filter_map primitive_line (rows m) ≡ lines
  tops_are : map (map number) (tops (rows m)) ≡ roots
  nodes_are : filter_map node (rows m) ≡ nodes
  own : map number (own_ids (rows m)) ≡ map line_id lines ++ map node_id nodes
  listed : map number (all_listed (rows m)) ≡ first_of roots ++ listed_by nodes

put-line : (l : Line) (o : Option Marked) (m : Marked) → ends_plan l ≡ false → o ≡ Some m → end_or (ends_plan l) l o ≡ Some (with_line l m)
put-line l o m e f = ap₂ (λ t z. end_or t l z) e f

abbrev line_by : HLine → ℕ → HLine
line_by x n = record { id = n; name = x.name; args = x.args }

abbrev node_by : HNode → ℕ → List ℕ → HNode
node_by x n ids = record { line = line_by x.line n; method = x.method; ids = ids }

-- one more line in front
module _ (l : Line) (o : Option Marked) (lines : List HLine) (roots : List (List ℕ)) (nodes : List HNode) (e : ends_plan l ≡ false) (y : IsUpTo o lines roots nodes) where
  line-up : (x : HLine) (m : Mention) → row l ≡ primitive m x.name x.args → m.id ≡ x.id → IsUpTo (end_or (ends_plan l) l o) (x ∷ lines) roots nodes
  line-up x m r i = record {
    m = with_line l y.m;
    is = put-line l o y.m e y.is;
    formed = (ap is_bad r, y.formed);
    lines_are = ap (λ z. cons_option (primitive_line z) (filter_map primitive_line (rows y.m))) r ∙ ap₂ (λ k xs. line_by x k ∷ xs) i y.lines_are;
    tops_are = ap (λ z. map (map number) (cons_option (top_ids z) (tops (rows y.m)))) r ∙ y.tops_are;
    nodes_are = ap (λ z. cons_option (node z) (filter_map node (rows y.m))) r ∙ y.nodes_are;
    own = ap (λ z. map number (cons_option (own_id z) (own_ids (rows y.m)))) r ∙ ap₂ (λ k ks. k ∷ ks) i y.own;
    listed = ap (λ z. map number (listed_ids z ++ all_listed (rows y.m))) r ∙ y.listed;
  }

module _ (l : Line) (o : Option Marked) (nodes : List HNode) (e : ends_plan l ≡ false) (y : IsUpTo o [] [] nodes) where
  root-up : (root : List ℕ) (ms : List Mention) → row l ≡ top ms → map number ms ≡ root → IsUpTo (end_or (ends_plan l) l o) [] (root ∷ []) nodes
  root-up root ms r i = record {
    m = with_line l y.m;
    is = put-line l o y.m e y.is;
    formed = (ap is_bad r, y.formed);
    lines_are = ap (λ z. cons_option (primitive_line z) (filter_map primitive_line (rows y.m))) r ∙ y.lines_are;
    tops_are = ap (λ z. map (map number) (cons_option (top_ids z) (tops (rows y.m)))) r ∙ ap₂ (λ k ks. k ∷ ks) i y.tops_are;
    nodes_are = ap (λ z. cons_option (node z) (filter_map node (rows y.m))) r ∙ y.nodes_are;
    own = ap (λ z. map number (cons_option (own_id z) (own_ids (rows y.m)))) r ∙ y.own;
    listed = ap (λ z. map number (listed_ids z ++ all_listed (rows y.m))) r ∙ map-append number ms (all_listed (rows y.m)) ∙ ap₂ (λ a b. a ++ b) i y.listed;
  }

  node-up : (x : HNode) (m : Mention) (ms : List Mention) → row l ≡ decomposed m x.line.name x.line.args x.method ms → m.id ≡ x.line.id → map number ms ≡ x.ids → IsUpTo (end_or (ends_plan l) l o) [] [] (x ∷ nodes)
  node-up x m ms r i j = record {
    m = with_line l y.m;
    is = put-line l o y.m e y.is;
    formed = (ap is_bad r, y.formed);
    lines_are = ap (λ z. cons_option (primitive_line z) (filter_map primitive_line (rows y.m))) r ∙ y.lines_are;
    tops_are = ap (λ z. map (map number) (cons_option (top_ids z) (tops (rows y.m)))) r ∙ y.tops_are;
    nodes_are = ap (λ z. cons_option (node z) (filter_map node (rows y.m))) r ∙ ap₂ (λ x xs. x ∷ xs) (ap₂ (node_by x) i j) y.nodes_are;
    own = ap (λ z. map number (cons_option (own_id z) (own_ids (rows y.m)))) r ∙ ap₂ (λ k ks. k ∷ ks) i y.own;
    listed = ap (λ z. map number (listed_ids z ++ all_listed (rows y.m))) r ∙ map-append number ms (all_listed (rows y.m)) ∙ ap₂ (λ a b. a ++ b) j y.listed;
  }

-- the rows of a plan, from the last one back

abbrev end_row : List (List ℕ)
end_row = codes "<==" ∷ []

abbrev node_list : List HNode → List (List (List ℕ))
node_list nodes = map node_words nodes ++ end_row ∷ []

abbrev root_list : HPlan → List (List (List ℕ))
root_list plan = root_words plan.root ∷ node_list plan.nodes

nodes-to : (at : ℕ) (nodes : List HNode) → EachIs IsPrintableNode nodes → IsUpTo (up_to_end (lines_of at (node_list nodes))) [] [] nodes
nodes-to at [] p = record { m = record { lines = []; end = at }; is = refl; formed = tt; lines_are = refl; tops_are = refl; nodes_are = refl; own = refl; listed = refl }
nodes-to at (x ∷ xs) p =
    let r = node-row at x p.0 in
    let k : ℕ = at + suc (length (words_text (node_words x))) in
    node-up (line_at at (decimal x.line.id) (x.line.name ∷ behind_name x)) (up_to_end (lines_of k (node_list xs))) xs refl (nodes-to (at + suc (length (words_text (node_words x)))) xs p.1) x (id_at at x.line.id) (mentions r.0 x.ids) r.1
    (id-value x.line.id p.0.line.id) (numbers-are r.0 x.ids p.0.ids)

not-end : (at : ℕ) (ids : List ℕ) → ends_plan (line_at at (codes "root") (map decimal ids)) ≡ false
not-end at [] = refl
not-end at (n ∷ ns) = refl

root-to : (at : ℕ) (plan : HPlan) → IsPrintableHPlan plan → IsUpTo (up_to_end (lines_of at (root_list plan))) [] (plan.root ∷ []) plan.nodes
root-to at plan p =
    root-up (line_at at (codes "root") (map decimal plan.root)) (up_to_end (lines_of _ (node_list plan.nodes))) plan.nodes (not-end at plan.root) (nodes-to _ plan.nodes p.nodes) plan.root
    (mentions (at + suc (length (codes "root"))) plan.root) (root-row at plan.root p.root) (numbers-are (at + suc (length (codes "root"))) plan.root p.root)

lines-to : (at : ℕ) (plan : HPlan) (lines : List HLine) → IsPrintableHPlan plan → EachIs IsPrintableLine lines
    → IsUpTo (up_to_end (lines_of at (map line_words lines ++ root_list plan))) lines (plan.root ∷ []) plan.nodes
lines-to at plan [] p q = root-to at plan p
lines-to at plan (x ∷ xs) p q =
    let k : ℕ = at + suc (length (words_text (line_words x))) in
    line-up (line_at at (decimal x.id) (x.name ∷ x.args)) (up_to_end (lines_of k (map line_words xs ++ root_list plan))) xs (plan.root ∷ []) plan.nodes refl
    (lines-to (at + suc (length (words_text (line_words x)))) plan xs p q.1) x
    (id_at at x.id) (primitive-row at x q.0) (id-value x.id q.0.id)

-- the text of a plan is that of its rows

abbrev behind_begin_row : HPlan → List (List (List ℕ))
behind_begin_row plan = map line_words plan.primitives ++ root_list plan

abbrev plan_rows : HPlan → List (List (List ℕ))
plan_rows plan = (codes "==>" ∷ []) ∷ behind_begin_row plan

rows-append : (xs ys : List (List (List ℕ))) → rows_text (xs ++ ys) ≡ rows_text xs ++ rows_text ys
rows-append [] ys = refl
rows-append (x ∷ xs) ys = ap (λ z. row_text x ++ z) (rows-append xs ys) ∙ sym (append_assoc (row_text x) (rows_text xs) (rows_text ys))

text-rows : (plan : HPlan) → rows_text (plan_rows plan) ≡ hplan_text plan
text-rows plan =
    ap (λ z. row_text (codes "==>" ∷ []) ++ z)
    (rows-append (map line_words plan.primitives) (root_list plan)
    ∙ ap (λ z. line_rows plan.primitives ++ (row_text (root_words plan.root) ++ z)) (rows-append (map node_words plan.nodes) (end_row ∷ []) ∙ ap (λ z. node_rows plan.nodes ++ z) (append-nil (row_text end_row))))

each-mapped : {X Y : Type 0} (P : X → Type 0) (Q : Y → Type 0) (f : X → Y) → ((x : X) → P x → Q (f x)) → (xs : List X) → EachIs P xs → EachIs Q (map f xs)
each-mapped P Q f h [] p = tt
each-mapped P Q f h (x ∷ xs) p = (h x p.0, each-mapped P Q f h xs p.1)

rows-plain : (plan : HPlan) → IsPrintableHPlan plan → EachIs (EachIs IsPlain) (plan_rows plan)
rows-plain plan p = (
  ((omega arith, (refl, (refl, (refl, tt)))), tt),
  each-append (EachIs IsPlain) (map line_words plan.primitives) (root_list plan) (each-mapped IsPrintableLine (EachIs IsPlain) line_words line-plain plan.primitives p.primitives) (
    root-plain plan.root p.root,
    each-append (EachIs IsPlain) (map node_words plan.nodes) (end_row ∷ []) (each-mapped IsPrintableNode (EachIs IsPlain) node_words node-plain plan.nodes p.nodes)
        (((omega arith, (refl, (refl, (refl, tt)))), tt), tt),
  ),
)

marked-is : (plan : HPlan) → IsPrintableHPlan plan → marked (hplan_text plan) ≡ up_to_end (lines_of 4 (behind_begin_row plan))
marked-is plan p = ap marked (sym (text-rows plan)) ∙ ap behind_begin (rows-lines 0 (plan_rows plan) (rows-plain plan p))

-- lines of which each has a form and one is the root line have no fault

no-bad : (ls : List Line) → EachIs (λ r. is_bad r ≡ false) (map row ls) → bad_places ls ≡ []
no-bad [] e = refl
no-bad (l ∷ ls) e = by (row l) e.0 (no-bad ls e.1)
  where
    by : (r : Row) → is_bad r ≡ false → bad_places ls ≡ [] → cons_option (bad_place l r) (bad_places ls) ≡ []
    by bad e h = absurd cc
    by (top ids) e h = h
    by (primitive m name args) e h = h
    by (decomposed m name args method ids) e h = h

as-many : (ls : List Line) → length (top_places ls) ≡ length (tops (map row ls))
as-many [] = refl
as-many (l ∷ ls) = by (row l) (as-many ls)
  where
    by : (r : Row) → length (top_places ls) ≡ length (tops (map row ls)) → length (cons_option (top_place l r) (top_places ls)) ≡ length (cons_option (top_ids r) (tops (map row ls)))
    by bad h = h
    by (top ids) h = ap suc h
    by (primitive m name args) h = h
    by (decomposed m name args method ids) h = h

one-place : (ps : List ℕ) (end : ℕ) → length ps ≡ 1 → map (fault 31) (drop 1 ps) ++ no_root ps end ≡ []
one-place [] end e = absurd (omega arith)
one-place (p ∷ []) end e = refl
one-place (p ∷ q ∷ ps) end e = absurd (omega arith)

no-line-fault : (m : Marked) (root : List Mention) → EachIs (λ r. is_bad r ≡ false) (rows m) → tops (rows m) ≡ root ∷ [] → line_faults m ≡ []
no-line-fault m root e f =
    ap (λ z. map (fault 31) z ++ (map (fault 31) (drop 1 (top_places m.lines)) ++ no_root (top_places m.lines) m.end)) (no-bad m.lines e) ∙ one-place (top_places m.lines) m.end (as-many m.lines ∙ ap length f)

one-mapped : {X Y : Type 0} (f : X → Y) (xs : List X) (y : Y) → map f xs ≡ y ∷ [] → (x : X) × (xs ≡ x ∷ []) × (f x ≡ y)
one-mapped f [] y e = absurd cc
one-mapped f (x ∷ []) y e = (x, refl, cc)
one-mapped f (x ∷ z ∷ xs) y e = absurd cc

-- ids of which none repeats, and of which each is known, have no fault

among : (n : ℕ) (ns : List ℕ) → Has ns n → is_among n ns ≡ true
among n [] h = absurd h
among n (k ∷ ns) (inl e) = ap (λ t. t || is_among n ns) (eq-eqb k n e)
among n (k ∷ ns) (inr h) = ap (λ t. (k == n) || t) (among n ns h) ∙ either (k == n)
  where
    either : (b : Bool) → (b || true) ≡ true
    either true = refl
    either false = refl

no-repeats : (seen : List ℕ) (ms : List Mention) → AreDifferent (map number ms) → ((n : ℕ) → Has (map number ms) n → is_among n seen ≡ false) → repeats_behind seen ms ≡ []
no-repeats seen [] d new = refl
no-repeats seen (m ∷ ms) d new =
    ap₂ (λ t z. put_if t m z) (new m.id (inl refl))
    (no-repeats (m.id ∷ seen) ms d.1 (λ n h. ap₂ (λ a b. a || b) (ne_eqb m.id n (λ e. d.0 (has-contains (map number ms) m.id (subst (Has (map number ms)) (sym e) h)))) (new n (inr h))))

no-others : (known : List ℕ) (ms : List Mention) → ((n : ℕ) → Has (map number ms) n → Has known n) → others known ms ≡ []
no-others known [] h = refl
no-others known (m ∷ ms) h = ap₂ (λ t z. put_if t m z) (ap (λ t. elim t [ true ↦ false | false ↦ true ]) (among m.id known (h m.id (inl refl)))) (no-others known ms (λ n i. h n (inr i)))

no-id-fault : (rs : List Row) (plan : HPlan) → IsSoundHPlan plan → map number (own_ids rs) ≡ task_ids plan → map number (all_listed rs) ≡ all_ids plan → id_faults rs ≡ []
no-id-fault rs plan s e f =
    let own = no-repeats [] (own_ids rs) (subst AreDifferent (sym e) s.own) (λ n h. refl) in
    let once = no-repeats [] (all_listed rs) (subst AreDifferent (sym f) s.once) (λ n h. refl) in
    let known = no-others (map number (own_ids rs)) (all_listed rs) (λ n h. subst (λ ns. Has ns n) (sym e) (s.known n (subst (λ ns. Has ns n) f h))) in
    ap₂ (λ a b. faults_at 32 a ++ (faults_at 33 b ++ faults_at 34 (repeats (all_listed rs)))) own known ∙ ap (faults_at 34) once

no-tree-fault : (rs : List Row) (plan : HPlan) → IsSoundHPlan plan → map number (own_ids rs) ≡ task_ids plan → plan ≡ plan_of rs → (f : Fault) → IsUnreached rs f → ⊥
no-tree-fault rs plan s e q f u =
    u.2 (subst (λ p. Reaches p u.0.id) q (s.reached u.0.id (subst (λ ns. Has ns u.0.id) e (has-to_map number (own_ids rs) u.0 u.1))))

abbrev of_parts : List HLine → List ℕ → List HNode → HPlan
of_parts lines root nodes = record { primitives = lines; root = root; nodes = nodes }

pub read-back : PrintableHPlansAreReadBack
read-back plan p s =
    let u = lines-to 4 plan plan.primitives p p.primitives in
    let m : Marked = u.m in
    let is : marked (hplan_text plan) ≡ Some m = marked-is plan p ∙ u.is in
    let t = one-mapped (map number) (tops (rows m)) plan.root u.tops_are in
    let root-is : plan.root ≡ map number (first_top (tops (rows m))) = sym (ap (λ z. map number (first_top z)) t.1 ∙ t.2) in
    let plan-is : plan ≡ plan_of (rows m) =
    ap (λ z. of_parts z plan.root plan.nodes) (sym u.lines_are) ∙ ap₂ (of_parts (filter_map primitive_line (rows m))) root-is (sym u.nodes_are)
    in
    let spelled : SpellsHPlan (hplan_text plan) plan = record { between = m; is_between = is; formed = u.formed; root = t.0; one_root = t.1; plan_is = plan-is } in
    let text : List ℕ = hplan_text plan in
    record {
      faultless = faultless text (ap (faults_of_lines (length text)) is ∙ no-line-fault m t.0 u.formed t.1) (ap faults_of_ids is ∙ no-id-fault (rows m) plan s u.own u.listed)
          (λ g h. no-tree-fault (rows m) plan s u.own plan-is g (subst (λ o. IsTreeFault o g) is h));
      spelled = spelled;
    }
