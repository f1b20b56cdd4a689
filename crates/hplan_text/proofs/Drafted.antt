-- What is read of lines with one line more.
use Rattle.std.proofs.Common.{ℕ, ◌≡◌, Bool, true, false, Option, Some, None, Result, Ok, Err, OnOk, List, [], ◌∷◌, ◌++◌, map, drop, refl, sym, ap, subst, ◌∙◌, append_assoc}
use Rattle.std.specs.List.{filter_map, cons_option}
use Rattle.std.proofs.lemmas.List.{append-nil, map-append}
use Rattle.std.proofs.lemmas.List.Elements.{filter_map-append}
use Rattle.text_forms.specs.Faults.{Fault, fault}
use Rattle.hplan_text.specs.declared.mention.Mention.{Mention}
use Rattle.hplan_text.specs.declared.values.HLine.{HLine}
use Rattle.hplan_text.specs.declared.values.HNode.{HNode}
use Rattle.hplan_text.specs.declared.values.HPlan.{HPlan}
use Rattle.hplan_text.specs.Lines.{Line}
use Rattle.hplan_text.specs.Rows.{Row, bad, top, primitive, decomposed, row, number, primitive_line, top_ids, node, own_id, listed_ids}
use Rattle.hplan_text.specs.SpellsHPlan.{own_ids, all_listed, tops, first_top, plan_of}
use Rattle.hplan_text.specs.HPlanFaults.{bad_place, top_place, bad_places, top_places, no_root}
use Rattle.hplan_text.specs.declared.draft.Draft.{Draft}
use Rattle.hplan_text.specs.declared.least.Found.{Found}
use Rattle.hplan_text.specs.LeastOf.{IsLeastOf}
use Rattle.hplan_text.specs.Drafts.{are_some, IsDraft}
use Rattle.hplan_text.proofs.LeastFound.{least-one}

abbrev pub put : {X : Type 0} → List X → Option X → List X
put xs o = xs ++ cons_option o []

-- a second one, where there is a first
abbrev pub second : Bool → Option ℕ → List ℕ
second true o = cons_option o []
second false o = []

pub put-none : {X : Type 0} (xs : List X) → xs ≡ put xs None
put-none xs = sym (append-nil xs)

module _ (ls : List Line) (l : Line) (r : Row) (is : row l ≡ r) where
  abbrev more : List Line
  more = ls ++ l ∷ []

  pub rows-push : map row more ≡ map row ls ++ r ∷ []
  rows-push = map-append row ls (l ∷ []) ∙ ap (λ z. map row ls ++ z ∷ []) is

  -- what is taken of each row, and of one more
  taken : {X : Type 0} (h : Row → Option X) (xs ys : List X) → xs ≡ filter_map h (map row ls) → ys ≡ put xs (h r) → ys ≡ filter_map h (map row more)
  taken h xs ys e f = f ∙ ap (λ z. put z (h r)) e ∙ sym (filter_map-append h (map row ls) (r ∷ [])) ∙ ap (filter_map h) (sym rows-push)

  pub own-push : (xs ys : List Mention) → xs ≡ own_ids (map row ls) → ys ≡ put xs (own_id r) → ys ≡ own_ids (map row more)
  own-push = taken own_id

  listed-append : (rs : List Row) → all_listed (rs ++ r ∷ []) ≡ all_listed rs ++ listed_ids r
  listed-append [] = append-nil (listed_ids r)
  listed-append (q ∷ rs) = ap (λ z. listed_ids q ++ z) (listed-append rs) ∙ sym (append_assoc (listed_ids q) (all_listed rs) (listed_ids r))

  pub listed-push : (xs ys : List Mention) → xs ≡ all_listed (map row ls) → ys ≡ xs ++ listed_ids r → ys ≡ all_listed (map row more)
  listed-push xs ys e f = f ∙ ap (λ z. z ++ listed_ids r) e ∙ sym (listed-append (map row ls)) ∙ ap all_listed (sym rows-push)

  pub tops-push : tops (map row more) ≡ put (tops (map row ls)) (top_ids r)
  tops-push = ap tops rows-push ∙ filter_map-append top_ids (map row ls) (r ∷ [])

  -- the plan with one row more, by its three parts
  pub plan-push : (old new : HPlan) → old ≡ plan_of (map row ls) → new.primitives ≡ put old.primitives (primitive_line r)
      → new.root ≡ map number (first_top (put (tops (map row ls)) (top_ids r))) → new.nodes ≡ put old.nodes (node r) → new ≡ plan_of (map row more)
  plan-push old new e primitives root nodes =
      let p = taken primitive_line old.primitives new.primitives (ap (λ z. z.primitives) e) primitives in
      let q = root ∙ ap (λ z. map number (first_top z)) (sym tops-push) in
      let n = taken node old.nodes new.nodes (ap (λ z. z.nodes) e) nodes in
      λ i. record { primitives = p i; root = q i; nodes = n i }

  faults-put : (xs : List ℕ) (o : Option ℕ) → map (fault 31) (put xs o) ≡ map (fault 31) xs ++ map (fault 31) (put [] o)
  faults-put xs o = map-append (fault 31) xs (cons_option o [])

  pub bad-push : map (fault 31) (bad_places more) ≡ map (fault 31) (bad_places ls) ++ map (fault 31) (put [] (bad_place l r))
  bad-push =
      ap (map (fault 31)) (filter_map-append (λ l. bad_place l (row l)) ls (l ∷ []) ∙ ap (λ z. put (bad_places ls) (bad_place l z)) is) ∙ faults-put (bad_places ls) (bad_place l r)

  pub top-push : top_places more ≡ put (top_places ls) (top_place l r)
  top-push = filter_map-append (λ l. top_place l (row l)) ls (l ∷ []) ∙ ap (λ z. put (top_places ls) (top_place l z)) is

  -- a second root line counts only behind a first
  second-put : (xs : List ℕ) (o : Option ℕ) (b : Bool) → b ≡ are_some xs → drop 1 (put xs o) ≡ drop 1 xs ++ second b o
  second-put [] o b e = none o b e
    where
      none : (o : Option ℕ) (b : Bool) → b ≡ false → drop 1 (cons_option o []) ≡ second b o
      none None true e = absurd cc
      none (Some x) true e = absurd cc
      none None false e = refl
      none (Some x) false e = refl
  second-put (x ∷ xs) o b e = ap (λ t. xs ++ second t o) (sym e)

  pub second-push : (b : Bool) → b ≡ are_some (top_places ls) → map (fault 31) (drop 1 (top_places more)) ≡ map (fault 31) (drop 1 (top_places ls)) ++ map (fault 31) (second b (top_place l r))
  second-push b e = ap (λ z. map (fault 31) (drop 1 z)) top-push ∙ ap (map (fault 31)) (second-put (top_places ls) (top_place l r) b e) ∙ map-append (fault 31) (drop 1 (top_places ls)) (second b (top_place l r))

-- there is a root line where there are its ids
pub same-some : (ls : List Line) → are_some (tops (map row ls)) ≡ are_some (top_places ls)
same-some [] = refl
same-some (l ∷ ls) = by (row l) (same-some ls)
  where
    by : (r : Row) → are_some (tops (map row ls)) ≡ are_some (top_places ls) → are_some (cons_option (top_ids r) (tops (map row ls))) ≡ are_some (cons_option (top_place l r) (top_places ls))
    by bad h = h
    by (top ids) h = refl
    by (primitive m name args) h = h
    by (decomposed m name args method ids) h = h

-- the ids of the first root line: those that there were, or these
again : (ts : List (List Mention)) (o : Option (List Mention)) → true ≡ are_some ts → first_top ts ≡ first_top (put ts o)
again [] o e = absurd cc
again (t ∷ ts) o e = refl

anew : (ts : List (List Mention)) (ids : List Mention) → false ≡ are_some ts → ids ≡ first_top (put ts (Some ids))
anew [] ids e = refl
anew (t ∷ ts) ids e = absurd cc

pub no-more : (d : Option Found) (fs : List Fault) → IsLeastOf d fs → IsLeastOf d (fs ++ [])
no-more d fs h = subst (IsLeastOf d) (sym (append-nil fs)) h

pub same-node : (a b : HLine) (m n : List ℕ) (i j : List ℕ) → a ≡ b → m ≡ n → i ≡ j → ◌≡◌ {A = HNode} (record { line = a; method = m; ids = i }) (record { line = b; method = n; ids = j })
same-node a b m n i j p q r = λ k. record { line = p k; method = q k; ids = r k }

pub on-ok : {T E P Q : Type 0} (r : Result T E) → (P → Q) → OnOk r P → OnOk r Q
on-ok (Ok x) f h = f h
on-ok (Err e) f h = tt

pub has-root : (ps : List ℕ) (end : ℕ) → are_some ps ≡ true → no_root ps end ≡ []
has-root [] end e = absurd cc
has-root (p ∷ ps) end e = refl

pub no-root-least : (ps : List ℕ) (end : ℕ) → are_some ps ≡ false → IsLeastOf (Some (record { at = end; code = 35 })) (no_root ps end)
no-root-least [] end e = least-one (record { at = end; code = 35 })
no-root-least (p ∷ ps) end e = absurd cc

module _ (ls : List Line) (l : Line) (d e : Draft) (h : IsDraft ls d) where
  -- a line that is no root line
  pub adds-other : (r : Row) → row l ≡ r → top_ids r ≡ None → top_place l r ≡ None
      → e.plan.primitives ≡ put d.plan.primitives (primitive_line r) → e.plan.root ≡ d.plan.root → e.plan.nodes ≡ put d.plan.nodes (node r)
      → e.own.items ≡ put d.own.items (own_id r) → e.listed.items ≡ d.listed.items ++ listed_ids r → e.rooted ≡ d.rooted
      → IsLeastOf e.bad (map (fault 31) (bad_places ls) ++ map (fault 31) (put [] (bad_place l r))) → e.second ≡ d.second → IsDraft (ls ++ l ∷ []) e
  adds-other r is none nowhere primitives root nodes own listed rooted bads seconds = record {
    plan_is = plan-push ls l r is d.plan e.plan h.plan_is primitives
        (root ∙ ap (λ z. z.root) h.plan_is ∙ ap (λ z. map number (first_top z)) (put-none (tops (map row ls)) ∙ ap (put (tops (map row ls))) (sym none))) nodes;
    own = own-push ls l r is d.own.items e.own.items h.own own;
    listed = listed-push ls l r is d.listed.items e.listed.items h.listed listed;
    rooted = rooted ∙ h.rooted ∙ ap are_some (put-none (tops (map row ls)) ∙ ap (put (tops (map row ls))) (sym none) ∙ sym (tops-push ls l r is));
    bad_ones = subst (IsLeastOf e.bad) (sym (bad-push ls l r is)) bads;
    second = subst (λ z. IsLeastOf z (map (fault 31) (drop 1 (top_places (ls ++ l ∷ []))))) (sym seconds)
        (subst (λ z. IsLeastOf d.second (map (fault 31) (drop 1 z))) (put-none (top_places ls) ∙ ap (put (top_places ls)) (sym nowhere) ∙ sym (top-push ls l r is)) h.second);
  }

  -- a root line
  pub adds-root : (ids : List Mention) → row l ≡ top ids → e.plan.primitives ≡ d.plan.primitives → e.plan.root ≡ map number (first_top (put (tops (map row ls)) (Some ids))) → e.plan.nodes ≡ d.plan.nodes
      → e.own.items ≡ d.own.items → e.listed.items ≡ d.listed.items ++ ids → e.rooted ≡ true → e.bad ≡ d.bad
      → IsLeastOf e.second (map (fault 31) (drop 1 (top_places ls)) ++ map (fault 31) (second d.rooted (Some l.first.at))) → IsDraft (ls ++ l ∷ []) e
  adds-root ids is primitives root nodes own listed rooted bads seconds = record {
    plan_is = plan-push ls l (top ids) is d.plan e.plan h.plan_is (primitives ∙ put-none d.plan.primitives) root (nodes ∙ put-none d.plan.nodes);
    own = own-push ls l (top ids) is d.own.items e.own.items h.own (own ∙ put-none d.own.items);
    listed = listed-push ls l (top ids) is d.listed.items e.listed.items h.listed listed;
    rooted = rooted ∙ sym (ap are_some (tops-push ls l (top ids) is) ∙ some-last (tops (map row ls)) ids);
    bad_ones = subst (λ z. IsLeastOf z (map (fault 31) (bad_places (ls ++ l ∷ [])))) (sym bads) (subst (IsLeastOf d.bad) (sym (bad-push ls l (top ids) is)) (no-more d.bad (map (fault 31) (bad_places ls)) h.bad_ones));
    second = subst (IsLeastOf e.second) (sym (second-push ls l (top ids) is d.rooted (h.rooted ∙ same-some ls))) seconds;
  }
    where
      some-last : (ts : List (List Mention)) (ids : List Mention) → are_some (put ts (Some ids)) ≡ true
      some-last [] ids = refl
      some-last (t ∷ ts) ids = refl

  -- the first root line, or one behind it
  pub adds-first-root : (ids : List Mention) → row l ≡ top ids → d.rooted ≡ false → e.plan.primitives ≡ d.plan.primitives → e.plan.root ≡ map number ids → e.plan.nodes ≡ d.plan.nodes
      → e.own.items ≡ d.own.items → e.listed.items ≡ d.listed.items ++ ids → e.rooted ≡ true → e.bad ≡ d.bad → e.second ≡ d.second → IsDraft (ls ++ l ∷ []) e
  adds-first-root ids is none primitives root nodes own listed rooted bads seconds =
      adds-root ids is primitives (root ∙ ap (map number) (anew (tops (map row ls)) ids (sym none ∙ h.rooted))) nodes own listed rooted bads
      (subst (λ z. IsLeastOf z (map (fault 31) (drop 1 (top_places ls)) ++ map (fault 31) (second d.rooted (Some l.first.at)))) (sym seconds)
      (subst (λ b. IsLeastOf d.second (map (fault 31) (drop 1 (top_places ls)) ++ map (fault 31) (second b (Some l.first.at)))) (sym none) (no-more d.second (map (fault 31) (drop 1 (top_places ls))) h.second)))

  pub adds-root-again : (ids : List Mention) → row l ≡ top ids → d.rooted ≡ true → e.plan.primitives ≡ d.plan.primitives → e.plan.root ≡ d.plan.root → e.plan.nodes ≡ d.plan.nodes
      → e.own.items ≡ d.own.items → e.listed.items ≡ d.listed.items ++ ids → e.rooted ≡ true → e.bad ≡ d.bad
      → IsLeastOf e.second (map (fault 31) (drop 1 (top_places ls)) ++ fault 31 l.first.at ∷ []) → IsDraft (ls ++ l ∷ []) e
  adds-root-again ids is some primitives root nodes own listed rooted bads seconds =
      adds-root ids is primitives (root ∙ ap (λ z. z.root) h.plan_is ∙ ap (map number) (again (tops (map row ls)) (Some ids) (sym some ∙ h.rooted))) nodes own listed rooted bads
      (subst (λ b. IsLeastOf e.second (map (fault 31) (drop 1 (top_places ls)) ++ map (fault 31) (second b (Some l.first.at)))) (sym some) seconds)
