-- A list is the table of one tree at most.
use Rattle.std.proofs.Common.{ℕ, suc, ◌≡◌, ◌+◌, ◌≤◌, List, [], ◌∷◌, ◌++◌, Option, Some, None, refl, ap, sym, ◌∙◌, append_assoc, append-nil, arith}
use Rattle.plan_model.specs.task_networks.Net.{Net}
use Rattle.plan_model.specs.task_networks.Tree.{Tree, Trees, open_leaf, done, split, none, more}
use Rattle.tree_core.specs.Tables.{Row, size, sizes, rows_at, rows_from, table}
use Rattle.tree_core.specs.Laws.{TableIsOfOneTree}

module _ (N : Net) where
  pub some_node : (t : Tree N) → 1 ≤ size N t
  some_node (open_leaf w) = omega arith
  some_node (done w) = omega arith
  some_node (split m ts) = omega arith

  heads : {r s : Row N} {xs ys : List (Row N)} → r ∷ xs ≡ s ∷ ys → (r.label ≡ s.label) × (r.end ≡ s.end) × (xs ≡ ys)
  heads {r} {s} {xs} {ys} e = let f : r ≡ s = cc in (ap (λ (z : Row N). z.label) f, ap (λ (z : Row N). z.end) f, cc)

  mutual
    one_tree : (t u : Tree N) (up : Option ℕ) (i k : ℕ) (xs ys : List (Row N)) → rows_at N up i k t ++ xs ≡ rows_at N up i k u ++ ys → (t ≡ u) × (xs ≡ ys)
    one_tree (open_leaf w) (open_leaf v) up i k xs ys e = let h = heads e in ((let g = h.0 in let f : w ≡ v = cc in ap open_leaf f), h.2)
    one_tree (done w) (done v) up i k xs ys e = let h = heads e in ((let g = h.0 in let f : w ≡ v = cc in ap done f), h.2)
    one_tree (split m ts) (split n us) up i k xs ys e =
        let h = heads e in
        let g = h.0 in
        let f : m ≡ n = cc in
        let z = h.1 in
        let (c, d) = one_trees ts us k 0 (suc k) xs ys (omega arith) h.2 in
        ((λ i. split (f i) (c i)), d)
    one_tree (open_leaf w) (done v) up i k xs ys e = let h = (heads e).0 in absurd cc
    one_tree (open_leaf w) (split n us) up i k xs ys e = let h = (heads e).0 in absurd cc
    one_tree (done w) (open_leaf v) up i k xs ys e = let h = (heads e).0 in absurd cc
    one_tree (done w) (split n us) up i k xs ys e = let h = (heads e).0 in absurd cc
    one_tree (split m ts) (open_leaf v) up i k xs ys e = let h = (heads e).0 in absurd cc
    one_tree (split m ts) (done v) up i k xs ys e = let h = (heads e).0 in absurd cc

    one_trees : (ts us : Trees N) (up i k : ℕ) (xs ys : List (Row N)) → sizes N ts ≡ sizes N us → rows_from N up i k ts ++ xs ≡ rows_from N up i k us ++ ys → (ts ≡ us) × (xs ≡ ys)
    one_trees none none up i k xs ys s e = (refl, e)
    one_trees none (more u us) up i k xs ys s e = let l = some_node u in absurd (omega arith)
    one_trees (more t ts) none up i k xs ys s e = let l = some_node t in absurd (omega arith)
    one_trees (more t ts) (more u us) up i k xs ys s e =
        let (f, g) = one_tree t u (Some up) i k (rows_from N up (suc i) (k + size N t) ts ++ xs) (rows_from N up (suc i) (k + size N u) us ++ ys)
        (sym (append_assoc (rows_at N (Some up) i k t) (rows_from N up (suc i) (k + size N t) ts) xs) ∙ e ∙ append_assoc (rows_at N (Some up) i k u) (rows_from N up (suc i) (k + size N u) us) ys) in
        let z = ap (size N) f in
        let (h, j) = one_trees ts us up (suc i) (k + size N t) xs ys (omega arith) (g ∙ ap (λ z. rows_from N up (suc i) (k + z) us ++ ys) (sym z)) in
        ((λ i. more (f i) (h i)), j)

  pub table_is_of_one_tree : TableIsOfOneTree N
  table_is_of_one_tree t u e = (one_tree t u None 0 0 [] [] (append-nil (table N t) ∙ e ∙ sym (append-nil (table N u)))).0
