-- The three bundles of a network.
use Rattle.std.proofs.Common.{ℕ, ◌≡◌, List, [], ◌++◌, map, codes, ap, sym, ◌∙◌, append_assoc}
use Rattle.std.proofs.lemmas.List.{append-nil}
use Rattle.text_forms.specs.Lists.{Parts, name, nothing, part}
use Rattle.text_forms.specs.Words.{Word}
use Rattle.text_forms.specs.Printing.{bytes_behind}
use Rattle.plan_texts.specs.Printed.{all_parts}
use Rattle.plan_model.specs.declared.schemas.MethodSchema.{MethodSchema}
use Rattle.plan_model.specs.declared.values.Hddl.{Hddl}
use Rattle.hddl_texts.specs.PrintedHddl.{bundled, subtasks_parts, order_part, constraint_part}

-- each keyword, and its bundle behind it
bundles : (k s l o m c z : List ℕ) → k ++ (s ++ ((z ++ l) ++ (o ++ ((z ++ m) ++ (c ++ z))))) ≡ k ++ ((s ++ z) ++ (l ++ ((o ++ z) ++ (m ++ ((c ++ z) ++ [])))))
bundles k s l o m c z =
    let e : k ++ (s ++ ((z ++ l) ++ (o ++ ((z ++ m) ++ (c ++ z))))) ≡ k ++ ((s ++ z) ++ (l ++ ((o ++ z) ++ (m ++ (c ++ z))))) = simp append_assoc in
    e ∙ ap (λ y. k ++ ((s ++ z) ++ (l ++ ((o ++ z) ++ (m ++ y))))) (sym (append-nil (c ++ z)))

pub bundled-bytes : (ss os cs : Parts)
    → codes " :subtasks (and" ++ (bytes_behind ss ++ (codes ") :ordering (and" ++ (bytes_behind os ++ (codes ") :constraints (and" ++ (bytes_behind cs ++ codes ")")))))
    ≡ bytes_behind (part (name (codes ":subtasks")) (part (bundled ss) (part (name (codes ":ordering")) (part (bundled os) (part (name (codes ":constraints")) (part (bundled cs) nothing))))))
bundled-bytes ss os cs = bundles (codes " :subtasks (and") (bytes_behind ss) (codes " :ordering (and") (bytes_behind os) (codes " :constraints (and") (bytes_behind cs) (codes ")")

-- the network of a schema whose variables in force have these words
module _ (h : Hddl) (scope : List Word) (s : MethodSchema) where
  abbrev pub subtasks_in : Parts
  subtasks_in = subtasks_parts h scope 0 s.children

  abbrev pub orderings_in : Parts
  orderings_in = all_parts (map order_part s.pairs)

  abbrev pub constraints_in : Parts
  constraints_in = all_parts (map (constraint_part h scope) s.constraints)

  abbrev pub network_in : List ℕ
  network_in = bytes_behind (part (name (codes ":subtasks")) (part (bundled subtasks_in) (part (name (codes ":ordering")) (part (bundled orderings_in) (part (name (codes ":constraints")) (part (bundled constraints_in) nothing))))))
