use Rattle.std.proofs.Common.{◌≡◌, [], ◌∷◌, ◌++◌, rules, ap, ◌∙◌}
use Rattle.pddl_printer.specs.Behind.{of_each}
use Rattle.pddl_printer.proofs.Drawn.{place-more}
use Rattle.pddl_printer.proofs.stencil.StencilPen.place.Goals as goal

pub returns-else-is_err : goal.returns-else-is_err
returns-else-is_err c =
    let old = c.args.self.now.before.items in
    let behind = c.args.self.now.behind in
    let before : c.try_push.new.self.items ≡ old ++ behind ∷ [] = let ok = c.try_push.ensures.ok in let no = c.if-is_err.false in let value = c.is_err.ensures.value in let e = c.replace-piece.ensures.value in search rules in
    let rest : c.replace-piece.new.dest.items ≡ [] = ap (λ v. v.items) c.replace-piece.ensures.after ∙ c.new.ensures in
    record { drawn = λ e. (e, λ word. (λ i. of_each (λ piece. piece.items ++ word) (before i) ++ rest i) ∙ place-more (λ piece. piece.items) word old behind) }
