use Rattle.std.proofs.Common.{List, ℕ, Option, IfSome, refl, subst}
use Rattle.std.specs.Borrow.{Bor}
use Rattle.problem_index.specs.Kinds.{AreByType}
use Rattle.problem_index.proofs.KindLaws.{of_lists}
use Rattle.problem_index.proofs.kinds.Kind.new.Goals as goal

pub returns-then-entries-room : goal.returns-then-entries-room
returns-then-entries-room c objects h =
    let lists : AreByType objects c.in-Some.lists.now = subst (λ (o : Option (Bor (List (List ℕ)))). IfSome o (λ lists. AreByType objects lists.now)) c.in-Some.is h in
    record { parts = refl; listed = of_lists objects c.in-Some.lists.now c.args.parts c.in_ok-listed.field-0.items lists c.in_ok-listed.ensures }
