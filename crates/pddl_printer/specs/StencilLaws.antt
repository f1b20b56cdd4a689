-- The laws of what is drawn on a stencil.
-- Source: this project's.
use Rattle.std.proofs.Common.{ℕ, List, [], ◌++◌, ap, sym, ◌∙◌, append_assoc}
use Rattle.std.proofs.lemmas.List.{append-nil}
use Rattle.pddl_printer.specs.declared.stencil.Stencil.{Stencil}
use Rattle.pddl_printer.specs.Drawings.{shown, Shows}

pub shows-nothing : (s : Stencil) → Shows (λ _. []) s s
shows-nothing s = λ e. (e, λ word. sym (append-nil (shown s word)))

pub shows-both : (f g : List ℕ → List ℕ) (s t u : Stencil) → Shows f s t → Shows g t u → Shows (λ w. f w ++ g w) s u
shows-both f g s t u v w = λ e.
    let x = w e in
    let y = v x.0 in
    (y.0, λ word. x.1 word ∙ ap (λ z. z ++ g word) (y.1 word) ∙ append_assoc (shown s word) (f word) (g word))
