use Rattle.std.proofs.Common.{map, drop, refl, sym, subst, [], ◌∷◌, ◌++◌}
use Rattle.text_forms.specs.Faults.{fault}
use Rattle.hplan_text.specs.HPlanFaults.{top_places}
use Rattle.hplan_text.specs.LeastOf.{IsLeastOf}
use Rattle.hplan_text.specs.Scanning.{mentions_of}
use Rattle.hplan_text.proofs.Drafted.{adds-first-root, adds-root-again}
use Rattle.hplan_text.proofs.LeastFound.{least-one}
use Rattle.hplan_text.proofs.draft.Draft.add_root.Goals as goal

pub returns-then-self : goal.returns-then-self
returns-then-self c =
    let d = c.args.self.now in
    record {
      added = λ ls l h is at. (let before = map (fault 31) (drop 1 (top_places ls)) in
          adds-root-again ls l d _ h (mentions_of c.args.ids.now) is c.if-self.true refl refl refl refl c.in_ok-root.ensures.listed c.if-self.true refl
          (subst (λ k. IsLeastOf c.least-self.result (before ++ fault 31 k ∷ [])) (sym at) (c.least-self.ensures before (fault 31 c.args.at ∷ []) h.second (least-one (record { at = c.args.at; code = 31 })))));
    }

pub returns-else-self : goal.returns-else-self
returns-else-self c = record {
  added = λ ls l h is at. adds-first-root ls l c.args.self.now _ h (mentions_of c.args.ids.now) is c.if-self.false refl c.in_ok-root.ensures.ids refl refl c.in_ok-root.ensures.listed refl refl refl;
}
