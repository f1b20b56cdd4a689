use Rattle.std.proofs.Common.{◌≡◌, false, Some, refl, ap, sym, subst, ◌∙◌}
use Rattle.std.proofs.lemmas.Result.{on_ok_weaker}
use Rattle.std.specs.Option.{is_some, IsSome}
use Rattle.std.specs.Cmp.{booleans_Decides}
use Rattle.plan_model.specs.declared.terms.GroundAtom.{GroundAtom}
use Rattle.plan_model.specs.plan_meaning.Truth.{ground, values_of}
use Rattle.ground_state.specs.declared.passes.Pass.{Pass}
use Rattle.ground_state.specs.Frames.{Frame}
use Rattle.ground_state.specs.States.{note_of, IsNoted}
use Rattle.ground_state.specs.Passes.{of_adds, Passes}
use Rattle.ground_state.proofs.StateLaws.{of-atom, entered}
use Rattle.ground_state.proofs.PassLaws.{not-false, passes-set}
use Rattle.ground_state.proofs.state.State.visit.Goals as goal

pub returns-in-Deny-clause-passed : goal.returns-in-Deny-clause-passed
returns-in-Deny-clause-passed c =
    let adds : c.args.adds ≡ of_adds c.args.pass = sym ((booleans_Decides c.is_of_adds.result c.args.adds).0 (not-false _ c.if-is_of_adds-adds.false)) ∙ c.is_of_adds.ensures in
    passes-set c.args.pass c.args.self.now c.set_atom.new.self (ground c.args.env.now.values.items c.args.atom.now) c.args.adds c.in-Deny.is adds c.set_atom.ensures.set

pub returns-else-is_some-clause-passed : goal.returns-else-is_some-clause-passed
returns-else-is_some-clause-passed c =
    let s = c.args.self.now in
    let t = c.insert.new.self in
    let v = c.args.env.now.values.items in
    let a = ground c.args.env.now.values.items c.args.atom.now in
    let args : c.args-in-Enter.result.now ≡ values_of c.args.env.now.values.items c.args.atom.now.args = c.args-in-Enter.ensures ∙ c.fill.ensures.args ∙ ap (λ (f : Frame). values_of f.objects c.as_slice.result.now) c.note_atom.ensures.kept ∙ ap (values_of v) c.as_slice.ensures.items in
    on_ok_weaker c.insert.result (λ h.
    let e = entered s t a (sym (c.if-is_some.ensures ∙ ap is_some c.note_atom.ensures.note)) (of-atom (λ (x : GroundAtom). IsNoted s x (Some false) t) c.args.atom.now.predicate c.args-in-Enter.result.now a refl args h) in
    subst (λ (p : Pass). Passes p (λ g. (c.args.adds ≡ of_adds p) × (g ≡ ground c.args.env.now.values.items c.args.atom.now)) c.args.self.now c.insert.new.self) (sym c.in-Enter.is)
    (e.0, (e.1, λ g x. subst (λ (b : GroundAtom). IsSome (note_of t b)) (sym x.1) e.2))
    ) c.insert.ensures.inserted
