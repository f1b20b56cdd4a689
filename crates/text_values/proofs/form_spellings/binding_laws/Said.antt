-- The faults of what stands somewhere are the sentences on it.
use Rattle.std.proofs.Common.{ℕ, inl, inr, List}
use Rattle.std.specs.Prelude.{◌↔◌}
use Rattle.text_forms.specs.Words.{Word}
use Rattle.gd_reader.specs.Terms.{Names}
use Rattle.hddl_reader.specs.declared.sections.RawDomain.{RawDomain}
use Rattle.hddl_reader.specs.names.Standing.{InDomain, InProblem}
use Rattle.hddl_reader.specs.names.Uses.{Scope, predicate, subtask, task, Use, declares, applies, refers}
use Rattle.text_values.specs.form_spellings.binding_laws.Uses.{HasUseFault, HasFaultIn, IsSaid, AreSaidOfDomains, AreSaidOfProblems}

module _ (names : Names) (d : RawDomain) (objects : List Word) (Stands : Scope → Use → Type 0) (code at : ℕ) where
  by_use : (here : Scope) (u : Use) → Stands here u → HasUseFault names d objects here u code at → IsSaid names d objects Stands code at
  by_use here (declares x) s f = inl (f.0, (here, x, s, f.1))
  by_use here (applies predicate a) s (e, inl f) = inr (inl (f.0, (here, a, e, s, f.1)))
  by_use here (applies subtask a) s (e, inl f) = inr (inr (inl (f.0, inl (here, a, e, s, f.1))))
  by_use here (applies task a) s (e, inl f) = inr (inr (inl (f.0, inr (here, a, e, s, f.1))))
  by_use here (applies kind a) s (e, inr f) = inr (inr (inr (inr (inr (f.0, (kind, here, a, e, s, f.1))))))
  by_use here (refers t) s (e, inl f) = inr (inr (inr (inr (inl (f.0, (here, t, e, f.1, s, f.2))))))
  by_use here (refers t) s (e, inr f) = inr (inr (inr (inl (f.0, (here, t, e, f.1, s, f.2)))))

  by_code : IsSaid names d objects Stands code at → HasFaultIn names d objects Stands code at
  by_code (inl (c, (here, x, s, f))) = (here, declares x, s, (c, f))
  by_code (inr (inl (c, (here, a, e, s, f)))) = (here, applies predicate a, s, (e, inl (c, f)))
  by_code (inr (inr (inl (c, inl (here, a, e, s, f))))) = (here, applies subtask a, s, (e, inl (c, f)))
  by_code (inr (inr (inl (c, inr (here, a, e, s, f))))) = (here, applies task a, s, (e, inl (c, f)))
  by_code (inr (inr (inr (inl (c, (here, t, e, v, s, f)))))) = (here, refers t, s, (e, inr (c, v, f)))
  by_code (inr (inr (inr (inr (inl (c, (here, t, e, v, s, f))))))) = (here, refers t, s, (e, inl (c, v, f)))
  by_code (inr (inr (inr (inr (inr (c, (kind, here, a, e, s, f))))))) = (here, applies kind a, s, (e, inr (c, f)))

  pub said : HasFaultIn names d objects Stands code at ↔ IsSaid names d objects Stands code at
  said = (λ f. by_use f.0 f.1 f.2 f.3, by_code)

pub said_of_domains : AreSaidOfDomains
said_of_domains names d objects code at = said names d objects (InDomain names d) code at

pub said_of_problems : AreSaidOfProblems
said_of_problems names d p objects code at = said names d objects (InProblem names p) code at
