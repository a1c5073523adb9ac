use Rattle.std.proofs.Common.{◌≡◌, ◌<◌, ℕ, List, length, set, refl, sym, ap, subst}
use Rattle.trail_core.specs.declared.entry.Assigned.{Assigned}
use Rattle.trail_core.specs.declared.entry.Reason.TheVariants.{Unit as ByUnit}
use Rattle.trail_core.specs.declared.trail.Origin.{Origin}
use Rattle.trail_core.specs.Trails.{TrailState, assigned_at, HasVariable, with_root}
use Rattle.trail_core.specs.Steps.Tables.{laid_entries, state_of}
use Rattle.trail_core.proofs.Lookups.{rooted}
use Rattle.trail_core.proofs.trail.Trail.root.Goals as goal

-- the origins with the new reason
abbrev set_origin : List Origin → ℕ → Origin → ℕ → List Origin
set_origin os v o id = set os v (record o { reason = ByUnit id })

pub invariant_of-self : goal.invariant_of-self
invariant_of-self c =
    let has = subst (λ (t : TrailState). HasVariable t.entries c.args.var) (sym c.self.view_is) c.requires.valued in
    (rooted _ _ _ _ _ _ _ _ _ _ c.args.var c.args.id c.index_mut.result.now _ c.self.invariant has c.index_mut.ensures.value refl).held

pub returns : goal.returns
returns c =
    let new = set_origin c.self.inside.origins.items c.args.var c.index_mut.result.now c.args.id in
    let has = subst (λ (t : TrailState). HasVariable t.entries c.args.var) (sym c.self.view_is) c.requires.valued in
    let is = rooted _ _ _ _ _ _ _ _ _ _ c.args.var c.args.id c.index_mut.result.now _ c.self.invariant has c.index_mut.ensures.value
    refl in
    subst (λ (t : TrailState). (k : ℕ) → k < length t.entries → (assigned_at t.entries k).lit.var ≡ c.args.var
    → state_of (laid_entries new c.self.inside.lits.items) c.self.inside.starts.items c.self.inside.gone c.self.inside.vars
    ≡ with_root t k c.args.id)
    c.self.view_is
    (λ k lt var. ap (λ (es : List Assigned). state_of es c.self.inside.starts.items c.self.inside.gone c.self.inside.vars)
    (is.entries k lt var))
