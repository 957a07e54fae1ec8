use Rattle.std.proofs.Common.{◌≡◌, ◌∙◌, sym, IsTrue, ◌↔◌, ◌∷◌}
use Rattle.clause_solver.specs.ReplacedNames.{names}
use Rattle.clause_solver.specs.declared.variable.Definition.TheVariants.{Derived, Ensured, Made}
use Rattle.clause_solver.specs.Variables.{var_at}
use Rattle.clause_solver.specs.Greatest.{HasEntryOutside, kept, unfenced_if}
use Rattle.clause_solver.proofs.HasEntries.{derived_hidden, derived_shown, has_entry_ensured, has_entry_made, replaced_also}
use Rattle.clause_solver.proofs.greatest.+has_entry_outside.Goals as goal

pub returns-then-is_shown : goal.returns-then-is_shown
returns-then-is_shown g c =
    let e : (var_at c.args.vars.now c.args.x).definition ≡ Derived c.in-Derived.of c.in-Derived.f c.in-Derived.y =
    sym c.definition_at.ensures ∙ c.in-Derived.is in
    derived_shown c.args.vars.now c.args.best.now (unfenced_if c.args.vars.now c.args.counted) c.args.x c.in-Derived.of c.in-Derived.f c.in-Derived.y
    (names c.args.replaced.now) c.is_shown.result c.if-is_shown.true e c.is_shown.ensures

pub returns-else-is_shown : goal.returns-else-is_shown
returns-else-is_shown g c =
    let vars = c.args.vars.now in
    let best = c.args.best.now in
    let e : (var_at vars c.args.x).definition ≡ Derived c.in-Derived.of c.in-Derived.f c.in-Derived.y =
    sym c.definition_at.ensures ∙ c.in-Derived.is in
    let deep : IsTrue c.has_entry_outside.result ↔ HasEntryOutside vars best (unfenced_if vars c.args.counted) c.in-Derived.of (c.in-Derived.f ∷ names c.args.replaced.now) =
    rw (replaced_also _ c.args.replaced) at c.has_entry_outside.ensures in
    derived_hidden vars best (unfenced_if vars c.args.counted) c.requires.order c.args.x c.in-Derived.of c.in-Derived.f c.in-Derived.y (names c.args.replaced.now)
    c.is_shown.result c.has_entry_outside.result c.if-is_shown.false e c.is_shown.ensures deep

pub returns-in-Ensured : goal.returns-in-Ensured
returns-in-Ensured g c =
    let vars = c.args.vars.now in
    let best = c.args.best.now in
    let ds = names c.args.replaced.now in
    let e : (var_at vars c.args.x).definition ≡ Ensured c.in-Ensured.of =
    sym c.definition_at.ensures ∙ c.in-Ensured.is in
    let deep = c.has_entry_outside-in-Ensured.ensures in
    (λ t. kept c.in-Ensured.of e (deep.0 t), λ l. deep.1 (has_entry_ensured vars best (unfenced_if vars c.args.counted) c.requires.order c.args.x c.in-Ensured.of ds e l))

pub returns-in-Made : goal.returns-in-Made
returns-in-Made g c =
    let vars = c.args.vars.now in
    let best = c.args.best.now in
    let ds = names c.args.replaced.now in
    let e : (var_at vars c.args.x).definition ≡ Made c.in-Made.field-0 =
    sym c.definition_at.ensures ∙ c.in-Made.is in
    (λ t. cc, λ l. absurd (has_entry_made vars best (unfenced_if vars c.args.counted) c.requires.order c.args.x c.in-Made.field-0 ds e l))
