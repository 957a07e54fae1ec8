use Rattle.std.proofs.Common.{◌≡◌, ◌-◌, ℕ, List, ◌∷◌, [], ◌++◌, length, ap, ◌∙◌, arith}
use Rattle.utility_calls.specs.declared.acts.Act.{Act}
use Rattle.utility_calls.specs.declared.acts.Act.TheVariants.{EnsureDir}
use Rattle.utility_calls.specs.Operands.{ensured}
use Rattle.utility_calls.proofs.operands.ensure_each.Goals as goal

pub returns : goal.returns
returns c =
    let same = c.names-names.ensures.names in
    let last : c.loop-count.count - 1 ≡ length c.args.path.names - 1 =
    omega (arith, ap length same, c.loop-count.invariant.1, c.loop-count.auto.count, c.loop-count.auto.count-end) in
    c.in_ok-add-2.ensures.ok ∙ ap (λ (acts : List Act). acts ++ EnsureDir c.args.path ∷ [])
    (c.loop-count.invariant.0 ∙ ap (λ (names : List (List ℕ)). ensured names (c.loop-count.count - 1)) same ∙ ap (ensured c.args.path.names) last)
