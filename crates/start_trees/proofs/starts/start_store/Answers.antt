use Rattle.std.proofs.Common.{◌≡◌, ◌↔◌, ℕ, ◌+◌, List, take, sym, subst, ◌∙◌}
use Rattle.feature_trees.specs.declared.value.Value.{Value}
use Rattle.clause_solver.specs.Pairs.{HasPair}
use Rattle.start_trees.specs.declared.need.Need.{Need}
use Rattle.start_trees.specs.Needs.{IsStart}
use Rattle.start_trees.proofs.Walks.{take_one, take_all}
use Rattle.start_trees.proofs.NeedByNeed.{StartsWith, starts_bare, more_pairs, none_left, not_both}
use Rattle.start_trees.proofs.starts.start_store.Goals as goal

pub loop-need-init : goal.loop-need-init
loop-need-init c = starts_bare c.in_ok-store.store c.in_ok-store.ensures.seen.1 c.in_ok-store.ensures.pairs

pub returns-then-not-left : goal.returns-then-not-left
returns-then-not-left c =
    let items = c.as_slice-need-items.result.now in
    let i : ℕ = c.loop-need.need-index in
    let P : List Need → Type 0 = λ needs. (t u : Value) → HasPair c.require.new.store t u ↔ (IsStart needs t × (u ≡ t)) in
    let pairs = subst P (sym (take_one items i c.need-item.result c.loop-need-test.true c.need-item.is))
    (more_pairs c.loop-need.store c.require.new.store (take i items) c.need-item.result c.loop-need.invariant
    c.in_ok-left.ensures.pairs) in
    let Q : List Need → Type 0 = λ needs. (t : Value) → IsStart needs t → ⊥ in
    subst Q c.as_slice-need-items.ensures (none_left c.require.new.store items (i + 1) pairs
    (λ alive. not_both c.in_ok-left.left c.if-not-left.true (c.in_ok-left.ensures.alive.1 alive)))

pub loop-need-preserved : goal.loop-need-preserved
loop-need-preserved c =
    let items = c.as_slice-need-items.result.now in
    let i : ℕ = c.loop-need.need-index in
    let P : List Need → Type 0 = λ needs. StartsWith c.require.new.store needs in
    subst P (sym (take_one items i c.need-item.result c.loop-need-test.true c.need-item.is)) (record {
      pairs = more_pairs c.loop-need.store c.require.new.store (take i items) c.need-item.result c.loop-need.invariant
          c.in_ok-left.ensures.pairs;
      alive = c.in_ok-left.ensures.alive.0 c.if-not-left.false;
    })

pub returns : goal.returns
returns c =
    let P : List Need → Type 0 = λ needs. StartsWith c.loop-need.store needs in
    let whole = subst P (take_all c.as_slice-need-items.result.now c.loop-need.need-index c.loop-need-test.false
    ∙ c.as_slice-need-items.ensures) c.loop-need.invariant in
    (whole.pairs, whole.alive)
