use Rattle.std.proofs.Common.{arith, add-one, drop, sym, ap, ◌∙◌}
use Rattle.shown_texts.specs.Show.{are_bytes}
use Rattle.feature_trees.specs.Readable.{entries_bytes}
use Rattle.feature_trees.specs.View.{node_of}
use Rattle.report_text.proofs.TypeFacts.{directory_weight, entry_lighter, bytes_behind}
use Rattle.report_text.proofs.representable_trees.+tree.Goals as goal

pub are_of_bytes-is_of_bytes-requires : goal.are_of_bytes-is_of_bytes-requires
are_of_bytes-is_of_bytes-requires t c = (
  omega (
    arith,
    c.decreases,
    entry_lighter c.args.entries.now c.loop-at.at (record { name = c.in-Some.name.now; node = node_of c.in-Some.value.now }) c.in-Some.ensures.some.1,
  ),
  tt,
)

pub are_of_bytes-loop-at-preserved : goal.are_of_bytes-loop-at-preserved
are_of_bytes-loop-at-preserved t c =
    ap (λ n. entries_bytes (drop n c.args.entries.now)) (add-one c.loop-at.at)
    ∙ bytes_behind c.args.entries.now c.loop-at.at c.in-Some.name.now c.in-Some.value.now c.in-Some.ensures.some.0
    c.in-Some.ensures.some.1 (sym (ap are_bytes c.as_slice.ensures.bytes) ∙ c.are_bytes.ensures) c.is_of_bytes.ensures
    ∙ c.loop-at.invariant

pub is_of_bytes-are_of_bytes-requires : goal.is_of_bytes-are_of_bytes-requires
is_of_bytes-are_of_bytes-requires t c =
    (omega (arith, c.decreases, directory_weight c.args.tree.now c.in-Dir.entries c.in-Dir.is), tt)
