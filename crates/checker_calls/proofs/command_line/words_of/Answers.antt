use Rattle.std.proofs.Common.{map, refl, sym, ap, ◌∙◌}
use Rattle.std.specs.String.{string_bytes}
use Rattle.std.specs.Vec.Iter.{into_iter_items}
use Rattle.std.proofs.lemmas.List.{map-id}
use Rattle.std.proofs.lemmas.Iterator.Adapters.{YieldsList-from_skip, YieldsList-from_vec}
use Rattle.std.proofs.lemmas.Iterator.Consumers.{YieldsList-at, YieldsList-end}
use Rattle.checker_calls.proofs.command_line.words_of.Goals as goal

pub returns-in-None : goal.returns-in-None
returns-in-None c =
    let told = YieldsList-from_vec (into_iter_items c.in-Ok.all) refl c.in-Ok.all.rest.ok.0 in
    let skipped = YieldsList-from_skip 1 (YieldsList-at c.skip-word-items.ensures.source told) c.skip-word-items.ensures.count in
    let ends = YieldsList-end (YieldsList-at c.into_iter-word-iterator.ensures.into_iter_gives skipped) c.loop-word.yielded c.loop-word.word-iterator c.loop-word.yielded_by
    c.next.result c.next.new.self
    c.in-None.is c.next.ensures.steps in
    rw c.in-Ok.is (c.loop-word.invariant ∙ ap (map string_bytes) (sym (map-id c.loop-word.yielded) ∙ ends.0))
