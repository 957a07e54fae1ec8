use Rattle.std.proofs.Common.{◌≡◌, Some, ap, sym, ◌∙◌}
use Rattle.std.specs.FinMap as map
use Rattle.std.specs.FinMap.{get-empty}
use Rattle.std.specs.BTreeMap.{get}
use Rattle.std.specs.Map.{lookup}
use Rattle.std.specs.Map.Iter.{deref_pair}
use Rattle.std.proofs.lemmas.Map.Views.{All-turn}
use Rattle.shell_words.proofs.Named.{has_name, names, key_cmp, get-named, copied-more, copied-all}
use Rattle.shell_words.proofs.env.EnvCopied.copy.Goals as goal

pub loop-name-init : goal.loop-name-init
loop-name-init c = λ q none.
    ap (λ m. map.get m q) c.new-twin.ensures ∙ get-empty names q
    ∙ sym (ap (λ m. map.get m q) (sym c.self.view_is) ∙ get-named q c.self.inside.values.entries
    ∙ ap (λ es. lookup (has_name q) es) (sym c.into_iter-name-iterator.ensures.into_iter_gives.0) ∙ none)

pub loop-name-preserved : goal.loop-name-preserved
loop-name-preserved c =
    let m = c.self.inside.values in
    let found = All-turn deref_pair (λ e. get key_cmp m e.0 ≡ Some e.1) m.entries _ _ _ _ _ _ c.into_iter-name-iterator.ensures.into_iter_gives.6 c.into_iter-name-iterator.ensures.into_iter_gives.0 c.loop-name.yielded_by c.in-Some.is c.next.ensures.steps in
    let k = c.in-Some.name.now in
    copied-more k c.in-Some.value.now c.loop-name.name-iterator c.next.new.self c.args.self.now c.loop-name.twin c.set.new.self
    c.in-Some.ensures.steps c.loop-name.invariant
    (ap (λ e. map.get e k.items) (sym c.self.view_is) ∙ get-named k.items m.entries ∙ found)
    (c.in_ok-set.ensures.ok ∙ ap (λ n. map.insert c.loop-name.twin n c.in_ok-value.value) c.as_slice.ensures.value ∙ ap (map.insert c.loop-name.twin k.items) c.in_ok-value.ensures)

pub returns : goal.returns
returns c = copied-all c.loop-name.name-iterator c.args.self.now c.loop-name.twin c.in-None.ensures.steps.0 c.loop-name.invariant
