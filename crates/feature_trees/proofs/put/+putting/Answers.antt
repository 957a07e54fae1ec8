use Rattle.std.proofs.Common.{IsTrue, refl, subst, ◌∙◌}
use Rattle.feature_trees.specs.declared.value.NamedValue.{NamedValue}
use Rattle.feature_trees.specs.Sound.{sound}
use Rattle.feature_trees.proofs.Puts.{written_back, keeps_all, keeps_sound, puts_below, parents_below, no_parents, cons_back}
use Rattle.feature_trees.proofs.put.+putting.Goals as goal

pub put_among-returns-in-Ok-clause-there : goal.put_among-returns-in-Ok-clause-there
put_among-returns-in-Ok-clause-there t c =
    keeps_all c.args.items.now.items c.args.f.now c.in-Ok.at c.index_mut.result.now c.args.rest.now _ c.g-item.result c.args.v _ c.requires.old_there
    (rw c.as_slice.ensures.value at c.in-Ok.ensures) c.index_mut.ensures.value (cons_back c.args.rest.now c.g-item.result c.in-len1-up.len_at_least c.g-item.is) c.put_below-answer.result c.put_below-answer.ensures.ok c.put_below-answer.ensures.kept

pub put_among-returns-in-Ok-clause-ok : goal.put_among-returns-in-Ok-clause-ok
put_among-returns-in-Ok-clause-ok t c =
    puts_below c.args.items.now.items c.args.f.now c.in-Ok.at c.index_mut.result.now c.args.rest.now _ c.g-item.result c.args.v _ c.requires.old_there
    (rw c.as_slice.ensures.value at c.in-Ok.ensures) c.index_mut.ensures.value (cons_back c.args.rest.now c.g-item.result c.in-len1-up.len_at_least c.g-item.is) c.put_below-answer.result c.put_below-answer.ensures.ok

pub put_among-returns-in-Ok-clause-no_parent : goal.put_among-returns-in-Ok-clause-no_parent
put_among-returns-in-Ok-clause-no_parent t c =
    parents_below c.args.items.now.items c.args.f.now c.in-Ok.at c.index_mut.result.now c.args.rest.now _ c.g-item.result c.args.v c.args.v c.requires.old_there
    (rw c.as_slice.ensures.value at c.in-Ok.ensures) c.index_mut.ensures.value (cons_back c.args.rest.now c.g-item.result c.in-len1-up.len_at_least c.g-item.is) c.put_below-answer.ensures.no_parent

pub put_among-returns-in-Err-clause-no_parent : goal.put_among-returns-in-Err-clause-no_parent
put_among-returns-in-Err-clause-no_parent t c =
    (λ e. no_parents c.args.items.now.items c.args.f.now c.in-Err.field-0 c.args.rest.now _ c.g-item.result (rw c.as_slice.ensures.value at c.in-Err.ensures) (cons_back c.args.rest.now c.g-item.result c.in-len1-up.len_at_least c.g-item.is), λ e. refl)

pub put_among-returns-in-Ok-clause-sound : goal.put_among-returns-in-Ok-clause-sound
put_among-returns-in-Ok-clause-sound t c =
    let is = rw c.as_slice.ensures.value at c.in-Ok.ensures in
    let written = c.index.ensures ∙ written_back c.args.items.now.items c.in-Ok.at _ c.index.result.now is.in_range in
    keeps_sound c.args.items.now.items c.args.f.now c.in-Ok.at c.index_mut.result.now c.args.rest.now _ c.g-item.result c.args.v _ c.requires.old_there
    is c.index_mut.ensures.value (cons_back c.args.rest.now c.g-item.result c.in-len1-up.len_at_least c.g-item.is) c.put_below-answer.result c.put_below-answer.ensures.ok c.put_below-answer.ensures.kept
    c.requires.old_sound c.is_sound-in-Ok.ensures (subst (λ (h : NamedValue). IsTrue (sound h.value)) written c.is_sound.ensures)
