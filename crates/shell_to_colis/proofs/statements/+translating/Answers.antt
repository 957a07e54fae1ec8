use Rattle.std.proofs.Common.{◌≡◌, IfOk, subst, map, refl, ◌∷◌, [], ap, ◌∙◌, rules}
use Rattle.std.specs.List.{flat_map}
use Rattle.shell_to_colis.specs.Translated.{PartTo, translated, each, part_to, piece_to, pieces_to, word_to, field_to, fields_to, kind_of, static_word, assign_to, link_to, if_arm_to, case_arm_to}
use Rattle.shell_to_colis.proofs.Each.{each_more}
use Rattle.shell_to_colis.proofs.Statics.{translated_simple}
use Rattle.shell_to_colis.proofs.statements.+translating.Goals as goal

pub commands_of-loop-part-preserved : goal.commands_of-loop-part-preserved
commands_of-loop-part-preserved t c =
    let defs = c.args.defs.now in
    let e = each_more (λ xs. each (map translated xs) defs) (λ x. translated x defs ∷ []) refl (λ x xs. refl) c.args.commands.now c.loop-part.part-index c.part-item.result c.loop-part-test.true c.part-item.is in
    search (rules, e)

pub links_of-loop-link-preserved : goal.links_of-loop-link-preserved
links_of-loop-link-preserved t c =
    let defs = c.args.defs.now in
    let e = each_more (λ xs. each (map link_to xs) defs) (λ x. link_to x defs ∷ []) refl (λ x xs. refl) c.args.links.now c.loop-link.link-index c.link-item.result c.loop-link-test.true c.link-item.is in
    search (rules, e)

pub if_arms-loop-arm-preserved : goal.if_arms-loop-arm-preserved
if_arms-loop-arm-preserved t c =
    let defs = c.args.defs.now in
    let e = each_more (λ xs. each (map if_arm_to xs) defs) (λ x. if_arm_to x defs ∷ []) refl (λ x xs. refl) c.args.arms.now c.loop-arm.arm-index c.arm-item.result c.loop-arm-test.true c.arm-item.is in
    search (rules, e)

pub sets_of-loop-assign-preserved : goal.sets_of-loop-assign-preserved
sets_of-loop-assign-preserved t c =
    let defs = c.args.defs.now in
    let e = each_more (λ xs. each (map assign_to xs) defs) (λ x. assign_to x defs ∷ []) refl (λ x xs. refl) c.args.assigns.now c.loop-assign.assign-index c.assign-item.result c.loop-assign-test.true c.assign-item.is in
    search (rules, e)

pub fields_of-loop-word-preserved : goal.fields_of-loop-word-preserved
fields_of-loop-word-preserved t c =
    let defs = c.args.defs.now in
    let e = each_more (λ xs. fields_to (map word_to xs) defs) (λ x. field_to (word_to x) defs ∷ []) refl (λ x xs. refl) c.args.words.now c.loop-word.word-index c.word-item.result c.loop-word-test.true c.word-item.is in
    search (rules, e)

pub patterns_of-loop-word-preserved : goal.patterns_of-loop-word-preserved
patterns_of-loop-word-preserved t c =
    let defs = c.args.defs.now in
    let e = each_more (λ xs. map (λ word. pieces_to word defs) (map word_to xs)) (λ x. pieces_to (word_to x) defs ∷ []) refl (λ x xs. refl) c.args.words.now c.loop-word.word-index c.word-item.result c.loop-word-test.true c.word-item.is in
    search (rules, e)

pub pieces_of-loop-part-preserved : goal.pieces_of-loop-part-preserved
pieces_of-loop-part-preserved t c =
    let defs = c.args.defs.now in
    let e = each_more (λ xs. pieces_to (map part_to xs) defs) (λ x. piece_to (part_to x) defs ∷ []) refl (λ x xs. refl) c.as_slice-part-items.result.now c.loop-part.part-index c.part-item.result c.loop-part-test.true c.part-item.is in
    search (rules, e)

pub joined-loop-part-preserved : goal.joined-loop-part-preserved
joined-loop-part-preserved t c =
    let defs = c.args.defs.now in
    let e = each_more (λ xs. map (λ (part : PartTo). part.value defs) (map part_to xs)) (λ x. (part_to x).value defs ∷ []) refl (λ x xs. refl) c.as_slice-part-items.result.now c.loop-part.part-index c.part-item.result c.loop-part-test.true c.part-item.is in
    search (rules, e)

pub case_arms-loop-arm-preserved : goal.case_arms-loop-arm-preserved
case_arms-loop-arm-preserved t c =
    let defs = c.args.defs.now in
    let e = each_more (λ xs. flat_map (λ arm. arm defs) (map case_arm_to xs)) (λ x. case_arm_to x defs) refl (λ x xs. refl) c.args.arms.now c.loop-arm.arm-index c.arm-item.result c.loop-arm-test.true c.arm-item.is in
    search (rules, e)

pub simple-returns : goal.simple-returns
simple-returns t c =
    subst (λ q. IfOk c.of_kind.result (λ s. s ≡ q))
    (translated_simple c.args.at c.args.assigns.now c.args.words.now c.args.defs.now c.in_ok-kind.kind
    (c.in_ok-kind.ensures ∙ ap (λ ws. kind_of (map static_word ws) c.args.defs.now) c.as_slice.ensures))
    c.of_kind.ensures
