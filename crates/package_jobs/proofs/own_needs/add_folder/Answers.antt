use Rattle.std.proofs.Common.{◌≡◌, ap, sym, subst, ◌∙◌}
use Rattle.std.specs.Prelude.{◌++◌, OnOk}
use Rattle.std.proofs.lemmas.List.{append-nil}
use Rattle.package_lists.specs.FolderNames.{names_at}
use Rattle.package_lists.specs.Paths.{path_text}
use Rattle.package_lists.specs.PathSets.{has}
use Rattle.package_jobs.specs.Needed.{folder_needs}
use Rattle.package_jobs.proofs.NeededSets.{folder_based, folder_free}
use Rattle.package_jobs.proofs.own_needs.add_folder.Goals as goal

pub returns-then-is_based : goal.returns-then-is_based
returns-then-is_based c =
    let by = c.args.owning.now in
    let text = c.as_slice.ensures ∙ c.in_ok-text-in-At.ensures ∙ ap path_text c.names.ensures.names in
    let is = sym (c.has-is_based.ensures ∙ ap (has by.based) text) ∙ c.if-is_based.true in
    sym (ap (λ needs. c.args.needs.now ++ needs)
    (ap (folder_needs c.args.own (has by.based) (names_at by.names)) c.in-At.is ∙ folder_based c.args.own (has by.based) (names_at by.names) c.in-At.path is)
    ∙ append-nil c.args.needs.now)

pub returns : goal.returns
returns c =
    let by = c.args.owning.now in
    let text = c.as_slice.ensures ∙ c.in_ok-text-in-At.ensures ∙ ap path_text c.names.ensures.names in
    let is = sym (c.has-is_based.ensures ∙ ap (has by.based) text) ∙ c.if-is_based.false in
    subst (λ needs. OnOk c.add_names.result (c.add_names.new.needs ≡ c.args.needs.now ++ needs))
    (sym (ap (folder_needs c.args.own (has by.based) (names_at by.names)) c.in-At.is ∙ folder_free c.args.own (has by.based) (names_at by.names) c.in-At.path is))
    c.add_names.ensures
