-- What is known by an act, added part by part.
use Rattle.std.proofs.Common.{◌≡◌, false, List, ◌++◌, Option, refl, ap, ◌∙◌}
use Rattle.script_names.specs.Paths.{PathParts}
use Rattle.feature_trees.specs.declared.kind.Kinds.{Kinds}
use Rattle.utility_calls.specs.declared.acts.Act.{Act}
use Rattle.utility_calls.specs.Acts.{path_of}
use Rattle.link_walks.specs.declared.walks.Reached.{Reached}
use Rattle.link_walks.specs.Links.{LinkParts}
use Rattle.link_walks.specs.Reaching.{reach}
use Rattle.system_base.specs.declared.base.KnownPath.{KnownPath}
use Rattle.settled_commands.specs.Sorts.{kinds_taken, second_path, way_known, end_known, second_known, act_known}
use Rattle.settled_commands.proofs.Behind.{both}

pub act_added : (links : List LinkParts) (act : Act) (p : PathParts) (r : Reached) (kinds : Option Kinds) (before way end all : List KnownPath)
    → p ≡ path_of act → r ≡ reach links false p → kinds ≡ kinds_taken act
    → way ≡ before ++ way_known r → end ≡ way ++ end_known kinds r → all ≡ end ++ second_known links (second_path act)
    → all ≡ before ++ act_known links act
act_added links act p r kinds before way end all is_p is_r is_kinds is_way is_end is_all =
    let place = reach links false (path_of act) in
    let is_place : r ≡ place = is_r ∙ ap (reach links false) is_p in
    let second = second_known links (second_path act) in
    both before way all (way_known place) (end_known (kinds_taken act) place ++ second) (act_known links act) refl
    (is_way ∙ ap (λ x. before ++ way_known x) is_place)
    (both way end all (end_known (kinds_taken act) place) second _ refl
    (is_end ∙ ap (λ k. way ++ end_known k r) is_kinds ∙ ap (λ x. way ++ end_known (kinds_taken act) x) is_place) is_all)
