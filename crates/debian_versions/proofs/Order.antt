-- The laws of the order of versions.
use Rattle.std.proofs.Common.{◌≡◌, ℕ, Bool, true, false, List, [], ◌∷◌, ◌++◌, refl, ap, ◌∙◌, Less}
use Rattle.std.specs.Prelude.{if◌then◌else◌}
use Rattle.std.specs.Ordering.{nat_cmp, ordering_then}
use Rattle.std.specs.Cmp.{on_total, then_total}
use Rattle.std.proofs.lemmas.Cmp.{tied_itself, nat_cmp_total}
use Rattle.std.specs.Cmp.Lexicographic.{nat_list_cmp_total, slice_cmp}
use Rattle.debian_versions.specs.declared.version.Version.{Version}
use Rattle.debian_versions.specs.Laws.{VersionsAreOrdered, TildeIsEarlier}
use Rattle.script_names.specs.Ascii.{tilde}
use Rattle.script_names.specs.ShellNames.{is_digit}
use Rattle.debian_versions.specs.Parts.{leading, added, number, rank, end_rank, part_from}

pub ordered : VersionsAreOrdered
ordered =
    then_total (on_total (λ (v : Version). v.epoch) nat_list_cmp_total)
    (then_total (on_total (λ (v : Version). v.upstream) nat_list_cmp_total)
    (on_total (λ (v : Version). v.revision) nat_list_cmp_total))

-- what two texts begin with alike does not order them
alike : (front a b : List ℕ) → slice_cmp nat_cmp (front ++ a) (front ++ b) ≡ slice_cmp nat_cmp a b
alike [] a b = refl
alike (x ∷ front) a b = ap (λ o. ordering_then o (slice_cmp nat_cmp (front ++ a) (front ++ b))) (tied_itself nat_cmp_total x) ∙ alike front a b

-- the digits that a text begins with are those that it begins with before a tilde
same_leading : (text rest : List ℕ) → leading (text ++ tilde ∷ rest) ≡ leading text
same_leading [] rest = refl
same_leading (b ∷ text) rest = ap (λ digits. if is_digit b then b ∷ digits else []) (same_leading text rest)

same_added : (behind : Bool) (b : ℕ) (text rest : List ℕ) → added behind b (text ++ tilde ∷ rest) ≡ added behind b text
same_added behind b text rest =
    ap (λ digits. if is_digit b then (if behind then [] else end_rank ∷ number digits) else rank b ∷ []) (same_leading (b ∷ text) rest)

earlier_from : (behind : Bool) (text rest : List ℕ)
    → slice_cmp nat_cmp (part_from behind (text ++ tilde ∷ rest)) (part_from behind text) ≡ Less
earlier_from false [] rest = refl
earlier_from true [] rest = refl
earlier_from behind (b ∷ text) rest =
    ap (λ front. slice_cmp nat_cmp (front ++ part_from (is_digit b) (text ++ tilde ∷ rest)) (added behind b text ++ part_from (is_digit b) text)) (same_added behind b text rest)
    ∙ alike (added behind b text) _ _ ∙ earlier_from (is_digit b) text rest

pub tilde_is_earlier : TildeIsEarlier
tilde_is_earlier text rest = earlier_from false text rest
