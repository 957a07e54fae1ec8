-- What holds of the order of versions.
use Rattle.std.specs.Prelude.{◌≡◌, ℕ, List, [], ◌∷◌, ◌++◌}
use Rattle.std.specs.declared.cmp.Ordering.TheVariants.{Less}
use Rattle.std.specs.Ordering.{nat_cmp}
use Rattle.std.specs.Cmp.{IsTotalOrder}
use Rattle.std.specs.Cmp.Lexicographic.{slice_cmp}
use Rattle.script_names.specs.Ascii.{digit_zero, tilde}
use Rattle.debian_versions.specs.Parts.{part, number}
use Rattle.debian_versions.specs.Versions.{version_cmp}

-- it is a total order on what versions are ordered by
abbrev pub VersionsAreOrdered : Type 0
VersionsAreOrdered = IsTotalOrder version_cmp

-- a part with a tilde behind it is earlier than the part
abbrev pub TildeIsEarlier : Type 0
TildeIsEarlier = (text rest : List ℕ) → slice_cmp nat_cmp (part (text ++ tilde ∷ rest)) (part text) ≡ Less

-- zeros that digits begin with do not count
abbrev pub ZerosDoNotCount : Type 0
ZerosDoNotCount = (digits : List ℕ) → number (digit_zero ∷ digits) ≡ number digits

-- no revision is the revision 0
abbrev pub NoRevisionIsZero : Type 0
NoRevisionIsZero = part [] ≡ part (digit_zero ∷ [])
