-- Versions of packages, and their order (Debian Policy, 5.6.12; deb-version(7)): `[epoch:]upstream[-revision]`.
use Rattle.std.specs.Prelude.{ℕ, Bool, false, ◌&&◌, ◌||◌, nat_eq, nat_le, List, [], ◌∷◌, ◌++◌, length}
use Rattle.std.specs.Prelude.{Option, Some, None, if◌then◌else◌}
use Rattle.std.specs.List.{list_all}
use Rattle.std.specs.declared.cmp.Ordering.{Ordering}
use Rattle.std.specs.Ordering.{ordering_then, nat_cmp}
use Rattle.std.specs.Cmp.Lexicographic.{slice_cmp}
use Rattle.script_names.specs.Ascii.{colon, full_stop, hyphen, plus, tilde}
use Rattle.script_names.specs.ShellNames.{is_digit}
use Rattle.debian_versions.specs.declared.version.TheConstants.{MAX_EPOCH_DIGITS}
use Rattle.debian_versions.specs.declared.version.Version.{Version}
use Rattle.debian_versions.specs.Parts.{is_letter, number, part}

-- ---- the three parts of a version

-- a cut of a text with these bytes before it
abbrev pub behind_front : List ℕ → Option (List ℕ × List ℕ) → Option (List ℕ × List ℕ)
behind_front front None = None
behind_front front (Some cut) = Some (front ++ cut.0, cut.1)

-- a text cut at the first of such bytes, where there is one: what stands before it, and what stands behind it
abbrev pub cut_first : ℕ → List ℕ → Option (List ℕ × List ℕ)
cut_first at [] = None
cut_first at (b ∷ rest) = if nat_eq b at then Some ([], rest) else behind_front (b ∷ []) (cut_first at rest)

-- a text cut at the last of such bytes, by the cut of what stands behind its first byte
abbrev pub before_cut : ℕ → ℕ → List ℕ → Option (List ℕ × List ℕ) → Option (List ℕ × List ℕ)
before_cut at b rest (Some cut) = Some (b ∷ cut.0, cut.1)
before_cut at b rest None = if nat_eq b at then Some ([], rest) else None

-- a text cut at the last of such bytes, where there is one
abbrev pub cut_last : ℕ → List ℕ → Option (List ℕ × List ℕ)
cut_last at [] = None
cut_last at (b ∷ rest) = before_cut at b rest (cut_last at rest)

-- an epoch: some digits, so many that its value is small
abbrev pub is_epoch : List ℕ → Bool
is_epoch text = nat_le 1 (length text) && (nat_le (length text) MAX_EPOCH_DIGITS && list_all is_digit text)

-- a byte of a revision: a letter, a digit, `.`, `+` or `~`
abbrev pub is_revision_byte : ℕ → Bool
is_revision_byte b = is_letter b || (is_digit b || (nat_eq b full_stop || (nat_eq b plus || nat_eq b tilde)))

-- a byte of an upstream version: `-` and `:` too; the latter only behind an epoch, since the first one ends that
abbrev pub is_upstream_byte : ℕ → Bool
is_upstream_byte b = is_revision_byte b || (nat_eq b hyphen || nat_eq b colon)

-- an upstream version begins with a digit
abbrev pub is_upstream : List ℕ → Bool
is_upstream [] = false
is_upstream (b ∷ rest) = is_digit b && list_all is_upstream_byte rest

-- a revision has a byte
abbrev pub is_revision : List ℕ → Bool
is_revision [] = false
is_revision (b ∷ rest) = list_all is_revision_byte (b ∷ rest)

-- a version of these parts, as it is ordered; without an epoch it has the epoch 0, and without a revision the revision
-- 0, which no bytes stand for too
abbrev pub made_of : List ℕ → List ℕ → List ℕ → Version
made_of epoch upstream revision =
    record { epoch = number epoch; upstream = part upstream; revision = part revision }

-- the version behind an epoch, cut at its last hyphen
abbrev pub version_cut : List ℕ → List ℕ → Option (List ℕ × List ℕ) → Option Version
version_cut epoch text None = if is_upstream text then Some (made_of epoch text []) else None
version_cut epoch text (Some cut) =
    if is_upstream cut.0 && is_revision cut.1 then Some (made_of epoch cut.0 cut.1) else None

-- the version behind an epoch
abbrev pub version_behind : List ℕ → List ℕ → Option Version
version_behind epoch text = version_cut epoch text (cut_last hyphen text)

-- the version of a text, cut at its first colon
abbrev pub version_in : List ℕ → Option (List ℕ × List ℕ) → Option Version
version_in text None = version_behind [] text
version_in text (Some cut) = if is_epoch cut.0 then version_behind cut.0 cut.1 else None

-- the version that a text spells, as it is ordered; None where it spells none
abbrev pub version : List ℕ → Option Version
version text = version_in text (cut_first colon text)

-- ---- the order

-- the order of versions: by the epochs, then by the upstream versions, then by the revisions
abbrev pub version_cmp : Version → Version → Ordering
version_cmp a b =
    ordering_then (slice_cmp nat_cmp a.epoch b.epoch)
    (ordering_then (slice_cmp nat_cmp a.upstream b.upstream) (slice_cmp nat_cmp a.revision b.revision))
