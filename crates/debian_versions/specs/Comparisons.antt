-- `dpkg --compare-versions A OP B` (dpkg(1)): whether the order of the two versions is such.
use Rattle.std.specs.Prelude.{ℕ, Bool, true, false, ◌&&◌, List, [], ◌∷◌, Option, Some, None, option_map, codes}
use Rattle.std.specs.Prelude.{if◌then◌else◌}
use Rattle.std.specs.declared.cmp.Ordering.{Ordering}
use Rattle.std.specs.declared.cmp.Ordering.TheVariants.{Less, Equal, Greater}
use Rattle.std.specs.Str.{bytes_eq}
use Rattle.debian_versions.specs.declared.comparing.Operator.{Operator}
use Rattle.debian_versions.specs.declared.version.Version.{Version}
use Rattle.debian_versions.specs.Versions.{version, version_cmp}

-- an operator that holds of such orders; without `-nl` no version is earlier than each, with it later
abbrev pub operator : Bool → Bool → Bool → Bool → Option Operator
operator less equal greater later = Some (record { less = less; equal = equal; greater = greater; later = later })

-- the operator of a word that begins otherwise: the signs of Debian's relations
abbrev pub operator_by_sign : List ℕ → Option Operator
operator_by_sign word =
    if bytes_eq word (codes "<<") then operator true false false false
    else (if bytes_eq word (codes "<=") then operator true true false false
    else (if bytes_eq word (codes "=") then operator false true false false
    else (if bytes_eq word (codes ">=") then operator false true true false
    else (if bytes_eq word (codes ">>") then operator false false true false
    else None))))

-- the operator of a word with `-nl`, for which no version is later than each, or of another one
abbrev pub operator_by_end : List ℕ → Option Operator
operator_by_end word =
    if bytes_eq word (codes "lt-nl") then operator true false false true
    else (if bytes_eq word (codes "le-nl") then operator true true false true
    else (if bytes_eq word (codes "ge-nl") then operator false true true true
    else (if bytes_eq word (codes "gt-nl") then operator false false true true
    else operator_by_sign word)))

-- the operator that a word names
abbrev pub operator_of : List ℕ → Option Operator
operator_of word =
    if bytes_eq word (codes "lt") then operator true false false false
    else (if bytes_eq word (codes "le") then operator true true false false
    else (if bytes_eq word (codes "eq") then operator false true false false
    else (if bytes_eq word (codes "ne") then operator true false true false
    else (if bytes_eq word (codes "ge") then operator false true true false
    else (if bytes_eq word (codes "gt") then operator false false true false
    else operator_by_end word)))))

-- an operand: a version, or no version where it has no bytes; None where it is neither
abbrev pub operand : List ℕ → Option (Option Version)
operand [] = Some None
operand (b ∷ rest) = option_map Some (version (b ∷ rest))

-- the order of what has no version and what has one
abbrev pub none_and_some : Bool → Ordering
none_and_some later = if later then Greater else Less

-- the order of what has one and what has none
abbrev pub some_and_none : Bool → Ordering
some_and_none later = if later then Less else Greater

-- the order of two operands; no version is earlier than each, or later than each, and no version equals no version
abbrev pub order_of : Bool → Option Version → Option Version → Ordering
order_of later None None = Equal
order_of later None (Some b) = none_and_some later
order_of later (Some a) None = some_and_none later
order_of later (Some a) (Some b) = version_cmp a b

-- whether an operator holds of an order
abbrev pub holds : Operator → Ordering → Bool
holds op Less = op.less
holds op Equal = op.equal
holds op Greater = op.greater

-- the answer, where both operands and the operator are such
abbrev pub answer_of : Option (Option Version) → Option Operator → Option (Option Version) → Option Bool
answer_of (Some a) (Some op) (Some b) = Some (holds op (order_of op.later a b))
answer_of (Some a) (Some op) None = None
answer_of (Some a) None b = None
answer_of None op b = None

-- whether the first two fields are `dpkg --compare-versions`
abbrev pub compares : List ℕ → List ℕ → Bool
compares name option = bytes_eq name (codes "dpkg") && bytes_eq option (codes "--compare-versions")

-- the answer of a command with these fields, by Debian's order of versions; None where it is no such comparison
abbrev pub comparison : List (List ℕ) → Option Bool
comparison [] = None
comparison (name ∷ []) = None
comparison (name ∷ option ∷ []) = None
comparison (name ∷ option ∷ a ∷ []) = None
comparison (name ∷ option ∷ a ∷ op ∷ []) = None
comparison (name ∷ option ∷ a ∷ op ∷ b ∷ []) =
    if compares name option then answer_of (operand a) (operator_of op) (operand b) else None
comparison (name ∷ option ∷ a ∷ op ∷ b ∷ other ∷ more) = None
