-- How far a command reaches, of which a scanner has passed a part.
use Rattle.std.proofs.Common.{◌≡◌, ℕ, zero, suc, Bool, true, false, List, ◌∷◌, ◌+◌, refl, sym, ap, arith}
use Rattle.std.specs.Prelude.{if◌then◌else◌}
use Rattle.std.specs.Prelude.{reverse}
use Rattle.script_places.specs.declared.command_ends.Within.{Within}
use Rattle.script_places.specs.CommandEnds.{ends_before, is_alone, is_between, length_from, one_more, Scan, scan_of, scanned}

-- how far it reaches, where it reached so far before, and n bytes more follow behind those that were passed
abbrev pub reached : ℕ → ℕ → ℕ → ℕ
reached size passed zero = size
reached size passed (suc n) = passed + suc n

-- one byte more is passed
pub reached_more : (between : Bool) (size passed n : ℕ)
    → reached (if between then size else passed + 1) (passed + 1) n ≡ reached size passed (one_more between n)
reached_more true size passed zero = refl
reached_more true size passed (suc n) = omega (arith)
reached_more false size passed zero = refl
reached_more false size passed (suc n) = omega (arith)

-- one byte more is passed, which the command does not end before
passed_one : (s t : Scan) (b : ℕ) (rest : List ℕ) (size passed : ℕ)
    → ends_before s.within (is_alone s.around) b ≡ false → t ≡ scanned s b
    → reached (if is_between t.within (is_alone t.around) then size else passed + 1) (passed + 1) (length_from t rest)
    ≡ reached size passed (length_from s (b ∷ rest))
passed_one s t b rest size passed e g =
    let h : length_from s (b ∷ rest)
    ≡ one_more (is_between (scanned s b).within (is_alone (scanned s b).around)) (length_from (scanned s b) rest)
    = ap (λ e. if e then 0 else one_more (is_between (scanned s b).within (is_alone (scanned s b).around)) (length_from (scanned s b) rest)) e
    in rw (h, sym g) (reached_more (is_between t.within (is_alone t.around)) size passed (length_from t rest))

pub passes : (w v : Within) (around next : List Within) (b : ℕ) (rest : List ℕ) (size passed : ℕ)
    → ends_before w (is_alone (reverse around)) b ≡ false → scan_of v next ≡ scanned (scan_of w around) b
    → reached (if is_between v (is_alone (reverse next)) then size else passed + 1) (passed + 1)
    (length_from (scan_of v next) rest)
    ≡ reached size passed (length_from (scan_of w around) (b ∷ rest))
passes w v around next b rest size passed e g =
    passed_one (scan_of w around) (scan_of v next) b rest size passed e g
