-- The bytes of a static word, part by part.
use Rattle.std.proofs.Common.{◌≡◌, ℕ, suc, ◌+◌, ◌<◌, ◌≤◌, List, [], ◌++◌, length, drop, get_or, Option, Some, None, refl, sym, ap, ◌∙◌, add-one}
use Rattle.std.proofs.Math.Seq.{drop-cons}
use Rattle.std.proofs.lemmas.List.{append_assoc, append-nil, drop_all}
use Rattle.shell_syntax.specs.declared.syntax.Part.{Part}
use Rattle.shell_forms.specs.Names.{Text}
use Rattle.shell_forms.specs.Words.{both_bytes}
use Rattle.shell_forms.specs.Seen.{bytes_of, static_of}

-- one part further on
at_part : (parts : List Part) (i : ℕ) (part : Part) → i < length parts → part ≡ get_or parts i part
    → static_of (drop i parts) ≡ both_bytes (bytes_of part) (static_of (drop (i + 1) parts))
at_part parts i part lt is =
    ap static_of (drop-cons parts i part lt) ∙ ap (λ p. both_bytes (bytes_of p) (static_of (drop (suc i) parts))) (sym is)
    ∙ ap (λ n. both_bytes (bytes_of part) (static_of (drop n parts))) (sym (add-one i))

pub both_both : (text bytes : Text) (rest : Option Text) → both_bytes (Some text) (both_bytes (Some bytes) rest) ≡ both_bytes (Some (text ++ bytes)) rest
both_both text bytes None = refl
both_both text bytes (Some more) = ap Some (sym (append_assoc text bytes more))

-- a part that stands for bytes
pub static_more : (all : Option Text) (parts : List Part) (i : ℕ) (part : Part) (text bytes : Text) → i < length parts → part ≡ get_or parts i part
    → bytes_of part ≡ Some bytes → both_bytes (Some text) (static_of (drop i parts)) ≡ all
    → both_bytes (Some (text ++ bytes)) (static_of (drop (i + 1) parts)) ≡ all
static_more all parts i part text bytes lt is here so_far =
    sym (both_both text bytes _)
    ∙ ap (λ b. both_bytes (Some text) (both_bytes b (static_of (drop (i + 1) parts)))) (sym here)
    ∙ ap (both_bytes (Some text)) (sym (at_part parts i part lt is)) ∙ so_far

-- a part that does not
pub static_not : (all : Option Text) (parts : List Part) (i : ℕ) (part : Part) (text : Text) → i < length parts → part ≡ get_or parts i part
    → bytes_of part ≡ None → both_bytes (Some text) (static_of (drop i parts)) ≡ all → None ≡ all
static_not all parts i part text lt is here so_far =
    ap (λ b. both_bytes (Some text) (both_bytes b (static_of (drop (i + 1) parts)))) (sym here)
    ∙ ap (both_bytes (Some text)) (sym (at_part parts i part lt is)) ∙ so_far

-- at the end
pub static_end : (all : Option Text) (parts : List Part) (i : ℕ) (text : Text) → length parts ≤ i
    → both_bytes (Some text) (static_of (drop i parts)) ≡ all → Some text ≡ all
static_end all parts i text end so_far =
    ap Some (sym (append-nil text)) ∙ ap (λ ps. both_bytes (Some text) (static_of ps)) (sym (drop_all i parts end)) ∙ so_far

-- at the beginning
pub static_start : (whole : Option Text) → both_bytes (Some []) whole ≡ whole
static_start None = refl
static_start (Some bytes) = refl
