-- Texts cut at the last of some bytes.
use Rattle.std.proofs.Common.{◌≡◌, ℕ, zero, suc, ◌-◌, ◌<◌, List, [], ◌∷◌, length, get_or, take, drop, Some, None, sym, ap, ◌∙◌, arith, rules}
use Rattle.std.proofs.Math.Seq.{take-length}
use Rattle.std.proofs.lemmas.List.{length-drop}
use Rattle.debian_versions.specs.Versions.{cut_last, before_cut}

-- where the byte stands at a place, and not behind it
pub last_found : (at : ℕ) (i : ℕ) (text : List ℕ) → i < length text → get_or text i 0 ≡ at → cut_last at (drop (suc i) text) ≡ None
    → cut_last at text ≡ Some (take i text, drop (suc i) text)
last_found at i [] lt here behind = absurd (omega arith)
last_found at zero (b ∷ rest) lt here behind = search (rules, here, behind)
last_found at (suc i) (b ∷ rest) lt here behind = ap (before_cut at b rest) (last_found at i rest (omega arith) here behind)

-- as the code takes it: what stands behind the place ends where the text does
pub last_cut : (at i j : ℕ) (text : List ℕ) → j ≡ suc i → i < length text → get_or text i 0 ≡ at → cut_last at (drop j text) ≡ None
    → Some (take i text, take (length text - j) (drop j text)) ≡ cut_last at text
last_cut at i j text e lt here behind =
    let whole : take (length text - j) (drop j text) ≡ drop j text =
    ap (λ n. take n (drop j text)) (sym (length-drop j text)) ∙ take-length (drop j text) in
    let found = last_found at i text lt here (ap (λ n. cut_last at (drop n text)) (sym e) ∙ behind) in
    ap (λ rest. Some (take i text, rest)) (whole ∙ ap (λ n. drop n text) e) ∙ sym found
