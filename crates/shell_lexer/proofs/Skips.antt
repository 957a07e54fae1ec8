-- Joined lines.
use Rattle.std.proofs.Common.{◌≡◌, ℕ, suc, ◌+◌, ◌<◌, ◌≤◌, false, ◌&&◌, nat_eq, [], ◌∷◌, refl, sym, ap, ◌∙◌, arith, drop, length, get_or, length-drop, add-one}
use Rattle.std.proofs.lemmas.Grind.{common_steps}
use Rattle.std.proofs.Math.Seq.{drop-cons}
use Rattle.shell_lexer.specs.Text.{Bytes, skip}
use Rattle.std.proofs.lemmas.Bool.{cond-false}

skip_one : (t : Bytes) → length t ≤ 1 → skip t ≡ t
skip_one [] le = refl
skip_one (a ∷ []) le = refl
skip_one (a ∷ b ∷ t) le = absurd (omega arith)

pub skip_short : (s : Bytes) (p : ℕ) → length s ≤ p + 1 → skip (drop p s) ≡ drop p s
skip_short s p le = skip_one (drop p s) (simp length-drop (omega arith))

skip_pair : (a b : ℕ) (t : Bytes) → (nat_eq a 92 && nat_eq b 10) ≡ false → skip (a ∷ b ∷ t) ≡ a ∷ b ∷ t
skip_pair a b t e = cond-false _ _ _ e

pub skip_stays : (s : Bytes) (p : ℕ) → p + 1 < length s → (nat_eq (get_or s p 0) 92 && nat_eq (get_or s (p + 1) 0) 10) ≡ false → skip (drop p s) ≡ drop p s
skip_stays s p lt e =
    let one : drop p s ≡ get_or s p 0 ∷ drop (suc p) s = drop-cons s p 0 (omega arith) in
    let two : drop (suc p) s ≡ get_or s (suc p) 0 ∷ drop (suc (suc p)) s = drop-cons s (suc p) 0 (omega arith) in
    let both : drop p s ≡ get_or s p 0 ∷ get_or s (p + 1) 0 ∷ drop (suc (suc p)) s = one ∙ ap (λ t. get_or s p 0 ∷ t) (two ∙ ap (λ k. get_or s k 0 ∷ drop (suc (suc p)) s) (sym (add-one p))) in
    ap skip both ∙ skip_pair _ _ _ e ∙ sym both

pub not_both : (a b : ℕ) → (b ≡ 10 → ⊥) → (nat_eq a 92 && nat_eq b 10) ≡ false
not_both a b h = grind (arith, common_steps)

pub not_first : (a b : ℕ) → (a ≡ 92 → ⊥) → (nat_eq a 92 && nat_eq b 10) ≡ false
not_first a b h = grind (arith, common_steps)
