-- Texts to which one piece after another was added.
use Rattle.std.proofs.Common.{◌≡◌, ℕ, List, ◌++◌, ap, ◌∙◌}
use Rattle.std.proofs.lemmas.List.{append_assoc}

-- four pieces
pub four : (a b c d e : List ℕ) {t u v w : List ℕ} → t ≡ a ++ b → u ≡ t ++ c → v ≡ u ++ d → w ≡ v ++ e
    → w ≡ a ++ (b ++ (c ++ (d ++ e)))
four a b c d e p q r s =
    s ∙ ap (λ t. t ++ e) (r ∙ ap (λ t. t ++ d) (q ∙ ap (λ t. t ++ c) p))
    ∙ append_assoc ((a ++ b) ++ c) d e ∙ append_assoc (a ++ b) c (d ++ e) ∙ append_assoc a b (c ++ (d ++ e))

-- five pieces
pub five : (a b c d e f : List ℕ) {t u v w x : List ℕ} → t ≡ a ++ b → u ≡ t ++ c → v ≡ u ++ d → w ≡ v ++ e
    → x ≡ w ++ f → x ≡ a ++ (b ++ (c ++ (d ++ (e ++ f))))
five a b c d e f {t} {u} {v} {w} {x} p q r s z =
    z ∙ ap (λ t. t ++ f) (four a b c d e p q r s) ∙ append_assoc a (b ++ (c ++ (d ++ e))) f
    ∙ ap (λ t. a ++ t) (append_assoc b (c ++ (d ++ e)) f)
    ∙ ap (λ t. a ++ (b ++ t)) (append_assoc c (d ++ e) f)
    ∙ ap (λ t. a ++ (b ++ (c ++ t))) (append_assoc d e f)
