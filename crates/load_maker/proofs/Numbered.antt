-- The lines of numbers, one number further on.
use Rattle.std.proofs.Common.{◌≡◌, ℕ, ◌+◌, List, ◌++◌, sym, ap, ◌∙◌, append_assoc, add-one}
use Rattle.load_maker.specs.LoadText.{load_line, load_lines}

line_more : (k : ℕ) → load_lines k ++ load_line (k + 1) ≡ load_lines (k + 1)
line_more k = ap (λ n. load_lines k ++ load_line n) (add-one k) ∙ ap load_lines (sym (add-one k))

pub one_more : (head text more : List ℕ) (k : ℕ) → text ≡ head ++ load_lines k → more ≡ text ++ load_line (k + 1)
    → more ≡ head ++ load_lines (k + 1)
one_more head text more k is added =
    added ∙ ap (λ t. t ++ load_line (k + 1)) is ∙ append_assoc head (load_lines k) (load_line (k + 1))
    ∙ ap (λ t. head ++ t) (line_more k)
