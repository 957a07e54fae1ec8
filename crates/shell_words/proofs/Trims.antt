-- A text from its end on: newline after newline.
use Rattle.std.proofs.Common.{◌≡◌, ℕ, suc, ◌+◌, ◌-◌, ◌<◌, ◌≤◌, List, [], ◌∷◌, ◌++◌, length, get_or, take, drop, replicate, refl, sym, ap, ◌∙◌, arith}
use Rattle.std.proofs.lemmas.List.{drop_all, drop_more, take_more, take-append-drop}
use Rattle.shell_words.specs.Trimmed.{IsTrimmed}

-- the last number of a list
final : List ℕ → ℕ
final [] = 0
final (x ∷ []) = x
final (x ∷ y ∷ rest) = final (y ∷ rest)

final-push : (xs : List ℕ) (y : ℕ) → final (xs ++ y ∷ []) ≡ y
unfolding final
final-push [] y = refl
final-push (x ∷ []) y = refl
final-push (x ∷ z ∷ rest) y = final-push (z ∷ rest) y

not-empty : (xs : List ℕ) (y : ℕ) → [] ≡ xs ++ y ∷ [] → ⊥
not-empty [] y e = cc
not-empty (x ∷ xs) y e = cc

module _ (text : List ℕ) where
  pub trim-start : drop (length text) text ≡ replicate (length text - length text) 10
  trim-start =
      let none : length text - length text ≡ 0 = omega arith in
      drop_all (length text) text (omega arith) ∙ ap (λ n. replicate n 10) (sym none)

  pub trim-more : (end : ℕ) → 0 < end → end ≤ length text → get_or text (end - 1) 0 ≡ 10 → drop end text ≡ replicate (length text - end) 10
      → drop (end - 1) text ≡ replicate (length text - (end - 1)) 10
  trim-more end on within newline so_far =
      let next : (end - 1) + 1 ≡ end = omega arith in
      let left : length text - (end - 1) ≡ suc (length text - end) = omega arith in
      drop_more text (end - 1) 0 (omega arith) ∙ ap (λ n. get_or text (end - 1) 0 ∷ drop n text) next
      ∙ ap (λ b. b ∷ drop end text) newline ∙ ap (λ r. 10 ∷ r) so_far ∙ ap (λ n. replicate n 10) (sym left)

  pub trim-end : (end : ℕ) → 0 < end → end ≤ length text → (get_or text (end - 1) 0 ≡ 10 → ⊥) → drop end text ≡ replicate (length text - end) 10
      → IsTrimmed text (take end text)
  trim-end end on within other so_far =
      let next : (end - 1) + 1 ≡ end = omega arith in
      let split : take end text ≡ take (end - 1) text ++ get_or text (end - 1) 0 ∷ [] = ap (λ n. take n text) (sym next) ∙ take_more text (end - 1) 0 (omega arith) in
      record {
        newlines = length text - end;
        whole = sym (take-append-drop end text) ∙ ap (λ r. take end text ++ r) so_far;
        ends = λ front e. other (sym (final-push (take (end - 1) text) (get_or text (end - 1) 0)) ∙ ap final (sym split ∙ e) ∙ final-push front 10);
      }

  pub trim-all : drop 0 text ≡ replicate (length text - 0) 10 → IsTrimmed text (take 0 text)
  trim-all so_far = record {
    newlines = length text - 0;
    whole = so_far;
    ends = λ front e. not-empty front 10 e;
  }
