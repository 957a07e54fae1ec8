-- A text that grows by what each item of a list becomes.
use Rattle.std.proofs.Common.{◌≡◌, ℕ, zero, suc, ◌+◌, List, [], ◌∷◌, ◌++◌, take, Some, sym, ap, ◌∙◌, append_assoc, append-nil, add-one}
use Rattle.std.specs.List.{flat_map, slice_get}
use Rattle.std.proofs.lemmas.List.Concat.{flat_map-append}

grown : {A : Type 0} (xs : List A) (i : ℕ) (x : A) → Some x ≡ slice_get xs i → take i xs ++ x ∷ [] ≡ take (suc i) xs
grown [] i x e = cc
grown (y ∷ xs) zero x e = let s : x ≡ y = cc in ap (λ z. z ∷ []) s
grown (y ∷ xs) (suc i) x e = ap (λ l. y ∷ l) (grown xs i x e)

pub text_more : {A : Type 0} (f : A → List ℕ) (xs : List A) (i : ℕ) (x : A) (first old new : List ℕ) → new ≡ old ++ f x
    → old ≡ first ++ flat_map f (take i xs) → Some x ≡ slice_get xs i → new ≡ first ++ flat_map f (take (i + 1) xs)
text_more f xs i x first old new e so_far at =
    e ∙ ap (λ t. t ++ f x) so_far ∙ append_assoc first (flat_map f (take i xs)) (f x)
    ∙ ap (λ t. first ++ (flat_map f (take i xs) ++ t)) (sym (append-nil (f x)))
    ∙ ap (λ t. first ++ t) (sym (flat_map-append f (take i xs) (x ∷ [])))
    ∙ ap (λ l. first ++ flat_map f l) (grown xs i x at ∙ ap (λ n. take n xs) (sym (add-one i)))
