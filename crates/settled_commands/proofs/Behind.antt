-- What is seen of several parts, one behind another.
use Rattle.std.proofs.Common.{◌≡◌, ℕ, ◌+◌, ◌<◌, ◌≤◌, List, [], ◌∷◌, ◌++◌, length, take, map, get_or, sym, ap, ◌∙◌, add-one}
use Rattle.std.proofs.Math.Seq.{take-suc}
use Rattle.std.proofs.lemmas.List.{append_assoc, append-nil, map-append, take_all}
use Rattle.std.proofs.lemmas.Grind.{flat_map-append}
use Rattle.std.specs.List.{flat_map}

-- added behind what was added before
pub both : {A : Type 0} (a b c xs ys all : List A) → all ≡ xs ++ ys → b ≡ a ++ xs → c ≡ b ++ ys → c ≡ a ++ all
both a b c xs ys all is e1 e2 = e2 ∙ ap (λ l. l ++ ys) e1 ∙ append_assoc a xs ys ∙ ap (λ l. a ++ l) (sym is)

-- the same, otherwise written
pub same : {A : Type 0} (a b xs all : List A) → all ≡ xs → b ≡ a ++ xs → b ≡ a ++ all
same a b xs all is e = e ∙ ap (λ l. a ++ l) (sym is)

-- a loop over parts, one part further on
module _ {X Y A : Type 0} (f : Y → List A) (g : X → Y) where
  pub taken : (xs : List X) (i : ℕ) (x : X) → i < length xs → x ≡ get_or xs i x
      → flat_map f (map g (take (i + 1) xs)) ≡ flat_map f (map g (take i xs)) ++ f (g x)
  taken xs i x lt is =
      ap (λ n. flat_map f (map g (take n xs))) (add-one i) ∙ ap (λ ys. flat_map f (map g ys)) (take-suc xs i x lt)
      ∙ ap (flat_map f) (map-append g (take i xs) (get_or xs i x ∷ []))
      ∙ flat_map-append f (map g (take i xs)) (g (get_or xs i x) ∷ [])
      ∙ ap (λ l. flat_map f (map g (take i xs)) ++ l) (append-nil (f (g (get_or xs i x))) ∙ ap (λ y. f (g y)) (sym is))

  pub more : (a b c : List A) (xs : List X) (i : ℕ) (x : X) → i < length xs → x ≡ get_or xs i x
      → b ≡ a ++ flat_map f (map g (take i xs)) → c ≡ b ++ f (g x) → c ≡ a ++ flat_map f (map g (take (i + 1) xs))
  more a b c xs i x lt is before here = both a b c (flat_map f (map g (take i xs))) (f (g x)) _ (taken xs i x lt is) before here

  -- at its end
  pub whole : (a b : List A) (xs : List X) (i : ℕ) → length xs ≤ i → b ≡ a ++ flat_map f (map g (take i xs)) → b ≡ a ++ flat_map f (map g xs)
  whole a b xs i end e = e ∙ ap (λ ys. a ++ flat_map f (map g ys)) (take_all i xs end)
