-- Lists joined one by one, in a loop.
use Rattle.std.proofs.Common.{◌≡◌, ℕ, suc, ◌+◌, ◌<◌, ◌≤◌, List, [], ◌++◌, length, drop, get_or, Option, Some, None, refl, sym, ap, ◌∙◌, add-one}
use Rattle.std.proofs.Math.Seq.{drop-cons}
use Rattle.std.proofs.lemmas.List.{append_assoc, append-nil, drop_all}
use Rattle.settled_commands.specs.Joined.{joined, all_joined}

both_both : {A : Type 0} (xs ys : List A) (rest : Option (List A)) → joined (Some xs) (joined (Some ys) rest) ≡ joined (Some (xs ++ ys)) rest
both_both xs ys None = refl
both_both xs ys (Some more) = ap Some (sym (append_assoc xs ys more))

-- at the beginning
pub joined_start : {A : Type 0} (whole : Option (List A)) → joined (Some []) whole ≡ whole
joined_start None = refl
joined_start (Some xs) = refl

module _ {X A : Type 0} (f : X → Option (List A)) where
  -- one further on
  at_one : (xs : List X) (i : ℕ) (x : X) → i < length xs → x ≡ get_or xs i x
      → all_joined f (drop i xs) ≡ joined (f x) (all_joined f (drop (i + 1) xs))
  at_one xs i x lt is =
      ap (all_joined f) (drop-cons xs i x lt) ∙ ap (λ y. joined (f y) (all_joined f (drop (suc i) xs))) (sym is)
      ∙ ap (λ n. joined (f x) (all_joined f (drop n xs))) (sym (add-one i))

  -- one that is there
  pub joined_more : (all : Option (List A)) (xs : List X) (i : ℕ) (x : X) (so ys : List A) → i < length xs → x ≡ get_or xs i x
      → f x ≡ Some ys → joined (Some so) (all_joined f (drop i xs)) ≡ all
      → joined (Some (so ++ ys)) (all_joined f (drop (i + 1) xs)) ≡ all
  joined_more all xs i x so ys lt is here so_far =
      sym (both_both so ys _)
      ∙ ap (λ b. joined (Some so) (joined b (all_joined f (drop (i + 1) xs)))) (sym here)
      ∙ ap (joined (Some so)) (sym (at_one xs i x lt is)) ∙ so_far

  -- one that is not
  pub joined_not : (all : Option (List A)) (xs : List X) (i : ℕ) (x : X) (so : List A) → i < length xs → x ≡ get_or xs i x
      → f x ≡ None → joined (Some so) (all_joined f (drop i xs)) ≡ all → None ≡ all
  joined_not all xs i x so lt is here so_far =
      ap (λ b. joined (Some so) (joined b (all_joined f (drop (i + 1) xs)))) (sym here)
      ∙ ap (joined (Some so)) (sym (at_one xs i x lt is)) ∙ so_far

  -- at the end
  pub joined_end : (all : Option (List A)) (xs : List X) (i : ℕ) (so : List A) → length xs ≤ i
      → joined (Some so) (all_joined f (drop i xs)) ≡ all → Some so ≡ all
  joined_end all xs i so end so_far =
      ap Some (sym (append-nil so)) ∙ ap (λ ys. joined (Some so) (all_joined f ys)) (sym (drop_all i xs end)) ∙ so_far
