-- What is answered of chunks, one after the other.
use Rattle.std.proofs.Common.{◌≡◌, ℕ, ◌+◌, ◌-◌, ◌<◌, ◌≤◌, zero, suc, List, [], ◌∷◌, ◌++◌, All, length, map, drop, refl, sym, subst, ap, ◌∙◌, arith}
use Rattle.std.specs.List.{AllZip, flat_map}
use Rattle.std.proofs.lemmas.List.{map-append, take-append-drop, drop-drop, drop_all}
use Rattle.tree_predictions.specs.declared.chunks.Chunk.{Chunk}
use Rattle.tree_predictions.specs.Chunks.{Follow, IsWithin, part}

-- chunks that follow one another are each within
pub all_within : (chunks : List Chunk) (from end : ℕ) → Follow from end chunks → All (IsWithin end) chunks
all_within [] from end follow k d lt = absurd (let bad : 0 < 0 = omega (arith, lt) in omega (arith, bad))
all_within (chunk ∷ chunks) from end follow zero d lt = record {
  rises = subst (λ n. n ≤ chunk.to) (sym follow.0) follow.1;
  ends = follow.2;
}
all_within (chunk ∷ chunks) from end follow (suc k) d lt = all_within chunks chunk.to end follow.3 k d (omega (arith, lt))

-- one more
pub one_chunk : (chunks rest : List Chunk) (chunk : Chunk) (end : ℕ) → ((rest : List Chunk) → Follow chunk.from end rest → Follow 0 end (chunks ++ rest))
    → chunk.from ≤ chunk.to → chunk.to ≤ end → Follow chunk.to end rest → Follow 0 end ((chunks ++ chunk ∷ []) ++ rest)
one_chunk chunks rest chunk end before rises ends follow =
    subst (Follow 0 end) (sym (append_one chunks chunk rest)) (before (chunk ∷ rest) (refl, rises, ends, follow))
  where
    append_one : (chunks : List Chunk) (chunk : Chunk) (rest : List Chunk) → (chunks ++ chunk ∷ []) ++ rest ≡ chunks ++ chunk ∷ rest
    append_one [] chunk rest = refl
    append_one (c ∷ chunks) chunk rest = ap (λ cs. c ∷ cs) (append_one chunks chunk rest)

-- a list from a place on is what stands at the places of a chunk from there on, and what stands behind it
from_place : {A : Type 0} (xs : List A) (chunk : Chunk) → chunk.from ≤ chunk.to → drop chunk.from xs ≡ part xs chunk ++ drop chunk.to xs
from_place xs chunk le =
    let e : chunk.from + (chunk.to - chunk.from) ≡ chunk.to = omega (arith, le) in
    sym (ap (λ d. part xs chunk ++ d) (sym (drop-drop (chunk.to - chunk.from) chunk.from xs ∙ ap (λ n. drop n xs) e)) ∙ take-append-drop (chunk.to - chunk.from) (drop chunk.from xs))

zip_both : {A B : Type 0} (P : A → B → Type 0) (xs us : List A) (ys vs : List B) → AllZip P xs ys → AllZip P us vs → AllZip P (xs ++ us) (ys ++ vs)
zip_both P [] us [] vs one two = two
zip_both P [] us (y ∷ ys) vs one two = absurd one
zip_both P (x ∷ xs) us [] vs one two = absurd one
zip_both P (x ∷ xs) us (y ∷ ys) vs one two = (one.0, zip_both P xs us ys vs one.1 two)

module _ {A B C : Type 0} (P : B → C → Type 0) (f : A → B) where
  -- what holds of what stands at the places of each chunk, and its answers, holds of all
  pub whole : (chunks : List Chunk) (xs : List A) (answers : List (List C)) (from : ℕ) → Follow from (length xs) chunks
      → AllZip (λ chunk answer. AllZip P (map f (part xs chunk)) answer) chunks answers
      → AllZip P (map f (drop from xs)) (flat_map (λ answer. answer) answers)
  whole [] xs [] from follow all = subst (λ d. AllZip P (map f d) []) (sym (drop_all from xs (omega (arith, follow)))) tt
  whole [] xs (answer ∷ answers) from follow all = absurd all
  whole (chunk ∷ chunks) xs [] from follow all = absurd all
  whole (chunk ∷ chunks) xs (answer ∷ answers) from follow all =
      let le : chunk.from ≤ chunk.to = subst (λ n. n ≤ chunk.to) (sym follow.0) follow.1 in
      let both : AllZip P (map f (part xs chunk) ++ map f (drop chunk.to xs)) (answer ++ flat_map (λ answer. answer) answers) =
      zip_both P (map f (part xs chunk)) (map f (drop chunk.to xs)) answer (flat_map (λ answer. answer) answers) all.0 (whole chunks xs answers chunk.to follow.3 all.1) in
      let e : map f (part xs chunk) ++ map f (drop chunk.to xs) ≡ map f (drop from xs) =
      sym (map-append f (part xs chunk) (drop chunk.to xs)) ∙ ap (map f) (sym (from_place xs chunk le) ∙ ap (λ n. drop n xs) follow.0) in
      subst (λ ys. AllZip P ys (answer ++ flat_map (λ answer. answer) answers)) e both
