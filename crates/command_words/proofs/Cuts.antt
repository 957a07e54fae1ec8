-- A word cut at its first equals sign.
use Rattle.std.proofs.Common.{◌≡◌, ◌≢◌, ℕ, suc, ◌<◌, List, [], ◌∷◌, ◌++◌, length, get_or, Option, Some, None, MatchOption, Bor, refl, ap, ◌∙◌, arith}
use Rattle.std.specs.Prelude.{if◌then◌else◌}
use Rattle.std.proofs.lemmas.Bool.{ne_eqb}
use Rattle.command_words.specs.Looks.{cut, put_before}

abbrev Lacks : List ℕ → Type 0
Lacks bs = (i : ℕ) → i < length bs → get_or bs i 0 ≢ 61

later : (b : ℕ) (bs : List ℕ) → Lacks (b ∷ bs) → Lacks bs
later b bs free i lt e = free (suc i) (omega arith) e

cut_on : (b : ℕ) (bs : List ℕ) → b ≢ 61 → cut (b ∷ bs) ≡ put_before b (cut bs)
cut_on b bs other = ap (λ t. if t then Some ([], bs) else put_before b (cut bs)) (ne_eqb b 61 other)

cut_none : (bs : List ℕ) → Lacks bs → cut bs ≡ None
cut_none [] free = refl
cut_none (b ∷ bs) free = cut_on b bs (free 0 (omega arith)) ∙ ap (put_before b) (cut_none bs (later b bs free))

pub cut_at : (xs ys : List ℕ) → Lacks xs → cut (xs ++ 61 ∷ ys) ≡ Some (xs, ys)
cut_at [] ys free = refl
cut_at (x ∷ xs) ys free = cut_on x (xs ++ 61 ∷ ys) (free 0 (omega arith)) ∙ ap (put_before x) (cut_at xs ys (later x xs free))

pub cut_is : (bs : List ℕ) (r : Option (Bor (List ℕ) × Bor (List ℕ)))
    → MatchOption r (Lacks bs) (λ x. (bs ≡ x.0.now ++ 61 ∷ x.1.now) × Lacks x.0.now)
    → MatchOption r (cut bs ≡ None) (λ x. cut bs ≡ Some (x.0.now, x.1.now))
cut_is bs None h = cut_none bs h
cut_is bs (Some x) h = ap cut h.0 ∙ cut_at x.0.now x.1.now h.1
