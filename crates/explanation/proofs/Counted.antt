-- Of some items no more pass a test than there are.
use Rattle.std.proofs.Common.{◌≡◌, ℕ, ◌≤◌, Bool, List, length, take, arith, length-take}
use Rattle.std.specs.List.{filter}
use Rattle.std.proofs.lemmas.List.Sums.{count_by-le-length, length-filter}

pub counted_below : {A : Type 0} (test : A → Bool) (xs : List A) (i n : ℕ) → n ≡ length (filter test (take i xs)) → n ≤ i
counted_below test xs i n is =
    let first = take i xs in omega (arith, is, length-filter test first, count_by-le-length test first, length-take i xs)
