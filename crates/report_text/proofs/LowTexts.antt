-- Texts of ASCII.
use Rattle.std.proofs.Common.{◌≡◌, ℕ, Bool, true, List, [], ◌∷◌, ◌++◌, refl, arith}
use Rattle.std.specs.Prelude.{◌&&◌, nat_lt}
use Rattle.std.specs.List.{list_all, join_with_byte}
use Rattle.std.proofs.lemmas.Bool.{and_parts, and_from}
use Rattle.shown_texts.specs.Show.{is_shown, show, are_bytes}
use Rattle.shown_texts.proofs.Lists.{all_weaker, all_both}
use Rattle.shown_texts.proofs.Spelled.{show_shown}

abbrev pub is_low : ℕ → Bool
is_low b = nat_lt b 128

abbrev pub low : List ℕ → Bool
low text = list_all is_low text

shown_is_low : (b : ℕ) → is_shown b ≡ true → is_low b ≡ true
shown_is_low b h = grind arith

pub shown_low : (text : List ℕ) → list_all is_shown text ≡ true → low text ≡ true
shown_low text h = all_weaker is_shown is_low shown_is_low text h

pub plus : (a b : List ℕ) → low a ≡ true → low b ≡ true → low (a ++ b) ≡ true
plus a b h g = all_both is_low a b h g

pub join_low : (at : ℕ) (texts : List (List ℕ)) → is_low at ≡ true → list_all low texts ≡ true → low (join_with_byte at texts) ≡ true
join_low at [] a h = refl
join_low at (text ∷ []) a h = (and_parts (low text) true h).0
join_low at (text ∷ next ∷ texts) a h =
    let k = and_parts (low text) (list_all low (next ∷ texts)) h in
    plus text (at ∷ join_with_byte at (next ∷ texts)) k.0 (and_from (is_low at) (low (join_with_byte at (next ∷ texts))) a (join_low at (next ∷ texts) a k.1))

pub show_low : (bytes : List ℕ) → are_bytes bytes ≡ true → low (show bytes) ≡ true
show_low bytes h = shown_low (show bytes) (show_shown bytes h)
