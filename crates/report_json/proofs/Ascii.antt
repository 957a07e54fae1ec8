-- A text of ASCII is UTF-8.
use Rattle.std.proofs.Common.{◌≡◌, ℕ, zero, suc, true, List, [], ◌∷◌, refl, IsUtf8, sym, subst, arith}
use Rattle.std.specs.Prelude.{All, nat_lt}
use Rattle.std.specs.List.{list_all}
use Rattle.std.proofs.lemmas.Bool.{and_parts, and_from}
use Rattle.json.proofs.Printed.Utf8.{are_ascii, IsUtf8-are_ascii}
use Rattle.report_text.proofs.LowTexts.{is_low, low}

low_ascii : (text : List ℕ) → low text ≡ true → are_ascii text ≡ true
low_ascii [] h = refl
low_ascii (b ∷ text) h = let k = and_parts (is_low b) (low text) h in and_from (nat_lt b 128) (are_ascii text) k.0 (low_ascii text k.1)

pub low_utf8 : (text : List ℕ) → low text ≡ true → IsUtf8 text
low_utf8 text h = IsUtf8-are_ascii text (low_ascii text h)

-- a text that is one of ASCII
pub same_utf8 : (text known : List ℕ) → text ≡ known → low known ≡ true → IsUtf8 text
same_utf8 text known e h = subst IsUtf8 (sym e) (low_utf8 known h)

-- each text of a list
pub all_utf8 : (texts : List (List ℕ)) → list_all low texts ≡ true → All IsUtf8 texts
all_utf8 [] h k d lt = absurd (omega (arith, lt))
all_utf8 (t ∷ texts) h zero d lt = low_utf8 t (and_parts (low t) (list_all low texts) h).0
all_utf8 (t ∷ texts) h (suc k) d lt = all_utf8 texts (and_parts (low t) (list_all low texts) h).1 k d (omega (arith, lt))
