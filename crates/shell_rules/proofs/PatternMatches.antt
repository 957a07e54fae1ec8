-- The test whether a pattern matches decides the relation.
use Rattle.std.proofs.Common.{◌≡◌, ℕ, Bool, true, false, List, [], ◌∷◌, ◌++◌, refl, sym, ap, subst, ◌⊎◌, inl, inr}
use Rattle.std.specs.List.{list_any}
use Rattle.std.proofs.lemmas.Bool.{and_parts, and_from, or_cases, or_left, or_right}
use Rattle.shell_words.specs.declared.pattern.Item.{Item}
use Rattle.shell_words.specs.declared.pattern.Item.TheVariants.{Byte, Any, Star, Set}
use Rattle.shell_words.specs.Patterns.{allows, Matches, matches_end, matches_byte, matches_star}
use Rattle.shell_rules.specs.State.{Text}
use Rattle.shell_rules.specs.Cases.{tails, byte_matches, matches}

-- ---- what passes the test matches

byte_to : (item : Item) (others : List Item) → ((text : Text) → matches others text ≡ true → Matches others text)
    → (text : Text) → byte_matches item (matches others) text ≡ true → Matches (item ∷ others) text
byte_to item others h [] e = absurd (cc e)
byte_to item others h (b ∷ rest) e =
    let both = and_parts (allows item b) (matches others rest) e in matches_byte both.0 (h rest both.1)

-- some bytes of a text stand before a rest that passes
record Behind (test : Text → Bool) (text : Text) : Type 0 where
  pub skipped : Text
  pub rest : Text
  pub whole : text ≡ skipped ++ rest
  pub passes : test rest ≡ true

one_more : (test : Text → Bool) (b : ℕ) (text : Text) → Behind test text → Behind test (b ∷ text)
one_more test b text h =
    record { skipped = b ∷ h.skipped; rest = h.rest; whole = ap (λ x. b ∷ x) h.whole; passes = h.passes }

at_once : (test : Text → Bool) (text : Text) → test text ≡ true → Behind test text
at_once test text e = record { skipped = []; rest = text; whole = refl; passes = e }

none_left : (test : Text → Bool) → (test [] ≡ true) ⊎ (false ≡ true) → Behind test []
none_left test (inl e) = at_once test [] e
none_left test (inr e) = absurd (cc e)

now_or_later : (test : Text → Bool) (b : ℕ) (rest : Text)
    → (list_any test (tails rest) ≡ true → Behind test rest)
    → (test (b ∷ rest) ≡ true) ⊎ (list_any test (tails rest) ≡ true) → Behind test (b ∷ rest)
now_or_later test b rest h (inl e) = at_once test (b ∷ rest) e
now_or_later test b rest h (inr e) = one_more test b rest (h e)

tail_passes : (test : Text → Bool) (text : Text) → list_any test (tails text) ≡ true → Behind test text
tail_passes test [] e = none_left test (or_cases (test []) false e)
tail_passes test (b ∷ rest) e =
    now_or_later test b rest (tail_passes test rest) (or_cases (test (b ∷ rest)) (list_any test (tails rest)) e)

pub passes_matches : (pattern : List Item) (text : Text) → matches pattern text ≡ true → Matches pattern text
passes_matches [] [] e = matches_end
passes_matches [] (b ∷ rest) e = absurd (cc e)
passes_matches (Byte c ∷ others) text e = byte_to (Byte c) others (passes_matches others) text e
passes_matches (Any ∷ others) text e = byte_to Any others (passes_matches others) text e
passes_matches (Star ∷ others) text e =
    let h = tail_passes (matches others) text e in
    matches_star h.skipped h.rest h.whole (passes_matches others h.rest h.passes)
passes_matches (Set negated letters ∷ others) text e =
    byte_to (Set negated letters) others (passes_matches others) text e

-- ---- what matches passes the test

passing_tail : (test : Text → Bool) (skipped rest : Text) → test rest ≡ true
    → list_any test (tails (skipped ++ rest)) ≡ true
passing_tail test [] [] e = or_left (test []) false e
passing_tail test [] (b ∷ rest) e = or_left (test (b ∷ rest)) (list_any test (tails rest)) e
passing_tail test (b ∷ skipped) rest e =
    or_right (test (b ∷ (skipped ++ rest))) (list_any test (tails (skipped ++ rest)))
    (passing_tail test skipped rest e)

byte_from : (item : Item) (others : List Item) (b : ℕ) (rest : Text) → allows item b ≡ true
    → matches others rest ≡ true → matches (item ∷ others) (b ∷ rest) ≡ true
byte_from (Byte c) others b rest h e = and_from (allows (Byte c) b) (matches others rest) h e
byte_from Any others b rest h e = and_from (allows Any b) (matches others rest) h e
byte_from Star others b rest h e = absurd (cc h)
byte_from (Set negated letters) others b rest h e =
    and_from (allows (Set negated letters) b) (matches others rest) h e

pub matches_passes : (pattern : List Item) (text : Text) → Matches pattern text → matches pattern text ≡ true
matches_passes _ _ matches_end = refl
matches_passes _ _ (matches_byte {item} {others} {b} {rest} h m) =
    byte_from item others b rest h (matches_passes others rest m)
matches_passes _ text (matches_star {others} skipped rest e m) =
    subst (λ x. list_any (matches others) (tails x) ≡ true) (sym e)
    (passing_tail (matches others) skipped rest (matches_passes others rest m))
