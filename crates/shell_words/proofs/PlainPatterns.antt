-- Patterns without `*`, `?` and `[`: their items are their bytes, which match themselves alone. And `*` alone.
use Rattle.std.proofs.Common.{◌≡◌, ℕ, suc, zero, Bool, true, false, cond, ◌||◌, ◌&&◌, List, [], ◌∷◌, ◌++◌, drop, All, map, refl, sym, ap, subst, ◌∙◌, append-nil, arith}
use Rattle.std.proofs.lemmas.Bool.{eqb-true, eq-eqb}
use Rattle.std.proofs.lemmas.List.Elements.{All-append}
use Rattle.std.specs.List.{list_any}
use Rattle.shell_words.specs.declared.letter.Letter.{Letter}
use Rattle.shell_words.specs.declared.pattern.Item.TheVariants.{Byte, Any, Star}
use Rattle.shell_words.specs.Pieces.{PieceParts}
use Rattle.shell_words.specs.Words.{marked, is_unquoted}
use Rattle.shell_words.specs.Fields.{joined}
use Rattle.shell_words.specs.Patterns.{pattern_letters, code, begins_with, negation_size, set_size, set_of, item_at, items, items_behind, Matches, matches_end, matches_byte, matches_star, has_pair, is_split_backslash, is_left_out_item, is_left_out}
use Rattle.shell_words.specs.Laws.{is_special, QuotedMatchesItself, PlainMatchesItself, StarMatchesAll}
use Rattle.shell_words.proofs.Matching.{only-none, only-byte}

-- a letter without the marks of `*`, `?` and `[`
record IsPlain (x : Letter) : Type 0 where
  star : is_unquoted 42 x ≡ false
  any : is_unquoted 63 x ≡ false
  set : is_unquoted 91 x ≡ false

plain : (x : Letter) → is_special x ≡ false → IsPlain x
plain x e = go (is_unquoted 42 x) (is_unquoted 63 x) (is_unquoted 91 x) refl refl refl e
  where
    go : (a b c : Bool) → is_unquoted 42 x ≡ a → is_unquoted 63 x ≡ b → is_unquoted 91 x ≡ c → (a || b || c) ≡ false → IsPlain x
    go true b c ea eb ec e = absurd (cc e)
    go false true c ea eb ec e = absurd (cc e)
    go false false true ea eb ec e = absurd (cc e)
    go false false false ea eb ec e = record { star = ea; any = eb; set = ec }

plain-item : (x : Letter) (rest : List Letter) → IsPlain x → item_at x rest ≡ (Byte (code x), 0)
plain-item x rest h =
    let set = set_of rest (set_size (drop (negation_size rest) rest)) in
    ap (λ b. cond b (Star, 0) (cond (is_unquoted 63 x) (Any, 0) (cond (is_unquoted 91 x) set (Byte (code x), 0)))) h.star
    ∙ ap (λ b. cond b (Any, 0) (cond (is_unquoted 91 x) set (Byte (code x), 0))) h.any
    ∙ ap (λ b. cond b set (Byte (code x), 0)) h.set

plain-items : (letters : List Letter) → All (λ x. is_special x ≡ false) letters → items letters ≡ map Byte (map code letters)
plain-items [] h = refl
plain-items (x ∷ rest) h =
    ap (λ p. p.0 ∷ items_behind p.1 rest) (plain-item x rest (plain x (h 0 x (omega arith))))
    ∙ ap (λ is. Byte (code x) ∷ is) (plain-items rest (λ k d lt. h (suc k) d (omega arith)))

map-append-code : (xs ys : List Letter) → map code (xs ++ ys) ≡ map code xs ++ map code ys
map-append-code [] ys = refl
map-append-code (x ∷ xs) ys = ap (λ r. code x ∷ r) (map-append-code xs ys)

marked-codes : (quoted split : Bool) (text : List ℕ) → map code (map (marked quoted split) text) ≡ text
marked-codes quoted split [] = refl
marked-codes true split (b ∷ text) = ap (λ r. b ∷ r) (marked-codes true split text)
marked-codes false true (b ∷ text) = ap (λ r. b ∷ r) (marked-codes false true text)
marked-codes false false (b ∷ text) = ap (λ r. b ∷ r) (marked-codes false false text)

pattern-codes : (pieces : List PieceParts) → map code (pattern_letters pieces) ≡ joined pieces
pattern-codes [] = refl
pattern-codes (p ∷ pieces) =
    map-append-code (map (marked p.quoted p.split) p.text) (pattern_letters pieces)
    ∙ ap (λ t. t ++ map code (pattern_letters pieces)) (marked-codes p.quoted p.split p.text)
    ∙ ap (λ r. p.text ++ r) (pattern-codes pieces)

-- bytes as items
match-self : (bytes : List ℕ) → Matches (map Byte bytes) bytes
match-self [] = matches_end
match-self (b ∷ bytes) = matches_byte (eq-eqb b b refl) (match-self bytes)

match-only : (bytes text : List ℕ) → Matches (map Byte bytes) text → text ≡ bytes
match-only [] text m = only-none text m
match-only (b ∷ bytes) text m =
    let f = only-byte (Byte b) (map Byte bytes) text m refl in
    f.is ∙ ap (λ c. c ∷ f.rest) (sym (eqb-true b f.byte f.stands)) ∙ ap (λ r. b ∷ r) (match-only bytes f.rest f.matched)

no-pair : (letters : List Letter) → All (λ x. is_special x ≡ false) letters → has_pair 91 94 letters ≡ false
no-pair [] h = refl
no-pair (x ∷ rest) h =
    ap (λ b. (b && begins_with 94 rest) || has_pair 91 94 rest) (plain x (h 0 x (omega arith))).set
    ∙ no-pair rest (λ k d lt. h (suc k) d (omega arith))

bytes-stay : (bytes : List ℕ) → list_any is_left_out_item (map Byte bytes) ≡ false
bytes-stay [] = refl
bytes-stay (b ∷ bytes) = bytes-stay bytes

alone : (b : Bool) → (false || b || false) ≡ b
alone true = refl
alone false = refl

pub plain-matches-itself : PlainMatchesItself
plain-matches-itself pieces text h =
    let letters = pattern_letters pieces in
    let are : items letters ≡ map Byte (joined pieces) = plain-items letters h ∙ ap (map Byte) (pattern-codes pieces) in
    let shapes = ap (λ b. b || list_any is_split_backslash letters || list_any is_left_out_item (items letters)) (no-pair letters h)
    ∙ ap (λ b. false || list_any is_split_backslash letters || b) (ap (list_any is_left_out_item) are ∙ bytes-stay (joined pieces))
    ∙ alone (list_any is_split_backslash letters)
    in (
      shapes,
      (
        λ m. match-only (joined pieces) text (subst (λ is. Matches is text) are m),
        λ e. subst (λ is. Matches is text) (sym are) (subst (Matches (map Byte (joined pieces))) (sym e) (match-self (joined pieces))),
      ),
    )

-- quoted letters
quoted-plain : (split : Bool) (text : List ℕ) → All (λ x. is_special x ≡ false) (map (marked true split) text)
quoted-plain split [] k d lt = absurd (omega arith)
quoted-plain split (b ∷ text) zero d lt = refl
quoted-plain split (b ∷ text) (suc k) d lt = quoted-plain split text k d (omega arith)

quoted-no-backslash : (split : Bool) (text : List ℕ) (rest : List Letter)
    → list_any is_split_backslash (map (marked true split) text ++ rest) ≡ list_any is_split_backslash rest
quoted-no-backslash split [] rest = refl
quoted-no-backslash split (b ∷ text) rest = quoted-no-backslash split text rest

all-plain : (pieces : List PieceParts) → All (λ p. p.quoted ≡ true) pieces → All (λ x. is_special x ≡ false) (pattern_letters pieces)
all-plain [] h = λ k d lt. absurd (omega arith)
all-plain (p ∷ pieces) h =
    All-append (λ x. is_special x ≡ false) (map (marked p.quoted p.split) p.text) (pattern_letters pieces)
    (subst (λ q. All (λ x. is_special x ≡ false) (map (marked q p.split) p.text)) (sym (h 0 p (omega arith))) (quoted-plain p.split p.text))
    (all-plain pieces (λ k d lt. h (suc k) d (omega arith)))

no-backslash : (pieces : List PieceParts) → All (λ p. p.quoted ≡ true) pieces → list_any is_split_backslash (pattern_letters pieces) ≡ false
no-backslash [] h = refl
no-backslash (p ∷ pieces) h =
    ap (λ q. list_any is_split_backslash (map (marked q p.split) p.text ++ pattern_letters pieces)) (h 0 p (omega arith))
    ∙ quoted-no-backslash p.split p.text (pattern_letters pieces)
    ∙ no-backslash pieces (λ k d lt. h (suc k) d (omega arith))

pub quoted-matches-itself : QuotedMatchesItself
quoted-matches-itself pieces text h =
    let law = plain-matches-itself pieces text (all-plain pieces h) in
    (law.0 ∙ no-backslash pieces h, law.1)

-- `*` alone
star-of : (split : Bool) (text : List ℕ)
    → (is_left_out (marked false split 42 ∷ []) ≡ false) × Matches (items (marked false split 42 ∷ [])) text
star-of true text = (refl, matches_star text [] (sym (append-nil text)) matches_end)
star-of false text = (refl, matches_star text [] (sym (append-nil text)) matches_end)

pub star-matches-all : StarMatchesAll
star-matches-all p text unquoted is =
    let letters : pattern_letters (p ∷ []) ≡ marked false p.split 42 ∷ [] =
    ap (λ q. map (marked q p.split) p.text ++ []) unquoted ∙ ap (λ t. map (marked false p.split) t ++ []) is
    in
    subst (λ ls. (is_left_out ls ≡ false) × Matches (items ls) text) (sym letters) (star-of p.split text)
