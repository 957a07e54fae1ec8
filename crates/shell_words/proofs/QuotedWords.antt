-- Words of quoted pieces: no letter of them is a blank or an active glob byte, and their bytes are those of the pieces.
use Rattle.std.proofs.Common.{◌≡◌, ℕ, suc, Bool, true, false, cond, nat_lt, List, [], ◌∷◌, ◌++◌, Result, Ok, Err, All, map, length, refl, sym, ap, subst, ◌∙◌, append_assoc, arith}
use Rattle.std.specs.List.{filter}
use Rattle.shell_words.specs.declared.letter.Letter.{Letter}
use Rattle.shell_words.specs.declared.letter.Letter.TheVariants.{Quote, Quoted, Plain, Split}
use Rattle.shell_words.specs.declared.fault.WordFault.{WordFault}
use Rattle.shell_words.specs.declared.fault.WordFault.TheVariants.{Long, Glob}
use Rattle.shell_words.specs.Pieces.{PieceParts}
use Rattle.shell_words.specs.Words.{marked, letters_of, word, bytes_of, byte_of, has_glob}
use Rattle.shell_words.specs.Fields.{parts, onto, has_letter, short, then_all, collected, joined}
use Rattle.shell_words.specs.Laws.{one_field, QuotedIsOneField}

-- letters of quoted pieces
abbrev pub AreQuoted : List Letter → Type 0
AreQuoted [] = Unit {0}
AreQuoted (Quote ∷ rest) = AreQuoted rest
AreQuoted (Quoted b ∷ rest) = AreQuoted rest
AreQuoted (Plain b ∷ rest) = ⊥
AreQuoted (Split b ∷ rest) = ⊥

quoted-append : (xs ys : List Letter) → AreQuoted xs → AreQuoted ys → AreQuoted (xs ++ ys)
quoted-append [] ys h k = k
quoted-append (Quote ∷ xs) ys h k = quoted-append xs ys h k
quoted-append (Quoted b ∷ xs) ys h k = quoted-append xs ys h k
quoted-append (Plain b ∷ xs) ys h k = absurd h
quoted-append (Split b ∷ xs) ys h k = absurd h

pub quoted-bytes : (split : Bool) (text : List ℕ) → AreQuoted (map (marked true split) text)
quoted-bytes split [] = tt
quoted-bytes split (b ∷ text) = quoted-bytes split text

quoted-piece : (p : PieceParts) → p.quoted ≡ true → AreQuoted (letters_of p)
quoted-piece p e =
    subst (λ q. AreQuoted ((cond q (Quote ∷ []) []) ++ map (marked q p.split) p.text)) (sym e) (quoted-bytes p.split p.text)

quoted-word : (pieces : List PieceParts) → All (λ p. p.quoted ≡ true) pieces → AreQuoted (word pieces)
quoted-word [] h = tt
quoted-word (p ∷ pieces) h =
    quoted-append (letters_of p) (word pieces) (quoted-piece p (h 0 p (omega arith))) (quoted-word pieces (λ k d lt. h (suc k) d (omega arith)))

one-part : (w : List Letter) → AreQuoted w → parts w ≡ w ∷ []
one-part [] h = refl
one-part (Quote ∷ rest) h = ap (onto (Quote ∷ [])) (one-part rest h)
one-part (Quoted b ∷ rest) h = ap (onto (Quoted b ∷ [])) (one-part rest h)
one-part (Plain b ∷ rest) h = absurd h
one-part (Split b ∷ rest) h = absurd h

no-glob : (w : List Letter) → AreQuoted w → has_glob w ≡ false
no-glob [] h = refl
no-glob (Quote ∷ rest) h = no-glob rest h
no-glob (Quoted b ∷ rest) h = no-glob rest h
no-glob (Plain b ∷ rest) h = absurd h
no-glob (Split b ∷ rest) h = absurd h

bytes-append : (xs ys : List Letter) → bytes_of (xs ++ ys) ≡ bytes_of xs ++ bytes_of ys
bytes-append [] ys = refl
bytes-append (x ∷ xs) ys = ap (λ r. byte_of x ++ r) (bytes-append xs ys) ∙ sym (append_assoc (byte_of x) (bytes_of xs) (bytes_of ys))

bytes-marked : (quoted split : Bool) (text : List ℕ) → bytes_of (map (marked quoted split) text) ≡ text
bytes-marked quoted split [] = refl
bytes-marked true split (b ∷ text) = ap (λ r. b ∷ r) (bytes-marked true split text)
bytes-marked false true (b ∷ text) = ap (λ r. b ∷ r) (bytes-marked false true text)
bytes-marked false false (b ∷ text) = ap (λ r. b ∷ r) (bytes-marked false false text)

bytes-piece : (p : PieceParts) → bytes_of (letters_of p) ≡ p.text
bytes-piece p = go p.quoted
  where
    go : (q : Bool) → bytes_of ((cond q (Quote ∷ []) []) ++ map (marked q p.split) p.text) ≡ p.text
    go true = bytes-marked true p.split p.text
    go false = bytes-marked false p.split p.text

bytes-word : (pieces : List PieceParts) → bytes_of (word pieces) ≡ joined pieces
bytes-word [] = refl
bytes-word (p ∷ pieces) =
    bytes-append (letters_of p) (word pieces) ∙ ap (λ t. t ++ bytes_of (word pieces)) (bytes-piece p) ∙ ap (λ r. p.text ++ r) (bytes-word pieces)

has-first : (p : PieceParts) (pieces : List PieceParts) → p.quoted ≡ true → has_letter (word (p ∷ pieces)) ≡ true
has-first p pieces e = ap (λ q. has_letter (((cond q (Quote ∷ []) []) ++ map (marked q p.split) p.text) ++ word pieces)) e

alone : (value : Result (List ℕ) WordFault) → then_all value (Ok []) ≡ one_field value
alone (Ok text) = refl
alone (Err fault) = refl

pub quoted-is-one-field : QuotedIsOneField
quoted-is-one-field p pieces quoted =
    let w = word (p ∷ pieces) in
    let letters = quoted-word (p ∷ pieces) quoted in
    ap (λ ps. collected (filter has_letter ps)) (one-part w letters)
    ∙ ap (λ b. collected (cond b (w ∷ []) [])) (has-first p pieces (quoted 0 p (omega arith)))
    ∙ ap (λ b. then_all (cond (nat_lt 65536 (length (bytes_of w))) (Err Long) (cond b (Err Glob) (Ok (bytes_of w)))) (Ok [])) (no-glob w letters)
    ∙ ap (λ t. then_all (short t) (Ok [])) (bytes-word (p ∷ pieces))
    ∙ alone (short (joined (p ∷ pieces)))
