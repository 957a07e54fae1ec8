-- What cutting keeps: the bytes of the parts are those of the word without its blanks.
use Rattle.std.proofs.Common.{◌≡◌, ℕ, Bool, true, false, not, cond, nat_lt, List, [], ◌∷◌, ◌++◌, Result, Ok, Err, length, refl, ap, ◌∙◌, append_assoc, append-nil}
use Rattle.std.specs.List.{filter, concat}
use Rattle.shell_words.specs.declared.letter.Letter.{Letter}
use Rattle.shell_words.specs.declared.fault.WordFault.{WordFault}
use Rattle.shell_words.specs.declared.fault.WordFault.TheVariants.{Long, Glob}
use Rattle.shell_words.specs.Words.{is_blank, bytes_of, byte_of, has_glob}
use Rattle.shell_words.specs.Fields.{parts, onto, has_letter, field_value, then_all, collected}
use Rattle.shell_words.specs.Laws.{FieldsKeepBytes}

-- the bytes of some parts, one part behind another
abbrev pub part_bytes : List (List Letter) → List ℕ
part_bytes [] = []
part_bytes (p ∷ ps) = bytes_of p ++ part_bytes ps

-- a list of fields that is collected: its first field, and the others
record Collected (value : Result (List ℕ) WordFault) (rest : Result (List (List ℕ)) WordFault) (fields : List (List ℕ)) : Type 0 where
  first : List ℕ
  others : List (List ℕ)
  value_is : value ≡ Ok first
  rest_is : rest ≡ Ok others
  fields_are : fields ≡ first ∷ others

taken : (value : Result (List ℕ) WordFault) (rest : Result (List (List ℕ)) WordFault) (fields : List (List ℕ)) → then_all value rest ≡ Ok fields → Collected value rest fields
taken (Ok text) (Ok others) fields e = record { first = text; others = others; value_is = refl; rest_is = refl; fields_are = cc }
taken (Ok text) (Err fault) fields e = absurd (cc e)
taken (Err fault) rest fields e = absurd (cc e)

value-bytes : (p : List Letter) (text : List ℕ) → field_value p ≡ Ok text → text ≡ bytes_of p
value-bytes p text e = go (nat_lt 65536 (length (bytes_of p))) (has_glob p) e
  where
    go : (long glob : Bool) → cond long (Err Long) (cond glob (Err Glob) (Ok (bytes_of p))) ≡ Ok text → text ≡ bytes_of p
    go true glob e = absurd (cc e)
    go false true e = absurd (cc e)
    go false false e = cc

collected-bytes : (ps : List (List Letter)) (fields : List (List ℕ)) → collected ps ≡ Ok fields → concat fields ≡ part_bytes ps
collected-bytes [] fields e = let none : fields ≡ [] = cc in ap concat none
collected-bytes (p ∷ ps) fields e =
    let t = taken (field_value p) (collected ps) fields e in
    ap concat t.fields_are ∙ ap (λ b. b ++ concat t.others) (value-bytes p t.first t.value_is) ∙ ap (λ r. bytes_of p ++ r) (collected-bytes ps t.others t.rest_is)

filter-bytes : (ps : List (List Letter)) → part_bytes (filter has_letter ps) ≡ part_bytes ps
filter-bytes [] = refl
filter-bytes ([] ∷ ps) = filter-bytes ps
filter-bytes ((x ∷ p) ∷ ps) = ap (λ r. bytes_of (x ∷ p) ++ r) (filter-bytes ps)

onto-bytes : (x : Letter) (ps : List (List Letter)) → part_bytes (onto (x ∷ []) ps) ≡ byte_of x ++ part_bytes ps
onto-bytes x [] = append-nil (byte_of x ++ [])
onto-bytes x (p ∷ ps) = append_assoc (byte_of x) (bytes_of p) (part_bytes ps)

-- a blank has a byte, and belongs to no part
one-more : (x : Letter) (rest : List Letter) → part_bytes (parts rest) ≡ bytes_of (filter (λ y. not (is_blank y)) rest)
    → part_bytes (parts (x ∷ rest)) ≡ bytes_of (filter (λ y. not (is_blank y)) (x ∷ rest))
one-more x rest e = go (is_blank x)
  where
    go : (b : Bool) → part_bytes (cond b ([] ∷ parts rest) (onto (x ∷ []) (parts rest)))
        ≡ bytes_of (cond (not b) (x ∷ filter (λ y. not (is_blank y)) rest) (filter (λ y. not (is_blank y)) rest))
    go true = e
    go false = onto-bytes x (parts rest) ∙ ap (λ r. byte_of x ++ r) e

parts-bytes : (w : List Letter) → part_bytes (parts w) ≡ bytes_of (filter (λ x. not (is_blank x)) w)
parts-bytes [] = refl
parts-bytes (x ∷ rest) = one-more x rest (parts-bytes rest)

pub fields-keep-bytes : FieldsKeepBytes
fields-keep-bytes letters fields e =
    collected-bytes (filter has_letter (parts letters)) fields e ∙ filter-bytes (parts letters) ∙ parts-bytes letters
