-- The components of a word that spells a path: those that name an entry are names.
use Rattle.std.specs.Prelude.{nat_lt, if◌then◌else◌, not, filter}
use Rattle.std.proofs.Common.{◌≡◌, ℕ, zero, suc, ◌+◌, ◌<◌, ◌≤◌, List, [], ◌∷◌, ◌++◌, length, get_or, take, Option, Some, None, map, Bool, true, false, refl, ap, ◌∙◌, arith}
use Rattle.script_names.specs.Laws.{HasNoSlash, SpellsNames}
use Rattle.std.specs.List.{All, list_all, list_any, last_or, onto_first}
use Rattle.std.specs.Option.{option_map}
use Rattle.std.specs.Iterator.{Drains}
use Rattle.std.proofs.lemmas.Iterator.{YieldsList, items_from_drains}
use Rattle.std.proofs.lemmas.List.{take_more, map-append}
use denote.Ref.{Bor}
use Rattle.std.proofs.lemmas.Bool.{ltb-false, le-leb, lt-ltb, and_parts, and_from, or_parts, not-true}
use Rattle.script_names.specs.Names.{is_name, is_plain_byte, is_dots}
use Rattle.script_names.specs.Paths.{is_nul, is_slash, is_filled, is_dot, is_dot_dot, is_long, names_entry, ends_in_dot, components, spelled_names, path_fault, stated}
use Rattle.script_names.specs.declared.path.PathFault.{PathFault}
use Rattle.script_names.specs.declared.path.PathFault.TheVariants.{Empty, Nul, DotDot, Dot, LongName, Many}

-- the last item, read through a reference
pub last_mapped : {A B : Type 0} (v : A → B) (o : Option A) (xs : List A) → option_map v (last_or o xs) ≡ last_or (option_map v o) (map v xs)
last_mapped v o [] = refl
last_mapped v o (x ∷ xs) = last_mapped v (Some x) xs

-- what `last` of a chain of iterators gives
pub last_from_yields : {S A B : Type 0} {steps : S → Option A → S → Type 0} {v : A → B} {s : S} {all : List B} (r : Option A)
    → (xs : List A) × Drains steps s xs × (r ≡ last_or None xs) → YieldsList steps v s all → option_map v r ≡ last_or None all
last_from_yields {v = v} r d e =
    ap (option_map v) d.2 ∙ last_mapped v None d.0 ∙ ap (last_or None) (items_from_drains d.0 (d.1.1.0, d.1.1.1, λ w. (d.1.0, d.1.1.2)) e)

-- neither NUL nor `/`
plain : (b : ℕ) → is_nul b ≡ false → is_slash b ≡ false → is_plain_byte b ≡ true
plain b nul slash = rw (nul, slash) refl

-- one byte more in the first component
onto_plain : (b : ℕ) (parts : List (List ℕ)) → is_plain_byte b ≡ true → list_all (list_all is_plain_byte) parts ≡ true
    → list_all (list_all is_plain_byte) (onto_first b parts) ≡ true
onto_plain b [] ok e = rw ok refl
onto_plain b (part ∷ parts) ok e = rw ok e

-- one byte more in front of a word
split_plain : (slash : Bool) (b : ℕ) (parts : List (List ℕ)) → is_slash b ≡ slash → is_nul b ≡ false → list_all (list_all is_plain_byte) parts ≡ true
    → list_all (list_all is_plain_byte) (if slash then [] ∷ parts else onto_first b parts) ≡ true
split_plain true b parts is nul e = e
split_plain false b parts is nul e = onto_plain b parts (plain b nul is) e

-- the bytes of all components are plain
pub parts_plain : (word : List ℕ) → list_any is_nul word ≡ false → list_all (list_all is_plain_byte) (components word) ≡ true
parts_plain [] e = refl
parts_plain (b ∷ bs) e =
    let nul : (is_nul b ≡ false) × (list_any is_nul bs ≡ false) = or_parts (is_nul b) (list_any is_nul bs) e in
    split_plain (is_slash b) b (components bs) refl nul.0 (parts_plain bs nul.1)

-- what names an entry and isn't `..` names no directory by dots
no_dots : (part : List ℕ) → is_dot part ≡ false → is_dot_dot part ≡ false → is_dots part ≡ false
no_dots [] d e = refl
no_dots (a ∷ []) d e = d
no_dots (a ∷ b ∷ []) d e = e
no_dots (a ∷ b ∷ c ∷ rest) d e = refl

-- a component with a byte
filled : (part : List ℕ) → is_filled part ≡ true → nat_lt 0 (length part) ≡ true
filled [] e = cc
filled (b ∷ bs) e = lt-ltb 0 (length (b ∷ bs)) (omega arith)

-- a component that names an entry is a name
named : (part : List ℕ) → list_all is_plain_byte part ≡ true → is_dot_dot part ≡ false → is_long part ≡ false → names_entry part ≡ true → is_name part ≡ true
named part bytes up long on =
    let parts : (is_filled part ≡ true) × (not (is_dot part) ≡ true) = and_parts (is_filled part) (not (is_dot part)) on in
    rw (filled part parts.0, le-leb (length part) 255 (ltb-false 255 (length part) long), bytes, no_dots part (not-true (is_dot part) parts.1) up) refl

-- one component more
kept : (on : Bool) (part : List ℕ) (names : List (List ℕ)) → names_entry part ≡ on → (names_entry part ≡ true → is_name part ≡ true) → list_all is_name names ≡ true
    → list_all is_name (if on then part ∷ names else names) ≡ true
kept true part names is ok e = and_from (is_name part) (list_all is_name names) (ok is) e
kept false part names is ok e = e

pub parts_named : (parts : List (List ℕ)) → list_all (list_all is_plain_byte) parts ≡ true → list_any is_dot_dot parts ≡ false → list_any is_long parts ≡ false
    → list_all is_name (filter names_entry parts) ≡ true
parts_named [] bytes up long = refl
parts_named (part ∷ parts) bytes up long =
    let b : (list_all is_plain_byte part ≡ true) × (list_all (list_all is_plain_byte) parts ≡ true) =
    and_parts (list_all is_plain_byte part) (list_all (list_all is_plain_byte) parts) bytes in
    let u : (is_dot_dot part ≡ false) × (list_any is_dot_dot parts ≡ false) = or_parts (is_dot_dot part) (list_any is_dot_dot parts) up in
    let l : (is_long part ≡ false) × (list_any is_long parts ≡ false) = or_parts (is_long part) (list_any is_long parts) long in
    kept (names_entry part) part (filter names_entry parts) refl (named part b.0 u.0 l.0) (parts_named parts b.1 u.1 l.1)

-- the first fault of six tests
abbrev pub first_fault : Bool → Bool → Bool → Bool → Bool → Bool → Option PathFault
first_fault a b c d e f =
    if a then Some Empty
    else (if b then Some Nul
    else (if c then Some DotDot
    else (if d then Some Dot
    else (if e then Some LongName
    else (if f then Some Many
    else None)))))

-- the tests that a word without fault fails
pub record Passes (b c e f : Bool) : Type 0 where
  pub no_nul : b ≡ false
  pub not_up : c ≡ false
  pub short : e ≡ false
  pub few : f ≡ false

passed : (a b c d e f : Bool) → first_fault a b c d e f ≡ None → Passes b c e f
passed true b c d e f h = cc
passed false true c d e f h = cc
passed false false true d e f h = cc
passed false false false true e f h = cc
passed false false false false true f h = cc
passed false false false false false true h = cc
passed false false false false false false h = record { no_nul = refl; not_up = refl; short = refl; few = refl }

pub passes : (word : List ℕ) → path_fault word ≡ None
    → Passes (list_any is_nul word) (list_any is_dot_dot (components word)) (list_any is_long (components word)) (nat_lt 64 (length (spelled_names word)))
passes word h =
    passed (not (is_filled word)) (list_any is_nul word) (list_any is_dot_dot (components word)) (ends_in_dot word) (list_any is_long (components word))
    (nat_lt 64 (length (spelled_names word))) h

-- the names that a word without fault spells are names
pub spells_names : (word : List ℕ) → path_fault word ≡ None → list_all is_name (spelled_names word) ≡ true
spells_names word h =
    let p = passes word h in
    parts_named (components word) (parts_plain word p.no_nul) p.not_up p.short

pub few_names : (word : List ℕ) → path_fault word ≡ None → length (spelled_names word) ≤ 64
few_names word h = ltb-false 64 (length (spelled_names word)) (passes word h).few

-- a fault that is stated as itself
same_fault : (found fault : PathFault) → Some found ≡ stated found → Some found ≡ Some fault → Some found ≡ stated fault
same_fault found fault self h =
    let e : found ≡ fault = cc in self ∙ ap stated e

-- a fault is answered as it is
is_stated : (a b c d e f : Bool) (fault : PathFault) → first_fault a b c d e f ≡ Some fault → first_fault a b c d e f ≡ stated fault
is_stated true b c d e f fault h = same_fault Empty fault refl h
is_stated false true c d e f fault h = same_fault Nul fault refl h
is_stated false false true d e f fault h = same_fault DotDot fault refl h
is_stated false false false true e f fault h = same_fault Dot fault refl h
is_stated false false false false true f fault h = same_fault LongName fault refl h
is_stated false false false false false true fault h = same_fault Many fault refl h
is_stated false false false false false false fault h = cc

pub fault_stated : (word : List ℕ) (fault : PathFault) → path_fault word ≡ Some fault → path_fault word ≡ stated fault
fault_stated word fault h =
    is_stated (not (is_filled word)) (list_any is_nul word) (list_any is_dot_dot (components word)) (ends_in_dot word) (list_any is_long (components word))
    (nat_lt 64 (length (spelled_names word))) fault h

-- one of the parts that name an entry
pub name_at : (parts : List (Bor (List ℕ))) (i : ℕ) (d : Bor (List ℕ)) → i < length parts → list_all is_name (map (λ part. part.now) parts) ≡ true
    → is_name (get_or parts i d).now ≡ true
name_at [] i d lt e = absurd (omega arith)
name_at (part ∷ parts) zero d lt e = (and_parts (is_name part.now) (list_all is_name (map (λ part. part.now) parts)) e).0
name_at (part ∷ parts) (suc i) d lt e =
    name_at parts i d (omega arith) (and_parts (is_name part.now) (list_all is_name (map (λ part. part.now) parts)) e).1

-- one name more
pub more_names : (parts : List (Bor (List ℕ))) (i : ℕ) (d : Bor (List ℕ)) (names longer : List (List ℕ)) (name : List ℕ) → i < length parts
    → names ≡ map (λ part. part.now) (take i parts) → name ≡ (get_or parts i d).now → longer ≡ names ++ name ∷ []
    → longer ≡ map (λ part. part.now) (take (i + 1) parts)
more_names parts i d names longer name lt so_far is new =
    rw (new, so_far, is, take_more parts i d lt, map-append (λ (part : Bor (List ℕ)). part.now) (take i parts) (get_or parts i d ∷ [])) refl

-- one byte more in the first component that is no slash
onto_no_slash : (b : ℕ) (parts : List (List ℕ)) → is_slash b ≡ false → list_all (list_all (λ b. not (is_slash b))) parts ≡ true
    → list_all (list_all (λ b. not (is_slash b))) (onto_first b parts) ≡ true
onto_no_slash b [] other e = rw other refl
onto_no_slash b (part ∷ parts) other e = rw other e

split_no_slash : (slash : Bool) (b : ℕ) (parts : List (List ℕ)) → is_slash b ≡ slash → list_all (list_all (λ b. not (is_slash b))) parts ≡ true
    → list_all (list_all (λ b. not (is_slash b))) (if slash then [] ∷ parts else onto_first b parts) ≡ true
split_no_slash true b parts is e = e
split_no_slash false b parts is e = onto_no_slash b parts is e

no_slashes : (word : List ℕ) → list_all (list_all (λ b. not (is_slash b))) (components word) ≡ true
no_slashes [] = refl
no_slashes (b ∷ bs) = split_no_slash (is_slash b) b (components bs) refl (no_slashes bs)

-- a test that all items pass
pub all_of : {X : Type 0} (p : X → Bool) (xs : List X) → list_all p xs ≡ true → All (λ x. p x ≡ true) xs
all_of p [] e k d lt = absurd (omega arith)
all_of p (x ∷ xs) e zero d lt = (and_parts (p x) (list_all p xs) e).0
all_of p (x ∷ xs) e (suc k) d lt = all_of p xs (and_parts (p x) (list_all p xs) e).1 k d (omega arith)

pub has_no_slash : HasNoSlash
has_no_slash word k d lt i b lt' =
    not-true (is_slash (get_or (get_or (components word) k d) i b))
    (all_of (λ b. not (is_slash b)) (get_or (components word) k d) (all_of (list_all (λ b. not (is_slash b))) (components word) (no_slashes word) k d lt) i b lt')

pub names_spelled : SpellsNames
names_spelled word e k d lt = all_of is_name (spelled_names word) (spells_names word e) k d lt
