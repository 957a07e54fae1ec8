-- One letter of a word after another is cut: what is wanted stays the same.
use Rattle.std.proofs.Common.{◌≡◌, ℕ, ◌+◌, ◌-◌, ◌<◌, ◌≤◌, Bool, true, false, cond, List, [], ◌∷◌, ◌++◌, Result, Ok, Err, length, get_or, take, drop, refl, sym, ap, ◌∙◌, append_assoc, add-one, arith, length-drop, get_or-drop}
use Rattle.std.proofs.Math.Seq.{drop-cons}
use Rattle.std.proofs.Math.ListN.{drop_of_length-le}
use Rattle.std.proofs.lemmas.List.{take_more}
use Rattle.std.specs.List.{filter}
use Rattle.shell_words.specs.declared.letter.Letter.{Letter}
use Rattle.shell_words.specs.declared.fault.WordFault.{WordFault}
use Rattle.shell_words.specs.Words.{is_blank}
use Rattle.shell_words.specs.Fields.{behind, collected, has_letter, onto, parts, fields_of}

append-none : {A : Type 0} (xs : List A) → xs ++ [] ≡ xs
append-none [] = refl
append-none (x ∷ xs) = ap (λ r. x ∷ r) (append-none xs)

onto-onto : (front more : List Letter) (cut : List (List Letter)) → onto front (onto more cut) ≡ onto (front ++ more) cut
onto-onto front more [] = refl
onto-onto front more (p ∷ ps) = ap (λ q. q ∷ ps) (sym (append_assoc front more p))

-- parts that are cut always have a first one
onto-none : (x : Letter) (cut : List (List Letter)) → onto [] (onto (x ∷ []) cut) ≡ onto (x ∷ []) cut
onto-none x [] = refl
onto-none x (p ∷ ps) = refl

onto-nothing : (w : List Letter) → onto [] (parts w) ≡ parts w
onto-nothing [] = refl
onto-nothing (x ∷ rest) =
    elim (is_blank x) as (λ b. onto [] (cond b ([] ∷ parts rest) (onto (x ∷ []) (parts rest))) ≡ cond b ([] ∷ parts rest) (onto (x ∷ []) (parts rest))) [
      | true ↦ refl
      | false ↦ onto-none x (parts rest)
    ]

-- what is wanted, with these fields taken and this front of a part
abbrev pub left : List (List ℕ) → List Letter → List Letter → Result (List (List ℕ)) WordFault
left fields front rest = behind fields (collected (filter has_letter (onto front (parts rest))))

pub start : (w : List Letter) → left [] [] w ≡ fields_of w
start w = ap (λ ps. behind [] (collected (filter has_letter ps))) (onto-nothing w) ∙ behind-none (fields_of w)
  where
    behind-none : (r : Result (List (List ℕ)) WordFault) → behind [] r ≡ r
    behind-none (Ok fs) = refl
    behind-none (Err e) = refl

-- a letter that is no blank belongs to the part
pub on_letter : (fields : List (List ℕ)) (front : List Letter) (x : Letter) (rest : List Letter) → is_blank x ≡ false
    → left fields front (x ∷ rest) ≡ left fields (front ++ x ∷ []) rest
on_letter fields front x rest e =
    ap (λ ps. behind fields (collected (filter has_letter ps)))
    (ap (λ b. onto front (cond b ([] ∷ parts rest) (onto (x ∷ []) (parts rest)))) e ∙ onto-onto front (x ∷ []) (parts rest))

-- a blank ends the part
pub on_blank : (fields : List (List ℕ)) (front : List Letter) (x : Letter) (rest : List Letter) → is_blank x ≡ true
    → left fields front (x ∷ rest) ≡ behind fields (collected (filter has_letter (front ∷ parts rest)))
on_blank fields front x rest e =
    ap (λ ps. behind fields (collected (filter has_letter ps)))
    (ap (λ b. onto front (cond b ([] ∷ parts rest) (onto (x ∷ []) (parts rest)))) e ∙ ap (λ p. p ∷ parts rest) (append-none front))

-- the end ends it too
pub at_end : (fields : List (List ℕ)) (front : List Letter) → left fields front [] ≡ behind fields (collected (filter has_letter (front ∷ [])))
at_end fields front = ap (λ p. behind fields (collected (filter has_letter (p ∷ [])))) (append-none front)

-- the next part begins with nothing
pub fresh : (fields : List (List ℕ)) (rest : List Letter) → behind fields (collected (filter has_letter (parts rest))) ≡ left fields [] rest
fresh fields rest = ap (λ ps. behind fields (collected (filter has_letter ps))) (sym (onto-nothing rest))

pub whole : (fields : List (List ℕ)) → behind fields (collected []) ≡ Ok fields
whole fields = ap Ok (append-none fields)

-- what is wanted at a place of the word, where the part begins at another
abbrev pub wanted : List Letter → List (List ℕ) → ℕ → ℕ → Result (List (List ℕ)) WordFault
wanted w fields from at = left fields (take (at - from) (drop from w)) (drop at w)

module _ (w : List Letter) (fields : List (List ℕ)) (from at : ℕ) (on : from ≤ at) where
  grown : (d : Letter) → at < length w → take ((at + 1) - from) (drop from w) ≡ take (at - from) (drop from w) ++ get_or w at d ∷ []
  grown d lt =
      let more : (at + 1) - from ≡ (at - from) + 1 = omega arith in
      let within : at - from < length (drop from w) = simp length-drop (omega arith) in
      let here : from + (at - from) ≡ at = omega arith in
      ap (λ n. take n (drop from w)) more ∙ take_more (drop from w) (at - from) d within
      ∙ ap (λ x. take (at - from) (drop from w) ++ x ∷ []) (get_or-drop from w (at - from) d ∙ ap (λ n. get_or w n d) here)

  next : (d : Letter) → at < length w → drop at w ≡ get_or w at d ∷ drop (at + 1) w
  next d lt = rw add-one (drop-cons w at d lt)

  pub letter-more : (d : Letter) → at < length w → is_blank (get_or w at d) ≡ false → wanted w fields from at ≡ fields_of w
      → wanted w fields from (at + 1) ≡ fields_of w
  letter-more d lt kept h =
      ap (λ f. left fields f (drop (at + 1) w)) (grown d lt)
      ∙ sym (on_letter fields (take (at - from) (drop from w)) (get_or w at d) (drop (at + 1) w) kept)
      ∙ ap (left fields (take (at - from) (drop from w))) (sym (next d lt)) ∙ h

  pub blank-more : (d : Letter) (more : List (List ℕ)) → at < length w → is_blank (get_or w at d) ≡ true → wanted w fields from at ≡ fields_of w
      → ((rest : List (List Letter)) → behind fields (collected (filter has_letter (take (at - from) (drop from w) ∷ rest))) ≡ behind more (collected (filter has_letter rest)))
      → wanted w more (at + 1) (at + 1) ≡ fields_of w
  blank-more d more lt cut h adds =
      let none : (at + 1) - (at + 1) ≡ 0 = omega arith in
      ap (λ n. left more (take n (drop (at + 1) w)) (drop (at + 1) w)) none
      ∙ sym (fresh more (drop (at + 1) w))
      ∙ sym (adds (parts (drop (at + 1) w)))
      ∙ sym (on_blank fields (take (at - from) (drop from w)) (get_or w at d) (drop (at + 1) w) cut)
      ∙ ap (left fields (take (at - from) (drop from w))) (sym (next d lt)) ∙ h

  pub last-more : (more : List (List ℕ)) → length w ≤ at → at ≤ length w → wanted w fields from at ≡ fields_of w
      → ((rest : List (List Letter)) → behind fields (collected (filter has_letter (take (length w - from) (drop from w) ∷ rest))) ≡ behind more (collected (filter has_letter rest)))
      → fields_of w ≡ Ok more
  last-more more up to h adds =
      let here : at ≡ length w = omega arith in
      sym h ∙ ap (left fields (take (at - from) (drop from w))) (drop_of_length-le w up)
      ∙ at_end fields (take (at - from) (drop from w))
      ∙ ap (λ n. behind fields (collected (filter has_letter (take (n - from) (drop from w) ∷ [])))) here
      ∙ adds [] ∙ whole more

-- two words whose first parts are the same, and whose other fields are
record SameFields (w v : List Letter) : Type 0 where
  first : List Letter
  more : List (List Letter)
  others : List (List Letter)
  left : parts w ≡ first ∷ more
  right : parts v ≡ first ∷ others
  same : filter has_letter more ≡ filter has_letter others

one-letter-more : (x : Letter) (w v : List Letter) → SameFields w v → SameFields (x ∷ w) (x ∷ v)
one-letter-more x w v s = go (is_blank x) refl
  where
    cut : List Letter → Bool → List (List Letter)
    cut u t = cond t ([] ∷ parts u) (onto (x ∷ []) (parts u))

    go : (t : Bool) → is_blank x ≡ t → SameFields (x ∷ w) (x ∷ v)
    go true e = record {
      first = [];
      more = s.first ∷ s.more;
      others = s.first ∷ s.others;
      left = ap (cut w) e ∙ ap (λ ps. [] ∷ ps) s.left;
      right = ap (cut v) e ∙ ap (λ ps. [] ∷ ps) s.right;
      same = ap (λ fs. cond (has_letter s.first) (s.first ∷ fs) fs) s.same;
    }
    go false e = record {
      first = x ∷ s.first;
      more = s.more;
      others = s.others;
      left = ap (cut w) e ∙ ap (onto (x ∷ [])) s.left;
      right = ap (cut v) e ∙ ap (onto (x ∷ [])) s.right;
      same = s.same;
    }

same-fields : (front rest : List Letter) (a b : Letter) → is_blank a ≡ true → is_blank b ≡ true → SameFields (front ++ a ∷ b ∷ rest) (front ++ b ∷ rest)
same-fields [] rest a b blank_a blank_b =
    let second : parts (b ∷ rest) ≡ [] ∷ parts rest = ap (λ t. cond t ([] ∷ parts rest) (onto (b ∷ []) (parts rest))) blank_b in
    record {
      first = [];
      more = [] ∷ parts rest;
      others = parts rest;
      left = ap (λ t. cond t ([] ∷ parts (b ∷ rest)) (onto (a ∷ []) (parts (b ∷ rest)))) blank_a ∙ ap (λ ps. [] ∷ ps) second;
      right = second;
      same = refl;
    }
same-fields (x ∷ front) rest a b blank_a blank_b =
    one-letter-more x (front ++ a ∷ b ∷ rest) (front ++ b ∷ rest) (same-fields front rest a b blank_a blank_b)

pub run-cuts-once : (front rest : List Letter) (a b : Letter) → is_blank a ≡ true → is_blank b ≡ true → fields_of (front ++ a ∷ b ∷ rest) ≡ fields_of (front ++ b ∷ rest)
run-cuts-once front rest a b blank_a blank_b =
    let s = same-fields front rest a b blank_a blank_b in
    ap (λ ps. collected (filter has_letter ps)) s.left
    ∙ ap (λ fs. collected (cond (has_letter s.first) (s.first ∷ fs) fs)) s.same
    ∙ sym (ap (λ ps. collected (filter has_letter ps)) s.right)
