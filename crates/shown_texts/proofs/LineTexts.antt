-- The lines of a text are read back.
use Rattle.std.proofs.Common.{◌≡◌, ℕ, Bool, true, false, List, [], ◌∷◌, ◌++◌, Option, Some, None, refl, sym, ap, ◌∙◌, append_assoc, append-nil}
use Rattle.std.specs.Prelude.{if◌then◌else◌}
use Rattle.std.specs.List.{list_all, join_with_byte}
use Rattle.std.specs.Option.{option_map}
use Rattle.std.proofs.lemmas.List.Splits.{join_with_byte-slice_split}
use Rattle.script_names.specs.Paths.{is_filled}
use Rattle.shown_texts.specs.Parts.{parts, lacks}
use Rattle.shown_texts.specs.Lines.{line, lines_text, is_line, but_last, lines_of}
use Rattle.shown_texts.proofs.Lists.{all_both}
use Rattle.shown_texts.proofs.Cuts.{joined_cut}

-- the parts of a text of lines: the last has no byte
abbrev closed : List (List ℕ) → List (List ℕ)
closed ls = ls ++ [] ∷ []

lines_joined : (ls : List (List ℕ)) → lines_text ls ≡ join_with_byte 10 (closed ls)
lines_joined [] = refl
lines_joined (l ∷ []) = append-nil (line l)
lines_joined (l ∷ m ∷ ls) = append_assoc l (10 ∷ []) (lines_text (m ∷ ls)) ∙ ap (λ r. l ++ 10 ∷ r) (lines_joined (m ∷ ls))

closed_cut : (ls : List (List ℕ)) → list_all is_line ls ≡ true → parts 10 (join_with_byte 10 (closed ls)) ≡ closed ls
closed_cut [] h = joined_cut 10 [] [] refl
closed_cut (l ∷ ls) h = joined_cut 10 l (closed ls) (all_both (lacks 10) (l ∷ ls) ([] ∷ []) h refl)

onto : (t : Bool) (l : List ℕ) (ls : List (List ℕ)) → option_map (λ x. l ∷ x) (if t then None else Some ls) ≡ (if t then None else Some (l ∷ ls))
onto true l ls = refl
onto false l ls = refl

-- parts and one more
pub but_last_more : (ls : List (List ℕ)) (last : List ℕ) → but_last (ls ++ last ∷ []) ≡ (if is_filled last then None else Some ls)
but_last_more [] last = refl
but_last_more (l ∷ []) last = onto (is_filled last) l []
but_last_more (l ∷ m ∷ ls) last = ap (option_map (λ x. l ∷ x)) (but_last_more (m ∷ ls) last) ∙ onto (is_filled last) l (m ∷ ls)

pub lines_read : (ls : List (List ℕ)) → list_all is_line ls ≡ true → lines_of (lines_text ls) ≡ Some ls
lines_read ls h = ap lines_of (lines_joined ls) ∙ ap but_last (closed_cut ls h) ∙ but_last_more ls []

pub some_same : {X : Type 0} (x y : X) → Some x ≡ Some y → x ≡ y
some_same x y e = cc

last_alone : (p : List ℕ) (ls : List (List ℕ)) → but_last (p ∷ []) ≡ Some ls → closed ls ≡ p ∷ []
last_alone [] ls e = ap closed (sym (some_same [] ls e))
last_alone (b ∷ bs) ls e = cc

one_more : (p : List ℕ) (ps : List (List ℕ)) → ((xs : List (List ℕ)) → but_last ps ≡ Some xs → closed xs ≡ ps)
    → (ls : List (List ℕ)) → option_map (λ x. p ∷ x) (but_last ps) ≡ Some ls → closed ls ≡ p ∷ ps
one_more p ps rest ls e = step (but_last ps) refl e
  where
    step : (o : Option (List (List ℕ))) → but_last ps ≡ o → option_map (λ x. p ∷ x) o ≡ Some ls → closed ls ≡ p ∷ ps
    step None d e = cc
    step (Some xs) d e = ap closed (sym (some_same (p ∷ xs) ls e)) ∙ ap (λ l. p ∷ l) (rest xs d)

but_last_is : (ps ls : List (List ℕ)) → but_last ps ≡ Some ls → closed ls ≡ ps
but_last_is [] ls e = cc
but_last_is (p ∷ []) ls e = last_alone p ls e
but_last_is (p ∷ q ∷ ps) ls e = one_more p (q ∷ ps) (λ xs d. but_last_is (q ∷ ps) xs d) ls e

pub lines_spelled : (text : List ℕ) (ls : List (List ℕ)) → lines_of text ≡ Some ls → lines_text ls ≡ text
lines_spelled text ls e = lines_joined ls ∙ ap (join_with_byte 10) (but_last_is (parts 10 text) ls e) ∙ join_with_byte-slice_split 10 text
