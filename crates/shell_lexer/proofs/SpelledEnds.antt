-- A word's end is seen exactly where one is spelled.
use Rattle.std.proofs.Common.{◌≡◌, ◌⊎◌, inl, inr, ⊎_elim, ℕ, Bool, true, false, nat_eq, List, [], ◌∷◌, refl, sym, ap, ◌∙◌, subst, codes}
use Rattle.std.specs.List.{list_any}
use Rattle.shell_lexer.specs.declared.byte_kind.ByteKind.{ByteKind}
use Rattle.shell_lexer.specs.declared.byte_kind.ByteKind.TheVariants as k
use Rattle.shell_lexer.specs.Text.{Bytes, kind, skip, place, head_is, is_blank, is_word_end, ends_word}
use Rattle.shell_lexer.specs.Parts.{Ends, look, look_at, look_by, inner, inner_at}
use Rattle.shell_lexer.specs.SpelledEnds.{AtTextEnd, begins_operator, operators, IsWordEnd, text_ends, blank, operator}
use Rattle.shell_lexer.proofs.SpelledKinds.{KindOf, kind_of}
use Rattle.shell_lexer.proofs.SpelledCases.{or_case}
use Rattle.std.proofs.lemmas.Bool.{cond-true, eqb-true, false≢true}

-- ---- a byte before which a word ends

pub end_byte : (b : ℕ) (it : ByteKind) → KindOf b it → is_word_end it ≡ true → (is_blank b ≡ true) ⊎ (begins_operator b ≡ true)
end_byte b k.Blank h e = inl h
end_byte b k.Newline h e = inr (ap begins_operator h)
end_byte b k.Semi h e = inr (ap begins_operator h)
end_byte b k.Amp h e = inr (ap begins_operator h)
end_byte b k.Bar h e = inr (ap begins_operator h)
end_byte b k.Open h e = inr (ap begins_operator h)
end_byte b k.Close h e = inr (ap begins_operator h)
end_byte b k.Less h e = inr (ap begins_operator h)
end_byte b k.Greater h e = inr (ap begins_operator h)
end_byte b _ h e = absurd (false≢true e)

pub is_end : (b : ℕ) (text more : Bytes) (it : ByteKind) → skip text ≡ b ∷ more → KindOf b it → is_word_end it ≡ true → IsWordEnd text
is_end b text more it s h e = ⊎_elim (λ is. blank is (more, s, refl)) (λ is. operator is (more, s, refl)) (end_byte b it h e)

-- what holds of the first byte of each
abbrev Heads : (ℕ → Type 0) → List Bytes → Type 0
Heads P [] = Unit {0}
Heads P ([] ∷ texts) = Heads P texts
Heads P ((b ∷ bytes) ∷ texts) = P b × Heads P texts

head_among : (P : ℕ → Type 0) (b : ℕ) (texts : List Bytes) → Heads P texts → list_any (head_is b) texts ≡ true → P b
head_among P b [] h e = absurd (false≢true e)
head_among P b ([] ∷ texts) h e = head_among P b texts h e
head_among P b ((a ∷ bytes) ∷ texts) h e =
    or_case (nat_eq a b) (list_any (head_is b) texts) e (λ is. subst P (eqb-true a b is) h.0) (λ more. head_among P b texts h.1 more)

pub operator_ends : (b : ℕ) → begins_operator b ≡ true → is_word_end (kind b) ≡ true
operator_ends b e =
    head_among (λ b. is_word_end (kind b) ≡ true) b operators
    (refl, (refl, (refl, (refl, (refl, (refl, (refl, (refl, (refl, (refl, (refl, (refl, (refl, (refl, (refl, (refl, (refl, (refl, tt)))))))))))))))))) e

pub blank_ends : (b : ℕ) → is_blank b ≡ true → is_word_end (kind b) ≡ true
blank_ends b e = ap is_word_end (cond-true (is_blank b) k.Blank _ e)

-- ---- what is spelled is seen

look_end : (at b : ℕ) (it : ByteKind) (more : Bytes) → is_word_end it ≡ true → look_by at b it more ≡ Ends
look_end at b k.Blank more e = refl
look_end at b k.Newline more e = refl
look_end at b k.Semi more e = refl
look_end at b k.Amp more e = refl
look_end at b k.Bar more e = refl
look_end at b k.Open more e = refl
look_end at b k.Close more e = refl
look_end at b k.Less more e = refl
look_end at b k.Greater more e = refl
look_end at b _ more e = absurd (false≢true e)

pub look_ends : (len : ℕ) (text : Bytes) → IsWordEnd text → look len text ≡ Ends
look_ends len text (text_ends e) = ap (λ t. look_at (place len t) t) e
look_ends len text (blank {byte = b} is h) = ap (λ t. look_at (place len t) t) h.1 ∙ look_end (place len (b ∷ h.0)) b (kind b) h.0 (blank_ends b is)
look_ends len text (operator {byte = b} is h) = ap (λ t. look_at (place len t) t) h.1 ∙ look_end (place len (b ∷ h.0)) b (kind b) h.0 (operator_ends b is)

pub inner_ends : (len : ℕ) (text : Bytes) → AtTextEnd text → inner len text ≡ Ends
inner_ends len text e = ap (λ t. inner_at (place len t) t) e

-- ---- the words of redirections

pub word_ends : (text : Bytes) → IsWordEnd text → ends_word (skip text) ≡ true
word_ends text (text_ends e) = ap ends_word e
word_ends text (blank {byte = b} is h) = ap ends_word h.1 ∙ blank_ends b is
word_ends text (operator {byte = b} is h) = ap ends_word h.1 ∙ operator_ends b is

ends_by : (text t : Bytes) → skip text ≡ t → ends_word t ≡ true → IsWordEnd text
ends_by text [] s e = text_ends s
ends_by text (b ∷ more) s e = is_end b text more (kind b) s (kind_of b) e

pub word_end_is : (text : Bytes) → ends_word (skip text) ≡ true → IsWordEnd text
word_end_is text e = ends_by text (skip text) refl e
