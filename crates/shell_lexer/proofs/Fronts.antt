-- The byte at a place, and the place behind joined lines.
use Rattle.std.proofs.Common.{◌≡◌, ℕ, ◌+◌, ◌-◌, ◌<◌, ◌≤◌, [], ◌∷◌, sym, ap, ◌∙◌, subst, arith, drop, length, get_or, length-drop, add-one}
use Rattle.std.proofs.Math.Seq.{drop-cons}
use Rattle.std.proofs.Math.ListN.{drop_of_length-le}
use Rattle.shell_lexer.specs.Text.{Bytes, skip, place}

pub front : (s : Bytes) (p : ℕ) → p < length s → drop p s ≡ get_or s p 0 ∷ drop (p + 1) s
front s p lt = drop-cons s p 0 lt ∙ ap (λ k. get_or s p 0 ∷ drop k s) (sym (add-one p))

-- here is the next byte that counts from p on, or the text's end
pub record Here (text : Bytes) (p here : ℕ) : Type 0 where
  pub within : here ≤ length text
  pub on : p ≤ here
  pub skips : drop here text ≡ skip (drop p text)

pub place_of : (text : Bytes) (p here : ℕ) → Here text p here → place (length text) (skip (drop p text)) ≡ here
place_of text p here h =
    let n : length text - length (drop here text) ≡ here = (let w : here ≤ length text = h.within in omega (arith, length-drop here text)) in
    subst (λ (t : Bytes). length text - length t ≡ here) h.skips n

pub at_here : {A : Type 0} (f : ℕ → Bytes → A) (text : Bytes) (p here : ℕ) → Here text p here → f (place (length text) (skip (drop p text))) (skip (drop p text)) ≡ f here (drop here text)
at_here f text p here h = ap (λ n. f n (skip (drop p text))) (place_of text p here h) ∙ ap (f here) (sym h.skips)

-- what is behind joined lines, at a byte and at the text's end
pub skip_front : (s : Bytes) (p here : ℕ) → Here s p here → here < length s → skip (drop p s) ≡ get_or s here 0 ∷ drop (here + 1) s
skip_front s p here h lt = sym h.skips ∙ front s here lt

pub skip_end : (s : Bytes) (p here : ℕ) → Here s p here → length s ≤ here → skip (drop p s) ≡ []
skip_end s p here h le = sym h.skips ∙ drop_of_length-le s le
