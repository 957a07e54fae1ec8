-- The lines before the first that begins a tree.
use Rattle.std.proofs.Common.{◌≡◌, ℕ, ◌+◌, ◌-◌, ◌<◌, Bool, false, List, [], ◌∷◌, ◌++◌, All, length, take, refl, sym, subst, ap, ap₂, ◌∙◌, inl, inr, arith}
use Rattle.std.specs.Prelude.{◌||◌}
use Rattle.std.specs.List.{list_any}
use Rattle.std.proofs.Math.Seq.{take-append_seam}
use Rattle.std.proofs.lemmas.List.{append_assoc, append-nil, length-append, length_push}
use Rattle.std.proofs.lemmas.List.Folds.{list_any-append}
use Rattle.script_names.specs.Ascii.{newline}
use Rattle.feature_trees.specs.TreeLines.{text_lines}
use Rattle.tree_predictions.specs.NamedTrees.{is_head}
use Rattle.tree_predictions.specs.Blocks.{CutsLine, IsApart, IsFront}
use Rattle.tree_predictions.proofs.TextLines.{is_newline, line_first, line_alone}

-- before the first line there is none
pub no_line : (text : List ℕ) → IsFront text 0 text
no_line text = record {
  front = [];
  whole = refl;
  none = refl;
  count = refl;
  few = omega arith;
  apart = inl (λ more. refl);
}

neither : (a b : Bool) → a ≡ false → b ≡ false → (a || (b || false)) ≡ false
neither a b e f = ap₂ (λ a b. a || (b || false)) e f

none_more : (lines : List (List ℕ)) (line : List ℕ) → list_any is_head lines ≡ false → is_head line ≡ false → list_any is_head (lines ++ line ∷ []) ≡ false
none_more lines line none head = list_any-append is_head lines (line ∷ []) ∙ neither (list_any is_head lines) (is_head line) none head

counted : (n : ℕ) (lines more : List (List ℕ)) (line : List ℕ) → n ≡ length lines → more ≡ lines ++ line ∷ [] → n + 1 ≡ length more
counted n lines more line e is = ap (λ k. k + 1) e ∙ sym (ap length is ∙ length_push lines line)

whole_line : (text behind line rest : List ℕ) (n : ℕ) (front : IsFront text n behind) → IsApart front.front → All (λ b. is_newline b ≡ false) line
    → behind ≡ line ++ newline ∷ rest → is_head line ≡ false → IsFront text (n + 1) rest
whole_line text behind line rest n front apart lacks e head =
    let piece : List ℕ = line ++ newline ∷ [] in
    let joined : (more : List ℕ) → piece ++ more ≡ line ++ newline ∷ more = λ more. append_assoc line (newline ∷ []) more in
    let lines : text_lines (front.front ++ piece) ≡ text_lines front.front ++ line ∷ [] =
    apart piece ∙ ap (λ ls. text_lines front.front ++ ls) (line_first line [] lacks) in
    let size : length (line ++ newline ∷ rest) ≡ length line + length (newline ∷ rest) = length-append line (newline ∷ rest) in
    let tail : length behind ≡ length line + (length rest + 1) = ap length e ∙ size ∙ ap (λ k. length line + k) (omega arith) in
    record {
      front = front.front ++ piece;
      whole =
          front.whole ∙ ap (λ b. front.front ++ b) (e ∙ sym (joined rest)) ∙ sym (append_assoc front.front piece rest);
      none = ap (list_any is_head) lines ∙ none_more (text_lines front.front) line front.none head;
      count = counted n (text_lines front.front) (text_lines (front.front ++ piece)) line front.count lines;
      few = let few = front.few in omega (arith, few, tail);
      apart = inl (λ more.
          ap text_lines (append_assoc front.front piece more) ∙ apart (piece ++ more)
          ∙ ap (λ ls. text_lines front.front ++ ls) (ap text_lines (joined more) ∙ line_first line more lacks)
          ∙ sym (append_assoc (text_lines front.front) (line ∷ []) (text_lines more))
          ∙ ap (λ ls. ls ++ text_lines more) (sym lines));
    }

last_line : (text behind line rest : List ℕ) (n : ℕ) (front : IsFront text n behind) → IsApart front.front → All (λ b. is_newline b ≡ false) line
    → 0 < length behind → behind ≡ line → rest ≡ [] → is_head line ≡ false → IsFront text (n + 1) rest
last_line text behind line rest n front apart lacks some e end head =
    let lines : text_lines (front.front ++ line) ≡ text_lines front.front ++ line ∷ [] =
    apart line ∙ ap (λ ls. text_lines front.front ++ ls) (line_alone line (subst (λ t. 0 < length t) e some) lacks) in
    let none_left : length rest ≡ 0 = ap length end in
    record {
      front = front.front ++ line;
      whole =
          front.whole ∙ ap (λ b. front.front ++ b) e ∙ sym (append-nil (front.front ++ line)) ∙ ap (λ r. (front.front ++ line) ++ r) (sym end);
      none = ap (list_any is_head) lines ∙ none_more (text_lines front.front) line front.none head;
      count = counted n (text_lines front.front) (text_lines (front.front ++ line)) line front.count lines;
      few = let few = front.few in omega (arith, few, some, none_left);
      apart = inr end;
    }

-- one line more
pub one_line : (text behind line rest : List ℕ) (n : ℕ) → 0 < length behind → IsFront text n behind → CutsLine behind line rest → is_head line ≡ false
    → IsFront text (n + 1) rest
one_line text behind line rest n some front cut head =
    elim front.apart [
      | inr e ↦ absurd (let none : length behind ≡ 0 = ap length e in omega (arith, some, none))
      | inl apart ↦ elim cut.cut [
        | inl e ↦ whole_line text behind line rest n front apart cut.lacks e head
        | inr e ↦ last_line text behind line rest n front apart cut.lacks some e.0 e.1 head
      ]
    ]

-- what is cut off is shorter than the text
pub shorter : (text line rest : List ℕ) → 0 < length text → CutsLine text line rest → length rest < length text
shorter text line rest some cut =
    elim cut.cut [
      | inl e ↦ let size : length text ≡ length line + length (newline ∷ rest) = ap length e ∙ length-append line (newline ∷ rest) in omega (arith, size)
      | inr e ↦ let none : length rest ≡ 0 = ap length e.1 in omega (arith, some, none)
    ]

-- the front is what stands before the rest
pub front_is : (text behind : List ℕ) (n : ℕ) (front : IsFront text n behind) → take (length text - length behind) text ≡ front.front
front_is text behind n front =
    let size : length text ≡ length front.front + length behind = ap length front.whole ∙ length-append front.front behind in
    let k : length text - length behind ≡ length front.front = omega (arith, size) in
    ap₂ take k front.whole ∙ take-append_seam front.front behind

-- the lines of a text are those of the front and those of the rest
pub lines_of_both : (text behind : List ℕ) (n : ℕ) (front : IsFront text n behind) → text_lines text ≡ text_lines front.front ++ text_lines behind
lines_of_both text behind n front =
    elim front.apart [
      | inl apart ↦ ap text_lines front.whole ∙ apart behind
      | inr e ↦
          ap text_lines (front.whole ∙ ap (λ b. front.front ++ b) e ∙ append-nil front.front)
          ∙ sym (append-nil (text_lines front.front)) ∙ ap (λ b. text_lines front.front ++ text_lines b) (sym e)
    ]
