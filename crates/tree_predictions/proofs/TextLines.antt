-- The first line of a text.
use Rattle.std.proofs.Common.{◌≡◌, ℕ, ◌+◌, ◌<◌, ◌≤◌, suc, Bool, true, false, List, [], ◌∷◌, ◌++◌, All, length, take, drop, get_or, Option, Some, None, refl, sym, subst, ap, ◌∙◌, inl, inr, arith}
use Rattle.std.specs.Prelude.{◌==◌, ◌-◌, nat_lt, if◌then◌else◌}
use Rattle.std.specs.List.{slice_split, position, position_or_len}
use Rattle.std.proofs.Math.Seq.{split_at, drop-length}
use Rattle.std.proofs.lemmas.List.{get_or-take, length-take, take_rest}
use Rattle.std.proofs.lemmas.List.Sums.{fails_before_first, passes_at_first}
use Rattle.std.proofs.lemmas.List.Splits.{slice_split_at, slice_split_none, length-slice_split}
use Rattle.std.proofs.lemmas.Bool.{eqb-false}
use Rattle.std.proofs.lemmas.Bool.Decides.{nat_tests}
use Rattle.script_names.specs.Ascii.{newline}
use Rattle.feature_trees.specs.TreeLines.{text_lines, whole_lines}
use Rattle.tree_predictions.specs.Blocks.{CutsLine}

abbrev pub is_newline : ℕ → Bool
is_newline b = b == newline

absurd_none : 0 < 0 → ⊥
absurd_none lt = omega (arith, lt)

behind : (part : List ℕ) (ps : List (List ℕ)) → 0 < length ps → whole_lines (part ∷ ps) ≡ part ∷ whole_lines ps
behind part [] lt = absurd (absurd_none lt)
behind part (p ∷ ps) lt = refl

some_part : (text : List ℕ) → 0 < length (slice_split is_newline text)
some_part text = let e = length-slice_split is_newline text in omega (arith, e)

-- a line before a newline is the first
pub line_first : (line rest : List ℕ) → All (λ b. is_newline b ≡ false) line → text_lines (line ++ newline ∷ rest) ≡ line ∷ text_lines rest
line_first line rest lacks = ap whole_lines (slice_split_at is_newline line newline rest lacks refl) ∙ behind line (slice_split is_newline rest) (some_part rest)

alone : (line : List ℕ) → 0 < length line → whole_lines (line ∷ []) ≡ line ∷ []
alone [] lt = absurd (absurd_none lt)
alone (b ∷ line) lt = refl

-- bytes without a newline are one line
pub line_alone : (line : List ℕ) → 0 < length line → All (λ b. is_newline b ≡ false) line → text_lines line ≡ line ∷ []
line_alone line some lacks = ap whole_lines (slice_split_none is_newline line lacks) ∙ alone line some

-- a text begins with the line that is cut off
pub first_line : (text line rest : List ℕ) → 0 < length text → CutsLine text line rest → text_lines text ≡ line ∷ text_lines rest
first_line text line rest some cut =
    elim cut.cut [
      | inl e ↦ ap text_lines e ∙ line_first line rest cut.lacks
      | inr e ↦ ap text_lines e.0 ∙ line_alone line (subst (λ t. 0 < length t) e.0 some) cut.lacks ∙ ap (λ r. line ∷ text_lines r) (sym e.1)
    ]

below : (k n : ℕ) → nat_lt k n ≡ true → k < n
below k n t = grind (arith, nat_tests, t)

not_below : (k n : ℕ) → nat_lt k n ≡ false → n ≤ k
not_below k n f = grind (arith, nat_tests, f)

same_byte : (a b : ℕ) → (a == b) ≡ true → a ≡ b
same_byte a b t = grind (arith, nat_tests, t)

placed : (k n at : ℕ) (b : Bool) → nat_lt k n ≡ b → (if b then Some k else None) ≡ Some at → (k ≡ at) × (k < n)
placed k n at true t e = (cc, below k n t)
placed k n at false t e = cc

nowhere : (k n : ℕ) (b : Bool) → nat_lt k n ≡ b → ◌≡◌ {A = Option ℕ} (if b then Some k else None) None → n ≤ k
nowhere k n true t e = cc
nowhere k n false f e = not_below k n f

after : (at : ℕ) → suc at ≡ at + 1
after at = omega arith

-- the line before the first newline
pub at_newline : (text : List ℕ) (at : ℕ) → position is_newline text ≡ Some at
    → CutsLine text (take at text) (take (length text - (at + 1)) (drop (at + 1) text))
at_newline text at e =
    let found = placed (position_or_len is_newline text) (length text) at (nat_lt (position_or_len is_newline text) (length text)) refl e in
    let lt : at < length text = subst (λ k. k < length text) found.0 found.1 in
    let b : get_or text at 0 ≡ newline =
    same_byte _ _ (subst (λ k. is_newline (get_or text k 0) ≡ true) found.0 (passes_at_first is_newline text 0 found.1)) in
    let size = length-take at text in
    record {
      lacks = λ k d under.
          let low : k < at = omega (arith, under, size) in
          ap is_newline (get_or-take at text k d low) ∙ fails_before_first is_newline text k d (subst (λ n. k < n) (sym found.0) low);
      cut = inl (
          split_at text at 0 lt ∙ ap (λ b. take at text ++ b ∷ drop (suc at) text) b
          ∙ ap (λ n. take at text ++ newline ∷ drop n text) (after at)
          ∙ ap (λ r. take at text ++ newline ∷ r) (sym (take_rest text (at + 1))));
    }

-- a text without a newline
pub no_newline : (text : List ℕ) → position is_newline text ≡ None → CutsLine text text (take (length text - length text) (drop (length text) text))
no_newline text e =
    let le : length text ≤ position_or_len is_newline text =
    nowhere (position_or_len is_newline text) (length text) (nat_lt (position_or_len is_newline text) (length text)) refl e in
    record {
      lacks = λ k d under. fails_before_first is_newline text k d (omega (arith, under, le));
      cut = inr (refl, take_rest text (length text) ∙ drop-length text);
    }

-- a text of some bytes is not empty
pub some_left : (text : List ℕ) (empty : Bool) → empty ≡ (length text == 0) → empty ≡ false → 0 < length text
some_left text empty e f = let some = eqb-false (length text) 0 (sym e ∙ f) in omega (arith, some)

-- a text without bytes
pub none_left : (text : List ℕ) (empty : Bool) → empty ≡ (length text == 0) → empty ≡ true → text ≡ []
none_left [] empty e t = refl
none_left (b ∷ text) empty e t = let same = same_byte (length (b ∷ text)) 0 (sym e ∙ t) in absurd (let bad : length (b ∷ text) ≡ 0 = same in omega (arith, bad))
