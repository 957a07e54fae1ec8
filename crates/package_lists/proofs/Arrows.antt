-- The first arrow of a line, looked for from left to right.
use Rattle.std.proofs.Common.{◌≡◌, ℕ, ◌+◌, ◌-◌, ◌<◌, Bool, true, false, List, [], ◌∷◌, ◌++◌, length, take, drop, get_or, Option, Some, None, codes, refl, sym, ap, ◌∙◌}
use Rattle.std.specs.Prelude.{nat_eq, if◌then◌else◌}
use Rattle.std.specs.List.{starts_with}
use Rattle.std.proofs.lemmas.List.{take_rest, take_more, drop_more, drop-drop, append-nil, append_assoc}
use Rattle.package_lists.specs.Lists.{Halves, cut_at_arrow, byte_before}

-- bytes before the arrow
abbrev pub behind : List ℕ → Option Halves → Option Halves
behind front None = None
behind front (Some halves) = Some (front ++ halves.0, halves.1)

abbrev arrow : List ℕ
arrow = codes " -> "

pair : (a b c d : List ℕ) → a ≡ c → b ≡ d → ◌≡◌ {A = Option Halves} (Some (a, b)) (Some (c, d))
pair a b c d e f = cc

-- what is left begins with the arrow, or does not
here_cut : (b : ℕ) (bs : List ℕ) → starts_with nat_eq (b ∷ bs) arrow ≡ true → cut_at_arrow (b ∷ bs) ≡ Some ([], drop 4 (b ∷ bs))
here_cut b bs e = ap (λ t. if t then Some ([], drop 4 (b ∷ bs)) else byte_before b (cut_at_arrow bs)) e

not_here : (b : ℕ) (bs : List ℕ) → starts_with nat_eq (b ∷ bs) arrow ≡ false → cut_at_arrow (b ∷ bs) ≡ byte_before b (cut_at_arrow bs)
not_here b bs e = ap (λ t. if t then Some ([], drop 4 (b ∷ bs)) else byte_before b (cut_at_arrow bs)) e

one_before : (front : List ℕ) (b : ℕ) (o : Option Halves) → behind front (byte_before b o) ≡ behind (front ++ b ∷ []) o
one_before front b None = refl
one_before front b (Some halves) = pair _ _ _ _ (sym (append_assoc front (b ∷ []) halves.0)) refl

module _ (line : List ℕ) (i : ℕ) (lt : i < length line) where
  here_left : drop i line ≡ get_or line i 0 ∷ drop (i + 1) line
  here_left = drop_more line i 0 lt

  sight : (t : Bool) → starts_with nat_eq (take (length line - i) (drop i line)) arrow ≡ t → starts_with nat_eq (get_or line i 0 ∷ drop (i + 1) line) arrow ≡ t
  sight t e = sym (ap (λ l. starts_with nat_eq l arrow) (take_rest line i ∙ here_left)) ∙ e

  pub found_arrow : starts_with nat_eq (take (length line - i) (drop i line)) arrow ≡ true
      → cut_at_arrow line ≡ behind (take i line) (cut_at_arrow (drop i line))
      → ◌≡◌ {A = Option Halves} (Some (take i line, take (length line - (i + 4)) (drop (i + 4) line))) (cut_at_arrow line)
  found_arrow e so =
      pair _ _ _ _ (sym (append-nil (take i line))) (take_rest line (i + 4) ∙ sym (drop-drop 4 i line) ∙ ap (drop 4) here_left)
      ∙ sym (ap (behind (take i line)) (ap cut_at_arrow here_left ∙ here_cut (get_or line i 0) (drop (i + 1) line) (sight true e)))
      ∙ sym so

  pub passed_byte : starts_with nat_eq (take (length line - i) (drop i line)) arrow ≡ false
      → cut_at_arrow line ≡ behind (take i line) (cut_at_arrow (drop i line))
      → cut_at_arrow line ≡ behind (take (i + 1) line) (cut_at_arrow (drop (i + 1) line))
  passed_byte e so =
      so ∙ ap (behind (take i line)) (ap cut_at_arrow here_left ∙ not_here (get_or line i 0) (drop (i + 1) line) (sight false e))
      ∙ one_before (take i line) (get_or line i 0) (cut_at_arrow (drop (i + 1) line))
      ∙ ap (λ l. behind l (cut_at_arrow (drop (i + 1) line))) (sym (take_more line i 0 lt))
