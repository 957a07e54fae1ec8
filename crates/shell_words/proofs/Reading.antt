-- A pattern read from left to right, item by item; and the ranges of a set.
use Rattle.std.proofs.Common.{◌≡◌, ℕ, suc, zero, ◌+◌, ◌-◌, ◌<◌, ◌≤◌, Bool, true, false, cond, List, [], ◌∷◌, ◌++◌, length, get_or, take, drop, refl, sym, ap, ◌∙◌, arith, append_assoc, Option, Some, None, option_map, ◌⊎◌, inl, inr}
use Rattle.std.proofs.lemmas.List.{drop-drop, drop_more, take_rest, length-drop, get_or-drop}
use Rattle.shell_words.specs.declared.letter.Letter.{Letter}
use Rattle.shell_words.specs.declared.pattern.Item.{Item}
use Rattle.shell_words.specs.Words.{is_unquoted}
use Rattle.shell_words.specs.Patterns.{code, closes_at, item_at, items, items_behind, ranges}

items_behind-drop : (n : ℕ) (letters : List Letter) → items_behind n letters ≡ items (drop n letters)
items_behind-drop zero letters = refl
items_behind-drop (suc n) [] = refl
items_behind-drop (suc n) (x ∷ rest) = items_behind-drop n rest

none-open : (b : Bool) (o : Option ℕ) → cond b (Some 0) (option_map suc o) ≡ None → o ≡ None
none-open true o e = cc
none-open false None e = refl
none-open false (Some n) e = cc

none-drop : (n : ℕ) (letters : List Letter) → closes_at letters ≡ None → closes_at (drop n letters) ≡ None
none-drop zero letters e = e
none-drop (suc n) [] e = refl
none-drop (suc n) (x ∷ rest) e = none-drop n rest (none-open (is_unquoted 93 x) (closes_at rest) e)

-- behind a place behind which no `]` stands, none stands
pub none-behind : (letters : List Letter) (last at : ℕ) → closes_at (drop last letters) ≡ None → last ≤ at → closes_at (take (length letters - at) (drop at letters)) ≡ None
none-behind letters last at e le =
    let here : last + (at - last) ≡ at = omega arith in
    ap closes_at (take_rest letters at) ∙ ap closes_at (sym (drop-drop (at - last) last letters ∙ ap (λ n. drop n letters) here))
    ∙ none-drop (at - last) (drop last letters) e

pub items-more : (letters : List Letter) (at : ℕ) (d : Letter) (item : Item) (taken : ℕ) (out more : List Item) → at < length letters
    → (item, taken) ≡ item_at (get_or letters at d) (take (length letters - (at + 1)) (drop (at + 1) letters))
    → out ++ items (drop at letters) ≡ items letters
    → more ≡ out ++ item ∷ []
    → more ++ items (drop ((at + 1) + taken) letters) ≡ items letters
items-more letters at d item taken out more lt e so_far m =
    let x = get_or letters at d in
    let rest = drop (at + 1) letters in
    let found : (item, taken) ≡ item_at x rest = e ∙ ap (item_at x) (take_rest letters (at + 1)) in
    let behind : items (drop ((at + 1) + taken) letters) ≡ items_behind taken rest = ap items (sym (drop-drop taken (at + 1) letters)) ∙ sym (items_behind-drop taken rest) in
    let one : items (drop at letters) ≡ item ∷ items_behind taken rest =
    ap items (drop_more letters at d lt) ∙ ap (λ p. p.0 ∷ items_behind p.1 rest) (sym found)
    in
    ap (λ is. is ++ items (drop ((at + 1) + taken) letters)) m ∙ append_assoc out (item ∷ []) _ ∙ ap (λ r. out ++ item ∷ r) behind ∙ ap (λ r. out ++ r) (sym one) ∙ so_far

first-range : (x : Letter) (rest : List Letter) (d : Letter) → ((length rest ≤ 1) ⊎ (is_unquoted 45 (get_or rest 0 d) ≡ false))
    → ranges (x ∷ rest) ≡ (code x, code x) ∷ ranges rest
first-range x [] d e = refl
first-range x (y ∷ []) d e = refl
first-range x (y ∷ z ∷ rest) d (inl e) = absurd (omega arith)
first-range x (y ∷ z ∷ rest) d (inr e) = ap (λ b. cond b ((code x, code z) ∷ ranges rest) ((code x, code x) ∷ ranges (y ∷ z ∷ rest))) e

-- a letter with no `-` and letter behind it is a range of its own
pub ranges-one : (letters : List Letter) (at : ℕ) (d : Letter) → at < length letters → ((length letters - at ≤ 2) ⊎ (is_unquoted 45 (get_or letters (at + 1) d) ≡ false))
    → ranges (drop at letters) ≡ (code (get_or letters at d), code (get_or letters at d)) ∷ ranges (drop (at + 1) letters)
ranges-one letters at d lt (inl few) =
    let short : length (drop (at + 1) letters) ≤ 1 = simp length-drop (omega arith) in
    ap ranges (drop_more letters at d lt) ∙ first-range (get_or letters at d) (drop (at + 1) letters) d (inl short)
ranges-one letters at d lt (inr e) =
    let none : (at + 1) + 0 ≡ at + 1 = omega arith in
    ap ranges (drop_more letters at d lt) ∙ first-range (get_or letters at d) (drop (at + 1) letters) d
    (inr (ap (is_unquoted 45) (get_or-drop (at + 1) letters 0 d ∙ ap (λ n. get_or letters n d) none) ∙ e))
