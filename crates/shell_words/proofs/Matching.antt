-- Items of a pattern along a string: where the items up to the next `*` stand for the first bytes, what is left is settled.
use Rattle.std.proofs.Common.{◌≡◌, ℕ, suc, zero, ◌+◌, ◌-◌, ◌<◌, ◌≤◌, Bool, true, false, List, [], ◌∷◌, ◌++◌, length, get_or, take, drop, refl, sym, ap, subst, ◌∙◌, add-one, arith, ◌⊎◌, inl, inr}
use Rattle.std.proofs.lemmas.List.{drop-drop, drop_more, drop_all, take-append-drop, take_rest}
use Rattle.shell_words.specs.declared.pattern.Item.{Item}
use Rattle.shell_words.specs.declared.pattern.Item.TheVariants.{Byte, Any, Star, Set}
use Rattle.shell_words.specs.Patterns.{allows, Matches, matches_end, matches_byte, matches_star}
use Rattle.shell_words.specs.Runs.{Stands, is_star}

clash : {A : Type 0} → false ≡ true → A
clash e = cc

opposite : {A : Type 0} {b : Bool} → b ≡ true → b ≡ false → A
opposite e f = cc

-- some bytes, and then the rest
drop-behind : (xs ys : List ℕ) → drop (length xs) (xs ++ ys) ≡ ys
drop-behind [] ys = refl
drop-behind (x ∷ xs) ys = drop-behind xs ys

drop-none : (n : ℕ) → drop n (let none : List ℕ = [] in none) ≡ []
drop-none zero = refl
drop-none (suc n) = refl

-- without items, the string is empty
pub only-none : (text : List ℕ) → Matches [] text → text ≡ []
only-none _ matches_end = refl

-- a `*` stands for the first n bytes, for some n
only-star : (others : List Item) (text : List ℕ) → Matches (Star ∷ others) text → (n : ℕ) × Matches others (drop n text)
only-star others _ (matches_byte h m) = clash h
only-star others _ (matches_star skipped rest e m) =
    (length skipped, subst (Matches others) (sym (ap (drop (length skipped)) e ∙ drop-behind skipped rest)) m)

pub by-star : (others : List Item) (text : List ℕ) (n : ℕ) → Matches others (drop n text) → Matches (Star ∷ others) text
by-star others text n m = matches_star (take n text) (drop n text) (sym (take-append-drop n text)) m

-- any other item stands for the first byte
pub record First (item : Item) (others : List Item) (text : List ℕ) : Type 0 where
  pub byte : ℕ
  pub rest : List ℕ
  pub is : text ≡ byte ∷ rest
  pub stands : allows item byte ≡ true
  pub matched : Matches others rest

pub only-byte : (item : Item) (others : List Item) (text : List ℕ) → Matches (item ∷ others) text → is_star item ≡ false → First item others text
only-byte item others _ (matches_byte h m) no_star = record { byte = _; rest = _; is = refl; stands = h; matched = m }
only-byte _ others text (matches_star skipped rest e m) no_star = clash (sym no_star)

no_star : (item : Item) (b : ℕ) → allows item b ≡ true → is_star item ≡ false
no_star (Byte c) b e = refl
no_star Any b e = refl
no_star Star b e = clash e
no_star (Set negated letters) b e = refl

-- items that stand for some bytes stand for as many of any string that is matched
skip : (n : ℕ) (items : List Item) (text other : List ℕ) → Stands n items text → Matches items other → Matches (drop n items) (drop n other)
skip zero items text other s m = m
skip (suc n) [] text other s m = absurd s
skip (suc n) (item ∷ others) [] other s m = absurd s
skip (suc n) (item ∷ others) (b ∷ rest) other s m =
    let f = only-byte item others other m (no_star item b s.0) in
    subst (λ t. Matches (drop n others) (drop (suc n) t)) (sym f.is) (skip n others rest f.rest s.1 f.matched)

pub by-stands : (n : ℕ) (items : List Item) (text : List ℕ) → Stands n items text → Matches (drop n items) (drop n text) → Matches items text
by-stands zero items text s m = m
by-stands (suc n) [] text s m = absurd s
by-stands (suc n) (item ∷ others) [] s m = absurd s
by-stands (suc n) (item ∷ others) (b ∷ rest) s m = matches_byte s.0 (by-stands n others rest s.1 m)

stands-suc : (n : ℕ) (items : List Item) (text : List ℕ) (item : Item) (others : List Item) (b : ℕ) (rest : List ℕ) → Stands n items text
    → drop n items ≡ item ∷ others → drop n text ≡ b ∷ rest → allows item b ≡ true → Stands (suc n) items text
stands-suc zero [] text item others b rest s e f h = absurd (cc e)
stands-suc zero (i ∷ is) [] item others b rest s e f h = absurd (cc f)
stands-suc zero (i ∷ is) (t ∷ ts) item others b rest s e f h =
    let same : i ≡ item = cc in
    let byte : t ≡ b = cc in
    (ap (λ x. allows x t) same ∙ ap (allows item) byte ∙ h, tt)
stands-suc (suc n) [] text item others b rest s e f h = absurd s
stands-suc (suc n) (i ∷ is) [] item others b rest s e f h = absurd s
stands-suc (suc n) (i ∷ is) (t ∷ ts) item others b rest s e f h = (s.0, stands-suc n is ts item others b rest s.1 e f h)

module _ (items : List Item) (text : List ℕ) (n : ℕ) (d : Item) (stands : Stands n items text) where
  pub stands-more : n < length items → n < length text → allows (get_or items n d) (get_or text n 0) ≡ true → Stands (n + 1) items text
  stands-more within byte h =
      rw add-one (stands-suc n items text (get_or items n d) (drop (n + 1) items) (get_or text n 0) (drop (n + 1) text) stands (drop_more items n d within) (drop_more text n 0 byte) h)

  -- what is left of the items where the string ends, or of the string where the items end
  pub no-text : n < length items → is_star (get_or items n d) ≡ false → length text ≤ n → Matches items text → ⊥
  no-text within other none m =
      let left = skip n items text text stands m in
      let here = subst (λ is. Matches is (drop n text)) (drop_more items n d within) left in
      let f = only-byte _ _ _ here other in
      let e : f.byte ∷ f.rest ≡ [] = sym f.is ∙ drop_all n text none in
      absurd (cc e)

  pub no-byte : n < length items → is_star (get_or items n d) ≡ false → n < length text → allows (get_or items n d) (get_or text n 0) ≡ false → Matches items text → ⊥
  no-byte within other byte refused m =
      let left = skip n items text text stands m in
      let here = subst (λ is. Matches is (drop n text)) (drop_more items n d within) left in
      let f = only-byte _ _ _ here other in
      let e : f.byte ∷ f.rest ≡ get_or text n 0 ∷ drop (n + 1) text = sym f.is ∙ drop_more text n 0 byte in
      let same : f.byte ≡ get_or text n 0 = cc in
      opposite (ap (allows (get_or items n d)) (sym same) ∙ f.stands) refused

  pub whole : length items ≤ n → length text ≤ n → Matches items text
  whole is_end text_end =
      by-stands n items text stands (subst (λ is. Matches is (drop n text)) (sym (drop_all n items is_end)) (subst (Matches []) (sym (drop_all n text text_end)) matches_end))

  pub no-items : length items ≤ n → n < length text → Matches items text → ⊥
  no-items is_end byte m =
      let left = skip n items text text stands m in
      let here = only-none _ (subst (λ is. Matches is (drop n text)) (drop_all n items is_end) left) in
      let e : get_or text n 0 ∷ drop (n + 1) text ≡ [] = sym (drop_more text n 0 byte) ∙ here in
      absurd (cc e)

-- what is left to match: the items themselves, or the items behind a `*`
abbrev pub Left : Bool → List Item → List ℕ → Type 0
Left true items text = Matches (Star ∷ items) text
Left false items text = Matches items text

pub left-matched : (behind_star : Bool) (items : List Item) (text : List ℕ) → Matches items text → Left behind_star items text
left-matched true items text m = by-star items text 0 m
left-matched false items text m = m

-- no match here, and the string is at its end
pub left-never : (behind_star : Bool) (items : List Item) (text : List ℕ) → (Matches items text → ⊥) → ((behind_star ≡ false) ⊎ (text ≡ [])) → Left behind_star items text → ⊥
left-never true items text never (inl e) m = absurd (cc e)
left-never true items text never (inr e) m =
    let s = only-star items text m in
    never (subst (Matches items) (ap (drop s.0) e ∙ drop-none s.0 ∙ sym e) s.1)
left-never false items text never e m = never m

-- no match here: behind a `*` one byte more is skipped
pub later-only : (items : List Item) (text : List ℕ) → (Matches items text → ⊥) → Left true items text → Left true items (drop 1 text)
later-only items text never m = go (only-star items text m)
  where
    go : (n : ℕ) × Matches items (drop n text) → Matches (Star ∷ items) (drop 1 text)
    go (zero, k) = absurd (never k)
    go (suc n, k) = by-star items (drop 1 text) n (subst (Matches items) (sym (drop-drop n 1 text ∙ ap (λ j. drop j text) (one-more n))) k)
      where
        one-more : (n : ℕ) → 1 + n ≡ suc n
        one-more n = omega arith

pub later-enough : (items : List Item) (text : List ℕ) → Left true items (drop 1 text) → Left true items text
later-enough items text m =
    let s = only-star items (drop 1 text) m in
    by-star items text (1 + s.0) (subst (Matches items) (drop-drop s.0 1 text) s.1)

-- up to the next `*`
module _ (items others : List Item) (text : List ℕ) (n : ℕ) (stands : Stands n items text) (star : drop n items ≡ Star ∷ others) where
  pub star-enough : (behind_star : Bool) → Matches (Star ∷ others) (drop n text) → Left behind_star items text
  star-enough behind_star m = left-matched behind_star items text (by-stands n items text stands (subst (λ is. Matches is (drop n text)) (sym star) m))

  pub star-only : (behind_star : Bool) → Left behind_star items text → Matches (Star ∷ others) (drop n text)
  star-only false m = subst (λ is. Matches is (drop n text)) star (skip n items text text stands m)
  star-only true m =
      let s = only-star items text m in
      let behind = subst (λ is. Matches is (drop n (drop s.0 text))) star (skip n items text (drop s.0 text) stands s.1) in
      let t = only-star others _ behind in
      by-star others (drop n text) (s.0 + t.0)
      (subst (Matches others) (drop-drop t.0 n (drop s.0 text) ∙ drop-drop (n + t.0) s.0 text ∙ ap (λ j. drop j text) (turned s.0 n t.0) ∙ sym (drop-drop (s.0 + t.0) n text)) t.1)
    where
      turned : (a b c : ℕ) → a + (b + c) ≡ b + (a + c)
      turned a b c = omega arith

-- the same of places in the items and in the string
module _ (items : List Item) (text : List ℕ) (from at : ℕ) (behind_star : Bool) where
  abbrev now_items : List Item
  now_items = take (length items - from) (drop from items)

  abbrev now_text : List ℕ
  now_text = take (length text - at) (drop at text)

  abbrev pub Now : Type 0
  Now = Left behind_star (drop from items) (drop at text)

  here-only : Matches now_items now_text → Matches (drop from items) (drop at text)
  here-only m = subst (λ is. Matches is (drop at text)) (take_rest items from) (subst (Matches now_items) (take_rest text at) m)

  here-enough : Matches (drop from items) (drop at text) → Matches now_items now_text
  here-enough m = subst (λ is. Matches is now_text) (sym (take_rest items from)) (subst (Matches (drop from items)) (sym (take_rest text at)) m)

  pub run-whole : (Now → Matches items text) → Matches now_items now_text → Matches items text
  run-whole enough m = enough (left-matched behind_star (drop from items) (drop at text) (here-only m))

  pub run-never : (Matches items text → Now) → (Matches now_items now_text → ⊥) → ((behind_star ≡ false) ⊎ (at ≡ length text)) → Matches items text → ⊥
  run-never only never (inl e) m = left-never behind_star (drop from items) (drop at text) (λ k. never (here-enough k)) (inl e) (only m)
  run-never only never (inr e) m = left-never behind_star (drop from items) (drop at text) (λ k. never (here-enough k)) (inr (drop_all at text (omega arith))) (only m)

  one-later : drop 1 (drop at text) ≡ drop (at + 1) text
  one-later = drop-drop 1 at text

  pub run-later-only : (Matches items text → Now) → (Matches now_items now_text → ⊥) → behind_star ≡ true → Matches items text → Left behind_star (drop from items) (drop (at + 1) text)
  run-later-only only never e m =
      let now : Left true (drop from items) (drop at text) = subst (λ f. Left f (drop from items) (drop at text)) e (only m) in
      let later = later-only (drop from items) (drop at text) (λ k. never (here-enough k)) now in
      subst (λ f. Left f (drop from items) (drop (at + 1) text)) (sym e) (subst (Left true (drop from items)) one-later later)

  pub run-later-enough : (Now → Matches items text) → behind_star ≡ true → Left behind_star (drop from items) (drop (at + 1) text) → Matches items text
  run-later-enough enough e m =
      let later : Left true (drop from items) (drop (at + 1) text) = subst (λ f. Left f (drop from items) (drop (at + 1) text)) e m in
      enough (subst (λ f. Left f (drop from items) (drop at text)) (sym e) (later-enough (drop from items) (drop at text) (subst (Left true (drop from items)) (sym one-later) later)))

  module _ (n : ℕ) (others : List Item) (stands : Stands n now_items now_text) (star : drop n now_items ≡ Star ∷ others) where
    behind-items : others ≡ drop ((from + n) + 1) items
    behind-items =
        let sum : from + (n + 1) ≡ (from + n) + 1 = omega arith in
        sym (ap (drop 1) star) ∙ drop-drop 1 n now_items ∙ ap (drop (n + 1)) (take_rest items from) ∙ drop-drop (n + 1) from items ∙ ap (λ k. drop k items) sum

    behind-text : drop n now_text ≡ drop (at + n) text
    behind-text = ap (drop n) (take_rest text at) ∙ drop-drop n at text

    now_left : Left behind_star now_items now_text ≡ Now
    now_left = ap (λ is. Left behind_star is now_text) (take_rest items from) ∙ ap (Left behind_star (drop from items)) (take_rest text at)

    pub run-star-only : (Matches items text → Now) → Matches items text → Matches (Star ∷ drop ((from + n) + 1) items) (drop (at + n) text)
    run-star-only only m =
        let here = star-only now_items others now_text n stands star behind_star (subst (λ t. t) (sym now_left) (only m)) in
        subst (λ is. Matches (Star ∷ is) (drop (at + n) text)) behind-items (subst (Matches (Star ∷ others)) behind-text here)

    pub run-star-enough : (Now → Matches items text) → Matches (Star ∷ drop ((from + n) + 1) items) (drop (at + n) text) → Matches items text
    run-star-enough enough m =
        let here = subst (Matches (Star ∷ others)) (sym behind-text) (subst (λ is. Matches (Star ∷ is) (drop (at + n) text)) (sym behind-items) m) in
        enough (subst (λ t. t) now_left (star-enough now_items others now_text n stands star behind_star here))
