-- Words that are said one behind another, with a comma between each two.
use Rattle.std.proofs.Common.{◌≡◌, ℕ, ◌+◌, ◌<◌, ◌≤◌, Bool, true, false, List, [], ◌∷◌, ◌++◌, length, drop, map, get_or, Bor, refl, sym, ap, ◌∙◌, arith, append_assoc, append-nil}
use Rattle.std.proofs.lemmas.Grind.{common_steps}
use Rattle.std.proofs.lemmas.List.{drop_all}
use Rattle.std.specs.Prelude.{◌||◌, codes, if◌then◌else◌}
use Rattle.std.specs.List.{flat_map}
use Rattle.tree_clauses.specs.ClauseText.{after_comma, chosen, words_text}

-- a word where it is chosen, after a comma where one stands before it
abbrev pub one_said : Bool → Bool → List ℕ → List ℕ
one_said some has word = if has then (if some then after_comma word else word) else []

-- the words that are chosen
abbrev pub said : Bool → List (Bool × List ℕ) → List ℕ
said some [] = []
said some (one ∷ rest) = one_said some one.0 one.1 ++ said (some || one.0) rest

-- whether one stands there
abbrev pub any_said : Bool → List (Bool × List ℕ) → Bool
any_said some [] = some
any_said some (one ∷ rest) = any_said (some || one.0) rest

-- words as they are seen
abbrev pub views : List (Bool × Bor (List ℕ)) → List (Bool × List ℕ)
views words = map (λ word. (word.0, word.1.now)) words

said_behind : (xs : List (Bool × List ℕ)) → said true xs ≡ flat_map after_comma (chosen xs)
said_behind [] = refl
said_behind ((true, w) ∷ xs) = ap (λ t. after_comma w ++ t) (said_behind xs)
said_behind ((false, w) ∷ xs) = said_behind xs

any_behind : (xs : List (Bool × List ℕ)) → any_said true xs ≡ true
any_behind [] = refl
any_behind (x ∷ xs) = any_behind xs

some_said : (xs : List (Bool × List ℕ)) → any_said false xs ≡ true → said false xs ≡ words_text (chosen xs)
some_said [] e = cc
some_said ((true, w) ∷ xs) e = ap (λ t. w ++ t) (said_behind xs)
some_said ((false, w) ∷ xs) e = some_said xs e

none_said : (xs : List (Bool × List ℕ)) → any_said false xs ≡ false → (said false xs ≡ []) × (words_text (chosen xs) ≡ codes "-")
none_said [] e = (refl, refl)
none_said ((true, w) ∷ xs) e = let bad : true ≡ false = sym (any_behind xs) ∙ e in absurd (cc)
none_said ((false, w) ∷ xs) e = none_said xs e

module _ (words : List (Bool × Bor (List ℕ))) (i : ℕ) (text initial : List ℕ) (some : Bool) where
  abbrev pub IsSaid : Type 0
  IsSaid = text ++ said some (views (drop i words)) ≡ initial ++ said false (views words)

  abbrev pub IsSome : Type 0
  IsSome = any_said some (views (drop i words)) ≡ any_said false (views words)

  all_said : length words ≤ i → IsSaid → text ≡ initial ++ said false (views words)
  all_said le e = sym (ap (λ ws. text ++ said some (views ws)) (drop_all i words le) ∙ append-nil text) ∙ e

  all_some : length words ≤ i → IsSome → some ≡ any_said false (views words)
  all_some le e = sym (ap (λ ws. any_said some (views ws)) (drop_all i words le)) ∙ e

  -- where some word is chosen
  pub ends_some : length words ≤ i → IsSaid → IsSome → some ≡ true → text ≡ initial ++ words_text (chosen (views words))
  ends_some le e f is = all_said le e ∙ ap (λ t. initial ++ t) (some_said (views words) (sym (all_some le f) ∙ is))

  -- where none is
  pub ends_none : (now : List ℕ) → length words ≤ i → IsSaid → IsSome → some ≡ false → now ≡ text ++ codes "-" → now ≡ initial ++ words_text (chosen (views words))
  ends_none now le e f is dash =
      let none = none_said (views words) (sym (all_some le f) ∙ is) in
      let bare : text ≡ initial = all_said le e ∙ ap (λ t. initial ++ t) none.0 ∙ append-nil initial in
      dash ∙ (λ j. bare j ++ sym none.1 j)

  module _ (word : Bool × Bor (List ℕ)) (lt : i < length words) (is : word ≡ get_or words i word) where
    next : views (drop i words) ≡ (word.0, word.1.now) ∷ views (drop (i + 1) words)
    next = grind (arith, common_steps)

    pub more_said : (now : List ℕ) → now ≡ text ++ one_said some word.0 word.1.now → IsSaid
        → now ++ said (some || word.0) (views (drop (i + 1) words)) ≡ initial ++ said false (views words)
    more_said now added e =
        ap (λ t. t ++ said (some || word.0) (views (drop (i + 1) words))) added
        ∙ append_assoc text (one_said some word.0 word.1.now) (said (some || word.0) (views (drop (i + 1) words)))
        ∙ sym (ap (λ ws. text ++ said some ws) next) ∙ e

    pub more_some : IsSome → any_said (some || word.0) (views (drop (i + 1) words)) ≡ any_said false (views words)
    more_some e = sym (ap (any_said some) next) ∙ e
