-- The fronts of a list of tokens.
use Rattle.std.proofs.Common.{◌≡◌, [], ◌∷◌, ◌++◌, ◌⊎◌, inl, inr, refl, sym, ap, ◌∙◌, arith, length, length-append}
use Rattle.shell_lexer.specs.declared.token.Token.{Token}
use Rattle.shell_grammar.specs.Look.{Tokens}

pub tails : {t t2 : Token} {u u2 : Tokens} → t ∷ u ≡ t2 ∷ u2 → (t ≡ t2) × (u ≡ u2)
tails e = (cc, cc)

-- no end of a list is longer than it
pub too_long : (t : Token) (r w : Tokens) → r ≡ w ++ t ∷ r → ⊥
too_long t r w e = let h = ap length e ∙ length-append w (t ∷ r) in omega (arith, h)

pub same_front : (u w r : Tokens) → u ++ r ≡ w ++ r → u ≡ w
same_front [] [] r e = refl
same_front [] (t ∷ w) r e = absurd (let h = ap length e ∙ length-append (t ∷ w) r in omega (arith, h))
same_front (t ∷ u) [] r e = absurd (let h = sym (length-append (t ∷ u) r) ∙ ap length e in omega (arith, h))
same_front (t ∷ u) (t2 ∷ w) r e = let h = tails e in ap (λ x. t ∷ x) (same_front u w r h.1) ∙ ap (λ t. t ∷ w) h.0

-- two splits of one list: one front ends inside the other
pub compare : (u w f r : Tokens) → u ++ w ≡ f ++ r → ((w2 : Tokens) × (w ≡ w2 ++ r)) ⊎ ((t : Token) × (u2 : Tokens) × (u ≡ f ++ t ∷ u2) × (r ≡ t ∷ (u2 ++ w)))
compare [] w f r e = inl (f, e)
compare (a ∷ u) w [] r e = inr (a, u, refl, sym e)
compare (a ∷ u) w (b ∷ f) r e =
    let h = tails e in
    elim (compare u w f r h.1) as (λ _. ((w2 : Tokens) × (w ≡ w2 ++ r)) ⊎ ((t : Token) × (u2 : Tokens) × (a ∷ u ≡ b ∷ (f ++ t ∷ u2)) × (r ≡ t ∷ (u2 ++ w)))) [
      | inl x ↦ inl x
      | inr x ↦ inr (x.0, x.1, ap (λ l. a ∷ l) x.2 ∙ ap (λ a. a ∷ (f ++ x.0 ∷ x.1)) h.0, x.3)
    ]

-- a token of two lists one behind the other stands in the first or in the second
pub in_either : (f f1 u : Tokens) (t : Token) (w : Tokens) → f ++ f1 ≡ u ++ t ∷ w → ((w2 : Tokens) × (f ≡ u ++ t ∷ w2)) ⊎ ((u2 : Tokens) × (u ≡ f ++ u2) × (f1 ≡ u2 ++ t ∷ w))
in_either [] f1 u t w e = inr (u, refl, e)
in_either (a ∷ f) f1 [] t w e = inl (f, ap (λ x. x ∷ f) (tails e).0)
in_either (a ∷ f) f1 (b ∷ u) t w e =
    let h = tails e in
    elim (in_either f f1 u t w h.1) as (λ _. ((w2 : Tokens) × (a ∷ f ≡ b ∷ (u ++ t ∷ w2))) ⊎ ((u2 : Tokens) × (b ∷ u ≡ a ∷ (f ++ u2)) × (f1 ≡ u2 ++ t ∷ w))) [
      | inl x ↦ inl (x.0, ap (λ l. a ∷ l) x.1 ∙ ap (λ a. a ∷ (u ++ t ∷ x.0)) h.0)
      | inr x ↦ inr (x.0, ap (λ l. b ∷ l) x.1 ∙ ap (λ a. a ∷ (f ++ x.0)) (sym h.0), x.2)
    ]

-- of two splits of a list at a token, one comes first, or both are the same
pub data Order (u : Tokens) (t : Token) (w u2 : Tokens) (t2 : Token) (w2 : Tokens) : Type 0 where
  same : u ≡ u2 → t ≡ t2 → w ≡ w2 → Order u t w u2 t2 w2
  sooner : (between : Tokens) → u2 ≡ u ++ t ∷ between → Order u t w u2 t2 w2
  later : (between : Tokens) → u ≡ u2 ++ t2 ∷ between → Order u t w u2 t2 w2

order_on : (a b : Token) (u : Tokens) (t : Token) (w u2 : Tokens) (t2 : Token) (w2 : Tokens) → a ≡ b → Order u t w u2 t2 w2 → Order (a ∷ u) t w (b ∷ u2) t2 w2
order_on a b u t w u2 t2 w2 h (same e f g) = same (ap (λ a. a ∷ u) h ∙ ap (λ u. b ∷ u) e) f g
order_on a b u t w u2 t2 w2 h (sooner m e) = sooner m (ap (λ u. b ∷ u) e ∙ ap (λ a. a ∷ (u ++ t ∷ m)) (sym h))
order_on a b u t w u2 t2 w2 h (later m e) = later m (ap (λ u. a ∷ u) e ∙ ap (λ a. a ∷ (u2 ++ t2 ∷ m)) h)

pub order : (u : Tokens) (t : Token) (w u2 : Tokens) (t2 : Token) (w2 : Tokens) → u ++ t ∷ w ≡ u2 ++ t2 ∷ w2 → Order u t w u2 t2 w2
order [] t w [] t2 w2 e = same refl (tails e).0 (tails e).1
order [] t w (b ∷ u2) t2 w2 e = sooner u2 (ap (λ t. t ∷ u2) (sym (tails e).0))
order (a ∷ u) t w [] t2 w2 e = later u (ap (λ t. t ∷ u) (tails e).0)
order (a ∷ u) t w (b ∷ u2) t2 w2 e = order_on a b u t w u2 t2 w2 (tails e).0 (order u t w u2 t2 w2 (tails e).1)
