-- Single quotes.
use Rattle.std.proofs.Common.{◌≡◌, ℕ, suc, ◌+◌, ◌-◌, ◌<◌, ◌≤◌, false, nat_eq, [], ◌∷◌, ◌++◌, append_assoc, sym, ap, ◌∙◌, arith, drop, take, length, get_or, length-drop, get_or-drop}
use Rattle.std.proofs.lemmas.Grind.{common_steps}
use Rattle.std.proofs.Math.Seq.{take-suc}
use Rattle.shell_lexer.specs.Text.{Bytes}
use Rattle.shell_lexer.specs.Parts.{has_quote, quote_body, behind_quote}
use Rattle.shell_lexer.proofs.Fronts.{front}

-- no quote stands between the place after the open one and this place
pub record QuoteSoFar (s : Bytes) (at p : ℕ) : Type 0 where
  pub on : at ≤ p
  pub within : p ≤ length s
  pub has : has_quote (drop at s) ≡ has_quote (drop p s)
  pub body : quote_body (drop at s) ≡ take (p - at) (drop at s) ++ quote_body (drop p s)
  pub behind : behind_quote (drop at s) ≡ behind_quote (drop p s)

not_39 : (b : ℕ) → (b ≡ 39 → ⊥) → nat_eq b 39 ≡ false
not_39 b h = grind (arith, common_steps)

has_step : (b : ℕ) (t : Bytes) → nat_eq b 39 ≡ false → has_quote (b ∷ t) ≡ has_quote t
has_step b t e = rw e

body_step : (b : ℕ) (t : Bytes) → nat_eq b 39 ≡ false → quote_body (b ∷ t) ≡ b ∷ quote_body t
body_step b t e = rw e

behind_step : (b : ℕ) (t : Bytes) → nat_eq b 39 ≡ false → behind_quote (b ∷ t) ≡ behind_quote t
behind_step b t e = rw e

taken : (s : Bytes) (at p : ℕ) → at ≤ p → p < length s → take (p + 1 - at) (drop at s) ≡ take (p - at) (drop at s) ++ get_or s p 0 ∷ []
taken s at p le lt =
    let n : p + 1 - at ≡ suc (p - at) = omega arith in
    let k : at + (p - at) ≡ p = omega arith in
    let short : p - at < length (drop at s) = simp length-drop (omega arith) in
    ap (λ n. take n (drop at s)) n ∙ take-suc (drop at s) (p - at) 0 short ∙ ap (λ b. take (p - at) (drop at s) ++ b ∷ []) (get_or-drop at s (p - at) 0 ∙ ap (λ k. get_or s k 0) k)

-- one byte more that is no quote
pub quote_goes_on : (s : Bytes) (at p : ℕ) → p < length s → (get_or s p 0 ≡ 39 → ⊥) → QuoteSoFar s at p → QuoteSoFar s at (p + 1)
quote_goes_on s at p lt h q =
    let e : nat_eq (get_or s p 0) 39 ≡ false = not_39 (get_or s p 0) h in
    let f : drop p s ≡ get_or s p 0 ∷ drop (p + 1) s = front s p lt in
    let on : at ≤ p = q.on in
    let more : Bytes = quote_body (drop (p + 1) s) in
    record {
      on = omega arith;
      within = omega arith;
      has = q.has ∙ ap has_quote f ∙ has_step (get_or s p 0) (drop (p + 1) s) e;
      body = q.body ∙ ap (λ t. take (p - at) (drop at s) ++ t) (ap quote_body f ∙ body_step (get_or s p 0) (drop (p + 1) s) e) ∙ sym (append_assoc (take (p - at) (drop at s)) (get_or s p 0 ∷ []) more) ∙ sym (ap (λ t. t ++ more) (taken s at p on lt));
      behind = q.behind ∙ ap behind_quote f ∙ behind_step (get_or s p 0) (drop (p + 1) s) e;
    }
