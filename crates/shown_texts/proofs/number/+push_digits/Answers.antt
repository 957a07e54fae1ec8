use Rattle.std.proofs.Common.{◌≡◌, ℕ, ◌+◌, ◌/◌, ◌%◌, ◌^◌, ◌<◌, ◌≤◌, List, [], ◌∷◌, ◌++◌, sym, ap, ◌∙◌, append_assoc, decimal}
use Rattle.std.specs.Prelude.{Result, Ok, Err, OnOk}
use Rattle.std.proofs.lemmas.Fmt.{decimal_step}
use Rattle.shown_texts.proofs.number.+push_digits.Goals as goal

one_more : (text now new : List ℕ) (n : ℕ) → 10 ≤ n → n < 2 ^ 64 → now ≡ text ++ decimal (n / 10) → new ≡ now ++ (48 + n % 10) ∷ [] → new ≡ text ++ decimal n
one_more text now new n lo hi first last =
    last ∙ ap (λ l. l ++ (48 + n % 10) ∷ []) first ∙ append_assoc text (decimal (n / 10)) ((48 + n % 10) ∷ [])
    ∙ ap (λ l. text ++ l) (sym (decimal_step n lo hi))

-- where it is answered at all
if_ok : {T E : Type 0} {P Q : Type 0} (r : Result T E) → (P → Q) → OnOk r P → OnOk r Q
if_ok (Ok x) f h = f h
if_ok (Err e) f h = tt

pub returns-clause-ok : goal.returns-clause-ok
returns-clause-ok t c =
    if_ok c.push-2.result
    (one_more c.args.text.now c.push_digits.new.text c.push-2.new.self c.args.number c.if-number-lt10.false c.ranges.number.fits c.in_ok-push_digits.ensures.ok)
    c.push-2.ensures.ok
