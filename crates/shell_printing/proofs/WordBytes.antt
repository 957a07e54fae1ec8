-- Plain bytes: what is seen of one in a text is seen of it where it is printed.
use Rattle.std.proofs.Common.{◌≡◌, ℕ, Bool, true, false, if◌then◌else◌, ◌&&◌, nat_eq, [], ◌∷◌, ◌⊎◌, inl, inr, refl, sym, ap, ◌∙◌, subst, arith}
use Rattle.std.proofs.lemmas.Grind.{common_steps}
use Rattle.shell_lexer.specs.Operators.{Word, numbered, numbered_by}
use Rattle.shell_lexer.specs.Parts.{Look, Byte, look, look_at, look_by, dollar, dollar_by, braced, escaped, has_quote}
use Rattle.script_names.specs.ShellNames.{is_digit, is_letter}
use Rattle.shell_lexer.specs.Text.{Bytes, kind, is_blank, is_special, skip, place, head_is, cells, behind_run}
use Rattle.shell_printing.proofs.CutDollars.{either, IsDollar, in_braces}
use Rattle.shell_printing.proofs.Ends.{if_case as tested}

pub eq_of : (a b : ℕ) → nat_eq a b ≡ true → a ≡ b
eq_of a b e = grind (arith, common_steps)

pub neither : {A : Type 0} (b : Bool) {x y l : A} → (x ≡ l → ⊥) → (y ≡ l → ⊥) → (if b then x else y) ≡ l → ⊥
neither true h g e = h e
neither false h g e = g e

same_byte : {b c : ℕ} {t u : Bytes} → ◌≡◌ {A = Look} (Byte b t) (Byte c u) → (c ≡ b) × (u ≡ t)
same_byte e = (cc, cc)

-- ---- what may stand behind a plain `$`

-- before this byte a `$` stands for itself
abbrev pub Follow : ℕ → Type 0
Follow x = (at : ℕ) (rest more : Bytes) → dollar_by false at rest x (kind x) more ≡ Byte 36 rest

abbrev pub After : Bytes → Type 0
After [] = Unit {0}
After (x ∷ t) = Follow x

dollar_after : (at : ℕ) (rest t : Bytes) → After t → dollar false at rest t ≡ Byte 36 rest
dollar_after at rest [] f = refl
dollar_after at rest (x ∷ t) f = f at rest t

no_braces : (at : ℕ) (t : Bytes) {b : ℕ} {rest : Bytes} → braced false at t ≡ Byte b rest → ⊥
no_braces at t {b} {rest} h =
    let one : rest ≡ [] = (subst (IsDollar []) h (in_braces [] false at t)).1 in
    let other : rest ≡ 0 ∷ [] = (subst (IsDollar (0 ∷ [])) h (in_braces (0 ∷ []) false at t)).1 in
    cc (sym one ∙ other)

abbrev SeenDollar : Bytes → Bytes → ℕ → Bytes → Type 0
SeenDollar u t b rest = After t × (b ≡ 36) × (rest ≡ u)

dollar_is : (at : ℕ) (u t : Bytes) (b : ℕ) (rest : Bytes) → dollar false at u t ≡ Byte b rest → SeenDollar u t b rest
dollar_is at u [] b rest h = let s = same_byte h in (tt, s.0, s.1)
dollar_is at u (x ∷ t) b rest h = by h where
  by : dollar_by false at u x (kind x) t ≡ Byte b rest → SeenDollar u (x ∷ t) b rest
  by =
      either (λ it. dollar_by false at u x it t ≡ Byte b rest → ((n : ℕ) (r more : Bytes) → dollar_by false n r x it more ≡ Byte 36 r) × (b ≡ 36) × (rest ≡ u)) (is_blank x) (λ h. let s = same_byte h in (λ n r more. refl, s.0, s.1))
      (either (λ it. dollar_by false at u x it t ≡ Byte b rest → ((n : ℕ) (r more : Bytes) → dollar_by false n r x it more ≡ Byte 36 r) × (b ≡ 36) × (rest ≡ u)) (nat_eq x 10) (λ h. let s = same_byte h in (λ n r more. refl, s.0, s.1))
      (either (λ it. dollar_by false at u x it t ≡ Byte b rest → ((n : ℕ) (r more : Bytes) → dollar_by false n r x it more ≡ Byte 36 r) × (b ≡ 36) × (rest ≡ u)) (nat_eq x 59) (λ h. let s = same_byte h in (λ n r more. refl, s.0, s.1))
      (either (λ it. dollar_by false at u x it t ≡ Byte b rest → ((n : ℕ) (r more : Bytes) → dollar_by false n r x it more ≡ Byte 36 r) × (b ≡ 36) × (rest ≡ u)) (nat_eq x 38) (λ h. let s = same_byte h in (λ n r more. refl, s.0, s.1))
      (either (λ it. dollar_by false at u x it t ≡ Byte b rest → ((n : ℕ) (r more : Bytes) → dollar_by false n r x it more ≡ Byte 36 r) × (b ≡ 36) × (rest ≡ u)) (nat_eq x 124) (λ h. let s = same_byte h in (λ n r more. refl, s.0, s.1))
      (either (λ it. dollar_by false at u x it t ≡ Byte b rest → ((n : ℕ) (r more : Bytes) → dollar_by false n r x it more ≡ Byte 36 r) × (b ≡ 36) × (rest ≡ u)) (nat_eq x 40) (λ h. absurd (neither (head_is 40 (skip t)) (λ e. cc e) (λ e. cc e) h))
      (either (λ it. dollar_by false at u x it t ≡ Byte b rest → ((n : ℕ) (r more : Bytes) → dollar_by false n r x it more ≡ Byte 36 r) × (b ≡ 36) × (rest ≡ u)) (nat_eq x 41) (λ h. let s = same_byte h in (λ n r more. refl, s.0, s.1))
      (either (λ it. dollar_by false at u x it t ≡ Byte b rest → ((n : ℕ) (r more : Bytes) → dollar_by false n r x it more ≡ Byte 36 r) × (b ≡ 36) × (rest ≡ u)) (nat_eq x 60) (λ h. let s = same_byte h in (λ n r more. refl, s.0, s.1))
      (either (λ it. dollar_by false at u x it t ≡ Byte b rest → ((n : ℕ) (r more : Bytes) → dollar_by false n r x it more ≡ Byte 36 r) × (b ≡ 36) × (rest ≡ u)) (nat_eq x 62) (λ h. let s = same_byte h in (λ n r more. refl, s.0, s.1))
      (either (λ it. dollar_by false at u x it t ≡ Byte b rest → ((n : ℕ) (r more : Bytes) → dollar_by false n r x it more ≡ Byte 36 r) × (b ≡ 36) × (rest ≡ u)) (nat_eq x 35) (λ h. absurd (cc h))
      (either (λ it. dollar_by false at u x it t ≡ Byte b rest → ((n : ℕ) (r more : Bytes) → dollar_by false n r x it more ≡ Byte 36 r) × (b ≡ 36) × (rest ≡ u)) (nat_eq x 39) (λ h. absurd (cc h))
      (either (λ it. dollar_by false at u x it t ≡ Byte b rest → ((n : ℕ) (r more : Bytes) → dollar_by false n r x it more ≡ Byte 36 r) × (b ≡ 36) × (rest ≡ u)) (nat_eq x 34) (λ h. absurd (cc h))
      (either (λ it. dollar_by false at u x it t ≡ Byte b rest → ((n : ℕ) (r more : Bytes) → dollar_by false n r x it more ≡ Byte 36 r) × (b ≡ 36) × (rest ≡ u)) (nat_eq x 92) (λ h. let s = same_byte h in (λ n r more. refl, s.0, s.1))
      (either (λ it. dollar_by false at u x it t ≡ Byte b rest → ((n : ℕ) (r more : Bytes) → dollar_by false n r x it more ≡ Byte 36 r) × (b ≡ 36) × (rest ≡ u)) (nat_eq x 96) (λ h. let s = same_byte h in (λ n r more. refl, s.0, s.1))
      (either (λ it. dollar_by false at u x it t ≡ Byte b rest → ((n : ℕ) (r more : Bytes) → dollar_by false n r x it more ≡ Byte 36 r) × (b ≡ 36) × (rest ≡ u)) (nat_eq x 36) (λ h. absurd (cc h))
      (either (λ it. dollar_by false at u x it t ≡ Byte b rest → ((n : ℕ) (r more : Bytes) → dollar_by false n r x it more ≡ Byte 36 r) × (b ≡ 36) × (rest ≡ u)) (nat_eq x 123) (λ h. absurd (no_braces at (skip t) h))
      (either (λ it. dollar_by false at u x it t ≡ Byte b rest → ((n : ℕ) (r more : Bytes) → dollar_by false n r x it more ≡ Byte 36 r) × (b ≡ 36) × (rest ≡ u)) (nat_eq x 64) (λ h. absurd (cc h))
      (either (λ it. dollar_by false at u x it t ≡ Byte b rest → ((n : ℕ) (r more : Bytes) → dollar_by false n r x it more ≡ Byte 36 r) × (b ≡ 36) × (rest ≡ u)) (is_special x) (λ h. absurd (cc h))
      (either (λ it. dollar_by false at u x it t ≡ Byte b rest → ((n : ℕ) (r more : Bytes) → dollar_by false n r x it more ≡ Byte 36 r) × (b ≡ 36) × (rest ≡ u)) (is_digit x) (λ h. absurd (neither (nat_eq x 48) (λ e. cc e) (λ e. cc e) h))
      (either (λ it. dollar_by false at u x it t ≡ Byte b rest → ((n : ℕ) (r more : Bytes) → dollar_by false n r x it more ≡ Byte 36 r) × (b ≡ 36) × (rest ≡ u)) (is_letter x) (λ h. absurd (cc h)) (λ h. let s = same_byte h in (λ n r more. refl, s.0, s.1)))))))))))))))))))))

-- ---- what may stand behind digits

-- behind digits, perhaps none, no redirection begins
abbrev pub Steady : Bytes → Type 0
Steady t = (len : ℕ) (number : Bytes) → numbered len number (skip (behind_run is_digit t (cells t))) ≡ Word

abbrev pub NoAngle : ℕ → Type 0
NoAngle x = (at : ℕ) (number more : Bytes) → numbered_by at number (kind x) more ≡ Word

pub skip_first : (a : ℕ) (t : Bytes) → nat_eq a 92 ≡ false → skip (a ∷ t) ≡ a ∷ t
skip_first a [] e = refl
skip_first a (b ∷ t) e = ap (λ x. if x && nat_eq b 10 then skip t else a ∷ b ∷ t) e

pub cells_first : (a : ℕ) (t : Bytes) → nat_eq a 92 ≡ false → cells (a ∷ t) ≡ (a, t) ∷ cells t
cells_first a [] e = refl
cells_first a (b ∷ t) e = ap (λ x. if x && nat_eq b 10 then cells t else (a, b ∷ t) ∷ cells (b ∷ t)) e

pub steady_first : (a : ℕ) (t : Bytes) → nat_eq a 92 ≡ false → NoAngle a → Steady t → Steady (a ∷ t)
steady_first a t e angle s len number = ap (λ cs. numbered len number (skip (behind_run is_digit (a ∷ t) cs))) (cells_first a t e) ∙ by (is_digit a) where
  by : (digit : Bool) → numbered len number (skip (if digit then behind_run is_digit t (cells t) else a ∷ t)) ≡ Word
  by true = s len number
  by false = ap (numbered len number) (skip_first a t e) ∙ angle (place len (a ∷ t)) number t

-- ---- a plain byte that is seen in a text

escaped_is : (c : ℕ) (u : Bytes) (b : ℕ) (rest : Bytes) → escaped c u ≡ Byte b rest → (b ≡ c) × (rest ≡ [])
escaped_is c [] b rest h = same_byte h
escaped_is c (x ∷ u) b rest h = absurd (cc h)

hash_back : (c : ℕ) → nat_eq c 35 ≡ true → nat_eq c 92 ≡ false
hash_back c e = ap (λ x. nat_eq x 92) (eq_of c 35 e)

seen_by : (at c : ℕ) (u : Bytes) (b : ℕ) (rest : Bytes) → look_by at c (kind c) u ≡ Byte b rest
    → ((b ≡ c) × (nat_eq c 92 ≡ false) × ((n : ℕ) (t : Bytes) → look_by n c (kind c) t ≡ Byte c t) × ((n : ℕ) (number more : Bytes) → numbered_by n number (kind c) more ≡ Word))
    ⊎ (((c ≡ 36) × SeenDollar u (skip u) b rest) ⊎ ((c ≡ 92) × (b ≡ c) × (rest ≡ [])))
seen_by at c u b rest =
    either (λ it. look_by at c it u ≡ Byte b rest → ((b ≡ c) × (nat_eq c 92 ≡ false) × ((n : ℕ) (t : Bytes) → look_by n c it t ≡ Byte c t) × ((n : ℕ) (number more : Bytes) → numbered_by n number it more ≡ Word)) ⊎ (((c ≡ 36) × SeenDollar u (skip u) b rest) ⊎ ((c ≡ 92) × (b ≡ c) × (rest ≡ [])))) (is_blank c) (λ h. absurd (cc h))
    (either (λ it. look_by at c it u ≡ Byte b rest → ((b ≡ c) × (nat_eq c 92 ≡ false) × ((n : ℕ) (t : Bytes) → look_by n c it t ≡ Byte c t) × ((n : ℕ) (number more : Bytes) → numbered_by n number it more ≡ Word)) ⊎ (((c ≡ 36) × SeenDollar u (skip u) b rest) ⊎ ((c ≡ 92) × (b ≡ c) × (rest ≡ [])))) (nat_eq c 10) (λ h. absurd (cc h))
    (either (λ it. look_by at c it u ≡ Byte b rest → ((b ≡ c) × (nat_eq c 92 ≡ false) × ((n : ℕ) (t : Bytes) → look_by n c it t ≡ Byte c t) × ((n : ℕ) (number more : Bytes) → numbered_by n number it more ≡ Word)) ⊎ (((c ≡ 36) × SeenDollar u (skip u) b rest) ⊎ ((c ≡ 92) × (b ≡ c) × (rest ≡ [])))) (nat_eq c 59) (λ h. absurd (cc h))
    (either (λ it. look_by at c it u ≡ Byte b rest → ((b ≡ c) × (nat_eq c 92 ≡ false) × ((n : ℕ) (t : Bytes) → look_by n c it t ≡ Byte c t) × ((n : ℕ) (number more : Bytes) → numbered_by n number it more ≡ Word)) ⊎ (((c ≡ 36) × SeenDollar u (skip u) b rest) ⊎ ((c ≡ 92) × (b ≡ c) × (rest ≡ [])))) (nat_eq c 38) (λ h. absurd (cc h))
    (either (λ it. look_by at c it u ≡ Byte b rest → ((b ≡ c) × (nat_eq c 92 ≡ false) × ((n : ℕ) (t : Bytes) → look_by n c it t ≡ Byte c t) × ((n : ℕ) (number more : Bytes) → numbered_by n number it more ≡ Word)) ⊎ (((c ≡ 36) × SeenDollar u (skip u) b rest) ⊎ ((c ≡ 92) × (b ≡ c) × (rest ≡ [])))) (nat_eq c 124) (λ h. absurd (cc h))
    (either (λ it. look_by at c it u ≡ Byte b rest → ((b ≡ c) × (nat_eq c 92 ≡ false) × ((n : ℕ) (t : Bytes) → look_by n c it t ≡ Byte c t) × ((n : ℕ) (number more : Bytes) → numbered_by n number it more ≡ Word)) ⊎ (((c ≡ 36) × SeenDollar u (skip u) b rest) ⊎ ((c ≡ 92) × (b ≡ c) × (rest ≡ [])))) (nat_eq c 40) (λ h. absurd (cc h))
    (either (λ it. look_by at c it u ≡ Byte b rest → ((b ≡ c) × (nat_eq c 92 ≡ false) × ((n : ℕ) (t : Bytes) → look_by n c it t ≡ Byte c t) × ((n : ℕ) (number more : Bytes) → numbered_by n number it more ≡ Word)) ⊎ (((c ≡ 36) × SeenDollar u (skip u) b rest) ⊎ ((c ≡ 92) × (b ≡ c) × (rest ≡ [])))) (nat_eq c 41) (λ h. absurd (cc h))
    (either (λ it. look_by at c it u ≡ Byte b rest → ((b ≡ c) × (nat_eq c 92 ≡ false) × ((n : ℕ) (t : Bytes) → look_by n c it t ≡ Byte c t) × ((n : ℕ) (number more : Bytes) → numbered_by n number it more ≡ Word)) ⊎ (((c ≡ 36) × SeenDollar u (skip u) b rest) ⊎ ((c ≡ 92) × (b ≡ c) × (rest ≡ [])))) (nat_eq c 60) (λ h. absurd (cc h))
    (either (λ it. look_by at c it u ≡ Byte b rest → ((b ≡ c) × (nat_eq c 92 ≡ false) × ((n : ℕ) (t : Bytes) → look_by n c it t ≡ Byte c t) × ((n : ℕ) (number more : Bytes) → numbered_by n number it more ≡ Word)) ⊎ (((c ≡ 36) × SeenDollar u (skip u) b rest) ⊎ ((c ≡ 92) × (b ≡ c) × (rest ≡ [])))) (nat_eq c 62) (λ h. absurd (cc h))
    (tested (λ it. look_by at c it u ≡ Byte b rest → ((b ≡ c) × (nat_eq c 92 ≡ false) × ((n : ℕ) (t : Bytes) → look_by n c it t ≡ Byte c t) × ((n : ℕ) (number more : Bytes) → numbered_by n number it more ≡ Word)) ⊎ (((c ≡ 36) × SeenDollar u (skip u) b rest) ⊎ ((c ≡ 92) × (b ≡ c) × (rest ≡ [])))) (nat_eq c 35) (λ e h. inl ((same_byte h).0, hash_back c e, λ n t. refl, λ n number more. refl)) (λ no_hash.
    (either (λ it. look_by at c it u ≡ Byte b rest → ((b ≡ c) × (nat_eq c 92 ≡ false) × ((n : ℕ) (t : Bytes) → look_by n c it t ≡ Byte c t) × ((n : ℕ) (number more : Bytes) → numbered_by n number it more ≡ Word)) ⊎ (((c ≡ 36) × SeenDollar u (skip u) b rest) ⊎ ((c ≡ 92) × (b ≡ c) × (rest ≡ [])))) (nat_eq c 39) (λ h. absurd (neither (has_quote u) (λ e. cc e) (λ e. cc e) h))
    (either (λ it. look_by at c it u ≡ Byte b rest → ((b ≡ c) × (nat_eq c 92 ≡ false) × ((n : ℕ) (t : Bytes) → look_by n c it t ≡ Byte c t) × ((n : ℕ) (number more : Bytes) → numbered_by n number it more ≡ Word)) ⊎ (((c ≡ 36) × SeenDollar u (skip u) b rest) ⊎ ((c ≡ 92) × (b ≡ c) × (rest ≡ [])))) (nat_eq c 34) (λ h. absurd (cc h))
    (tested (λ it. look_by at c it u ≡ Byte b rest → ((b ≡ c) × (nat_eq c 92 ≡ false) × ((n : ℕ) (t : Bytes) → look_by n c it t ≡ Byte c t) × ((n : ℕ) (number more : Bytes) → numbered_by n number it more ≡ Word)) ⊎ (((c ≡ 36) × SeenDollar u (skip u) b rest) ⊎ ((c ≡ 92) × (b ≡ c) × (rest ≡ [])))) (nat_eq c 92) (λ e h. let k = escaped_is c u b rest h in inr (inr (eq_of c 92 e, k.0, k.1))) (λ no_back.
    (either (λ it. look_by at c it u ≡ Byte b rest → ((b ≡ c) × (nat_eq c 92 ≡ false) × ((n : ℕ) (t : Bytes) → look_by n c it t ≡ Byte c t) × ((n : ℕ) (number more : Bytes) → numbered_by n number it more ≡ Word)) ⊎ (((c ≡ 36) × SeenDollar u (skip u) b rest) ⊎ ((c ≡ 92) × (b ≡ c) × (rest ≡ [])))) (nat_eq c 96) (λ h. absurd (cc h))
    (tested (λ it. look_by at c it u ≡ Byte b rest → ((b ≡ c) × (nat_eq c 92 ≡ false) × ((n : ℕ) (t : Bytes) → look_by n c it t ≡ Byte c t) × ((n : ℕ) (number more : Bytes) → numbered_by n number it more ≡ Word)) ⊎ (((c ≡ 36) × SeenDollar u (skip u) b rest) ⊎ ((c ≡ 92) × (b ≡ c) × (rest ≡ [])))) (nat_eq c 36) (λ e h. inr (inl (eq_of c 36 e, dollar_is at u (skip u) b rest h))) (λ no_dollar.
    (either (λ it. look_by at c it u ≡ Byte b rest → ((b ≡ c) × (nat_eq c 92 ≡ false) × ((n : ℕ) (t : Bytes) → look_by n c it t ≡ Byte c t) × ((n : ℕ) (number more : Bytes) → numbered_by n number it more ≡ Word)) ⊎ (((c ≡ 36) × SeenDollar u (skip u) b rest) ⊎ ((c ≡ 92) × (b ≡ c) × (rest ≡ [])))) (nat_eq c 123) (λ h. inl ((same_byte h).0, no_back, λ n t. refl, λ n number more. refl))
    (either (λ it. look_by at c it u ≡ Byte b rest → ((b ≡ c) × (nat_eq c 92 ≡ false) × ((n : ℕ) (t : Bytes) → look_by n c it t ≡ Byte c t) × ((n : ℕ) (number more : Bytes) → numbered_by n number it more ≡ Word)) ⊎ (((c ≡ 36) × SeenDollar u (skip u) b rest) ⊎ ((c ≡ 92) × (b ≡ c) × (rest ≡ [])))) (nat_eq c 64) (λ h. inl ((same_byte h).0, no_back, λ n t. refl, λ n number more. refl))
    (either (λ it. look_by at c it u ≡ Byte b rest → ((b ≡ c) × (nat_eq c 92 ≡ false) × ((n : ℕ) (t : Bytes) → look_by n c it t ≡ Byte c t) × ((n : ℕ) (number more : Bytes) → numbered_by n number it more ≡ Word)) ⊎ (((c ≡ 36) × SeenDollar u (skip u) b rest) ⊎ ((c ≡ 92) × (b ≡ c) × (rest ≡ [])))) (is_special c) (λ h. inl ((same_byte h).0, no_back, λ n t. refl, λ n number more. refl))
    (either (λ it. look_by at c it u ≡ Byte b rest → ((b ≡ c) × (nat_eq c 92 ≡ false) × ((n : ℕ) (t : Bytes) → look_by n c it t ≡ Byte c t) × ((n : ℕ) (number more : Bytes) → numbered_by n number it more ≡ Word)) ⊎ (((c ≡ 36) × SeenDollar u (skip u) b rest) ⊎ ((c ≡ 92) × (b ≡ c) × (rest ≡ [])))) (is_digit c) (λ h. inl ((same_byte h).0, no_back, λ n t. refl, λ n number more. refl))
    (either (λ it. look_by at c it u ≡ Byte b rest → ((b ≡ c) × (nat_eq c 92 ≡ false) × ((n : ℕ) (t : Bytes) → look_by n c it t ≡ Byte c t) × ((n : ℕ) (number more : Bytes) → numbered_by n number it more ≡ Word)) ⊎ (((c ≡ 36) × SeenDollar u (skip u) b rest) ⊎ ((c ≡ 92) × (b ≡ c) × (rest ≡ [])))) (is_letter c) (λ h. inl ((same_byte h).0, no_back, λ n t. refl, λ n number more. refl)) (λ h. inl ((same_byte h).0, no_back, λ n t. refl, λ n number more. refl))))))))))))))))))))))))

-- a plain byte before a text is read as itself
pub record Printed (all : ℕ) (text : Bytes) (b : ℕ) (t : Bytes) : Type 0 where
  pub seen : look all (b ∷ t) ≡ Byte b t
  pub follows : After (skip text) → After (skip (b ∷ t))
  pub stays : Steady t → Steady (b ∷ t)
  pub front : skip (b ∷ t) ≡ b ∷ t
  pub head : (u : Bytes) × (skip text ≡ b ∷ u)

last_steady : Steady (92 ∷ [])
last_steady len number = refl

pub printed : (all len : ℕ) (text : Bytes) (b : ℕ) (rest t : Bytes) → look len text ≡ Byte b rest → (After (skip rest) → After (skip t)) → (nat_eq b 92 ≡ true → rest ≡ [] → t ≡ []) → Printed all text b t
printed all len text b rest t h follow ends = by (skip text) refl h where
  by : (s : Bytes) → skip text ≡ s → look_at (place len s) s ≡ Byte b rest → Printed all text b t
  by [] e k = absurd (cc k)
  by (c ∷ u) e k = elim (seen_by (place len (c ∷ u)) c u b rest k) as (λ _. Printed all text b t) [
    | inl p ↦ subst (λ x. Printed all text x t) (sym p.0) (record {
      seen = ap (λ s. look_at (place all s) s) (skip_first c t p.1) ∙ p.2 (place all (c ∷ t)) t;
      follows = λ f. subst After (sym (skip_first c t p.1)) (subst After e f);
      stays = steady_first c t p.1 p.3;
      front = skip_first c t p.1;
      head = (u, e);
    })
    | inr (inl p) ↦ subst (λ x. Printed all text x t) (sym p.1.1) (record {
      seen = ap (λ s. look_at (place all s) s) (skip_first 36 t refl) ∙ dollar_after (place all (36 ∷ t)) t (skip t) (follow (subst (λ r. After (skip r)) (sym p.1.2) p.1.0));
      follows = λ f. subst After (sym (skip_first 36 t refl)) (subst (λ x. Follow x) p.0 (subst After e f));
      stays = steady_first 36 t refl (λ n number more. refl);
      front = skip_first 36 t refl;
      head = (u, e ∙ ap (λ x. x ∷ u) p.0);
    })
    | inr (inr p) ↦
        let is : b ≡ 92 = p.1 ∙ p.0 in
        let none : t ≡ [] = ends (ap (λ x. nat_eq x 92) is) p.2 in
        subst (λ x. Printed all text x t) (sym is) (subst (Printed all text 92) (sym none) (record {
          seen = refl;
          follows = λ f n r more. refl;
          stays = λ f. last_steady;
          front = refl;
          head = (u, e ∙ ap (λ x. x ∷ u) p.0);
        }))
  ]
