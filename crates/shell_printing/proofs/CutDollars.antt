-- What is seen behind a `$` in a word or in double quotes: the `$` itself, or no byte.
use Rattle.std.proofs.Common.{◌≡◌, ℕ, ◌-◌, Bool, true, false, if◌then◌else◌, nat_eq, [], ◌∷◌, Option, Some, None, refl}
use Rattle.shell_syntax.specs.declared.key.Key.{Key}
use Rattle.shell_syntax.specs.declared.key.Key.TheVariants.{Named, Arg, Count}
use Rattle.shell_lexer.specs.Parts.{Look, Ends, Byte, dollar, dollar_by, before_quote, braced, braced_by, behind_key, behind_colon, closed, number_key}
use Rattle.script_names.specs.ShellNames.{is_name_byte, is_digit, is_letter}
use Rattle.shell_lexer.specs.Text.{Bytes, is_default_byte, cells, run_of, behind_run, is_blank, is_special, skip, head_is}

pub either : {A : Type 0} (Q : A → Type 0) (b : Bool) {x y : A} → Q x → Q y → Q (if b then x else y)
either Q true h g = h
either Q false h g = g

-- no word ends there, and where a byte is seen it is the `$`, and this text is behind it
abbrev pub IsDollar : Bytes → Look → Type 0
IsDollar rest (Byte b r) = (b ≡ 36) × (r ≡ rest)
IsDollar rest Ends = ⊥
IsDollar rest _ = Unit {0}

module _ (rest : Bytes) where
  in_closed : (quoted : Bool) (at : ℕ) (key : Key) (default : Option Bytes) (t : Bytes) → IsDollar rest (closed quoted at key default t)
  in_closed quoted at key default [] = tt
  in_closed quoted at key default (b ∷ t) = either (IsDollar rest) (nat_eq b 125) tt tt

  in_colon : (quoted : Bool) (at : ℕ) (key : Key) (t : Bytes) → IsDollar rest (behind_colon quoted at key t)
  in_colon quoted at key [] = tt
  in_colon quoted at key (b ∷ t) = either (IsDollar rest) (nat_eq b 45) (in_closed quoted at key (Some (run_of is_default_byte (cells t))) (skip (behind_run is_default_byte t (cells t)))) tt

  in_key : (quoted : Bool) (at : ℕ) (key : Key) (t : Bytes) → IsDollar rest (behind_key quoted at key t)
  in_key quoted at key [] = tt
  in_key quoted at key (b ∷ t) = either (IsDollar rest) (nat_eq b 58) (in_colon quoted at key (skip t)) (in_closed quoted at key None (b ∷ t))

  in_number : (quoted : Bool) (at b : ℕ) (t : Bytes) → IsDollar rest (number_key quoted at b t)
  in_number quoted at b t = either (IsDollar rest) (nat_eq b 48) tt (in_key quoted at (Arg (b - 48)) (skip t))

  pub in_braces : (quoted : Bool) (at : ℕ) (t : Bytes) → IsDollar rest (braced quoted at t)
  in_braces quoted at [] = tt
  in_braces quoted at (b ∷ t) =
      either (λ it. IsDollar rest (braced_by quoted at b it t)) (is_blank b) tt
      (either (λ it. IsDollar rest (braced_by quoted at b it t)) (nat_eq b 10) tt
      (either (λ it. IsDollar rest (braced_by quoted at b it t)) (nat_eq b 59) tt
      (either (λ it. IsDollar rest (braced_by quoted at b it t)) (nat_eq b 38) tt
      (either (λ it. IsDollar rest (braced_by quoted at b it t)) (nat_eq b 124) tt
      (either (λ it. IsDollar rest (braced_by quoted at b it t)) (nat_eq b 40) tt
      (either (λ it. IsDollar rest (braced_by quoted at b it t)) (nat_eq b 41) tt
      (either (λ it. IsDollar rest (braced_by quoted at b it t)) (nat_eq b 60) tt
      (either (λ it. IsDollar rest (braced_by quoted at b it t)) (nat_eq b 62) tt
      (either (λ it. IsDollar rest (braced_by quoted at b it t)) (nat_eq b 35) (in_closed quoted at Count None (skip t))
      (either (λ it. IsDollar rest (braced_by quoted at b it t)) (nat_eq b 39) tt
      (either (λ it. IsDollar rest (braced_by quoted at b it t)) (nat_eq b 34) tt
      (either (λ it. IsDollar rest (braced_by quoted at b it t)) (nat_eq b 92) tt
      (either (λ it. IsDollar rest (braced_by quoted at b it t)) (nat_eq b 96) tt
      (either (λ it. IsDollar rest (braced_by quoted at b it t)) (nat_eq b 36) tt
      (either (λ it. IsDollar rest (braced_by quoted at b it t)) (nat_eq b 123) tt
      (either (λ it. IsDollar rest (braced_by quoted at b it t)) (nat_eq b 64) tt
      (either (λ it. IsDollar rest (braced_by quoted at b it t)) (is_special b) tt
      (either (λ it. IsDollar rest (braced_by quoted at b it t)) (is_digit b) (in_number quoted at b t)
      (either (λ it. IsDollar rest (braced_by quoted at b it t)) (is_letter b) (in_key quoted at (Named (run_of is_name_byte (cells (b ∷ t)))) (skip (behind_run is_name_byte (b ∷ t) (cells (b ∷ t))))) tt)))))))))))))))))))

  at_quote : (quoted : Bool) (at : ℕ) → IsDollar rest (before_quote quoted at rest)
  at_quote false at = tt
  at_quote true at = (refl, refl)

  pub dollar_seen : (quoted : Bool) (at : ℕ) (t : Bytes) → IsDollar rest (dollar quoted at rest t)
  dollar_seen quoted at [] = (refl, refl)
  dollar_seen quoted at (b ∷ t) =
      either (λ it. IsDollar rest (dollar_by quoted at rest b it t)) (is_blank b) (refl, refl)
      (either (λ it. IsDollar rest (dollar_by quoted at rest b it t)) (nat_eq b 10) (refl, refl)
      (either (λ it. IsDollar rest (dollar_by quoted at rest b it t)) (nat_eq b 59) (refl, refl)
      (either (λ it. IsDollar rest (dollar_by quoted at rest b it t)) (nat_eq b 38) (refl, refl)
      (either (λ it. IsDollar rest (dollar_by quoted at rest b it t)) (nat_eq b 124) (refl, refl)
      (either (λ it. IsDollar rest (dollar_by quoted at rest b it t)) (nat_eq b 40) (either (IsDollar rest) (head_is 40 (skip t)) tt tt)
      (either (λ it. IsDollar rest (dollar_by quoted at rest b it t)) (nat_eq b 41) (refl, refl)
      (either (λ it. IsDollar rest (dollar_by quoted at rest b it t)) (nat_eq b 60) (refl, refl)
      (either (λ it. IsDollar rest (dollar_by quoted at rest b it t)) (nat_eq b 62) (refl, refl)
      (either (λ it. IsDollar rest (dollar_by quoted at rest b it t)) (nat_eq b 35) tt
      (either (λ it. IsDollar rest (dollar_by quoted at rest b it t)) (nat_eq b 39) (at_quote quoted at)
      (either (λ it. IsDollar rest (dollar_by quoted at rest b it t)) (nat_eq b 34) (at_quote quoted at)
      (either (λ it. IsDollar rest (dollar_by quoted at rest b it t)) (nat_eq b 92) (refl, refl)
      (either (λ it. IsDollar rest (dollar_by quoted at rest b it t)) (nat_eq b 96) (refl, refl)
      (either (λ it. IsDollar rest (dollar_by quoted at rest b it t)) (nat_eq b 36) tt
      (either (λ it. IsDollar rest (dollar_by quoted at rest b it t)) (nat_eq b 123) (in_braces quoted at (skip t))
      (either (λ it. IsDollar rest (dollar_by quoted at rest b it t)) (nat_eq b 64) tt
      (either (λ it. IsDollar rest (dollar_by quoted at rest b it t)) (is_special b) tt
      (either (λ it. IsDollar rest (dollar_by quoted at rest b it t)) (is_digit b) (either (IsDollar rest) (nat_eq b 48) tt tt)
      (either (λ it. IsDollar rest (dollar_by quoted at rest b it t)) (is_letter b) tt (refl, refl))))))))))))))))))))
