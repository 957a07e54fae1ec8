-- The pieces of a report have neither a space nor a newline.
use Rattle.std.proofs.Common.{◌≡◌, ℕ, ◌-◌, ◌^◌, ◌<◌, true, nat_le, List, ◌∷◌, ◌++◌, refl, arith, decimal}
use Rattle.std.specs.Prelude.{not, ◌==◌}
use Rattle.std.specs.List.{list_all}
use Rattle.std.proofs.lemmas.Bool.{leb-true, and_parts}
use Rattle.script_names.specs.declared.mark.Mark.{Mark}
use Rattle.script_names.specs.declared.mark.Site.{Site}
use Rattle.script_names.specs.declared.reason.Reason.{Reason}
use Rattle.script_names.specs.declared.reason.Reason.TheVariants as reason
use Rattle.shown_texts.specs.Marks.{site_text, mark_text, is_site, is_mark, reason_name}
use Rattle.script_names.specs.ShellNames.{is_digit}
use Rattle.shown_texts.specs.Parts.{lacks}
use Rattle.shown_texts.specs.Show.{is_shown}
use Rattle.shown_texts.proofs.Lists.{all_weaker, all_both}
use Rattle.shown_texts.proofs.Numerals.{decimal_digits}

-- ---- bytes of a spelling

digit_shown : (b : ℕ) → is_digit b ≡ true → is_shown b ≡ true
digit_shown b h = grind arith

shown_no_space : (b : ℕ) → is_shown b ≡ true → not (b == 32) ≡ true
shown_no_space b h = grind arith

shown_no_newline : (b : ℕ) → is_shown b ≡ true → not (b == 10) ≡ true
shown_no_newline b h = grind arith

pub no_space : (text : List ℕ) → list_all is_shown text ≡ true → lacks 32 text ≡ true
no_space text h = all_weaker is_shown (λ b. not (b == 32)) shown_no_space text h

pub no_newline : (text : List ℕ) → list_all is_shown text ≡ true → lacks 10 text ≡ true
no_newline text h = all_weaker is_shown (λ b. not (b == 10)) shown_no_newline text h

pub number_shown : (n : ℕ) → n < 2 ^ 64 → list_all is_shown (decimal n) ≡ true
number_shown n small = all_weaker is_digit is_shown digit_shown (decimal n) (decimal_digits n small)

fitting_shown : (most n : ℕ) → most < 2 ^ 64 → nat_le n most ≡ true → list_all is_shown (decimal n) ≡ true
fitting_shown most n fits h = number_shown n (omega (arith, fits, leb-true n most h))

pub site_shown : (site : Site) → is_site site ≡ true → list_all is_shown (site_text site) ≡ true
site_shown site h =
    let k = and_parts (nat_le site.step (2 ^ 16 - 1)) (nat_le site.at (2 ^ 32 - 1)) h in
    let first = fitting_shown (2 ^ 16 - 1) site.step (omega arith) k.0 in
    let second = fitting_shown (2 ^ 32 - 1) site.at (omega arith) k.1 in
    all_both is_shown (decimal site.step) (58 ∷ decimal site.at) first second

pub mark_shown : (mark : Mark) → is_mark mark ≡ true → list_all is_shown (mark_text mark) ≡ true
mark_shown mark h =
    let m = and_parts (is_site mark.site) (nat_le mark.row 255) h in
    let k = and_parts (nat_le mark.site.step (2 ^ 16 - 1)) (nat_le mark.site.at (2 ^ 32 - 1)) m.0 in
    let first = fitting_shown (2 ^ 16 - 1) mark.site.step (omega arith) k.0 in
    let second = fitting_shown (2 ^ 32 - 1) mark.site.at (omega arith) k.1 in
    let third = fitting_shown 255 mark.row (omega arith) m.1 in
    all_both is_shown (decimal mark.site.step) (58 ∷ (decimal mark.site.at ++ 58 ∷ decimal mark.row)) first
    (all_both is_shown (decimal mark.site.at) (58 ∷ decimal mark.row) second third)

pub reason_shown : (r : Reason) → list_all is_shown (reason_name r) ≡ true
reason_shown reason.Call = refl
reason_shown reason.Echo = refl
reason_shown reason.Link = refl
reason_shown reason.Slash = refl
reason_shown reason.Root = refl
reason_shown reason.Empty = refl
reason_shown reason.DotDot = refl
reason_shown reason.Dot = refl
reason_shown reason.Long = refl
reason_shown reason.Glob = refl
reason_shown reason.Pattern = refl
reason_shown reason.Pipe = refl
reason_shown reason.Message = refl
reason_shown reason.Strict = refl
reason_shown reason.Status = refl
reason_shown reason.Run = refl
reason_shown reason.Same = refl
reason_shown reason.Conffile = refl
reason_shown reason.Restore = refl
