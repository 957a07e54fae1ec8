-- Sites, marks and reasons are read back.
use Rattle.std.proofs.Common.{◌≡◌, ℕ, ◌^◌, ◌<◌, Bool, true, false, nat_le, List, [], ◌∷◌, Option, Some, None, refl, sym, ap, ◌∙◌, arith, decimal}
use Rattle.std.specs.Prelude.{if◌then◌else◌}
use Rattle.std.specs.List.{join_with_byte}
use Rattle.std.specs.Option.{option_map, option_and_then}
use Rattle.std.specs.Str.{bytes_eq}
use Rattle.std.proofs.lemmas.Bool.{leb-true, and_parts, and_from}
use Rattle.std.proofs.lemmas.List.Splits.{join_with_byte-slice_split}
use Rattle.std.proofs.lemmas.Slice.Eq.{bytes_eq-Decides}
use Rattle.script_names.specs.declared.mark.Mark.{Mark}
use Rattle.script_names.specs.declared.mark.Site.{Site}
use Rattle.script_names.specs.declared.reason.Reason.{Reason}
use Rattle.script_names.specs.declared.reason.Reason.TheVariants as reason
use Rattle.shown_texts.specs.Parts.{parts, lacks}
use Rattle.shown_texts.specs.Numbers.{u8_max, u16_max, u32_max, number_of}
use Rattle.shown_texts.specs.Marks.{site_text, mark_text, site_from, site_of_parts, site_of, mark_from, mark_of_parts, mark_of, is_site, is_mark, reason_name, reason_among, all_reasons, reason_of}
use Rattle.shown_texts.proofs.Cuts.{joined_cut}
use Rattle.shown_texts.proofs.Numerals.{number_read, number_spelled, decimal_lacks}
use Rattle.shown_texts.proofs.LineTexts.{some_same}

-- a number that fits has no colon
fitting_lacks : (most n : ℕ) → most < 2 ^ 64 → nat_le n most ≡ true → lacks 58 (decimal n) ≡ true
fitting_lacks most n fits h = decimal_lacks n (omega (arith, fits, leb-true n most h))

-- ---- sites

site_from_read : (site : Site) → is_site site ≡ true → site_from (decimal site.step) (decimal site.at) ≡ Some site
site_from_read site h =
    let k = and_parts (nat_le site.step u16_max) (nat_le site.at u32_max) h in
    ap (option_and_then (λ (s : ℕ). option_map (λ (a : ℕ). let made : Site = record { step = s; at = a } in made) (number_of u32_max (decimal site.at))))
    (number_read u16_max site.step (omega arith) k.0)
    ∙ ap (option_map (λ (a : ℕ). let made : Site = record { step = site.step; at = a } in made)) (number_read u32_max site.at (omega arith) k.1)

pub site_read : (site : Site) → is_site site ≡ true → site_of (site_text site) ≡ Some site
site_read site h =
    let k = and_parts (nat_le site.step u16_max) (nat_le site.at u32_max) h in
    let first = fitting_lacks u16_max site.step (omega arith) k.0 in
    let second = fitting_lacks u32_max site.at (omega arith) k.1 in
    ap site_of_parts (joined_cut 58 (decimal site.step) (decimal site.at ∷ []) (and_from (lacks 58 (decimal site.step)) _ first (and_from (lacks 58 (decimal site.at)) true second refl)))
    ∙ site_from_read site h

site_from_spelled : (a b : List ℕ) (site : Site) → site_from a b ≡ Some site → (decimal site.step ≡ a) × (decimal site.at ≡ b)
site_from_spelled a b site e = cases (number_of u16_max a) (number_of u32_max b) refl refl e
  where
    cases : (o p : Option ℕ) → number_of u16_max a ≡ o → number_of u32_max b ≡ p
        → option_and_then (λ (s : ℕ). option_map (λ (x : ℕ). let made : Site = record { step = s; at = x } in made) p) o ≡ Some site
        → (decimal site.step ≡ a) × (decimal site.at ≡ b)
    cases None p m n e = cc
    cases (Some s) None m n e = cc
    cases (Some s) (Some x) m n e =
        let same = some_same {X = Site} (record { step = s; at = x }) site e in (
          ap (λ (y : Site). decimal y.step) (sym same) ∙ number_spelled u16_max a s (omega arith) m,
          ap (λ (y : Site). decimal y.at) (sym same) ∙ number_spelled u32_max b x (omega arith) n,
        )

parts_site : (ps : List (List ℕ)) (site : Site) → site_of_parts ps ≡ Some site → site_text site ≡ join_with_byte 58 ps
parts_site [] site e = cc
parts_site (a ∷ []) site e = cc
parts_site (a ∷ b ∷ []) site e = let k = site_from_spelled a b site e in λ i. join_with_byte 58 (k.0 i ∷ k.1 i ∷ [])
parts_site (a ∷ b ∷ c ∷ ps) site e = cc

pub site_spelled : (text : List ℕ) (site : Site) → site_of text ≡ Some site → site_text site ≡ text
site_spelled text site e = parts_site (parts 58 text) site e ∙ join_with_byte-slice_split 58 text

-- ---- marks

mark_from_read : (mark : Mark) → is_mark mark ≡ true → mark_from (decimal mark.site.step) (decimal mark.site.at) (decimal mark.row) ≡ Some mark
mark_from_read mark h =
    let k = and_parts (is_site mark.site) (nat_le mark.row u8_max) h in
    ap (option_and_then (λ (s : Site). option_map (λ (r : ℕ). let made : Mark = record { site = s; row = r } in made) (number_of u8_max (decimal mark.row))))
    (site_from_read mark.site k.0)
    ∙ ap (option_map (λ (r : ℕ). let made : Mark = record { site = mark.site; row = r } in made)) (number_read u8_max mark.row (omega arith) k.1)

pub mark_read : (mark : Mark) → is_mark mark ≡ true → mark_of (mark_text mark) ≡ Some mark
mark_read mark h =
    let k = and_parts (is_site mark.site) (nat_le mark.row u8_max) h in
    let m = and_parts (nat_le mark.site.step u16_max) (nat_le mark.site.at u32_max) k.0 in
    let first = fitting_lacks u16_max mark.site.step (omega arith) m.0 in
    let second = fitting_lacks u32_max mark.site.at (omega arith) m.1 in
    let third = fitting_lacks u8_max mark.row (omega arith) k.1 in
    ap mark_of_parts
    (joined_cut 58 (decimal mark.site.step) (decimal mark.site.at ∷ decimal mark.row ∷ [])
    (and_from (lacks 58 (decimal mark.site.step)) _ first
    (and_from (lacks 58 (decimal mark.site.at)) _ second (and_from (lacks 58 (decimal mark.row)) true third refl))))
    ∙ mark_from_read mark h

mark_from_spelled : (a b c : List ℕ) (mark : Mark) → mark_from a b c ≡ Some mark
    → (decimal mark.site.step ≡ a) × (decimal mark.site.at ≡ b) × (decimal mark.row ≡ c)
mark_from_spelled a b c mark e = cases (site_from a b) (number_of u8_max c) refl refl e
  where
    cases : (o : Option Site) (p : Option ℕ) → site_from a b ≡ o → number_of u8_max c ≡ p
        → option_and_then (λ (s : Site). option_map (λ (r : ℕ). let made : Mark = record { site = s; row = r } in made) p) o ≡ Some mark
        → (decimal mark.site.step ≡ a) × (decimal mark.site.at ≡ b) × (decimal mark.row ≡ c)
    cases None p m n e = cc
    cases (Some s) None m n e = cc
    cases (Some s) (Some r) m n e =
        let same = some_same {X = Mark} (record { site = s; row = r }) mark e in
        let both = site_from_spelled a b s m in (
          ap (λ (y : Mark). decimal y.site.step) (sym same) ∙ both.0,
          ap (λ (y : Mark). decimal y.site.at) (sym same) ∙ both.1,
          ap (λ (y : Mark). decimal y.row) (sym same) ∙ number_spelled u8_max c r (omega arith) n,
        )

parts_mark : (ps : List (List ℕ)) (mark : Mark) → mark_of_parts ps ≡ Some mark → mark_text mark ≡ join_with_byte 58 ps
parts_mark [] mark e = cc
parts_mark (a ∷ []) mark e = cc
parts_mark (a ∷ b ∷ []) mark e = cc
parts_mark (a ∷ b ∷ c ∷ []) mark e = let k = mark_from_spelled a b c mark e in λ i. join_with_byte 58 (k.0 i ∷ k.1 i ∷ k.2 i ∷ [])
parts_mark (a ∷ b ∷ c ∷ d ∷ ps) mark e = cc

pub mark_spelled : (text : List ℕ) (mark : Mark) → mark_of text ≡ Some mark → mark_text mark ≡ text
mark_spelled text mark e = parts_mark (parts 58 text) mark e ∙ join_with_byte-slice_split 58 text

-- ---- reasons

pub reason_read : (r : Reason) → reason_of (reason_name r) ≡ Some r
reason_read reason.Call = refl
reason_read reason.Echo = refl
reason_read reason.Link = refl
reason_read reason.Slash = refl
reason_read reason.Root = refl
reason_read reason.Empty = refl
reason_read reason.DotDot = refl
reason_read reason.Dot = refl
reason_read reason.Long = refl
reason_read reason.Glob = refl
reason_read reason.Pattern = refl
reason_read reason.Pipe = refl
reason_read reason.Message = refl
reason_read reason.Strict = refl
reason_read reason.Status = refl
reason_read reason.Run = refl
reason_read reason.Same = refl
reason_read reason.Conffile = refl
reason_read reason.Restore = refl

first_named : (x r : Reason) (rs : List Reason) (text : List ℕ) → (reason_among rs text ≡ Some r → reason_name r ≡ text)
    → reason_among (x ∷ rs) text ≡ Some r → reason_name r ≡ text
first_named x r rs text rest e = step (bytes_eq (reason_name x) text) refl e
  where
    step : (t : Bool) → bytes_eq (reason_name x) text ≡ t → (if t then Some x else reason_among rs text) ≡ Some r → reason_name r ≡ text
    step true d e = ap reason_name (sym (some_same x r e)) ∙ (bytes_eq-Decides (reason_name x) text).0 d
    step false d e = rest e

among_named : (rs : List Reason) (text : List ℕ) (r : Reason) → reason_among rs text ≡ Some r → reason_name r ≡ text
among_named [] text r e = cc
among_named (x ∷ rs) text r e = first_named x r rs text (λ d. among_named rs text r d) e

pub reason_spelled : (text : List ℕ) (r : Reason) → reason_of text ≡ Some r → reason_name r ≡ text
reason_spelled text r e = among_named all_reasons text r e
