-- Sites, marks and reasons in texts.
use Rattle.std.specs.Prelude.{ℕ, Bool, ◌&&◌, nat_le, List, [], ◌∷◌, codes, Option, Some, None, if◌then◌else◌}
use Rattle.std.specs.List.{join_with_byte}
use Rattle.std.specs.Option.{option_map, option_and_then}
use Rattle.std.specs.Str.{bytes_eq}
use Rattle.std.specs.Fmt.{decimal}
use Rattle.script_names.specs.Ascii.{colon}
use Rattle.script_names.specs.declared.mark.Mark.{Mark}
use Rattle.script_names.specs.declared.mark.Site.{Site}
use Rattle.script_names.specs.declared.reason.Reason.{Reason}
use Rattle.script_names.specs.declared.reason.Reason.TheVariants as reason
use Rattle.shown_texts.specs.Parts.{parts}
use Rattle.shown_texts.specs.Numbers.{u8_max, u16_max, u32_max, number_of}

-- a site: its step, a colon, and the place in the step
abbrev pub site_text : Site → List ℕ
site_text site = join_with_byte colon (decimal site.step ∷ decimal site.at ∷ [])

-- a mark: its site, a colon, and its row
abbrev pub mark_text : Mark → List ℕ
mark_text mark = join_with_byte colon (decimal mark.site.step ∷ decimal mark.site.at ∷ decimal mark.row ∷ [])

-- the site of a step and a place that are written so
abbrev pub site_from : List ℕ → List ℕ → Option Site
site_from step at =
    option_and_then (λ step. option_map (λ at. record { step = step; at = at }) (number_of u32_max at))
    (number_of u16_max step)

-- the site of a text that is cut into these parts
abbrev pub site_of_parts : List (List ℕ) → Option Site
site_of_parts [] = None
site_of_parts (step ∷ []) = None
site_of_parts (step ∷ at ∷ []) = site_from step at
site_of_parts (step ∷ at ∷ row ∷ texts) = None

-- the site that is written so
abbrev pub site_of : List ℕ → Option Site
site_of text = site_of_parts (parts colon text)

-- the mark of a step, a place and a row that are written so
abbrev pub mark_from : List ℕ → List ℕ → List ℕ → Option Mark
mark_from step at row =
    option_and_then (λ site. option_map (λ row. record { site = site; row = row }) (number_of u8_max row))
    (site_from step at)

-- the mark of a text that is cut into these parts
abbrev pub mark_of_parts : List (List ℕ) → Option Mark
mark_of_parts [] = None
mark_of_parts (step ∷ []) = None
mark_of_parts (step ∷ at ∷ []) = None
mark_of_parts (step ∷ at ∷ row ∷ []) = mark_from step at row
mark_of_parts (step ∷ at ∷ row ∷ text ∷ texts) = None

-- the mark that is written so
abbrev pub mark_of : List ℕ → Option Mark
mark_of text = mark_of_parts (parts colon text)

-- a site whose numbers fit their types
abbrev pub is_site : Site → Bool
is_site site = nat_le site.step u16_max && nat_le site.at u32_max

-- a mark whose numbers fit their types
abbrev pub is_mark : Mark → Bool
is_mark mark = is_site mark.site && nat_le mark.row u8_max

-- the name of a reason
abbrev pub reason_name : Reason → List ℕ
reason_name reason.Call = codes "call"
reason_name reason.Echo = codes "echo"
reason_name reason.Link = codes "link"
reason_name reason.Slash = codes "slash"
reason_name reason.Root = codes "root"
reason_name reason.Empty = codes "empty"
reason_name reason.DotDot = codes "dotdot"
reason_name reason.Dot = codes "dot"
reason_name reason.Long = codes "long"
reason_name reason.Glob = codes "glob"
reason_name reason.Pattern = codes "pattern"
reason_name reason.Pipe = codes "pipe"
reason_name reason.Message = codes "message"
reason_name reason.Strict = codes "strict"
reason_name reason.Status = codes "status"
reason_name reason.Run = codes "run"
reason_name reason.Same = codes "same"
reason_name reason.Conffile = codes "conffile"
reason_name reason.Restore = codes "restore"

-- the first of these reasons with this name
abbrev pub reason_among : List Reason → List ℕ → Option Reason
reason_among [] text = None
reason_among (reason ∷ reasons) text =
    if bytes_eq (reason_name reason) text then Some reason else reason_among reasons text

-- all reasons
abbrev pub all_reasons : List Reason
all_reasons =
    reason.Call ∷ reason.Echo ∷ reason.Link ∷ reason.Slash ∷ reason.Root ∷ reason.Empty ∷ reason.DotDot ∷ reason.Dot
    ∷ reason.Long ∷ reason.Glob ∷ reason.Pattern ∷ reason.Pipe ∷ reason.Message ∷ reason.Strict ∷ reason.Status
    ∷ reason.Run ∷ reason.Same ∷ reason.Conffile ∷ reason.Restore ∷ []

-- the reason with this name
abbrev pub reason_of : List ℕ → Option Reason
reason_of text = reason_among all_reasons text
