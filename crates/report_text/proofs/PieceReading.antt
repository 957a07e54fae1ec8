-- The pieces of a report are read back.
use Rattle.std.proofs.Common.{◌≡◌, ℕ, Bool, true, false, List, [], ◌∷◌, ◌++◌, map, Some, refl, sym, ap, ◌∙◌, append_assoc, append-nil}
use Rattle.std.specs.Prelude.{codes, if◌then◌else◌}
use Rattle.std.specs.List.{flat_map, list_all, join_with_byte}
use Rattle.std.specs.Option.{option_map, option_and_then}
use Rattle.std.proofs.lemmas.Bool.{and_parts, and_from}
use Rattle.script_names.specs.Paths.{is_filled}
use Rattle.script_names.specs.declared.mark.Mark.{Mark}
use Rattle.script_names.specs.declared.mark.Site.{Site}
use Rattle.script_names.specs.declared.reason.Reason.{Reason}
use Rattle.shown_texts.specs.Marks.{site_text, mark_text, reason_name, is_mark, site_of}
use Rattle.shown_texts.specs.Parts.{parts, lacks}
use Rattle.shown_texts.specs.Show.{show, are_bytes, is_shown, shown_of}
use Rattle.shown_texts.proofs.Cuts.{joined_cut}
use Rattle.shown_texts.proofs.Lists.{all_both}
use Rattle.shown_texts.proofs.MarkTexts.{site_read, mark_read, reason_read}
use Rattle.shown_texts.proofs.Spelled.{show_read, show_shown}
use Rattle.dpkg_scenarios.specs.declared.scenario.Ending.{Ending}
use Rattle.dpkg_scenarios.specs.declared.scenario.Ending.TheVariants.{Done, Failed, Incomplete, Bound}
use Rattle.dpkg_scenarios.specs.declared.scenario.Scenario.{Scenario}
use Rattle.dpkg_scenarios.specs.declared.scenario.Scenario.TheVariants.{Install, InstallAgain, Upgrade, Remove, Purge, PurgeLater}
use Rattle.dpkg_scenarios.specs.declared.scenario.Scenario.TheVariants.{InFavour, Deconfigure, Disappear, Twice}
use Rattle.dpkg_scenarios.specs.declared.scenario.State.{State}
use Rattle.dpkg_scenarios.specs.declared.scenario.State.TheVariants.{Installed, Unpacked, HalfConfigured, HalfInstalled, ConfigFiles, NotInstalled}
use Rattle.dpkg_scenarios.specs.declared.scenario.Side.{Side}
use Rattle.dpkg_scenarios.specs.declared.scenario.Side.TheVariants.{New, Old}
use Rattle.dpkg_scenarios.specs.declared.scenario.ScriptKind.{ScriptKind}
use Rattle.dpkg_scenarios.specs.declared.scenario.ScriptKind.TheVariants.{Preinst, Postinst, Prerm, Postrm}
use Rattle.scenario_runs.specs.declared.call.CallEnd.{CallEnd}
use Rattle.scenario_runs.specs.declared.call.CallEnd.TheVariants as how
use Rattle.scenario_runs.specs.declared.call.ScriptCall.{ScriptCall}
use Rattle.dpkg_scenarios.specs.Names.{scenario_name, script_name}
use Rattle.report_text.specs.ReportNames.{state_name, side_name, call_end_name}
use Rattle.report_text.specs.ReportText.{result_text, call_word, call_content}
use Rattle.report_text.specs.PieceRead.{state_of, script_of, side_of, call_end_of, result_of_words, result_of, marks_onto, trace_of, call_with, call_of_words, call_of, is_ending, is_call}
use Rattle.report_text.proofs.ShownBytes.{no_space, site_shown, mark_shown, reason_shown}

-- ---- names

state_read : (s : State) → state_of (state_name s) ≡ Some s
state_read Installed = refl
state_read Unpacked = refl
state_read HalfConfigured = refl
state_read HalfInstalled = refl
state_read ConfigFiles = refl
state_read NotInstalled = refl

script_read : (s : ScriptKind) → script_of (script_name s) ≡ Some s
script_read Preinst = refl
script_read Postinst = refl
script_read Prerm = refl
script_read Postrm = refl

side_read : (s : Side) → side_of (side_name s) ≡ Some s
side_read New = refl
side_read Old = refl

call_end_read : (h : CallEnd) → call_end_of (call_end_name h) ≡ Some h
call_end_read how.Ok = refl
call_end_read how.Failed = refl
call_end_read how.Ended = refl

pub scenario_shown : (s : Scenario) → list_all is_shown (scenario_name s) ≡ true
scenario_shown Install = refl
scenario_shown InstallAgain = refl
scenario_shown Upgrade = refl
scenario_shown Remove = refl
scenario_shown Purge = refl
scenario_shown PurgeLater = refl
scenario_shown InFavour = refl
scenario_shown Deconfigure = refl
scenario_shown Disappear = refl
scenario_shown Twice = refl

pub state_shown : (s : State) → list_all is_shown (state_name s) ≡ true
state_shown Installed = refl
state_shown Unpacked = refl
state_shown HalfConfigured = refl
state_shown HalfInstalled = refl
state_shown ConfigFiles = refl
state_shown NotInstalled = refl

pub script_shown : (s : ScriptKind) → list_all is_shown (script_name s) ≡ true
script_shown Preinst = refl
script_shown Postinst = refl
script_shown Prerm = refl
script_shown Postrm = refl

pub side_shown : (s : Side) → list_all is_shown (side_name s) ≡ true
side_shown New = refl
side_shown Old = refl

pub call_end_shown : (h : CallEnd) → list_all is_shown (call_end_name h) ≡ true
call_end_shown how.Ok = refl
call_end_shown how.Failed = refl
call_end_shown how.Ended = refl

-- ---- words with a space between each two

words_cut : (word : List ℕ) (words : List (List ℕ)) → list_all (λ w. list_all is_shown w) (word ∷ words) ≡ true
    → parts 32 (join_with_byte 32 (word ∷ words)) ≡ word ∷ words
words_cut word words h = joined_cut 32 word words (all_without (word ∷ words) h)
  where
    all_without : (ws : List (List ℕ)) → list_all (λ w. list_all is_shown w) ws ≡ true → list_all (lacks 32) ws ≡ true
    all_without [] h = refl
    all_without (w ∷ ws) h =
        let k = and_parts (list_all is_shown w) (list_all (λ w. list_all is_shown w) ws) h in
        and_from (lacks 32 w) (list_all (lacks 32) ws) (no_space w k.0) (all_without ws k.1)

-- ---- endings

abbrev are_shown : List (List ℕ) → Bool
are_shown ws = list_all (λ w. list_all is_shown w) ws

two_shown : (a b : List ℕ) → list_all is_shown a ≡ true → list_all is_shown b ≡ true → are_shown (a ∷ b ∷ []) ≡ true
two_shown a b h g = and_from (list_all is_shown a) (are_shown (b ∷ [])) h (and_from (list_all is_shown b) true g refl)

three_shown : (a b c : List ℕ) → list_all is_shown a ≡ true → list_all is_shown b ≡ true → list_all is_shown c ≡ true → are_shown (a ∷ b ∷ c ∷ []) ≡ true
three_shown a b c h g f = and_from (list_all is_shown a) (are_shown (b ∷ c ∷ [])) h (two_shown b c g f)

stop_joined : (word reason site : List ℕ) → word ++ 32 ∷ ((reason ++ 32 ∷ []) ++ site) ≡ join_with_byte 32 (word ∷ reason ∷ site ∷ [])
stop_joined word reason site = ap (λ t. word ++ 32 ∷ t) (append_assoc reason (32 ∷ []) site)

pub result_read : (ending : Ending) → is_ending ending ≡ true → result_of (result_text ending) ≡ Some ending
result_read (Done state) h =
    ap result_of_words (words_cut (codes "done") (state_name state ∷ []) (two_shown (codes "done") (state_name state) refl (state_shown state)))
    ∙ ap (option_map (λ (s : State). Done s)) (state_read state)
result_read (Failed state) h =
    ap result_of_words (words_cut (codes "failed") (state_name state ∷ []) (two_shown (codes "failed") (state_name state) refl (state_shown state)))
    ∙ ap (option_map (λ (s : State). Failed s)) (state_read state)
result_read (Incomplete reason site) h =
    ap result_of (stop_joined (codes "incomplete") (reason_name reason) (site_text site))
    ∙ ap result_of_words (words_cut (codes "incomplete") (reason_name reason ∷ site_text site ∷ []) (three_shown (codes "incomplete") (reason_name reason) (site_text site) refl (reason_shown reason) (site_shown site h)))
    ∙ ap (option_and_then (λ (r : Reason). option_map (λ (s : Site). Incomplete r s) (site_of (site_text site)))) (reason_read reason)
    ∙ ap (option_map (λ (s : Site). Incomplete reason s)) (site_read site h)
result_read (Bound site) h =
    ap result_of_words (words_cut (codes "bound") (site_text site ∷ []) (two_shown (codes "bound") (site_text site) refl (site_shown site h)))
    ∙ ap (option_map (λ (s : Site). Bound s)) (site_read site h)

-- ---- traces

marks_shown : (ms : List Mark) → list_all is_mark ms ≡ true → are_shown (map mark_text ms) ≡ true
marks_shown [] h = refl
marks_shown (m ∷ ms) h =
    let k = and_parts (is_mark m) (list_all is_mark ms) h in
    and_from (list_all is_shown (mark_text m)) (are_shown (map mark_text ms)) (mark_shown m k.0) (marks_shown ms k.1)

marks_read : (done ms : List Mark) → list_all is_mark ms ≡ true → marks_onto done (map mark_text ms) ≡ Some (done ++ ms)
marks_read done [] h = ap Some (sym (append-nil done))
marks_read done (m ∷ ms) h =
    let k = and_parts (is_mark m) (list_all is_mark ms) h in
    ap (option_and_then (λ (mark : Mark). marks_onto (done ++ mark ∷ []) (map mark_text ms))) (mark_read m k.0)
    ∙ marks_read (done ++ m ∷ []) ms k.1 ∙ ap Some (append_assoc done (m ∷ []) ms)

filled_front : (xs ys : List ℕ) (b : ℕ) → is_filled (xs ++ b ∷ ys) ≡ true
filled_front [] ys b = refl
filled_front (x ∷ xs) ys b = refl

joined_filled : (m : Mark) (ms : List Mark) → is_filled (join_with_byte 32 (map mark_text (m ∷ ms))) ≡ true
joined_filled m [] = filled_front _ _ 58
joined_filled m (n ∷ ms) = filled_front _ _ 32

pub trace_read : (trace : List Mark) → list_all is_mark trace ≡ true → trace_of (join_with_byte 32 (map mark_text trace)) ≡ Some trace
trace_read [] h = refl
trace_read (m ∷ ms) h =
    let text = join_with_byte 32 (map mark_text (m ∷ ms)) in
    ap (λ filled. if filled then marks_onto [] (parts 32 text) else Some []) (joined_filled m ms)
    ∙ ap (marks_onto []) (words_cut (mark_text m) (map mark_text ms) (marks_shown (m ∷ ms) h))
    ∙ marks_read [] (m ∷ ms) h

-- ---- calls

abbrev last_words : ScriptCall → List (List ℕ)
last_words call = map show call.words ++ call_end_name call.how ∷ []

words_joined : (first : List ℕ) (words : List (List ℕ)) (last : List ℕ)
    → first ++ (flat_map call_word words ++ 32 ∷ last) ≡ join_with_byte 32 (first ∷ (map show words ++ last ∷ []))
words_joined first [] last = refl
words_joined first (w ∷ words) last =
    ap (λ t. first ++ 32 ∷ t) (append_assoc (show w) (flat_map call_word words) (32 ∷ last) ∙ words_joined (show w) words last)

regrouped : (c a s k w e : List ℕ) → ((((((c ++ a) ++ s) ++ k) ++ w) ++ s) ++ e) ≡ c ++ (a ++ (s ++ (k ++ (w ++ (s ++ e)))))
regrouped c a s k w e = simp append_assoc

call_joined : (call : ScriptCall)
    → call_content call ≡ join_with_byte 32 (codes "call" ∷ side_name call.side ∷ script_name call.script ∷ last_words call)
call_joined call =
    regrouped (codes "call ") (side_name call.side) (32 ∷ []) (script_name call.script) (flat_map call_word call.words) (call_end_name call.how)
    ∙ ap (λ t. codes "call " ++ (side_name call.side ++ 32 ∷ t)) (words_joined (script_name call.script) call.words (call_end_name call.how))

each_shown : (words : List (List ℕ)) → list_all are_bytes words ≡ true → are_shown (map show words) ≡ true
each_shown [] h = refl
each_shown (w ∷ words) h =
    let k = and_parts (are_bytes w) (list_all are_bytes words) h in
    and_from (list_all is_shown (show w)) (are_shown (map show words)) (show_shown w k.0) (each_shown words k.1)

call_shown : (call : ScriptCall) → is_call call ≡ true → are_shown (codes "call" ∷ side_name call.side ∷ script_name call.script ∷ last_words call) ≡ true
call_shown call h =
    let words = all_both (λ w. list_all is_shown w) (map show call.words) (call_end_name call.how ∷ []) (each_shown call.words h)
    (and_from (list_all is_shown (call_end_name call.how)) true (call_end_shown call.how) refl) in
    and_from (list_all is_shown (side_name call.side)) (are_shown (script_name call.script ∷ last_words call)) (side_shown call.side)
    (and_from (list_all is_shown (script_name call.script)) (are_shown (last_words call)) (script_shown call.script) words)

with_more : (side : Side) (script : ScriptKind) (words : List (List ℕ)) (text : List ℕ) (texts : List (List ℕ)) (last : List ℕ)
    → call_with side script words (text ∷ (texts ++ last ∷ []))
    ≡ option_and_then (λ word. call_with side script (words ++ word ∷ []) (texts ++ last ∷ [])) (shown_of text)
with_more side script words text [] last = refl
with_more side script words text (next ∷ texts) last = refl

words_read : (side : Side) (script : ScriptKind) (how : CallEnd) (done words : List (List ℕ)) → list_all are_bytes words ≡ true
    → call_with side script done (map show words ++ call_end_name how ∷ [])
    ≡ (let made : ScriptCall = record { side = side; script = script; words = done ++ words; how = how } in Some made)
words_read side script how done [] h =
    ap (option_map (λ (e : CallEnd). let made : ScriptCall = record { side = side; script = script; words = done; how = e } in made)) (call_end_read how)
    ∙ ap (λ ws. let made : ScriptCall = record { side = side; script = script; words = ws; how = how } in Some made) (sym (append-nil done))
words_read side script how done (w ∷ words) h =
    let k = and_parts (are_bytes w) (list_all are_bytes words) h in
    with_more side script done (show w) (map show words) (call_end_name how)
    ∙ ap (option_and_then (λ word. call_with side script (done ++ word ∷ []) (map show words ++ call_end_name how ∷ []))) (show_read w k.0)
    ∙ words_read side script how (done ++ w ∷ []) words k.1
    ∙ ap (λ ws. let made : ScriptCall = record { side = side; script = script; words = ws; how = how } in Some made) (append_assoc done (w ∷ []) words)

pub call_read : (call : ScriptCall) → is_call call ≡ true → call_of (call_content call) ≡ Some call
call_read call h =
    ap call_of (call_joined call)
    ∙ ap call_of_words (words_cut (codes "call") (side_name call.side ∷ script_name call.script ∷ last_words call) (call_shown call h))
    ∙ ap (option_and_then (λ side. option_and_then (λ script. call_with side script [] (last_words call)) (script_of (script_name call.script)))) (side_read call.side)
    ∙ ap (option_and_then (λ script. call_with call.side script [] (last_words call))) (script_read call.script)
    ∙ words_read call.side call.script call.how [] call.words h
