-- The value of a whole report in a version tells the report, and the JSON text tells the value.
use Rattle.std.proofs.Common.{◌≡◌, ℕ, true, List, [], ◌∷◌, ◌++◌, map, refl, sym, ap, ◌∙◌, append-nil}
use Rattle.std.specs.Prelude.{◌&&◌, Bool, codes, Option, Some}
use Rattle.std.specs.List.{flat_map, list_all, join_with_byte}
use Rattle.std.proofs.lemmas.Bool.{and_parts, and_from}
use Rattle.serde_json.specs.Data.{unsigned, Data, number, string, array, Items, item}
use Rattle.serde_json.specs.Read.{read}
use Rattle.serde_json.specs.View.{items_of}
use Rattle.script_names.specs.declared.mark.Mark.{Mark}
use Rattle.shown_texts.specs.Lines.{line, lines_text}
use Rattle.shown_texts.specs.Marks.{mark_text}
use Rattle.feature_trees.specs.declared.kind.Kind.TheVariants as kind
use Rattle.feature_trees.specs.declared.value.Value.{Value}
use Rattle.feature_trees.specs.declared.version.Version.{Version}
use Rattle.feature_trees.specs.declared.version.Version.TheVariants.{First, Second}
use Rattle.feature_trees.specs.Readable.{only_pipes}
use Rattle.feature_trees.specs.Tree.{kind_of}
use Rattle.feature_trees.specs.TreeText.{tree_lines, tree_text}
use Rattle.tree_clauses.specs.declared.clause.Clause.{Clause}
use Rattle.tree_clauses.specs.ClauseRead.{is_clause, clause_of, has_text as has_clause_text}
use Rattle.tree_clauses.specs.ClauseText.{var_text, literal_content, literal_text, clause_text, is_first_clause}
use Rattle.tree_clauses.proofs.ClauseLaw.{clause_read}
use Rattle.dpkg_scenarios.specs.Names.{scenario_name}
use Rattle.scenario_runs.specs.declared.call.ScriptCall.{ScriptCall}
use Rattle.outcome_report.specs.declared.outcome_report.Report.{Report}
use Rattle.outcome_report.specs.declared.outcome_report.ReportEntry.{ReportEntry}
use Rattle.outcome_report.specs.declared.outcome_report.ReportPart.{ReportPart}
use Rattle.report_text.specs.PieceRead.{result_of, trace_of, call_of, is_call}
use Rattle.report_text.specs.ReportText.{result_text, call_content}
use Rattle.report_text.specs.Whole.{IsRepresentableTree, IsRepresentableEntry, AllRepresentable, AllPartsRepresentable, IsWholeEntry, AllWhole, AllPartsWhole}
use Rattle.report_text.proofs.Blocks.{read_apart, each_apart}
use Rattle.dpkg_scenarios.proofs.Named.{any_named, any_read}
use Rattle.report_text.proofs.PieceReading.{result_read, trace_read, call_read}
use Rattle.report_text.proofs.TextApart.{tree_apart, literals_spelled}
use Rattle.report_json.specs.FirstVersion.{is_first_entry, is_first_part, has_text}
use Rattle.report_json.specs.Laws.{ValuesTellReports, VersionsAreApart, JsonTextsTellReports}
use Rattle.report_json.specs.ReportJson.{texts_json, clause_json, version_lines, entry_json, part_json, json_of, json_text}
use Rattle.report_json.proofs.NewlineRead.{text_read}
use Rattle.report_json.proofs.ValueDepth.{report_depth}
use Rattle.report_json.proofs.ValueRead.{report_same, report_numbers}
use Rattle.report_json.proofs.Versions.{version_told}

-- ---- lists of values

same_string : {a b : List ℕ} → string a ≡ string b → a ≡ b
same_string e = cc

same_array : {a b : Items} → array a ≡ array b → a ≡ b
same_array e = cc

same_number : {a b : ℕ} → number (unsigned a) ≡ number (unsigned b) → a ≡ b
same_number e = cc

same_first : {a b : Data} {xs ys : Items} → item a xs ≡ item b ys → a ≡ b
same_first e = cc

same_rest : {a b : Data} {xs ys : Items} → item a xs ≡ item b ys → xs ≡ ys
same_rest e = cc

-- the items of values that are told apart, each with a fact of its own
module _ {X : Type 0} (f : X → Data) where
  abbrev Each : (X → Type 0) → List X → Type 0
  Each P [] = Unit {0}
  Each P (x ∷ xs) = P x × Each P xs

  items_told : (P : X → Type 0) → ((x y : X) → P x → P y → f x ≡ f y → x ≡ y) → (xs ys : List X) → Each P xs → Each P ys
      → items_of (map f xs) ≡ items_of (map f ys) → xs ≡ ys
  items_told P told [] [] p q e = refl
  items_told P told [] (y ∷ ys) p q e = absurd (cc e)
  items_told P told (x ∷ xs) [] p q e = absurd (cc e)
  items_told P told (x ∷ xs) (y ∷ ys) p q e =
      let first = told x y p.0 q.0 (same_first e) in
      let rest = items_told P told xs ys p.1 q.1 (same_rest e) in
      λ i. first i ∷ rest i

any : (texts : List (List ℕ)) → Each string (λ t. Unit {0}) texts
any [] = tt
any (t ∷ texts) = (tt, any texts)

texts_told : (ts us : List (List ℕ)) → texts_json ts ≡ texts_json us → ts ≡ us
texts_told ts us same = items_told string (λ t. Unit {0}) (λ t u p q s. same_string s) ts us (any ts) (any us) (same_array same)

-- ---- trees, calls and clauses

tree_told : (version : Version) (v w : Value) → kind_of v ≡ kind.Dir → kind_of w ≡ kind.Dir → IsRepresentableTree v → IsRepresentableTree w
    → texts_json (version_lines version v) ≡ texts_json (version_lines version w) → v ≡ w
tree_told version v w d c h g same =
    let lines = version_told version v w (texts_told (version_lines version v) (version_lines version w) same) in
    let text : tree_text v ≡ tree_text w = ap lines_text lines in
    (tree_apart v w [] [] d c h g refl refl (append-nil (tree_text v) ∙ text ∙ sym (append-nil (tree_text w)))).0

calls_told : (xs ys : List ScriptCall) → list_all is_call xs ≡ true → list_all is_call ys ≡ true
    → texts_json (map call_content xs) ≡ texts_json (map call_content ys) → xs ≡ ys
calls_told xs ys h g same =
    each_apart call_content call_of is_call call_read xs ys h g (texts_told (map call_content xs) (map call_content ys) same)

-- the first line of a clause with these numbers of variables
abbrev head_line : ℕ → ℕ → List ℕ
head_line start now = line (codes "clause start " ++ var_text (record { 0 = start }) ++ codes " now " ++ var_text (record { 0 = now }))

record SameMembers (version : Version) (c d : Clause) : Type 0 where
  literals : texts_json (map (literal_content version) c.literals) ≡ texts_json (map (literal_content version) d.literals)
  now : c.now.0 ≡ d.now.0
  start : c.start.0 ≡ d.start.0

clause_members : (version : Version) (c d : Clause) → clause_json version c ≡ clause_json version d → SameMembers version c d
unfolding clause_json
clause_members version c d e = record { literals = cc; now = cc; start = cc }

clause_told : (version : Version) (c d : Clause) → is_clause c ≡ true → is_clause d ≡ true → has_clause_text version c ≡ true → has_clause_text version d ≡ true
    → clause_json version c ≡ clause_json version d → c ≡ d
clause_told version c d h g x y e =
    let same = clause_members version c d e in
    let contents = texts_told (map (literal_content version) c.literals) (map (literal_content version) d.literals) same.literals in
    let lines = literals_spelled version c.literals ∙ ap lines_text contents ∙ sym (literals_spelled version d.literals) in
    let text : clause_text version c ≡ clause_text version d = λ i. head_line (same.start i) (same.now i) ++ lines i in
    read_apart (clause_text version) clause_of c d (clause_read version c h x) (clause_read version d g y) text

-- ---- entries

record SameParts (version : Version) (e f : ReportEntry) : Type 0 where
  after : texts_json (version_lines version e.replayed.after) ≡ texts_json (version_lines version f.replayed.after)
  calls : texts_json (map call_content e.replayed.calls) ≡ texts_json (map call_content f.replayed.calls)
  clause : clause_json version e.outcome.clause ≡ clause_json version f.outcome.clause
  number : e.outcome.number ≡ f.outcome.number
  result : result_text e.outcome.ending ≡ result_text f.outcome.ending
  shown : texts_json (version_lines version e.outcome.shown) ≡ texts_json (version_lines version f.outcome.shown)
  trace : join_with_byte 32 (map mark_text e.outcome.trace) ≡ join_with_byte 32 (map mark_text f.outcome.trace)

entry_members : (version : Version) (e f : ReportEntry) → entry_json version e ≡ entry_json version f → SameParts version e f
unfolding entry_json
entry_members version e f same = record { after = cc; calls = cc; clause = cc; number = cc; result = cc; shown = cc; trace = cc }

-- an entry that the program's types represent, that is whole, and whose clause has a text of the version
record IsToldEntry (version : Version) (e : ReportEntry) : Type 0 where
  known : IsRepresentableEntry e
  whole : IsWholeEntry e
  clause : has_clause_text version e.outcome.clause ≡ true

entry_told : (version : Version) (e f : ReportEntry) → IsToldEntry version e → IsToldEntry version f → entry_json version e ≡ entry_json version f → e ≡ f
entry_told version e f h g same =
    let parts = entry_members version e f same in
    let ending = read_apart result_text result_of e.outcome.ending f.outcome.ending (result_read e.outcome.ending h.known.ending) (result_read f.outcome.ending g.known.ending) parts.result in
    let trace = read_apart (λ (ms : List Mark). join_with_byte 32 (map mark_text ms)) trace_of e.outcome.trace f.outcome.trace (trace_read e.outcome.trace h.known.trace)
    (trace_read f.outcome.trace g.known.trace) parts.trace in
    let clause = clause_told version e.outcome.clause f.outcome.clause h.known.clause g.known.clause h.clause g.clause parts.clause in
    let shown = tree_told version e.outcome.shown f.outcome.shown h.whole.shown g.whole.shown h.known.shown g.known.shown parts.shown in
    let after = tree_told version e.replayed.after f.replayed.after h.whole.after g.whole.after h.known.after g.known.after parts.after in
    let calls = calls_told e.replayed.calls f.replayed.calls h.known.calls g.known.calls parts.calls in
    let end = h.whole.agrees.ending ∙ ending ∙ sym g.whole.agrees.ending in
    let acts = h.whole.agrees.trace ∙ trace ∙ sym g.whole.agrees.trace in
    let confirmed = h.whole.confirmed ∙ sym g.whole.confirmed in
    λ i. record {
      outcome = record { number = parts.number i; ending = ending i; trace = trace i; clause = clause i; shown = shown i };
      replayed = record { ending = end i; trace = acts i; after = after i; calls = calls i };
      confirmed = confirmed i;
    }

-- ---- what is known of each entry

-- the entries are such as the types represent, whole, and their clauses have texts of the version
abbrev IsPartTold : Version → ReportPart → Type 0
IsPartTold version part = Each (entry_json version) (IsToldEntry version) part.entries

-- the clause of each entry has a text of the version
abbrev pub have_clause_texts : Version → List ReportEntry → Bool
have_clause_texts version es = list_all (λ (e : ReportEntry). has_clause_text version e.outcome.clause) es

-- and of each part
abbrev pub have_texts : Version → List ReportPart → Bool
have_texts version ps = list_all (λ (p : ReportPart). have_clause_texts version p.entries) ps

each_entry : (version : Version) (es : List ReportEntry) → AllRepresentable es → AllWhole es → have_clause_texts version es ≡ true
    → Each (entry_json version) (IsToldEntry version) es
each_entry version [] h w t = tt
each_entry version (e ∷ es) h w t =
    let k = and_parts (has_clause_text version e.outcome.clause) (have_clause_texts version es) t in
    (record { known = h.0; whole = w.0; clause = k.0 }, each_entry version es h.1 w.1 k.1)

each_part : (version : Version) (ps : List ReportPart) → AllPartsRepresentable ps → AllPartsWhole ps → have_texts version ps ≡ true
    → Each (part_json version) (IsPartTold version) ps
each_part version [] h w t = tt
each_part version (p ∷ ps) h w t =
    let k = and_parts (have_clause_texts version p.entries) (have_texts version ps) t in
    (each_entry version p.entries h.0 w.0 k.0, each_part version ps h.1 w.1 k.1)

-- ---- where a report has a text of a version, each clause has one

first_entries : (es : List ReportEntry) → list_all is_first_entry es ≡ true → have_clause_texts First es ≡ true
first_entries [] h = refl
first_entries (e ∷ es) h =
    let k = and_parts (is_first_entry e) (list_all is_first_entry es) h in
    let c = and_parts (is_first_clause e.outcome.clause) (only_pipes e.outcome.shown && only_pipes e.replayed.after) k.0 in
    and_from (is_first_clause e.outcome.clause) (have_clause_texts First es) c.0 (first_entries es k.1)

first_parts : (ps : List ReportPart) → list_all is_first_part ps ≡ true → have_texts First ps ≡ true
first_parts [] h = refl
first_parts (p ∷ ps) h =
    let k = and_parts (is_first_part p) (list_all is_first_part ps) h in
    and_from (have_clause_texts First p.entries) (have_texts First ps) (first_entries p.entries k.0) (first_parts ps k.1)

second_entries : (es : List ReportEntry) → have_clause_texts Second es ≡ true
second_entries [] = refl
second_entries (e ∷ es) = second_entries es

second_parts : (ps : List ReportPart) → have_texts Second ps ≡ true
second_parts [] = refl
second_parts (p ∷ ps) = and_from (have_clause_texts Second p.entries) (have_texts Second ps) (second_entries p.entries) (second_parts ps)

pub clauses_told : (version : Version) (report : Report) → has_text version report ≡ true → have_texts version report.parts ≡ true
clauses_told First report h = first_parts report.parts h
clauses_told Second report h = second_parts report.parts

-- ---- parts

record SameEntries (version : Version) (p q : ReportPart) : Type 0 where
  name : scenario_name p.scenario ≡ scenario_name q.scenario
  entries : items_of (map (entry_json version) p.entries) ≡ items_of (map (entry_json version) q.entries)

part_members : (version : Version) (p q : ReportPart) → part_json version p ≡ part_json version q → SameEntries version p q
unfolding part_json
part_members version p q same = record { name = cc; entries = cc }

part_told : (version : Version) (p q : ReportPart) → IsPartTold version p → IsPartTold version q → part_json version p ≡ part_json version q → p ≡ q
part_told version p q h g same =
    let members = part_members version p q same in
    let scenario = read_apart scenario_name any_named p.scenario q.scenario (any_read p.scenario) (any_read q.scenario) members.name in
    let entries = items_told (entry_json version) (IsToldEntry version) (entry_told version) p.entries q.entries h g members.entries in
    λ i. record { scenario = scenario i; entries = entries i }

-- ---- the report

report_members : (version : Version) (a b : Report) → json_of version a ≡ json_of version b
    → items_of (map (part_json version) a.parts) ≡ items_of (map (part_json version) b.parts)
unfolding json_of
report_members version a b e = cc

pub values_tell : ValuesTellReports
values_tell version a b h g v w x y e =
    let parts = items_told (part_json version) (IsPartTold version) (part_told version) a.parts b.parts
    (each_part version a.parts h v.entries (clauses_told version a x)) (each_part version b.parts g w.entries (clauses_told version b y))
    (report_members version a b e) in
    λ i. record { parts = parts i }

pub versions_apart : VersionsAreApart
unfolding json_of
versions_apart a b e = cc

one_value : {A : Type 0} (o : Option A) (a b : A) → o ≡ Some a → o ≡ Some b → a ≡ b
one_value o a b e f = cc

pub texts_tell : JsonTextsTellReports
texts_tell a b h g v w e =
    values_tell Second a b h g v w refl refl (one_value (read (json_text b)) (json_of Second a) (json_of Second b)
    (ap read (sym e) ∙ text_read (json_of Second a) (report_numbers Second a h) (report_same Second a h) (report_depth Second a))
    (text_read (json_of Second b) (report_numbers Second b g) (report_same Second b g) (report_depth Second b)))
