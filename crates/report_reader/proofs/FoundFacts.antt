-- A report that is read from a value is readable.
use Rattle.std.proofs.Common.{◌≡◌, ℕ, suc, ◌+◌, ◌^◌, ◌<◌, ◌≤◌, true, List, [], ◌∷◌, ◌++◌, Some, refl, sym, ap, subst, ◌∙◌, arith, append_assoc, append-nil}
use Rattle.std.specs.Prelude.{Option, IfSome, ◌&&◌, nat_le, nat_lt, codes}
use Rattle.std.specs.List.{list_all}
use Rattle.std.specs.Option.{option_map, option_and_then}
use Rattle.std.proofs.lemmas.Bool.{and_parts, leb-true, ltb-true}
use Rattle.serde_json.specs.Data.{Data, Items, no_items, item}
use Rattle.serde_json.specs.Find.{get}
use Rattle.script_names.specs.declared.mark.Mark.{Mark}
use Rattle.shown_texts.specs.Marks.{is_mark}
use Rattle.feature_trees.specs.declared.value.Value.{Value}
use Rattle.feature_trees.specs.declared.version.Version.TheVariants.{Second}
use Rattle.feature_trees.specs.TreeLines.{tree_of}
use Rattle.tree_clauses.specs.declared.clause.Clause.{Clause}
use Rattle.tree_clauses.specs.ClauseRead.{clause_of, is_clause, tells}
use Rattle.tree_clauses.specs.ClauseText.{clause_text}
use Rattle.dpkg_scenarios.specs.declared.scenario.Ending.{Ending}
use Rattle.dpkg_scenarios.specs.declared.scenario.Scenario.{Scenario}
use Rattle.scenario_runs.specs.declared.call.ScriptCall.{ScriptCall}
use Rattle.scenario_outcomes.specs.declared.outcome.Outcome.{Outcome}
use Rattle.outcome_report.specs.declared.outcome_report.Report.{Report}
use Rattle.outcome_report.specs.declared.outcome_report.ReportEntry.{ReportEntry}
use Rattle.outcome_report.specs.declared.outcome_report.ReportPart.{ReportPart}
use Rattle.outcome_report.specs.declared.replay.Replay.{Replay}
use Rattle.report_text.specs.Numbered.{AreNumbered, AllNumbered}
use Rattle.dpkg_scenarios.specs.Names.{scenario_named}
use Rattle.dpkg_scenarios.specs.Scenarios.{is_checked}
use Rattle.dpkg_scenarios.proofs.Named.{named_checked}
use Rattle.report_text.specs.PieceRead.{result_of, trace_of, is_ending, is_call}
use Rattle.report_text.specs.Whole.{IsRepresentableEntry, AllRepresentable, AllPartsRepresentable, IsWholeEntry, AllWhole, AllPartsWhole, AreInOrder, scenario_place}
use Rattle.report_reader.specs.ReportRead.{text_at, list_at, short, number_at, lines_at, tree_found, tree_at, calls_onto, calls_at, ending_at, trace_at, if_told, clause_from, clause_in}
use Rattle.report_reader.specs.ReportRead.{outcome_in, replay_in, entry_in, entries_onto, part_in, from_place, parts_onto, report_in}
use Rattle.report_reader.specs.JsonAnswers.{HasShortPaths, AllShort, AllPartsShort, AllChecked, IsReadable}
use Rattle.report_reader.proofs.TextFacts.{got, made, kept}
use Rattle.report_reader.proofs.TreeFacts.{IsFound, found_tree}
use Rattle.report_reader.proofs.PieceFacts.{ending_fits, trace_fits, calls_fit}

pub one_value : {A : Type 0} (o : Option A) (a b : A) → o ≡ Some a → o ≡ Some b → a ≡ b
one_value o a b e f = cc

-- ---- pieces

tree_is : (key : List ℕ) (d : Data) (v : Value) → tree_at key d ≡ Some v → IsFound v
tree_is key d v e = got (λ (text : List ℕ). tree_found (tree_of text)) (lines_at key d) v e (λ text m f. found_tree text v f)

ending_is : (key : List ℕ) (d : Data) (ending : Ending) → ending_at key d ≡ Some ending → is_ending ending ≡ true
ending_is key d ending e = got result_of (text_at key d) ending e (λ text m f. ending_fits text ending f)

trace_is : (key : List ℕ) (d : Data) (trace : List Mark) → trace_at key d ≡ Some trace → list_all is_mark trace ≡ true
trace_is key d trace e = got trace_of (text_at key d) trace e (λ text m f. trace_fits text trace f)

calls_are : (key : List ℕ) (d : Data) (calls : List ScriptCall) → calls_at key d ≡ Some calls → list_all is_call calls ≡ true
calls_are key d calls e = got (calls_onto []) (list_at key d) calls e (λ ds m f. calls_fit [] ds calls refl f)

text_clause : (text : List ℕ) (clause : Clause) → option_and_then (if_told text) (clause_of text) ≡ Some clause → is_clause clause ≡ true
text_clause text clause e =
    got (if_told text) (clause_of text) clause e
    (λ x m f. kept (is_clause x && tells x text) x clause f (λ t same. ap is_clause (sym same) ∙ (and_parts (is_clause x) (tells x text) t).0))

from_clause : (start now : ℕ) (lines : List ℕ) (clause : Clause) → clause_from start now lines ≡ Some clause → is_clause clause ≡ true
from_clause start now lines clause e =
    let head : Clause = record { literals = []; start = record { 0 = start }; now = record { 0 = now } } in
    text_clause (clause_text Second head ++ lines) clause e

clause_is : (d : Data) (clause : Clause) → clause_in d ≡ Some clause → is_clause clause ≡ true
clause_is d clause e =
    got (λ (start : ℕ). option_and_then (λ (now : ℕ). option_and_then (clause_from start now) (lines_at (codes "literals") d)) (number_at (codes "now") d))
    (number_at (codes "start") d) clause e
    (λ start m f. got (λ (now : ℕ). option_and_then (clause_from start now) (lines_at (codes "literals") d)) (number_at (codes "now") d) clause f
    (λ now n g. got (clause_from start now) (lines_at (codes "literals") d) clause g (λ lines o h. from_clause start now lines clause h)))

-- ---- outcomes and replays

record IsOutcome (n : ℕ) (d : Data) (o : Outcome) : Type 0 where
  number : o.number ≡ n
  ending : ending_at (codes "result") d ≡ Some o.ending
  trace : trace_at (codes "trace") d ≡ Some o.trace
  clause : is_clause o.clause ≡ true
  shown : IsFound o.shown

outcome_is : (n : ℕ) (d : Data) (o : Outcome) → outcome_in n d ≡ Some o → IsOutcome n d o
outcome_is n d o e =
    got (λ (ending : Ending). option_and_then (λ (trace : List Mark). option_and_then (λ (clause : Clause). option_map
    (λ (shown : Value). let it : Outcome = record { number = n; ending = ending; trace = trace; clause = clause; shown = shown } in it)
    (tree_at (codes "shown") d)) (option_and_then clause_in (get (codes "clause") d))) (trace_at (codes "trace") d)) (ending_at (codes "result") d) o e
    (λ ending a f.
    got (λ (trace : List Mark). option_and_then (λ (clause : Clause). option_map
    (λ (shown : Value). let it : Outcome = record { number = n; ending = ending; trace = trace; clause = clause; shown = shown } in it)
    (tree_at (codes "shown") d)) (option_and_then clause_in (get (codes "clause") d))) (trace_at (codes "trace") d) o f
    (λ trace b g.
    got (λ (clause : Clause). option_map
    (λ (shown : Value). let it : Outcome = record { number = n; ending = ending; trace = trace; clause = clause; shown = shown } in it)
    (tree_at (codes "shown") d)) (option_and_then clause_in (get (codes "clause") d)) o g
    (λ clause c h.
    made (λ (shown : Value). let it : Outcome = record { number = n; ending = ending; trace = trace; clause = clause; shown = shown } in it)
    (tree_at (codes "shown") d) o h
    (λ shown k same.
    let it : Outcome = record { number = n; ending = ending; trace = trace; clause = clause; shown = shown } in
    let facts : IsOutcome n d it =
    record { number = refl; ending = a; trace = b; clause = got clause_in (get (codes "clause") d) clause c (λ x m f. clause_is x clause f); shown = tree_is (codes "shown") d shown k } in
    subst (IsOutcome n d) same facts))))

record IsReplay (d : Data) (r : Replay) : Type 0 where
  ending : ending_at (codes "result") d ≡ Some r.ending
  trace : trace_at (codes "trace") d ≡ Some r.trace
  after : IsFound r.after
  calls : list_all is_call r.calls ≡ true

replay_is : (d : Data) (r : Replay) → replay_in d ≡ Some r → IsReplay d r
replay_is d r e =
    got (λ (ending : Ending). option_and_then (λ (trace : List Mark). option_and_then (λ (after : Value). option_map
    (λ (calls : List ScriptCall). let it : Replay = record { ending = ending; trace = trace; after = after; calls = calls } in it)
    (calls_at (codes "calls") d)) (tree_at (codes "after") d)) (trace_at (codes "trace") d)) (ending_at (codes "result") d) r e
    (λ ending a f.
    got (λ (trace : List Mark). option_and_then (λ (after : Value). option_map
    (λ (calls : List ScriptCall). let it : Replay = record { ending = ending; trace = trace; after = after; calls = calls } in it)
    (calls_at (codes "calls") d)) (tree_at (codes "after") d)) (trace_at (codes "trace") d) r f
    (λ trace b g.
    got (λ (after : Value). option_map
    (λ (calls : List ScriptCall). let it : Replay = record { ending = ending; trace = trace; after = after; calls = calls } in it)
    (calls_at (codes "calls") d)) (tree_at (codes "after") d) r g
    (λ after c h.
    made (λ (calls : List ScriptCall). let it : Replay = record { ending = ending; trace = trace; after = after; calls = calls } in it)
    (calls_at (codes "calls") d) r h
    (λ calls k same.
    let it : Replay = record { ending = ending; trace = trace; after = after; calls = calls } in
    let facts : IsReplay d it = record { ending = a; trace = b; after = tree_is (codes "after") d after c; calls = calls_are (codes "calls") d calls k } in
    subst (IsReplay d) same facts))))

-- ---- entries

record IsGood (n : ℕ) (e : ReportEntry) : Type 0 where
  number : e.outcome.number ≡ n
  representable : IsRepresentableEntry e
  whole : IsWholeEntry e
  short : HasShortPaths e

joined : (n : ℕ) (d : Data) (o : Outcome) (r : Replay) → n < 2 ^ 32 → IsOutcome n d o → IsReplay d r
    → (let it : ReportEntry = record { outcome = o; replayed = r; confirmed = true } in IsGood n it)
joined n d o r small a b =
    let ending = one_value (ending_at (codes "result") d) r.ending o.ending b.ending a.ending in
    let trace = one_value (trace_at (codes "trace") d) r.trace o.trace b.trace a.trace in
    record {
      number = a.number;
      representable = record {
        number = omega (arith, a.number, small);
        ending = ending_is (codes "result") d o.ending a.ending;
        trace = trace_is (codes "trace") d o.trace a.trace;
        clause = a.clause;
        calls = b.calls;
        shown = record { sound = a.shown.sound; bytes = a.shown.bytes };
        after = record { sound = b.after.sound; bytes = b.after.bytes };
      };
      whole = record { shown = a.shown.dir; after = b.after.dir; agrees = record { ending = ending; trace = trace }; confirmed = refl };
      short = record { shown = a.shown.short; after = b.after.short };
    }

entry_is : (n : ℕ) (d : Data) (e : ReportEntry) → n < 2 ^ 32 → entry_in n d ≡ Some e → IsGood n e
entry_is n d e small eq =
    got (λ (outcome : Outcome). option_map (λ (replayed : Replay). let it : ReportEntry = record { outcome = outcome; replayed = replayed; confirmed = true } in it) (replay_in d))
    (outcome_in n d) e eq
    (λ o m f. made (λ (replayed : Replay). let it : ReportEntry = record { outcome = o; replayed = replayed; confirmed = true } in it) (replay_in d) e f
    (λ r k same. subst (IsGood n) same (joined n d o r small (outcome_is n d o m) (replay_is d r k))))

-- entries behind others
record AreEntries (n : ℕ) (done es : List ReportEntry) : Type 0 where
  more : List ReportEntry
  is : es ≡ done ++ more
  representable : AllRepresentable more
  whole : AllWhole more
  short : AllShort more
  numbered : AreNumbered n more

one_entry : (n : ℕ) (done es : List ReportEntry) (e : ReportEntry) → IsGood n e → AreEntries (n + 1) (done ++ e ∷ []) es → AreEntries n done es
one_entry n done es e good rest =
    let next : n + 1 ≡ suc n = omega arith in
    record {
      more = e ∷ rest.more;
      is = rest.is ∙ append_assoc done (e ∷ []) rest.more;
      representable = (good.representable, rest.representable);
      whole = (good.whole, rest.whole);
      short = (good.short, rest.short);
      numbered = (good.number, subst (λ k. AreNumbered k rest.more) next rest.numbered);
    }

entries_are : (n : ℕ) (done : List ReportEntry) (ds : Items) (es : List ReportEntry) → entries_onto n done ds ≡ Some es → AreEntries n done es
entries_are n done no_items es e =
    let same : done ≡ es = cc in
    record { more = []; is = sym same ∙ sym (append-nil done); representable = tt; whole = tt; short = tt; numbered = tt }
entries_are n done (item d ds) es e =
    got (λ (m : ℕ). option_and_then (λ (entry : ReportEntry). entries_onto (m + 1) (done ++ entry ∷ []) ds) (entry_in m d)) (short n) es e
    (λ m s f. kept (nat_lt n (2 ^ 32)) n m s
    (λ t same. got (λ (entry : ReportEntry). entries_onto (n + 1) (done ++ entry ∷ []) ds) (entry_in n d) es
    (ap (λ k. option_and_then (λ (entry : ReportEntry). entries_onto (k + 1) (done ++ entry ∷ []) ds) (entry_in k d)) same ∙ f)
    (λ entry g h. one_entry n done es entry (entry_is n d entry (ltb-true n (2 ^ 32) t) g) (entries_are (n + 1) (done ++ entry ∷ []) ds es h))))

-- ---- parts

record IsGoodPart (p : ReportPart) : Type 0 where
  representable : AllRepresentable p.entries
  whole : AllWhole p.entries
  short : AllShort p.entries
  numbered : AreNumbered 1 p.entries
  checked : is_checked p.scenario ≡ true

part_is : (d : Data) (p : ReportPart) → part_in d ≡ Some p → IsGoodPart p
part_is d p e =
    got (λ (scenario : Scenario). option_map (λ (entries : List ReportEntry). let it : ReportPart = record { scenario = scenario; entries = entries } in it)
    (option_and_then (entries_onto 1 []) (list_at (codes "outcomes") d))) (option_and_then scenario_named (text_at (codes "name") d)) p e
    (λ scenario m f. made (λ (entries : List ReportEntry). let it : ReportPart = record { scenario = scenario; entries = entries } in it)
    (option_and_then (entries_onto 1 []) (list_at (codes "outcomes") d)) p f
    (λ entries g same. got (entries_onto 1 []) (list_at (codes "outcomes") d) entries g
    (λ ds k h. got scenario_named (text_at (codes "name") d) scenario m
    (λ name a b. subst IsGoodPart same (good scenario entries (named name scenario b) (entries_are 1 [] ds entries h))))))
  where
    named : (name : List ℕ) (scenario : Scenario) → scenario_named name ≡ Some scenario → is_checked scenario ≡ true
    named name scenario b = subst (λ (o : Option Scenario). IfSome o (λ s. is_checked s ≡ true)) b (named_checked name)

    good : (scenario : Scenario) (entries : List ReportEntry) → is_checked scenario ≡ true → AreEntries 1 [] entries → (let it : ReportPart = record { scenario = scenario; entries = entries } in IsGoodPart it)
    good scenario entries c a =
        let facts : (let it : ReportPart = record { scenario = scenario; entries = a.more } in IsGoodPart it) =
        record { representable = a.representable; whole = a.whole; short = a.short; numbered = a.numbered; checked = c } in
        subst (λ es. let it : ReportPart = record { scenario = scenario; entries = es } in IsGoodPart it) (sym a.is) facts

-- parts behind others
record AreParts (least : ℕ) (done ps : List ReportPart) : Type 0 where
  more : List ReportPart
  is : ps ≡ done ++ more
  representable : AllPartsRepresentable more
  whole : AllPartsWhole more
  short : AllPartsShort more
  numbered : AllNumbered more
  order : AreInOrder least more
  checked : AllChecked more

one_part : (least : ℕ) (done ps : List ReportPart) (p : ReportPart) → least ≤ scenario_place p.scenario → IsGoodPart p
    → AreParts (scenario_place p.scenario + 1) (done ++ p ∷ []) ps → AreParts least done ps
one_part least done ps p le good rest =
    let next : scenario_place p.scenario + 1 ≡ suc (scenario_place p.scenario) = omega arith in
    record {
      more = p ∷ rest.more;
      is = rest.is ∙ append_assoc done (p ∷ []) rest.more;
      representable = (good.representable, rest.representable);
      whole = (good.whole, rest.whole);
      short = (good.short, rest.short);
      numbered = (good.numbered, rest.numbered);
      order = (le, subst (λ k. AreInOrder k rest.more) next rest.order);
      checked = (good.checked, rest.checked);
    }

parts_are : (least : ℕ) (done : List ReportPart) (ds : Items) (ps : List ReportPart) → parts_onto least done ds ≡ Some ps → AreParts least done ps
parts_are least done no_items ps e =
    let same : done ≡ ps = cc in
    record { more = []; is = sym same ∙ sym (append-nil done); representable = tt; whole = tt; short = tt; numbered = tt; order = tt; checked = tt }
parts_are least done (item d ds) ps e =
    got (λ (part : ReportPart). parts_onto (scenario_place part.scenario + 1) (done ++ part ∷ []) ds) (option_and_then (from_place least) (part_in d)) ps e
    (λ p m f. got (from_place least) (part_in d) p m
    (λ q a g. kept (nat_le least (scenario_place q.scenario)) q p g
    (λ t same. let good = subst IsGoodPart same (part_is d q a) in
    let le : least ≤ scenario_place p.scenario = subst (λ (x : ReportPart). least ≤ scenario_place x.scenario) same (leb-true least (scenario_place q.scenario) t) in
    one_part least done ps p le good (parts_are (scenario_place p.scenario + 1) (done ++ p ∷ []) ds ps f))))

-- ---- the report

pub report_found : (d : Data) (report : Report) → report_in d ≡ Some report → IsReadable report
report_found d report e =
    made (λ (parts : List ReportPart). let it : Report = record { parts = parts } in it) (option_and_then (parts_onto 0 []) (list_at (codes "scenarios") d)) report e
    (λ parts m same. got (parts_onto 0 []) (list_at (codes "scenarios") d) parts m
    (λ ds k f. subst IsReadable same (good parts (parts_are 0 [] ds parts f))))
  where
    good : (parts : List ReportPart) → AreParts 0 [] parts → (let it : Report = record { parts = parts } in IsReadable it)
    good parts a =
        let facts : (let it : Report = record { parts = a.more } in IsReadable it) =
        record { representable = a.representable; whole = record { entries = a.whole; numbered = a.numbered; order = a.order }; short = a.short; checked = a.checked } in
        subst (λ ps. let it : Report = record { parts = ps } in IsReadable it) (sym a.is) facts
