-- Over the same contents a request comes to one task or to one refusal.
use Rattle.std.proofs.Common.{◌≡◌, ℕ, List, Option, Some, None, Result, Ok, Err, refl, sym, ap, ◌∙◌}
use Rattle.checker_io.specs.Reading.{Comes, IsAnswer, IsSingle}
use Rattle.checker_io.specs.Shelf.{Files}
use Rattle.checker_io.proofs.Readings.{answer_once, single_file, single_next}
use Rattle.command_words.specs.declared.request.Folders.{Folders}
use Rattle.command_words.specs.declared.request.Request.{Request}
use Rattle.command_words.specs.declared.request.Request.TheVariants as request
use Rattle.dpkg_scenarios.specs.declared.scenario.Scenario.TheVariants.{Twice}
use Rattle.dpkg_scenarios.specs.declared.scenario.ScriptKind.{ScriptKind}
use Rattle.dpkg_scenarios.specs.declared.scenario.ScriptKind.TheVariants.{Preinst, Postinst, Prerm, Postrm}
use Rattle.feature_trees.specs.declared.value.Value.{Value}
use Rattle.feature_trees.specs.declared.read.TreeFault.{TreeFault}
use Rattle.feature_trees.specs.declared.read.TreeFault.TheVariants as tree_fault
use Rattle.feature_trees.specs.TreeLines.{tree_of}
use Rattle.package_lists.specs.declared.fault.LineFault.{LineFault}
use Rattle.package_lists.specs.declared.fault.LineFault.TheVariants as line_fault
use Rattle.system_base.specs.Bases.{base_of}
use Rattle.package_lists.specs.Conffiles.{conffiles_of}
use Rattle.package_lists.specs.Control.{control_of}
use Rattle.package_lists.specs.Entries.{EntryParts}
use Rattle.package_lists.specs.Lists.{list_of}
use Rattle.shell_syntax.specs.declared.script.Script.{Script}
use Rattle.checker_input.specs.declared.asked.Asked.{Asked}
use Rattle.checker_input.specs.declared.faults.FileFault.{FileFault}
use Rattle.checker_input.specs.declared.faults.FileFault.TheVariants as fault
use Rattle.checker_input.specs.declared.faults.InputRefusal.{InputRefusal}
use Rattle.checker_input.specs.declared.names.PackageFile.TheVariants as of_package
use Rattle.checker_input.specs.declared.read_file.TheConstants.{MAX_FILE}
use Rattle.checker_input.specs.declared.script.ScriptFault.{ScriptFault}
use Rattle.checker_input.specs.Lines.{LinesCome, TreeComes}
use Rattle.checker_input.specs.Script.{TextComes}
use Rattle.checker_input.specs.Input.{BaseComes, ConffilesCome, ControlComes, ListComes, NamedControlComes, OfFile, ScriptReads, StartComes, TranslatedComes, base_in, conffiles_in, file_in, file_within, input, list_in, one_file, packages_in, refused, start_in, translated_in, version_in, named_control_of, named_control_in, named_package_in, pair_in, twice_in, KeptComes, kept_in, kept_old_in, kept_package_in, kept_script_in, kept_scripts_in, kept_with}
use Rattle.checker_input.proofs.Plans.{after_packages, before_start, after_start, after_translated, after_named, after_control, after_other, after_own, after_pair_base, after_alone, after_twice_base, after_pair, after_kept, after_kept_base, after_kept_old, after_kept_new, after_kept_old_package, after_kept_version, after_kept_list, after_kept_conffiles, after_kept_scripts, after_kept_preinst, after_kept_postinst, after_kept_prerm, after_kept_postrm, after_read}
use Rattle.checker_input.specs.declared.sources.KeptScript.{KeptScript}
use Rattle.checker_input.proofs.OneScript.{text_once}

-- ---- what lines come to

lines_once : {A : Type 0} (wrong : ℕ → ℕ → FileFault) (wanted : Result A LineFault) (r s : Result A FileFault)
    → LinesCome wrong wanted r → LinesCome wrong wanted s → r ≡ s
lines_once wrong (Ok value) r s x y = x ∙ sym y
lines_once wrong (Err (line_fault.Line line why)) r s x y = x ∙ sym y
lines_once wrong (Err line_fault.Memory) r s x y = absurd x

tree_once : (wrong : ℕ → ℕ → FileFault) (wanted : Result Value TreeFault) (r s : Result Value FileFault)
    → TreeComes wrong wanted r → TreeComes wrong wanted s → r ≡ s
tree_once wrong (Ok value) r s x y = x ∙ sym y
tree_once wrong (Err (tree_fault.Line line why)) r s x y = x ∙ sym y
tree_once wrong (Err tree_fault.Memory) r s x y = absurd x

-- ---- what each file comes to

abbrev pub Once : {V : Type 0} → Comes V FileFault → Type 0
Once {V} comes = (found : Option (List ℕ)) (r s : Result V FileFault) → comes found r → comes found s → r ≡ s

control_once : Once ControlComes
control_once None r s x y = x ∙ sym y
control_once (Some text) r s x y = lines_once (λ line why. fault.Version line) (control_of text) r s x y

named_control_once : Once NamedControlComes
named_control_once None r s x y = x ∙ sym y
named_control_once (Some text) r s x y = lines_once (λ line why. fault.Version line) (named_control_of text) r s x y

list_once : Once ListComes
list_once None r s x y = x ∙ sym y
list_once (Some text) r s x y = lines_once (λ line why. fault.Line line why) (list_of text) r s x y

conffiles_once : (entries : List EntryParts) → Once (ConffilesCome entries)
conffiles_once entries None r s x y = x ∙ sym y
conffiles_once entries (Some text) r s x y = lines_once (λ line why. fault.Line line why) (conffiles_of text entries) r s x y

-- what the text of a script comes to, as what is wrong with its file
abbrev as_script : Result Script ScriptFault → Result Script FileFault
as_script (Ok script) = Ok script
as_script (Err why) = Err (fault.Script why)

is_script : (text : List ℕ) (r : Result Script FileFault) → ScriptReads text r
    → (w : Result Script ScriptFault) × TextComes text w × (r ≡ as_script w)
is_script text (Ok script) is = (Ok script, is, refl)
is_script text (Err wrong) is = (Err is.0, is.1, ap Err is.2)

reads_once : (text : List ℕ) (r s : Result Script FileFault) → ScriptReads text r → ScriptReads text s → r ≡ s
reads_once text r s x y =
    let a = is_script text r x in
    let b = is_script text s y in
    a.2 ∙ ap as_script (text_once text a.0 b.0 a.1 b.1) ∙ sym b.2

same_kept : (text : List ℕ) (a b : Script) → a ≡ b → ◌≡◌ {A = Result KeptScript FileFault} (Ok (record { script = Some a; text = Some text })) (Ok (record { script = Some b; text = Some text }))
same_kept text a b e = let f : Script → Result KeptScript FileFault = λ s. Ok (record { script = Some s; text = Some text }) in ap f e

ok_script : {a b : Script} → ◌≡◌ {A = Result Script FileFault} (Ok a) (Ok b) → a ≡ b
ok_script e = cc

not_script : {a : Script} {b : FileFault} → ◌≡◌ {A = Result Script FileFault} (Ok a) (Err b) → ⊥
not_script e = cc

same_wrong : {a b : FileFault} → ◌≡◌ {A = Result Script FileFault} (Err a) (Err b) → ◌≡◌ {A = Result KeptScript FileFault} (Err a) (Err b)
same_wrong {a} {b} e = let same : a ≡ b = cc in let f : FileFault → Result KeptScript FileFault = λ w. Err w in ap f same

kept_there : (text : List ℕ) (r s : Result KeptScript FileFault) → KeptComes (Some text) r → KeptComes (Some text) s → r ≡ s
kept_there text (Ok a) (Ok b) x y =
    let f : KeptScript → Result KeptScript FileFault = λ k. Ok k in
    ap f x.2 ∙ same_kept text x.0 y.0 (ok_script (reads_once text (Ok x.0) (Ok y.0) x.1 y.1)) ∙ ap f (sym y.2)
kept_there text (Ok a) (Err wrong) x y = absurd (not_script (reads_once text (Ok x.0) (Err wrong) x.1 y))
kept_there text (Err wrong) (Ok b) x y = absurd (not_script (reads_once text (Ok y.0) (Err wrong) y.1 x))
kept_there text (Err a) (Err b) x y = same_wrong (reads_once text (Err a) (Err b) x y)

kept_once : Once KeptComes
kept_once None r s x y = x ∙ sym y
kept_once (Some text) r s x y = kept_there text r s x y

base_once : Once BaseComes
base_once None r s x y = x ∙ sym y
base_once (Some text) r s x y = lines_once (λ line why. fault.Line line why) (base_of text) r s x y

start_once : Once StartComes
start_once None r s x y = x ∙ sym y
start_once (Some text) r s x y = tree_once (λ line why. fault.Line line why) (tree_of text) r s x y

translated_once : Once TranslatedComes
translated_once None r s x y = x ∙ sym y
translated_once (Some text) r s x y = reads_once text r s x y

-- ---- what is read

-- what a content comes to, under the name of its file
abbrev under : {V : Type 0} → List ℕ → Result V FileFault → Result V InputRefusal
under name (Ok value) = Ok value
under name (Err wrong) = Err (refused name wrong)

is_under : {V : Type 0} (name : List ℕ) (comes : Comes V FileFault) (found : Option (List ℕ)) (r : Result V InputRefusal)
    → OfFile name comes found r → (w : Result V FileFault) × comes found w × (r ≡ under name w)
is_under name comes found (Ok value) is = (Ok value, is, refl)
is_under name comes found (Err refusal) is = (Err is.0, is.1, ap Err is.2)

pub file_single : {V : Type 0} (most : ℕ) (name : List ℕ) (comes : Comes V FileFault) → Once comes → IsSingle (file_within most name comes)
file_single most name comes single =
    single_file name most (refused name (fault.TooLong most)) (OfFile name comes) (λ found r s x y.
    let a = is_under name comes found r x in
    let b = is_under name comes found s y in
    a.2 ∙ ap (under name) (single found a.0 b.0 a.1 b.1) ∙ sym b.2)

one_file_single : {V : Type 0} (name : List ℕ) (comes : Comes V FileFault) → Once comes → IsSingle (one_file name comes)
one_file_single name comes single = file_single MAX_FILE name comes single

version_single : (folder : List ℕ) → IsSingle (version_in folder)
unfolding version_in
version_single folder = one_file_single (file_in folder of_package.Control) ControlComes control_once

list_single : (folder : List ℕ) → IsSingle (list_in folder)
unfolding list_in
list_single folder = one_file_single (file_in folder of_package.List) ListComes list_once

conffiles_single : (folder : List ℕ) (entries : List EntryParts) → IsSingle (conffiles_in folder entries)
unfolding conffiles_in
conffiles_single folder entries =
    one_file_single (file_in folder of_package.Conffiles) (ConffilesCome entries) (conffiles_once entries)

kept_script_single : (folder : List ℕ) (kind : ScriptKind) → IsSingle (kept_script_in folder kind)
unfolding kept_script_in
kept_script_single folder kind = one_file_single (file_in folder (of_package.Script kind)) KeptComes kept_once

kept_scripts_single : (folder : List ℕ) → IsSingle (kept_scripts_in folder)
unfolding kept_scripts_in
kept_scripts_single folder =
    single_next (kept_script_in folder Preinst) (after_kept_preinst folder) (kept_script_single folder Preinst) (λ preinst.
    single_next (kept_script_in folder Postinst) (after_kept_postinst folder preinst) (kept_script_single folder Postinst) (λ postinst.
    single_next (kept_script_in folder Prerm) (after_kept_prerm folder preinst postinst) (kept_script_single folder Prerm) (λ prerm.
    single_next (kept_script_in folder Postrm) (after_kept_postrm preinst postinst prerm) (kept_script_single folder Postrm) (λ postrm. tt))))

kept_with_single : (folder version : List ℕ) → IsSingle (kept_with folder version)
unfolding kept_with
kept_with_single folder version =
    single_next (list_in folder) (after_kept_list folder version) (list_single folder) (λ listed.
    single_next (conffiles_in folder listed) (after_kept_conffiles folder version) (conffiles_single folder listed) (λ entries.
    single_next (kept_scripts_in folder) (after_kept_scripts version entries) (kept_scripts_single folder) (λ kept. tt)))

kept_package_single : (folder : List ℕ) → IsSingle (kept_package_in folder)
unfolding kept_package_in
kept_package_single folder =
    single_next (version_in folder) (after_kept_version folder) (version_single folder) (λ version. kept_with_single folder version)

named_control_single : (folder : List ℕ) → IsSingle (named_control_in folder)
unfolding named_control_in
named_control_single folder = one_file_single (file_in folder of_package.Control) NamedControlComes named_control_once

named_package_single : (folder : List ℕ) → IsSingle (named_package_in folder)
unfolding named_package_in
named_package_single folder =
    single_next (named_control_in folder) (after_control folder) (named_control_single folder) (λ control.
    single_next (kept_with folder control.version) (after_named control.name) (kept_with_single folder control.version) (λ own. tt))

base_single : (named : Option (List ℕ)) → IsSingle (base_in named)
unfolding base_in
base_single None = tt
base_single (Some name) = one_file_single name BaseComes base_once

kept_old_single : (named : Option (List ℕ)) → IsSingle (kept_old_in named)
unfolding kept_old_in
kept_old_single None = tt
kept_old_single (Some folder) = single_next (kept_package_in folder) after_kept_old_package (kept_package_single folder) (λ own. tt)

kept_single : (folders : Folders) → IsSingle (kept_in folders)
unfolding kept_in
kept_single folders =
    single_next (base_in folders.base) (after_kept_base folders) (base_single folders.base) (λ base.
    single_next (kept_old_in folders.old) (after_kept_old folders base) (kept_old_single folders.old) (λ before.
    single_next (kept_package_in folders.dir) (after_kept_new folders base before) (kept_package_single folders.dir) (λ own. tt)))

packages_single : (folders : Folders) → IsSingle (packages_in folders)
unfolding packages_in
packages_single folders = single_next (kept_in folders) after_read (kept_single folders) (λ kept. tt)

pair_single : (dir other : List ℕ) (base : Option (List ℕ)) → IsSingle (pair_in dir other base)
unfolding pair_in
pair_single dir other named =
    single_next (base_in named) (after_pair_base dir other) (base_single named) (λ base.
    single_next (named_package_in dir) (after_own other base) (named_package_single dir) (λ own.
    single_next (kept_package_in other) (after_other base own) (kept_package_single other) (λ before. tt)))

twice_single : (dir : List ℕ) (base : Option (List ℕ)) → IsSingle (twice_in dir base)
unfolding twice_in
twice_single dir named =
    single_next (base_in named) (after_twice_base dir) (base_single named) (λ base.
    single_next (named_package_in dir) (after_alone base) (named_package_single dir) (λ own. tt))

start_single : (name : List ℕ) → IsSingle (start_in name)
unfolding start_in
start_single name = one_file_single name StartComes start_once

translated_single : (name : List ℕ) → IsSingle (translated_in name)
unfolding translated_in
translated_single name = one_file_single name TranslatedComes translated_once

pub input_single : (asked : Request) → IsSingle (input asked)
unfolding input
input_single (request.Check folders scenario turns limit layout) =
    single_next (packages_in folders) (after_packages scenario turns limit layout) (packages_single folders) (λ packages. tt)
input_single (request.Run folders tree scenario turns) =
    single_next (packages_in folders) (before_start tree scenario turns) (packages_single folders) (λ packages.
    single_next (start_in tree) (after_start scenario turns packages) (start_single tree) (λ start. tt))
input_single (request.Translate name) = single_next (translated_in name) after_translated (translated_single name) (λ script. tt)
input_single (request.Load number limit) = tt
input_single (request.Pair dir other base scenario turns limit) =
    single_next (pair_in dir other base) (after_pair scenario turns limit) (pair_single dir other base) (λ packages. tt)
input_single (request.Twice dir base turns limit) =
    single_next (twice_in dir base) (after_pair Twice turns limit) (twice_single dir base) (λ packages. tt)
input_single (request.Predict report trees) = tt
input_single (request.Explain folders scenario turns limit view) =
    single_next (kept_in folders) (after_kept scenario turns limit view) (kept_single folders) (λ kept. tt)

pub one_answer : (asked : Request) (files : Files) (r s : Result Asked InputRefusal)
    → IsAnswer files (input asked) r → IsAnswer files (input asked) s → r ≡ s
one_answer asked files r s x y = answer_once files (input asked) r s (input_single asked) x y
