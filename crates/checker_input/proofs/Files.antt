-- A file that was looked for by its name, and what its content came to.
use Rattle.std.proofs.Common.{◌≡◌, ◌≤◌, ℕ, List, length, Bool, true, false, nat_lt, Option, Some, None, Result, Ok, Err, IfOk, IfSome, inl, inr, refl, sym, ap, subst, ◌∙◌, arith}
use Rattle.std.proofs.lemmas.Bool.{ltb-false}
use Rattle.script_names.specs.declared.memory.Memory.{Memory}
use Rattle.package_lists.specs.Entries.{EntryParts}
use Rattle.package_lists.specs.FileLists.{MOST_ENTRIES}
use Rattle.checker_io.specs.Reading.{Answers, Asks, Comes, Gives, Leads, Reads, Within, content, if_longer}
use Rattle.checker_io.specs.Shelf.{Files, ShelfState}
use Rattle.checker_io.specs.declared.stop.Stop.{Stop}
use Rattle.checker_io.specs.declared.stop.Stop.TheVariants.{Refused, ReadFailed, NoMemory}
use Rattle.checker_io.proofs.Readings.{reads_understood, reads_unread}
use Rattle.checker_input.specs.declared.faults.FileFault.{FileFault}
use Rattle.checker_input.specs.declared.faults.FileFault.TheVariants.{TooLong}
use Rattle.checker_input.specs.declared.faults.InputRefusal.{InputRefusal}
use Rattle.checker_input.specs.declared.read_file.Found.{Found}
use Rattle.checker_input.specs.declared.read_file.TheConstants.{MAX_FILE}
use Rattle.checker_input.specs.Lines.{AreFew}
use Rattle.checker_input.specs.Input.{FileFound, FoundWithin, OfFile, ReadsInput, file_within, of_file, one_file, refused}

-- ---- a content that was read without its name

module _ {R : Type 0} (max : ℕ) (too_long : R) where
  abbrev IsContent : {E : Type 0} → Option (List ℕ) → Result (Option (List ℕ)) E → Type 0
  IsContent found result = result ≡ Ok found

  same_content : {E : Type 0} (a b : Option (List ℕ)) → ◌≡◌ {A = Result (Option (List ℕ)) E} (Ok a) (Ok b)
      → ◌≡◌ {A = Result (Option (List ℕ)) R} (Ok a) (Ok b)
  same_content a b e = let same : a ≡ b = cc in ap Ok same

  not_both : {E : Type 0} (a : Option (List ℕ)) (e : E) → ◌≡◌ {A = Result (Option (List ℕ)) E} (Ok a) (Err e) → ⊥
  not_both a e same = cc

  longer_ok : (b : Bool) (bytes : List ℕ) (value : Option (List ℕ)) → if_longer b (tt {0}) (IsContent {E = Unit {0}} (Some bytes)) (Ok value)
      → if_longer b too_long (IsContent {E = R} (Some bytes)) (Ok value)
  longer_ok true bytes value is = absurd (not_both value (tt {0}) is)
  longer_ok false bytes value is = same_content value (Some bytes) is

  within_ok : (at value : Option (List ℕ)) → Within max (tt {0}) (IsContent {E = Unit {0}}) at (Ok value) → Within max too_long (IsContent {E = R}) at (Ok value)
  within_ok None value is = same_content value None is
  within_ok (Some bytes) value is = longer_ok (nat_lt max (length bytes)) bytes value is

  longer_err : (b : Bool) (bytes : List ℕ) (u : Unit {0}) → if_longer b (tt {0}) (IsContent {E = Unit {0}} (Some bytes)) (Err u)
      → if_longer b too_long (IsContent {E = R} (Some bytes)) (Err too_long)
  longer_err true bytes u is = refl
  longer_err false bytes u is = absurd (not_both (Some bytes) u (sym is))

  within_err : (at : Option (List ℕ)) (u : Unit {0}) → Within max (tt {0}) (IsContent {E = Unit {0}}) at (Err u) → Within max too_long (IsContent {E = R}) at (Err too_long)
  within_err None u is = absurd (not_both None u (sym is))
  within_err (Some bytes) u is = longer_err (nat_lt max (length bytes)) bytes u is

  leads_ok : (at found : Option (List ℕ))
      → Leads {A = Option (List ℕ)} (Within max (tt {0}) (IsContent {E = Unit {0}}) at) (λ value. ◌≡◌ {A = Result (Option (List ℕ)) (Unit {0})} (Ok value) (Ok found)) (Ok found)
      → Leads {A = Option (List ℕ)} (Within max too_long (IsContent {E = R}) at) (λ value. ◌≡◌ {A = Result (Option (List ℕ)) R} (Ok value) (Ok found)) (Ok found)
  leads_ok at found (inl h) = inl (h.0, within_ok at h.0 h.1, same_content h.0 found h.2)
  leads_ok at found (inr h) = absurd (not_both found h.0 h.2)

  leads_err : (at : Option (List ℕ)) (u : Unit {0})
      → Leads {A = Option (List ℕ)} (Within max (tt {0}) (IsContent {E = Unit {0}}) at) (λ value. ◌≡◌ {A = Result (Option (List ℕ)) (Unit {0})} (Ok value) (Err u)) (Err u)
      → Leads {A = Option (List ℕ)} (Within max too_long (IsContent {E = R}) at) (λ value. ◌≡◌ {A = Result (Option (List ℕ)) R} (Ok value) (Err too_long)) (Err too_long)
  leads_err at u (inl h) = absurd (not_both h.0 u h.2)
  leads_err at u (inr h) = inr (too_long, within_err at h.0 h.1, refl)

  module _ (name : List ℕ) where
    answers_ok : (holds : Option Files) (found : Option (List ℕ)) → Answers {F = Unit {0}} {R = Unit {0}} (λ _. name) holds (content (tt {0}) max (tt {0})) (Ok found)
        → Answers (λ n. n) holds (content name max too_long) (Ok found)
    answers_ok None found is = record { may = (is.may.0, leads_ok is.may.0 found is.may.1); told = tt }
    answers_ok (Some files) found is =
        record { may = (is.may.0, leads_ok is.may.0 found is.may.1); told = leads_ok (files name) found is.told }

    answers_err : (holds : Option Files) (u : Unit {0}) → Answers {F = Unit {0}} {R = Unit {0}} (λ _. name) holds (content (tt {0}) max (tt {0})) (Err u)
        → Answers (λ n. n) holds (content name max too_long) (Err too_long)
    answers_err None u is = record { may = (is.may.0, leads_err is.may.0 u is.may.1); told = tt }
    answers_err (Some files) u is =
        record { may = (is.may.0, leads_err is.may.0 u is.may.1); told = leads_err (files name) u is.told }

    asks_it : (holds : Option Files) → Asks (λ n. n) holds (content name max too_long) name
    asks_it None = record { may = inl refl; told = tt }
    asks_it (Some files) = record { may = inl refl; told = inl refl }

-- the same, of a file of a request
module _ (most : ℕ) (name : List ℕ) (s t : ShelfState) where
  pub named_ok : (found : Option (List ℕ)) → Reads {F = Unit {0}} {R = Unit {0}} (λ _. name) s t (content (tt {0}) most (tt {0})) (Ok found)
      → ReadsInput s t (content name most (refused name (TooLong most))) (Ok found)
  named_ok found reads =
      record { kept = reads.kept; ends = (reads.ends.0, answers_ok most (refused name (TooLong most)) name s.holds found reads.ends.1) }

  pub named_long : (u : Unit {0}) → Reads {F = Unit {0}} {R = Unit {0}} (λ _. name) s t (content (tt {0}) most (tt {0})) (Err (Refused u))
      → ReadsInput s t (content name most (refused name (TooLong most))) (Err (Refused (refused name (TooLong most))))
  named_long u reads =
      record { kept = reads.kept; ends = (reads.ends.0, answers_err most (refused name (TooLong most)) name s.holds u reads.ends.1) }

  pub named_failed : (u : Unit {0}) → Reads {F = Unit {0}} {R = Unit {0}} (λ _. name) s t (content (tt {0}) most (tt {0})) (Err (ReadFailed u))
      → ReadsInput s t (content name most (refused name (TooLong most))) (Err (ReadFailed name))
  named_failed u reads =
      record { kept = reads.kept; ends = (reads.ends.0, reads.ends.1, asks_it most (refused name (TooLong most)) name s.holds) }

  pub named_nothing : Reads {F = Unit {0}} {R = Unit {0}} (λ _. name) s t (content (tt {0}) most (tt {0})) (Err NoMemory)
      → ReadsInput s t (content name most (refused name (TooLong most))) (Err NoMemory)
  named_nothing reads = record { kept = reads.kept; ends = reads.ends }

-- ---- a file that was read, and what its content came to

module _ {V : Type 0} (most : ℕ) (comes : Comes V FileFault) (name : List ℕ) (s t : ShelfState) where
  content_gives : (found : Option (List ℕ)) (came : Result (Result V FileFault) Memory) → IfOk came (comes found)
      → Gives (OfFile name comes found) (of_file name came)
  content_gives found (Ok (Ok value)) is = is
  content_gives found (Ok (Err wrong)) is = (wrong, is, refl)
  content_gives found (Err missing) is = tt

  pub within_read : (found : Found) (came : Result (Result V FileFault) Memory) (result : Result V (Stop (List ℕ) InputRefusal))
      → FoundWithin most name s t (Ok found) → IfOk came (comes found.content) → result ≡ of_file found.name came
      → ReadsInput s t (file_within most name comes) result
  within_read found came result is content_is same =
      subst (λ r. ReadsInput s t (file_within most name comes) r) (sym (same ∙ ap (λ n. of_file n came) is.0))
      (reads_understood name most (refused name (TooLong most)) (OfFile name comes) (λ n. n) s t found.content (of_file name came) is.1
      (content_gives found.content came content_is))

  pub within_unread : (stop : Stop (List ℕ) InputRefusal) → FoundWithin most name s t (Err stop) → ReadsInput s t (file_within most name comes) (Err stop)
  within_unread stop is = reads_unread name most (refused name (TooLong most)) (OfFile name comes) (λ n. n) s t stop is

module _ {V : Type 0} (comes : Comes V FileFault) (name : List ℕ) (s t : ShelfState) where
  pub file_read : (found : Found) (came : Result (Result V FileFault) Memory) (result : Result V (Stop (List ℕ) InputRefusal))
      → FileFound name s t (Ok found) → IfOk came (comes found.content) → result ≡ of_file found.name came
      → ReadsInput s t (one_file name comes) result
  file_read = within_read MAX_FILE comes name s t

  pub file_unread : (stop : Stop (List ℕ) InputRefusal) → FileFound name s t (Err stop) → ReadsInput s t (one_file name comes) (Err stop)
  file_unread = within_unread MAX_FILE comes name s t

-- what holds of what a content came to holds of what the call ends with
module _ {A : Type 0} (P : A → Type 0) (name : List ℕ) where
  ends_good : (came : Result (Result A FileFault) Memory) → IfOk came (λ found. IfOk found P) → IfOk (of_file name came) P
  ends_good (Ok (Ok value)) good = good
  ends_good (Ok (Err wrong)) good = tt
  ends_good (Err missing) good = tt

  pub good_file : (came : Result (Result A FileFault) Memory) (result : Result A (Stop (List ℕ) InputRefusal))
      → IfOk came (λ found. IfOk found P) → result ≡ of_file name came → IfOk result P
  good_file came result good same = subst (λ r. IfOk r P) (sym same) (ends_good came good)

-- ---- a list of files, whose content is short

abbrev IsShort : Option (List ℕ) → Type 0
IsShort found = IfSome found (λ bytes. length bytes ≤ MAX_FILE)

module _ (name : List ℕ) (s t : ShelfState) where
  longer_short : (b : Bool) (bytes : List ℕ) (value : Option (List ℕ)) → nat_lt MAX_FILE (length bytes) ≡ b
      → if_longer b (refused name (TooLong MAX_FILE)) (IsContent MAX_FILE (refused name (TooLong MAX_FILE)) (Some bytes)) (Ok value) → IsShort value
  longer_short true bytes value e is = absurd (not_both MAX_FILE (refused name (TooLong MAX_FILE)) value (refused name (TooLong MAX_FILE)) is)
  longer_short false bytes value e is =
      let same : value ≡ Some bytes = cc in
      subst IsShort (sym same) (ltb-false MAX_FILE (length bytes) e)

  within_short : (at value : Option (List ℕ))
      → Within MAX_FILE (refused name (TooLong MAX_FILE)) (IsContent MAX_FILE (refused name (TooLong MAX_FILE))) at (Ok value) → IsShort value
  within_short None value is = let same : value ≡ None = cc in subst IsShort (sym same) tt
  within_short (Some bytes) value is = longer_short (nat_lt MAX_FILE (length bytes)) bytes value refl is

  led_short : (at found : Option (List ℕ))
      → Leads {A = Option (List ℕ)} (Within MAX_FILE (refused name (TooLong MAX_FILE)) (IsContent MAX_FILE (refused name (TooLong MAX_FILE))) at)
      (λ value. ◌≡◌ {A = Result (Option (List ℕ)) InputRefusal} (Ok value) (Ok found)) (Ok found)
      → IsShort found
  led_short at found (inl h) =
      let same : h.0 ≡ found = cc in
      subst IsShort same (within_short at h.0 h.1)
  led_short at found (inr h) = absurd (not_both MAX_FILE (refused name (TooLong MAX_FILE)) found h.0 h.2)

  found_short : (found : Found) → FileFound name s t (Ok found) → IsShort found.content
  found_short found is = led_short is.1.ends.1.may.0 found.content is.1.ends.1.may.1

  few_short : (content : Option (List ℕ)) (entries : List EntryParts) → AreFew content entries → IsShort content → length entries ≤ MOST_ENTRIES
  few_short None entries few short = absurd few
  few_short (Some text) entries few short = omega (arith, few, short)

  -- the entries that the list of a package comes to
  pub entries_few : (found : Found) (came : Result (Result (List EntryParts) FileFault) Memory) (entries : List EntryParts)
      → FileFound name s t (Ok found) → IfOk came (λ came. IfOk came (AreFew found.content)) → Ok entries ≡ of_file found.name came
      → length entries ≤ MOST_ENTRIES
  entries_few found came entries is few same =
      few_short found.content entries (good_file (AreFew found.content) found.name came (Ok entries) few same) (found_short found is)
