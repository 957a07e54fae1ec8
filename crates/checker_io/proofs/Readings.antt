-- What one read of a shelf says of the reading of a content, what a text comes to, and how readings follow each other.
use Rattle.std.proofs.Common.{◌≡◌, ℕ, ◌+◌, ◌<◌, ◌≤◌, List, length, replicate, Option, Some, None, Result, Ok, Err, IfSome, Bool, true, false, nat_lt, refl, sym, ◌∙◌, inl, inr, arith, subst, ap}
use Rattle.std.proofs.lemmas.Bool.{le-ltb, lt-ltb}
use Rattle.std.proofs.lemmas.List.{length-replicate}
use Rattle.checker_io.specs.declared.shelf.ShelfFault.TheVariants.{Missing, TooLong}
use Rattle.checker_io.specs.declared.stop.Stop.{Stop}
use Rattle.checker_io.specs.declared.stop.Stop.TheVariants.{Refused, ReadFailed, NoMemory}
use Rattle.checker_io.specs.Faults.{Rose}
use Rattle.checker_io.specs.Shelf.{Files, ShelfState, ReadGives, IsQuiet}
use Rattle.checker_io.specs.Reading.{Asking, done, ask, and_then, Answers, Asks, Comes, Gives, IsAnswer, IsAsked, IsSingle, Leads, MayAnswer, MayAsk, Reads, Within, content, file_of, if_longer}

-- ---- contents within their limit

module _ {V R : Type 0} (max : ℕ) (too_long : R) (comes : Comes V R) where
  within_short : (bytes : List ℕ) (result : Result V R) → length bytes ≤ max → comes (Some bytes) result → Within max too_long comes (Some bytes) result
  within_short bytes result le is = let test : nat_lt max (length bytes) ≡ false = le-ltb max (length bytes) le in rw test is

  within_long : (bytes : List ℕ) → max < length bytes → Within max too_long comes (Some bytes) (Err too_long)
  within_long bytes lt = let test : nat_lt max (length bytes) ≡ true = lt-ltb max (length bytes) lt in rw test refl

  abbrev IsContent : Option (List ℕ) → Result (Option (List ℕ)) R → Type 0
  IsContent found result = result ≡ Ok found

  read_longer : (b : Bool) (bytes : List ℕ) (found : Option (List ℕ)) (result : Result V R) → if_longer b too_long (IsContent (Some bytes)) (Ok found)
      → comes found result → if_longer b too_long (comes (Some bytes)) result
  read_longer true bytes found result is h = absurd (cc)
  read_longer false bytes found result is h = let e : found ≡ Some bytes = cc in subst (λ f. comes f result) e h

  -- a content that was read comes to what it is said to come to
  read_within : (content found : Option (List ℕ)) (result : Result V R) → Within max too_long IsContent content (Ok found) → comes found result
      → Within max too_long comes content result
  read_within None found result is h = let e : found ≡ None = cc in subst (λ f. comes f result) e h
  read_within (Some bytes) found result is h = read_longer (nat_lt max (length bytes)) bytes found result is h

  refused_longer : (b : Bool) (bytes : List ℕ) (refusal : R) → if_longer b too_long (IsContent (Some bytes)) (Err refusal)
      → if_longer b too_long (comes (Some bytes)) (Err refusal)
  refused_longer true bytes refusal is = cc
  refused_longer false bytes refusal is = absurd (cc)

  -- a content that is refused is too long, whatever it would come to
  refused_within : (content : Option (List ℕ)) (refusal : R) → Within max too_long IsContent content (Err refusal) → Within max too_long comes content (Err refusal)
  refused_within None refusal is = absurd (cc)
  refused_within (Some bytes) refusal is = refused_longer (nat_lt max (length bytes)) bytes refusal is

-- ---- what a read of a shelf says of a content

module _ {F R : Type 0} where
  -- the whole file was read, under its name
  pub content_ok : (name : F → List ℕ) (holds : Option Files) (file : F) (max : ℕ) (too_long : R) (used bytes : List ℕ) → name file ≡ used
      → length bytes ≤ max → IfSome holds (λ files. ReadGives (files used) max (Ok bytes))
      → Answers name holds (content file max too_long) (Ok (Some bytes))
  content_ok name None file max too_long used bytes e le gives =
      record { may = (Some bytes, inl (Some bytes, within_short max too_long (λ found result. result ≡ Ok found) bytes (Ok (Some bytes)) le refl, refl)); told = tt }
  content_ok name (Some files) file max too_long used bytes e le gives = record {
    may = (Some bytes, inl (Some bytes, within_short max too_long (λ found result. result ≡ Ok found) bytes (Ok (Some bytes)) le refl, refl));
    told = rw (e, gives.0) (inl (Some bytes, within_short max too_long (λ found result. result ≡ Ok found) bytes (Ok (Some bytes)) le refl, refl));
  }

  -- there is no such file
  pub content_none : (name : F → List ℕ) (holds : Option Files) (file : F) (max : ℕ) (too_long : R) (used : List ℕ) → name file ≡ used
      → IfSome holds (λ files. ReadGives (files used) max (Err Missing)) → Answers name holds (content file max too_long) (Ok None)
  content_none name None file max too_long used e gives = record { may = (None, inl (None, refl, refl)); told = tt }
  content_none name (Some files) file max too_long used e gives =
      record { may = (None, inl (None, refl, refl)); told = rw (e, gives) (inl (None, refl, refl)) }

  a_long_one : (file : F) (max : ℕ) (too_long : R) → MayAnswer (Err too_long) (content file max too_long)
  a_long_one file max too_long =
      let long = replicate (max + 1) 0 in
      let size : length long ≡ max + 1 = length-replicate (max + 1) 0 in
      let more : max < length long = rw size (omega arith) in
      (Some long, inr (too_long, within_long max too_long (λ found result. result ≡ Ok found) long more, refl))

  -- the file was too long
  pub content_long : (name : F → List ℕ) (holds : Option Files) (file : F) (max : ℕ) (too_long : R) (used : List ℕ) → name file ≡ used
      → IfSome holds (λ files. ReadGives (files used) max (Err TooLong)) → Answers name holds (content file max too_long) (Err too_long)
  content_long name None file max too_long used e gives = record { may = a_long_one file max too_long; told = tt }
  content_long name (Some files) file max too_long used e gives =
      record { may = a_long_one file max too_long; told = rw (e, gives.1) (inr (too_long, within_long max too_long (λ found result. result ≡ Ok found) gives.0 gives.2, refl)) }

-- ---- what a file comes to, from its content

-- what a file comes to is the answer
ends_so : {V R : Type 0} (comes : Result V R → Type 0) (result : Result V R) → comes result → Leads comes (λ value. ◌≡◌ {A = Result V R} (Ok value) result) result
ends_so comes (Ok value) is = inl (value, is, refl)
ends_so comes (Err refusal) is = inr (refusal, is, refl)

module _ {F V R : Type 0} (file : F) (max : ℕ) (too_long : R) (comes : Comes V R) where
  understood_at : (at found : Option (List ℕ)) (result : Result V R)
      → Leads (Within max too_long (λ found result. result ≡ Ok found) at) (λ value. ◌≡◌ {A = Result (Option (List ℕ)) R} (Ok value) (Ok found)) (Ok found)
      → comes found result → Leads (Within max too_long comes at) (λ value. ◌≡◌ {A = Result V R} (Ok value) result) result
  understood_at at found result (inl h) is =
      let e : h.0 ≡ found = cc in
      let w : Within max too_long (λ found result. result ≡ Ok found) at (Ok found) = subst (λ f. Within max too_long (λ found result. result ≡ Ok found) at (Ok f)) e h.1 in
      ends_so (Within max too_long comes at) result (read_within max too_long comes at found result w is)
  understood_at at found result (inr h) is = absurd (cc)

  refused_at : (at : Option (List ℕ)) (refusal : R)
      → Leads {A = Option (List ℕ)} (Within max too_long (λ found result. result ≡ Ok found) at) (λ value. ◌≡◌ {A = Result (Option (List ℕ)) R} (Ok value) (Err refusal)) (Err refusal)
      → Leads {A = V} (Within max too_long comes at) (λ value. ◌≡◌ {A = Result V R} (Ok value) (Err refusal)) (Err refusal)
  refused_at at refusal (inl h) = absurd (cc)
  refused_at at refusal (inr h) =
      let e : h.0 ≡ refusal = cc in
      let w : Within max too_long (λ found result. result ≡ Ok found) at (Err refusal) = subst (λ r. Within max too_long (λ found result. result ≡ Ok found) at (Err r)) e h.1 in
      ends_so (Within max too_long comes at) (Err refusal) (refused_within max too_long comes at refusal w)

  understood_answers : (name : F → List ℕ) (holds : Option Files) (found : Option (List ℕ)) (result : Result V R)
      → Answers name holds (content file max too_long) (Ok found) → comes found result → Answers name holds (file_of file max too_long comes) result
  understood_answers name None found result is h = record { may = (is.may.0, understood_at is.may.0 found result is.may.1 h); told = tt }
  understood_answers name (Some files) found result is h =
      record { may = (is.may.0, understood_at is.may.0 found result is.may.1 h); told = understood_at (files (name file)) found result is.told h }

  refused_answers : (name : F → List ℕ) (holds : Option Files) (refusal : R)
      → Answers name holds (content file max too_long) (Err refusal) → Answers name holds (file_of file max too_long comes) (Err refusal)
  refused_answers name None refusal is = record { may = (is.may.0, refused_at is.may.0 refusal is.may.1); told = tt }
  refused_answers name (Some files) refusal is =
      record { may = (is.may.0, refused_at is.may.0 refusal is.may.1); told = refused_at (files (name file)) refusal is.told }

  failed_asks : (name : F → List ℕ) (holds : Option Files) (other : F) → Asks name holds (content file max too_long) other → Asks name holds (file_of file max too_long comes) other
  failed_asks name None other is = record { may = first_asked is.may; told = tt } where
    first_asked : MayAsk other (content file max too_long) → MayAsk other (file_of file max too_long comes)
    first_asked (inl e) = inl e
    first_asked (inr h) = absurd h.3
  failed_asks name (Some files) other is = record { may = first_asked is.may; told = now_asked is.told } where
    first_asked : MayAsk other (content file max too_long) → MayAsk other (file_of file max too_long comes)
    first_asked (inl e) = inl e
    first_asked (inr h) = absurd h.3

    now_asked : IsAsked other (λ f. files (name f)) (content file max too_long) → IsAsked other (λ f. files (name f)) (file_of file max too_long comes)
    now_asked (inl e) = inl e
    now_asked (inr h) = absurd h.2

  -- a content that was read, and what was made of it
  pub reads_understood : (name : F → List ℕ) (old new : ShelfState) (found : Option (List ℕ)) (result : Result V (Stop F R))
      → Reads name old new (content file max too_long) (Ok found) → Gives (comes found) result → Reads name old new (file_of file max too_long comes) result
  reads_understood name old new found (Ok value) reads gives =
      record { kept = reads.kept; ends = (reads.ends.0, understood_answers name old.holds found (Ok value) reads.ends.1 gives) }
  reads_understood name old new found (Err (Refused refusal)) reads gives =
      record { kept = reads.kept; ends = (reads.ends.0, understood_answers name old.holds found (Err refusal) reads.ends.1 gives) }
  reads_understood name old new found (Err (ReadFailed other)) reads gives = absurd gives
  reads_understood name old new found (Err NoMemory) reads gives = record { kept = reads.kept; ends = reads.ends.0 }

  -- a content that was not read
  pub reads_unread : (name : F → List ℕ) (old new : ShelfState) (stop : Stop F R)
      → Reads name old new (content file max too_long) (Err stop) → Reads name old new (file_of file max too_long comes) (Err stop)
  reads_unread name old new (Refused refusal) reads =
      record { kept = reads.kept; ends = (reads.ends.0, refused_answers name old.holds refusal reads.ends.1) }
  reads_unread name old new (ReadFailed other) reads =
      record { kept = reads.kept; ends = (reads.ends.0, reads.ends.1, failed_asks name old.holds other reads.ends.2) }
  reads_unread name old new NoMemory reads = record { kept = reads.kept; ends = reads.ends }

-- ---- one reading after another

quiet_twice : (old mid new : ShelfState) → IsQuiet old mid → IsQuiet mid new → IsQuiet old new
quiet_twice old mid new a b = record { count = b.count ∙ a.count; name = b.name ∙ a.name }

-- a file leads to the same refusal, or on from each value
leads_as : {R V A B : Type 0} (comes : Result V R → Type 0) (P Q : V → Type 0) (one : Result A R) (other : Result B R)
    → ((value : V) → P value → Q value) → ((refusal : R) → one ≡ Err refusal → other ≡ Err refusal) → Leads comes P one → Leads comes Q other
leads_as comes P Q one other f g (inl h) = inl (h.0, h.1, f h.0 h.2)
leads_as comes P Q one other f g (inr h) = inr (h.0, h.1, g h.0 h.2)

same_refusal : {R A B : Type 0} (refusal other : R) → ◌≡◌ {A = Result A R} (Err refusal) (Err other) → ◌≡◌ {A = Result B R} (Err refusal) (Err other)
same_refusal refusal other e = let d : refusal ≡ other = cc in ap Err d

no_refusal : {R A B : Type 0} (value : A) (result : Result B R) (refusal : R) → ◌≡◌ {A = Result A R} (Ok value) (Err refusal) → result ≡ Err refusal
no_refusal value result refusal e = absurd (cc)

module _ {F R A B : Type 0} where
  may_err : (plan : Asking F R A) (next : A → Asking F R B) (refusal : R) → MayAnswer (Err refusal) plan → MayAnswer (Err refusal) (and_then plan next)
  may_err (done (Ok value)) next refusal may = absurd (cc)
  may_err (done (Err e)) next refusal may = same_refusal e refusal may
  may_err (ask file comes first) next refusal may = (
    may.0,
    leads_as (comes may.0) (λ value. MayAnswer (Err refusal) (first value)) (λ value. MayAnswer (Err refusal) (and_then (first value) next))
        (Err refusal) (Err refusal) (λ value m. may_err (first value) next refusal m) (λ r e. same_refusal refusal r e) may.1,
  )

  may_next : (plan : Asking F R A) (next : A → Asking F R B) (value : A) (result : Result B R) → MayAnswer (Ok value) plan → MayAnswer result (next value)
      → MayAnswer result (and_then plan next)
  may_next (done (Ok other)) next value result may then_may =
      let e : value ≡ other = cc in let P : A → Type 0 = λ v. MayAnswer result (next v) in subst P e then_may
  may_next (done (Err e)) next value result may then_may = absurd (cc)
  may_next (ask file comes first) next value result may then_may = (
    may.0,
    leads_as (comes may.0) (λ v. MayAnswer (Ok value) (first v)) (λ v. MayAnswer result (and_then (first v) next))
        (Ok value) result (λ v m. may_next (first v) next value result m then_may) (λ r e. no_refusal value result r e) may.1,
  )

  ask_first : (plan : Asking F R A) (next : A → Asking F R B) (file : F) → MayAsk file plan → MayAsk file (and_then plan next)
  ask_first (done result) next file may = absurd may
  ask_first (ask other comes first) next file (inl e) = inl e
  ask_first (ask other comes first) next file (inr may) = inr (may.0, may.1, may.2, ask_first (first may.1) next file may.3)

  ask_next : (plan : Asking F R A) (next : A → Asking F R B) (value : A) (file : F) → MayAnswer (Ok value) plan → MayAsk file (next value) → MayAsk file (and_then plan next)
  ask_next (done (Ok other)) next value file may then_may =
      let e : value ≡ other = cc in let P : A → Type 0 = λ v. MayAsk file (next v) in subst P e then_may
  ask_next (done (Err e)) next value file may then_may = absurd (cc)
  ask_next (ask other comes first) next value file (found, inl h) then_may = inr (found, h.0, h.1, ask_next (first h.0) next value file h.2 then_may)
  ask_next (ask other comes first) next value file (found, inr h) then_may = absurd (cc)

  answer_err : (contents : F → Option (List ℕ)) (plan : Asking F R A) (next : A → Asking F R B) (refusal : R) → IsAnswer contents plan (Err refusal)
      → IsAnswer contents (and_then plan next) (Err refusal)
  answer_err contents (done (Ok value)) next refusal is = absurd (cc)
  answer_err contents (done (Err e)) next refusal is = same_refusal e refusal is
  answer_err contents (ask file comes first) next refusal is =
      leads_as (comes (contents file)) (λ value. IsAnswer contents (first value) (Err refusal)) (λ value. IsAnswer contents (and_then (first value) next) (Err refusal))
      (Err refusal) (Err refusal) (λ value m. answer_err contents (first value) next refusal m) (λ r e. same_refusal refusal r e) is

  answer_next : (contents : F → Option (List ℕ)) (plan : Asking F R A) (next : A → Asking F R B) (value : A) (result : Result B R) → IsAnswer contents plan (Ok value)
      → IsAnswer contents (next value) result → IsAnswer contents (and_then plan next) result
  answer_next contents (done (Ok other)) next value result is more =
      let e : value ≡ other = cc in let P : A → Type 0 = λ v. IsAnswer contents (next v) result in subst P e more
  answer_next contents (done (Err e)) next value result is more = absurd (cc)
  answer_next contents (ask file comes first) next value result is more =
      leads_as (comes (contents file)) (λ v. IsAnswer contents (first v) (Ok value)) (λ v. IsAnswer contents (and_then (first v) next) result)
      (Ok value) result (λ v m. answer_next contents (first v) next value result m more) (λ r e. no_refusal value result r e) is

  asked_first : (contents : F → Option (List ℕ)) (plan : Asking F R A) (next : A → Asking F R B) (file : F) → IsAsked file contents plan → IsAsked file contents (and_then plan next)
  asked_first contents (done result) next file is = absurd is
  asked_first contents (ask other comes first) next file (inl e) = inl e
  asked_first contents (ask other comes first) next file (inr is) = inr (is.0, is.1, asked_first contents (first is.0) next file is.2)

  asked_next : (contents : F → Option (List ℕ)) (plan : Asking F R A) (next : A → Asking F R B) (value : A) (file : F) → IsAnswer contents plan (Ok value)
      → IsAsked file contents (next value) → IsAsked file contents (and_then plan next)
  asked_next contents (done (Ok other)) next value file e is =
      let same : value ≡ other = cc in let P : A → Type 0 = λ v. IsAsked file contents (next v) in subst P same is
  asked_next contents (done (Err other)) next value file e is = absurd (cc)
  asked_next contents (ask other comes first) next value file (inl h) is = inr (h.0, h.1, asked_next contents (first h.0) next value file h.2 is)
  asked_next contents (ask other comes first) next value file (inr h) is = absurd (cc)

  -- where the first reading is refused, so are both
  answers_err : (name : F → List ℕ) (holds : Option Files) (plan : Asking F R A) (next : A → Asking F R B) (refusal : R)
      → Answers name holds plan (Err refusal) → Answers name holds (and_then plan next) (Err refusal)
  answers_err name None plan next refusal is = record { may = may_err plan next refusal is.may; told = tt }
  answers_err name (Some files) plan next refusal is =
      record { may = may_err plan next refusal is.may; told = answer_err (λ f. files (name f)) plan next refusal is.told }

  answers_next : (name : F → List ℕ) (holds : Option Files) (plan : Asking F R A) (next : A → Asking F R B) (value : A) (result : Result B R)
      → Answers name holds plan (Ok value) → Answers name holds (next value) result → Answers name holds (and_then plan next) result
  answers_next name None plan next value result is more = record { may = may_next plan next value result is.may more.may; told = tt }
  answers_next name (Some files) plan next value result is more =
      record { may = may_next plan next value result is.may more.may; told = answer_next (λ f. files (name f)) plan next value result is.told more.told }

  asks_first : (name : F → List ℕ) (holds : Option Files) (plan : Asking F R A) (next : A → Asking F R B) (file : F)
      → Asks name holds plan file → Asks name holds (and_then plan next) file
  asks_first name None plan next file is = record { may = ask_first plan next file is.may; told = tt }
  asks_first name (Some files) plan next file is =
      record { may = ask_first plan next file is.may; told = asked_first (λ f. files (name f)) plan next file is.told }

  asks_next : (name : F → List ℕ) (holds : Option Files) (plan : Asking F R A) (next : A → Asking F R B) (value : A) (file : F)
      → Answers name holds plan (Ok value) → Asks name holds (next value) file → Asks name holds (and_then plan next) file
  asks_next name None plan next value file is more = record { may = ask_next plan next value file is.may more.may; told = tt }
  asks_next name (Some files) plan next value file is more =
      record { may = ask_next plan next value file is.may more.may; told = asked_next (λ f. files (name f)) plan next value file is.told more.told }

  -- one reading that stops, and two readings one after the other
  pub reads_stop : (name : F → List ℕ) (old new : ShelfState) (plan : Asking F R A) (next : A → Asking F R B) (stop : Stop F R)
      → Reads name old new plan (Err stop) → Reads name old new (and_then plan next) (Err stop)
  reads_stop name old new plan next (Refused refusal) reads =
      record { kept = reads.kept; ends = (reads.ends.0, answers_err name old.holds plan next refusal reads.ends.1) }
  reads_stop name old new plan next (ReadFailed file) reads =
      record { kept = reads.kept; ends = (reads.ends.0, reads.ends.1, asks_first name old.holds plan next file reads.ends.2) }
  reads_stop name old new plan next NoMemory reads = record { kept = reads.kept; ends = reads.ends }

  pub reads_next : (name : F → List ℕ) (old mid new : ShelfState) (plan : Asking F R A) (next : A → Asking F R B) (value : A) (result : Result B (Stop F R))
      → Reads name old mid plan (Ok value) → Reads name mid new (next value) result → Reads name old new (and_then plan next) result
  reads_next name old mid new plan next value (Ok more) first second =
      let P : Option Files → Type 0 = λ h. Answers name h (next value) (Ok more) in
      record { kept = second.kept ∙ first.kept; ends = (quiet_twice old mid new first.ends.0 second.ends.0, answers_next name old.holds plan next value (Ok more) first.ends.1 (subst P first.kept second.ends.1)) }
  reads_next name old mid new plan next value (Err (Refused refusal)) first second =
      let P : Option Files → Type 0 = λ h. Answers name h (next value) (Err refusal) in
      record { kept = second.kept ∙ first.kept; ends = (quiet_twice old mid new first.ends.0 second.ends.0, answers_next name old.holds plan next value (Err refusal) first.ends.1 (subst P first.kept second.ends.1)) }
  reads_next name old mid new plan next value (Err (ReadFailed file)) first second =
      let P : Option Files → Type 0 = λ h. Asks name h (next value) file in
      let Q : ℕ → Type 0 = λ n. Rose n new.faults in
      record { kept = second.kept ∙ first.kept; ends = (subst Q first.ends.0.count second.ends.0, second.ends.1, asks_next name old.holds plan next value file first.ends.1 (subst P first.kept second.ends.2)) }
  reads_next name old mid new plan next value (Err NoMemory) first second =
      record { kept = second.kept ∙ first.kept; ends = quiet_twice old mid new first.ends.0 second.ends }

-- ---- nothing to do

pub reads_done : {F R A : Type 0} (name : F → List ℕ) (shelf : ShelfState) (value : A) → Reads {F = F} {R = R} name shelf shelf (done (Ok value)) (Ok value)
reads_done name shelf value = record { kept = refl; ends = (record { count = refl; name = refl }, no_files name shelf.holds value) } where
  no_files : {F R A : Type 0} (name : F → List ℕ) (holds : Option Files) (value : A) → Answers {F = F} {R = R} name holds (done (Ok value)) (Ok value)
  no_files name None value = record { may = refl; told = tt }
  no_files name (Some files) value = record { may = refl; told = refl }

-- ---- one answer

module _ {F R A : Type 0} (contents : F → Option (List ℕ)) where
  same_error : {V : Type 0} (one other : Result A R) (a b : R) → ◌≡◌ {A = Result V R} (Err a) (Err b) → one ≡ Err a → other ≡ Err b → one ≡ other
  same_error one other a b e f g = let d : a ≡ b = cc in f ∙ ap Err d ∙ sym g

  pub answer_once : (plan : Asking F R A) (one other : Result A R) → IsSingle plan → IsAnswer contents plan one → IsAnswer contents plan other → one ≡ other
  answer_once (done given) one other single x y = sym x ∙ y
  answer_once (ask file comes next) one other single (inl a) (inl b) =
      let same = single.0 (contents file) (Ok a.0) (Ok b.0) a.1 b.1 in
      let e : a.0 ≡ b.0 = cc in
      answer_once (next b.0) one other (single.1 b.0) (subst (λ v. IsAnswer contents (next v) one) e a.2) b.2
  answer_once (ask file comes next) one other single (inl a) (inr b) =
      let same = single.0 (contents file) (Ok a.0) (Err b.0) a.1 b.1 in absurd (cc)
  answer_once (ask file comes next) one other single (inr a) (inl b) =
      let same = single.0 (contents file) (Err a.0) (Ok b.0) a.1 b.1 in absurd (cc)
  answer_once (ask file comes next) one other single (inr a) (inr b) =
      same_error one other a.0 b.0 (single.0 (contents file) (Err a.0) (Err b.0) a.1 b.1) a.2 b.2

-- a reading that goes on from another one has one answer where both have
pub single_next : {F R A B : Type 0} (plan : Asking F R A) (next : A → Asking F R B) → IsSingle plan → ((value : A) → IsSingle (next value)) → IsSingle (and_then plan next)
single_next (done (Ok value)) next single more = more value
single_next (done (Err refusal)) next single more = tt
single_next (ask file comes first) next single more = (single.0, λ value. single_next (first value) next (single.1 value) more)

single_longer : {V R : Type 0} (b : Bool) (too_long : R) (comes : Result V R → Type 0) → ((one other : Result V R) → comes one → comes other → one ≡ other)
    → (one other : Result V R) → if_longer b too_long comes one → if_longer b too_long comes other → one ≡ other
single_longer true too_long comes single one other x y = x ∙ sym y
single_longer false too_long comes single one other x y = single one other x y

single_within : {V R : Type 0} (max : ℕ) (too_long : R) (comes : Comes V R) → ((found : Option (List ℕ)) (one other : Result V R) → comes found one → comes found other → one ≡ other)
    → (found : Option (List ℕ)) (one other : Result V R) → Within max too_long comes found one → Within max too_long comes found other → one ≡ other
single_within max too_long comes single None one other x y = single None one other x y
single_within max too_long comes single (Some bytes) one other x y =
    single_longer (nat_lt max (length bytes)) too_long (comes (Some bytes)) (single (Some bytes)) one other x y

-- one file has one answer where its contents come to one
pub single_file : {F V R : Type 0} (file : F) (max : ℕ) (too_long : R) (comes : Comes V R)
    → ((found : Option (List ℕ)) (one other : Result V R) → comes found one → comes found other → one ≡ other) → IsSingle (file_of file max too_long comes)
single_file file max too_long comes single = (single_within max too_long comes single, λ value. tt)
