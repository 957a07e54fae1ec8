-- The clauses of a call, from what it has to say and how that was written.
use Rattle.std.proofs.Common.{◌≡◌, ◌⊎◌, ℕ, zero, suc, ◌<◌, ◌≤◌, List, [], Option, Some, None, Result, Ok, Err, refl, sym, ◌∙◌, subst, ap, inl, inr, arith}
use Rattle.checker_io.specs.Faults.{Rose}
use Rattle.checker_io.specs.Shelf.{Files, ShelfState}
use Rattle.checker_io.specs.Sink.{SinkState, Took, TookPrefix}
use Rattle.command_words.specs.declared.request.Request.{Request}
use Rattle.command_words.specs.declared.request.Request.TheVariants as words
use Rattle.checker_input.specs.declared.faults.InputRefusal.{InputRefusal}
use Rattle.checker_input.specs.Input.{input}
use Rattle.checker_calls.specs.declared.faults.CallRefusal.{CallRefusal}
use Rattle.checker_calls.specs.declared.faults.CallRefusal.TheVariants.{Usage}
use Rattle.checker_calls.specs.declared.deliver.Reply.{Reply}
use Rattle.checker_calls.specs.declared.deliver.Reply.TheVariants.{Text, Refused, ReadFailed, NoMemory}
use Rattle.checker_calls.specs.ErrorLines.{refusal_line, write_failed_line, no_memory_line}
use Rattle.checker_calls.specs.Delivery.{LineEnds, Delivers}
use Rattle.checker_calls.specs.declared.work.Work.{Work}
use Rattle.checker_calls.specs.Works.{work_in, IsTextOfWork, IsWorkRefusal, CanCompleteWork, MayEndWork}
use Rattle.checker_calls.specs.Top.{FilesGive, FilesGiveOver, IsRequestRefusal, IsAnswerText, IsRefusal, IsRefusalLine, Replies, Reported, SaidRefusal, SaidReadFailed, FailedToWrite, RanOut, NoneRose, OverFiles, Completes, Refuses}
use Rattle.checker_calls.proofs.Works.{OneWork, work_or_refusal, refused_or_complete, work_small, work_ends}
use Rattle.checker_calls.proofs.Took.{took_none}

-- words that fit no form
pub usage_said : (given : Result Request ℕ) (holds : Option Files) (word : ℕ) (line : List ℕ) → given ≡ Err word
    → line ≡ refusal_line (Usage word) → IsRefusalLine given holds line
usage_said given holds word line e is =
    let P : Result Request ℕ → Type 0 = λ r. IsRefusalLine r holds line in
    subst P (sym e) (record { refusal = Usage word; is_refusal = refl; line_is = is })

answer_small : {given : Result Request ℕ} {holds : Option Files} {text : List ℕ} {status : ℕ} → IsAnswerText given holds text status → status ≤ 2
answer_small is = work_small is.work _ _ is.of_work

same_none : (old new : SinkState) → new ≡ old → Took old.taken new.taken []
same_none old new e = let P : SinkState → Type 0 = λ s. Took old.taken s.taken [] in subst P (sym e) (took_none old.taken)

-- the status after a line is the given one, or 5 or 6
line_status : (old new : SinkState) (line : List ℕ) (given status : ℕ) → LineEnds old new line given status
    → (status ≡ given) ⊎ ((status ≡ 5) ⊎ (status ≡ 6))
line_status old new line given status (inl ends) = inl ends.0
line_status old new line given status (inr (inl ends)) = inr (inl ends.0)
line_status old new line given status (inr (inr ends)) = inr (inr ends.0)

line_high : (old new : SinkState) (line : List ℕ) (given status : ℕ) → LineEnds old new line given status → 3 ≤ given → given ≤ 6
    → (3 ≤ status) × (status ≤ 6)
line_high old new line given status ends low high =
    elim (line_status old new line given status ends) [ inl a ↦ (omega arith, omega arith) | inr b ↦ elim b [ inl c ↦ (omega arith, omega arith) | inr d ↦ (omega arith, omega arith) ] ]

same_count : (old new : SinkState) → new ≡ old → new.faults ≡ old.faults
same_count old new e = ap (λ s. s.faults) e

-- below 5, no write failed
line_quiet : (old new : SinkState) (line : List ℕ) (given status : ℕ) → LineEnds old new line given status → status < 5 → new.faults ≡ old.faults
line_quiet old new line given status (inl ends) lt = ends.1
line_quiet old new line given status (inr (inl ends)) lt = absurd (omega arith)
line_quiet old new line given status (inr (inr ends)) lt = absurd (omega arith)

-- below 5, the line was taken
line_taken : (old new : SinkState) (line : List ℕ) (given status : ℕ) → LineEnds old new line given status → status < 5 → Took old.taken new.taken line
line_taken old new line given status (inl ends) lt = ends.2
line_taken old new line given status (inr (inl ends)) lt = absurd (omega arith)
line_taken old new line given status (inr (inr ends)) lt = absurd (omega arith)

-- at 6, a part of it was
line_part : (old new : SinkState) (line : List ℕ) (given status : ℕ) → LineEnds old new line given status → status ≡ 6 → given ≤ 5 → TookPrefix old.taken new.taken line
line_part old new line given status (inl ends) is le = absurd (omega arith)
line_part old new line given status (inr (inl ends)) is le = absurd (omega arith)
line_part old new line given status (inr (inr ends)) is le = ends.1

-- at 5, where the line's own status is another, the sink failed
line_failed : (old new : SinkState) (line : List ℕ) (given status : ℕ) → LineEnds old new line given status → status ≡ 5 → given < 5
    → Rose old.faults new.faults × TookPrefix old.taken new.taken line
line_failed old new line given status (inl ends) is lt = absurd (omega arith)
line_failed old new line given status (inr (inl ends)) is lt = (ends.1, ends.2)
line_failed old new line given status (inr (inr ends)) is lt = absurd (omega arith)

-- at 5, for the line that says so
said_failed : (old new : SinkState) (line : List ℕ) (status : ℕ) → LineEnds old new line 5 status → status ≡ 5
    → Took old.taken new.taken line ⊎ (Rose old.faults new.faults × TookPrefix old.taken new.taken line)
said_failed old new line status (inl ends) is = inl ends.2
said_failed old new line status (inr (inl ends)) is = inr (ends.1, ends.2)
said_failed old new line status (inr (inr ends)) is = absurd (omega arith)

module _ (given : Result Request ℕ) (s0 s1 : ShelfState) (o0 o1 e0 e1 : SinkState) (status : ℕ) where
  pub call_statuses : (reply : Reply) → Replies given s0 s1 reply → Delivers reply o0 o1 e0 e1 status → status ≤ 6
  call_statuses (Text text wanted) says (inl ends) = omega (arith, answer_small says.1)
  call_statuses (Text text wanted) says (inr (inl ends)) = (line_high e0 e1 write_failed_line 5 status ends.2 (omega arith) (omega arith)).1
  call_statuses (Text text wanted) says (inr (inr ends)) = omega arith
  call_statuses (Refused line) says ends = (line_high e0 e1 line 3 status ends.1 (omega arith) (omega arith)).1
  call_statuses (ReadFailed line) says ends = (line_high e0 e1 line 4 status ends.1 (omega arith) (omega arith)).1
  call_statuses NoMemory says ends = omega arith

  pub call_reported : (reply : Reply) → Replies given s0 s1 reply → Delivers reply o0 o1 e0 e1 status → status ≤ 2 → Reported given s0 s1 o0 o1 e0 e1 status
  call_reported (Text text wanted) says (inl ends) le =
      let P : ℕ → Type 0 = λ n. IsAnswerText given s0.holds text n in
      record { quiet = says.0; written = record { out = ends.1; err = same_count e0 e1 ends.3 }; text = text; is_text = subst P (sym ends.0) says.1; taken = ends.2; silent = same_none e0 e1 ends.3 }
  call_reported (Text text wanted) says (inr (inl ends)) le = let high = line_high e0 e1 write_failed_line 5 status ends.2 (omega arith) (omega arith) in absurd (omega arith)
  call_reported (Text text wanted) says (inr (inr ends)) le = absurd (omega arith)
  call_reported (Refused line) says ends le = let high = line_high e0 e1 line 3 status ends.1 (omega arith) (omega arith) in absurd (omega arith)
  call_reported (ReadFailed line) says ends le = let high = line_high e0 e1 line 4 status ends.1 (omega arith) (omega arith) in absurd (omega arith)
  call_reported NoMemory says ends le = absurd (omega arith)

  -- a text's status is none of 3, 4, 5 and 6
  not_reported : (n : ℕ) (text : List ℕ) (wanted : ℕ) → IsAnswerText given s0.holds text wanted → status ≡ wanted → status ≡ n → 2 < n → ⊥
  not_reported n text wanted is e f lt = let small = answer_small is in omega arith

  not_line : (n k : ℕ) (line : List ℕ) → LineEnds e0 e1 line k status → status ≡ n → n < 5 → (k ≡ n → ⊥) → ⊥
  not_line n k line ends is lt ne = elim (line_status e0 e1 line k status ends) [ inl a ↦ ne (sym a ∙ is) | inr b ↦ elim b [ inl c ↦ omega arith | inr d ↦ omega arith ] ]

  pub call_refused : (reply : Reply) → Replies given s0 s1 reply → Delivers reply o0 o1 e0 e1 status → status ≡ 3 → SaidRefusal given s0 s1 o0 o1 e0 e1
  call_refused (Text text wanted) says (inl ends) is = absurd (not_reported 3 text wanted says.1 ends.0 is (omega arith))
  call_refused (Text text wanted) says (inr (inl ends)) is = absurd (not_line 3 5 write_failed_line ends.2 is (omega arith) (λ e. omega arith))
  call_refused (Text text wanted) says (inr (inr ends)) is = absurd (omega arith)
  call_refused (Refused line) says ends is =
      record { quiet = says.0; written = record { out = same_count o0 o1 ends.0; err = line_quiet e0 e1 line 3 status ends.1 (omega arith) }; line = line; is_line = says.1; nothing = same_none o0 o1 ends.0; taken = line_taken e0 e1 line 3 status ends.1 (omega arith) }
  call_refused (ReadFailed line) says ends is = absurd (not_line 3 4 line ends.1 is (omega arith) (λ e. omega arith))
  call_refused NoMemory says ends is = absurd (omega arith)

  pub call_read_failed : (reply : Reply) → Replies given s0 s1 reply → Delivers reply o0 o1 e0 e1 status → status ≡ 4 → SaidReadFailed given s0 s1 o0 o1 e0 e1
  call_read_failed (Text text wanted) says (inl ends) is = absurd (not_reported 4 text wanted says.1 ends.0 is (omega arith))
  call_read_failed (Text text wanted) says (inr (inl ends)) is = absurd (not_line 4 5 write_failed_line ends.2 is (omega arith) (λ e. omega arith))
  call_read_failed (Text text wanted) says (inr (inr ends)) is = absurd (omega arith)
  call_read_failed (Refused line) says ends is = absurd (not_line 4 3 line ends.1 is (omega arith) (λ e. omega arith))
  call_read_failed (ReadFailed line) says ends is =
      record { rose = says.0; written = record { out = same_count o0 o1 ends.0; err = line_quiet e0 e1 line 4 status ends.1 (omega arith) }; line = line; is_line = says.1; nothing = same_none o0 o1 ends.0; taken = line_taken e0 e1 line 4 status ends.1 (omega arith) }
  call_read_failed NoMemory says ends is = absurd (omega arith)

  pub call_write_failed : (reply : Reply) → Replies given s0 s1 reply → Delivers reply o0 o1 e0 e1 status → status ≡ 5 → FailedToWrite given s0 s1 o0 o1 e0 e1
  call_write_failed (Text text wanted) says (inl ends) is = absurd (not_reported 5 text wanted says.1 ends.0 is (omega arith))
  call_write_failed (Text text wanted) says (inr (inl ends)) is =
      inl (record { rose = ends.0; quiet = says.0; text = text; wanted = wanted; is_text = says.1; part = ends.1; said = said_failed e0 e1 _ status ends.2 is })
  call_write_failed (Text text wanted) says (inr (inr ends)) is = absurd (omega arith)
  call_write_failed (Refused line) says ends is =
      let failed = line_failed e0 e1 line 3 status ends.1 is (omega arith) in
      inr (record { rose = failed.0; line = line; is_line = inl (says.0, says.1); nothing = same_none o0 o1 ends.0; part = failed.1 })
  call_write_failed (ReadFailed line) says ends is =
      let failed = line_failed e0 e1 line 4 status ends.1 is (omega arith) in
      inr (record { rose = failed.0; line = line; is_line = inr (says.0, says.1); nothing = same_none o0 o1 ends.0; part = failed.1 })
  call_write_failed NoMemory says ends is = absurd (omega arith)

  pub call_ran_out : (reply : Reply) → Replies given s0 s1 reply → Delivers reply o0 o1 e0 e1 status → status ≡ 6 → RanOut given s0 s1 o0 o1 e0 e1
  call_ran_out (Text text wanted) says (inl ends) is = absurd (not_reported 6 text wanted says.1 ends.0 is (omega arith))
  call_ran_out (Text text wanted) says (inr (inl ends)) is = record {
    text_part = inr (record { quiet = says.0; text = text; wanted = wanted; is_text = says.1; part = ends.1 });
    line = write_failed_line;
    is_line = inr (inl (ends.0, refl));
    line_part = line_part e0 e1 _ 5 status ends.2 is (omega arith);
  }
  call_ran_out (Text text wanted) says (inr (inr ends)) is = record {
    text_part = inr (record { quiet = says.0; text = text; wanted = wanted; is_text = says.1; part = ends.0 });
    line = no_memory_line;
    is_line = inr (inr refl);
    line_part = ends.1.1;
  }
  call_ran_out (Refused line) says ends is = record {
    text_part = inl (same_none o0 o1 ends.0);
    line = line;
    is_line = inl (inl (says.0, says.1));
    line_part = line_part e0 e1 line 3 status ends.1 is (omega arith);
  }
  call_ran_out (ReadFailed line) says ends is = record {
    text_part = inl (same_none o0 o1 ends.0);
    line = line;
    is_line = inl (inr (says.0, says.1));
    line_part = line_part e0 e1 line 4 status ends.1 is (omega arith);
  }
  call_ran_out NoMemory says ends is = record {
    text_part = inl (same_none o0 o1 ends.0);
    line = no_memory_line;
    is_line = inr (inr refl);
    line_part = ends.1.1;
  }

-- the seven statuses
status_cases : (n : ℕ) → n ≤ 6 → (n ≤ 2) ⊎ ((n ≡ 3) ⊎ ((n ≡ 4) ⊎ ((n ≡ 5) ⊎ (n ≡ 6))))
status_cases zero le = inl (omega arith)
status_cases (suc zero) le = inl (omega arith)
status_cases (suc (suc zero)) le = inl (omega arith)
status_cases (suc (suc (suc zero))) le = inr (inl refl)
status_cases (suc (suc (suc (suc zero)))) le = inr (inr (inl refl))
status_cases (suc (suc (suc (suc (suc zero))))) le = inr (inr (inr (inl refl)))
status_cases (suc (suc (suc (suc (suc (suc n)))))) le = inr (inr (inr (inr (omega arith))))

-- over the files of a shelf, or over any, a statement follows from another, and what always holds does
over_map : (request : Request) (holds : Option Files) (P Q : Files → Type 0) → ((files : Files) → P files → Q files)
    → OverFiles request holds P → OverFiles request holds Q
over_map (words.Load number limit) holds P Q q x = λ files. q files (x files)
over_map request None P Q q x = tt
over_map request (Some files) P Q q x = q files x

over_all : (request : Request) (holds : Option Files) (Q : Files → Type 0) → ((files : Files) → Q files) → OverFiles request holds Q
over_all (words.Load number limit) holds Q q = q
over_all request None Q q = tt
over_all request (Some files) Q q = q files

-- the files of a request come to one work or refusal
abbrev IsOnly : Request → Result Work InputRefusal → Files → Type 0
IsOnly request one files = (other : Result Work InputRefusal) → FilesGiveOver request files other → other ≡ one

comes_once : OneWork → (request : Request) (holds : Option Files) (one : Result Work InputRefusal) → FilesGive request holds one
    → OverFiles request holds (IsOnly request one)
unfolding work_in input
comes_once once (words.Load number limit) holds one is = λ files other gives. sym gives ∙ is.may
comes_once once request None one is = tt
comes_once once request (Some files) one is = λ other gives. sym (once request files one other is.told gives)

told_once : OneWork → (request : Request) (holds : Option Files) (one : Result Work InputRefusal) (P : Result Work InputRefusal → Type 0) (other : Result Work InputRefusal)
    → FilesGive request holds one → P one → OverFiles request holds (λ files. FilesGiveOver request files other → P other)
told_once once request holds one P other is p =
    over_map request holds (IsOnly request one) (λ files. FilesGiveOver request files other → P other)
    (λ files only gives. subst P (sym (only other gives)) p) (comes_once once request holds one is)

pub same_work : {a b : Work} → ◌≡◌ {A = Result Work InputRefusal} (Ok a) (Ok b) → a ≡ b
same_work e = cc

pub work_or_fault : {a : Work} {fault : InputRefusal} → ◌≡◌ {A = Result Work InputRefusal} (Ok a) (Err fault) → ⊥
work_or_fault e = cc

-- a request whose text was written is not refused
told_text : OneWork → (request : Request) (holds : Option Files) (work : Work) (text : List ℕ) (status : ℕ) (refusal : CallRefusal) (A : Type 0)
    → FilesGive request holds (Ok work) → IsTextOfWork work text status
    → OverFiles request holds (λ files. IsRequestRefusal request (FilesGiveOver request files) refusal → A)
told_text once request holds work text status refusal A is of_work =
    over_map request holds (IsOnly request (Ok work)) (λ files. IsRequestRefusal request (FilesGiveOver request files) refusal → A)
    (λ files only refused. elim refused [
      | inl a ↦ absurd (work_or_fault (sym (only (Err a.0) a.2)))
      | inr b ↦ let same = same_work (only (Ok b.0) b.3) in
          absurd (work_or_refusal work text status b.1 of_work (subst (λ (w : Work). IsWorkRefusal w b.1) same b.4))
    ])
    (comes_once once request holds (Ok work) is)

pub same_request : {a b : Request} → ◌≡◌ {A = Result Request ℕ} (Ok a) (Ok b) → a ≡ b
same_request e = cc

request_or_word : {a : Request} {word : ℕ} → ◌≡◌ {A = Result Request ℕ} (Ok a) (Err word) → ⊥
request_or_word e = cc

module _ (once : OneWork) (given : Result Request ℕ) (s0 s1 : ShelfState) (o0 o1 e0 e1 : SinkState) (status : ℕ)
    (none : NoneRose s0 s1 o0 o1 e0 e1) (le : status ≤ 6)
    (reported : status ≤ 2 → Reported given s0 s1 o0 o1 e0 e1 status)
    (refused : status ≡ 3 → SaidRefusal given s0 s1 o0 o1 e0 e1)
    (read_failed : status ≡ 4 → SaidReadFailed given s0 s1 o0 o1 e0 e1)
    (write_failed : status ≡ 5 → FailedToWrite given s0 s1 o0 o1 e0 e1) where
  not_failed : FailedToWrite given s0 s1 o0 o1 e0 e1 → ⊥
  not_failed (inl text) = none.out text.rose
  not_failed (inr line) = none.err line.rose

  -- what is wanted of work
  abbrev CompletesWith : Result Work InputRefusal → Type 0
  CompletesWith (Ok work) = CanCompleteWork work → MayEndWork work status ⊎ (status ≡ 6)
  CompletesWith (Err fault) = Unit {0}

  -- a text is that of the request
  by_text : (request : Request) (text : List ℕ) (wanted : ℕ) → given ≡ Ok request → (is : IsAnswerText given s0.holds text wanted)
      → FilesGive request s0.holds (Ok is.work) × IsTextOfWork is.work text wanted
  by_text request text wanted e is =
      subst (λ (r : Request). FilesGive r s0.holds (Ok is.work) × IsTextOfWork is.work text wanted) (same_request (sym is.spelled ∙ e)) (is.read, is.of_work)

  -- a refusal is that of the request
  by_refusal : (request : Request) (refusal : CallRefusal) → given ≡ Ok request → IsRefusal given s0.holds refusal
      → IsRequestRefusal request (FilesGive request s0.holds) refusal
  by_refusal request refusal e is = let P : Result Request ℕ → Type 0 = λ r. IsRefusal r s0.holds refusal in subst P e is

  -- what was refused does not come to work that can be completed
  refused_completes : (request : Request) (work : Work) (refusal : CallRefusal) → IsRequestRefusal request (FilesGive request s0.holds) refusal
      → OverFiles request s0.holds (λ files. FilesGiveOver request files (Ok work) → CanCompleteWork work → MayEndWork work status ⊎ (status ≡ 6))
  refused_completes request work refusal (inl a) = told_once once request s0.holds (Err a.0) CompletesWith (Ok work) a.2 tt
  refused_completes request work refusal (inr b) =
      told_once once request s0.holds (Ok b.0) CompletesWith (Ok work) b.3
      (λ can. absurd (refused_or_complete b.0 b.1 b.4 can))

  pub call_complete : Completes given s0 status
  call_complete request work e = elim (status_cases status le) [
    | inl a ↦ let said = (reported a).is_text in
        told_once once request s0.holds (Ok said.work) CompletesWith (Ok work) (by_text request (reported a).text status e said).0
        (λ can. inl (work_ends said.work _ _ said.of_work))
    | inr b ↦ elim b [
      | inl c ↦ refused_completes request work (refused c).is_line.refusal (by_refusal request (refused c).is_line.refusal e (refused c).is_line.is_refusal)
      | inr d ↦ elim d [
        | inl f ↦ absurd (none.shelf (read_failed f).rose)
        | inr g ↦ elim g [
          | inl h ↦ absurd (not_failed (write_failed h))
          | inr i ↦ over_all request s0.holds (λ files. FilesGiveOver request files (Ok work) → CanCompleteWork work → MayEndWork work status ⊎ (status ≡ 6))
              (λ files gives can. inr i)
        ]
      ]
    ]
  ]

  no_word : (word : ℕ) (text : List ℕ) (wanted : ℕ) → given ≡ Err word → IsAnswerText given s0.holds text wanted → ⊥
  no_word word text wanted e is = request_or_word (sym is.spelled ∙ e)

  pub call_refuses : Refuses given s0 status
  call_refuses = (for_words, for_requests)
    where
      for_words : (word : ℕ) → given ≡ Err word → (status ≡ 3) ⊎ (status ≡ 6)
      for_words word e = elim (status_cases status le) [
        | inl a ↦ absurd (no_word word (reported a).text status e (reported a).is_text)
        | inr b ↦ elim b [
          | inl c ↦ inl c
          | inr d ↦ elim d [
            | inl f ↦ absurd (none.shelf (read_failed f).rose)
            | inr g ↦ elim g [
              | inl h ↦ absurd (not_failed (write_failed h))
              | inr i ↦ inr i
            ]
          ]
        ]
      ]

      for_requests : (request : Request) (refusal : CallRefusal) → given ≡ Ok request
          → OverFiles request s0.holds (λ files. IsRequestRefusal request (FilesGiveOver request files) refusal → (status ≡ 3) ⊎ (status ≡ 6))
      for_requests request refusal e = elim (status_cases status le) [
        | inl a ↦ let said = (reported a).is_text in let text = by_text request (reported a).text status e said in
            told_text once request s0.holds said.work (reported a).text status refusal ((status ≡ 3) ⊎ (status ≡ 6)) text.0 text.1
        | inr b ↦ elim b [
          | inl c ↦ over_all request s0.holds (λ files. IsRequestRefusal request (FilesGiveOver request files) refusal → (status ≡ 3) ⊎ (status ≡ 6))
              (λ files refuses. inl c)
          | inr d ↦ elim d [
            | inl f ↦ absurd (none.shelf (read_failed f).rose)
            | inr g ↦ elim g [
              | inl h ↦ absurd (not_failed (write_failed h))
              | inr i ↦ over_all request s0.holds (λ files. IsRequestRefusal request (FilesGiveOver request files) refusal → (status ≡ 3) ⊎ (status ≡ 6))
                  (λ files refuses. inr i)
            ]
          ]
        ]
      ]
