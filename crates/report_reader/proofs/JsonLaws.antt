-- The text of a value and a newline is UTF-8, and read as the value. Here stands nothing of reports.
use Rattle.std.proofs.Common.{◌≡◌, ◌^◌, ◌<◌, ◌≤◌, Bool, true, false, [], ◌∷◌, ◌++◌, Some, refl, decimal, IsUtf8}
use Rattle.std.specs.Prelude.{⊤}
use Rattle.std.proofs.lemmas.Str.{IsUtf8-append, IsUtf8-from_ascii}
use Rattle.std.proofs.lemmas.Fmt.{IsAscii-decimal}
use Rattle.json.specs.Print.{quoted}
use Rattle.json.specs.Tree as tree
use Rattle.json.proofs.Printed.Decimals.{IsNumber-decimal}
use Rattle.json.proofs.Printed.Utf8.{IsUtf8-are_ascii, IsUtf8-quoted, IsUtf8-boolean}
use Rattle.serde_json.specs.Data as data_
use Rattle.serde_json.specs.Data.{Num, Data, Items, Members}
use Rattle.serde_json.specs.Read.{of_json, max_depth}
use Rattle.serde_json.specs.Written.{outline, items_outline, members_outline, compact_text, items_text, members_text, comma_if}
use Rattle.report_json.proofs.NewlineRead.{text_read}
use Rattle.report_reader.specs.JsonAnswers.{Reads}

-- ---- values that are written and read back

abbrev TameNum : Num → Type 0
TameNum (data_.unsigned n) = n < 2 ^ 64
TameNum (data_.negative z) = ⊥
TameNum (data_.float x) = ⊥

abbrev mutual
  pub Tame : Data → Type 0
  Tame data_.null = ⊤
  Tame (data_.boolean b) = ⊤
  Tame (data_.number n) = TameNum n
  Tame (data_.string s) = IsUtf8 s
  Tame (data_.array ds) = TameItems ds
  Tame (data_.object ms) = TameMembers ms

  pub TameItems : Items → Type 0
  TameItems data_.no_items = ⊤
  TameItems (data_.item d ds) = Tame d × TameItems ds

  pub TameMembers : Members → Type 0
  TameMembers data_.no_members = ⊤
  TameMembers (data_.member k d ms) = IsUtf8 k × Tame d × TameMembers ms

mutual
  tame_numbers : (d : Data) → Tame d → tree.HasNumbers (outline d)
  tame_numbers data_.null h = tt
  tame_numbers (data_.boolean b) h = tt
  tame_numbers (data_.number (data_.unsigned n)) h = IsNumber-decimal n h
  tame_numbers (data_.number (data_.negative z)) h = absurd h
  tame_numbers (data_.number (data_.float x)) h = absurd h
  tame_numbers (data_.string s) h = tt
  tame_numbers (data_.array ds) h = tame_items_numbers ds h
  tame_numbers (data_.object ms) h = tame_members_numbers ms h

  tame_items_numbers : (ds : Items) → TameItems ds → tree.ItemsHaveNumbers (items_outline ds)
  tame_items_numbers data_.no_items h = tt
  tame_items_numbers (data_.item d ds) h = (tame_numbers d h.0, tame_items_numbers ds h.1)

  tame_members_numbers : (ms : Members) → TameMembers ms → tree.MembersHaveNumbers (members_outline ms)
  tame_members_numbers data_.no_members h = tt
  tame_members_numbers (data_.member k d ms) h = (tame_numbers d h.1, tame_members_numbers ms h.2)

comma_utf8 : (later : Bool) → IsUtf8 (comma_if later)
comma_utf8 true = IsUtf8-are_ascii (44 ∷ []) refl
comma_utf8 false = IsUtf8-are_ascii [] refl

mutual
  tame_utf8 : (d : Data) → Tame d → IsUtf8 (compact_text d)
  tame_utf8 data_.null h = IsUtf8-are_ascii (110 ∷ 117 ∷ 108 ∷ 108 ∷ []) refl
  tame_utf8 (data_.boolean b) h = IsUtf8-boolean b
  tame_utf8 (data_.number (data_.unsigned n)) h = IsUtf8-from_ascii (decimal n) (IsAscii-decimal n h)
  tame_utf8 (data_.number (data_.negative z)) h = absurd h
  tame_utf8 (data_.number (data_.float x)) h = absurd h
  tame_utf8 (data_.string s) h = IsUtf8-quoted s h
  tame_utf8 (data_.array ds) h = IsUtf8-append (91 ∷ []) (items_text false ds) (IsUtf8-are_ascii (91 ∷ []) refl) (tame_items_utf8 false ds h)
  tame_utf8 (data_.object ms) h = IsUtf8-append (123 ∷ []) (members_text false ms) (IsUtf8-are_ascii (123 ∷ []) refl) (tame_members_utf8 false ms h)

  tame_items_utf8 : (later : Bool) (ds : Items) → TameItems ds → IsUtf8 (items_text later ds)
  tame_items_utf8 later data_.no_items h = IsUtf8-are_ascii (93 ∷ []) refl
  tame_items_utf8 later (data_.item d ds) h =
      IsUtf8-append (comma_if later) _ (comma_utf8 later) (IsUtf8-append (compact_text d) _ (tame_utf8 d h.0) (tame_items_utf8 true ds h.1))

  tame_members_utf8 : (later : Bool) (ms : Members) → TameMembers ms → IsUtf8 (members_text later ms)
  tame_members_utf8 later data_.no_members h = IsUtf8-are_ascii (125 ∷ []) refl
  tame_members_utf8 later (data_.member k d ms) h =
      IsUtf8-append (comma_if later) _ (comma_utf8 later)
      (IsUtf8-append (quoted k) _ (IsUtf8-quoted k h.0)
      (IsUtf8-append (58 ∷ []) _ (IsUtf8-are_ascii (58 ∷ []) refl) (IsUtf8-append (compact_text d) _ (tame_utf8 d h.1) (tame_members_utf8 true ms h.2))))

-- the text of a value and a newline is read as the value
pub value_read : (d : Data) → Tame d → of_json (outline d) ≡ Some d → data_.depth d ≤ max_depth → Reads (compact_text d ++ 10 ∷ []) d
value_read d h same low = (
  IsUtf8-append (compact_text d) (10 ∷ []) (tame_utf8 d h) (IsUtf8-are_ascii (10 ∷ []) refl),
  text_read d (tame_numbers d h) same low,
)
