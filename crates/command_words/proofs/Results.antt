-- What equal answers say of what is in them.
use Rattle.std.proofs.Common.{◌≡◌, ℕ, Bool, true, false, Option, Some, None, Result, Ok, Err, sym, ap}
use Rattle.std.specs.Option.{is_some, unwrap_or}

pub differ : true ≡ false → ⊥
differ e = cc

pub is_no : {A : Type 0} {x : A} → ◌≡◌ {A = Option A} None (Some x) → ⊥
is_no e = differ (sym (ap is_some e))

pub in_some : {A : Type 0} {x y : A} → ◌≡◌ {A = Option A} (Some x) (Some y) → x ≡ y
in_some {A} {x} {y} e = ap (λ o. unwrap_or o x) e

abbrev is_fault : {A : Type 0} → Result A ℕ → Bool
is_fault (Ok x) = false
is_fault (Err n) = true

pub no_fault : {A : Type 0} {n : ℕ} {x : A} → ◌≡◌ {A = Result A ℕ} (Err n) (Ok x) → ⊥
no_fault e = differ (ap is_fault e)

abbrev pub ok_value : {A : Type 0} → A → Result A ℕ → A
ok_value other (Ok x) = x
ok_value other (Err n) = other

abbrev pub fault_of : {A : Type 0} → ℕ → Result A ℕ → ℕ
fault_of other (Ok x) = other
fault_of other (Err n) = n
