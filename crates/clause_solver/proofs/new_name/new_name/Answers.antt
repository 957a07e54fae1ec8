use Rattle.std.proofs.Common.{◌≡◌, ◌∙◌, ◌+◌, ◌-◌, ◌/◌, ◌<◌, ◌≤◌, ℕ, length, ap, refl, arith, List, [], Err, true, false, length-append}
use Rattle.script_names.specs.Names.{is_name}
use Rattle.clause_solver.specs.declared.variable.Variable.{Variable}
use Rattle.clause_solver.specs.NewNames.{beginning, two_to, IsNew}
use Rattle.clause_solver.proofs.NewNames.{AllLetters, letters_more, beginning_most, half_room, none_left}
use Rattle.clause_solver.proofs.new_name.new_name.Goals as goal

pub loop-i-init : goal.loop-i-init
loop-i-init c =
    let e = c.new-bytes.ensures.items in
    record {
      long = rw e refl;
      letters = rw e tt;
      half = (32, omega arith, refl);
      most = rw (e, c.len-left.ensures) (beginning_most [] c.args.vars.now);
      few = let n = c.len-left.ensures in let small = c.requires in omega (arith, n, small);
    }

pub loop-i-preserved : goal.loop-i-preserved
loop-i-preserved c =
    let inv = c.loop-i.invariant in
    let n = inv.half.0 in
    let at = inv.half.1 in
    let w = c.loop-i-test.true in
    let m : ℕ = n - 1 in
    let q : n ≡ m + 1 = omega (arith, at, w) in
    let room = half_room n c.loop-i.room inv.half.2 m q in
    let half : c.loop-i.room / 2 ≡ two_to m = omega (arith, room) in
    let items = c.in_ok-push.ensures.items in
    record {
      long = ap length items ∙ length-append c.loop-i.bytes.items _ ∙ ap (λ k. k + 1) inv.long;
      letters = rw items (letters_more c.loop-i.bytes.items c.next_letter-letter.result.0 inv.letters c.next_letter-letter.ensures.letter);
      half = (m, omega (arith, at, q), half);
      most = rw items (rw c.deref.ensures.value at c.next_letter-letter.ensures.most);
      few = c.next_letter-letter.ensures.few;
    }

left : (vars : List Variable) (z : List ℕ) (i n room : ℕ) → 32 ≤ i → i + n ≡ 32 → room ≡ two_to n → beginning z vars < room → length z ≡ i → AllLetters z → IsNew vars z
left vars z i n room w at r few long letters = none_left z vars n room (omega (arith, w, at)) r few (omega (arith, w, at, long)) letters

pub returns-in-Ok : goal.returns-in-Ok
returns-in-Ok c =
    let inv = c.loop-i.invariant in
    let most = inv.most in
    let room = inv.few in
    let few : beginning c.loop-i.bytes.items c.args.vars.now < c.loop-i.room = omega (arith, most, room) in
    let new = left c.args.vars.now c.loop-i.bytes.items c.loop-i.i inv.half.0 c.loop-i.room c.loop-i-test.false inv.half.1 inv.half.2 few inv.long inv.letters in
    rw (c.in-Ok.ensures.ok, c.deref-2.ensures.value) new

pub unreachable-requires : goal.unreachable-requires
unreachable-requires c =
    let inv = c.loop-i.invariant in
    let most = inv.most in
    let room = inv.few in
    let few : beginning c.loop-i.bytes.items c.args.vars.now < c.loop-i.room = omega (arith, most, room) in
    let new = left c.args.vars.now c.loop-i.bytes.items c.loop-i.i inv.half.0 c.loop-i.room c.loop-i-test.false inv.half.1 inv.half.2 few inv.long inv.letters in
    let bad : is_name c.deref-2.result.now ≡ false = c.in-Err-Bad.ensures.bad.0 (ap Err c.in-Err-Bad.field-0-is) in
    let bad' : is_name c.loop-i.bytes.items ≡ false = rw c.deref-2.ensures.value at bad in
    let good : is_name c.loop-i.bytes.items ≡ true = new.name in
    cc
