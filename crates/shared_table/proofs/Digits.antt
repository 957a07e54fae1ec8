-- Powers of 16, their order, and what a change may cost.
use Rattle.std.proofs.Common.{◌≡◌, ℕ, zero, suc, ◌+◌, ◌^◌, ◌<◌, ◌≤◌, List, length, Option, Some, ⊎_elim, sym, ap, subst, ◌∙◌, arith}
use Rattle.std.proofs.Math.Nat.{pow-suc, pow-le-pow_right}
use Rattle.std.proofs.lemmas.Bool.{cases_lt}
use Rattle.std.specs.declared.alloc.Global.{Global}
use Rattle.std.specs.declared.rc.Rc.{Rc}
use Rattle.shared_table.specs.Cost.{TakesFewSteps}
use Rattle.shared_table.specs.Roots.{items_in, IsRoot}
use Rattle.shared_table.specs.declared.node.Node.{Node}

pub below_power : (h : ℕ) → h < 16 ^ h
below_power zero = omega arith
below_power (suc h) = omega (arith, below_power h, pow-suc 16 h)

digits_above : (w h n d : ℕ) → w ≡ 16 ^ h → w ≤ n → n < 16 ^ d → h < d
digits_above w h n d e l f = ⊎_elim (λ (k : h < d). k) (λ (k : d ≤ h). absurd (omega (arith, pow-le-pow_right {n = 16} (omega arith) k))) (cases_lt h d)

-- a list with a root takes no more steps than two more than the root's height
pub few_steps : {A : Type 0} (n w : ℕ) (held : Option (Rc (Node A) Global)) (root : Rc (Node A) Global) (items : List A) (before after : ℕ) → held ≡ Some root → IsRoot n w held → items_in held ≡ items → after ≤ before + (root.value.0 + 2) → TakesFewSteps items before after
few_steps n w held root items before after is whole see cost digits p l =
    let kept : IsRoot n w (Some root) = subst (IsRoot n w) is whole in
    let same : root.value.1 ≡ items = ap items_in (sym is) ∙ see in
    let low : root.value.0 < digits = digits_above w root.value.0 n digits kept.1 kept.2 (omega (arith, kept.0, ap length same)) in omega arith
