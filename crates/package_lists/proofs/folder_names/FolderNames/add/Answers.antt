use Rattle.std.proofs.Common.{◌≡◌, ℕ, List, [], ◌∷◌, Some, false, sym, ap, subst, ◌∙◌}
use Rattle.std.specs.Prelude.{if◌then◌else◌}
use Rattle.std.specs.BTreeMap.{UpdatesBy}
use Rattle.std.specs.Str.{bytes_eq}
use Rattle.package_lists.specs.Below.{with_name, with_names}
use Rattle.package_lists.specs.FolderNames.{names_at}
use Rattle.script_names.proofs.TextSets.{texts, key_cmp}
use Rattle.package_lists.proofs.NamesBelow.{adds_name}
use Rattle.package_lists.proofs.folder_names.FolderNames.add.Goals as goal

pub returns : goal.returns
returns c =
    let old = c.args.self.now in
    let mid = c.take-names.new.self in
    let new = c.insert.new.self in
    let key = c.in_ok-key.key.items in
    let name = c.args.name.now in
    let items : key ≡ c.args.path.now = c.in_ok-key.ensures.items in
    let value : c.in_ok-names.names ≡ with_name (names_at old key) name =
    c.in_ok-names.ensures ∙ ap (λ l. with_name l name) (c.take-names.ensures.names ∙ ap (names_at old) (sym items)) in
    let first : (q : List ℕ) → bytes_eq key q ≡ false → names_at mid q ≡ names_at old q =
    λ q e. c.take-names.ensures.others q (subst (λ p. bytes_eq p q ≡ false) items e) in
    let second = subst (λ w. UpdatesBy key_cmp (λ k. texts key k.items) mid.names new (Some w)) value c.in_ok-insert.ensures.updates in
    subst (λ p. (other : List ℕ) → names_at (record { alloc = mid.alloc; names = new }) other ≡ with_names (names_at old other) (if bytes_eq p other then name ∷ [] else [])) items
    (adds_name old.names mid.names new key name first second)
