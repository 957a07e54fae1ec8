-- Where the names of a path lead.
use Rattle.std.specs.Prelude.{Bool, true, false}
use Rattle.feature_trees.specs.declared.kind.Kind.{Kind}
use Rattle.feature_trees.specs.declared.kind.Kind.TheVariants as kind

-- whether a kind is a link
abbrev pub is_link : Kind → Bool
is_link kind.Absent = false
is_link kind.Reg = false
is_link kind.Link = true
is_link (kind.Special s) = false
is_link kind.Dir = false
