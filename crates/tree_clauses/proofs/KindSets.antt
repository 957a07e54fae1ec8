-- Sets of one kind, and what is in both of two sets.
use Rattle.std.proofs.Common.{◌≡◌, ◌&&◌, IsTrue, refl}
use Rattle.feature_trees.specs.declared.kind.Kind.{Kind}
use Rattle.feature_trees.specs.declared.kind.Kind.TheVariants.{Absent, Reg, Link, Special, Dir}
use Rattle.feature_trees.specs.declared.kind.Special.TheVariants.{Fifo, Socket, Block, Char}
use Rattle.feature_trees.specs.declared.kind.Kinds.{Kinds}
use Rattle.feature_trees.specs.Kinds.{has, both, of}

pub has_both : (a b : Kinds) (k : Kind) → has (both a b) k ≡ (has a k && has b k)
has_both a b Absent = refl
has_both a b Reg = refl
has_both a b Link = refl
has_both a b (Special Fifo) = refl
has_both a b (Special Socket) = refl
has_both a b (Special Block) = refl
has_both a b (Special Char) = refl
has_both a b Dir = refl

pub of_absent : (k : Kind) → IsTrue (has (of Absent) k) → k ≡ Absent
of_absent Absent h = refl
of_absent Reg h = cc
of_absent Link h = cc
of_absent (Special Fifo) h = cc
of_absent (Special Socket) h = cc
of_absent (Special Block) h = cc
of_absent (Special Char) h = cc
of_absent Dir h = cc

pub of_reg : (k : Kind) → IsTrue (has (of Reg) k) → k ≡ Reg
of_reg Absent h = cc
of_reg Reg h = refl
of_reg Link h = cc
of_reg (Special Fifo) h = cc
of_reg (Special Socket) h = cc
of_reg (Special Block) h = cc
of_reg (Special Char) h = cc
of_reg Dir h = cc

pub of_dir : (k : Kind) → IsTrue (has (of Dir) k) → k ≡ Dir
of_dir Absent h = cc
of_dir Reg h = cc
of_dir Link h = cc
of_dir (Special Fifo) h = cc
of_dir (Special Socket) h = cc
of_dir (Special Block) h = cc
of_dir (Special Char) h = cc
of_dir Dir h = refl
