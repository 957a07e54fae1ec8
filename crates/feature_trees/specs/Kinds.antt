-- Sets of kinds.
use Rattle.std.specs.Prelude.{Bool, true, false, ◌&&◌, ◌||◌}
use Rattle.feature_trees.specs.declared.kind.Kind.{Kind}
use Rattle.feature_trees.specs.declared.kind.Kind.TheVariants.{Absent, Reg, Link, Special, Dir}
use Rattle.feature_trees.specs.declared.kind.Special.TheVariants.{Fifo, Socket, Block, Char}
use Rattle.feature_trees.specs.declared.kind.Kinds.{Kinds}

-- whether a kind is in a set
abbrev pub has : Kinds → Kind → Bool
has s Absent = s.absent
has s Reg = s.reg
has s Link = s.link
has s (Special Fifo) = s.fifo
has s (Special Socket) = s.socket
has s (Special Block) = s.block
has s (Special Char) = s.char
has s Dir = s.dir

-- the empty set
abbrev pub none : Kinds
none = record {
  absent = false;
  reg = false;
  link = false;
  fifo = false;
  socket = false;
  block = false;
  char = false;
  dir = false;
}

-- the set of one kind alone
abbrev pub of : Kind → Kinds
of Absent = record none { absent = true }
of Reg = record none { reg = true }
of Link = record none { link = true }
of (Special Fifo) = record none { fifo = true }
of (Special Socket) = record none { socket = true }
of (Special Block) = record none { block = true }
of (Special Char) = record none { char = true }
of Dir = record none { dir = true }

-- the set of the four special kinds
abbrev pub special : Kinds
special = record none { fifo = true; socket = true; block = true; char = true }

-- the set of all kinds
abbrev pub all : Kinds
all = record {
  absent = true;
  reg = true;
  link = true;
  fifo = true;
  socket = true;
  block = true;
  char = true;
  dir = true;
}

-- all kinds but one
abbrev pub but : Kind → Kinds
but Absent = record all { absent = false }
but Reg = record all { reg = false }
but Link = record all { link = false }
but (Special Fifo) = record all { fifo = false }
but (Special Socket) = record all { socket = false }
but (Special Block) = record all { block = false }
but (Special Char) = record all { char = false }
but Dir = record all { dir = false }

-- the kinds that are in both sets
abbrev pub both : Kinds → Kinds → Kinds
both a b = record {
  absent = a.absent && b.absent;
  reg = a.reg && b.reg;
  link = a.link && b.link;
  fifo = a.fifo && b.fifo;
  socket = a.socket && b.socket;
  block = a.block && b.block;
  char = a.char && b.char;
  dir = a.dir && b.dir;
}

-- the kinds that are in one of two sets, or in both
abbrev pub either : Kinds → Kinds → Kinds
either a b = record {
  absent = a.absent || b.absent;
  reg = a.reg || b.reg;
  link = a.link || b.link;
  fifo = a.fifo || b.fifo;
  socket = a.socket || b.socket;
  block = a.block || b.block;
  char = a.char || b.char;
  dir = a.dir || b.dir;
}

-- two kinds
abbrev pub two : Kind → Kind → Kinds
two k l = either (of k) (of l)

-- three kinds
abbrev pub three : Kind → Kind → Kind → Kinds
three k l m = either (of k) (two l m)
