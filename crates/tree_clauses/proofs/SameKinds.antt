-- Two sets of kinds are the same where the tests of their parts say so.
use Rattle.std.proofs.Common.{◌≡◌, ◌&&◌, Bool, true, false, refl}
use Rattle.std.proofs.Math.Bool.{beq}
use Rattle.std.proofs.lemmas.Bool.{and_parts}
use Rattle.feature_trees.specs.declared.kind.Kinds.{Kinds}

beq_same : (a b : Bool) → beq a b ≡ true → a ≡ b
beq_same true true e = refl
beq_same true false e = absurd (cc e)
beq_same false true e = absurd (cc e)
beq_same false false e = refl

pub same_kinds : (a b : Kinds) → (beq a.absent b.absent && (beq a.reg b.reg && (beq a.link b.link && (beq a.fifo b.fifo && (beq a.socket b.socket && (beq a.block b.block && (beq a.char b.char && (beq a.dir b.dir)))))))) ≡ true → a ≡ b
same_kinds a b t =
    let absent = and_parts (beq a.absent b.absent) _ t in
    let reg = and_parts (beq a.reg b.reg) _ absent.1 in
    let link = and_parts (beq a.link b.link) _ reg.1 in
    let fifo = and_parts (beq a.fifo b.fifo) _ link.1 in
    let socket = and_parts (beq a.socket b.socket) _ fifo.1 in
    let block = and_parts (beq a.block b.block) _ socket.1 in
    let char = and_parts (beq a.char b.char) (beq a.dir b.dir) block.1 in
    let same_absent = beq_same a.absent b.absent absent.0 in
    let same_reg = beq_same a.reg b.reg reg.0 in
    let same_link = beq_same a.link b.link link.0 in
    let same_fifo = beq_same a.fifo b.fifo fifo.0 in
    let same_socket = beq_same a.socket b.socket socket.0 in
    let same_block = beq_same a.block b.block block.0 in
    let same_char = beq_same a.char b.char char.0 in
    let same_dir = beq_same a.dir b.dir char.1 in
    λ i. record {
      absent = same_absent i;
      reg = same_reg i;
      link = same_link i;
      fifo = same_fifo i;
      socket = same_socket i;
      block = same_block i;
      char = same_char i;
      dir = same_dir i;
    }
