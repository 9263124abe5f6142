use native.Mathlib.Omega.{arith}
use Rattle.components.proofs.FlagLaws.{flagging_low, flagging_next, flagging_end, alone_end}
use Rattle.components.proofs.flag.Goals as goal

pub returns-then-len-le-ALONE : goal.returns-then-len-le-ALONE
returns-then-len-le-ALONE g c = let a = c.requires.1.after in let e = c.len.ensures in alone_end c.requires.0 c.requires.1 (omega arith)

pub flag_member-requires : goal.flag_member-requires
flag_member-requires g c = let l = c.requires.0.laid in let q = c.requires.0.ends in let f = flagging_low c.requires.0 c.requires.1 in let z = c.loop-i-test.true in let s = c.loop-i.invariant.size in (omega arith, omega arith)

pub loop-i-preserved : goal.loop-i-preserved
loop-i-preserved g c = let a = c.requires.1.after in let e = c.len.ensures in rw c.flag_member.ensures (flagging_next c.requires.0 c.requires.1 c.loop-i.i c.loop-i.invariant c.loop-i-test.true (omega arith))

pub returns : goal.returns
returns g c = flagging_end c.requires.0 c.requires.1 c.loop-i.i c.loop-i.invariant c.loop-i-test.false
