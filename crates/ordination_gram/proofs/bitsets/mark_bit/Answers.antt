-- `ordination_gram::bitsets::mark_bit` meets its contract: the shift loses nothing.
use Rattle.lists.proofs.Base.{◌%◌, ◌^◌, arith}
use native.Mathlib.Nat.{one-mul}
use lib.Pow.{shl_exact}
use Rattle.ordination_gram.proofs.bitsets.mark_bit.Goals as goal

pub returns : goal.returns
returns c = let k = c.args.c % 64 in rw (shl_exact {a = 1} 1 k 64 (omega arith) (omega arith), one-mul (2 ^ k))
