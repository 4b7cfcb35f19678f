-- `judge_printing::hexadecimal::put_hex` meets its contract. What is written with the digits that are left is the same at every turn.
use Rattle.lists.proofs.Base.{◌+◌, ◌-◌, ◌≡◌, sets}
use Rattle.judge_printing.specs.Hex.{hex}
use Rattle.judge_printing.proofs.hexadecimal.put_hex.Given as goal

abbrev pub invariant-loop-i : goal.invariant-loop-i
invariant-loop-i l = sets l.out (l.at + l.i) (hex (l.count - l.i) l.v) ≡ sets l.initial.out l.at (hex l.count l.v)
