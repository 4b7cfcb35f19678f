-- `judge_printing::hexadecimal::put_hex` meets its contract. What is written with the digits that are left is the same at every turn.
use Rattle.lists.proofs.Base.{refl, sym, ◌∙◌}
use Rattle.judge_printing.proofs.Writing.{hex-next, hex-done, hex-wrote}
use Rattle.judge_printing.proofs.hexadecimal.put_hex.Goals as goal

pub loop-i-preserved : goal.loop-i-preserved
loop-i-preserved c = sym (hex-next _ _ _ _ _ _ c.loop-i-test.true c.digit_of.ensures) ∙ c.loop-i.invariant

pub returns : goal.returns
returns c = hex-wrote _ _ _ _ (sym (hex-done _ _ _ _ _ c.loop-i-test.false) ∙ c.loop-i.invariant) refl
